use Rattle.std.proofs.Common.{◌≡◌, length}
use Rattle.calendar.specs.Agenda.{with_waiting}
use Rattle.tick.specs.Due.{applied, left_over}
use Rattle.tick.proofs.due.take_due.Given as goal

abbrev pub invariant-loop-calendar : goal.invariant-loop-calendar
invariant-loop-calendar g l =
    let L = g.F.Family.logic in
    let a = g.C.Calendar.meaning l.calendar in
    let a₀ = g.C.Calendar.meaning l.initial.calendar in
    (applied L l.tick l.drives a.waiting ≡ applied L l.tick l.initial.drives a₀.waiting)
    × (with_waiting a (left_over l.tick a.waiting) ≡ with_waiting a₀ (left_over l.tick a₀.waiting))

abbrev pub decreases-loop-calendar : goal.decreases-loop-calendar
decreases-loop-calendar g l = length (g.C.Calendar.meaning l.calendar).waiting
