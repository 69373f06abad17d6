use Rattle.std.proofs.Common.{◌≡◌, length}
use Rattle.calendar.specs.Agenda.{with_waiting}
use Rattle.calendar.specs.Table.{later}
use Rattle.calendar.specs.Due.{applied}
use Rattle.calendar.proofs.client.take_due.Given as goal

abbrev pub invariant-loop-calendar : goal.invariant-loop-calendar
invariant-loop-calendar g l =
    let a = g.C.Calendar.meaning l.calendar in
    let a₀ = g.C.Calendar.meaning l.initial.calendar in
    (applied l.tick l.levels a.waiting ≡ applied l.tick l.initial.levels a₀.waiting)
    × (with_waiting a (later l.tick a.waiting) ≡ with_waiting a₀ (later l.tick a₀.waiting))

abbrev pub decreases-loop-calendar : goal.decreases-loop-calendar
decreases-loop-calendar g l = length (g.C.Calendar.meaning l.calendar).waiting
