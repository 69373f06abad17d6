use Rattle.std.proofs.Common.{◌≡◌, ℕ, ◌<◌, false, length, get_or}
use Rattle.calendar.specs.Agenda.{with_waiting}
use Rattle.netlist.specs.Looked.{contents}
use Rattle.number_set.specs.Members.{member}
use Rattle.tick.specs.Due.{applied, left_over}
use Rattle.fanout.specs.Seek.{out_of}
use Rattle.fanout.proofs.due.take_touched.Given as goal

abbrev pub invariant-loop-calendar : goal.invariant-loop-calendar
invariant-loop-calendar g l =
    let L = g.F.Family.logic in
    let a = g.C.Calendar.meaning l.calendar in
    let a₀ = g.C.Calendar.meaning l.initial.calendar in
    (applied L l.tick l.drives a.waiting ≡ applied L l.tick l.initial.drives a₀.waiting)
    × (with_waiting a (left_over l.tick a.waiting) ≡ with_waiting a₀ (left_over l.tick a₀.waiting))
    × ((k : ℕ) → k < l.wiring.net.head.gates → member l.nets.words (out_of (contents l.wiring.net) k) ≡ false → get_or l.drives k L.unset ≡ get_or l.initial.drives k L.unset)

abbrev pub decreases-loop-calendar : goal.decreases-loop-calendar
decreases-loop-calendar g l = length (g.C.Calendar.meaning l.calendar).waiting
