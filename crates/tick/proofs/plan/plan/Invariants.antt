use Rattle.std.proofs.Common.{◌≡◌, ℕ, ◌<◌, ◌≤◌, length, get_or}
use Rattle.netlist.specs.Looked.{contents}
use Rattle.tick.specs.Plans.{result_at, plans}
use Rattle.tick.proofs.plan.plan.Given as goal

abbrev pub invariant-loop-g : goal.invariant-loop-g
invariant-loop-g g l =
    let L = g.F.Family.logic in
    let C = contents l.net in
    (length l.planned ≡ length l.initial.planned)
    × ((k : ℕ) → k < l.g → get_or l.planned k L.unset ≡ result_at L C l.levels k)
    × ((k : ℕ) → l.g ≤ k → get_or l.planned k L.unset ≡ get_or l.initial.planned k L.unset)
    × (g.C.Calendar.meaning l.calendar ≡ plans L C l.levels l.initial.planned l.moment.tick l.g (g.C.Calendar.meaning l.initial.calendar))
