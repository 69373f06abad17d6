use Rattle.std.proofs.Common.{◌≡◌, ◌<◌, length}
use Rattle.std.specs.List.Sorted.{IsPermutation}
use Rattle.calendar.specs.Agenda.{before}
use Rattle.heap.proofs.Heaps.{Rising}
use Rattle.heap.proofs.sift.sift_up.Given as goal

abbrev pub invariant-loop-at : goal.invariant-loop-at
invariant-loop-at l = (length l.heap ≡ length l.initial.heap) × (l.at < length l.heap) × IsPermutation l.initial.heap l.heap × Rising before l.heap l.at (length l.heap)

abbrev pub decreases-loop-at : goal.decreases-loop-at
decreases-loop-at l = l.at
