use Rattle.std.proofs.Common.{◌-◌, ◌/◌, length, arith}
use Rattle.std.proofs.lemmas.List.Sorted.{IsPermutation-trans}
use Rattle.calendar.specs.Agenda.{before}
use Rattle.calendar.proofs.Entries.{strict}
use Rattle.heap.proofs.Heaps.{rise_steps}
use Rattle.heap.proofs.Piles.{tested_ge}
use Rattle.heap.proofs.sift.sift_up.Goals as goal

pub loop-at-preserved : goal.loop-at-preserved
loop-at-preserved c =
    let l = c.loop-at in
    let q = (l.at - 1) / 2 in
    let zs = c.swap.new.self in
    let told = c.swap.ensures in
    let sooner = tested_ge l.heap l.at q _ (omega arith) (omega arith) c.if-ge.ensures in
    (omega arith, omega arith, IsPermutation-trans _ l.heap zs l.invariant.2 told.permutation, rw told.len (rise_steps before strict l.heap zs l.at q (length l.heap) (omega arith) (omega arith) (omega arith) (told.by_index.0, told.by_index.1, told.by_index.2) sooner l.invariant.3))
