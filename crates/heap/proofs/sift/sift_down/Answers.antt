use Rattle.std.proofs.Common.{length, arith}
use Rattle.std.proofs.lemmas.List.Sorted.{IsPermutation-trans}
use Rattle.calendar.specs.Agenda.{before}
use Rattle.calendar.proofs.Entries.{strict}
use Rattle.heap.proofs.Heaps.{sink_rests, sink_steps}
use Rattle.heap.proofs.Piles.{tested_ge}
use Rattle.heap.proofs.sift.sift_down.Goals as goal

pub returns-then-ge : goal.returns-then-ge
returns-then-ge c =
    let l = c.loop-at in
    let child = c.first_child-child.result in
    let later = tested_ge l.heap child l.at _ (omega arith) (omega arith) c.if-ge.ensures in
    record { shuffled = l.invariant.1; heaped = sink_rests before strict l.heap l.at child (length l.heap) later c.first_child-child.ensures.least l.invariant.2 }

pub loop-at-preserved : goal.loop-at-preserved
loop-at-preserved c =
    let l = c.loop-at in
    let child = c.first_child-child.result in
    let is = c.first_child-child.ensures in
    let zs = c.swap.new.self in
    let told = c.swap.ensures in
    let sooner = tested_ge l.heap child l.at _ (omega arith) (omega arith) c.if-ge.ensures in
    (omega arith, IsPermutation-trans _ l.heap zs l.invariant.1 told.permutation, rw told.len (sink_steps before strict l.heap zs l.at child (length l.heap) is.child.0 is.child.1 is.child.2 (told.by_index.0, told.by_index.1, told.by_index.2) sooner is.least l.invariant.2))
