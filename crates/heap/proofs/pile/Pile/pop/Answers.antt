use Rattle.std.proofs.Common.{◌-◌, ap, sym, ◌∙◌, arith}
use Rattle.calendar.specs.Agenda.{before, entry, first, rest}
use Rattle.calendar.proofs.Entries.{strict}
use Rattle.heap.proofs.Piles.{popped_items}
use Rattle.heap.proofs.pile.Pile.pop.Goals as goal

pub returns-clause-answer : goal.returns-clause-answer
returns-clause-answer c =
    let xs = c.self.inside.entries.now in
    let n = c.self.inside.len in
    let l = c.in_ok-last.last in
    let swap = c.swap.ensures in
    let told = c.sift_down.ensures in
    sym (ap first (popped_items before strict xs c.swap.new.self n l (l - 0) (omega arith) (omega arith) c.self.invariant.0 swap.len (swap.by_index.0, swap.by_index.1, swap.by_index.2) (entry 0 0 0) (swap.by_index.3 (entry 0 0 0)) c.self.invariant.1 c.sift_down.new.heap told.shuffled)) ∙ ap (λ p. first p.waiting) c.self.view_is

pub returns-clause-items : goal.returns-clause-items
returns-clause-items c =
    let xs = c.self.inside.entries.now in
    let n = c.self.inside.len in
    let l = c.in_ok-last.last in
    let swap = c.swap.ensures in
    let told = c.sift_down.ensures in
    sym (ap rest (popped_items before strict xs c.swap.new.self n l (l - 0) (omega arith) (omega arith) c.self.invariant.0 swap.len (swap.by_index.0, swap.by_index.1, swap.by_index.2) (entry 0 0 0) (swap.by_index.3 (entry 0 0 0)) c.self.invariant.1 c.sift_down.new.heap told.shuffled)) ∙ ap (λ p. rest p.waiting) c.self.view_is
