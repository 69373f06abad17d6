use Rattle.std.proofs.Common.{◌+◌, ◌-◌, ap, ◌∙◌, arith, length-set}
use Rattle.calendar.specs.Order.{placed}
use Rattle.calendar.specs.Agenda.{before}
use Rattle.calendar.proofs.Entries.{strict}
use Rattle.heap.proofs.Piles.{pushed_items, room_left}
use Rattle.heap.proofs.pile.Pile.push.Goals as goal

pub bounds-self-inside-n : goal.bounds-self-inside-n
bounds-self-inside-n c = room_left c.self.inside.entries.now c.self.inside.len c.args.self.now c.self.invariant.0 c.self.view_is c.requires

pub slice_bounds-sift_up-end : goal.slice_bounds-sift_up-end
slice_bounds-sift_up-end c =
    let room = room_left c.self.inside.entries.now c.self.inside.len c.args.self.now c.self.invariant.0 c.self.view_is c.requires in
    omega (arith, length-set c.self.inside.entries.now c.self.inside.len c.args.e)

pub returns-clause-items : goal.returns-clause-items
returns-clause-items c =
    let xs = c.self.inside.entries.now in
    let n = c.self.inside.len in
    let room = room_left xs n c.args.self.now c.self.invariant.0 c.self.view_is c.requires in
    pushed_items before xs n ((n + 1) - 0) c.args.e room (omega arith) strict c.sift_up.new.heap _ c.sift_up.ensures.shuffled ∙ ap (λ p. placed before c.args.e p.waiting) c.self.view_is
