use Rattle.std.proofs.Common.{ap, ◌∙◌}
use Rattle.calendar.specs.Agenda.{first}
use Rattle.heap.proofs.Piles.{heap_head}
use Rattle.heap.proofs.pile.Pile.first.Goals as goal

pub returns : goal.returns
returns c = c.copied.ensures ∙ c.first.ensures.value ∙ heap_head c.self.inside.entries.now c.self.inside.len c.self.invariant.0 c.self.invariant.1 ∙ ap (λ p. first p.waiting) c.self.view_is
