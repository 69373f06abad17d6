use borrow.Author.Rules.{rules}
use Rattle.examples.proofs.Tables.{examples, inviting}
use Rattle.examples.proofs.worked_examples.Goals as goal

pub returns-then-nines_agree : goal.returns-then-nines_agree
returns-then-nines_agree c = record { agrees = search rules; examples = examples; inviting = inviting }
