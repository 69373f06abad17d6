use Rattle.std.proofs.Common.{ℕ, ◌%◌, None, Some, rules, tests}
use Rattle.std.proofs.lemmas.Iterator.{first_from_Range}
use Rattle.wheel.specs.Roster.{Least}
use Rattle.wheel.proofs.roster.first_wait.Goals as goal

pub returns : goal.returns
returns c =
    let sets = c.args.roster.now in
    first_from_Range _ _ _ _ (λ t. (g : ℕ) × Least sets (t % 65) (Some g)) (λ t. Least sets (t % 65) None) c.find.ensures.ran
    (λ x q h. search (rules, tests))
    (λ x q h. (search rules, search (rules, tests)))
