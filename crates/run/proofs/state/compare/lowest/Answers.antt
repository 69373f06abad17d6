use Rattle.std.proofs.Common.{◌≡◌, ℕ, true, false, get_or, arith, rules, tests}
use Rattle.std.proofs.lemmas.Iterator.{first_from_Range, serves_from_Range}
use Rattle.run.specs.Compared.{contradicts}
use Rattle.run.proofs.Comparing.{lowest_is}
use Rattle.run.proofs.state.compare.lowest.Goals as goal

pub returns : goal.returns
returns g c =
    let L = g.F.Family.logic in
    let test = λ (n : ℕ). contradicts L (get_or c.args.first.now n L.unset) (get_or c.args.second.now n L.unset) in
    lowest_is test 0 c.args.nets c.args.nets (omega arith) c.find.result
    (first_from_Range _ _ _ _ (λ n. test n ≡ true) (λ n. test n ≡ false) c.find.ensures.ran
    (λ x q k. search (rules, tests))
    (λ x q k. (search rules, search (rules, tests))))
