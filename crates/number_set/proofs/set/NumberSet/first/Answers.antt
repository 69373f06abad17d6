use Rattle.std.proofs.Common.{◌+◌, ◌*◌, Some, subst}
use Rattle.number_set.specs.Members.{Least, Sound}
use Rattle.number_set.proofs.Sets.{some_word, least_number}
use Rattle.number_set.proofs.set.NumberSet.first.Goals as goal

pub returns : goal.returns
returns c =
    let s = c.self.inside in
    let summed = c.self.invariant.1 in
    let w = c.first-word in
    let b = c.first-bit in
    let lowest = least_number s.words s.used summed w.result b.result (some_word s.words s.used summed w.result w.ensures.below w.ensures.set).0 b.ensures.below w.ensures.least b.ensures.set b.ensures.least in
    record {
      least = subst (λ n. Least n.words (Some (w.result * 64 + b.result))) c.self.view_is lowest;
      sound = subst Sound c.self.view_is c.self.invariant;
    }
