use Rattle.std.proofs.Common.{◌≡◌, ℕ, ◌≤◌, length, eqb, leb, ap, ◌∙◌, arith}
use Rattle.std.proofs.lemmas.Bool.Decides.{nat_tests}
use Rattle.heap.proofs.Piles.{length_part}
use Rattle.heap.proofs.pile.Pile.is_full.Goals as goal

filled : (n m k : ℕ) → n ≤ m → k ≡ n → eqb n m ≡ leb m k
filled n m k p q = grind (arith, nat_tests)

pub returns : goal.returns
returns c =
    let xs = c.self.inside.entries.now in
    let n = c.self.inside.len in
    filled n (length xs) _ c.self.invariant.0 (length_part xs n c.self.invariant.0) ∙ ap (λ p. leb p.room (length p.waiting)) c.self.view_is
