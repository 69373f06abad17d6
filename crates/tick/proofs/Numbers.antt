-- A number that no kind of gate has gives unset.
use Rattle.std.proofs.Common.{◌≡◌, ℕ, ◌<◌, true, ltb, length, refl, ap, ⊎_elim, arith}
use Rattle.std.proofs.lemmas.Bool.{or_cases, ltb-true}
use Rattle.std.proofs.lemmas.List.{get_or_past}
use Rattle.logic.specs.Logic.{Logic}
use Rattle.netlist.specs.Answers.{outside}
use Rattle.signal.specs.Circuit.{operate, results}

pub no_kind : {V : Type 0} (L : Logic V) (a b : V) (n : ℕ) → outside 1 11 n ≡ true → operate L n a b ≡ L.unset
no_kind L a b n t = ⊎_elim
    (λ low. let below : n < 1 = ltb-true n 1 low in let zero : n ≡ 0 = omega arith in ap (λ k. operate L k a b) zero)
    (λ high. let above : 11 < n = ltb-true 11 n high in let twelve : length (results L a b) ≡ 12 = refl in get_or_past (results L a b) n L.unset (omega arith))
    (or_cases (ltb n 1) (ltb 11 n) t)
