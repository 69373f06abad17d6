-- The digits of the pull ranges keep the laws of names.
use Rattle.std.specs.Prelude.{◌≡◌, ℕ, zero, suc, ◌+◌, ◌-◌, ◌<◌, ◌≤◌, true, ◌&&◌, ◌≢◌, List, [], ◌∷◌, Some, None, nat_le, slice_index, refl}
use Rattle.std.proofs.Common.{sym, ◌∙◌, ⊎_elim, arith}
use Rattle.std.proofs.Math.Decide.{dec_le}
use Rattle.logic.proofs.Back.{read_back}
use Rattle.logic.specs.Naming.{NamingLaws}
use Rattle.pull_ranges.specs.Ranges.{range_back, range_from, pull_none}
use Rattle.pull_ranges.specs.Pulls.{pull, range_of, range_spelt, of_spelt, spelt, pull_names}
use Rattle.pull_ranges.specs.declared.range.Pull.{Pull}
use Rattle.pull_ranges.specs.declared.range.Range.{Range}
use Rattle.std.proofs.lemmas.Bool.{cond-true, cond-false, cases_Bool}
use Rattle.std.proofs.lemmas.Bool.Decides.{nat_tests}

range_back_spelt : (r : Range) → range_spelt (48 + r.low) (48 + r.high) ≡ Some r
range_back_spelt r =
    let e : (nat_le 48 (48 + r.low) && nat_le 48 (48 + r.high)) ≡ true = grind (arith, nat_tests) in
    cond-true _ (range_of (48 + r.low - 48) (48 + r.high - 48)) None e ∙ range_back r _ _ (omega arith) (omega arith)

range_from_spelt : (l h : ℕ) (r : Range) → range_spelt l h ≡ Some r → (l ≡ 48 + r.low) × (h ≡ 48 + r.high)
range_from_spelt l h r e = ⊎_elim
    (λ t. let x = range_from (dec_le (l - 48) (h - 48)) (dec_le (h - 48) 7) r (sym (cond-true _ (range_of (l - 48) (h - 48)) None t) ∙ e) in
    let p : 48 ≤ l = grind (arith, nat_tests) in
    let q : 48 ≤ h = grind (arith, nat_tests) in
    omega arith)
    (λ f. let n : None ≡ Some r = sym (cond-false _ (range_of (l - 48) (h - 48)) None f) ∙ e in (cc, cc))
    (cases_Bool (nat_le 48 l && nat_le 48 h))

back : (a : Pull) → of_spelt (spelt a) ≡ Some a
back a = rw (range_back_spelt a.up, range_back_spelt a.down)

none : (s : List ℕ) → ((a : Pull) → spelt a ≢ s) → of_spelt s ≡ None
none [] f = refl
none (a ∷ []) f = refl
none (a ∷ (b ∷ [])) f = refl
none (a ∷ (b ∷ (c ∷ []))) f = refl
none (a ∷ (b ∷ (c ∷ (d ∷ [])))) f = pull_none _ _ (λ u v e g.
    let x = range_from_spelt a b u e in
    let y = range_from_spelt c d v g in
    f (pull u v) (cc))
none (a ∷ (b ∷ (c ∷ (d ∷ (e ∷ s))))) f = refl

digit : (a : Pull) (i : ℕ) → i < 4 → (0x21 ≤ slice_index (spelt a) i) × (slice_index (spelt a) i ≤ 0x7E)
digit a zero h = let p = a.up.ordered in let q = a.up.small in omega arith
digit a (suc zero) h = let q = a.up.small in omega arith
digit a (suc (suc zero)) h = let p = a.down.ordered in let q = a.down.small in omega arith
digit a (suc (suc (suc zero))) h = let q = a.down.small in omega arith
digit a (suc (suc (suc (suc i)))) h = absurd (omega arith)

pub pull_spelling : NamingLaws pull_names
pull_spelling = record {
  width_from = omega arith;
  width_to = omega arith;
  name_long = λ a. refl;
  name_byte = digit;
  name_equal = read_back spelt of_spelt back;
  name_back = back;
  name_none = none;
}
