-- Where a set's least number stands. Assumes nothing.
use Rattle.std.proofs.Common.{◌≡◌, ℕ, ◌+◌, ◌*◌, ◌/◌, ◌%◌, ◌<◌, Bool, true, false, ◌&&◌, eqb, ltb, List, get_or, Some, sym, refl, ap, ◌∙◌, ⊎_elim, arith}
use Rattle.std.proofs.lemmas.Bool.{cases_lt, lt-ltb, ltb-true, ltb-false}
use Rattle.std.specs.Int.{bit_at}
use Rattle.number_set.specs.Members.{flag, member, Summed, Least}
use Rattle.std.proofs.lemmas.Nat.Bits.{bit_at-zero}

word_none : (x w : ℕ) → w < 16 → flag (ltb w 16 && ltb 0 x) ≡ 0 → x ≡ 0
word_none x w l h = by_test (ltb 0 x) refl (ap (λ b. flag (b && ltb 0 x)) (sym (lt-ltb w 16 l)) ∙ h)
  where
    by_test : (b : Bool) → ltb 0 x ≡ b → flag b ≡ 0 → x ≡ 0
    by_test true e f = absurd (omega arith)
    by_test false e f = omega (arith, ltb-false 0 x e)

word_some : (x w : ℕ) → flag (ltb w 16 && ltb 0 x) ≡ 1 → (w < 16) × (0 < x)
word_some x w h = by_test (ltb w 16) (ltb 0 x) refl refl h
  where
    by_test : (a b : Bool) → ltb w 16 ≡ a → ltb 0 x ≡ b → flag (a && b) ≡ 1 → (w < 16) × (0 < x)
    by_test true true d e f = (ltb-true w 16 d, ltb-true 0 x e)
    by_test true false d e f = absurd (omega arith)
    by_test false b d e f = absurd (omega arith)

module _ (ws : List ℕ) (used : ℕ) (was : Summed ws used) where
  no_bit : (n : ℕ) → n < 1024 → bit_at used (n / 64) ≡ 0 → member ws n ≡ false
  no_bit n h e =
      let empty : get_or ws (n / 64) 0 ≡ 0 = word_none (get_or ws (n / 64) 0) (n / 64) (omega arith) (sym (was (n / 64) (omega arith)) ∙ e) in
      ap (λ z. eqb (bit_at z (n % 64)) 1) empty ∙ ap (λ z. eqb z 1) (bit_at-zero (n % 64))

  pub some_word : (w : ℕ) → w < 64 → bit_at used w ≡ 1 → (w < 16) × (0 < get_or ws w 0)
  some_word w h e = word_some (get_or ws w 0) w (sym (was w h) ∙ e)

  pub least_number : (w b : ℕ) → w < 16 → b < 64 → ((j : ℕ) → j < w → bit_at used j ≡ 0) → bit_at (get_or ws w 0) b ≡ 1 → ((j : ℕ) → j < b → bit_at (get_or ws w 0) j ≡ 0) → Least ws (Some (w * 64 + b))
  least_number w b p q low e least =
      let word : (w * 64 + b) / 64 ≡ w = omega arith in
      let bit : (w * 64 + b) % 64 ≡ b = omega arith in (
        omega arith,
        ap (λ z. eqb (bit_at (get_or ws z 0) ((w * 64 + b) % 64)) 1) word ∙ ap (λ z. eqb (bit_at (get_or ws w 0) z) 1) bit ∙ ap (λ z. eqb z 1) e,
        λ m h. ⊎_elim
            (λ l. no_bit m (omega arith) (low (m / 64) l))
            (λ l. let same : m / 64 ≡ w = omega arith in ap (λ z. eqb (bit_at (get_or ws z 0) (m % 64)) 1) same ∙ ap (λ z. eqb z 1) (least (m % 64) (omega arith)))
            (cases_lt (m / 64) w),
      )
