-- Taking the numbers of a set one by one, from the least. Assumes nothing.
use Rattle.std.proofs.Common.{◌≡◌, ℕ, zero, suc, ◌+◌, ◌-◌, ◌<◌, ◌≤◌, Bool, true, false, cond, eqb, List, Some, None, refl, ap, ◌∙◌, ⊎_elim, arith}
use Rattle.std.proofs.lemmas.Bool.{eq-eqb, ne_eqb, both_ways, cond-true, cond-false, cases_eq, cases_lt}
use Rattle.number_set.specs.Members.{member, Least}

low_from : List ℕ → ℕ → ℕ → ℕ
low_from words i zero = i
low_from words i (suc m) = cond (member words i) i (low_from words (i + 1) m)

record Lowest (words : List ℕ) (i m r : ℕ) : Type 0 where
  from : i ≤ r
  within : r ≤ i + m
  below : (h : ℕ) → i ≤ h → h < r → member words h ≡ false
  stands : r < i + m → member words r ≡ true

lowest : (words : List ℕ) (i m : ℕ) → Lowest words i m (low_from words i m)
unfolding low_from
lowest words i zero = record { from = omega arith; within = omega arith; below = λ h a b. absurd (omega arith); stands = λ lt. absurd (omega arith) }
lowest words i (suc m) = by (member words i) refl (lowest words (i + 1) m)
  where
    by : (b : Bool) → member words i ≡ b → Lowest words (i + 1) m (low_from words (i + 1) m) → Lowest words i (suc m) (cond b i (low_from words (i + 1) m))
    by true e l = record { from = omega arith; within = omega arith; below = λ h a b. absurd (omega arith); stands = λ lt. e }
    by false e l = record {
      from = omega (arith, l.from);
      within = omega (arith, l.within);
      below = λ h a b. ⊎_elim (λ same. ap (member words) same ∙ e) (λ ne. l.below h (omega arith) b) (cases_eq h i);
      stands = λ lt. l.stands (omega arith);
    }

-- the least number of a set, or 1,024
pub low : List ℕ → ℕ
low words = low_from words 0 1024

low_is : (words : List ℕ) → Lowest words 0 1024 (low words)
unfolding low
low_is words = lowest words 0 1024

pub low_most : (words : List ℕ) → low words ≤ 1024
low_most words = (low_is words).within

pub low_under : (words : List ℕ) (h : ℕ) → h < low words → member words h ≡ false
low_under words h lt = (low_is words).below h (omega arith) lt

pub low_none : (words : List ℕ) → Least words None → low words ≡ 1024
low_none words none = ⊎_elim
    (λ lt. absurd (both_ways (member words (low words)) (none (low words) lt) ((low_is words).stands (omega arith))))
    (λ ge. let most = low_most words in omega arith)
    (cases_lt (low words) 1024)

module _ (words : List ℕ) (g : ℕ) (first : Least words (Some g)) where
  pub low_some : low words ≡ g
  low_some = ⊎_elim
      (λ lt. absurd (both_ways (member words (low words)) (first.2 (low words) lt) ((low_is words).stands (omega (arith, first.0)))))
      (λ ge. ⊎_elim
      (λ gt. absurd (both_ways (member words g) (low_under words g gt) first.1))
      (λ le. omega arith)
      (cases_lt g (low words)))
      (cases_lt (low words) g)

  module _ (words' : List ℕ) (sets : (m : ℕ) → m < 1024 → member words' m ≡ cond (eqb m g) false (member words m)) where
    pub out_same : member words' g ≡ false
    out_same = sets g first.0 ∙ cond-true (eqb g g) false (member words g) (eq-eqb g g refl)

    pub out_other : (h : ℕ) → h < 1024 → (h ≡ g → ⊥) → member words' h ≡ member words h
    out_other h lt ne = sets h lt ∙ cond-false (eqb h g) false (member words h) (ne_eqb h g ne)

    -- the least that is left lies behind the number that was taken
    pub low_more : g < low words'
    low_more = ⊎_elim
        (λ lt. lt)
        (λ ge. absurd (both_ways (member words' (low words')) (gone (low words') ge) ((low_is words').stands (omega (arith, first.0)))))
        (cases_lt g (low words'))
      where
        gone : (h : ℕ) → h ≤ g → member words' h ≡ false
        gone h le = ⊎_elim
            (λ same. ap (member words') same ∙ out_same)
            (λ ne. out_other h (omega (arith, first.0)) ne ∙ first.2 h (omega arith))
            (cases_eq h g)

    -- so that a measure falls
    pub low_nearer : 1024 - low words' < 1024 - low words
    low_nearer = let a = low_some in let b = low_more in omega (arith, first.0)
