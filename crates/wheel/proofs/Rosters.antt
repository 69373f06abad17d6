-- What a change of one bit does to a roster. Assumes nothing.
use Rattle.std.proofs.Common.{◌≡◌, ℕ, zero, suc, ◌<◌, Bool, true, false, cond, ◌&&◌, eqb, ◌≢◌, List, [], ◌∷◌, length, get_or, set, Some, None, Option, sym, refl, ap, ◌∙◌, ⊎_elim, arith}
use Rattle.std.specs.Prelude.{slice_get, is_some}
use Rattle.std.proofs.lemmas.Bool.{and_left, and_parts, cond-false, cases_eq, cases_Bool, eqb-true, eq-eqb, ne_eqb}
use Rattle.std.proofs.lemmas.Option.{slice_get-get_or}
use Rattle.number_set.specs.Members.{Numbers, member}
use Rattle.number_set.specs.Members as number
use Rattle.wheel.specs.Roster.{has_member, present, Least}

pub no_match : (a b x y : ℕ) → ((a ≡ x) × (b ≡ y) → ⊥) → (eqb a x && eqb b y) ≡ false
no_match a b x y n = ⊎_elim (λ p. let m = and_parts (eqb a x) (eqb b y) p in absurd (n (eqb-true a x m.0, eqb-true b y m.1))) (λ p. p) (cases_Bool (eqb a x && eqb b y))

same_place : {X : Type 0} (xs : List X) (i : ℕ) (x : X) → i < length xs → slice_get (set xs i x) i ≡ Some x
same_place [] i x h = absurd (omega arith)
same_place (y ∷ ys) zero x h = refl
same_place (y ∷ ys) (suc i) x h = same_place ys i x (omega arith)

other_place : {X : Type 0} (xs : List X) (i j : ℕ) (x : X) → j ≢ i → slice_get (set xs i x) j ≡ slice_get xs j
other_place [] i j x n = refl
other_place (y ∷ ys) zero zero x n = absurd (n refl)
other_place (y ∷ ys) zero (suc j) x n = refl
other_place (y ∷ ys) (suc i) zero x n = refl
other_place (y ∷ ys) (suc i) (suc j) x n = other_place ys i j x (λ e. n (ap suc e))

-- what a row's set answers, of the roster
module _ (sets : List Numbers) (row : ℕ) (d : Numbers) (in-rows : row < length sets) where
  pub row_member : (g : ℕ) → present sets row g ≡ member (get_or sets row d).words g
  row_member g = ap (λ o. has_member o g) (slice_get-get_or sets row d in-rows)

  pub row_least : (o : Option ℕ) → number.Least (get_or sets row d).words o → Least sets row o
  row_least None least = λ g k. row_member g ∙ least g k
  row_least (Some g) least = (least.0, row_member g ∙ least.1, λ h k. row_member h ∙ least.2 h k)

  -- the row of a set that was changed, and the others
  pub set_there : (gate : ℕ) (s : Numbers) (on : Bool) → ((m : ℕ) → m < 1024 → member s.words m ≡ cond (eqb m gate) on (member (get_or sets row d).words m)) →
      (r g : ℕ) → g < 1024 → present (set sets row s) r g ≡ cond (eqb r row && eqb g gate) on (present sets r g)
  set_there gate s on told r g k = ⊎_elim
      (λ e. ap (λ z. has_member (slice_get (set sets row s) z) g) e
      ∙ ap (λ o. has_member o g) (same_place sets row s in-rows)
      ∙ told g k
      ∙ ap (cond (eqb g gate) on) (sym (row_member g) ∙ ap (λ z. present sets z g) (sym e))
      ∙ ap (λ b. cond (b && eqb g gate) on (present sets r g)) (sym (eq-eqb r row e)))
      (λ n. ap (λ o. has_member o g) (other_place sets row r s n)
      ∙ sym (cond-false (eqb r row && eqb g gate) on (present sets r g) (and_left (eqb r row) (eqb g gate) (ne_eqb r row n))))
      (cases_eq r row)

pub least_some : (sets : List Numbers) (row : ℕ) (o : Option ℕ) → Least sets row o → is_some o ≡ true → (g : ℕ) × Least sets row (Some g)
least_some sets row (Some g) least e = (g, least)
least_some sets row None least e = absurd (cc)

pub least_none : (sets : List Numbers) (row : ℕ) (o : Option ℕ) → Least sets row o → is_some o ≡ false → Least sets row None
least_none sets row None least e = least
least_none sets row (Some g) least e = absurd (cc)
