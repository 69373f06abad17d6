-- The letters of the nine values keep the laws of names.
use Rattle.std.specs.Prelude.{◌≡◌, ℕ, ◌≢◌, List, [], ◌∷◌, Some, None, nat_lt, refl}
use Rattle.std.proofs.Common.{ap, arith}
use Rattle.std.proofs.lemmas.Bool.Decides.{nat_tests}
use Rattle.logic.specs.Naming.{NamingLaws}
use Rattle.logic.proofs.Back.{read_back}
use Rattle.nine_values.specs.Each.{both, at}
use Rattle.nine_values.specs.Nines.{nine_names, byte9, spelt9}
use Rattle.nine_values.specs.declared.nine.Nine.{Nine}
use Rattle.nine_values.specs.declared.nine.Nine.TheVariants.{U, X, Zero, One, Z, W, L, H, Dash}

back : (a : Nine) → spelt9 (byte9 a ∷ []) ≡ Some a
back U = refl
back X = refl
back Zero = refl
back One = refl
back Z = refl
back W = refl
back L = refl
back H = refl
back Dash = refl

none : (s : List ℕ) → ((a : Nine) → (byte9 a ∷ []) ≢ s) → spelt9 s ≡ None
none [] f = refl
none (c ∷ []) f =
    let g : (a : Nine) → byte9 a ≢ c = λ a e. f a (ap (λ b. b ∷ []) e) in
    grind (arith, g U, g X, g Zero, g One, g Z, g W, g L, g H, g Dash)
none (c ∷ (d ∷ s)) f = refl

pub nine_spelling : NamingLaws nine_names
nine_spelling = record {
  width_from = omega arith;
  width_to = omega arith;
  name_long = λ a. refl;
  name_byte = λ a i h.
      let t = at (λ a. both (nat_lt 0x20 (byte9 a)) (nat_lt (byte9 a) 0x7F)) refl a in
      let z : i ≡ 0 = omega arith in
      rw z (grind (arith, nat_tests, t));
  name_equal = read_back nine_names.name spelt9 back;
  name_back = back;
  name_none = none;
}
