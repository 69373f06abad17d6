-- The nine values keep the laws of a family.
use Rattle.std.specs.Prelude.{◌≡◌, ℕ, Bool, true, ◌≢◌, Some, None, nat_lt, refl}
use Rattle.std.proofs.Common.{ap, arith}
use Rattle.std.proofs.lemmas.Bool.Decides.{nat_tests}
use Rattle.logic.specs.Logic.{Laws, RefinedBy, Monotone1, Monotone2}
use Rattle.logic.proofs.Back.{read_back}
use Rattle.nine_values.specs.Each.{imp, so, all, at, at2, at3}
use Rattle.nine_values.specs.Nines.{nines, found, code9, is, refines9, definite9, resolve9}
use Rattle.nine_values.specs.declared.nine.Nine.{Nine}
use Rattle.nine_values.specs.declared.nine.Nine.TheVariants.{U, X, Zero, One, Z, W, L, H, Dash}

back : (a : Nine) → found code9 (code9 a) ≡ Some a
back U = refl
back X = refl
back Zero = refl
back One = refl
back Z = refl
back W = refl
back L = refl
back H = refl
back Dash = refl

none : (n : ℕ) → ((a : Nine) → code9 a ≢ n) → found code9 n ≡ None
none n f = grind (arith, f U, f X, f Zero, f One, f Z, f W, f L, f H, f Dash)

same : (a b : Nine) → code9 a ≡ code9 b → a ≡ b
same = read_back code9 (found code9) back

is_same : (a b : Nine) → is a b ≡ true → a ≡ b
is_same a b t = same a b (grind (arith, nat_tests, t))

-- The test of refinement comes first: 27 pairs pass it, so 729 of the 6,561 cases are computed further.
monotone1 : (f : Nine → Nine) → all (λ a. all (λ b. imp (refines9 b a) (refines9 (f b) (f a)))) ≡ true → Monotone1 nines f
monotone1 f t a b h = so (refines9 b a) _ (at2 (λ a b. imp (refines9 b a) (refines9 (f b) (f a))) t a b) h

abbrev both_refined : (Nine → Nine → Nine) → Nine → Nine → Bool
both_refined f a b = all (λ c. all (λ d. imp (refines9 d c) (refines9 (f b d) (f a c))))

monotone2 : (f : Nine → Nine → Nine) → all (λ a. all (λ b. imp (refines9 b a) (both_refined f a b))) ≡ true → Monotone2 nines f
monotone2 f t a b c d h k =
    let in_b = so (refines9 b a) (both_refined f a b) (at2 (λ a b. imp (refines9 b a) (both_refined f a b)) t a b) h in
    so (refines9 d c) _ (at2 (λ c d. imp (refines9 d c) (refines9 (f b d) (f a c))) in_b c d) k

definite : (a : Nine) → ((b : Nine) → RefinedBy nines a b → b ≡ a) → definite9 a ≡ true
definite U f = let e : code9 X ≡ code9 U = ap code9 (f X refl) in grind arith
definite X f = let e : code9 Zero ≡ code9 X = ap code9 (f Zero refl) in grind arith
definite W f = let e : code9 Z ≡ code9 W = ap code9 (f Z refl) in grind arith
definite Zero f = refl
definite One f = refl
definite Z f = refl
definite L f = refl
definite H f = refl
definite Dash f = refl

pub nine_laws : Laws nines
nine_laws = record {
  code_fits = λ a. let t = at (λ a. nat_lt (code9 a) 65536) refl a in grind (arith, nat_tests, t);
  code_equal = same;
  code_back = back;
  code_none = none;
  ref_self = at (λ a. refines9 a a) refl;
  ref_anti = λ a b h k. is_same a b (so _ _ (so _ _ (at2 (λ a b. imp (refines9 b a) (imp (refines9 a b) (is a b))) refl a b) h) k);
  ref_trans = λ a b c h k. so _ _ (so _ _ (at3 (λ a b c. imp (refines9 b a) (imp (refines9 c b) (refines9 c a))) refl a b c) h) k;
  ref_unset = at (λ a. refines9 a U) refl;
  not_mono = monotone1 nines.not refl;
  and_mono = monotone2 nines.and refl;
  or_mono = monotone2 nines.or refl;
  xor_mono = monotone2 nines.xor refl;
  tri_mono = monotone2 nines.tri refl;
  resolve_mono = monotone2 resolve9 refl;
  resolve_comm = λ a b. is_same _ _ (at2 (λ a b. is (resolve9 a b) (resolve9 b a)) refl a b);
  resolve_assoc = λ a b c. is_same _ _ (at3 (λ a b c. is (resolve9 (resolve9 a b) c) (resolve9 a (resolve9 b c))) refl a b c);
  definite_only = λ a b h k. is_same b a (so _ _ (so _ _ (at2 (λ a b. imp (definite9 a) (imp (refines9 b a) (is b a))) refl a b) h) k);
  only_definite = definite;
}
