-- A fact about every one of the nine values is a test of all of them, which antt computes.
use Rattle.std.specs.Prelude.{◌≡◌, Bool, true, false, refl}
use Rattle.std.proofs.Common.{arith}
use Rattle.nine_values.specs.declared.nine.Nine.{Nine}
use Rattle.nine_values.specs.declared.nine.Nine.TheVariants.{U, X, Zero, One, Z, W, L, H, Dash}

abbrev pub both : Bool → Bool → Bool
both true b = b
both false b = false

abbrev pub imp : Bool → Bool → Bool
imp true b = b
imp false b = true

left : (a b : Bool) → both a b ≡ true → a ≡ true
left true b t = refl
left false b t = t

right : (a b : Bool) → both a b ≡ true → b ≡ true
right true b t = t
right false b t = grind arith

pub so : (a b : Bool) → imp a b ≡ true → a ≡ true → b ≡ true
so true b t h = t
so false b t h = grind arith

abbrev pub all : (Nine → Bool) → Bool
all f = both (f U) (both (f X) (both (f Zero) (both (f One) (both (f Z) (both (f W) (both (f L) (both (f H) (f Dash))))))))

pub at : (f : Nine → Bool) → all f ≡ true → (a : Nine) → f a ≡ true
at f t U = left (f U) _ t
at f t X = left (f X) _ (right (f U) _ t)
at f t Zero = left (f Zero) _ (right (f X) _ (right (f U) _ t))
at f t One = left (f One) _ (right (f Zero) _ (right (f X) _ (right (f U) _ t)))
at f t Z = left (f Z) _ (right (f One) _ (right (f Zero) _ (right (f X) _ (right (f U) _ t))))
at f t W = left (f W) _ (right (f Z) _ (right (f One) _ (right (f Zero) _ (right (f X) _ (right (f U) _ t)))))
at f t L = left (f L) _ (right (f W) _ (right (f Z) _ (right (f One) _ (right (f Zero) _ (right (f X) _ (right (f U) _ t))))))
at f t H = left (f H) _ (right (f L) _ (right (f W) _ (right (f Z) _ (right (f One) _ (right (f Zero) _ (right (f X) _ (right (f U) _ t)))))))
at f t Dash = right (f H) _ (right (f L) _ (right (f W) _ (right (f Z) _ (right (f One) _ (right (f Zero) _ (right (f X) _ (right (f U) _ t)))))))

pub at2 : (f : Nine → Nine → Bool) → all (λ a. all (f a)) ≡ true → (a b : Nine) → f a b ≡ true
at2 f t a b = at (f a) (at (λ a. all (f a)) t a) b

pub at3 : (f : Nine → Nine → Nine → Bool) → all (λ a. all (λ b. all (f a b))) ≡ true → (a b c : Nine) → f a b c ≡ true
at3 f t a b c = at (f a b) (at2 (λ a b. all (f a b)) t a b) c
