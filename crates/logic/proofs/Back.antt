-- What is read back differs: a function with a way back gives different results for different values.
use Rattle.std.proofs.Common.{◌≡◌, Some, Option, ap}

pub read_back : {V W : Type 0} (f : V → W) (g : W → Option V) → ((a : V) → g (f a) ≡ Some a) → (a b : V) → f a ≡ f b → a ≡ b
read_back f g back a b e =
    let p = back a in
    let q = back b in
    let s = ap g e in
    cc
