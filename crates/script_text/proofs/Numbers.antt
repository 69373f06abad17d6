-- A number, digit by digit. Assumes nothing.
use Rattle.std.proofs.Common.{◌≡◌, ℕ, ◌^◌, ◌<◌, ◌≤◌, List, drop, arith}
use native.Mathlib.Nat.{pow-le-pow_right}
use Rattle.script_text.specs.Commands.{digits}

-- the digits that are left decide, and those before are few
pub record Sofar (ds : List ℕ) (i n : ℕ) : Type 0 where
  pub left : digits 0 ds ≡ digits n (drop i ds)
  pub small : n < 10 ^ i

module _ (ds : List ℕ) (i n : ℕ) (sofar : Sofar ds i n) where
  pub room : i < 8 → n < 10000000
  room few = let up : i ≤ 7 = omega arith in let one : 1 ≤ 10 = omega arith in let k : 10 ^ i ≤ 10 ^ 7 = pow-le-pow_right one up in omega (arith, sofar.small)
