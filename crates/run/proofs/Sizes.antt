-- A run takes less than all memory.
use native.Mathlib.Nat.{mod-le}
use Rattle.std.proofs.Common.{ℕ, ◌+◌, ◌-◌, ◌*◌, ◌%◌, ◌<◌, ◌≤◌, max, arith, lit<, lit≤, w8, w16, w32, w64}
use prog.Memory.{up, align}
use prog.Align.{align-bytes, align_w}
use mir.Syntax.{Ty, Width, w128}
use mir.Val.{bytes}

-- rounding up adds less than the step, or nothing at step 0
pub up_le : (k e : ℕ) → up k e ≤ e + k
up_le k e = omega (arith, mod-le (k - e % k) k)

bytes_le : (w : Width) → bytes w ≤ 16
bytes_le w8 = omega arith
bytes_le w16 = omega arith
bytes_le w32 = omega arith
bytes_le w64 = omega arith
bytes_le w128 = omega arith

pub align_le : (τ : Ty) → align τ ≤ 16
align_le τ = omega (arith, align-bytes τ, bytes_le (align_w τ))

-- one field more: its step is at most 16, and its size at most m
next : (k e b n m : ℕ) → k ≤ 16 → e ≤ b → n ≤ m → up k e + n ≤ b + 16 + m
next k e b n m = sum (up k e) e k b n m (up_le k e)
  where
    sum : (u e k b n m : ℕ) → u ≤ e + k → k ≤ 16 → e ≤ b → n ≤ m → u + n ≤ b + 16 + m
    sum u e k b n m p q r s = omega arith

-- all fields, at the step of the whole
last : (k e b : ℕ) → k ≤ 16 → e ≤ b → b + 16 < 9223372036854775808 → up k e < 9223372036854775808
last k e b = sum (up k e) e k b (up_le k e)
  where
    sum : (u e k b : ℕ) → u ≤ e + k → k ≤ 16 → e ≤ b → b + 16 < 9223372036854775808 → u < 9223372036854775808
    sum u e k b p q r s = omega arith

most : (a b : ℕ) → a ≤ 16 → b ≤ 16 → max a b ≤ 16
most a b h k = omega arith

-- a calendar of size c, a wiring of 24,590 bytes, two flags, four tables of 1,024 values of size s, and two numbers
pub run_fits : (a a' c v s : ℕ) → a ≤ 16 → a' ≤ 16 → c ≤ 1048576 → v ≤ 16 → s ≤ 64 →
    up (max a (max 2 (max 1 (max 1 (max v (max v (max v (max v 8)))))))) (up 8 (up 4 (up v (up v (up v (up v (up 1 (up 1 (up 2 (up a' 0 + c) + 24590) + 1) + 1) + 1024 * s) + 1024 * s) + 1024 * s) + 1024 * s) + 4) + 8) < 9223372036854775808
run_fits a a' c v s ha ha' hc hv hs =
    let table : 1024 * s ≤ 65536 = omega arith in
    let step = most a (max 2 (max 1 (max 1 (max v (max v (max v (max v 8))))))) ha
    (most 2 _ (lit≤ tt) (most 1 _ (lit≤ tt) (most 1 _ (lit≤ tt) (most v _ hv (most v _ hv (most v _ hv (most v 8 hv (lit≤ tt)))))))) in
    let e₁ = next a' 0 0 c 1048576 ha' (lit≤ tt) hc in
    let e₂ = next 2 _ _ 24590 24590 (lit≤ tt) e₁ (lit≤ tt) in
    let e₃ = next 1 _ _ 1 1 (lit≤ tt) e₂ (lit≤ tt) in
    let e₄ = next 1 _ _ 1 1 (lit≤ tt) e₃ (lit≤ tt) in
    let e₅ = next v _ _ (1024 * s) 65536 hv e₄ table in
    let e₆ = next v _ _ (1024 * s) 65536 hv e₅ table in
    let e₇ = next v _ _ (1024 * s) 65536 hv e₆ table in
    let e₈ = next v _ _ (1024 * s) 65536 hv e₇ table in
    let e₉ = next 4 _ _ 4 4 (lit≤ tt) e₈ (lit≤ tt) in
    let e = next 8 _ _ 8 8 (lit≤ tt) e₉ (lit≤ tt) in
    last _ _ _ step e (lit< tt)
