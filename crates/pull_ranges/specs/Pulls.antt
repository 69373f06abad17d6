-- The family of pull ranges, as its rules have it.
use Rattle.std.specs.Prelude.{ℕ, ◌+◌, ◌-◌, ◌*◌, ◌/◌, ◌%◌, ◌≤◌, max, Bool, cond, ◌&&◌, List, [], ◌∷◌, Some, None, Option, ◌==◌, nat_le, nat_lt}
use Rattle.std.proofs.Math.Decide.{dec_le}
use Rattle.std.proofs.Common.{arith}
use Rattle.logic.specs.Logic.{Logic}
use Rattle.logic.specs.Naming.{Naming}
use Rattle.nine_values.specs.Nines.{nines, is}
use Rattle.nine_values.specs.declared.nine.Nine.{Nine}
use Rattle.nine_values.specs.declared.nine.Nine.TheVariants.{X, Zero, One}
use Rattle.pull_ranges.specs.declared.range.Range.{Range}
use Rattle.pull_ranges.specs.declared.range.Pull.{Pull}

abbrev pub range : (l h : ℕ) → l ≤ h → h ≤ 7 → Range
range l h p q = record { low = l; high = h; ordered = p; small = q }

abbrev pub pull : Range → Range → Pull
pull u d = record { up = u; down = d }

-- The ranges that constants and gates give: none, perhaps strong, anything, weak, strong.
abbrev pub r00 : Range
r00 = range 0 0 (omega arith) (omega arith)

abbrev pub r06 : Range
r06 = range 0 6 (omega arith) (omega arith)

abbrev pub r07 : Range
r07 = range 0 7 (omega arith) (omega arith)

abbrev pub r33 : Range
r33 = range 3 3 (omega arith) (omega arith)

abbrev pub r66 : Range
r66 = range 6 6 (omega arith) (omega arith)

-- A value reads 1 if up low exceeds down high, 0 if down low exceeds up high, else X.
abbrev pub reading : Pull → Nine
reading a = cond (nat_lt a.down.high a.up.low) One (cond (nat_lt a.up.high a.down.low) Zero X)

-- What a gate gives for a level: 0066 for 0, 6600 for 1, 0606 for X.
abbrev pub shape : Nine → Pull
shape x = cond (is x Zero) (pull r00 r66) (cond (is x One) (pull r66 r00) (pull r06 r06))

-- TRI with enable 1 gives data's reading in that form, with enable 0 it gives 0000.
-- With enable X it gives 0600 for data 1, 0006 for data 0, 0606 for data X.
abbrev pub tri_shape : Nine → Nine → Pull
tri_shape d e =
    cond (is e One) (shape d)
    (cond (is e Zero) (pull r00 r00)
    (cond (is d One) (pull r06 r00) (cond (is d Zero) (pull r00 r06) (pull r06 r06))))

-- Resolve takes the larger of each number.
abbrev pub larger : Range → Range → Range
larger a b =
    let p = a.ordered in let q = b.ordered in let r = a.small in let s = b.small in
    range (max a.low b.low) (max a.high b.high) (omega arith) (omega arith)

abbrev pub resolve_pull : Pull → Pull → Pull
resolve_pull a b = pull (larger a.up b.up) (larger a.down b.down)

-- b lies within a
abbrev pub within : Range → Range → Bool
within b a = nat_le a.low b.low && nat_le b.high a.high

-- A value refines another exactly when both its ranges lie within the other's.
abbrev pub refines_pull : Pull → Pull → Bool
refines_pull b a = within b.up a.up && within b.down a.down

-- Only a range of one number has no other range within it.
abbrev pub definite_pull : Pull → Bool
definite_pull a = a.up.low == a.up.high && a.down.low == a.down.high

-- The code is up low × 512 + up high × 64 + down low × 8 + down high.
abbrev pub code_pull : Pull → ℕ
code_pull a = a.up.low * 512 + a.up.high * 64 + a.down.low * 8 + a.down.high

-- A range whose low end is not above its high end, nor that above 7.
abbrev pub range_if : {l h : ℕ} → Dec (l ≤ h) → Dec (h ≤ 7) → Option Range
range_if {l} {h} (yes p) (yes q) = Some (range l h p q)
range_if (yes p) (no q) = None
range_if (no p) (yes q) = None
range_if (no p) (no q) = None

abbrev pub range_of : ℕ → ℕ → Option Range
range_of l h = range_if (dec_le l h) (dec_le h 7)

abbrev pub pull_if : Option Range → Option Range → Option Pull
pull_if (Some u) (Some d) = Some (pull u d)
pull_if (Some u) None = None
pull_if None (Some d) = None
pull_if None None = None

abbrev pub of_code_pull : ℕ → Option Pull
of_code_pull n = pull_if (range_of (n / 512) (n / 64 % 8)) (range_of (n / 8 % 8) (n % 8))

abbrev pub pulls : Logic Pull
pulls = record {
  unset = pull r07 r07;
  up = pull r33 r00;
  down = pull r00 r33;
  not = λ a. shape (nines.not (reading a));
  and = λ a b. shape (nines.and (reading a) (reading b));
  or = λ a b. shape (nines.or (reading a) (reading b));
  xor = λ a b. shape (nines.xor (reading a) (reading b));
  tri = λ d e. tri_shape (reading d) (reading e);
  resolve = resolve_pull;
  refines = refines_pull;
  definite = definite_pull;
  code = code_pull;
  of_code = of_code_pull;
}

-- A name is the four digits, of which 0 is 48.
abbrev pub range_spelt : ℕ → ℕ → Option Range
range_spelt l h = cond (nat_le 48 l && nat_le 48 h) (range_of (l - 48) (h - 48)) None

abbrev pub of_spelt : List ℕ → Option Pull
of_spelt [] = None
of_spelt (a ∷ []) = None
of_spelt (a ∷ (b ∷ [])) = None
of_spelt (a ∷ (b ∷ (c ∷ []))) = None
of_spelt (a ∷ (b ∷ (c ∷ (d ∷ [])))) = pull_if (range_spelt a b) (range_spelt c d)
of_spelt (a ∷ (b ∷ (c ∷ (d ∷ (e ∷ s))))) = None

abbrev pub spelt : Pull → List ℕ
spelt a = (48 + a.up.low) ∷ ((48 + a.up.high) ∷ ((48 + a.down.low) ∷ ((48 + a.down.high) ∷ [])))

abbrev pub pull_names : Naming Pull
pull_names = record { width = 4; name = spelt; of_name = of_spelt }
