-- Values are equal when their numbers are, and a range comes back from its two numbers.
use Rattle.std.specs.Prelude.{◌≡◌, ℕ, ◌≤◌, Some, None, Option, ◌≢◌, refl}
use Rattle.std.proofs.Common.{ap, arith}
use mathlib.Core.HLevel.{is_prop→PathP}
use Rattle.std.proofs.Math.Bridge.{le_prop}
use Rattle.std.proofs.Math.Decide.{dec_le}
use Rattle.pull_ranges.specs.Pulls.{range, range_if, range_of, pull_if}
use Rattle.pull_ranges.specs.declared.range.Pull.{Pull}
use Rattle.pull_ranges.specs.declared.range.Range.{Range}

pub same_range : (a b : Range) → a.low ≡ b.low → a.high ≡ b.high → a ≡ b
same_range a b e f = λ i. record {
  low = e i;
  high = f i;
  ordered = is_prop→PathP (λ j. e j ≤ f j) (λ j. le_prop) a.ordered b.ordered i;
  small = is_prop→PathP (λ j. f j ≤ 7) (λ j. le_prop) a.small b.small i;
}

pub same_pull : (a b : Pull) → a.up ≡ b.up → a.down ≡ b.down → a ≡ b
same_pull a b e f = λ i. record { up = e i; down = f i }

-- two numbers give their range
pub range_back : (r : Range) (l h : ℕ) → l ≡ r.low → h ≡ r.high → range_of l h ≡ Some r
range_back r l h e f =
    elim (dec_le l h) as (λ d. range_if d (dec_le h 7) ≡ Some r) [
      | yes p ↦ elim (dec_le h 7) as (λ d. range_if (yes p) d ≡ Some r) [
        | yes q ↦ ap (λ x. Some x) (same_range (range l h p q) r e f)
        | no n ↦ absurd (n (let q = r.small in omega arith))
      ]
      | no n ↦ absurd (n (let q = r.ordered in omega arith))
    ]

-- and a range that they give has them
pub range_from : {l h : ℕ} (p : Dec (l ≤ h)) (q : Dec (h ≤ 7)) (r : Range) → range_if p q ≡ Some r → (l ≡ r.low) × (h ≡ r.high)
range_from {l} {h} (yes p) (yes q) r e = let s : range l h p q ≡ r = cc in (ap (λ x. x.low) s, ap (λ x. x.high) s)
range_from (yes p) (no q) r e = (cc, cc)
range_from (no p) (yes q) r e = (cc, cc)
range_from (no p) (no q) r e = (cc, cc)

-- two ranges of which one is missing give no value
pub pull_none : (u d : Option Range) → ((x y : Range) → u ≡ Some x → d ≢ Some y) → pull_if u d ≡ None
pull_none (Some x) (Some y) f = absurd (f x y refl refl)
pull_none (Some x) None f = refl
pull_none None (Some y) f = refl
pull_none None None f = refl
