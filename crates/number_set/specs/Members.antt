-- Which numbers stand in a set, a bit for each. Assumes nothing.
use Rattle.std.specs.Prelude.{◌≡◌, ℕ, ◌/◌, ◌%◌, ◌<◌, Bool, true, false, ◌&&◌, List, length, Some, None, Option, ◌==◌, nat_lt, slice_index}
use Rattle.std.specs.Int.{bit_at}

-- a set, by its words, and the word that says which of them are not 0
pub record Numbers : Type 0 where
  pub words : List ℕ
  pub used : ℕ

-- the bit that says whether
abbrev pub flag : Bool → ℕ
flag true = 1
flag false = 0

-- n stands in the set: a word has 64 numbers
abbrev pub member : List ℕ → ℕ → Bool
member ws n = bit_at (slice_index ws (n / 64)) (n % 64) == 1

-- `used` has a bit for each of the words that is not 0, and no other
abbrev pub Summed : List ℕ → ℕ → Type 0
Summed ws used = (w : ℕ) → w < 64 → bit_at used w ≡ flag (nat_lt w 16 && nat_lt 0 (slice_index ws w))

-- what holds of every set that a call takes or answers
abbrev pub Sound : Numbers → Type 0
Sound s = (length s.words ≡ 16) × Summed s.words s.used

-- o is the least number of the set, or there is none
abbrev pub Least : List ℕ → Option ℕ → Type 0
Least ws None = (n : ℕ) → n < 1024 → member ws n ≡ false
Least ws (Some n) = (n < 1024) × (member ws n ≡ true) × ((m : ℕ) → m < n → member ws m ≡ false)
