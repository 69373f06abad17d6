-- Which gates stand in a row, a set for each. Assumes nothing.
use Rattle.std.specs.Prelude.{◌≡◌, ℕ, ◌%◌, ◌<◌, ◌≤◌, Bool, true, false, List, Some, None, Option, slice_get, MatchOption}
use Rattle.number_set.specs.Members.{Numbers, member}

-- n stands in the set, if there is one
abbrev pub has_member : Option Numbers → ℕ → Bool
has_member None n = false
has_member (Some s) n = member s.words n

-- gate g stands in row r
abbrev pub present : List Numbers → ℕ → ℕ → Bool
present sets r g = has_member (slice_get sets r) g

-- o is the least gate of row r, or there is none
abbrev pub Least : List Numbers → ℕ → Option ℕ → Type 0
Least sets r None = (g : ℕ) → g < 1024 → present sets r g ≡ false
Least sets r (Some g) = (g < 1024) × (present sets r g ≡ true) × ((h : ℕ) → h < g → present sets r h ≡ false)

-- o is the first tick from t on, and before n, for which a gate stands, or there is none
abbrev pub FirstWait : List Numbers → ℕ → ℕ → Option ℕ → Type 0
FirstWait sets t n o = MatchOption o
    ((u : ℕ) → t ≤ u → u < n → Least sets (u % 65) None)
    (λ v. (t ≤ v) × (v < n) × ((g : ℕ) × Least sets (v % 65) (Some g)) × ((u : ℕ) → t ≤ u → u < v → Least sets (u % 65) None))
