-- The bytes that are kept of a line, when a byte comes. Assumes nothing.
use Rattle.std.proofs.Common.{◌≡◌, ℕ, ◌<◌, ◌≤◌, List, [], ◌∷◌, ◌++◌, length, take, sym, ◌∙◌, arith, length-append}
use Rattle.std.proofs.lemmas.List.{take_all, take-append-le}

-- there is room for the byte
pub kept_more : (items : List ℕ) (b : ℕ) → length items < 33 → items ++ (b ∷ []) ≡ take 33 (items ++ (b ∷ []))
kept_more items b less = let long = length-append items (b ∷ []) in sym (take_all 33 (items ++ (b ∷ [])) (omega arith))

-- there is none
pub kept_full : (items : List ℕ) (b : ℕ) → length items ≤ 33 → 33 ≤ length items → items ≡ take 33 (items ++ (b ∷ []))
kept_full items b few more = sym (take-append-le 33 items (b ∷ []) more ∙ take_all 33 items few)
