-- A trace as a list of its records. Assumes nothing.
use Rattle.std.proofs.Common.{◌≡◌, ℕ, zero, suc, ◌+◌, ◌*◌, ◌<◌, List, [], ◌∷◌, get_or, take, drop, sym, refl, ap, ◌∙◌, add_assoc, add-zero, arith}
use Rattle.std.proofs.lemmas.List.{drop-drop, get_or-take, get_or-drop}
use Rattle.std.specs.Simd.{first_chunks}
use Rattle.std.specs.Int.{from_be_bytes, w16, w32}
use Rattle.logic.specs.Logic.{Logic}
use Rattle.logic.specs.Naming.{Naming}
use Rattle.script_text.specs.Texts.{word16, word32, record_text, record_at}

pub be_word16 : (a b : ℕ) → from_be_bytes w16 (a ∷ b ∷ []) ≡ a * 256 + b
be_word16 a b = omega arith

pub be_word32 : (a b c d : ℕ) → from_be_bytes w32 (a ∷ b ∷ c ∷ d ∷ []) ≡ (a * 256 + b) * 65536 + (c * 256 + d)
be_word32 a b c d = omega arith

chunk_at : (k i : ℕ) (xs : List ℕ) → i < k → get_or (first_chunks 8 k xs) i [] ≡ take 8 (drop (8 * i) xs)
chunk_at zero i xs lt = absurd (omega arith)
chunk_at (suc k) zero xs lt = refl
chunk_at (suc k) (suc i) xs lt = chunk_at k i (drop 8 xs) (omega arith) ∙ ap (take 8) (drop-drop (8 * i) 8 xs ∙ ap (λ m. drop m xs) (more i))
  where
    more : (i : ℕ) → 8 + 8 * i ≡ 8 * suc i
    more i = omega arith

-- record i stands at place 8 i of the trace
pub record_is : {V : Type 0} (L : Logic V) (N : Naming V) (trace : List ℕ) (k i : ℕ) → i < k → record_at L N (get_or (first_chunks 8 k trace) i []) 0 ≡ record_at L N trace i
record_is L N trace k i lt = ap (λ c. record_at L N c 0) (chunk_at k i trace lt) ∙ (λ j. record_text L N (long j) (word 4 (omega arith) j) (word 6 (omega arith) j))
  where
    chunk : List ℕ
    chunk = take 8 (drop (8 * i) trace)

    byte : (j : ℕ) → j < 8 → get_or chunk j 0 ≡ get_or trace (8 * i + j) 0
    byte j few = get_or-take 8 (drop (8 * i) trace) j 0 few ∙ get_or-drop (8 * i) trace j 0

    word : (j : ℕ) → j + 1 < 8 → word16 chunk j ≡ word16 trace (8 * i + j)
    word j few = (λ n. byte j (omega arith) n * 256 + byte (j + 1) few n) ∙ ap (λ m. get_or trace (8 * i + j) 0 * 256 + get_or trace m 0) (sym (add_assoc (8 * i) j 1))

    long : word32 chunk 0 ≡ word32 trace (8 * i)
    long = (λ n. word 0 (omega arith) n * 65536 + word 2 (omega arith) n) ∙ ap (λ m. word16 trace m * 65536 + word16 trace (8 * i + 2)) (add-zero (8 * i))
