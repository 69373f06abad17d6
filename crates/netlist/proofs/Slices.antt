-- A file in parts. Assumes nothing.
use Rattle.std.proofs.Common.{◌≡◌, ℕ, zero, suc, ◌+◌, ◌*◌, ◌/◌, ◌%◌, ◌<◌, ◌≤◌, List, [], ◌∷◌, ◌++◌, map, length, get_or, take, drop, sym, refl, ap, ◌∙◌, subst, mul-zero, mul-suc, add-one, arith, take-add}
use Rattle.std.specs.List.{range_with_len, flat_map}
use Rattle.std.proofs.lemmas.List.FromFn.{map-range_with_len_more, length-map-range_with_len}
use Rattle.std.proofs.lemmas.List.{drop_more, drop-drop, flat_map_more, take_all}
use Rattle.netlist.specs.Board.{pair, gate_bytes, head_bytes, encoded, board_of}
use Rattle.netlist.specs.Kinds.{kind_number, kind_of}
use Rattle.netlist.specs.File.{word, gate_at, gate_no, gate_offset, gates_of, watch_at}

-- n bytes from place at on
abbrev pub slice : List ℕ → ℕ → ℕ → List ℕ
slice f at n = take n (drop at f)

pub slice_add : (f : List ℕ) (at m n : ℕ) → slice f at (m + n) ≡ slice f at m ++ slice f (at + m) n
slice_add f at m n = take-add m n (drop at f) ∙ rw (drop-drop m at f)

module _ (f : List ℕ) (byte : (i : ℕ) → get_or f i 0 < 256) where
  pub pair_slice : (at : ℕ) → at + 2 ≤ length f → pair (word f at) ≡ slice f at 2
  pair_slice at fits =
      let h : (get_or f at 0 * 256 + get_or f (at + 1) 0) / 256 ≡ get_or f at 0 = omega (arith, byte (at + 1)) in
      let l : (get_or f at 0 * 256 + get_or f (at + 1) 0) % 256 ≡ get_or f (at + 1) 0 = omega (arith, byte (at + 1)) in
      let p : at < length f = omega arith in
      let q : at + 1 < length f = omega arith in
      rw (h, l, drop_more f at 0 p, drop_more f (at + 1) 0 q)

  -- a pair, and then the bytes from j on
  pub pair_then : (at j m : ℕ) → at + 2 ≡ j → at + 2 ≤ length f → pair (word f at) ++ slice f j m ≡ slice f at (2 + m)
  pair_then at j m e fits = ap (λ t. t ++ slice f j m) (pair_slice at fits) ∙ ap (λ k. slice f at 2 ++ slice f k m) (sym e) ∙ sym (slice_add f at 2 m)

  pub gate_slice : (at : ℕ) → at + 9 ≤ length f → kind_number (kind_of (get_or f at 0)) ≡ get_or f at 0 → gate_bytes (gate_at f at) ≡ slice f at 9
  gate_slice at fits kind =
      let p : at < length f = omega arith in
      ap (λ k. k ∷ (pair (word f (at + 1)) ++ (pair (word f (at + 3)) ++ (pair (word f (at + 5)) ++ pair (word f (at + 7)))))) kind
      ∙ ap (λ t. get_or f at 0 ∷ (pair (word f (at + 1)) ++ (pair (word f (at + 3)) ++ (pair (word f (at + 5)) ++ t)))) (pair_slice (at + 7) (omega arith))
      ∙ ap (λ t. get_or f at 0 ∷ (pair (word f (at + 1)) ++ (pair (word f (at + 3)) ++ t))) (pair_then (at + 5) (at + 7) 2 (omega arith) (omega arith))
      ∙ ap (λ t. get_or f at 0 ∷ (pair (word f (at + 1)) ++ t)) (pair_then (at + 3) (at + 5) 4 (omega arith) (omega arith))
      ∙ ap (λ t. get_or f at 0 ∷ t) (pair_then (at + 1) (at + 3) 6 (omega arith) (omega arith))
      ∙ rw (drop_more f at 0 p)

  -- n chunks of k bytes each
  pub chunks : {X : Type 0} (k : ℕ) (x : ℕ → X) (bytes : X → List ℕ) (at : ℕ) → (n : ℕ) → ((i : ℕ) → i < n → bytes (x i) ≡ slice f (at + k * i) k) → flat_map bytes (map x (range_with_len 0 n)) ≡ slice f at (k * n)
  chunks k x bytes at zero each = rw (mul-zero k)
  chunks k x bytes at (suc n) each =
      let m : k * suc n ≡ k * n + k = mul-suc k n in
      let more = map-range_with_len_more x 0 n n (omega arith) in
      let last : map x (range_with_len 0 (suc n)) ≡ map x (range_with_len 0 n) ++ x n ∷ [] = subst (λ k. map x (range_with_len 0 k) ≡ map x (range_with_len 0 n) ++ x n ∷ []) (add-one n) more in
      ap (flat_map bytes) last
      ∙ sym (flat_map_more bytes [] (map x (range_with_len 0 n)) (x n))
      ∙ ap (λ t. t ++ bytes (x n)) (chunks k x bytes at n (λ i lt. each i (omega arith)))
      ∙ ap (λ t. slice f at (k * n) ++ t) (each n (omega arith))
      ∙ sym (slice_add f at (k * n) k)
      ∙ ap (λ k. slice f at k) (sym m)

  byte_then : (at j m : ℕ) → at + 1 ≡ j → at < length f → slice f at (suc m) ≡ get_or f at 0 ∷ slice f j m
  byte_then at j m e lt = rw (drop_more f at 0 lt, e)

  pub head_slice : 13 ≤ length f → slice f 0 13 ≡ get_or f 0 0 ∷ (get_or f 1 0 ∷ (get_or f 2 0 ∷ (pair (word f 3) ++ (pair (word f 5) ++ (pair (word f 7) ++ (pair (word f 9) ++ pair (word f 11)))))))
  head_slice long =
      byte_then 0 1 12 refl (omega arith)
      ∙ ap (λ t. get_or f 0 0 ∷ t) (byte_then 1 2 11 refl (omega arith))
      ∙ ap (λ t. get_or f 0 0 ∷ (get_or f 1 0 ∷ t)) (byte_then 2 3 10 refl (omega arith))
      ∙ ap (λ t. get_or f 0 0 ∷ (get_or f 1 0 ∷ (get_or f 2 0 ∷ t)))
      (sym (
      ap (λ t. pair (word f 3) ++ (pair (word f 5) ++ (pair (word f 7) ++ (pair (word f 9) ++ t)))) (pair_slice 11 (omega arith))
      ∙ ap (λ t. pair (word f 3) ++ (pair (word f 5) ++ (pair (word f 7) ++ t))) (pair_then 9 11 2 refl (omega arith))
      ∙ ap (λ t. pair (word f 3) ++ (pair (word f 5) ++ t)) (pair_then 7 9 4 refl (omega arith))
      ∙ ap (λ t. pair (word f 3) ++ t) (pair_then 5 7 6 refl (omega arith))
      ∙ pair_then 3 5 8 refl (omega arith)))

  -- a file of the right mark, version and length, whose gates have kinds, is the file of its netlist
  pub written : get_or f 0 0 ≡ 0x4e → get_or f 1 0 ≡ 0x4c → get_or f 2 0 ≡ 0x42 → word f 3 ≡ 1 → length f ≡ 13 + 9 * word f 9 + 2 * word f 11 → ((g : ℕ) → g < word f 9 → kind_number (kind_of (get_or f (gate_offset g) 0)) ≡ get_or f (gate_offset g) 0) → f ≡ encoded (board_of f)
  written n l b v long kind =
      let g = length-map-range_with_len (gate_no f) 0 (word f 9) in
      let w = length-map-range_with_len (watch_at f) 0 (word f 11) in
      let head : slice f 0 13 ≡ head_bytes (board_of f) =
      head_slice (omega arith)
      ∙ ap (λ c. c ∷ (get_or f 1 0 ∷ (get_or f 2 0 ∷ (pair (word f 3) ++ (pair (word f 5) ++ (pair (word f 7) ++ (pair (word f 9) ++ pair (word f 11)))))))) n
      ∙ ap (λ c. 0x4e ∷ (c ∷ (get_or f 2 0 ∷ (pair (word f 3) ++ (pair (word f 5) ++ (pair (word f 7) ++ (pair (word f 9) ++ pair (word f 11)))))))) l
      ∙ ap (λ c. 0x4e ∷ (0x4c ∷ (c ∷ (pair (word f 3) ++ (pair (word f 5) ++ (pair (word f 7) ++ (pair (word f 9) ++ pair (word f 11)))))))) b
      ∙ ap (λ c. 0x4e ∷ (0x4c ∷ (0x42 ∷ (pair c ++ (pair (word f 5) ++ (pair (word f 7) ++ (pair (word f 9) ++ pair (word f 11)))))))) v
      ∙ ap (λ c. 0x4e ∷ (0x4c ∷ (0x42 ∷ (pair 1 ++ (pair (word f 5) ++ (pair (word f 7) ++ (pair c ++ pair (word f 11)))))))) (sym g)
      ∙ ap (λ c. 0x4e ∷ (0x4c ∷ (0x42 ∷ (pair 1 ++ (pair (word f 5) ++ (pair (word f 7) ++ (pair (length (gates_of f)) ++ pair c))))))) (sym w) in
      let gates = chunks 9 (gate_no f) gate_bytes 13 (word f 9) (λ g lt. gate_slice (gate_offset g) (omega arith) (kind g lt)) in
      let watches = chunks 2 (watch_at f) pair (13 + 9 * word f 9) (word f 11) (λ i lt. pair_slice (13 + 9 * word f 9 + 2 * i) (omega arith)) in
      sym (take_all (13 + (9 * word f 9 + 2 * word f 11)) f (omega arith))
      ∙ slice_add f 0 13 (9 * word f 9 + 2 * word f 11)
      ∙ ap (λ t. slice f 0 13 ++ t) (slice_add f 13 (9 * word f 9) (2 * word f 11))
      ∙ ap (λ t. t ++ (slice f 13 (9 * word f 9) ++ slice f (13 + 9 * word f 9) (2 * word f 11))) head
      ∙ ap (λ t. head_bytes (board_of f) ++ (t ++ slice f (13 + 9 * word f 9) (2 * word f 11))) (sym gates)
      ∙ ap (λ t. head_bytes (board_of f) ++ (flat_map gate_bytes (gates_of f) ++ t)) (sym watches)
