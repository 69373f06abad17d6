-- The file of a well-formed netlist has no fault, and its netlist is that one. Assumes nothing.
use Rattle.std.proofs.Common.{◌≡◌, ℕ, zero, suc, ◌+◌, ◌-◌, ◌*◌, ◌/◌, ◌%◌, ◌<◌, ◌≤◌, List, [], ◌∷◌, ◌++◌, length, get_or, drop, None, sym, refl, ap, ◌∙◌, subst, ⊎_elim, append_assoc, append-nil, add_comm, mul-zero, mul-suc, arith, length-append}
use Rattle.std.specs.List.{flat_map}
use Rattle.std.proofs.lemmas.List.FromFn.{fill_by_all}
use Rattle.std.proofs.lemmas.List.{drop-drop, drop_at, get_or-drop}
use Rattle.std.proofs.lemmas.Bool.{cases_lt}
use Rattle.std.proofs.lemmas.Bool.Decides.{nat_tests}
use Rattle.netlist.specs.Kinds.{kind_number, kind_of}
use Rattle.netlist.specs.Parts.{blank}
use Rattle.netlist.specs.File.{word, gate_at, gate_no, gate_offset, gates_of, watch_at, watch_offset, watches_of}
use Rattle.netlist.specs.Checks.{head_fault, gate_fault, gate_no_fault, gates_fault, watch_fault, watches_fault, net_fault, nets_fault, verdict}
use Rattle.netlist.specs.Board.{Board, Good, WellFormed, pair, gate_bytes, head_bytes, encoded, board_of}
use Rattle.netlist.specs.declared.gate.Gate.{Gate}
use Rattle.netlist.proofs.Firsts.{first_all}
use Rattle.netlist.proofs.Numbers.{of_number, number_range}

join : (w : ℕ) → w / 256 * 256 + w % 256 ≡ w
join w = omega arith

module _ {X : Type 0} (k : ℕ) (bytes : X → List ℕ) (long : (x : X) → length (bytes x) ≡ k) where
  length_joined : (xs : List X) → length (flat_map bytes xs) ≡ k * length xs
  length_joined [] = sym (mul-zero k)
  length_joined (x ∷ xs) = length-append (bytes x) (flat_map bytes xs) ∙ rw (long x, length_joined xs, mul-suc k (length xs)) (add_comm k (k * length xs))

  -- what stands from the g-th chunk on
  at_chunk : (xs : List X) (d : X) (tail : List ℕ) (g : ℕ) → g < length xs → (rest : List ℕ) × (drop (k * g) (flat_map bytes xs ++ tail) ≡ bytes (get_or xs g d) ++ rest)
  at_chunk [] d tail g lt = absurd (omega arith)
  at_chunk (x ∷ xs) d tail zero lt = (flat_map bytes xs ++ tail, rw (mul-zero k) (append_assoc (bytes x) (flat_map bytes xs) tail))
  at_chunk (x ∷ xs) d tail (suc g) lt =
      let r = at_chunk xs d tail g (omega arith) in
      let m : k * suc g ≡ k + k * g = mul-suc k g ∙ add_comm (k * g) k in (
        r.0,
        ap (λ j. drop j (flat_map bytes (x ∷ xs) ++ tail)) m
            ∙ sym (drop-drop (k * g) k (flat_map bytes (x ∷ xs) ++ tail))
            ∙ ap (λ l. drop (k * g) (drop k l)) (append_assoc (bytes x) (flat_map bytes xs) tail)
            ∙ ap (drop (k * g)) (drop_at (bytes x) (flat_map bytes xs ++ tail) k (long x))
            ∙ r.1,
      )

gate_long : (g : Gate) → length (gate_bytes g) ≡ 9
gate_long g = refl

pair_long : (w : ℕ) → length (pair w) ≡ 2
pair_long w = refl

module _ (f : List ℕ) (at : ℕ) where
  gate_byte : (g : Gate) (rest : List ℕ) → drop at f ≡ gate_bytes g ++ rest → get_or f at 0 ≡ kind_number g.kind
  gate_byte g rest e = subst (λ j. get_or f j 0 ≡ kind_number g.kind) (omega arith) (sym (get_or-drop at f 0 0) ∙ ap (λ l. get_or l 0 0) e)

  gate_from : (g : Gate) (rest : List ℕ) → drop at f ≡ gate_bytes g ++ rest → gate_at f at ≡ g
  gate_from g rest e =
      let b : (i j : ℕ) → at + i ≡ j → get_or f j 0 ≡ get_or (gate_bytes g ++ rest) i 0 = λ i j s. subst (λ j. get_or f j 0 ≡ get_or (gate_bytes g ++ rest) i 0) s (sym (get_or-drop at f i 0) ∙ ap (λ l. get_or l i 0) e) in
      let ka : kind_of (get_or f at 0) ≡ g.kind = ap kind_of (gate_byte g rest e) ∙ of_number g.kind in
      let a : word f (at + 1) ≡ g.a = rw (b 1 (at + 1) refl, b 2 (at + 1 + 1) (omega arith)) (join g.a) in
      let bb : word f (at + 3) ≡ g.b = rw (b 3 (at + 3) refl, b 4 (at + 3 + 1) (omega arith)) (join g.b) in
      let out : word f (at + 5) ≡ g.out = rw (b 5 (at + 5) refl, b 6 (at + 5 + 1) (omega arith)) (join g.out) in
      let delay : word f (at + 7) ≡ g.delay = rw (b 7 (at + 7) refl, b 8 (at + 7 + 1) (omega arith)) (join g.delay) in
      λ i. record { kind = ka i; a = a i; b = bb i; out = out i; delay = delay i }

  pair_from : (w : ℕ) (rest : List ℕ) → drop at f ≡ pair w ++ rest → word f at ≡ w
  pair_from w rest e =
      let h : get_or f at 0 ≡ w / 256 = subst (λ j. get_or f j 0 ≡ w / 256) (omega arith) (sym (get_or-drop at f 0 0) ∙ ap (λ l. get_or l 0 0) e) in
      let l : get_or f (at + 1) 0 ≡ w % 256 = sym (get_or-drop at f 1 0) ∙ ap (λ l. get_or l 1 0) e in
      rw (h, l) (join w)

no_gate_fault : (n at : ℕ) (g : Gate) → Good n g → gate_fault n at (kind_number g.kind) g ≡ None
no_gate_fault n at g h = let range = number_range g.kind in grind (arith, nat_tests)

no_head_fault : (f : List ℕ) → get_or f 0 0 ≡ 0x4e → get_or f 1 0 ≡ 0x4c → get_or f 2 0 ≡ 0x42 → word f 3 ≡ 1 → 1 ≤ word f 5 → word f 5 ≤ 1024 → word f 7 ≤ word f 5 → word f 9 ≤ 1024 → 1 ≤ word f 11 → word f 11 ≤ word f 5 → length f ≡ 13 + 9 * word f 9 + 2 * word f 11 → head_fault f ≡ None
no_head_fault f n l b v some nets ports gates watched watches long = let short : 13 ≤ length f = omega arith in grind (arith, nat_tests)

no_watch_fault : (f : List ℕ) (i : ℕ) → watch_at f i < word f 5 → (0 < i → watch_at f (i - 1) < watch_at f i) → watch_fault f i ≡ None
no_watch_fault f i below above = ⊎_elim (λ (h : 0 < i). let a = above h in grind (arith, nat_tests)) (λ h. grind (arith, nat_tests)) (cases_lt 0 i)

module _ (b : Board) where
  w5 : word (encoded b) 5 ≡ b.nets
  w5 = join b.nets

  w7 : word (encoded b) 7 ≡ b.ports
  w7 = join b.ports

  w9 : word (encoded b) 9 ≡ length b.gates
  w9 = join (length b.gates)

  w11 : word (encoded b) 11 ≡ length b.watches
  w11 = join (length b.watches)

  long : length (encoded b) ≡ 13 + 9 * length b.gates + 2 * length b.watches
  long =
      let g = length_joined 9 gate_bytes gate_long b.gates in
      let w = length_joined 2 pair pair_long b.watches in
      let s = length-append (flat_map gate_bytes b.gates) (flat_map pair b.watches) in
      let h = length-append (head_bytes b) (flat_map gate_bytes b.gates ++ flat_map pair b.watches) in
      let t : length (head_bytes b) ≡ 13 = refl in
      omega (arith, g, w, s, h, t)

  gate_starts : (g : ℕ) → g < length b.gates → get_or (encoded b) (gate_offset g) 0 ≡ kind_number (get_or b.gates g blank).kind
  gate_starts g lt =
      let r = at_chunk 9 gate_bytes gate_long b.gates blank (flat_map pair b.watches) g lt in
      gate_byte (encoded b) (gate_offset g) (get_or b.gates g blank) r.0
      (sym (drop-drop (9 * g) 13 (encoded b)) ∙ r.1)

  gate_is : (g : ℕ) → g < length b.gates → gate_no (encoded b) g ≡ get_or b.gates g blank
  gate_is g lt =
      let r = at_chunk 9 gate_bytes gate_long b.gates blank (flat_map pair b.watches) g lt in
      gate_from (encoded b) (gate_offset g) (get_or b.gates g blank) r.0
      (sym (drop-drop (9 * g) 13 (encoded b)) ∙ r.1)

  watch_is : (i : ℕ) → i < length b.watches → watch_at (encoded b) i ≡ get_or b.watches i 0
  watch_is i lt =
      let r = at_chunk 2 pair pair_long b.watches 0 [] i lt in
      let past : drop (9 * length b.gates) (flat_map gate_bytes b.gates ++ flat_map pair b.watches) ≡ flat_map pair b.watches = drop_at (flat_map gate_bytes b.gates) (flat_map pair b.watches) (9 * length b.gates) (length_joined 9 gate_bytes gate_long b.gates) in
      let at : watch_offset (encoded b) i ≡ 13 + (9 * length b.gates + 2 * i) = omega (arith, w9) in
      pair_from (encoded b) (watch_offset (encoded b) i) (get_or b.watches i 0) r.0
      (ap (λ j. drop j (encoded b)) at
      ∙ sym (drop-drop (9 * length b.gates + 2 * i) 13 (encoded b))
      ∙ sym (drop-drop (2 * i) (9 * length b.gates) (flat_map gate_bytes b.gates ++ flat_map pair b.watches))
      ∙ ap (drop (2 * i)) (past ∙ sym (append-nil (flat_map pair b.watches)))
      ∙ r.1)

  gates_are : gates_of (encoded b) ≡ b.gates
  gates_are = sym (fill_by_all (gate_no (encoded b)) b.gates (word (encoded b) 9) blank (sym w9) (λ k lt. sym (gate_is k (omega (arith, w9)))))

  watches_are : watches_of (encoded b) ≡ b.watches
  watches_are = sym (fill_by_all (watch_at (encoded b)) b.watches (word (encoded b) 11) 0 (sym w11) (λ k lt. sym (watch_is k (omega (arith, w11)))))

  -- the file's netlist is the one that it was written from
  pub same : board_of (encoded b) ≡ b
  same = λ i. record { nets = w5 i; ports = w7 i; gates = gates_are i; watches = watches_are i }

  module _ (ok : WellFormed b) where
    no_head : head_fault (encoded b) ≡ None
    no_head = no_head_fault (encoded b) refl refl refl refl
        (rw w5 ok.some) (rw w5 ok.nets) (rw (w5, w7) ok.ports) (rw w9 ok.gates) (rw w11 ok.watched) (rw (w5, w11) ok.watches) (rw (w9, w11) long)

    no_gates : gates_fault (encoded b) ≡ None
    no_gates = first_all (gate_no_fault (encoded b)) (word (encoded b) 9) (λ k lt.
        let in-range : k < length b.gates = omega (arith, w9) in
        (λ i. gate_fault (w5 i) (gate_offset k) (gate_starts k in-range i) (gate_is k in-range i)) ∙ no_gate_fault b.nets (gate_offset k) (get_or b.gates k blank) (ok.good k in-range))

    no_watches : watches_fault (encoded b) ≡ None
    no_watches = first_all (watch_fault (encoded b)) (word (encoded b) 11) (λ k lt.
        let in-range : k < length b.watches = omega (arith, w11) in
        no_watch_fault (encoded b) k
        (subst (λ x. x < word (encoded b) 5) (sym (watch_is k in-range)) (subst (λ x. get_or b.watches k 0 < x) (sym w5) (ok.below k in-range)))
        (λ more.
        let back : k - 1 + 1 ≡ k = omega arith in
        let inside : k - 1 + 1 < length b.watches = omega arith in
        let up = ok.rising (k - 1) inside in
        let here = watch_is k in-range in
        let before = watch_is (k - 1) (omega arith) in
        omega (arith, here, before, rw back at up)))

    no_nets : nets_fault (word (encoded b) 7) (gates_of (encoded b)) (word (encoded b) 5) ≡ None
    no_nets = rw (w5, w7, gates_are) (first_all (net_fault b.ports b.gates) b.nets (λ k lt. ⊎_elim (λ h. grind (arith, nat_tests)) (λ h. grind (arith, nat_tests)) (ok.driven k lt)))

    pub accepted : verdict (encoded b) ≡ None
    accepted = rw (no_head, no_gates, no_watches, no_nets)
