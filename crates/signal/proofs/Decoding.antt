-- A trace can be read back: records with headings that are all different tell which were written.
use Rattle.std.proofs.Common.{◌≡◌, ℕ, zero, suc, ◌+◌, ◌/◌, ◌%◌, ◌<◌, ◌≤◌, Bool, true, false, cond, List, [], ◌∷◌, ◌++◌, map, length, get_or, sym, refl, ap, ◌∙◌, subst, ⊎_elim, add-one, arith}
use mathlib.Core.List.{append_cancel_left}
use Rattle.std.specs.List.{range_with_len, flat_map, AllByRecursion}
use Rattle.std.proofs.ByRecursion.{All-from_get_or, All-append, All-weaker, All-map}
use Rattle.std.proofs.lemmas.Bool.{cases_eq, cases_lt}
use Rattle.signal.specs.Calls.{bytes16, bytes32}
use Rattle.signal.proofs.Rows.{all_both}

-- a tick and a net
abbrev pub Slot : Type 0
Slot = ℕ × ℕ

abbrev pub heading : Slot → List ℕ
heading k = bytes32 k.0 ++ bytes16 k.1

-- what a slot adds to the trace: nothing where its level stays, else its record
abbrev pub out : Slot → Bool → ℕ → List ℕ
out k stays code = cond stays [] (heading k ++ bytes16 code)

abbrev pub Apart : List Slot → Type 0
Apart [] = Unit {0}
Apart (k ∷ ks) = AllByRecursion (λ j. heading j ≡ heading k → ⊥) ks × Apart ks

abbrev Told : Type 0
Told = (Slot → Bool) × (Slot → ℕ)

abbrev outs : Told → List Slot → List ℕ
outs e ks = flat_map (λ k. out k (e.0 k) (e.1 k)) ks

two_eq : (a b c d : ℕ) (xs ys : List ℕ) → a ∷ b ∷ xs ≡ c ∷ d ∷ ys → (a ∷ b ∷ [] ≡ c ∷ d ∷ []) × (xs ≡ ys)
two_eq a b c d xs ys h = (cc, cc)

-- what follows begins with no heading that is not of its own
strange : (k : Slot) (rest : List ℕ) (e : Told) (ks : List Slot) → AllByRecursion (λ j. heading j ≡ heading k → ⊥) ks → heading k ++ rest ≡ outs e ks → ⊥
strange k rest e [] h eq = let z : ◌≡◌ {A = ℕ} 0 1 = cc in omega arith
strange k rest e (j ∷ js) h eq = by (e.0 j) refl (strange k rest e js h.1)
  where
    by : (b : Bool) → e.0 j ≡ b → (heading k ++ rest ≡ outs e js → ⊥) → ⊥
    by true is later = later (eq ∙ ap (λ b. out j b (e.1 j) ++ outs e js) is)
    by false is later =
        let first : heading k ++ rest ≡ (heading j ++ bytes16 (e.1 j)) ++ outs e js = eq ∙ ap (λ b. out j b (e.1 j) ++ outs e js) is in
        h.0 (cc)

pub decode : (e e' : Told) (ks : List Slot) → Apart ks → outs e ks ≡ outs e' ks → AllByRecursion (λ k. out k (e.0 k) (e.1 k) ≡ out k (e'.0 k) (e'.1 k)) ks
decode e e' [] h eq = tt
decode e e' (k ∷ ks) h eq = by (e.0 k) (e'.0 k) refl refl (decode e e' ks h.1)
  where
    by : (b b' : Bool) → e.0 k ≡ b → e'.0 k ≡ b' → (outs e ks ≡ outs e' ks → AllByRecursion (λ j. out j (e.0 j) (e.1 j) ≡ out j (e'.0 j) (e'.1 j)) ks) →
        (out k (e.0 k) (e.1 k) ≡ out k (e'.0 k) (e'.1 k)) × AllByRecursion (λ j. out j (e.0 j) (e.1 j) ≡ out j (e'.0 j) (e'.1 j)) ks
    by b b' is is' later = from b b' (ap (λ c. out k c (e.1 k)) is) (ap (λ c. out k c (e'.1 k)) is') (sym (ap (λ c. out k c (e.1 k) ++ outs e ks) is) ∙ eq ∙ ap (λ c. out k c (e'.1 k) ++ outs e' ks) is') later
      where
        from : (b b' : Bool) → out k (e.0 k) (e.1 k) ≡ out k b (e.1 k) → out k (e'.0 k) (e'.1 k) ≡ out k b' (e'.1 k) → out k b (e.1 k) ++ outs e ks ≡ out k b' (e'.1 k) ++ outs e' ks →
            (outs e ks ≡ outs e' ks → AllByRecursion (λ j. out j (e.0 j) (e.1 j) ≡ out j (e'.0 j) (e'.1 j)) ks) →
            (out k (e.0 k) (e.1 k) ≡ out k (e'.0 k) (e'.1 k)) × AllByRecursion (λ j. out j (e.0 j) (e.1 j) ≡ out j (e'.0 j) (e'.1 j)) ks
        from true true p q w l = (p ∙ sym q, l w)
        from true false p q w l = absurd (strange k (bytes16 (e'.1 k) ++ outs e' ks) e ks h.0 (sym w))
        from false true p q w l = absurd (strange k (bytes16 (e.1 k) ++ outs e ks) e' ks h.0 w)
        from false false p q w l =
            let both = two_eq _ _ _ _ (outs e ks) (outs e' ks) (append_cancel_left (heading k) (bytes16 (e.1 k) ++ outs e ks) (bytes16 (e'.1 k) ++ outs e' ks) w) in
            (p ∙ ap (λ bs. heading k ++ bs) both.0 ∙ sym q, l both.1)

-- ---- the slots of a trace
abbrev pub slots : List ℕ → ℕ → ℕ → List Slot
slots ws a m = flat_map (λ t. map (λ n. (t, n)) ws) (range_with_len a m)

heading_net : (j k : Slot) → j.1 < 65536 → k.1 < 65536 → heading j ≡ heading k → j.1 ≡ k.1
heading_net j k p q e =
    let high : j.1 / 256 % 256 ≡ k.1 / 256 % 256 = cc in
    let low : j.1 % 256 ≡ k.1 % 256 = cc in
    omega arith

-- one byte more
byte_more : (x y : ℕ) → x / 256 ≡ y / 256 → x % 256 ≡ y % 256 → x ≡ y
byte_more x y p q = omega arith

div_16 : (x : ℕ) → x / 256 / 256 ≡ x / 65536
div_16 x = omega arith

div_24 : (x : ℕ) → x / 65536 / 256 ≡ x / 16777216
div_24 x = omega arith

small_byte : (d : ℕ) → d < 256 → d % 256 ≡ d
small_byte d h = omega arith

top_byte : (x : ℕ) → x ≤ 16777216 → x / 16777216 % 256 ≡ x / 16777216
top_byte x h = small_byte (x / 16777216) (omega arith)

heading_tick : (j k : Slot) → j.0 ≤ 16777216 → k.0 ≤ 16777216 → heading j ≡ heading k → j.0 ≡ k.0
heading_tick j k p q e =
    let x = j.0 in
    let y = k.0 in
    let b0 : x / 16777216 % 256 ≡ y / 16777216 % 256 = cc in
    let b1 : x / 65536 % 256 ≡ y / 65536 % 256 = cc in
    let b2 : x / 256 % 256 ≡ y / 256 % 256 = cc in
    let b3 : x % 256 ≡ y % 256 = cc in
    let top : x / 16777216 ≡ y / 16777216 = sym (top_byte x p) ∙ b0 ∙ top_byte y q in
    let high : x / 65536 ≡ y / 65536 = byte_more (x / 65536) (y / 65536) (div_24 x ∙ top ∙ sym (div_24 y)) b1 in
    let low : x / 256 ≡ y / 256 = byte_more (x / 256) (y / 256) (div_16 x ∙ high ∙ sym (div_16 y)) b2 in
    byte_more x y low b3

-- ---- the slots are apart where the nets rise
abbrev pub Up : List ℕ → Type 0
Up [] = Unit {0}
Up (w ∷ ws) = AllByRecursion (λ v. w < v) ws × Up ws

pub up_from : (ws : List ℕ) → ((i j : ℕ) → i < j → j < length ws → get_or ws i 0 < get_or ws j 0) → Up ws
up_from [] h = tt
up_from (w ∷ ws) h = (All-from_get_or (λ v. w < v) ws 0 (λ i p. h 0 (suc i) (omega arith) (omega arith)), up_from ws (λ i j p q. h (suc i) (suc j) (omega arith) (omega arith)))

-- a list that rises from each place to the next rises throughout
pub rising_all : (ws : List ℕ) → ((i : ℕ) → i + 1 < length ws → get_or ws i 0 < get_or ws (i + 1) 0) → (i j : ℕ) → i < j → j < length ws → get_or ws i 0 < get_or ws j 0
rising_all ws h i zero p q = absurd (omega arith)
rising_all ws h i (suc j) p q =
    let step : get_or ws j 0 < get_or ws (suc j) 0 = rw (← add-one j) (h j (omega arith)) in
    ⊎_elim (λ lt. let far = rising_all ws h i j lt (omega arith) in omega arith)
    (λ ge. let same : i ≡ j = omega arith in subst (λ k. get_or ws k 0 < get_or ws (suc j) 0) (sym same) step) (cases_lt i j)

apart_append : (ks js : List Slot) → Apart ks → Apart js → AllByRecursion (λ k. AllByRecursion (λ j. heading j ≡ heading k → ⊥) js) ks → Apart (ks ++ js)
apart_append [] js h g c = g
apart_append (k ∷ ks) js h g c = (All-append (λ j. heading j ≡ heading k → ⊥) ks js h.0 c.0, apart_append ks js h.1 g c.1)

row_apart : (t : ℕ) (ws : List ℕ) → Up ws → AllByRecursion (λ w. w < 65536) ws → Apart (map (λ n. (t, n)) ws)
row_apart t [] h b = tt
row_apart t (w ∷ ws) h b = (
  All-map (λ j. heading j ≡ heading (t, w) → ⊥) (λ n. (t, n)) ws (all_both (λ v. w < v) (λ v. v < 65536) (λ v. heading (t, v) ≡ heading (t, w) → ⊥)
      (λ v lt below e. let same : v ≡ w = heading_net (t, v) (t, w) below b.0 e in omega arith) ws h.0 b.1),
  row_apart t ws h.1 b.1,
)

row_ticks : (t : ℕ) (ws : List ℕ) (P : ℕ → Type 0) → P t → AllByRecursion (λ (k : Slot). P k.0) (map (λ n. (t, n)) ws)
row_ticks t [] P h = tt
row_ticks t (w ∷ ws) P h = (h, row_ticks t ws P h)

slots_ticks : (ws : List ℕ) (P : ℕ → Type 0) (a m : ℕ) → ((t : ℕ) → a ≤ t → t < a + m → P t) → AllByRecursion (λ (k : Slot). P k.0) (slots ws a m)
slots_ticks ws P a zero h = tt
slots_ticks ws P a (suc m) h =
    All-append (λ (k : Slot). P k.0) (map (λ n. (a, n)) ws) (slots ws (a + 1) m) (row_ticks a ws P (h a (omega arith) (omega arith))) (slots_ticks ws P (a + 1) m (λ t p q. h t (omega arith) (omega arith)))

pub slots_apart : (ws : List ℕ) → Up ws → AllByRecursion (λ w. w < 65536) ws → (a m : ℕ) → a + m ≤ 16777216 → Apart (slots ws a m)
slots_apart ws up below a zero h = tt
slots_apart ws up below a (suc m) h =
    let later : AllByRecursion (λ (j : Slot). (a + 1 ≤ j.0) × (j.0 < a + 1 + m)) (slots ws (a + 1) m) = slots_ticks ws (λ t. (a + 1 ≤ t) × (t < a + 1 + m)) (a + 1) m (λ t p q. (p, q)) in
    apart_append (map (λ n. (a, n)) ws) (slots ws (a + 1) m) (row_apart a ws up below) (slots_apart ws up below (a + 1) m (omega arith))
    (All-weaker (λ (k : Slot). k.0 ≡ a) (λ k. AllByRecursion (λ j. heading j ≡ heading k → ⊥) (slots ws (a + 1) m))
    (λ k is. All-weaker (λ (j : Slot). (a + 1 ≤ j.0) × (j.0 < a + 1 + m)) (λ j. heading j ≡ heading k → ⊥)
    (λ j lies e. let same : j.0 ≡ k.0 = heading_tick j k (omega arith) (omega arith) e in omega arith) (slots ws (a + 1) m) later)
    (map (λ n. (a, n)) ws) (row_ticks a ws (λ t. t ≡ a) refl))

-- what holds of every slot holds of every net of a tick
unmap : (P : Slot → Type 0) (t : ℕ) (ws : List ℕ) (rest : List Slot) → AllByRecursion P (map (λ n. (t, n)) ws ++ rest) → AllByRecursion (λ n. P (t, n)) ws × AllByRecursion P rest
unmap P t [] rest h = (tt, h)
unmap P t (w ∷ ws) rest h = let r = unmap P t ws rest h.1 in ((h.0, r.0), r.1)

pub at_tick : (P : Slot → Type 0) (ws : List ℕ) (a m : ℕ) → AllByRecursion P (slots ws a m) → (t : ℕ) → a ≤ t → t < a + m → AllByRecursion (λ n. P (t, n)) ws
at_tick P ws a zero h t p q = absurd (omega arith)
at_tick P ws a (suc m) h t p q =
    let r = unmap P a ws (slots ws (a + 1) m) h in
    ⊎_elim
    (λ e. subst (λ u. AllByRecursion (λ n. P (u, n)) ws) (sym e) r.0)
    (λ ne. at_tick P ws (a + 1) m r.1 t (omega arith) (omega arith))
    (cases_eq t a)
