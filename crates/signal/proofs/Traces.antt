-- Equal traces are equal levels of the watched nets.
use Rattle.std.proofs.Common.{◌≡◌, ℕ, zero, suc, ◌/◌, ◌%◌, ◌<◌, Bool, true, false, cond, eqb, List, [], ◌∷◌, map, sym, refl, ap, ◌∙◌, arith}
use Rattle.std.specs.List.{range_with_len, flat_map, AllByRecursion}
use Rattle.std.proofs.ByRecursion.{All-from_get_or}
use Rattle.std.proofs.lemmas.Bool.{eqb-true}
use Rattle.logic.specs.Logic.{Logic, Laws}
use Rattle.netlist.specs.Board.{Board, WellFormed}
use Rattle.signal.specs.Calls.{State, bytes16, change_bytes, level, level_before, change, changes_at}
use Rattle.std.proofs.lemmas.List.Folds.{flat_map-map}
use Rattle.signal.proofs.Rows.{joined_each, joined_joined, counting_all, all_each, all_both}
use Rattle.signal.proofs.Lives.{Whole, recorded}
use Rattle.signal.proofs.Decoding.{Slot, out, slots, decode, up_from, rising_all, slots_apart, at_tick}

module _ {V : Type 0} {L : Logic V} (laws : Laws L) where
  -- what a slot adds to the trace of a run
  stays : Board → State V → Slot → Bool
  stays C s k = eqb (L.code (level L C s k.1 k.0)) (L.code (level_before L C s k.1 k.0))

  shown : Board → State V → Slot → ℕ
  shown C s k = L.code (level L C s k.1 k.0)

  adds : Board → State V → Slot → List ℕ
  unfolding stays shown
  adds C s k = out k (stays C s k) (shown C s k)

  change_adds : (C : Board) (s : State V) (t n : ℕ) → flat_map change_bytes (change L C s t n) ≡ adds C s (t, n)
  unfolding adds stays shown
  change_adds C s t n = by (eqb (L.code (level L C s n t)) (L.code (level_before L C s n t)))
    where
      by : (b : Bool) →
          flat_map change_bytes (cond b [] (record { tick = t; net = n; code = L.code (level L C s n t) } ∷ [])) ≡ out (t, n) b (L.code (level L C s n t))
      by true = refl
      by false = refl

  tick_adds : (C : Board) (s : State V) (t : ℕ) → flat_map change_bytes (changes_at L C s t) ≡ flat_map (adds C s) (map (λ n. (t, n)) C.watches)
  tick_adds C s t =
      joined_joined change_bytes (change L C s t) C.watches
      ∙ joined_each (λ n. flat_map change_bytes (change L C s t n)) (λ n. adds C s (t, n)) C.watches (all_each (λ n. flat_map change_bytes (change L C s t n) ≡ adds C s (t, n)) (change_adds C s t) C.watches)
      ∙ sym (flat_map-map (adds C s) (λ n. (t, n)) C.watches)

  trace_adds : (C : Board) (s : State V) → Whole laws C s → recorded s ≡ flat_map (adds C s) (slots C.watches 0 s.ticks)
  trace_adds C s w =
      let ts = range_with_len 0 s.ticks in
      ap (flat_map change_bytes) w.told
      ∙ joined_joined change_bytes (changes_at L C s) ts
      ∙ joined_each (λ t. flat_map change_bytes (changes_at L C s t)) (λ t. flat_map (adds C s) (map (λ n. (t, n)) C.watches)) ts
      (all_each (λ t. flat_map change_bytes (changes_at L C s t) ≡ flat_map (adds C s) (map (λ n. (t, n)) C.watches)) (tick_adds C s) ts)
      ∙ sym (joined_joined (adds C s) (λ t. map (λ n. (t, n)) C.watches) ts)

  code_bytes : (c d : ℕ) → c < 65536 → d < 65536 → bytes16 c ≡ bytes16 d → c ≡ d
  code_bytes c d p q e =
      let high : c / 256 % 256 ≡ d / 256 % 256 = cc in
      let low : c % 256 ≡ d % 256 = cc in
      omega arith

  module _ (C C' : Board) (s s' : State V) (w : Whole laws C s) (w' : Whole laws C' s') (same-watch : C.watches ≡ C'.watches) (same-ticks : s.ticks ≡ s'.ticks) where
    -- a slot that adds the same, after equal levels, has equal levels
    step : (t n : ℕ) → level_before L C s n t ≡ level_before L C' s' n t → adds C s (t, n) ≡ adds C' s' (t, n) → level L C s n t ≡ level L C' s' n t
    unfolding adds stays shown
    step t n was e = by (eqb (L.code v) (L.code u)) (eqb (L.code v') (L.code u')) refl refl e
      where
        v : V
        v = level L C s n t

        u : V
        u = level_before L C s n t

        v' : V
        v' = level L C' s' n t

        u' : V
        u' = level_before L C' s' n t

        by : (b b' : Bool) → eqb (L.code v) (L.code u) ≡ b → eqb (L.code v') (L.code u') ≡ b' → out (t, n) b (L.code v) ≡ out (t, n) b' (L.code v') → v ≡ v'
        by true true p q h = laws.code_equal v u (eqb-true (L.code v) (L.code u) p) ∙ was ∙ sym (laws.code_equal v' u' (eqb-true (L.code v') (L.code u') q))
        by true false p q h = absurd (let z : ◌≡◌ {A = ℕ} 0 1 = cc in omega arith)
        by false true p q h = absurd (let z : ◌≡◌ {A = ℕ} 0 1 = cc in omega arith)
        by false false p q h =
            let bytes : bytes16 (L.code v) ≡ bytes16 (L.code v') = cc in
            laws.code_equal v v' (code_bytes (L.code v) (L.code v') (laws.code_fits v) (laws.code_fits v') bytes)

    rows : ((t : ℕ) → t < s.ticks → AllByRecursion (λ n. adds C s (t, n) ≡ adds C' s' (t, n)) C.watches) → (t : ℕ) → t < s.ticks → AllByRecursion (λ n. level L C s n t ≡ level L C' s' n t) C.watches
    rows h zero lt = all_both (λ n. Unit {0}) (λ n. adds C s (0, n) ≡ adds C' s' (0, n)) (λ n. level L C s n 0 ≡ level L C' s' n 0) (λ n _ e. step 0 n refl e) C.watches (all_each (λ n. Unit {0}) (λ n. tt) C.watches) (h 0 lt)
    rows h (suc t) lt =
        all_both (λ n. level L C s n t ≡ level L C' s' n t) (λ n. adds C s (suc t, n) ≡ adds C' s' (suc t, n)) (λ n. level L C s n (suc t) ≡ level L C' s' n (suc t))
        (λ n was e. step (suc t) n was e) C.watches (rows h t (omega arith)) (h (suc t) lt)

    pub levels_from_traces : WellFormed C → recorded s ≡ recorded s' → (t : ℕ) → t < s.ticks → AllByRecursion (λ n. level L C s n t ≡ level L C' s' n t) C.watches
    unfolding adds stays shown
    levels_from_traces ok e =
        let here : flat_map (adds C s) (slots C.watches 0 s.ticks) ≡ flat_map (adds C' s') (slots C.watches 0 s.ticks) =
        sym (trace_adds C s w) ∙ e ∙ trace_adds C' s' w'
        ∙ ap (λ ws. flat_map (adds C' s') (slots ws 0 s'.ticks)) (sym same-watch)
        ∙ ap (λ m. flat_map (adds C' s') (slots C.watches 0 m)) (sym same-ticks) in
        let below : AllByRecursion (λ n. n < 65536) C.watches = All-from_get_or (λ n. n < 65536) C.watches 0 (λ i lt. omega (arith, ok.below i lt, ok.nets)) in
        let apart = slots_apart C.watches (up_from C.watches (rising_all C.watches ok.rising)) below 0 s.ticks (omega (arith, w.early)) in
        let each = decode (stays C s, shown C s) (stays C' s', shown C' s') (slots C.watches 0 s.ticks) apart here in
        rows (λ t lt. at_tick (λ k. adds C s k ≡ adds C' s' k) C.watches 0 s.ticks each t (omega arith) (omega arith))

    changed_same : (t n : ℕ) → level L C s n t ≡ level L C' s' n t → level_before L C s n t ≡ level_before L C' s' n t → change L C s t n ≡ change L C' s' t n
    changed_same t n is was =
        ap (λ v. cond (eqb (L.code v) (L.code (level_before L C s n t))) [] (record { tick = t; net = n; code = L.code v } ∷ [])) is
        ∙ ap (λ v. cond (eqb (L.code (level L C' s' n t)) (L.code v)) [] (record { tick = t; net = n; code = L.code (level L C' s' n t) } ∷ [])) was

    row_same : ((t : ℕ) → t < s.ticks → AllByRecursion (λ n. level L C s n t ≡ level L C' s' n t) C.watches) → (t : ℕ) → t < s.ticks → AllByRecursion (λ n. change L C s t n ≡ change L C' s' t n) C.watches
    row_same h zero lt = all_both (λ n. Unit {0}) (λ n. level L C s n 0 ≡ level L C' s' n 0) (λ n. change L C s 0 n ≡ change L C' s' 0 n) (λ n _ e. changed_same 0 n e refl) C.watches (all_each (λ n. Unit {0}) (λ n. tt) C.watches) (h 0 lt)
    row_same h (suc t) lt =
        all_both (λ n. level L C s n t ≡ level L C' s' n t) (λ n. level L C s n (suc t) ≡ level L C' s' n (suc t)) (λ n. change L C s (suc t) n ≡ change L C' s' (suc t) n)
        (λ n was e. changed_same (suc t) n e was) C.watches (h t (omega arith)) (h (suc t) lt)

    pub traces_from_levels : ((t : ℕ) → t < s.ticks → AllByRecursion (λ n. level L C s n t ≡ level L C' s' n t) C.watches) → recorded s ≡ recorded s'
    traces_from_levels h =
        let ts = range_with_len 0 s.ticks in
        let tick : (t : ℕ) → t < s.ticks → changes_at L C s t ≡ flat_map (change L C' s' t) C.watches = λ t lt. joined_each (change L C s t) (change L C' s' t) C.watches (row_same h t lt) in
        ap (flat_map change_bytes) (
        w.told
        ∙ joined_each (changes_at L C s) (λ t. flat_map (change L C' s' t) C.watches) ts (counting_all (λ t. changes_at L C s t ≡ flat_map (change L C' s' t) C.watches) 0 s.ticks (λ t _ lt. tick t (omega arith)))
        ∙ ap (λ ws. flat_map (λ t. flat_map (change L C' s' t) ws) ts) same-watch
        ∙ ap (λ m. flat_map (changes_at L C' s') (range_with_len 0 m)) same-ticks
        ∙ sym w'.told
        )
