-- Once the entries of a tick are taken, every gate drives its level of that tick.
use Rattle.std.proofs.Common.{◌≡◌, ℕ, zero, suc, ◌+◌, ◌-◌, ◌<◌, ◌≤◌, Bool, true, false, cond, not, ◌&&◌, eqb, leb, List, [], ◌∷◌, ◌++◌, length, get_or, set, sym, refl, ap, ◌∙◌, ⊎_elim, add-one, arith, length-set, get_or-set_other, get_or-set_same}
use Rattle.std.specs.List.{range_with_len, flat_map, AllByRecursion}
use Rattle.std.proofs.lemmas.Bool.{cases_eq, eq-eqb, ne_eqb, le-ltb, le-leb, eqb-true, not-false}
use Rattle.calendar.specs.declared.entry.Entry.{Entry}
use Rattle.calendar.specs.Agenda.{before_tick}
use Rattle.logic.specs.Logic.{Logic, Laws}
use Rattle.netlist.specs.Board.{Board, WellFormed}
use Rattle.signal.specs.Circuit.{gate, gate_count}
use Rattle.signal.specs.Calls.{State, drives, entry}
use Rattle.signal.proofs.Planning.{planned, planned_all, planned_first, planned_next, planned_due}
use Rattle.signal.proofs.Rows.{all_both}
use Rattle.tick.specs.Due.{applied, left_over, levelled}
use Rattle.run.specs.Fits.{waiting_at}

module _ {V : Type 0} {L : Logic V} (laws : Laws L) (t : ℕ) where
  later_left : (w : List Entry) → AllByRecursion (λ (x : Entry). t < x.tick) w → left_over t w ≡ w
  later_left [] h = refl
  later_left (x ∷ w) h = ap (λ b. cond b (left_over t w) (x ∷ w)) (ne_eqb x.tick t (λ e. omega (arith, h.0)))

  later_applied : (ls : List V) (w : List Entry) → AllByRecursion (λ (x : Entry). t < x.tick) w → applied L t ls w ≡ ls
  later_applied ls [] h = refl
  later_applied ls (x ∷ w) h = ap (λ b. cond b (applied L t (levelled (L.of_code x.code) x.gate ls) w) ls) (ne_eqb x.tick t (λ e. omega (arith, h.0)))

  module _ (now was : ℕ → V) (b : ℕ → Bool) (rest : List Entry) (later : AllByRecursion (λ (x : Entry). t < x.tick) rest) where
    abbrev at : ℕ → Entry
    at g = record { tick = t; gate = g; code = L.code (now g) }

    abbrev cell : ℕ → List Entry
    cell g = cond (b g) (at g ∷ []) []

    abbrev row : ℕ → ℕ → List Entry
    row g n = flat_map cell (range_with_len g n) ++ rest

    row_left : (n g : ℕ) → left_over t (row g n) ≡ rest
    row_left zero g = later_left rest later
    row_left (suc n) g = by (b g) (row_left n (g + 1))
      where
        by : (k : Bool) → left_over t (row (g + 1) n) ≡ rest → left_over t ((cond k (at g ∷ []) [] ++ flat_map cell (range_with_len (g + 1) n)) ++ rest) ≡ rest
        by true ih = ap (λ k. cond k (left_over t (row (g + 1) n)) (at g ∷ row (g + 1) n)) (eq-eqb t t refl) ∙ ih
        by false ih = ih

    row_long : (n g : ℕ) (ls : List V) → length (applied L t ls (row g n)) ≡ length ls
    row_long zero g ls = ap length (later_applied ls rest later)
    row_long (suc n) g ls = by (b g) (row_long n (g + 1) ls) (row_long n (g + 1) (set ls g (now g)))
      where
        by : (k : Bool) → length (applied L t ls (row (g + 1) n)) ≡ length ls → length (applied L t (set ls g (now g)) (row (g + 1) n)) ≡ length (set ls g (now g))
            → length (applied L t ls ((cond k (at g ∷ []) [] ++ flat_map cell (range_with_len (g + 1) n)) ++ rest)) ≡ length ls
        by true ih jh =
            ap (λ k. length (cond k (applied L t (levelled (L.of_code (L.code (now g))) g ls) (row (g + 1) n)) ls)) (eq-eqb t t refl)
            ∙ ap (λ o. length (applied L t (levelled o g ls) (row (g + 1) n))) (laws.code_back (now g))
            ∙ jh ∙ length-set ls g (now g)
        by false ih jh = ih

    row_applied : (n g : ℕ) (ls : List V) → ((k : ℕ) → g ≤ k → k < g + n → b k ≡ false → now k ≡ was k) → g + n ≤ length ls →
        ((k : ℕ) → k < g → get_or ls k L.unset ≡ now k) → ((k : ℕ) → g ≤ k → k < g + n → get_or ls k L.unset ≡ was k) →
        (k : ℕ) → k < g + n → get_or (applied L t ls (row g n)) k L.unset ≡ now k
    row_applied zero g ls same long low high k h = ap (λ l. get_or l k L.unset) (later_applied ls rest later) ∙ low k (omega arith)
    row_applied (suc n) g ls same long low high k h =
        by (b g) refl
        (row_applied n (g + 1) (set ls g (now g)) (λ j ge lt. same j (omega arith) (omega arith)) (omega (arith, length-set ls g (now g)))
        (λ j lt. ⊎_elim
        (λ eq. ap (λ i. get_or (set ls g (now g)) i L.unset) eq ∙ get_or-set_same ls g (now g) L.unset (omega arith) ∙ ap now (sym eq))
        (λ ne. get_or-set_other ls g j (now g) L.unset ne ∙ low j (omega arith))
        (cases_eq j g))
        (λ j ge lt. get_or-set_other ls g j (now g) L.unset (λ eq. omega arith) ∙ high j (omega arith) (omega arith))
        k (omega arith))
        (λ e. row_applied n (g + 1) ls (λ j ge lt. same j (omega arith) (omega arith)) (omega arith)
        (λ j lt. ⊎_elim
        (λ eq. ap (λ i. get_or ls i L.unset) eq ∙ high g (omega arith) (omega arith) ∙ sym (same g (omega arith) (omega arith) e) ∙ ap now (sym eq))
        (λ ne. low j (omega arith))
        (cases_eq j g))
        (λ j ge lt. high j (omega arith) (omega arith))
        k (omega arith))
      where
        by : (c : Bool) → b g ≡ c → get_or (applied L t (set ls g (now g)) (row (g + 1) n)) k L.unset ≡ now k
            → (b g ≡ false → get_or (applied L t ls (row (g + 1) n)) k L.unset ≡ now k)
            → get_or (applied L t ls ((cond c (at g ∷ []) [] ++ flat_map cell (range_with_len (g + 1) n)) ++ rest)) k L.unset ≡ now k
        by true e ih jh =
            ap (λ c. get_or (cond c (applied L t (levelled (L.of_code (L.code (now g))) g ls) (row (g + 1) n)) ls) k L.unset) (eq-eqb t t refl)
            ∙ ap (λ o. get_or (applied L t (levelled o g ls) (row (g + 1) n)) k L.unset) (laws.code_back (now g))
            ∙ ih
        by false e ih jh = jh e

module _ {V : Type 0} {L : Logic V} (laws : Laws L) (C : Board) (ok : WellFormed C) (s : State V) where
  pub due_ahead : (t i : ℕ) → AllByRecursion (λ (x : Entry). t < x.tick) (planned L C s t i)
  due_ahead t i = all_both (λ (x : Entry). (t < x.tick) × (x.tick ≤ t + 64) × (x.gate < gate_count C)) (λ (x : Entry). (t < x.tick) × (x.tick ≤ t + 64) × (x.gate < gate_count C)) (λ (x : Entry). t < x.tick) (λ x h k. h.0) (planned L C s t i) (planned_due L C s t i) (planned_due L C s t i)

  none_before : (u : ℕ) (w : List Entry) → AllByRecursion (λ (x : Entry). u < x.tick) w → before_tick w (suc u) ≡ false
  none_before u [] h = refl
  none_before u (x ∷ w) h = le-ltb x.tick (suc u) (omega (arith, h.0))

  -- nothing that waits stands before the next tick
  pub none_late : (t : ℕ) → before_tick (waiting_at L C s t) t ≡ false
  none_late zero = refl
  none_late (suc u) = ap (λ w. before_tick w (suc u)) (sym (planned_all L C s u)) ∙ none_before u (planned L C s u (gate_count C)) (due_ahead u (gate_count C))

  abbrev test : ℕ → ℕ → Bool
  test u g = leb (u + 1) (u + (gate C g).delay) && not (eqb (L.code (drives L C s g (u + 1))) (L.code (drives L C s g (u + 1 - 1))))

  still : (u g : ℕ) → g < gate_count C → test u g ≡ false → drives L C s g (u + 1) ≡ drives L C s g (u + 1 - 1)
  still u g lt e =
      let in_time : leb (u + 1) (u + (gate C g).delay) ≡ true = le-leb (u + 1) (u + (gate C g).delay) (omega (arith, (ok.good g lt).delay_low)) in
      let k = eqb (L.code (drives L C s g (u + 1))) (L.code (drives L C s g (u + 1 - 1))) in
      let off : not k ≡ false = sym (ap (λ b. b && not k) in_time) ∙ e in
      laws.code_equal (drives L C s g (u + 1)) (drives L C s g (u + 1 - 1)) (eqb-true (L.code (drives L C s g (u + 1))) (L.code (drives L C s g (u + 1 - 1))) (not-false k off))

  -- what is left once the entries of tick t are taken
  pub left_planned : (t : ℕ) → left_over t (waiting_at L C s t) ≡ planned L C s t 0
  left_planned zero = sym (planned_first L C s)
  left_planned (suc u) =
      ap (left_over (suc u)) (planned_next L C s ok u)
      ∙ ap (λ k. left_over k (flat_map (entry L C s u (u + 1)) (range_with_len 0 (gate_count C)) ++ planned L C s (u + 1) 0)) (sym (add-one u))
      ∙ row_left laws (u + 1) (λ g. drives L C s g (u + 1)) (λ g. drives L C s g (u + 1 - 1)) (test u) (planned L C s (u + 1) 0) (due_ahead (u + 1) 0) (gate_count C) 0
      ∙ ap (λ k. planned L C s k 0) (add-one u)

  module _ (ls : List V) where
    pub drained_long : (t : ℕ) → length (applied L t ls (waiting_at L C s t)) ≡ length ls
    drained_long zero = refl
    drained_long (suc u) =
        ap (λ w. length (applied L (suc u) ls w)) (planned_next L C s ok u)
        ∙ ap (λ k. length (applied L k ls (flat_map (entry L C s u (u + 1)) (range_with_len 0 (gate_count C)) ++ planned L C s (u + 1) 0))) (sym (add-one u))
        ∙ row_long laws (u + 1) (λ g. drives L C s g (u + 1)) (λ g. drives L C s g (u + 1 - 1)) (test u) (planned L C s (u + 1) 0) (due_ahead (u + 1) 0) (gate_count C) 0 ls

    pub drained : (t : ℕ) → gate_count C ≤ length ls → ((g : ℕ) → g < gate_count C → get_or ls g L.unset ≡ drives L C s g (t - 1)) →
        (g : ℕ) → g < gate_count C → get_or (applied L t ls (waiting_at L C s t)) g L.unset ≡ drives L C s g t
    drained zero long are g lt = are g lt
    drained (suc u) long are g lt =
        ap (λ w. get_or (applied L (suc u) ls w) g L.unset) (planned_next L C s ok u)
        ∙ ap (λ k. get_or (applied L k ls (flat_map (entry L C s u (u + 1)) (range_with_len 0 (gate_count C)) ++ planned L C s (u + 1) 0)) g L.unset) (sym (add-one u))
        ∙ row_applied laws (u + 1) (λ g. drives L C s g (u + 1)) (λ g. drives L C s g (u + 1 - 1)) (test u) (planned L C s (u + 1) 0) (due_ahead (u + 1) 0)
        (gate_count C) 0 ls (λ k ge h e. still u k (omega arith) e) (omega arith)
        (λ k h. absurd (omega arith))
        (λ k ge h. are k (omega arith) ∙ ap (drives L C s k) (less u))
        g (omega arith)
        ∙ ap (drives L C s g) (add-one u)
      where
        less : (u : ℕ) → suc u - 1 ≡ u + 1 - 1
        less u = omega arith
