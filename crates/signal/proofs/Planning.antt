-- What waits in the calendar, from one completed tick to the next.
use Rattle.std.proofs.Common.{◌≡◌, ℕ, ◌+◌, ◌-◌, ◌<◌, ◌≤◌, Bool, true, false, cond, not, ◌&&◌, ◌||◌, eqb, ltb, leb, ◌⊎◌, List, [], ◌∷◌, ◌++◌, length, sum_by, sym, refl, ap, ◌∙◌, inl, inr, ⊎_elim, arith}
use Rattle.std.specs.List.{AllByRecursion, range_with_len, flat_map}
use Rattle.std.proofs.lemmas.List.{append-nil}
use Rattle.std.proofs.lemmas.Bool.{lt-ltb, le-ltb, le-leb, lt-leb, eq-eqb, ne_eqb, and_left, cases_lt, cases_eq, both_ways, ltb-true}
use Rattle.logic.specs.Logic.{Logic}
use Rattle.netlist.specs.Board.{Board, WellFormed}
use Rattle.signal.specs.Circuit.{gate, gate_count}
use Rattle.calendar.specs.Order.{placed}
use Rattle.calendar.specs.Agenda.{before}
use Rattle.std.proofs.lemmas.Bool.Decides.{nat_tests}
use Rattle.calendar.specs.declared.entry.Entry.{Entry}
use Rattle.signal.specs.Calls.{State, drives, entry, waiting_after}
use Rattle.signal.proofs.Signals.{d_before}
use Rattle.signal.proofs.Grid.{cell, grid, grid_same, grid_none, grid_more, grid_placed, grid_all, length_placed}
use Rattle.signal.proofs.Waiting.{spread}

abbrev lex : ℕ → ℕ → ℕ → ℕ → ℕ → ℕ → Bool
lex a b c x y z = ltb a x || (eqb a x && (ltb b y || (eqb b y && ltb c z)))

lex_earlier : (a b c x y z : ℕ) → (a < x) ⊎ ((a ≡ x) × (b < y)) → lex a b c x y z ≡ true
lex_earlier a b c x y z (inl h) = grind (arith, nat_tests)
lex_earlier a b c x y z (inr h) = grind (arith, nat_tests)

lex_later : (a b c x y z : ℕ) → (x < a) ⊎ ((a ≡ x) × (y < b)) → lex a b c x y z ≡ false
lex_later a b c x y z (inl h) = grind (arith, nat_tests)
lex_later a b c x y z (inr h) = grind (arith, nat_tests)

-- one less than a bound
ltb_leb : (u n : ℕ) → ltb u (n + 1) ≡ leb u n
ltb_leb u n = ⊎_elim (λ h. lt-ltb u (n + 1) (omega arith) ∙ sym (le-leb u n (omega arith))) (λ h. le-ltb u (n + 1) (omega arith) ∙ sym (lt-leb u n (omega arith))) (cases_lt u (n + 1))

module _ {V : Type 0} (L : Logic V) (C : Board) (s : State V) where
  made : ℕ → ℕ → Entry
  made u g = record { tick = u; gate = g; code = L.code (drives L C s g u) }

  changes : ℕ → ℕ → Bool
  changes u g = not (eqb (L.code (drives L C s g u)) (L.code (drives L C s g (u - 1))))

  d : ℕ → ℕ
  d g = (gate C g).delay

  -- what waits while tick t is worked, once the gates below i have planned their levels
  mark : ℕ → ℕ → ℕ → ℕ → Bool
  unfolding d changes
  mark t i u g = cond (ltb g i) (leb u (t + d g)) (ltb u (t + d g)) && changes u g

  mark_above : (t i u g : ℕ) → i ≤ g → mark t i u g ≡ (ltb u (t + d g) && changes u g)
  unfolding mark
  mark_above t i u g h = ap (λ b. cond b (leb u (t + d g)) (ltb u (t + d g)) && changes u g) (le-ltb g i h)

  mark_below : (t i u g : ℕ) → g < i → mark t i u g ≡ (leb u (t + d g) && changes u g)
  unfolding mark
  mark_below t i u g h = ap (λ b. cond b (leb u (t + d g)) (ltb u (t + d g)) && changes u g) (lt-ltb g i h)

  pub planned : ℕ → ℕ → List Entry
  unfolding mark made changes d
  planned t i = grid made (mark t i) (t + 1) 64 (gate_count C)

  -- after the last gate
  pub planned_all : (t : ℕ) → planned t (gate_count C) ≡ waiting_after L C s t
  unfolding planned mark made changes d
  planned_all t =
      grid_same made (mark t (gate_count C)) (λ u g. leb u (t + d g) && changes u g) (t + 1) 64 (gate_count C)
      (λ u g p q r. mark_below t (gate_count C) u g r)

  -- before the first gate: at tick 0 nothing, and at a later tick what the tick before left, its own entries taken
  pub planned_first : planned 0 0 ≡ []
  unfolding planned mark made changes d
  planned_first = grid_none made (mark 0 0) (0 + 1) 64 (gate_count C) (λ u g p q r. mark_above 0 0 u g (omega arith) ∙ ⊎_elim
      (λ h.
      let now = d_before L C s.start s.port g u (omega arith) in
      let was = d_before L C s.start s.port g (u - 1) (omega arith) in
      let same : eqb (L.code (drives L C s g u)) (L.code (drives L C s g (u - 1))) ≡ true = eq-eqb (L.code (drives L C s g u)) (L.code (drives L C s g (u - 1))) (ap L.code (now ∙ sym was)) in
      ap (λ b. ltb u (0 + d g) && not b) same ∙ none (ltb u (0 + d g)))
      (λ h. and_left (ltb u (0 + d g)) (changes u g) (le-ltb u (0 + d g) h))
      (cases_lt u (0 + d g)))
    where
      none : (b : Bool) → (b && false) ≡ false
      none true = refl
      none false = refl

  pub planned_next : WellFormed C → (t : ℕ) → waiting_after L C s t ≡ flat_map (entry L C s t (t + 1)) (range_with_len 0 (gate_count C)) ++ planned (t + 1) 0
  unfolding planned mark made changes d
  planned_next ok t =
      let n = gate_count C in
      let b : ℕ → ℕ → Bool = λ u g. leb u (t + d g) && changes u g in
      let far : grid made b (t + 1 + 1 + 63) 1 n ≡ [] = grid_none made b (t + 1 + 1 + 63) 1 n (λ u g p q r. and_left (leb u (t + d g)) (changes u g) (lt-leb u (t + d g) (omega (arith, (ok.good g r).delay_high)))) in
      let window : grid made b (t + 1 + 1) 64 n ≡ grid made b (t + 1 + 1) 63 n = grid_more made b (t + 1 + 1) 63 1 n ∙ ap (λ l. grid made b (t + 1 + 1) 63 n ++ l) far ∙ append-nil (grid made b (t + 1 + 1) 63 n) in
      let marks : grid made (mark (t + 1) 0) (t + 1 + 1) 64 n ≡ grid made b (t + 1 + 1) 64 n = grid_same made (mark (t + 1) 0) b (t + 1 + 1) 64 n
      (λ u g p q r. mark_above (t + 1) 0 u g (omega arith) ∙ ap (λ k. k && changes u g) (ap (ltb u) (regroup t (d g)) ∙ ltb_leb u (t + d g))) in
      ap (λ l. flat_map (entry L C s t (t + 1)) (range_with_len 0 n) ++ l) (sym window ∙ sym marks)
    where
      regroup : (a k : ℕ) → a + 1 + k ≡ a + k + 1
      regroup a k = omega arith

  -- the marks of the other gates, and of the other ticks, stay as gate i is planned
  mark_other : (t i u g : ℕ) → (u ≡ t + d i → g ≡ i → ⊥) → mark t i u g ≡ mark t (i + 1) u g
  unfolding d
  mark_other t i u g h =
      ⊎_elim
      (λ below. mark_below t i u g below ∙ sym (mark_below t (i + 1) u g (omega arith)))
      (λ above. ⊎_elim
      (λ same.
      let off : u ≡ t + d g → ⊥ = λ e. h (e ∙ ap (λ k. t + d k) same) same in
      mark_above t i u g above ∙ ap (λ k. k && changes u g) (apart u (t + d g) off) ∙ sym (mark_below t (i + 1) u g (omega arith)))
      (λ other. mark_above t i u g above ∙ sym (mark_above t (i + 1) u g (omega arith)))
      (cases_eq g i))
      (cases_lt g i)
    where
      apart : (x y : ℕ) → (x ≡ y → ⊥) → ltb x y ≡ leb x y
      apart x y ne = ⊎_elim (λ l. lt-ltb x y l ∙ sym (le-leb x y (omega arith))) (λ l. le-ltb x y l ∙ sym (lt-leb x y (omega arith))) (cases_lt x y)

  mark_old : (t i : ℕ) → mark t i (t + d i) i ≡ false
  mark_old t i = mark_above t i (t + d i) i (omega arith) ∙ and_left (ltb (t + d i) (t + d i)) (changes (t + d i) i) (le-ltb (t + d i) (t + d i) (omega arith))

  mark_new : (t i : ℕ) → mark t (i + 1) (t + d i) i ≡ changes (t + d i) i
  mark_new t i = mark_below t (i + 1) (t + d i) i (omega arith) ∙ ap (λ k. k && changes (t + d i) i) (le-leb (t + d i) (t + d i) (omega arith))

  -- gate i plans nothing where what it drives does not change a delay on, and else an entry, which goes to its place
  pub planned_same : (t i : ℕ) → L.code (drives L C s i (t + (gate C i).delay)) ≡ L.code (drives L C s i (t + (gate C i).delay - 1)) → planned t (i + 1) ≡ planned t i
  unfolding planned changes d
  planned_same t i e =
      let still : changes (t + d i) i ≡ false = ap not (eq-eqb (L.code (drives L C s i (t + d i))) (L.code (drives L C s i (t + d i - 1))) e) in
      grid_same made (mark t (i + 1)) (mark t i) (t + 1) 64 (gate_count C) (λ u g p q r. ⊎_elim
      (λ eu. ⊎_elim
      (λ eg. ap (λ v. mark t (i + 1) v g) eu ∙ ap (mark t (i + 1) (t + d i)) eg ∙ mark_new t i ∙ still ∙ sym (mark_old t i) ∙ sym (ap (mark t i (t + d i)) eg) ∙ sym (ap (λ v. mark t i v g) eu))
      (λ ng. sym (mark_other t i u g (λ _ eg. ng eg)))
      (cases_eq g i))
      (λ nu. sym (mark_other t i u g (λ eu _. nu eu)))
      (cases_eq u (t + d i)))

  pub planned_more : WellFormed C → (t i : ℕ) → i < gate_count C → (L.code (drives L C s i (t + (gate C i).delay)) ≡ L.code (drives L C s i (t + (gate C i).delay - 1)) → ⊥) →
      planned t (i + 1) ≡ placed before (record { tick = t + (gate C i).delay; gate = i; code = L.code (drives L C s i (t + (gate C i).delay)) }) (planned t i)
  unfolding planned changes d made
  planned_more ok t i lt ne =
      let gone : changes (t + d i) i ≡ true = ap not (ne_eqb (L.code (drives L C s i (t + d i))) (L.code (drives L C s i (t + d i - 1))) ne) in
      let low = (ok.good i lt).delay_low in
      let high = (ok.good i lt).delay_high in
      sym (grid_placed made before (t + d i) i
      (λ u g h. lex_earlier u g (L.code (drives L C s g u)) (t + d i) i (L.code (drives L C s i (t + d i))) h)
      (λ u g h. lex_later u g (L.code (drives L C s g u)) (t + d i) i (L.code (drives L C s i (t + d i))) h)
      (mark t i) (mark t (i + 1)) (t + 1) 64 (gate_count C) (omega arith) (omega arith) lt (mark_old t i) (mark_new t i ∙ gone) (λ u g h. mark_other t i u g h))

  -- ---- the calendar refuses none of it

  -- every entry lies ahead of the tick that is worked, at most 64 ticks, and is of a gate
  pub planned_due : (t i : ℕ) → AllByRecursion (λ (x : Entry). (t < x.tick) × (x.tick ≤ t + 64) × (x.gate < gate_count C)) (planned t i)
  unfolding planned made
  planned_due t i = grid_all made (λ (x : Entry). (t < x.tick) × (x.tick ≤ t + 64) × (x.gate < gate_count C)) (mark t i) (t + 1) 64 (gate_count C) (λ u g p q r _. (omega arith, omega arith, r))

  -- no entry of the tick and the gate that gate i plans waits
  pub planned_free : (t i : ℕ) → AllByRecursion (λ (x : Entry). x.tick ≡ t + (gate C i).delay → x.gate ≡ i → ⊥) (planned t i)
  unfolding planned made d
  planned_free t i = grid_all made (λ (x : Entry). x.tick ≡ t + (gate C i).delay → x.gate ≡ i → ⊥) (mark t i) (t + 1) 64 (gate_count C)
      (λ u g p q r on eu eg. both_ways (mark t i (t + d i) i) (mark_old t i) (sym (ap (λ v. mark t i v g) eu ∙ ap (mark t i (t + d i)) eg) ∙ on))

  -- there is room for all
  pub planned_few : (t i : ℕ) → length (planned t i) ≤ sum_by (λ g. g.delay) C.gates
  unfolding planned mark made
  planned_few t i = spread C t 64 (cell made (mark t i)) (λ u g. few (ltb g i) (leb u (t + d g)) (ltb u (t + d g)) (changes u g) (made u g) (λ e. le-leb u (t + d g) (omega (arith, ltb-true u (t + d g) e))))
    where
      few : (a b c k : Bool) (x : Entry) → (c ≡ true → b ≡ true) → length (cond (cond a b c && k) (x ∷ []) []) ≤ cond b 1 0
      few true true c true x h = omega arith
      few true true c false x h = omega arith
      few true false c k x h = omega arith
      few false true true true x h = omega arith
      few false true true false x h = omega arith
      few false true false k x h = omega arith
      few false false true k x h = absurd (both_ways false refl (h refl))
      few false false false k x h = omega arith

  pub planned_room : WellFormed C → (t i : ℕ) → i < gate_count C → (L.code (drives L C s i (t + (gate C i).delay)) ≡ L.code (drives L C s i (t + (gate C i).delay - 1)) → ⊥) →
      length (planned t i) < sum_by (λ g. g.delay) C.gates
  planned_room ok t i lt ne =
      let x : Entry = record { tick = t + (gate C i).delay; gate = i; code = L.code (drives L C s i (t + (gate C i).delay)) } in
      omega (arith, planned_few t (i + 1), ap length (planned_more ok t i lt ne), length_placed before x (planned t i))
