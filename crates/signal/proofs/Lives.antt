-- What every call keeps of a run's state.
use Rattle.std.proofs.Common.{◌≡◌, ℕ, zero, suc, ◌+◌, ◌<◌, ◌≤◌, Bool, true, false, cond, ◌&&◌, eqb, ltb, leb, List, [], ◌∷◌, ◌++◌, Some, None, Option, sym, refl, ap, ◌∙◌, arith}
use mathlib.Core.Path.{fun_ext}
use Rattle.std.specs.List.{range_with_len, flat_map, AllByRecursion}
use Rattle.std.proofs.lemmas.List.Sorted.{IsPermutation-refl}
use Rattle.std.proofs.lemmas.List.{append-nil}
use Rattle.std.proofs.lemmas.Bool.{ltb-false, lt-leb, and_right, cond-false, not-false}
use Rattle.logic.specs.Logic.{Logic, Laws}
use Rattle.netlist.specs.Board.{Board}
use Rattle.signal.specs.Signal.{started, N}
use Rattle.signal.specs.Calls.{State, Call, wake, drive, advance, read, opened, first_of, most_ticks, level, level_before, changes_at, completes, written, tick_room, checks, refusal, leaves, after, lived, change_bytes, answers, answer, replies, wrote, refused}
use Rattle.signal.proofs.Orders.{n_same}
use Rattle.std.proofs.lemmas.Grind.{flat_map-append}
use Rattle.signal.proofs.Rows.{joined_each, counting_append, counting_all}

-- ---- checks
no_fault : (b : Bool) (n : ℕ) (o : Option ℕ) → ◌≡◌ {A = Option ℕ} (elim b [ true ↦ Some n | false ↦ o ]) None → (b ≡ false) × (o ≡ None)
no_fault true n o h = absurd (let z : ◌≡◌ {A = ℕ} 0 1 = cc in omega arith)
no_fault false n o h = (refl, h)

pub passed : (cs : List (Bool × ℕ)) → first_of cs ≡ None → AllByRecursion (λ check. check.0 ≡ false) cs
passed [] h = tt
passed (c ∷ cs) h = let here = no_fault c.0 c.1 (first_of cs) h in (here.0, passed cs here.1)

module _ {V : Type 0} {L : Logic V} (laws : Laws L) (C : Board) where
  -- the levels of a completed tick stay
  pub level_same : (s s' : State V) (t : ℕ) → s'.start ≡ s.start → ((p u : ℕ) → u ≤ t → s'.port p u ≡ s.port p u) → (n : ℕ) → level L C s' n t ≡ level L C s n t
  level_same s s' t starts ports n =
      ap (λ S. N L C S s'.port n t) starts ∙ n_same laws C C s.start s.start s.port s'.port refl (IsPermutation-refl (started C s.start)) t (λ p u _ le. ports p u le) n

  pub before_same : (s s' : State V) (t : ℕ) → s'.start ≡ s.start → ((p u : ℕ) → u ≤ t → s'.port p u ≡ s.port p u) → (n : ℕ) → level_before L C s' n t ≡ level_before L C s n t
  before_same s s' zero starts ports n = refl
  before_same s s' (suc t) starts ports n = level_same s s' t starts (λ p u le. ports p u (omega arith)) n

  pub completes_le : (s : State V) (k t room : ℕ) → completes L C s k t room ≤ k
  completes_le s zero t room = omega arith
  completes_le s (suc k) t room = by (ltb room (tick_room L C)) (completes_le s k (t + 1) _)
    where
      by : (b : Bool) {m : ℕ} → m ≤ k → ◌≤◌ (elim b [ true ↦ 0 | false ↦ suc m ]) (suc k)
      by true h = omega arith
      by false h = omega arith

  pub record Whole (s : State V) : Type 0 where
    pub early : s.ticks ≤ most_ticks
    pub fits : 0 < s.ticks → s.fit ≡ true
    pub told : s.changes ≡ flat_map (changes_at L C s) (range_with_len 0 s.ticks)

  whole_opened : (fit : Bool) → Whole (opened L fit)
  whole_opened fit = record { early = omega arith; fits = λ h. absurd (omega arith); told = refl }

  whole_leaves : (s : State V) (c : Call) → refusal L C s c ≡ None → Whole s → Whole (leaves L C s c)
  whole_leaves s (wake g c) ok w =
      let all = passed (checks L C s (wake g c)) ok in
      let none : s.ticks ≡ 0 = omega (arith, ltb-false 0 s.ticks all.1.1.1.0) in
      let s' = leaves L C s (wake g c) in
      record {
        early = w.early;
        fits = w.fits;
        told = w.told ∙ ap (λ n. flat_map (changes_at L C s) (range_with_len 0 n)) none ∙ sym (ap (λ n. flat_map (changes_at L C s') (range_with_len 0 n)) none);
      }
  whole_leaves s (drive p c) ok w =
      let s' = leaves L C s (drive p c) in
      let ports : (t : ℕ) → t < s.ticks → (q u : ℕ) → u ≤ t → s'.port q u ≡ s.port q u =
      λ t lt q u le. cond-false (eqb q p && leb s.ticks u) _ (s.port q u) (and_right (eqb q p) (leb s.ticks u) (lt-leb s.ticks u (omega arith))) in
      let tick : (t : ℕ) → t < s.ticks → changes_at L C s t ≡ changes_at L C s' t = λ t lt.
      ap (λ f. flat_map f C.watches) (fun_ext (λ n.
      let now = sym (level_same s s' t refl (ports t lt) n) in
      let was = sym (before_same s s' t refl (ports t lt) n) in
      ap (λ v. cond (eqb (L.code v) (L.code (level_before L C s n t))) [] (record { tick = t; net = n; code = L.code v } ∷ [])) now
      ∙ ap (λ v. cond (eqb (L.code (level L C s' n t)) (L.code v)) [] (record { tick = t; net = n; code = L.code (level L C s' n t) } ∷ [])) was)) in
      record {
        early = w.early;
        fits = w.fits;
        told = w.told ∙ joined_each (changes_at L C s) (changes_at L C s') (range_with_len 0 s.ticks) (counting_all _ 0 s.ticks (λ t _ lt. tick t (omega arith)));
      }
  whole_leaves s (advance k room) ok w =
      let all = passed (checks L C s (advance k room)) ok in
      let few = completes_le s k s.ticks room in
      let m = completes L C s k s.ticks room in
      let f = changes_at L C s in
      let start : 0 + s.ticks ≡ s.ticks = omega arith in
      record {
        early = omega (arith, ltb-false most_ticks (s.ticks + k) all.1.1.0);
        fits = λ _. not-false s.fit all.0;
        told =
            ap (λ l. l ++ flat_map f (range_with_len s.ticks m)) w.told
            ∙ ap (λ a. flat_map f (range_with_len 0 s.ticks) ++ flat_map f (range_with_len a m)) (sym start)
            ∙ sym (flat_map-append f (range_with_len 0 s.ticks) (range_with_len (0 + s.ticks) m))
            ∙ ap (flat_map f) (sym (counting_append 0 s.ticks m));
      }
  whole_leaves s (read n) ok w = w

  whole_after : (s : State V) (c : Call) → Whole s → Whole (after L C s c)
  whole_after s c w = by (refusal L C s c) refl
    where
      by : (o : Option ℕ) → refusal L C s c ≡ o → Whole (elim o [ Some fault ↦ s | None ↦ leaves L C s c ])
      by (Some fault) e = w
      by None e = whole_leaves s c e w

  whole_life : (s : State V) (cs : List Call) → Whole s → Whole (lived L C s cs)
  whole_life s [] w = w
  whole_life s (c ∷ cs) w = whole_after (lived L C s cs) c (whole_life s cs w)

  pub whole : (fit : Bool) (cs : List Call) → Whole (lived L C (opened L fit) cs)
  whole fit cs = whole_life (opened L fit) cs (whole_opened fit)

-- ---- the records of a state are what the calls wrote
abbrev pub recorded : {V : Type 0} → State V → List ℕ
recorded s = flat_map change_bytes s.changes

module _ {V : Type 0} (L : Logic V) (C : Board) where
  wrote_leaves : (s : State V) (c : Call) → recorded (leaves L C s c) ≡ recorded s ++ wrote (answers L C s c)
  wrote_leaves s (wake g c) = sym (append-nil (recorded s))
  wrote_leaves s (drive p c) = sym (append-nil (recorded s))
  wrote_leaves s (advance k room) = flat_map-append change_bytes s.changes (written L C s k room)
  wrote_leaves s (read n) = sym (append-nil (recorded s))

  wrote_after : (s : State V) (c : Call) → recorded (after L C s c) ≡ recorded s ++ wrote (answer L C s c)
  wrote_after s c = by (refusal L C s c)
    where
      by : (o : Option ℕ) → recorded (elim o [ Some fault ↦ s | None ↦ leaves L C s c ]) ≡ recorded s ++ wrote (elim o [ Some fault ↦ refused fault s.ticks | None ↦ answers L C s c ])
      by (Some fault) = sym (append-nil (recorded s))
      by None = wrote_leaves s c

  pub wrote_life : (fit : Bool) (cs : List Call) → flat_map wrote (replies L C (opened L fit) cs) ≡ recorded (lived L C (opened L fit) cs)
  wrote_life fit [] = refl
  wrote_life fit (c ∷ cs) =
      let s = opened L fit in
      let a = answer L C (lived L C s cs) c in
      flat_map-append wrote (replies L C s cs) (a ∷ [])
      ∙ ap (λ l. flat_map wrote (replies L C s cs) ++ l) (append-nil (wrote a))
      ∙ ap (λ l. l ++ wrote a) (wrote_life fit cs)
      ∙ sym (wrote_after (lived L C s cs) c)
