-- P and S are the values last accepted, and no call changes a level of a completed tick.
use Rattle.std.proofs.Common.{◌≡◌, ℕ, ◌<◌, ◌≤◌, Bool, true, false, cond, ◌&&◌, eqb, leb, List, [], ◌∷◌, ◌++◌, is_some, Some, None, Option, sym, refl, ap, ◌∙◌, subst, inl, inr, ⊎_elim, arith}
use Rattle.std.proofs.lemmas.Bool.{both_ways, not-false, cases_eq, and_parts, and_from, and_right, eqb-true, eq-eqb, leb-true, le-leb, lt-leb, ltb-false, cond-false}
use Rattle.logic.specs.Logic.{Logic, Laws}
use Rattle.netlist.specs.Board.{Board}
use Rattle.signal.specs.Calls.{State, Call, wake, drive, advance, read, opened, value_of, level, checks, refusal, leaves, after, lived}
use Rattle.signal.specs.Inputs.{then, Accepted, Drives, Wakes, Last, InputsLast}
use Rattle.signal.specs.Traces.{PastStands}
use Rattle.signal.proofs.Lives.{passed, level_same}

module _ {V : Type 0} {L : Logic V} (laws : Laws L) where
  -- the value of a code has that code
  code_of : (k : ℕ) (v : V) → L.of_code k ≡ Some v → L.code v ≡ k
  code_of k v found =
      ⊎_elim (λ e. e) (λ ne. absurd (
      let none : L.of_code k ≡ None = laws.code_none k (λ a e.
      let again : L.of_code k ≡ Some a = subst (λ n. L.of_code n ≡ Some a) e (laws.code_back a) in
      let same : v ≡ a = cc in
      ne (ap L.code same ∙ e)) in
      let z : ◌≡◌ {A = ℕ} 0 1 = cc in
      omega arith)) (cases_eq (L.code v) k)

  code_value : (k : ℕ) → is_some (L.of_code k) ≡ true → L.code (value_of L k) ≡ k
  code_value k = by (L.of_code k) refl
    where
      by : (o : Option V) → L.of_code k ≡ o → is_some o ≡ true → L.code (elim o [ Some v ↦ v | None ↦ L.unset ]) ≡ k
      by (Some v) e h = code_of k v e
      by None e h = absurd (both_ways false refl h)

  module _ (C : Board) (fit : Bool) (earlier : List Call) where
    abbrev s : State V
    s = then L C fit earlier

    -- what call c leaves, by the fault that refuses it
    abbrev left : Call → Option ℕ → State V
    left c o = elim o [ Some fault ↦ s | None ↦ leaves L C s c ]

    -- a call that gives nothing leaves what was given last
    old : (Gives : List Call → Call → V → Type 0) (c : Call) (v : V) → ((w : V) → Gives earlier c w → ⊥) → Last L C fit Gives earlier v → Last L C fit Gives (c ∷ earlier) v
    old Gives c v never past = inr (never, past)

    -- a refused call gives nothing
    unheard : (c : Call) (n : ℕ) → refusal L C s c ≡ Some n → Accepted L C fit earlier c → ⊥
    unheard c n e h = let z : ◌≡◌ {A = ℕ} 0 1 = cc in omega arith

    module _ (p t : ℕ) (past : Last L C fit (Drives L C fit p t) earlier (s.port p t)) where
      driven : (q k : ℕ) → refusal L C s (drive q k) ≡ None → (b : Bool) → (eqb p q && leb s.ticks t) ≡ b →
          Last L C fit (Drives L C fit p t) (drive q k ∷ earlier) (cond b (value_of L k) (s.port p t))
      driven q k e true on =
          let both = and_parts (eqb p q) (leb s.ticks t) on in
          let all = passed (checks L C s (drive q k)) e in
          let coded : L.code (value_of L k) ≡ k = code_value k (not-false (is_some (L.of_code k)) all.1.1.0) in
          inl (ap (λ x. drive x k) (sym (eqb-true p q both.0)) ∙ ap (drive p) (sym coded), e, leb-true s.ticks t both.1)
      driven q k e false off = old (Drives L C fit p t) (drive q k) (s.port p t) (λ w h.
          let is = h.0 in
          let port : p ≡ q = cc in
          both_ways (eqb p q && leb s.ticks t) off (and_from (eqb p q) (leb s.ticks t) (eq-eqb p q port) (le-leb s.ticks t h.2))) past

      port_worked : (c : Call) → refusal L C s c ≡ None → Last L C fit (Drives L C fit p t) (c ∷ earlier) ((leaves L C s c).port p t)
      port_worked (wake g k) e = old (Drives L C fit p t) (wake g k) (s.port p t) (λ w h. let is = h.0 in let z : ◌≡◌ {A = ℕ} 0 1 = cc in omega arith) past
      port_worked (drive q k) e = driven q k e (eqb p q && leb s.ticks t) refl
      port_worked (advance k room) e = old (Drives L C fit p t) (advance k room) (s.port p t) (λ w h. let is = h.0 in let z : ◌≡◌ {A = ℕ} 0 1 = cc in omega arith) past
      port_worked (read n) e = old (Drives L C fit p t) (read n) (s.port p t) (λ w h. let is = h.0 in let z : ◌≡◌ {A = ℕ} 0 1 = cc in omega arith) past

      port_after : (c : Call) (o : Option ℕ) → refusal L C s c ≡ o → Last L C fit (Drives L C fit p t) (c ∷ earlier) ((left c o).port p t)
      port_after c (Some n) e = old (Drives L C fit p t) c (s.port p t) (λ w h. unheard c n e h.1) past
      port_after c None e = port_worked c e

    module _ (g : ℕ) (past : Last L C fit (Wakes L C fit g) earlier (s.start g)) where
      woken : (i k : ℕ) → refusal L C s (wake i k) ≡ None → (b : Bool) → eqb g i ≡ b → Last L C fit (Wakes L C fit g) (wake i k ∷ earlier) (cond b (value_of L k) (s.start g))
      woken i k e true on =
          let all = passed (checks L C s (wake i k)) e in
          let coded : L.code (value_of L k) ≡ k = code_value k (not-false (is_some (L.of_code k)) all.1.1.0) in
          inl (ap (λ x. wake x k) (sym (eqb-true g i on)) ∙ ap (wake g) (sym coded), e)
      woken i k e false off = old (Wakes L C fit g) (wake i k) (s.start g) (λ w h.
          let is = h.0 in
          let gate : g ≡ i = cc in
          both_ways (eqb g i) off (eq-eqb g i gate)) past

      start_worked : (c : Call) → refusal L C s c ≡ None → Last L C fit (Wakes L C fit g) (c ∷ earlier) ((leaves L C s c).start g)
      start_worked (wake i k) e = woken i k e (eqb g i) refl
      start_worked (drive p k) e = old (Wakes L C fit g) (drive p k) (s.start g) (λ w h. let is = h.0 in let z : ◌≡◌ {A = ℕ} 0 1 = cc in omega arith) past
      start_worked (advance k room) e = old (Wakes L C fit g) (advance k room) (s.start g) (λ w h. let is = h.0 in let z : ◌≡◌ {A = ℕ} 0 1 = cc in omega arith) past
      start_worked (read n) e = old (Wakes L C fit g) (read n) (s.start g) (λ w h. let is = h.0 in let z : ◌≡◌ {A = ℕ} 0 1 = cc in omega arith) past

      start_after : (c : Call) (o : Option ℕ) → refusal L C s c ≡ o → Last L C fit (Wakes L C fit g) (c ∷ earlier) ((left c o).start g)
      start_after c (Some n) e = old (Wakes L C fit g) c (s.start g) (λ w h. unheard c n e h.1) past
      start_after c None e = start_worked c e

  module _ (C : Board) (fit : Bool) where
    ports_last : (calls : List Call) (p t : ℕ) → Last L C fit (Drives L C fit p t) calls ((then L C fit calls).port p t)
    ports_last [] p t = refl
    ports_last (c ∷ earlier) p t = port_after C fit earlier p t (ports_last earlier p t) c (refusal L C (then L C fit earlier) c) refl

    starts_last : (calls : List Call) (g : ℕ) → Last L C fit (Wakes L C fit g) calls ((then L C fit calls).start g)
    starts_last [] g = refl
    starts_last (c ∷ earlier) g = start_after C fit earlier g (starts_last earlier g) c (refusal L C (then L C fit earlier) c) refl

  pub inputs_last : InputsLast L
  inputs_last C fit calls = record { ports = ports_last C fit calls; starts = starts_last C fit calls }

  -- ---- completed ticks
  module _ (C : Board) where
    abbrev Keeps : State V → State V → Type 0
    Keeps s s' = (s.ticks ≤ s'.ticks) × ((n t : ℕ) → t < s.ticks → level L C s' n t ≡ level L C s n t)

    leaves_keeps : (s : State V) (c : Call) → refusal L C s c ≡ None → Keeps s (leaves L C s c)
    leaves_keeps s (wake g k) e =
        let all = passed (checks L C s (wake g k)) e in
        (omega arith, λ n t lt. absurd (omega (arith, ltb-false 0 s.ticks all.1.1.1.0)))
    leaves_keeps s (drive p k) e = (
      omega arith,
      λ n t lt. level_same laws C s (leaves L C s (drive p k)) t refl (λ q u le.
          cond-false (eqb q p && leb s.ticks u) _ (s.port q u) (and_right (eqb q p) (leb s.ticks u) (lt-leb s.ticks u (omega arith)))) n,
    )
    leaves_keeps s (advance k room) e = (omega arith, λ n t lt. refl)
    leaves_keeps s (read m) e = (omega arith, λ n t lt. refl)

    after_keeps : (s : State V) (c : Call) → Keeps s (after L C s c)
    after_keeps s c = by (refusal L C s c) refl
      where
        by : (o : Option ℕ) → refusal L C s c ≡ o → Keeps s (elim o [ Some fault ↦ s | None ↦ leaves L C s c ])
        by (Some n) e = (omega arith, λ n t lt. refl)
        by None e = leaves_keeps s c e

    lived_keeps : (s : State V) (later earlier : List Call) → Keeps (lived L C s earlier) (lived L C s (later ++ earlier))
    lived_keeps s [] earlier = (omega arith, λ n t lt. refl)
    lived_keeps s (c ∷ later) earlier =
        let past = lived_keeps s later earlier in
        let here = after_keeps (lived L C s (later ++ earlier)) c in
        (omega (arith, past.0, here.0), λ n t lt. here.1 n t (omega (arith, past.0)) ∙ past.1 n t lt)

  pub past_stands : PastStands L
  past_stands C fit later earlier n t lt = (lived_keeps C (opened L fit) later earlier).1 n t lt
