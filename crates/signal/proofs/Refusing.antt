-- A call is refused with the lowest fault that is called for, and changes nothing then.
use Rattle.std.proofs.Common.{◌≡◌, ℕ, ◌+◌, ◌<◌, Bool, true, false, not, ◌⊎◌, List, [], ◌∷◌, is_some, Some, None, Option, sym, refl, ap, ◌∙◌, subst, inl, inr, ⊎_elim, arith}
use Rattle.std.specs.List.{AllByRecursion}
use Rattle.std.proofs.lemmas.Bool.{both_ways, not-true, not_from_false, leb-true, le-leb, ltb-true, lt-ltb, eqb-true, eq-eqb}
use Rattle.logic.specs.Logic.{Logic, Laws}
use Rattle.netlist.specs.Board.{Board}
use Rattle.signal.specs.Circuit.{gate_count}
use Rattle.signal.specs.Calls.{State, Call, wake, drive, advance, read, Answer, refused, first_of, most_ticks, tick_room, checks, refusal, leaves, answers, answer}
use Rattle.signal.specs.Refusals.{Fault, run_layer, fault, Valueless, Wrong, RefusedExactly, RefusalsExact}

-- ---- checks in order
-- a check of number n finds something wrong
abbrev Fires : List (Bool × ℕ) → ℕ → Type 0
Fires [] n = ⊥
Fires (c ∷ cs) n = ((n ≡ c.1) × (c.0 ≡ true)) ⊎ Fires cs n

abbrev Rising : List (Bool × ℕ) → Type 0
Rising [] = Unit {0}
Rising (c ∷ cs) = AllByRecursion (λ (d : Bool × ℕ). c.1 < d.1) cs × Rising cs

fires_above : (k : ℕ) (cs : List (Bool × ℕ)) (n : ℕ) → AllByRecursion (λ (d : Bool × ℕ). k < d.1) cs → Fires cs n → k < n
fires_above k [] n h f = elim f [ ]
fires_above k (c ∷ cs) n h (inl e) = omega (arith, e.0, h.0)
fires_above k (c ∷ cs) n h (inr f) = fires_above k cs n h.1 f

abbrev Least : List (Bool × ℕ) → ℕ → Type 0
Least cs n = Fires cs n × ((m : ℕ) → m < n → Fires cs m → ⊥)

first_fires : (cs : List (Bool × ℕ)) (n : ℕ) → Rising cs → first_of cs ≡ Some n → Least cs n
first_fires [] n up h = absurd (let z : ◌≡◌ {A = ℕ} 0 1 = cc in omega arith)
first_fires (c ∷ cs) n up h = by (first_fires cs n up.1) c.0 refl h
  where
    by : (first_of cs ≡ Some n → Least cs n) → (b : Bool) → c.0 ≡ b → ◌≡◌ {A = Option ℕ} (elim b [ true ↦ Some c.1 | false ↦ first_of cs ]) (Some n) → Least (c ∷ cs) n
    by later true on e =
        let is : n ≡ c.1 = cc in
        (inl (is, on), λ m lt. ⊎_elim (λ (f : (m ≡ c.1) × (c.0 ≡ true)). omega (arith, f.0)) (λ f. omega (arith, fires_above c.1 cs m up.0 f)))
    by later false off e =
        let rest = later e in
        (inr rest.0, λ m lt. ⊎_elim (λ (f : (m ≡ c.1) × (c.0 ≡ true)). both_ways c.0 off f.1) (rest.1 m lt))

fires_first : (cs : List (Bool × ℕ)) (n : ℕ) → Rising cs → Least cs n → first_of cs ≡ Some n
fires_first [] n up h = elim h.0 [ ]
fires_first (c ∷ cs) n up h = by (fires_first cs n up.1) c.0 refl
  where
    by : (Least cs n → first_of cs ≡ Some n) → (b : Bool) → c.0 ≡ b → ◌≡◌ {A = Option ℕ} (elim b [ true ↦ Some c.1 | false ↦ first_of cs ]) (Some n)
    by later true on =
        ap (λ k. Some k) (⊎_elim (λ (f : (n ≡ c.1) × (c.0 ≡ true)). sym f.0) (λ f. absurd (h.1 c.1 (fires_above c.1 cs n up.0 f) (inl (refl, on)))) h.0)
    by later false off =
        ⊎_elim (λ (f : (n ≡ c.1) × (c.0 ≡ true)). absurd (both_ways c.0 off f.1)) (λ f. later (f, λ m lt g. h.1 m lt (inr g))) h.0

none_fires : (cs : List (Bool × ℕ)) → ((n : ℕ) → Fires cs n → ⊥) → first_of cs ≡ None
none_fires [] h = refl
none_fires (c ∷ cs) h = by (none_fires cs (λ n f. h n (inr f))) c.0 refl
  where
    by : first_of cs ≡ None → (b : Bool) → c.0 ≡ b → ◌≡◌ {A = Option ℕ} (elim b [ true ↦ Some c.1 | false ↦ first_of cs ]) None
    by later true on = absurd (h c.1 (inl (refl, on)))
    by later false off = later

-- ---- what is wrong, by the checks
numbered : {n k : ℕ} {A B : Type 0} → (A → B) → (n ≡ k) × A → (n ≡ k) × B
numbered f h = (h.0, f h.1)

either : {A B X Y : Type 0} → (A → X) → (B → Y) → A ⊎ B → X ⊎ Y
either f g = ⊎_elim (λ a. inl (f a)) (λ b. inr (g b))

last : {X : Type 0} → X ⊎ ⊥ → X
last = ⊎_elim (λ x. x) (λ e. elim e [ ])

module _ {V : Type 0} {L : Logic V} (laws : Laws L) (C : Board) (s : State V) where
  valueless_on : (k : ℕ) → Valueless L C k → not (is_some (L.of_code k)) ≡ true
  valueless_on k h = ap (λ (o : Option V). not (is_some o)) (laws.code_none k h)

  on_valueless : (k : ℕ) → not (is_some (L.of_code k)) ≡ true → Valueless L C k
  on_valueless k on v e =
      let found : L.of_code k ≡ Some v = subst (λ n. L.of_code n ≡ Some v) e (laws.code_back v) in
      both_ways (is_some (L.of_code k)) (not-true (is_some (L.of_code k)) on) (ap (λ (o : Option V). is_some o) found)

  wrong_fires : (c : Call) (n : ℕ) → Wrong L C s c n → Fires (checks L C s c) n
  wrong_fires (wake g k) n =
      either (numbered (not_from_false s.fit)) (either (numbered (le-leb (gate_count C) g)) (either (numbered (valueless_on k)) (λ h. inl (numbered (lt-ltb 0 s.ticks) h))))
  wrong_fires (drive p k) n =
      either (numbered (not_from_false s.fit)) (either (numbered (le-leb C.ports p)) (λ h. inl (numbered (valueless_on k) h)))
  wrong_fires (advance k room) n =
      either (numbered (not_from_false s.fit)) (either (numbered (eq-eqb k 0)) (either (numbered (lt-ltb most_ticks (s.ticks + k))) (λ h. inl (numbered (lt-ltb room (tick_room L C)) h))))
  wrong_fires (read m) n =
      either (numbered (not_from_false s.fit)) (either (numbered (le-leb C.nets m)) (λ h. inl (numbered (eq-eqb s.ticks 0) h)))

  fires_wrong : (c : Call) (n : ℕ) → Fires (checks L C s c) n → Wrong L C s c n
  fires_wrong (wake g k) n =
      either (numbered (not-true s.fit)) (either (numbered (leb-true (gate_count C) g)) (either (numbered (on_valueless k)) (λ h. numbered (ltb-true 0 s.ticks) (last h))))
  fires_wrong (drive p k) n =
      either (numbered (not-true s.fit)) (either (numbered (leb-true C.ports p)) (λ h. numbered (on_valueless k) (last h)))
  fires_wrong (advance k room) n =
      either (numbered (not-true s.fit)) (either (numbered (eqb-true k 0)) (either (numbered (ltb-true most_ticks (s.ticks + k))) (λ h. numbered (ltb-true room (tick_room L C)) (last h))))
  fires_wrong (read m) n =
      either (numbered (not-true s.fit)) (either (numbered (leb-true C.nets m)) (λ h. numbered (eqb-true s.ticks 0) (last h)))

  rising : (c : Call) → Rising (checks L C s c)
  rising (wake g k) = ((omega arith, (omega arith, (omega arith, tt))), ((omega arith, (omega arith, tt)), ((omega arith, tt), (tt, tt))))
  rising (drive p k) = ((omega arith, (omega arith, tt)), ((omega arith, tt), (tt, tt)))
  rising (advance k room) = ((omega arith, (omega arith, (omega arith, tt))), ((omega arith, (omega arith, tt)), ((omega arith, tt), (tt, tt))))
  rising (read n) = ((omega arith, (omega arith, tt)), ((omega arith, tt), (tt, tt)))

  -- ---- refused and worked calls
  abbrev CalledFor : Call → ℕ → Type 0
  CalledFor c n = Wrong L C s c n × ((m : ℕ) → m < n → Wrong L C s c m → ⊥)

  refusal_called : (c : Call) (n : ℕ) → refusal L C s c ≡ Some n → CalledFor c n
  refusal_called c n e = let f = first_fires (checks L C s c) n (rising c) e in (fires_wrong c n f.0, λ m lt w. f.1 m lt (wrong_fires c m w))

  called_refusal : (c : Call) (n : ℕ) → CalledFor c n → refusal L C s c ≡ Some n
  called_refusal c n h = fires_first (checks L C s c) n (rising c) (wrong_fires c n h.0, λ m lt f. h.1 m lt (fires_wrong c m f))

  no_fault : (c : Call) → fault (answers L C s c) ≡ None
  no_fault (wake g k) = refl
  no_fault (drive p k) = refl
  no_fault (advance k room) = refl
  no_fault (read n) = refl

  -- the answer, and the state, by the fault that refuses the call
  said : Call → Option ℕ → Answer
  said c o = elim o [ Some n ↦ refused n s.ticks | None ↦ answers L C s c ]

  left : Call → Option ℕ → State V
  left c o = elim o [ Some n ↦ s | None ↦ leaves L C s c ]

  fault_of : Fault → Option Fault → Fault
  fault_of d (Some f) = f
  fault_of d None = d

  faulty : (c : Call) (f : Fault) → fault (answer L C s c) ≡ Some f → (f.layer ≡ run_layer) × (f.place ≡ s.ticks) × (refusal L C s c ≡ Some f.number)
  unfolding said fault_of
  faulty c f = by (refusal L C s c) refl
    where
      by : (o : Option ℕ) → refusal L C s c ≡ o → fault (said c o) ≡ Some f → (f.layer ≡ run_layer) × (f.place ≡ s.ticks) × (refusal L C s c ≡ Some f.number)
      by (Some n) e h =
          let same = ap (fault_of f) h in
          (sym (ap (λ (x : Fault). x.layer) same), sym (ap (λ (x : Fault). x.place) same), e ∙ ap (λ (x : Fault). Some x.number) same)
      by None e h = absurd (let none = no_fault c in let z : ◌≡◌ {A = ℕ} 0 1 = cc in omega arith)

  pub refused_exactly : (c : Call) → RefusedExactly L C s c
  unfolding said left
  refused_exactly c = record {
    refuses = λ f. (
      λ h. let it = faulty c f h in let called = refusal_called c f.number it.2 in (it.0, it.1, called.0, called.1),
      λ h.
          ap (λ o. fault (said c o)) (called_refusal c f.number (h.2, h.3))
          ∙ ap (λ l. Some (record { number = f.number; layer = l; place = s.ticks })) (sym h.0)
          ∙ ap (λ p. Some (record { number = f.number; layer = f.layer; place = p })) (sym h.1),
    );
    works = λ h. let none = none_fires (checks L C s c) (λ n w. h n (fires_wrong c n w)) in (ap (left c) none, ap (said c) none);
    unchanged = λ f h. ap (left c) (faulty c f h).2;
  }

pub refusals_exact : {V : Type 0} {L : Logic V} → Laws L → RefusalsExact L
refusals_exact laws C s c = refused_exactly laws C s c
