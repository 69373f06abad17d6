-- The three laws of any two runs.
use Rattle.std.proofs.Common.{◌≡◌, ℕ, ◌+◌, ◌-◌, ◌<◌, ◌≤◌, Bool, true, not, eqb, leb, [], ◌∷◌, Some, None, Option, sym, refl, ap, ◌∙◌, subst, arith}
use Rattle.std.proofs.lemmas.Bool.{eqb-false}
use Rattle.logic.specs.Logic.{Logic, Laws, RefinedBy}
use Rattle.netlist.specs.Board.{Board}
use Rattle.signal.specs.Circuit.{gate_count}
use Rattle.signal.specs.Calls.{State, Call, Answer, read, shows, refused, level, answer, answers, checks, refusal, first_of}
use Rattle.signal.specs.Laws.{Life, reached, trace, net, TracesTell, LearningKeeps, Alike, GateOrderHides, ThreeLaws}
use Rattle.signal.proofs.Refining.{n_refines}
use Rattle.signal.proofs.Orders.{n_same}
use Rattle.signal.proofs.Pairing.{pairs_shuffle}
use Rattle.signal.proofs.Rows.{all_each}
use Rattle.signal.proofs.Lives.{Whole, whole, passed, recorded, wrote_life}
use Rattle.signal.proofs.Traces.{levels_from_traces, traces_from_levels}

module _ {V : Type 0} {L : Logic V} (laws : Laws L) where
  whole_run : (r : Life) → Whole laws r.board (reached L r)
  whole_run r = whole laws r.board r.fit r.calls

  -- ---- (a)
  trace_is : (r : Life) → trace L r ≡ recorded (reached L r)
  trace_is r = wrote_life L r.board r.fit r.calls

  traces_tell : TracesTell L
  traces_tell r q watch ticks = (
    λ e. levels_from_traces laws r.board q.board (reached L r) (reached L q) (whole_run r) (whole_run q) watch ticks r.well_formed (sym (trace_is r) ∙ e ∙ trace_is q),
    λ h. trace_is r ∙ traces_from_levels laws r.board q.board (reached L r) (reached L q) (whole_run r) (whole_run q) watch ticks h ∙ sym (trace_is q),
  )

  -- ---- (b)
  -- what read answers, by what it looks at
  said : ℕ → ℕ → Bool → ℕ → V → Answer
  said nets n fit ticks v =
      elim (first_of ((not fit, 16) ∷ (leb nets n, 22) ∷ (eqb ticks 0, 23) ∷ [])) [ Some fault ↦ refused fault ticks | None ↦ shows (L.code v) (L.definite v) ]

  read_is : (C : Board) (s : State V) (n : ℕ) → answer L C s (read n) ≡ said C.nets n s.fit s.ticks (level L C s n (s.ticks - 1))
  unfolding said
  read_is C s n = refl

  learns : (C C' : Board) → C ≡ C' → (s s' : State V) (t : ℕ) →
      ((g : ℕ) → g < gate_count C → RefinedBy L (s.start g) (s'.start g)) → ((p u : ℕ) → p < C.ports → u ≤ t → RefinedBy L (s.port p u) (s'.port p u)) →
      (n : ℕ) → RefinedBy L (level L C s n t) (level L C' s' n t)
  learns C C' e s s' t starts ports n =
      subst (λ D. RefinedBy L (level L C s n t) (level L D s' n t)) e (n_refines laws C s.start s'.start s.port s'.port starts t ports n)

  reads_alike : (C C' : Board) → C ≡ C' → (s s' : State V) (n t : ℕ) → s.fit ≡ true → s'.fit ≡ true → s.ticks ≡ t + 1 → s'.ticks ≡ t + 1 →
      level L C' s' n t ≡ level L C s n t → answer L C' s' (read n) ≡ answer L C s (read n)
  reads_alike C C' e s s' n t f f' k k' same =
      let last : s.ticks - 1 ≡ t = omega arith in
      let last' : s'.ticks - 1 ≡ t = omega arith in
      let one : answer L C s (read n) ≡ said C.nets n true (t + 1) (level L C s n t) =
      read_is C s n ∙ ap (λ b. said C.nets n b s.ticks (level L C s n (s.ticks - 1))) f
      ∙ ap (λ m. said C.nets n true m (level L C s n (s.ticks - 1))) k ∙ ap (λ m. said C.nets n true (t + 1) (level L C s n m)) last in
      let two : answer L C' s' (read n) ≡ said C'.nets n true (t + 1) (level L C' s' n t) =
      read_is C' s' n ∙ ap (λ b. said C'.nets n b s'.ticks (level L C' s' n (s'.ticks - 1))) f'
      ∙ ap (λ m. said C'.nets n true m (level L C' s' n (s'.ticks - 1))) k' ∙ ap (λ m. said C'.nets n true (t + 1) (level L C' s' n m)) last' in
      two ∙ ap (λ D. said D.nets n true (t + 1) (level L C' s' n t)) (sym e) ∙ ap (said C.nets n true (t + 1)) same ∙ sym one

  learning_keeps : LearningKeeps L
  learning_keeps r q t one lt lt' l n =
      let refines = learns r.board q.board one (reached L r) (reached L q) t l.starts l.ports n in
      let equal : L.definite (net L r n t) ≡ true → net L q n t ≡ net L r n t = λ d. laws.definite_only (net L r n t) (net L q n t) d refines in
      record {
        refines = refines;
        equal = equal;
        answered = λ d k k'. reads_alike r.board q.board one (reached L r) (reached L q) n t ((whole_run r).fits (omega arith)) ((whole_run q).fits (omega arith)) k k' (equal d);
      }

  -- ---- (c)
  nets_alike : (r q : Life) → Alike L r q → (reached L r).ticks ≡ (reached L q).ticks → (t : ℕ) → t < (reached L r).ticks → (n : ℕ) → net L r n t ≡ net L q n t
  nets_alike r q a ticks t lt n =
      sym (n_same laws r.board q.board (reached L r).start (reached L q).start (reached L r).port (reached L q).port (sym a.ports) a.gates t
      (λ p u below le. sym (a.inputs p u below (omega arith))) n)

  accepted : (C : Board) (s : State V) (c : Call) → refusal L C s c ≡ None → answer L C s c ≡ answers L C s c
  accepted C s c h = ap (λ (o : Option ℕ). elim o [ Some fault ↦ refused fault s.ticks | None ↦ answers L C s c ]) h

  order_hides : GateOrderHides L
  order_hides r q a ticks = (
    (traces_tell r q a.watch ticks).1 (λ t lt. all_each (λ n. net L r n t ≡ net L q n t) (nets_alike r q a ticks t lt) r.board.watches),
    λ n h k.
        let all = passed (checks L r.board (reached L r) (read n)) h in
        let some : (reached L r).ticks ≡ 0 → ⊥ = eqb-false (reached L r).ticks 0 all.1.1.0 in
        let shown : net L r n ((reached L r).ticks - 1) ≡ net L q n ((reached L q).ticks - 1) =
        nets_alike r q a ticks ((reached L r).ticks - 1) (omega arith) n ∙ ap (λ m. net L q n (m - 1)) ticks in
        accepted r.board (reached L r) (read n) h ∙ ap (λ v. shows (L.code v) (L.definite v)) shown ∙ sym (accepted q.board (reached L q) (read n) k),
  )

  pub three_laws : ThreeLaws L
  three_laws = record { traces = traces_tell; learning = learning_keeps; gate_order = order_hides; pairs = pairs_shuffle L }
