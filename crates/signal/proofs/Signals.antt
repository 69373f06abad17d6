-- The defining equations of D and N.
use Rattle.std.proofs.Common.{◌≡◌, ℕ, zero, suc, ◌-◌, ◌<◌, ◌≤◌, cond, eqb, ltb, List, [], ◌∷◌, ◌++◌, sym, refl, ap, ◌∙◌, ⊎_elim, arith}
use Rattle.std.specs.List.{range_with_len, flat_map, AllByRecursion}
use Rattle.std.proofs.lemmas.Bool.{eq-eqb, ne_eqb, cases_eq, lt-ltb, le-ltb, cases_lt}
use Rattle.logic.specs.Logic.{Logic}
use Rattle.netlist.specs.Board.{Board}
use Rattle.netlist.specs.Kinds.{kind_number}
use Rattle.signal.specs.Circuit.{gate, gate_count, operate}
use Rattle.signal.specs.Signal.{Levels, resolved, driven, from_port, carried, before, N, D, Signals, SignalDefinition}
use Rattle.signal.proofs.Rows.{joined_each, counting_all}

module _ {V : Type 0} (L : Logic V) (C : Board) (S : ℕ → V) (P : ℕ → ℕ → V) where
  pub before_last : (t n : ℕ) → before L C S P (suc t) n t ≡ carried L C S P (before L C S P t) n t
  unfolding before
  before_last t n = rw (eq-eqb t t refl, before)

  pub before_other : (t n u : ℕ) → (u ≡ t → ⊥) → before L C S P (suc t) n u ≡ before L C S P t n u
  unfolding before
  before_other t n u h = rw (ne_eqb u t h, before)

  pub n_by_before : (n t : ℕ) → N L C S P n t ≡ carried L C S P (before L C S P t) n t
  unfolding N
  n_by_before n t = refl

  pub before_is : (t n u : ℕ) → u < t → before L C S P t n u ≡ N L C S P n u
  before_is zero n u h = absurd (omega arith)
  before_is (suc t) n u h =
      ⊎_elim
      (λ e. ap (before L C S P (suc t) n) e ∙ before_last t n ∙ sym (n_by_before n t) ∙ ap (N L C S P n) (sym e))
      (λ ne. before_other t n u ne ∙ before_is t n u (omega arith))
      (cases_eq u t)

  driven_before : (M : Levels V) (g t : ℕ) → t < (gate C g).delay → driven L C S P M g t ≡ S g
  driven_before M g t h = rw (lt-ltb t (gate C g).delay h, driven)

  driven_after : (M : Levels V) (g t : ℕ) → (gate C g).delay ≤ t →
      driven L C S P M g t ≡ operate L (kind_number (gate C g).kind) (M (gate C g).a (t - (gate C g).delay)) (M (gate C g).b (t - (gate C g).delay))
  driven_after M g t h = rw (le-ltb t (gate C g).delay h, driven)

  pub d_before : (g t : ℕ) → t < (gate C g).delay → D L C S P g t ≡ S g
  unfolding D
  d_before g t h = driven_before (before L C S P t) g t h

  pub d_after : (g t : ℕ) → 1 ≤ (gate C g).delay → (gate C g).delay ≤ t →
      D L C S P g t ≡ operate L (kind_number (gate C g).kind) (N L C S P (gate C g).a (t - (gate C g).delay)) (N L C S P (gate C g).b (t - (gate C g).delay))
  unfolding D
  d_after g t one h =
      let a = before_is t (gate C g).a (t - (gate C g).delay) (omega arith) in
      let b = before_is t (gate C g).b (t - (gate C g).delay) (omega arith) in
      driven_after (before L C S P t) g t h
      ∙ ap (λ x. operate L (kind_number (gate C g).kind) x (before L C S P t (gate C g).b (t - (gate C g).delay))) a
      ∙ ap (λ y. operate L (kind_number (gate C g).kind) (N L C S P (gate C g).a (t - (gate C g).delay)) y) b

  pub n_is : (n t : ℕ) →
      N L C S P n t
      ≡ resolved L (cond (ltb n C.ports) (P n t ∷ []) [] ++ flat_map (λ g. cond (eqb (gate C g).out n) (D L C S P g t ∷ []) []) (range_with_len 0 (gate_count C)))
  unfolding N D
  n_is n t = refl

  -- ---- the definition has one solution
  meets : ((g : ℕ) → g < gate_count C → 1 ≤ (gate C g).delay) → Signals L C S P (N L C S P) (D L C S P)
  meets delays = record { early = λ g t _ h. d_before g t h; late = λ g t lt h. d_after g t (delays g lt) h; nets = n_is }

  module _ (delays : (g : ℕ) → g < gate_count C → 1 ≤ (gate C g).delay) (N' : Levels V) (D' : ℕ → ℕ → V) (m : Signals L C S P N' D') where
    gate_same : (t : ℕ) → ((n u : ℕ) → u < t → N' n u ≡ N L C S P n u) → (g : ℕ) → g < gate_count C → D' g t ≡ D L C S P g t
    gate_same t past g lt =
        let r = gate C g in
        ⊎_elim
        (λ h. m.early g t lt h ∙ sym (d_before g t h))
        (λ h.
        let one = delays g lt in
        let a = past r.a (t - r.delay) (omega arith) in
        let b = past r.b (t - r.delay) (omega arith) in
        m.late g t lt h
        ∙ ap (λ x. operate L (kind_number r.kind) x (N' r.b (t - r.delay))) a
        ∙ ap (λ y. operate L (kind_number r.kind) (N L C S P r.a (t - r.delay)) y) b
        ∙ sym (d_after g t one h))
        (cases_lt t r.delay)

    net_same : (t : ℕ) → ((n u : ℕ) → u < t → N' n u ≡ N L C S P n u) → (n : ℕ) → N' n t ≡ N L C S P n t
    net_same t past n =
        let f' : ℕ → List V = λ g. cond (eqb (gate C g).out n) (D' g t ∷ []) [] in
        let f : ℕ → List V = λ g. cond (eqb (gate C g).out n) (D L C S P g t ∷ []) [] in
        let gs = range_with_len 0 (gate_count C) in
        let each : AllByRecursion (λ g. f' g ≡ f g) gs = counting_all (λ g. f' g ≡ f g) 0 (gate_count C) (λ g _ lt. ap (λ v. cond (eqb (gate C g).out n) (v ∷ []) []) (gate_same t past g (omega arith))) in
        m.nets n t ∙ ap (λ vs. resolved L (from_port L C S P n t ++ vs)) (joined_each f' f gs each) ∙ sym (n_is n t)

    before_only : (t n u : ℕ) → u < t → N' n u ≡ N L C S P n u
    before_only zero n u h = absurd (omega arith)
    before_only (suc t) n u h =
        let past = before_only t in
        ⊎_elim
        (λ e. ap (N' n) e ∙ net_same t (λ n v lt. past n v lt) n ∙ ap (N L C S P n) (sym e))
        (λ ne. past n u (omega arith))
        (cases_eq u t)

    only : (n t : ℕ) → N' n t ≡ N L C S P n t
    only n t = before_only (suc t) n t (omega arith)

    only_gates : (g t : ℕ) → g < gate_count C → D' g t ≡ D L C S P g t
    only_gates g t lt = gate_same t (before_only t) g lt

pub signal_definition : {V : Type 0} (L : Logic V) → SignalDefinition L
signal_definition L C S P delays = record { meets = meets L C S P delays; only = only L C S P delays; only_gates = only_gates L C S P delays }
