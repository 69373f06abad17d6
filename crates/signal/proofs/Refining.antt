-- Refined start levels and port values give refined nets.
use Rattle.std.proofs.Common.{◌≡◌, ℕ, zero, suc, ◌+◌, ◌-◌, ◌<◌, ◌≤◌, Bool, true, false, cond, eqb, ltb, List, [], ◌∷◌, ◌++◌, get_or, refl, arith}
use Rattle.std.specs.List.{range_with_len, flat_map}
use Rattle.std.proofs.lemmas.Bool.{ltb-true}
use Rattle.logic.specs.Logic.{Logic, Laws, RefinedBy}
use Rattle.netlist.specs.Board.{Board}
use Rattle.netlist.specs.Kinds.{kind_number}
use Rattle.signal.specs.Circuit.{gate, gate_count, operate, results}
use Rattle.signal.specs.Signal.{Levels, resolved, resolved_onto, driven, from_port, from_gate, drivers, carried, before, N}

-- w refines v
abbrev Finer : {V : Type 0} → Logic V → V → V → Type 0
Finer L w v = RefinedBy L v w

module _ {V : Type 0} (L : Logic V) where
  -- two rows of values, place by place
  abbrev pub Row : List V → List V → Type 0
  Row [] [] = Unit {0}
  Row [] (v ∷ vs) = ⊥
  Row (w ∷ ws) [] = ⊥
  Row (w ∷ ws) (v ∷ vs) = Finer L w v × Row ws vs

  row_append : (ws vs ws₂ vs₂ : List V) → Row ws vs → Row ws₂ vs₂ → Row (ws ++ ws₂) (vs ++ vs₂)
  row_append [] [] ws₂ vs₂ h k = k
  row_append [] (v ∷ vs) ws₂ vs₂ h k = elim h [ ]
  row_append (w ∷ ws) [] ws₂ vs₂ h k = elim h [ ]
  row_append (w ∷ ws) (v ∷ vs) ws₂ vs₂ h k = (h.0, row_append ws vs ws₂ vs₂ h.1 k)

  row_joined : (f f' : ℕ → List V) (a n : ℕ) → ((g : ℕ) → a ≤ g → g < a + n → Row (f' g) (f g)) → Row (flat_map f' (range_with_len a n)) (flat_map f (range_with_len a n))
  row_joined f f' a zero h = tt
  row_joined f f' a (suc n) h =
      row_append (f' a) (f a) (flat_map f' (range_with_len (a + 1) n)) (flat_map f (range_with_len (a + 1) n)) (h a (omega arith) (omega arith))
      (row_joined f f' (a + 1) n (λ g p q. h g (omega arith) (omega arith)))

  row_at : (ws vs : List V) (i : ℕ) (w v : V) → Finer L w v → Row ws vs → Finer L (get_or ws i w) (get_or vs i v)
  row_at [] [] i w v d h = d
  row_at [] (y ∷ vs) i w v d h = elim h [ ]
  row_at (x ∷ ws) [] i w v d h = elim h [ ]
  row_at (x ∷ ws) (y ∷ vs) zero w v d h = h.0
  row_at (x ∷ ws) (y ∷ vs) (suc i) w v d h = row_at ws vs i w v d h.1

  row_cond : (b : Bool) (ws vs : List V) → (b ≡ true → Row ws vs) → Row (cond b ws []) (cond b vs [])
  row_cond true ws vs h = h refl
  row_cond false ws vs h = tt

module _ {V : Type 0} {L : Logic V} (laws : Laws L) where
  onto_refines : (w v : V) (ws vs : List V) → Finer L w v → Row L ws vs → Finer L (resolved_onto L w ws) (resolved_onto L v vs)
  onto_refines w v [] [] d h = d
  onto_refines w v [] (y ∷ vs) d h = elim h [ ]
  onto_refines w v (x ∷ ws) [] d h = elim h [ ]
  onto_refines w v (x ∷ ws) (y ∷ vs) d h = onto_refines (L.resolve w x) (L.resolve v y) ws vs (laws.resolve_mono v w y x d h.0) h.1

  resolved_refines : (ws vs : List V) → Row L ws vs → Finer L (resolved L ws) (resolved L vs)
  resolved_refines [] [] h = laws.ref_self L.unset
  resolved_refines [] (y ∷ vs) h = elim h [ ]
  resolved_refines (x ∷ ws) [] h = elim h [ ]
  resolved_refines (x ∷ ws) (y ∷ vs) h = onto_refines x y ws vs h.0 h.1

  operate_refines : (k : ℕ) (a a' b b' : V) → Finer L a' a → Finer L b' b → Finer L (operate L k a' b') (operate L k a b)
  operate_refines k a a' b b' p q =
      let same = laws.ref_self in
      let and2 = laws.and_mono a a' b b' p q in
      let or2 = laws.or_mono a a' b b' p q in
      let xor2 = laws.xor_mono a a' b b' p q in
      row_at L (results L a' b') (results L a b) k L.unset L.unset (same L.unset) (
        same L.unset,
        (
          laws.and_mono a a' a a' p p,
          (
            laws.not_mono a a' p,
            (
              and2,
              (
                or2,
                (
                  xor2,
                  (
                    laws.not_mono _ _ and2,
                    (
                      laws.not_mono _ _ or2,
                      (
                        laws.not_mono _ _ xor2,
                        (laws.tri_mono a a' b b' p q, (same L.up, (same L.down, tt))),
                      ),
                    ),
                  ),
                ),
              ),
            ),
          ),
        ),
      )

  module _ (C : Board) (S S' : ℕ → V) (P P' : ℕ → ℕ → V)
      (starts : (g : ℕ) → g < gate_count C → RefinedBy L (S g) (S' g)) where
    chosen : (b : Bool) (s s' r r' : V) → Finer L s' s → Finer L r' r → Finer L (elim b [ true ↦ s' | false ↦ r' ]) (elim b [ true ↦ s | false ↦ r ])
    chosen true s s' r r' p q = p
    chosen false s s' r r' p q = q

    carried_refines : (M M' : Levels V) (n t : ℕ) → ((m u : ℕ) → Finer L (M' m u) (M m u)) → ((p : ℕ) → p < C.ports → Finer L (P' p t) (P p t)) →
        Finer L (carried L C S' P' M' n t) (carried L C S P M n t)
    carried_refines M M' n t levels ports =
        let d : ℕ → ℕ = λ g. (gate C g).delay in
        let gates : (g : ℕ) → g < gate_count C → Finer L (driven L C S' P' M' g t) (driven L C S P M g t) = λ g lt.
        chosen (ltb t (d g)) _ _ _ _ (starts g lt) (operate_refines (kind_number (gate C g).kind) _ _ _ _ (levels (gate C g).a (t - d g)) (levels (gate C g).b (t - d g))) in
        let ws = from_gate L C S' P' M' n t in
        let vs = from_gate L C S P M n t in
        let all = range_with_len 0 (gate_count C) in
        resolved_refines (drivers L C S' P' M' n t) (drivers L C S P M n t) (row_append L (from_port L C S' P' n t) (from_port L C S P n t) (flat_map ws all) (flat_map vs all)
        (row_cond L (ltb n C.ports) (P' n t ∷ []) (P n t ∷ []) (λ e. (ports n (ltb-true n C.ports e), tt)))
        (row_joined L vs ws 0 (gate_count C) (λ g p q. row_cond L (eqb (gate C g).out n) (driven L C S' P' M' g t ∷ []) (driven L C S P M g t ∷ []) (λ e. (gates g (omega arith), tt)))))

    before_refines : (t : ℕ) → ((p u : ℕ) → p < C.ports → u < t → Finer L (P' p u) (P p u)) →
        (n u : ℕ) → Finer L (before L C S' P' t n u) (before L C S P t n u)
    unfolding before
    before_refines zero ports n u = laws.ref_self L.unset
    before_refines (suc t) ports n u =
        let past : (m v : ℕ) → Finer L (before L C S' P' t m v) (before L C S P t m v) = before_refines t (λ p v lt below. ports p v lt (omega arith)) in
        chosen (eqb u t) _ _ _ _ (carried_refines (before L C S P t) (before L C S' P' t) n t past (λ p lt. ports p t lt (omega arith))) (past n u)

    pub n_refines : (t : ℕ) → ((p u : ℕ) → p < C.ports → u ≤ t → RefinedBy L (P p u) (P' p u)) → (n : ℕ) → RefinedBy L (N L C S P n t) (N L C S' P' n t)
    unfolding N
    n_refines t ports n =
        carried_refines (before L C S P t) (before L C S' P' t) n t (before_refines t (λ p u lt below. ports p u lt (omega arith))) (λ p lt. ports p t lt (omega arith))
