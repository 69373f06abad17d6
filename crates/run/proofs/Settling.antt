-- What the nets carry, and the records of a tick.
use Rattle.std.proofs.Common.{◌≡◌, ℕ, ◌<◌, cond, eqb, ltb, List, [], ◌∷◌, ◌++◌, get_or, sym, ap, ◌∙◌, ⊎_elim, arith}
use Rattle.std.specs.List.{range_with_len, flat_map, AllByRecursion}
use Rattle.std.proofs.lemmas.Bool.{cases_lt, le-ltb}
use Rattle.logic.specs.Logic.{Logic}
use Rattle.netlist.specs.Board.{Board}
use Rattle.signal.specs.Circuit.{gate, gate_count}
use Rattle.signal.specs.Signal.{resolved}
use Rattle.signal.specs.Calls.{State, drives, level, level_before, change, changes_at}
use Rattle.signal.proofs.Signals.{n_is}
use Rattle.signal.proofs.Rows.{joined_each, counting_all, all_both}
use Rattle.tick.specs.Settled.{drivers_of, by_port, by_gate}
use Rattle.tick.specs.Reported.{change_of, change_from, changed}

module _ {V : Type 0} (L : Logic V) (C : Board) (s : State V) (t : ℕ) where
  pub settled : (ports drive : List V) → ((p : ℕ) → p < C.ports → get_or ports p L.unset ≡ s.port p t) → ((g : ℕ) → g < gate_count C → get_or drive g L.unset ≡ drives L C s g t) →
      (n : ℕ) → resolved L (drivers_of L C ports drive n) ≡ level L C s n t
  settled ports drive ports_are drives_are n =
      let f : ℕ → List V = λ g. cond (eqb (gate C g).out n) (drives L C s g t ∷ []) [] in
      let gs = range_with_len 0 (gate_count C) in
      let each : AllByRecursion (λ g. by_gate L C ports drive n g ≡ f g) gs = counting_all (λ g. by_gate L C ports drive n g ≡ f g) 0 (gate_count C) (λ g _ lt. ap (λ v. cond (eqb (gate C g).out n) (v ∷ []) []) (drives_are g (omega arith))) in
      ap (λ vs. resolved L (vs ++ flat_map (by_gate L C ports drive n) gs)) port
      ∙ ap (λ vs. resolved L (cond (ltb n C.ports) (s.port n t ∷ []) [] ++ vs)) (joined_each (by_gate L C ports drive n) f gs each)
      ∙ sym (n_is L C s.start s.port n t)
    where
      port : by_port L C ports drive n C.ports ≡ cond (ltb n C.ports) (s.port n t ∷ []) []
      port = ⊎_elim
          (λ h. ap (λ v. cond (ltb n C.ports) (v ∷ []) []) (ports_are n h))
          (λ h. ap (λ b. cond b (get_or ports n L.unset ∷ []) []) (le-ltb n C.ports h) ∙ sym (ap (λ b. cond b (s.port n t ∷ []) []) (le-ltb n C.ports h)))
          (cases_lt n C.ports)

  pub reported : (old new : List V) → ((n : ℕ) → n < 1024 → get_or old n L.unset ≡ level_before L C s n t) → ((n : ℕ) → n < 1024 → get_or new n L.unset ≡ level L C s n t) →
      AllByRecursion (λ n. n < 1024) C.watches → changed L C old new t ≡ changes_at L C s t
  reported old new old-are new-are inside =
      joined_each (change_of L C old new t) (change L C s t) C.watches
      (all_both (λ n. n < 1024) (λ n. n < 1024) (λ n. change_of L C old new t n ≡ change L C s t n) (λ n lt _. λ i. change_from L (old-are n lt i) (new-are n lt i) t n) C.watches inside inside)
