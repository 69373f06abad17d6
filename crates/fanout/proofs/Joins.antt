-- A tick that works only on what changed comes to what a tick over all nets and gates comes to.
use Rattle.std.proofs.Common.{◌≡◌, ℕ, ◌<◌, true, false, cond, eqb, List, [], ◌∷◌, ◌++◌, get_or, sym, ap, ◌∙◌, ⊎_elim, arith}
use Rattle.std.specs.List.{range_with_len}
use Rattle.std.proofs.lemmas.Bool.{ne_eqb, cases_eq, cases_Bool}
use Rattle.logic.specs.Logic.{Logic}
use Rattle.netlist.specs.Board.{Board}
use Rattle.number_set.specs.Members.{member}
use Rattle.signal.specs.Circuit.{gate_count}
use Rattle.signal.specs.Signal.{resolved}
use Rattle.signal.proofs.Rows.{joined_each, counting_all}
use Rattle.tick.specs.Plans.{result_at}
use Rattle.tick.specs.Settled.{by_port, by_gate, drivers_of}
use Rattle.fanout.specs.Seek.{out_of, Idle}

module _ {V : Type 0} (L : Logic V) (C : Board) where
  module _ (ports drive₀ drive₁ : List V) (nets : List ℕ) (touched : (g : ℕ) → g < gate_count C → member nets (out_of C g) ≡ false → get_or drive₁ g L.unset ≡ get_or drive₀ g L.unset) where
    drivers_same : (n : ℕ) → member nets n ≡ false → drivers_of L C ports drive₀ n ≡ drivers_of L C ports drive₁ n
    drivers_same n off =
        let gs = range_with_len 0 (gate_count C) in
        ap (λ vs. by_port L C ports drive₀ n C.ports ++ vs)
        (joined_each (by_gate L C ports drive₀ n) (by_gate L C ports drive₁ n) gs
        (counting_all (λ g. by_gate L C ports drive₀ n g ≡ by_gate L C ports drive₁ n g) 0 (gate_count C) (λ g _ lt. each g (omega arith))))
      where
        each : (g : ℕ) → g < gate_count C → by_gate L C ports drive₀ n g ≡ by_gate L C ports drive₁ n g
        each g lt = ⊎_elim
            (λ e. ap (λ v. cond (eqb (out_of C g) n) (v ∷ []) []) (sym (touched g lt (ap (member nets) e ∙ off))))
            (λ ne. ap (λ b. cond b (get_or drive₀ g L.unset ∷ []) []) (ne_eqb (out_of C g) n ne) ∙ sym (ap (λ b. cond b (get_or drive₁ g L.unset ∷ []) []) (ne_eqb (out_of C g) n ne)))
            (cases_eq (out_of C g) n)

    -- every net is resolved, if it was before and every net with a driver that changed is resolved anew
    pub all_resolved : (levels₀ levels₁ : List V) →
        ((n : ℕ) → n < 1024 → get_or levels₀ n L.unset ≡ resolved L (drivers_of L C ports drive₀ n)) →
        ((n : ℕ) → n < 1024 → member nets n ≡ true → get_or levels₁ n L.unset ≡ resolved L (drivers_of L C ports drive₁ n)) →
        ((n : ℕ) → n < 1024 → member nets n ≡ false → get_or levels₁ n L.unset ≡ get_or levels₀ n L.unset) →
        (n : ℕ) → n < 1024 → get_or levels₁ n L.unset ≡ resolved L (drivers_of L C ports drive₁ n)
    all_resolved levels₀ levels₁ was fresh kept n lt = ⊎_elim
        (λ on. fresh n lt on)
        (λ off. kept n lt off ∙ was n lt ∙ ap (resolved L) (drivers_same n off))
        (cases_Bool (member nets n))

  -- a gate whose inputs did not change has planned what it gives, if it had before
  pub all_idle : (levels₀ levels₁ planned : List V) (gates : List ℕ) →
      ((g : ℕ) → g < gate_count C → get_or planned g L.unset ≡ result_at L C levels₀ g) →
      ((g : ℕ) → g < gate_count C → member gates g ≡ false → result_at L C levels₁ g ≡ result_at L C levels₀ g) → Idle L C levels₁ planned gates
  all_idle levels₀ levels₁ planned gates had same g lt off = had g lt ∙ sym (same g lt off)
