-- The first fault of a row of checks, turn by turn. Assumes nothing.
use Rattle.std.proofs.Common.{◌≡◌, ℕ, zero, suc, ◌+◌, ◌<◌, ◌≤◌, true, false, List, Some, None, Option, sym, refl, subst, ⊎_elim, add-one, arith}
use Rattle.std.proofs.lemmas.Bool.{cases_eq, cases_lt}
use Rattle.std.proofs.lemmas.Bool.Decides.{nat_tests}
use Rattle.netlist.specs.Answers.{◌orelse◌, first_fault}
use Rattle.netlist.specs.Parts.{is_output}
use Rattle.netlist.specs.Checks.{net_fault, nets_fault}
use Rattle.netlist.specs.declared.gate.Gate.{Gate}
use Rattle.netlist.specs.declared.fault.NetlistFault.TheVariants.{Undriven}

module _ {F : Type 0} (check : ℕ → Option F) where
  pub first_stays : (e : F) (m n : ℕ) → first_fault check m ≡ Some e → m ≤ n → first_fault check n ≡ Some e
  first_stays e m zero h le = let z : m ≡ 0 = omega arith in subst (λ k. first_fault check k ≡ Some e) z h
  first_stays e m (suc n) h le =
      ⊎_elim
      (λ z. subst (λ k. first_fault check k ≡ Some e) z h)
      (λ ne. rw (first_stays e m n h (omega arith)))
      (cases_eq m (suc n))

  pub first_found : (e : F) (i n : ℕ) → first_fault check i ≡ None → check i ≡ Some e → i < n → first_fault check n ≡ Some e
  first_found e i n h k lt = first_stays e (i + 1) n (rw (add-one, h, k)) (omega arith)

  pub first_none : (n k : ℕ) → first_fault check n ≡ None → k < n → check k ≡ None
  first_none zero k h lt = absurd (omega arith)
  first_none (suc n) k h lt =
      ⊎_elim
      (λ z. subst (λ j. check j ≡ None) (sym z) (last (first_fault check n) (check n) h).1)
      (λ ne. first_none n k (last (first_fault check n) (check n) h).0 (omega arith))
      (cases_eq k n)
    where
      last : (p q : Option F) → (p orelse q) ≡ None → (p ≡ None) × (q ≡ None)
      last (Some e) q h = let z : ◌≡◌ {A = ℕ} 0 1 = cc in absurd (omega arith)
      last None q h = (refl, h)

  -- no check fails
  pub first_all : (n : ℕ) → ((k : ℕ) → k < n → check k ≡ None) → first_fault check n ≡ None
  first_all zero each = refl
  first_all (suc n) each = rw (first_all n (λ k lt. each k (omega arith)), each n (omega arith))

module _ (ports : ℕ) (gates : List Gate) (nets : ℕ) where
  driven : (n : ℕ) → (ports ≤ n → is_output gates n ≡ true) → net_fault ports gates n ≡ None
  driven n out = ⊎_elim (λ (h : n < ports). grind (arith, nat_tests)) (λ h. let o = out h in grind (arith, nat_tests)) (cases_lt n ports)

  pub undriven_found : (n : ℕ) → ports ≤ n → n < nets → is_output gates n ≡ false → ((k : ℕ) → ports ≤ k → k < n → is_output gates k ≡ true) → nets_fault ports gates nets ≡ Some (Undriven n)
  undriven_found n port net none before = first_found (net_fault ports gates) (Undriven n) n nets (first_all (net_fault ports gates) n (λ k lt. driven k (λ p. before k p lt))) (grind (arith, nat_tests)) net

  pub undriven_none : ((n : ℕ) → ports ≤ n → n < nets → is_output gates n ≡ true) → nets_fault ports gates nets ≡ None
  undriven_none each = first_all (net_fault ports gates) nets (λ k lt. driven k (λ p. each k p lt))
