-- The nets of a set, settled one by one.
use Rattle.std.proofs.Common.{◌≡◌, ℕ, ◌<◌, true, false, cond, eqb, List, length, get_or, set, Some, sym, refl, ap, ◌∙◌, ⊎_elim, arith, length-set, get_or-set_other, get_or-set_same}
use Rattle.std.proofs.lemmas.Bool.{both_ways, cases_eq}
use Rattle.logic.specs.Logic.{Logic}
use Rattle.netlist.specs.Board.{Board}
use Rattle.number_set.specs.Members.{member, Least}
use Rattle.signal.specs.Signal.{resolved}
use Rattle.tick.specs.Plans.{result_at}
use Rattle.tick.specs.Settled.{drivers_of}
use Rattle.fanout.proofs.Sweeps.{out_same, out_other}

module _ {V : Type 0} (L : Logic V) (C : Board) (ports drives was : List V) (marks : List ℕ) (count : ℕ) where
  abbrev level : ℕ → V
  level n = resolved L (drivers_of L C ports drives n)

  -- the nets of the set that were taken are settled, and the gates that read one that changed stand in `gates`
  pub record Settles (words : List ℕ) (levels : List V) (gates : List ℕ) : Type 0 where
    pub long : length levels ≡ length was
    pub swept : (n : ℕ) → n < 1024 → member words n ≡ true → member marks n ≡ true
    pub resolves : (n : ℕ) → n < 1024 → member marks n ≡ true → member words n ≡ false → get_or levels n L.unset ≡ level n
    pub others : (n : ℕ) → n < 1024 → member marks n ≡ false → get_or levels n L.unset ≡ get_or was n L.unset
    pub readers : (g : ℕ) → g < count → member gates g ≡ false → result_at L C levels g ≡ result_at L C was g

  pub settles_none : (gates : List ℕ) → Settles marks was gates
  settles_none gates = record {
    long = refl;
    swept = λ n lt m. m;
    resolves = λ n lt on off. absurd (both_ways (member marks n) off on);
    others = λ n lt m. refl;
    readers = λ g lt m. refl;
  }

  pub settles_more : (words : List ℕ) (levels : List V) (gates : List ℕ) → Settles words levels gates → length levels ≡ 1024 → (n : ℕ) (first : Least words (Some n)) (words' : List ℕ) →
      (sets : (m : ℕ) → m < 1024 → member words' m ≡ cond (eqb m n) false (member words m)) → (levels' : List V) (gates' : List ℕ) → levels' ≡ set levels n (level n) →
      ((g : ℕ) → g < count → member gates' g ≡ false → member gates g ≡ false) →
      ((g : ℕ) → g < count → member gates' g ≡ false → result_at L C levels' g ≡ result_at L C levels g) → Settles words' levels' gates'
  settles_more words levels gates s wide n first words' sets levels' gates' e kept reads = record {
    long = ap length e ∙ length-set levels n (level n) ∙ s.long;
    swept = λ m lt on. ⊎_elim
        (λ same. absurd (both_ways (member words' m) (ap (member words') same ∙ out_same words n first words' sets) on))
        (λ ne. s.swept m lt (sym (out_other words n first words' sets m lt ne) ∙ on))
        (cases_eq m n);
    resolves = λ m lt on off. ap (λ l. get_or l m L.unset) e ∙ ⊎_elim
        (λ same. ap (λ z. get_or (set levels n (level n)) z L.unset) same ∙ get_or-set_same levels n (level n) L.unset (omega (arith, first.0)) ∙ ap level (sym same))
        (λ ne. get_or-set_other levels n m (level n) L.unset ne ∙ s.resolves m lt on (sym (out_other words n first words' sets m lt ne) ∙ off))
        (cases_eq m n);
    others = λ m lt k. ap (λ l. get_or l m L.unset) e
        ∙ get_or-set_other levels n m (level n) L.unset (λ same. both_ways (member marks m) k (ap (member marks) same ∙ s.swept n first.0 first.1))
        ∙ s.others m lt k;
    readers = λ g lt m. reads g lt m ∙ s.readers g lt (kept g lt m);
  }
