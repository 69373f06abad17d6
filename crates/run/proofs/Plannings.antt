-- What the calendar holds once every gate has planned.
use Rattle.std.proofs.Common.{◌≡◌, ℕ, zero, suc, ◌+◌, ◌-◌, ◌<◌, ◌≤◌, Bool, true, false, cond, ◌&&◌, ◌||◌, eqb, List, [], ◌∷◌, get_or, None, sum_by, sym, refl, ap, ◌∙◌, add-one, arith}
use Rattle.std.specs.List.{AllByRecursion}
use Rattle.std.proofs.lemmas.Bool.{eqb-true, eqb-false}
use Rattle.std.proofs.lemmas.Bool.Decides.{nat_tests}
use Rattle.calendar.specs.declared.entry.Entry.{Entry}
use Rattle.calendar.specs.Order.{placed}
use Rattle.calendar.specs.Agenda.{Agenda, entry, before, waits, with_waiting, put_after, put_refused, unless}
use Rattle.calendar.proofs.Faults.{put_stands}
use Rattle.logic.specs.Logic.{Logic}
use Rattle.netlist.specs.Kinds.{kind_number}
use Rattle.netlist.specs.Board.{Board, WellFormed}
use Rattle.signal.specs.Circuit.{gate, gate_count, operate}
use Rattle.signal.specs.Calls.{State, drives, level}
use Rattle.signal.proofs.Signals.{d_after}
use Rattle.signal.proofs.Planning.{planned, planned_same, planned_more, planned_free, planned_room}
use Rattle.tick.specs.Plans.{result_at, plans, put_changed}

free_alone : (e : Entry) (w : List Entry) → AllByRecursion (λ (x : Entry). x.tick ≡ e.tick → x.gate ≡ e.gate → ⊥) w → waits e w ≡ false
free_alone e [] h = refl
free_alone e (x ∷ w) h = apart e.tick e.gate x.tick x.gate (waits e w) h.0 (free_alone e w h.1)
  where
    apart : (a b c d : ℕ) (r : Bool) → (c ≡ a → d ≡ b → ⊥) → r ≡ false → ((eqb a c && eqb b d) || r) ≡ false
    apart a b c d r n e = grind (arith, nat_tests)

module _ {V : Type 0} (L : Logic V) (C : Board) (ok : WellFormed C) (s : State V) (t : ℕ) (levels : List V) where
  -- what a gate gives is what it drives a delay on
  pub results : ((g : ℕ) → g < gate_count C → ((gate C g).a < 1024) × ((gate C g).b < 1024)) → ((n : ℕ) → n < 1024 → get_or levels n L.unset ≡ level L C s n t) →
      (g : ℕ) → g < gate_count C → result_at L C levels g ≡ drives L C s g (t + (gate C g).delay)
  results inside are g lt =
      let d = (gate C g).delay in
      let back : t + d - d ≡ t = omega arith in
      (λ i. operate L (kind_number (gate C g).kind) ((are (gate C g).a (inside g lt).0 ∙ ap (level L C s (gate C g).a) (sym back)) i) ((are (gate C g).b (inside g lt).1 ∙ ap (level L C s (gate C g).b) (sym back)) i))
      ∙ sym (d_after L C s.start s.port g (t + d) (ok.good g lt).delay_low (omega arith))

  module _ (was : List V) (a : Agenda)
      (results-are : (g : ℕ) → g < gate_count C → result_at L C levels g ≡ drives L C s g (t + (gate C g).delay))
      (was-are : (g : ℕ) → g < gate_count C → get_or was g L.unset ≡ drives L C s g (t + (gate C g).delay - 1))
      (today : a.today ≡ t) (gates : gate_count C ≤ a.gates) (room : sum_by (λ g. g.delay) C.gates ≤ a.capacity) where
    one : (i : ℕ) → i < gate_count C →
        put_changed L (gate C i).delay i t (drives L C s i (t + (gate C i).delay)) (drives L C s i (t + (gate C i).delay - 1)) (with_waiting a (planned L C s t i)) ≡ with_waiting a (planned L C s t (i + 1))
    one i lt = by (eqb (L.code (drives L C s i (t + (gate C i).delay))) (L.code (drives L C s i (t + (gate C i).delay - 1)))) refl
      where
        e : Entry
        e = entry (t + (gate C i).delay) i (L.code (drives L C s i (t + (gate C i).delay)))

        by : (k : Bool) → eqb (L.code (drives L C s i (t + (gate C i).delay))) (L.code (drives L C s i (t + (gate C i).delay - 1))) ≡ k →
            cond k (with_waiting a (planned L C s t i)) (put_after (with_waiting a (planned L C s t i)) (entry (t + (gate C i).delay) i (L.code (drives L C s i (t + (gate C i).delay))))) ≡ with_waiting a (planned L C s t (i + 1))
        by true k = ap (with_waiting a) (sym (planned_same L C s t i (eqb-true (L.code (drives L C s i (t + (gate C i).delay))) (L.code (drives L C s i (t + (gate C i).delay - 1))) k)))
        by false k =
            let ne = eqb-false (L.code (drives L C s i (t + (gate C i).delay))) (L.code (drives L C s i (t + (gate C i).delay - 1))) k in
            let x = entry (t + (gate C i).delay) i (L.code (drives L C s i (t + (gate C i).delay))) in
            let b = with_waiting a (planned L C s t i) in
            let low = (ok.good i lt).delay_low in
            let high = (ok.good i lt).delay_high in
            let stands : put_refused b x ≡ None =
            put_stands b x (omega arith) (omega arith) (omega arith)
            (free_alone x (planned L C s t i) (planned_free L C s t i))
            (omega (arith, planned_room L C s ok t i lt ne)) in
            ap (λ o. unless o b (with_waiting b (placed before x (planned L C s t i)))) stands
            ∙ ap (with_waiting a) (sym (planned_more L C s ok t i lt ne))

    pub plans_are : (i : ℕ) → i ≤ gate_count C → a.waiting ≡ planned L C s t 0 → plans L C levels was t i a ≡ with_waiting a (planned L C s t i)
    plans_are zero le w = ap (with_waiting a) w
    plans_are (suc i) le w =
        (λ j. put_changed L (gate C i).delay i t (results-are i (omega arith) j) (was-are i (omega arith) j) (plans_are i (omega arith) w j))
        ∙ one i (omega arith)
        ∙ ap (λ k. with_waiting a (planned L C s t k)) (add-one i)
