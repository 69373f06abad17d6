-- A run that is opened.
use Rattle.std.proofs.Common.{◌≡◌, ℕ, zero, suc, ◌+◌, ◌-◌, Bool, true, false, ◌&&◌, eqb, leb, List, [], ◌∷◌, get_or, replicate, sym, refl, ◌∙◌, arith}
use Rattle.std.proofs.lemmas.List.{length-replicate}
use Rattle.std.proofs.lemmas.Bool.{and_parts, eqb-true, leb-true, false≢true}
use Rattle.netlist.specs.declared.place.Netlist.{Netlist}
use Rattle.calendar.specs.Agenda.{Agenda}
use Rattle.calendar.specs.declared.entry.Entry.{Entry}
use Rattle.logic.specs.Logic.{Logic}
use Rattle.netlist.specs.Board.{total_delay}
use Rattle.signal.specs.Circuit.{gate, gate_count}
use Rattle.signal.specs.Calls.{opened}
use Rattle.signal.proofs.Signals.{d_before}
use Rattle.netlist.specs.Looked.{contents}
use Rattle.run.specs.Fits.{Fits}
use Rattle.run.specs.Calls.{empty, fit_for}
use Rattle.netlist.proofs.Contents.{well_formed}

row : {V : Type 0} (n : ℕ) (x u : V) → x ≡ u → (p : ℕ) → get_or (replicate n x) p u ≡ u
row zero x u e p = refl
row (suc n) x u e zero = e
row (suc n) x u e (suc p) = row n x u e p

none : (w : List Entry) → empty w ≡ true → w ≡ []
none [] e = refl
none (x ∷ w) e = absurd (false≢true e)

module _ {V : Type 0} (L : Logic V) (net : Netlist) (a : Agenda) (fit : Bool) (x₁ x₂ x₃ x₄ : V) where
  pub opened_fits : fit ≡ fit_for (contents net) a → x₁ ≡ L.unset → x₂ ≡ L.unset → x₃ ≡ L.unset → x₄ ≡ L.unset →
      Fits L (contents net) (opened L (fit_for (contents net) a)) 0 0 a fit false (replicate 1024 x₁) (replicate 1024 x₂) (replicate 1024 x₃) (replicate 1024 x₄) 0 0
  opened_fits is e₁ e₂ e₃ e₄ =
      let C = contents net in
      let s = opened L (fit_for C a) in
      let ok = well_formed net in
      record {
        fit_is = is;
        ticks_are = refl;
        records_are = refl;
        held = record {
          ports_long = length-replicate 1024 x₁;
          drives_long = length-replicate 1024 x₂;
          planned_long = length-replicate 1024 x₃;
          levels_long = length-replicate 1024 x₄;
          ports_are = λ p u lt le. row 1024 x₁ L.unset e₁ p;
          drives_are = λ g lt. row 1024 x₂ L.unset e₂ g ∙ sym (d_before L C s.start s.port g (0 - 1) (omega (arith, (ok.good g lt).delay_low)));
          planned_are = λ g lt. row 1024 x₃ L.unset e₃ g ∙ sym (d_before L C s.start s.port g (0 + (gate C g).delay - 1) (omega (arith, (ok.good g lt).delay_low)));
          levels_are = λ n lt. row 1024 x₄ L.unset e₄ n;
        };
        calm_is = λ e. absurd (false≢true e);
        kept = λ on.
            let p = and_parts (eqb a.today 0) (empty a.waiting && (leb (gate_count C) a.gates && leb (total_delay C) a.capacity)) on in
            let q = and_parts (empty a.waiting) (leb (gate_count C) a.gates && leb (total_delay C) a.capacity) p.1 in
            let r = and_parts (leb (gate_count C) a.gates) (leb (total_delay C) a.capacity) q.1 in
            record {
              today_is = eqb-true a.today 0 p.0;
              waiting_is = none a.waiting q.0;
              gates_fit = leb-true (gate_count C) a.gates r.0;
              room_fits = leb-true (total_delay C) a.capacity r.1;
            };
      }
