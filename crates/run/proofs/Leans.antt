-- What a calm run holds, as a tick that works only on what changed wants it.
use Rattle.std.proofs.Common.{◌≡◌, ℕ, zero, suc, ◌+◌, ◌-◌, ◌<◌, Bool, true, List, get_or, sym, ap, ◌∙◌, arith}
use Rattle.netlist.specs.declared.place.Netlist.{Netlist}
use Rattle.netlist.specs.Board.{Board}
use Rattle.netlist.specs.Looked.{contents}
use Rattle.netlist.proofs.Contents.{well_formed}
use Rattle.calendar.specs.Agenda.{Agenda}
use Rattle.logic.specs.Logic.{Logic}
use Rattle.fanout.specs.Steady.{Steady}
use Rattle.signal.specs.Circuit.{gate, gate_count}
use Rattle.signal.specs.Signal.{resolved}
use Rattle.signal.specs.Calls.{State, drives, level, level_before}
use Rattle.tick.specs.Settled.{drivers_of}
use Rattle.tick.specs.Plans.{result_at}
use Rattle.run.specs.Fits.{Fits}
use Rattle.run.proofs.Settling.{settled}
use Rattle.run.proofs.Plannings.{results}
use Rattle.run.proofs.Ticks.{inputs}

module _ {V : Type 0} (L : Logic V) (net : Netlist) (s : State V) (t n : ℕ)
    (a : Agenda) (fit calm : Bool) (ports drive plan levels : List V) (ticks records : ℕ)
    (f : Fits L (contents net) s t n a fit calm ports drive plan levels ticks records) (still : calm ≡ true) where
  abbrev C : Board
  C = contents net

  last : (u k : ℕ) → 0 < u → level_before L C s k u ≡ level L C s k (u - 1)
  last zero k h = absurd (omega arith)
  last (suc u) k h = ap (level L C s k) (back u)
    where
      back : (u : ℕ) → u ≡ suc u - 1
      back u = omega arith

  levels_were : (k : ℕ) → k < 1024 → get_or levels k L.unset ≡ level L C s k (t - 1)
  levels_were k lt = f.held.levels_are k lt ∙ last t k (f.calm_is still).some

  -- every net carries what drives it
  was_resolved : (k : ℕ) → k < 1024 → get_or levels k L.unset ≡ resolved L (drivers_of L C ports drive k)
  was_resolved k lt = levels_were k lt ∙ sym (settled L C s (t - 1) ports drive (f.calm_is still).still f.held.drives_are k)

  -- every gate has planned what it gives
  had_planned : (g : ℕ) → g < gate_count C → get_or plan g L.unset ≡ result_at L C levels g
  had_planned g lt =
      f.held.planned_are g lt ∙ ap (drives L C s g) (shift t (gate C g).delay (f.calm_is still).some)
      ∙ sym (results L C (well_formed net) s (t - 1) levels (inputs net) levels_were g lt)
    where
      shift : (t d : ℕ) → 0 < t → t + d - 1 ≡ t - 1 + d
      shift t d h = omega arith

  pub steady : Steady L C ports drive levels plan
  steady = record { nets = was_resolved; gates = had_planned }
