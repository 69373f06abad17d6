-- A tick with nothing due, of a calm run: nothing changes.
use Rattle.std.proofs.Common.{◌≡◌, ℕ, zero, suc, ◌+◌, ◌-◌, ◌<◌, ◌≤◌, Bool, true, false, cond, List, [], ◌∷◌, ◌++◌, length, get_or, sum_by, sym, refl, ap, ◌∙◌, subst, add-one, arith}
use Rattle.std.specs.List.{flat_map}
use Rattle.std.proofs.lemmas.Bool.{eq-eqb}
use Rattle.netlist.specs.declared.place.Netlist.{Netlist}
use Rattle.calendar.specs.declared.entry.Entry.{Entry}
use Rattle.calendar.specs.Agenda.{Agenda, at_tick, turn_after, unless, before_tick}
use Rattle.calendar.proofs.Faults.{turn_stands}
use Rattle.logic.specs.Logic.{Logic, Laws}
use Rattle.netlist.specs.Board.{Board}
use Rattle.signal.specs.Circuit.{gate, gate_count}
use Rattle.signal.specs.Calls.{State, Change, drives, level, level_before, changes_at, change_bytes}
use Rattle.signal.proofs.Planning.{planned, planned_all, planned_same}
use Rattle.netlist.specs.Looked.{contents}
use Rattle.tick.specs.Due.{applied, left_over, levelled, is_first}
use Rattle.tick.specs.Reported.{change_of, made}
use Rattle.tick.specs.Laid.{Wrote}
use Rattle.tick.proofs.Over.{wrote_none}
use Rattle.run.specs.Fits.{Kept, Calm, Fits, waiting_at}
use Rattle.run.proofs.Draining.{none_late, left_planned, drained}
use Rattle.run.proofs.Settling.{settled, reported}
use Rattle.run.proofs.Plannings.{results}
use Rattle.run.proofs.Callings.{before_is}
use Rattle.netlist.proofs.Contents.{gate_count as gates-count, well_formed}
use Rattle.run.proofs.Ticks.{inputs, watched}

idle_left : (t : ℕ) (w : List Entry) → is_first t w ≡ false → left_over t w ≡ w
idle_left t [] e = refl
idle_left t (x ∷ w) e = ap (λ b. cond b (left_over t w) (x ∷ w)) e

idle_applied : {V : Type 0} (L : Logic V) (t : ℕ) (ls : List V) (w : List Entry) → is_first t w ≡ false → applied L t ls w ≡ ls
idle_applied L t ls [] e = refl
idle_applied L t ls (x ∷ w) e = ap (λ b. cond b (applied L t (levelled (L.of_code x.code) x.gate ls) w) ls) e

unchanged : {V : Type 0} (L : Logic V) (C : Board) (ls : List V) (t : ℕ) (ws : List ℕ) → flat_map (change_of L C ls ls t) ws ≡ []
unchanged L C ls t [] = refl
unchanged L C ls t (w ∷ ws) =
    ap (λ b. cond b [] (made t w (L.code (get_or ls w L.unset)) ∷ []) ++ flat_map (change_of L C ls ls t) ws) (eq-eqb (L.code (get_or ls w L.unset)) (L.code (get_or ls w L.unset)) refl)
    ∙ unchanged L C ls t ws

module _ {V : Type 0} {L : Logic V} (laws : Laws L) (net : Netlist) (s : State V) (t n : ℕ)
    (a : Agenda) (fit calm : Bool) (ports drive plan levels : List V) (ticks records : ℕ)
    (f : Fits L (contents net) s t n a fit calm ports drive plan levels ticks records) (on : s.fit ≡ true) (early : ticks < 16777216)
    (quiet : calm ≡ true) (idle : is_first ticks a.waiting ≡ false)
    (a₁ : Agenda) (turned : a₁ ≡ turn_after a ticks) where
  abbrev C : Board
  C = contents net

  K : Kept L C s t a
  K = f.kept on

  Q : Calm L C s t ports
  Q = f.calm_is quiet

  e : ticks ≡ t
  e = f.ticks_are

  free : is_first t (waiting_at L C s t) ≡ false
  free = (λ i. is_first (sym e i) (sym K.waiting_is i)) ∙ idle

  T₁ : a₁ ≡ at_tick a t
  T₁ = turned ∙ ap (turn_after a) e ∙ ap (λ o. unless o a (at_tick a t)) (turn_stands a t (omega (arith, K.today_is)) (omega (arith, e)) (ap (λ w. before_tick w t) K.waiting_is ∙ none_late laws C (well_formed net) s t))

  waits : a.waiting ≡ planned L C s t 0
  waits = K.waiting_is ∙ sym (idle_left t (waiting_at L C s t) free) ∙ left_planned laws C (well_formed net) s t

  drives_now : (g : ℕ) → g < gate_count C → get_or drive g L.unset ≡ drives L C s g t
  drives_now g lt =
      ap (λ l. get_or l g L.unset) (sym (idle_applied L t drive (waiting_at L C s t) free))
      ∙ drained laws C (well_formed net) s drive t (omega (arith, f.held.drives_long, gates-count net, net.table)) f.held.drives_are g lt

  levels_was : (k : ℕ) → k < 1024 → get_or levels k L.unset ≡ level L C s k (t - 1)
  levels_was k lt = f.held.levels_are k lt ∙ before_is L C s k t (λ z. omega (arith, Q.some))

  levels_now : (k : ℕ) → k < 1024 → get_or levels k L.unset ≡ level L C s k t
  levels_now k lt =
      levels_was k lt
      ∙ sym (settled L C s (t - 1) ports drive Q.still f.held.drives_are k)
      ∙ settled L C s t ports drive (λ p h. f.held.ports_are p t h (omega arith)) drives_now k

  pub changes_none : changes_at L C s t ≡ []
  changes_none = sym (reported L C s t levels levels f.held.levels_are levels_now (watched net)) ∙ unchanged L C levels t C.watches

  planned_still : (g : ℕ) → g < gate_count C → drives L C s g (t + (gate C g).delay) ≡ drives L C s g (t + (gate C g).delay - 1)
  planned_still g lt =
      sym (results L C (well_formed net) s t levels (inputs net) levels_now g lt)
      ∙ results L C (well_formed net) s (t - 1) levels (inputs net) levels_was g lt
      ∙ ap (drives L C s g) (back (gate C g).delay)
    where
      back : (d : ℕ) → t - 1 + d ≡ t + d - 1
      back d = omega (arith, Q.some)

  planned_kept : (i : ℕ) → i ≤ gate_count C → planned L C s t 0 ≡ planned L C s t i
  planned_kept zero le = refl
  planned_kept (suc i) le = planned_kept i (omega arith) ∙ sym (planned_same L C s t i (ap L.code (planned_still i (omega arith)))) ∙ ap (planned L C s t) (add-one i)

  pub idle_fits : Fits L C s (t + 1) n a₁ fit calm ports drive plan levels (ticks + 1) records
  idle_fits = record {
    fit_is = f.fit_is;
    ticks_are = ap (λ k. k + 1) e;
    records_are = f.records_are;
    held = record {
      ports_long = f.held.ports_long;
      drives_long = f.held.drives_long;
      planned_long = f.held.planned_long;
      levels_long = f.held.levels_long;
      ports_are = λ p u lt le. f.held.ports_are p u lt (omega arith);
      drives_are = λ g lt. drives_now g lt ∙ ap (drives L C s g) (less t);
      planned_are = λ g lt. f.held.planned_are g lt ∙ sym (planned_still g lt) ∙ ap (drives L C s g) (shift t (gate C g).delay);
      levels_are = λ k lt. levels_now k lt ∙ sym (ap (level_before L C s k) (add-one t));
    };
    calm_is = λ _. record { some = omega arith; still = λ p lt. f.held.ports_are p t lt (omega arith) ∙ ap (s.port p) (less t) };
    kept = λ _. record {
      today_is = ap (λ (x : Agenda). x.today) T₁ ∙ less t;
      waiting_is = ap (λ (x : Agenda). x.waiting) T₁ ∙ waits ∙ planned_kept (gate_count C) (omega arith) ∙ planned_all L C s t ∙ sym (ap (waiting_at L C s) (add-one t));
      gates_fit = subst (λ (x : Agenda). gate_count C ≤ x.gates) (sym T₁) K.gates_fit;
      room_fits = subst (λ (x : Agenda). sum_by (λ g. g.delay) C.gates ≤ x.capacity) (sym T₁) K.room_fits;
    };
  }
    where
      less : (t : ℕ) → t ≡ t + 1 - 1
      less t = omega arith

      shift : (t d : ℕ) → t + d ≡ t + 1 + d - 1
      shift t d = omega arith

  -- on the board that the run was opened on
  pub idled : (D : Board) → contents net ≡ D → (out : List ℕ) (at : ℕ) →
      Fits L (contents net) s (t + 1) (n + length (changes_at L D s t)) a₁ fit calm ports drive plan levels (ticks + 1) records
      × Wrote out at (flat_map change_bytes (changes_at L D s t)) at out
  idled D b out at = subst (λ D.
      Fits L (contents net) s (t + 1) (n + length (changes_at L D s t)) a₁ fit calm ports drive plan levels (ticks + 1) records
      × Wrote out at (flat_map change_bytes (changes_at L D s t)) at out) b
      (subst (λ (cs : List Change). Fits L (contents net) s (t + 1) (n + length cs) a₁ fit calm ports drive plan levels (ticks + 1) records × Wrote out at (flat_map change_bytes cs) at out) (sym changes_none)
      (subst (λ m. Fits L (contents net) s (t + 1) m a₁ fit calm ports drive plan levels (ticks + 1) records) (plus n) idle_fits, wrote_none out at))
    where
      plus : (n : ℕ) → n ≡ n + 0
      plus n = omega arith
