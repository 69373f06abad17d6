-- One tick more.
use Rattle.std.proofs.Common.{◌≡◌, ℕ, ◌+◌, ◌-◌, ◌*◌, ◌/◌, ◌<◌, ◌≤◌, Bool, true, cond, List, [], length, get_or, sum_by, sym, refl, ap, ◌∙◌, subst, add-one, arith}
use Rattle.std.proofs.lemmas.Bool.{le-leb}
use Rattle.std.specs.List.{flat_map, AllByRecursion}
use Rattle.std.proofs.ByRecursion.{All-from_get_or}
use Rattle.netlist.specs.declared.place.Netlist.{Netlist}
use Rattle.calendar.specs.Agenda.{Agenda, at_tick, with_waiting, turn_after, unless, before_tick}
use Rattle.calendar.proofs.Faults.{turn_stands}
use Rattle.logic.specs.Logic.{Logic, Laws}
use Rattle.netlist.specs.Board.{Board}
use Rattle.signal.specs.Circuit.{gate, gate_count}
use Rattle.signal.specs.Signal.{resolved}
use Rattle.signal.specs.Calls.{State, drives, level, level_before, changes_at, change_bytes}
use Rattle.signal.proofs.Planning.{planned, planned_all}
use Rattle.signal.proofs.Advancing.{length_bytes}
use Rattle.netlist.specs.Looked.{contents}
use Rattle.tick.specs.Due.{applied, left_over}
use Rattle.tick.specs.Settled.{drivers_of}
use Rattle.tick.specs.Reported.{changed, with_room}
use Rattle.tick.specs.Plans.{result_at, plans}
use Rattle.tick.specs.Laid.{Wrote}
use Rattle.netlist.proofs.Contents.{gate_count as gates-count, watch_count, well_formed}
use Rattle.run.specs.Fits.{Kept, Fits, waiting_at}
use Rattle.run.proofs.Draining.{none_late, left_planned, drained, drained_long}
use Rattle.run.proofs.Settling.{settled, reported}
use Rattle.run.proofs.Plannings.{results, plans_are}

module _ (net : Netlist) where
  pub inputs : (g : ℕ) → g < gate_count (contents net) → ((gate (contents net) g).a < 1024) × ((gate (contents net) g).b < 1024)
  inputs g lt =
      let good = (well_formed net).good g lt in
      let few = net.nets in
      (omega (arith, good.a_below), omega (arith, good.b_below))

  pub watched : AllByRecursion (λ n. n < 1024) (contents net).watches
  watched = All-from_get_or (λ n. n < 1024) (contents net).watches 0 (λ i lt. omega (arith, (well_formed net).below i lt, net.nets))

pub few_more : (r t at end w : ℕ) → r ≤ t * 1024 → end ≡ at + w → w ≤ 8 * 1024 → r + (end - at) / 8 ≤ (t + 1) * 1024
few_more r t at end w h e k = omega arith

eighth : (at m end : ℕ) → end ≡ at + 8 * m → (end - at) / 8 ≡ m
eighth at m end e = omega arith

-- where there is room, all records are written
pub roomy : {V : Type 0} (L : Logic V) (net : Netlist) (old new : List V) (t at : ℕ) (out : List ℕ) (end : ℕ) (out' : List ℕ) → at + 8 * net.head.watches ≤ length out →
    Wrote out at (flat_map change_bytes (with_room L (contents net) old new t at (length out))) end out' → Wrote out at (flat_map change_bytes (changed L (contents net) old new t)) end out'
roomy L net old new t at out end out' room =
    subst (λ b. Wrote out at (flat_map change_bytes (cond b (changed L (contents net) old new t) [])) end out')
    (le-leb (at + 8 * length (contents net).watches) (length out) (omega (arith, watch_count net)))

module _ {V : Type 0} {L : Logic V} (laws : Laws L) (net : Netlist) (s : State V) (t n : ℕ)
    (a : Agenda) (fit calm : Bool) (ports drive plan levels : List V) (ticks records : ℕ)
    (f : Fits L (contents net) s t n a fit calm ports drive plan levels ticks records) (on : s.fit ≡ true) (early : ticks < 16777216)
    (a₁ a₂ a₃ : Agenda) (drive₁ plan₁ levels₁ : List V) (out out₁ : List ℕ) (at end : ℕ)
    (turned : a₁ ≡ turn_after a ticks)
    (drives-set : drive₁ ≡ applied L ticks drive a₁.waiting)
    (taken : a₂ ≡ with_waiting a₁ (left_over ticks a₁.waiting))
    (levels_long : length levels₁ ≡ 1024)
    (resolves : (k : ℕ) → k < 1024 → get_or levels₁ k L.unset ≡ resolved L (drivers_of L (contents net) ports drive₁ k))
    (wrote : Wrote out at (flat_map change_bytes (changed L (contents net) levels levels₁ ticks)) end out₁)
    (plan-long : length plan₁ ≡ length plan)
    (plan-set : (g : ℕ) → g < net.head.gates → get_or plan₁ g L.unset ≡ result_at L (contents net) levels₁ g)
    (put : a₃ ≡ plans L (contents net) levels₁ plan ticks net.head.gates a₂) where
  abbrev C : Board
  C = contents net

  K : Kept L C s t a
  K = f.kept on

  e : ticks ≡ t
  e = f.ticks_are

  T₁ : a₁ ≡ at_tick a t
  T₁ = turned ∙ ap (turn_after a) e ∙ ap (λ o. unless o a (at_tick a t)) (turn_stands a t (omega (arith, K.today_is)) (omega (arith, e)) (ap (λ w. before_tick w t) K.waiting_is ∙ none_late laws C (well_formed net) s t))

  W₁ : a₁.waiting ≡ waiting_at L C s t
  W₁ = ap (λ (x : Agenda). x.waiting) T₁ ∙ K.waiting_is

  B : Agenda
  B = with_waiting (at_tick a t) (planned L C s t 0)

  A₂ : a₂ ≡ with_waiting (at_tick a t) (planned L C s t 0)
  A₂ = taken ∙ (λ i. with_waiting (T₁ i) (left_over (e i) (W₁ i))) ∙ ap (with_waiting (at_tick a t)) (left_planned laws C (well_formed net) s t)

  Dr : drive₁ ≡ applied L t drive (waiting_at L C s t)
  Dr = drives-set ∙ (λ i. applied L (e i) drive (W₁ i))

  drives_now : (g : ℕ) → g < gate_count C → get_or drive₁ g L.unset ≡ drives L C s g t
  drives_now g lt = ap (λ l. get_or l g L.unset) Dr ∙ drained laws C (well_formed net) s drive t (omega (arith, f.held.drives_long, gates-count net, net.table)) f.held.drives_are g lt

  levels_now : (k : ℕ) → k < 1024 → get_or levels₁ k L.unset ≡ level L C s k t
  levels_now k lt = resolves k lt ∙ settled L C s t ports drive₁ (λ p h. f.held.ports_are p t h (omega arith)) drives_now k

  change : changed L C levels levels₁ t ≡ changes_at L C s t
  change = reported L C s t levels levels₁ f.held.levels_are levels_now (watched net)

  results_now : (g : ℕ) → g < gate_count C → result_at L C levels₁ g ≡ drives L C s g (t + (gate C g).delay)
  results_now = results L C (well_formed net) s t levels₁ (inputs net) levels_now

  A₃ : a₃ ≡ with_waiting (at_tick a t) (planned L C s t (gate_count C))
  A₃ = put ∙ (λ i. plans L C levels₁ plan (e i) (sym (gates-count net) i) (A₂ i))
      ∙ plans_are L C (well_formed net) s t levels₁ plan (with_waiting (at_tick a t) (planned L C s t 0)) results_now f.held.planned_are refl K.gates_fit K.room_fits (gate_count C) (omega arith) refl

  pub tick_wrote : Wrote out at (flat_map change_bytes (changes_at L C s t)) end out₁
  tick_wrote = subst (λ cs. Wrote out at (flat_map change_bytes cs) end out₁) (ap (changed L C levels levels₁) e ∙ change) wrote

  pub tick_fits : Fits L C s (t + 1) (n + length (changes_at L C s t)) a₃ fit true ports drive₁ plan₁ levels₁ (ticks + 1) (records + (end - at) / 8)
  tick_fits = record {
    fit_is = f.fit_is;
    ticks_are = ap (λ k. k + 1) e;
    records_are = (λ i. f.records_are i + eighth at (length (changes_at L C s t)) end (tick_wrote.count ∙ ap (λ k. at + k) (length_bytes (changes_at L C s t))) i);
    held = record {
      ports_long = f.held.ports_long;
      drives_long = ap length Dr ∙ drained_long laws C (well_formed net) s drive t ∙ f.held.drives_long;
      planned_long = plan-long ∙ f.held.planned_long;
      levels_long = levels_long;
      ports_are = λ p u lt le. f.held.ports_are p u lt (omega arith);
      drives_are = λ g lt. drives_now g lt ∙ ap (drives L C s g) (less t);
      planned_are = λ g lt. plan-set g (omega (arith, gates-count net)) ∙ results_now g lt ∙ ap (drives L C s g) (shift t (gate C g).delay);
      levels_are = λ k lt. levels_now k lt ∙ sym (ap (level_before L C s k) (add-one t));
    };
    calm_is = λ _. record { some = omega arith; still = λ p lt. f.held.ports_are p t lt (omega arith) ∙ ap (s.port p) (less t) };
    kept = λ _. record {
      today_is = ap (λ (x : Agenda). x.today) A₃ ∙ less t;
      waiting_is = ap (λ (x : Agenda). x.waiting) A₃ ∙ planned_all L C s t ∙ sym (ap (waiting_at L C s) (add-one t));
      gates_fit = subst (λ (x : Agenda). gate_count C ≤ x.gates) (sym A₃) K.gates_fit;
      room_fits = subst (λ (x : Agenda). sum_by (λ g. g.delay) C.gates ≤ x.capacity) (sym A₃) K.room_fits;
    };
  }
    where
      less : (t : ℕ) → t ≡ t + 1 - 1
      less t = omega arith

      shift : (t d : ℕ) → t + d ≡ t + 1 + d - 1
      shift t d = omega arith

  -- on the board that the run was opened on
  pub ticked : (D : Board) → contents net ≡ D →
      Fits L (contents net) s (t + 1) (n + length (changes_at L D s t)) a₃ fit true ports drive₁ plan₁ levels₁ (ticks + 1) (records + (end - at) / 8)
      × Wrote out at (flat_map change_bytes (changes_at L D s t)) end out₁
  ticked D b = subst (λ D.
      Fits L (contents net) s (t + 1) (n + length (changes_at L D s t)) a₃ fit true ports drive₁ plan₁ levels₁ (ticks + 1) (records + (end - at) / 8)
      × Wrote out at (flat_map change_bytes (changes_at L D s t)) end out₁) b (tick_fits, tick_wrote)
