-- Which calls of a run are refused, with which fault, and that a refused call changes nothing.
use Rattle.std.specs.Prelude.{◌≡◌, ℕ, ◌+◌, ◌*◌, ◌<◌, ◌≤◌, false, ◌⊎◌, ◌↔◌, length, Some, None, Option, ◌≢◌}
use Rattle.logic.specs.Logic.{Logic}
use Rattle.netlist.specs.Board.{Board}
use Rattle.signal.specs.Circuit.{gate_count}
use Rattle.signal.specs.Calls.{State, Call, wake, drive, advance, read, Answer, done, advanced, shows, refused, most_ticks, after, leaves, answer, answers}

-- A fault: its number, the letter of the layer that found it, and its place.
pub record Fault : Type 0 where
  pub number : ℕ
  pub layer : ℕ
  pub place : ℕ

-- The letter r, of the run.
abbrev pub run_layer : ℕ
run_layer = 114

-- The fault of an answer, if it is a refusal.
abbrev pub fault : Answer → Option Fault
fault done = None
fault (advanced ticks bytes) = None
fault (shows code definite) = None
fault (refused number place) = Some (record { number = number; layer = run_layer; place = place })

module _ {V : Type 0} (L : Logic V) (C : Board) where
  -- No value of the family has the code.
  abbrev pub Valueless : ℕ → Type 0
  Valueless code = (v : V) → L.code v ≢ code

  -- Fault n is called for:
  -- 16 the run was opened on an unfit calendar; 17 there is no such gate or port; 18 the code has no value; 19 no tick is asked for;
  -- 20 the run would pass its last tick; 21 the trace buffer has no room for one tick; 22 there is no such net;
  -- 23 read finds no tick complete, or wake finds one complete.
  abbrev pub Wrong : State V → Call → ℕ → Type 0
  Wrong s (wake g code) n =
      ((n ≡ 16) × (s.fit ≡ false)) ⊎ (((n ≡ 17) × (gate_count C ≤ g)) ⊎ (((n ≡ 18) × Valueless code) ⊎ ((n ≡ 23) × (0 < s.ticks))))
  Wrong s (drive p code) n =
      ((n ≡ 16) × (s.fit ≡ false)) ⊎ (((n ≡ 17) × (C.ports ≤ p)) ⊎ ((n ≡ 18) × Valueless code))
  Wrong s (advance k room) n =
      ((n ≡ 16) × (s.fit ≡ false)) ⊎ (((n ≡ 19) × (k ≡ 0)) ⊎ (((n ≡ 20) × (most_ticks < s.ticks + k)) ⊎ ((n ≡ 21) × (room < 8 * length C.watches))))
  Wrong s (read net) n =
      ((n ≡ 16) × (s.fit ≡ false)) ⊎ (((n ≡ 22) × (C.nets ≤ net)) ⊎ ((n ≡ 23) × (s.ticks ≡ 0)))

  pub record RefusedExactly (s : State V) (c : Call) : Type 0 where
    -- A call is refused exactly where something is wrong with it: with the lowest fault that is called for, of the layer r,
    -- at the completed ticks.
    pub refuses : (f : Fault) →
        fault (answer L C s c) ≡ Some f ↔ ((f.layer ≡ run_layer) × (f.place ≡ s.ticks) × Wrong s c f.number × ((m : ℕ) → m < f.number → Wrong s c m → ⊥))
    -- A call that nothing is wrong with is worked.
    pub works : ((n : ℕ) → Wrong s c n → ⊥) → (after L C s c ≡ leaves L C s c) × (answer L C s c ≡ answers L C s c)
    -- A refused call changes nothing.
    pub unchanged : (f : Fault) → fault (answer L C s c) ≡ Some f → after L C s c ≡ s

-- Over every board, every state and every call.
abbrev pub RefusalsExact : {V : Type 0} → Logic V → Type 0
RefusalsExact {V} L = (C : Board) (s : State V) (c : Call) → RefusedExactly L C s c
