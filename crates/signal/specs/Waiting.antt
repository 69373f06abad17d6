-- What waits in the calendar after a completed tick, entry by entry.
use Rattle.std.specs.Prelude.{◌≡◌, ℕ, ◌+◌, ◌-◌, ◌<◌, ◌≤◌, ◌⊎◌, ◌↔◌}
use Rattle.std.specs.List.{ContainsAt as Has}
use Rattle.logic.specs.Logic.{Logic}
use Rattle.netlist.specs.Board.{Board, WellFormed}
use Rattle.signal.specs.Circuit.{gate, gate_count}
use Rattle.calendar.specs.declared.entry.Entry.{Entry}
use Rattle.signal.specs.Ordered.{Ordered}
use Rattle.signal.specs.Calls.{State, drives, waiting_after}

module _ {V : Type 0} (L : Logic V) (C : Board) (s : State V) where
  -- The entry x = (u, g, code of D(g, u)) belongs into the calendar after completed tick t: g is a gate, t < u ≤ t + d with its delay d,
  -- and D(g, u) is unequal to D(g, u - 1).
  pub record Due (t : ℕ) (x : Entry) : Type 0 where
    pub of_gate : x.gate < gate_count C
    pub later : t < x.tick
    pub soon : x.tick ≤ t + (gate C x.gate).delay
    pub differs : drives L C s x.gate x.tick ≡ drives L C s x.gate (x.tick - 1) → ⊥
    pub coded : x.code ≡ L.code (drives L C s x.gate x.tick)

-- The entries that wait are exactly those, on every well-formed board, in every state and after every tick.
abbrev pub WaitingExactly : {V : Type 0} → Logic V → Type 0
WaitingExactly {V} L = (C : Board) → WellFormed C → (s : State V) (t : ℕ) (x : Entry) → Has (waiting_after L C s t) x ↔ Due L C s t x

-- By tick, then gate.
abbrev pub Sooner : Entry → Entry → Type 0
Sooner x y = (x.tick < y.tick) ⊎ ((x.tick ≡ y.tick) × (x.gate < y.gate))

-- They stand in order, so none waits twice, nor two of one tick and gate.
abbrev pub WaitingOrdered : {V : Type 0} → Logic V → Type 0
WaitingOrdered {V} L = (C : Board) (s : State V) (t : ℕ) → Ordered Sooner (waiting_after L C s t)
