-- The signal definition: what every gate drives, and what every net carries, at every tick.
--
-- S(g) is the start level of gate g, and P(p, t) the value of port p at tick t.
-- D(g, t), what gate g drives, is S(g) before the gate's delay d has passed, and then its operation on N(a, t - d) and N(b, t - d).
-- N(n, t), what net n carries, resolves from the left P(n, t), if n is a port, and D(g, t) of each gate with output n, in file order.
-- Every delay is at least 1, so D at tick t looks only at ticks before t, and loops of gates need no special care.
use Rattle.std.specs.Prelude.{◌≡◌, ℕ, zero, suc, ◌-◌, ◌<◌, ◌≤◌, true, false, cond, List, [], ◌∷◌, ◌++◌, map, ◌==◌, nat_lt}
use Rattle.std.specs.List.{range_with_len, flat_map}
use Rattle.logic.specs.Logic.{Logic}
use Rattle.netlist.specs.declared.gate.Gate.{Gate}
use Rattle.netlist.specs.Board.{Board}
use Rattle.netlist.specs.Kinds.{kind_number}
use Rattle.signal.specs.Circuit.{gate, gate_count, operate}

-- A level for each net and tick.
abbrev pub Levels : Type 0 → Type 0
Levels V = ℕ → ℕ → V

-- v resolved with each value of a list in turn.
abbrev pub resolved_onto : {V : Type 0} → Logic V → V → List V → V
resolved_onto L v [] = v
resolved_onto L v (w ∷ ws) = resolved_onto L (L.resolve v w) ws

-- Several drivers resolve from the left. A single driver is taken as it is. (A looked-over netlist has a driver for every net.)
abbrev pub resolved : {V : Type 0} → Logic V → List V → V
resolved L [] = L.unset
resolved L (v ∷ vs) = resolved_onto L v vs

-- Each gate's record with its start level, in file order.
abbrev pub started : {V : Type 0} → Board → (ℕ → V) → List (Gate × V)
started C S = map (λ g. (gate C g, S g)) (range_with_len 0 (gate_count C))

module _ {V : Type 0} (L : Logic V) (C : Board) (S : ℕ → V) (P : ℕ → ℕ → V) where
  -- ---- the two equations, over given levels N of the ticks before t

  -- D(g, t): the start level while t is below the delay, else the operation on the inputs a delay ago.
  abbrev pub driven : Levels V → ℕ → ℕ → V
  driven N g t =
      elim (nat_lt t (gate C g).delay) [
        | true ↦ S g
        | false ↦ operate L (kind_number (gate C g).kind) (N (gate C g).a (t - (gate C g).delay)) (N (gate C g).b (t - (gate C g).delay))
      ]

  -- What the port drives onto net n, if n is a port.
  abbrev pub from_port : ℕ → ℕ → List V
  from_port n t = cond (nat_lt n C.ports) (P n t ∷ []) []

  -- What gate g drives onto net n, if n is its output.
  abbrev pub from_gate : Levels V → ℕ → ℕ → ℕ → List V
  from_gate N n t g = cond ((gate C g).out == n) (driven N g t ∷ []) []

  -- All that drives net n at tick t: the port first, then the gates in file order.
  abbrev pub drivers : Levels V → ℕ → ℕ → List V
  drivers N n t = from_port n t ++ flat_map (from_gate N n t) (range_with_len 0 (gate_count C))

  -- N(n, t): the drivers, resolved.
  abbrev pub carried : Levels V → ℕ → ℕ → V
  carried N n t = resolved L (drivers N n t)

  -- ---- the levels themselves, tick upon tick

  -- The levels of the ticks before t, and unset from t on.
  unfoldable pub before : ℕ → Levels V
  before zero n u = L.unset
  before (suc t) n u = elim (u == t) [ true ↦ carried (before t) n t | false ↦ before t n u ]

  -- N(n, t), what net n carries at tick t.
  unfoldable pub N : Levels V
  N n t = carried (before t) n t

  -- D(g, t), what gate g drives at tick t.
  unfoldable pub D : ℕ → ℕ → V
  D g t = driven (before t) g t

  -- ---- the promise

  -- N' and D' solve the equations of the signal definition.
  pub record Signals (N' : Levels V) (D' : ℕ → ℕ → V) : Type 0 where
    -- a gate drives its start level until its delay has passed,
    pub early : (g t : ℕ) → g < gate_count C → t < (gate C g).delay → D' g t ≡ S g
    -- and from then on what its operation gives on its inputs a delay ago;
    pub late : (g t : ℕ) → g < gate_count C → (gate C g).delay ≤ t →
        D' g t ≡ operate L (kind_number (gate C g).kind) (N' (gate C g).a (t - (gate C g).delay)) (N' (gate C g).b (t - (gate C g).delay))
    -- and a net carries what drives it, resolved.
    pub nets : (n t : ℕ) →
        N' n t ≡ resolved L (from_port n t ++ flat_map (λ g. cond ((gate C g).out == n) (D' g t ∷ []) []) (range_with_len 0 (gate_count C)))

  -- N and D solve the equations, and nothing else does: any solution has the same nets, and the same levels of all gates of the board.
  pub record Defined : Type 0 where
    pub meets : Signals N D
    pub only : (N' : Levels V) (D' : ℕ → ℕ → V) → Signals N' D' → (n t : ℕ) → N' n t ≡ N n t
    pub only_gates : (N' : Levels V) (D' : ℕ → ℕ → V) → Signals N' D' → (g t : ℕ) → g < gate_count C → D' g t ≡ D g t

-- Over every board whose delays are at least 1, and all start levels and port values.
abbrev pub SignalDefinition : {V : Type 0} → Logic V → Type 0
SignalDefinition {V} L = (C : Board) (S : ℕ → V) (P : ℕ → ℕ → V) → ((g : ℕ) → g < gate_count C → 1 ≤ (gate C g).delay) → Defined L C S P
