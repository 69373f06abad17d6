-- What a walk along a chain has left. Assumes nothing.
use Rattle.std.specs.Prelude.{ℕ, List, [], ◌∷◌, Some, None, Option}
use Rattle.netlist.specs.Board.{Board}
use Rattle.netlist.specs.Looked.{contents}
use Rattle.fanout.specs.Seek.{gates_behind}
use Rattle.fanout.specs.declared.pin.Pin.{Pin}
use Rattle.fanout.specs.declared.gates.GatesAt.{GatesAt}

-- the gate that a walk stands at, and those behind it
abbrev pub chain_from : Board → Pin → Option ℕ → List ℕ
chain_from C p None = []
chain_from C p (Some g) = g ∷ gates_behind C p g

abbrev pub left : GatesAt → List ℕ
left s = chain_from (contents s.wiring.now.net) s.pin s.at
