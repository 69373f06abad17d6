-- What drives a net, by what ports and gates drive.
use Rattle.std.specs.Prelude.{ℕ, cond, List, [], ◌∷◌, ◌++◌, Some, None, Option, ◌==◌, nat_lt, slice_index_or}
use Rattle.std.specs.List.{range_with_len, flat_map}
use Rattle.logic.specs.Logic.{Logic}
use Rattle.netlist.specs.Board.{Board}
use Rattle.signal.specs.Circuit.{gate, gate_count}
use Rattle.signal.specs.Signal.{resolved_onto}

module _ {V : Type 0} (L : Logic V) (C : Board) (ports drives : List V) (n : ℕ) where
  abbrev pub by_port : ℕ → List V
  by_port m = cond (nat_lt n m) (slice_index_or ports n L.unset ∷ []) []

  abbrev pub by_gate : ℕ → List V
  by_gate g = cond ((gate C g).out == n) (slice_index_or drives g L.unset ∷ []) []

  -- the port, if it is one, then the gates below i with that output, in file order
  abbrev pub drivers_below : ℕ → List V
  drivers_below i = by_port C.ports ++ flat_map by_gate (range_with_len 0 i)

  abbrev pub drivers_of : List V
  drivers_of = drivers_below (gate_count C)

-- v joined to what drives a net so far, if anything does
abbrev pub joined : {V : Type 0} → Logic V → Option V → V → V
joined L None v = v
joined L (Some was) v = L.resolve was v

-- what some drivers come to, if there are any
abbrev pub come_to : {V : Type 0} → Logic V → List V → Option V
come_to L [] = None
come_to L (v ∷ vs) = Some (resolved_onto L v vs)
