-- What looking over a file leaves in the place.
use Rattle.std.specs.Prelude.{◌≡◌, ℕ, List, [], ◌∷◌, take, Some, None, Ok, Option, Result}
use Rattle.netlist.specs.Checks.{head_of}
use Rattle.netlist.specs.File.{gates_of, watches_of}
use Rattle.netlist.specs.Board.{Board, WellFormed, encoded}
use Rattle.netlist.specs.Parts.{table, blank}
use Rattle.netlist.specs.declared.fault.NetlistFault.{NetlistFault}
use Rattle.netlist.specs.declared.place.Netlist.{Netlist}

-- the place holds the netlist that the file writes down
pub record Holds (f : List ℕ) (place : Netlist) : Type 0 where
  pub head : place.head ≡ head_of f
  pub gates : place.gates ≡ table blank (gates_of f)
  pub watches : place.watches ≡ table 0 (watches_of f)

-- a refused file leaves the place as it was
abbrev pub After : List ℕ → Option NetlistFault → Netlist → Netlist → Type 0
After f (Some e) before after = after ≡ before
After f None before after = Holds f after

-- the netlist that a place holds
abbrev pub contents : Netlist → Board
contents n = record { nets = n.head.nets; ports = n.head.ports; gates = take n.head.gates n.gates; watches = take n.head.watches n.watches }

-- one net, a port, watched, and no gate
abbrev pub unfilled : Board
unfilled = record { nets = 1; ports = 1; gates = []; watches = 0 ∷ [] }

-- Looking over accepts exactly the files that write down a netlist that keeps the rules:
-- every such file is accepted, and the place then holds that netlist;
-- only such a file is accepted, its netlist being the one that the place then holds;
-- and two different netlists that keep the rules never have the same file.
pub record Exactly (f : List ℕ) (after : Netlist) (r : Result (Unit {0}) NetlistFault) : Type 0 where
  pub every : (b : Board) → WellFormed b → f ≡ encoded b → (r ≡ Ok tt) × (contents after ≡ b)
  pub only : r ≡ Ok tt → WellFormed (contents after) × (f ≡ encoded (contents after))
  pub apart : (b c : Board) → WellFormed b → WellFormed c → encoded b ≡ encoded c → b ≡ c
