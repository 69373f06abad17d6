-- The netlist that a file gives.
use Rattle.std.specs.Prelude.{◌≡◌, ℕ, List, Some, None, Ok, Err, Option, Result}
use Rattle.netlist.specs.Answers.{answer}
use Rattle.netlist.specs.Checks.{verdict}
use Rattle.netlist.specs.Board.{WellFormed}
use Rattle.netlist.specs.Looked.{Exactly, contents, unfilled}
use Rattle.netlist.specs.declared.fault.NetlistFault.{NetlistFault}
use Rattle.netlist.specs.declared.place.Netlist.{Netlist}

-- the netlist that the file writes down, which keeps the rules; or the fault of the file
abbrev pub BoardOf : List ℕ → Result Netlist NetlistFault → Type 0
BoardOf f (Ok n) = Exactly f n (Ok tt) × WellFormed (contents n)
BoardOf f (Err e) = answer (verdict f) (tt {0}) ≡ Err e

-- the netlist that the file writes down; or, where the file has a fault, the one that a place starts with
abbrev pub OrEmpty : List ℕ → Option NetlistFault → Netlist → Type 0
OrEmpty f None n = Exactly f n (Ok tt)
OrEmpty f (Some e) n = contents n ≡ unfilled
