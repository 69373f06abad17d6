-- What a netlist holds, in numbers.
use Rattle.std.specs.Prelude.{length}
use Rattle.netlist.specs.Board.{Board, total_delay}
use Rattle.netlist.specs.declared.inventory.Inventory.{Inventory}

abbrev pub stock : Board → Inventory
stock b = record { nets = b.nets; ports = b.ports; gates = length b.gates; watched = length b.watches; delay = total_delay b }
