-- What the bench says of a board's file, as bytes without the line's end.
use Rattle.std.specs.Prelude.{ℕ, List, ◌++◌, codes, decimal}
use Rattle.netlist.specs.Faults.{fault_text}
use Rattle.netlist.specs.declared.fault.NetlistFault.{NetlistFault}
use Rattle.netlist.specs.declared.inventory.Inventory.{Inventory}

-- the line of a refused file: `no`, line 0, and what the fault says
abbrev pub refusal_text : NetlistFault → List ℕ
refusal_text e = codes "no 0 " ++ fault_text e

-- the line of an accepted file
abbrev pub inventory_text : Inventory → List ℕ
inventory_text h =
    codes "nets " ++ (decimal h.nets
    ++ (codes ", ports " ++ (decimal h.ports
    ++ (codes ", gates " ++ (decimal h.gates
    ++ (codes ", watched " ++ (decimal h.watched
    ++ (codes ", ticks of delay " ++ decimal h.delay))))))))
