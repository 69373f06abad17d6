-- The number, the layer and the place of each refusal of a netlist file.
use Rattle.std.specs.Prelude.{ℕ, List, ◌∷◌, ◌++◌, codes, decimal}
use Rattle.netlist.specs.declared.fault.NetlistFault.{NetlistFault}
use Rattle.netlist.specs.declared.fault.NetlistFault.TheVariants.{Short, Mark, Version, Count, Length, Kind, Net, Delay, Watch, Undriven}

abbrev pub fault_number : NetlistFault → ℕ
fault_number (Short p) = 1
fault_number (Mark p) = 2
fault_number (Version p) = 3
fault_number (Count p) = 4
fault_number (Length p) = 5
fault_number (Kind p) = 6
fault_number (Net p) = 7
fault_number (Delay p) = 8
fault_number (Watch p) = 9
fault_number (Undriven p) = 10

-- the letter n
abbrev pub fault_layer : NetlistFault → ℕ
fault_layer e = 110

abbrev pub fault_place : NetlistFault → ℕ
fault_place (Short p) = p
fault_place (Mark p) = p
fault_place (Version p) = p
fault_place (Count p) = p
fault_place (Length p) = p
fault_place (Kind p) = p
fault_place (Net p) = p
fault_place (Delay p) = p
fault_place (Watch p) = p
fault_place (Undriven p) = p

-- the number, the layer's letter and the place, one space apart
abbrev pub fault_text : NetlistFault → List ℕ
fault_text e = decimal (fault_number e) ++ (codes " " ++ (fault_layer e ∷ (codes " " ++ decimal (fault_place e))))
