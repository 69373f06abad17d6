-- The checks of a netlist file, in order.
use Rattle.std.specs.Prelude.{ℕ, ◌+◌, ◌-◌, ◌*◌, Bool, not, ◌&&◌, ◌||◌, List, length, Option, ◌==◌, nat_le, nat_lt, slice_index}
use Rattle.netlist.specs.Answers.{when, ◌orelse◌, first_fault, outside}
use Rattle.netlist.specs.File.{word, gate_offset, gate_no, gates_of, watch_at, watch_offset}
use Rattle.netlist.specs.Kinds.{reads_a, reads_b}
use Rattle.netlist.specs.Parts.{is_output}
use Rattle.netlist.specs.declared.gate.Gate.{Gate}
use Rattle.netlist.specs.declared.gate.Head.{Head}
use Rattle.netlist.specs.declared.fault.NetlistFault.{NetlistFault}
use Rattle.netlist.specs.declared.fault.NetlistFault.TheVariants.{Short, Mark, Version, Count, Length, Kind, Net, Delay, Watch, Undriven}

abbrev pub head_of : List ℕ → Head
head_of f = record { nets = word f 5; ports = word f 7; gates = word f 9; watches = word f 11 }

abbrev pub head_fault : List ℕ → Option NetlistFault
head_fault f =
    when (nat_lt (length f) 13) (Short (length f))
    orelse when (not (slice_index f 0 == 0x4e && (slice_index f 1 == 0x4c && slice_index f 2 == 0x42))) (Mark 0)
    orelse when (not (word f 3 == 1)) (Version 3)
    orelse when (outside 1 1024 (word f 5)) (Count 5)
    orelse when (nat_lt (word f 5) (word f 7)) (Count 7)
    orelse when (nat_lt 1024 (word f 9)) (Count 9)
    orelse when (outside 1 (word f 5) (word f 11)) (Count 11)
    orelse when (not (length f == 13 + 9 * word f 9 + 2 * word f 11)) (Length (length f))

-- an input that the kind does not use is not 0
abbrev pub unused_set : Gate → Bool
unused_set g = (not (reads_a g.kind) && not (g.a == 0)) || (not (reads_b g.kind) && not (g.b == 0))

-- the fault of a gate of a netlist of n nets, whose record stands at an offset and begins with a byte
abbrev pub gate_fault : ℕ → ℕ → ℕ → Gate → Option NetlistFault
gate_fault n at byte g =
    when (outside 1 11 byte) (Kind at)
    orelse when (nat_le n g.a || (nat_le n g.b || (nat_le n g.out || unused_set g))) (Net at)
    orelse when (outside 1 64 g.delay) (Delay at)

-- the fault of gate g
abbrev pub gate_no_fault : List ℕ → ℕ → Option NetlistFault
gate_no_fault f g = gate_fault (word f 5) (gate_offset g) (slice_index f (gate_offset g)) (gate_no f g)

-- gate by gate, in file order
abbrev pub gates_fault : List ℕ → Option NetlistFault
gates_fault f = first_fault (gate_no_fault f) (word f 9)

-- a watched net is below the nets, and above the one before
abbrev pub watch_fault : List ℕ → ℕ → Option NetlistFault
watch_fault f i = when (nat_le (word f 5) (watch_at f i) || (nat_lt 0 i && nat_le (watch_at f i) (watch_at f (i - 1)))) (Watch (watch_offset f i))

abbrev pub watches_fault : List ℕ → Option NetlistFault
watches_fault f = first_fault (watch_fault f) (word f 11)

-- a net is a port or an output
abbrev pub net_fault : ℕ → List Gate → ℕ → Option NetlistFault
net_fault ports gates n = when (not (nat_lt n ports || is_output gates n)) (Undriven n)

-- the lowest net that is neither a port nor an output
abbrev pub nets_fault : ℕ → List Gate → ℕ → Option NetlistFault
nets_fault ports gates = first_fault (net_fault ports gates)

abbrev pub verdict : List ℕ → Option NetlistFault
verdict f = head_fault f orelse gates_fault f orelse watches_fault f orelse nets_fault (word f 7) (gates_of f) (word f 5)
