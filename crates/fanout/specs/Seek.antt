-- The gates that meet a net. Assumes nothing.
use Rattle.std.specs.Prelude.{◌≡◌, ℕ, ◌+◌, ◌-◌, ◌<◌, Bool, true, false, List, filter, find, Some, None, Option, ◌==◌, nat_lt, slice_index, slice_index_or}
use Rattle.std.specs.Bool.{then_some}
use Rattle.std.specs.Option.{unwrap_or}
use Rattle.std.specs.List.{range_with_len}
use Rattle.netlist.specs.declared.gate.Gate.{Gate}
use Rattle.logic.specs.Logic.{Logic}
use Rattle.netlist.specs.Board.{Board}
use Rattle.netlist.specs.Kinds.{reads_a, reads_b}
use Rattle.number_set.specs.Members.{member}
use Rattle.signal.specs.Circuit.{gate, gate_count}
use Rattle.tick.specs.Plans.{result_at}
use Rattle.fanout.specs.declared.pin.Pin.{Pin}
use Rattle.fanout.specs.declared.pin.Pin.TheVariants.{Output, First, Second}

-- the net at a pin, if the gate's kind uses that pin
abbrev pub pin_net : Pin → Gate → Option ℕ
pin_net Output g = Some g.out
pin_net First g = then_some (reads_a g.kind) g.a
pin_net Second g = then_some (reads_b g.kind) g.b

abbrev pub net_at : Board → Pin → ℕ → Option ℕ
net_at C p g = pin_net p (gate C g)

abbrev pub out_of : Board → ℕ → ℕ
out_of C g = (gate C g).out

-- the same net, or no net at both
abbrev pub same_net : Option ℕ → Option ℕ → Bool
same_net (Some m) (Some n) = m == n
same_net (Some m) None = false
same_net None (Some n) = false
same_net None None = true

-- whether gate g meets the net o at the pin
abbrev pub meets : Board → Pin → Option ℕ → ℕ → Bool
meets C p o g = same_net (net_at C p g) o

-- the gates from number i on
abbrev pub numbers_from : Board → ℕ → List ℕ
numbers_from C i = range_with_len i (gate_count C - i)

-- all gates that meet net n at the pin, in file order
abbrev pub gates_at : Board → Pin → ℕ → List ℕ
gates_at C p n = filter (meets C p (Some n)) (numbers_from C 0)

-- the gates behind g that meet the same net as g at the pin; where g meets no net, those that meet none either
abbrev pub gates_behind : Board → Pin → ℕ → List ℕ
gates_behind C p g = filter (meets C p (net_at C p g)) (numbers_from C (g + 1))

-- the gate that an entry of a chain names: 1,024 is none
abbrev pub named : ℕ → Option ℕ
named entry = then_some (nat_lt entry 1024) entry

-- the entry that names a gate, or none: just 1,024
abbrev pub entry_of : Option ℕ → ℕ
entry_of o = unwrap_or o 1024

-- for each net the first gate that meets it at the pin
abbrev pub Firsts : Board → Pin → List ℕ → Type 0
Firsts C p first = (n : ℕ) → n < 1024 → slice_index first n ≡ entry_of (find (meets C p (Some n)) (numbers_from C 0))

-- for each gate the next that meets the same net as it at the pin; those whose kinds do not use the pin stand in a chain too
abbrev pub Nexts : Board → Pin → List ℕ → Type 0
Nexts C p next = (g : ℕ) → g < gate_count C → slice_index next g ≡ entry_of (find (meets C p (net_at C p g)) (numbers_from C (g + 1)))

-- every gate that does not stand in the set has planned what it gives on the levels
abbrev pub Idle : {V : Type 0} → Logic V → Board → List V → List V → List ℕ → Type 0
Idle L C levels planned words = (g : ℕ) → g < gate_count C → member words g ≡ false → slice_index_or planned g L.unset ≡ result_at L C levels g
