-- What stands where in a netlist file.
use Rattle.std.specs.Prelude.{ℕ, ◌+◌, ◌*◌, List, map, slice_index}
use Rattle.std.specs.List.{range_with_len}
use Rattle.netlist.specs.Kinds.{kind_of}
use Rattle.netlist.specs.declared.gate.Gate.{Gate}

-- the 16 bits at an offset, the high byte first
abbrev pub word : List ℕ → ℕ → ℕ
word f at = slice_index f at * 256 + slice_index f (at + 1)

-- the record at an offset
abbrev pub gate_at : List ℕ → ℕ → Gate
gate_at f at = record { kind = kind_of (slice_index f at); a = word f (at + 1); b = word f (at + 3); out = word f (at + 5); delay = word f (at + 7) }

-- where gate g's record stands
abbrev pub gate_offset : ℕ → ℕ
gate_offset g = 13 + 9 * g

-- gate g, by its number in the file from 0
abbrev pub gate_no : List ℕ → ℕ → Gate
gate_no f g = gate_at f (gate_offset g)

-- the file's gates, in order
abbrev pub gates_of : List ℕ → List Gate
gates_of f = map (gate_no f) (range_with_len 0 (word f 9))

-- where watch i stands
abbrev pub watch_offset : List ℕ → ℕ → ℕ
watch_offset f i = 13 + 9 * word f 9 + 2 * i

abbrev pub watch_at : List ℕ → ℕ → ℕ
watch_at f i = word f (watch_offset f i)

-- the file's watch list
abbrev pub watches_of : List ℕ → List ℕ
watches_of f = map (watch_at f) (range_with_len 0 (word f 11))
