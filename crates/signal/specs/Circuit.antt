-- A circuit, as a looked-over netlist says it, and what each kind of gate gives.
--
-- A board has `nets` nets, numbered from 0. The nets below `ports` are ports, which the outside drives. The gates stand in file order
-- and are numbered from 0. The watch list names, rising, the nets whose changes a trace records.
use Rattle.std.specs.Prelude.{ℕ, List, [], ◌∷◌, length, slice_index_or}
use Rattle.netlist.specs.Board.{Board}
use Rattle.netlist.specs.declared.gate.Gate.{Gate}
use Rattle.netlist.specs.Parts.{blank}
use Rattle.logic.specs.Logic.{Logic}

-- The gate of a number: its kind, its inputs a and b, its output net and its delay in ticks.
abbrev pub gate : Board → ℕ → Gate
gate C g = slice_index_or C.gates g blank

-- How many gates there are.
abbrev pub gate_count : Board → ℕ
gate_count C = length C.gates

-- What each kind of gate gives on its inputs a and b, listed by the kind's number. A looked-over netlist has the kinds 1 to 11:
-- 1 AND of a and a (a buffer), 2 NOT a, 3 AND, 4 OR, 5 XOR, 6 to 8 the NOT of 3 to 5, 9 TRI with data a and enable b,
-- 10 pull-up, 11 pull-down. No kind has the number 0, nor one above 11.
abbrev pub results : {V : Type 0} → Logic V → V → V → List V
results L a b =
    L.unset
    ∷ L.and a a
    ∷ L.not a
    ∷ L.and a b
    ∷ L.or a b
    ∷ L.xor a b
    ∷ L.not (L.and a b)
    ∷ L.not (L.or a b)
    ∷ L.not (L.xor a b)
    ∷ L.tri a b
    ∷ L.up
    ∷ L.down
    ∷ []

-- What a gate of that kind gives on a and b.
abbrev pub operate : {V : Type 0} → Logic V → ℕ → V → V → V
operate L kind a b = slice_index_or (results L a b) kind L.unset
