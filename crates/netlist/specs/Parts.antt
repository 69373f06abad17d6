-- A netlist's parts.
use Rattle.std.specs.Prelude.{ℕ, ◌-◌, Bool, List, ◌++◌, length, replicate, ◌==◌}
use Rattle.std.specs.List.{list_any}
use Rattle.netlist.specs.declared.gate.Gate.{Gate}
use Rattle.netlist.specs.declared.gate.GateKind.TheVariants.{Buffer}

-- what fills the rest of a table
abbrev pub blank : Gate
blank = record { kind = Buffer; a = 0; b = 0; out = 0; delay = 0 }

-- some gate has the net as its output
abbrev pub is_output : List Gate → ℕ → Bool
is_output gates n = list_any (λ g. g.out == n) gates

-- a table of 1,024 entries that begins with those of a list
abbrev pub table : {X : Type 0} → X → List X → List X
table x xs = xs ++ replicate (1024 - length xs) x
