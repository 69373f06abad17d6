-- The kinds of gates, and their numbers in a file.
use Rattle.std.specs.Prelude.{◌≡◌, ℕ, ◌-◌, Bool, true, ◌&&◌, List, [], ◌∷◌, nat_le, slice_index_or, Result, MatchResult}
use Rattle.netlist.specs.Answers.{outside}
use Rattle.netlist.specs.declared.gate.GateKind.{GateKind}
use Rattle.netlist.specs.declared.gate.GateKind.TheVariants.{Buffer, Not, And, Or, Xor, Nand, Nor, Xnor, Tri, PullUp, PullDown}
use Rattle.netlist.specs.declared.gate.NoSuchKind.{NoSuchKind}

abbrev pub kind_number : GateKind → ℕ
kind_number Buffer = 1
kind_number Not = 2
kind_number And = 3
kind_number Or = 4
kind_number Xor = 5
kind_number Nand = 6
kind_number Nor = 7
kind_number Xnor = 8
kind_number Tri = 9
kind_number PullUp = 10
kind_number PullDown = 11

-- the kinds in the order of their numbers, which start at 1
abbrev pub kinds : List GateKind
kinds = Buffer ∷ Not ∷ And ∷ Or ∷ Xor ∷ Nand ∷ Nor ∷ Xnor ∷ Tri ∷ PullUp ∷ PullDown ∷ []

-- the kind of a number 1 to 11, and Buffer for any other
abbrev pub kind_of : ℕ → GateKind
kind_of n = slice_index_or kinds (n - 1) Buffer

-- the result is the kind that has the number, or an error where none has it
abbrev pub Decodes : ℕ → Result GateKind NoSuchKind → Type 0
Decodes n r = MatchResult r (λ kind. kind_number kind ≡ n) (λ e. outside 1 11 n ≡ true)

-- the pulls, 10 and 11, use neither input
abbrev pub reads_a : GateKind → Bool
reads_a kind = nat_le (kind_number kind) 9

-- the buffer and NOT, 1 and 2, use a alone
abbrev pub reads_b : GateKind → Bool
reads_b kind = nat_le 3 (kind_number kind) && nat_le (kind_number kind) 9
