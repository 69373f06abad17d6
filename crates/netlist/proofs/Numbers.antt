-- A kind's number and the kind of a number. Assumes nothing.
use Rattle.std.proofs.Common.{◌≡◌, ℕ, ◌+◌, ◌-◌, ◌≤◌, map, get_or, sym, refl, ap, ◌∙◌, arith}
use Rattle.std.specs.List.{range_with_len}
use Rattle.std.proofs.Math.ListN.{get_or-map}
use Rattle.std.proofs.lemmas.List.FromFn.{get_or-range_with_len}
use Rattle.netlist.specs.Kinds.{kinds, kind_number, kind_of}
use Rattle.netlist.specs.declared.gate.GateKind.{GateKind}
use Rattle.netlist.specs.declared.gate.GateKind.TheVariants.{Buffer, Not, And, Or, Xor, Nand, Nor, Xnor, Tri, PullUp, PullDown}

pub of_number : (k : GateKind) → kind_of (kind_number k) ≡ k
of_number Buffer = refl
of_number Not = refl
of_number And = refl
of_number Or = refl
of_number Xor = refl
of_number Nand = refl
of_number Nor = refl
of_number Xnor = refl
of_number Tri = refl
of_number PullUp = refl
of_number PullDown = refl

pub number_range : (k : GateKind) → (1 ≤ kind_number k) × (kind_number k ≤ 11)
number_range k = (grind arith, grind arith)

pub number_of : (n : ℕ) → 1 ≤ n → n ≤ 11 → kind_number (kind_of n) ≡ n
number_of n low high =
    let listed : map kind_number kinds ≡ range_with_len 1 11 = refl in
    let back : 1 + (n - 1) ≡ n = omega arith in
    sym (get_or-map kind_number kinds (n - 1) _) ∙ ap (λ l. get_or l (n - 1) 1) listed ∙ get_or-range_with_len 1 11 (n - 1) 1 (omega arith) ∙ back
