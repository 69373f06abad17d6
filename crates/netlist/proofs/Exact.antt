-- A file without fault is the file of its netlist. Assumes nothing.
use Rattle.std.proofs.Common.{◌≡◌, ℕ, ◌+◌, ◌*◌, ◌<◌, List, length, get_or, Some, None, Option, refl, arith}
use Rattle.std.proofs.lemmas.Bool.Decides.{nat_tests}
use Rattle.netlist.specs.Answers.{◌orelse◌}
use Rattle.netlist.specs.File.{word, gate_offset}
use Rattle.netlist.specs.Kinds.{kind_number, kind_of}
use Rattle.netlist.specs.Checks.{head_fault, gate_no_fault, gates_fault, verdict}
use Rattle.netlist.specs.Board.{encoded, board_of}
use Rattle.netlist.proofs.Firsts.{first_none}
use Rattle.netlist.proofs.Numbers.{number_of}
use Rattle.netlist.proofs.Slices.{written}

none_parts : {F : Type 0} (p q : Option F) → (p orelse q) ≡ None → (p ≡ None) × (q ≡ None)
none_parts (Some e) q h = let z : ◌≡◌ {A = ℕ} 0 1 = cc in absurd (omega arith)
none_parts None q h = (refl, h)

record Marked (f : List ℕ) : Type 0 where
  pub n : get_or f 0 0 ≡ 0x4e
  pub l : get_or f 1 0 ≡ 0x4c
  pub b : get_or f 2 0 ≡ 0x42
  pub version : word f 3 ≡ 1
  pub long : length f ≡ 13 + 9 * word f 9 + 2 * word f 11

marked : (f : List ℕ) → head_fault f ≡ None → Marked f
marked f h = record { n = grind (arith, nat_tests); l = grind (arith, nat_tests); b = grind (arith, nat_tests); version = grind (arith, nat_tests); long = grind (arith, nat_tests) }

module _ (f : List ℕ) (none : verdict f ≡ None) where
  head : head_fault f ≡ None
  head = (none_parts (head_fault f) _ none).0

  gates : gates_fault f ≡ None
  gates = (none_parts (gates_fault f) _ (none_parts (head_fault f) _ none).1).0

  kind : (g : ℕ) → g < word f 9 → kind_number (kind_of (get_or f (gate_offset g) 0)) ≡ get_or f (gate_offset g) 0
  kind g lt =
      let fine = first_none (gate_no_fault f) (word f 9) g gates lt in
      number_of (get_or f (gate_offset g) 0) (grind (arith, nat_tests)) (grind (arith, nat_tests))

  pub exact : ((i : ℕ) → get_or f i 0 < 256) → f ≡ encoded (board_of f)
  exact byte = let m = marked f head in written f byte m.n m.l m.b m.version m.long kind
