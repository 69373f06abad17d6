-- The netlist of a file, or the one that a place starts with. Assumes nothing.
use Rattle.std.proofs.Common.{◌≡◌, ℕ, List, Some, None, Ok, Err, Option, Result, refl, ap, ◌∙◌}
use Rattle.std.specs.Result.{result_unwrap_or}
use Rattle.netlist.specs.Answers.{answer}
use Rattle.netlist.specs.Checks.{verdict}
use Rattle.netlist.specs.Looked.{contents, unfilled}
use Rattle.netlist.specs.declared.fault.NetlistFault.{NetlistFault}
use Rattle.netlist.specs.declared.place.Netlist.{Netlist}
use Rattle.netlist.proofs.Back.{accepted}
use Rattle.board_file.specs.Boards.{BoardOf, OrEmpty}

blamed : (o : Option NetlistFault) (e : NetlistFault) → answer o (tt {0}) ≡ Err e → o ≡ Some e
blamed (Some d) e is = cc
blamed None e is = cc

pub or_empty : (f : List ℕ) (r : Result Netlist NetlistFault) (start : Netlist) → BoardOf f r → contents start ≡ unfilled → OrEmpty f (verdict f) (result_unwrap_or r start)
or_empty f (Ok n) start is starts =
    let none : verdict f ≡ None = ap verdict (is.0.only refl).1 ∙ accepted (contents n) is.1 in
    rw none is.0
or_empty f (Err e) start is starts = let v = blamed (verdict f) e is in rw v starts
