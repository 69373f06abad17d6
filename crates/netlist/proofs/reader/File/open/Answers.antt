use Rattle.std.proofs.Common.{arith}
use Rattle.netlist.specs.Checks.{head_of, head_fault}
use Rattle.netlist.proofs.Sofar.{answer_ok}
use Rattle.netlist.proofs.Accepted.{counts}
use Rattle.netlist.proofs.reader.File.open.Goals as goal

pub invariant_of-result : goal.invariant_of-result
invariant_of-result c =
    let f = c.args.bytes.now in
    let a = answer_ok (head_fault f) (head_of f) _ c.in_ok-head.ensures in
    let n = counts f a.0 in
    record { read = a.1; gates = rw a.1 n.gates; watches = rw a.1 (omega (arith, n.watches, n.nets)); whole = rw a.1 n.long }
