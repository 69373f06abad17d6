use Rattle.std.proofs.Common.{arith}
use Rattle.netlist.specs.Looked.{contents}
use Rattle.netlist.proofs.Contents.{gate_count as gates-count}
use Rattle.fanout.specs.Seek.{gates_at}
use Rattle.fanout.specs.Left.{left}
use Rattle.fanout.proofs.Readers.{marks_all, in_chain}
use Rattle.fanout.proofs.settle.mark_readers.Goals as goal

pub returns : goal.returns
returns c =
    let net = c.args.wiring.now.net in
    let marks = c.loop-g.invariant.2 in
    record {
      kept = marks.kept;
      readers = λ h lt e. marks_all (gates_at (contents net) c.args.pin c.args.n) c.args.gates.now.words c.loop-g.gates.words (left c.loop-g.g-iterator) c.in-None.ensures.steps.0 marks h
          (omega (arith, net.table)) (in_chain (contents net) c.args.pin c.args.n h (omega (arith, gates-count net)) e);
    }
