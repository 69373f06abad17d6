use Rattle.netlist.specs.Looked.{contents}
use Rattle.fanout.specs.Seek.{gates_at}
use Rattle.fanout.specs.Left.{left}
use Rattle.fanout.proofs.Readers.{Marks}
use Rattle.fanout.proofs.settle.mark_readers.Given as goal

abbrev pub invariant-loop-g : goal.invariant-loop-g
invariant-loop-g l =
    goal.iterator-loop-g.can_next l.g-iterator × goal.iterator-loop-g.is_finite l.g-iterator
    × Marks (gates_at (contents l.wiring.net) l.fn.pin l.n) l.initial.gates.words l.gates.words (left l.g-iterator)
