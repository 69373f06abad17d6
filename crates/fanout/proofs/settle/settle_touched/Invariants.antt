use Rattle.std.proofs.Common.{◌-◌}
use Rattle.netlist.specs.Looked.{contents}
use Rattle.fanout.proofs.Settling.{Settles}
use Rattle.fanout.proofs.Sweeps.{low}
use Rattle.fanout.proofs.settle.settle_touched.Given as goal

abbrev pub invariant-loop-n : goal.invariant-loop-n
invariant-loop-n g l = Settles g.F.Family.logic (contents l.wiring.net) l.ports l.drives l.initial.levels l.initial.nets.words l.wiring.net.head.gates l.nets.words l.levels l.gates.words

abbrev pub decreases-loop-n : goal.decreases-loop-n
decreases-loop-n g l = 1024 - low l.nets.words
