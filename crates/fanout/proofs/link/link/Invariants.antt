use Rattle.netlist.specs.Looked.{contents}
use Rattle.fanout.proofs.Chains.{Linked}
use Rattle.fanout.proofs.link.link.Given as goal

abbrev pub invariant-loop-g : goal.invariant-loop-g
invariant-loop-g l = Linked (contents l.net) l.pin l.g l.first l.next
