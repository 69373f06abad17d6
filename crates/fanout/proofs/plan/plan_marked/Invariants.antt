use Rattle.std.proofs.Common.{◌-◌}
use Rattle.netlist.specs.Looked.{contents}
use Rattle.fanout.proofs.Skips.{Done}
use Rattle.fanout.proofs.Sweeps.{low}
use Rattle.fanout.proofs.plan.plan_marked.Given as goal

abbrev pub invariant-loop-g : goal.invariant-loop-g
invariant-loop-g g l = Done g.F.Family.logic (contents l.wiring.net) l.levels l.initial.planned l.moment.tick (g.C.Calendar.meaning l.initial.calendar) l.initial.gates.words l.gates.words l.planned (g.C.Calendar.meaning l.calendar)

abbrev pub decreases-loop-g : goal.decreases-loop-g
decreases-loop-g g l = 1024 - low l.gates.words
