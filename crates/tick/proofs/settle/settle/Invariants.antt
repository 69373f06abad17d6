use Rattle.std.proofs.Common.{ℕ}
use Rattle.tick.specs.Settled.{drivers_below}
use Rattle.netlist.specs.Looked.{contents}
use Rattle.tick.proofs.Shows.{Shows}
use Rattle.tick.proofs.settle.settle.Given as goal

abbrev pub invariant-loop-g : goal.invariant-loop-g
invariant-loop-g g l = let L = g.F.Family.logic in Shows L l.levels l.marks (λ (n : ℕ). drivers_below L (contents l.net) l.ports l.drives n l.g)
