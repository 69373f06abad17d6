use Rattle.std.proofs.Common.{take}
use Rattle.std.specs.List.{flat_map}
use Rattle.signal.specs.Calls.{change_bytes}
use Rattle.netlist.specs.Looked.{contents}
use Rattle.tick.specs.Reported.{change_of}
use Rattle.tick.specs.Laid.{Wrote}
use Rattle.tick.proofs.report.report.Given as goal

abbrev pub invariant-loop-n : goal.invariant-loop-n
invariant-loop-n g l = let L = g.F.Family.logic in
    Wrote l.initial.out l.at (flat_map change_bytes (flat_map (change_of L (contents l.net) l.old l.new l.tick) (take l.n-index l.watches))) l.end l.out
