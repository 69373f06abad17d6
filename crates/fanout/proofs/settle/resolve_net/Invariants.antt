use Rattle.std.proofs.Common.{◌≡◌, map}
use Rattle.netlist.specs.Looked.{contents}
use Rattle.signal.specs.Signal.{resolved}
use Rattle.tick.specs.Settled.{drivers_of}
use Rattle.fanout.specs.Left.{left}
use Rattle.fanout.proofs.Drivers.{ended, drive}
use Rattle.fanout.proofs.settle.resolve_net.Given as goal

abbrev pub invariant-loop-g : goal.invariant-loop-g
invariant-loop-g g l =
    let L = g.F.Family.logic in
    let C = contents l.wiring.net in
    (goal.iterator-loop-g g).can_next l.g-iterator × (goal.iterator-loop-g g).is_finite l.g-iterator
    × (ended L l.so_far (map (drive L C l.ports l.drives l.n) (left l.g-iterator)) ≡ resolved L (drivers_of L C l.ports l.drives l.n))
