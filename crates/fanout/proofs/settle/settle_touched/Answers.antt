use Rattle.netlist.specs.Looked.{contents}
use Rattle.fanout.proofs.Settling.{settles_more}
use Rattle.fanout.proofs.Sweeps.{low_nearer}
use Rattle.fanout.proofs.settle.settle_touched.Goals as goal

pub loop-n-preserved : goal.loop-n-preserved
loop-n-preserved g c =
    let l = c.loop-n in
    settles_more g.F.Family.logic (contents c.args.wiring.now.net) c.args.ports.now c.args.drives.now c.args.levels.now c.args.nets.now.words c.args.wiring.now.net.head.gates
    l.nets.words l.levels l.gates.words l.invariant c.settle_net.ensures.long c.in-Some.n c.in-Some.ensures.least c.set.new.self.words c.set.ensures.there
    c.settle_net.new.levels c.settle_net.new.gates.words c.settle_net.ensures.levels c.settle_net.ensures.kept c.settle_net.ensures.readers

pub loop-n-smaller : goal.loop-n-smaller
loop-n-smaller g c = low_nearer c.loop-n.nets.words c.in-Some.n c.in-Some.ensures.least c.set.new.self.words c.set.ensures.there
