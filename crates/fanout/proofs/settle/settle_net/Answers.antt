use Rattle.std.proofs.Common.{arith}
use Rattle.std.proofs.lemmas.Bool.{both_ways}
use Rattle.netlist.specs.Looked.{contents}
use Rattle.number_set.specs.Members.{member}
use Rattle.fanout.proofs.Readers.{reads_other}
use Rattle.fanout.proofs.settle.settle_net.Goals as goal

pub returns-clause-readers : goal.returns-clause-readers
returns-clause-readers g c =
    let net = c.args.wiring.now.net in
    let now = c.mark_readers-2.new.gates.words in
    λ h lt m. reads_other g.F.Family.logic (contents net) c.args.levels.now c.args.n c.resolve_net-v.result h
    (λ e. both_ways (member now h) m (c.mark_readers-2.ensures.kept h (omega (arith, net.table)) (c.mark_readers.ensures.readers h lt e)))
    (λ e. both_ways (member now h) m (c.mark_readers-2.ensures.readers h lt e))
