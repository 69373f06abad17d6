use Rattle.std.proofs.Common.{ltb, map, ap, ◌∙◌, arith}
use Rattle.std.proofs.lemmas.List.{get_or_default}
use Rattle.std.specs.Bool.{then_some}
use Rattle.netlist.specs.Looked.{contents}
use Rattle.fanout.specs.Left.{left}
use Rattle.fanout.proofs.Drivers.{ended, ended_none, drive}
use Rattle.fanout.proofs.settle.resolve_net.Goals as goal

pub loop-g-init : goal.loop-g-init
loop-g-init g c =
    let L = g.F.Family.logic in
    let net = c.args.wiring.now.net in
    let ports = c.args.ports.now in
    let n = c.args.n in
    let p = get_or_default ports n c.index-ports-n.result L.unset (omega (arith, c.type_inv.ports, c.requires)) in
    let o = c.then_some-so_far.result in (
      tt,
      tt,
      ap (λ gs. ended L o (map (drive L (contents net) ports c.args.drives.now n) gs)) (ap left c.into_iter-g-iterator.ensures.into_iter_gives ∙ c.gates_at-g-items.ensures)
          ∙ ended_none L (contents net) ports c.args.drives.now n o (c.then_some-so_far.ensures ∙ ap (then_some (ltb n net.head.ports)) p),
    )
