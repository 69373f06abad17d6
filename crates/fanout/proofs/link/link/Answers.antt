use Rattle.std.proofs.Common.{◌≡◌, ◌+◌, ◌-◌, ◌<◌, sym, ap, ◌∙◌, subst, arith}
use Rattle.netlist.specs.Looked.{contents}
use Rattle.netlist.proofs.Contents.{gate_count as gates-count, gate_is}
use Rattle.fanout.specs.Seek.{pin_net, net_at, named, entry_of}
use Rattle.fanout.proofs.Chains.{Linked, place_of, linked_none, linked_more}
use Rattle.fanout.proofs.link.link.Goals as goal

pub loop-g-init : goal.loop-g-init
loop-g-init c = let net = c.args.net.now in linked_none (contents net) c.args.pin net.head.gates (sym (gates-count net))

pub loop-g-preserved : goal.loop-g-preserved
loop-g-preserved c =
    let net = c.args.net.now in
    let C = contents net in
    let g = c.loop-g.g - 1 in
    let count = gates-count net in
    let low : g < net.head.gates = omega arith in
    let back : c.loop-g.g ≡ g + 1 = omega arith in
    let place = place_of c.net_at.result c.net_at.ensures.small in
    let is : c.unwrap_or-n.result ≡ entry_of c.net_at.result = c.unwrap_or-n.ensures in
    let here : net_at C c.args.pin g ≡ named c.unwrap_or-n.result = ap (pin_net c.args.pin) (gate_is net g low) ∙ sym c.net_at.ensures.net ∙ place.0 ∙ ap named (sym is) in
    linked_more C c.args.pin g c.loop-g.first c.loop-g.next (omega (arith, count)) (omega (arith, count, net.table))
    (subst (λ z. Linked C c.args.pin z c.loop-g.first c.loop-g.next) back c.loop-g.invariant) c.unwrap_or-n.result (omega (arith, is, place.1)) here
