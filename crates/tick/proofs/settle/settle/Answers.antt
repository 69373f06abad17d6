use Rattle.std.proofs.Common.{◌≡◌, ℕ, ◌+◌, ◌<◌, ◌≤◌, true, false, length, get_or, set, take, replicate, sym, refl, ap, ◌∙◌, subst, arith}
use Rattle.std.specs.Bool.{then_some}
use Rattle.std.proofs.lemmas.List.{get_or-take, get_or_default, length-take-le, length-replicate}
use Rattle.netlist.specs.Parts.{blank}
use Rattle.netlist.specs.Looked.{contents}
use Rattle.netlist.proofs.Contents.{gate_count as gates-count}
use Rattle.tick.specs.Settled.{drivers_below}
use Rattle.tick.proofs.Shows.{Shows, shows_ports, shows_gate}
use Rattle.tick.proofs.settle.settle.Goals as goal

pub loop-g-init : goal.loop-g-init
loop-g-init g c =
    let net = c.args.net.now in
    let p = net.head.ports in
    let fits : p ≤ 1024 = omega (arith, net.ports, net.nets) in
    let long : length (take p (replicate 1024 false)) ≡ p = length-take-le p (replicate 1024 false) (omega (arith, length-replicate 1024 false)) in
    shows_ports g.F.Family.logic (contents net) c.args.ports.now c.args.drives.now c.copy_from_slice.new.self _ c.fill.new.self _ c.unset-levels.result fits (omega arith)
    c.copy_from_slice.ensures.after refl c.unset-levels.ensures (c.fill.ensures.after (λ y h. h) ∙ ap (λ k. replicate k true) long) refl

pub loop-g-preserved : goal.loop-g-preserved
loop-g-preserved g c =
    let L = g.F.Family.logic in
    let net = c.args.net.now in
    let C = contents net in
    let i = c.loop-g.g in
    let lt : i < net.head.gates = omega (arith, gates-count net, c.loop-g-test.true) in
    let x = get_or C.gates i blank in
    let drives = c.args.drives.now in
    let out : x.out < 1024 = omega (arith, ap (λ y. y.out) (get_or-take net.head.gates net.gates i blank lt), net.outs i lt, net.nets) in
    let d = get_or_default drives i c.index-drives-g.result L.unset (omega (arith, net.table, lt)) in
    let e = get_or_default c.loop-g.levels x.out c.index-levels-n.result L.unset (omega (arith, c.loop-g.invariant.long, out)) in
    subst (λ v. Shows L (set c.loop-g.levels x.out v) (set c.loop-g.marks x.out true) (λ (n : ℕ). drivers_below L C c.args.ports.now drives n (i + 1))) (sym c.joined.ensures)
    (shows_gate L C c.args.ports.now drives c.loop-g.levels c.loop-g.marks i x.out _ _ out refl
    (c.then_some.ensures ∙ ap (then_some (get_or c.loop-g.marks x.out false)) e) d c.loop-g.invariant)
