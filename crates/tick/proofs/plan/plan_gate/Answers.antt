use Rattle.std.proofs.Common.{◌≡◌, ◌<◌, get_or, set, sym, ap, ◌∙◌, arith}
use Rattle.std.proofs.lemmas.List.{get_or_default}
use Rattle.netlist.specs.Kinds.{kind_number}
use Rattle.netlist.specs.Looked.{contents}
use Rattle.netlist.specs.Parts.{blank}
use Rattle.netlist.proofs.Contents.{gate_is}
use Rattle.signal.specs.Circuit.{operate, gate}
use Rattle.tick.specs.Plans.{result_at, result_of, put_changed}
use Rattle.tick.proofs.plan.plan_gate.Goals as goal

pub returns : goal.returns
returns g c =
    let L = g.F.Family.logic in
    let net = c.args.net.now in
    let C = contents net in
    let h = c.args.g in
    let low : h < net.head.gates = c.if-g-net.false in
    let x = get_or net.gates h blank in
    let levels = c.args.levels.now in
    let planned = c.args.planned.now in
    let here : x ≡ gate C h = sym (gate_is net h low) in
    let a = get_or_default levels x.a c.index-levels-gate.result L.unset (omega (arith, (net.reads h low).0, net.nets)) in
    let b = get_or_default levels x.b c.index-levels-gate-2.result L.unset (omega (arith, (net.reads h low).1, net.nets)) in
    let was = get_or_default planned h c.index-planned-g.result L.unset (omega (arith, low, net.table)) in
    let v : c.gate_result-v.result ≡ result_at L C levels h = c.gate_result-v.ensures ∙ (λ i. operate L (kind_number x.kind) (a i) (b i)) ∙ ap (λ y. result_of L y levels) here in
    record {
      long = omega arith;
      planned = λ lt. ap (set planned h) v;
      calendar = λ lt. c.put_changed.ensures ∙ (λ i. put_changed L (here i).delay h c.args.moment.tick (v i) (was i) (g.C.Calendar.meaning c.args.calendar.now));
      past = λ ge. absurd (omega (arith, low));
      still = λ ge. absurd (omega (arith, low));
    }
