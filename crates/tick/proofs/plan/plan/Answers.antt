use Rattle.std.proofs.Common.{◌<◌, length, get_or, set, sym, ap, ◌∙◌, ⊎_elim, add-one, arith, length-set, get_or-set_other, get_or-set_same}
use Rattle.std.proofs.lemmas.Bool.{cases_eq}
use Rattle.signal.specs.Circuit.{gate}
use Rattle.netlist.specs.Looked.{contents}
use Rattle.tick.specs.Plans.{result_at, plans, put_changed}
use Rattle.tick.proofs.plan.plan.Goals as goal

pub loop-g-preserved : goal.loop-g-preserved
loop-g-preserved g c =
    let L = g.F.Family.logic in
    let net = c.args.net.now in
    let C = contents net in
    let i = c.loop-g.g in
    let levels = c.args.levels.now in
    let was = c.args.planned.now in
    let now = c.loop-g.planned in
    let inv = c.loop-g.invariant in
    let lt : i < net.head.gates = c.loop-g-test.true in
    let p = c.plan_gate.ensures.planned lt in
    let r = result_at L C levels i in
    let inside : i < length now = omega (arith, c.plan_gate.ensures.long, lt, net.table) in (
      ap length p ∙ length-set now i r ∙ inv.0,
      (λ k h. ap (λ l. get_or l k L.unset) p ∙ ⊎_elim
          (λ e. ap (λ j. get_or (set now i r) j L.unset) e ∙ get_or-set_same now i r L.unset inside ∙ ap (result_at L C levels) (sym e))
          (λ ne. get_or-set_other now i k r L.unset ne ∙ inv.1 k (omega arith))
          (cases_eq k i)),
      (λ k h. ap (λ l. get_or l k L.unset) p ∙ get_or-set_other now i k r L.unset (λ e. omega arith) ∙ inv.2 k (omega arith)),
      c.plan_gate.ensures.calendar lt
          ∙ (λ j. put_changed L (gate C i).delay i c.args.moment.tick r (inv.2 i (omega arith) j) (inv.3 j))
          ∙ sym (ap (λ k. plans L C levels was c.args.moment.tick k (g.C.Calendar.meaning c.args.calendar.now)) (add-one i)),
    )
