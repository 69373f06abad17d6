use Rattle.std.proofs.Common.{ap, ◌∙◌, arith}
use Rattle.netlist.specs.Looked.{contents}
use Rattle.netlist.proofs.Contents.{gate_count as gates-count}
use Rattle.tick.specs.Plans.{plans}
use Rattle.fanout.proofs.Joins.{all_resolved, all_idle}
use Rattle.fanout.proofs.work.work_changed.Goals as goal

pub returns : goal.returns
returns g c =
    let L = g.F.Family.logic in
    let net = c.args.wiring.now.net in
    let few = gates-count net in
    let was = c.args.levels.now in
    let levels = c.settle_touched.new.levels in
    let planned = c.args.planned.now in
    let settled = c.settle_touched.ensures in
    record {
      drives = c.take_touched.ensures.drives;
      long = settled.long;
      wide = c.plan_marked.ensures.long;
      levels = λ s. all_resolved L (contents net) c.args.ports.now c.args.drives.now c.take_touched.new.drives c.take_touched.new.nets.words
          (λ k lt. c.take_touched.ensures.touched k (omega (arith, few, lt))) was levels s.nets settled.resolves settled.others;
      planned = λ s. c.plan_marked.ensures.planned (all_idle L (contents net) was levels planned c.settle_touched.new.gates.words s.gates (λ k lt. settled.readers k (omega (arith, few, lt))));
      rest = c.plan_marked.ensures.rest;
      calendar = λ s.
          c.plan_marked.ensures.calendar (all_idle L (contents net) was levels planned c.settle_touched.new.gates.words s.gates (λ k lt. settled.readers k (omega (arith, few, lt))))
          ∙ ap (plans L (contents net) levels planned c.args.moment.tick net.head.gates) c.take_touched.ensures.calendar;
    }
