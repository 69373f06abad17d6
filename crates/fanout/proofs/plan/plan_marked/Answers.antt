use Rattle.std.proofs.Common.{ap, ◌∙◌, ⊎_elim, arith}
use Rattle.std.proofs.lemmas.Bool.{cases_lt}
use Rattle.netlist.specs.Looked.{contents}
use Rattle.netlist.proofs.Contents.{gate_count as gates-count}
use Rattle.tick.specs.Plans.{plans}
use Rattle.fanout.proofs.Skips.{done_none, done_all, done_past, done_more}
use Rattle.fanout.proofs.Sweeps.{low_nearer}
use Rattle.fanout.proofs.plan.plan_marked.Goals as goal

pub loop-g-init : goal.loop-g-init
loop-g-init g c =
    let net = c.args.wiring.now.net in
    done_none g.F.Family.logic (contents net) c.args.levels.now c.args.planned.now c.args.moment.tick (g.C.Calendar.meaning c.args.calendar.now) c.args.gates.now.words (omega (arith, gates-count net, net.table))

pub loop-g-preserved : goal.loop-g-preserved
loop-g-preserved g c =
    let l = c.loop-g in
    let L = g.F.Family.logic in
    let net = c.args.wiring.now.net in
    let C = contents net in
    let e = gates-count net in
    let a = g.C.Calendar.meaning c.args.calendar.now in
    let p = c.plan_gate.ensures in
    ⊎_elim
    (λ lt. done_more L C c.args.levels.now c.args.planned.now c.args.moment.tick a c.args.gates.now.words (omega (arith, e, net.table)) l.gates.words l.planned (g.C.Calendar.meaning l.calendar) l.invariant
    c.in-Some.g c.in-Some.ensures.least c.set.new.self.words c.set.ensures.there (omega (arith, e, lt)) p.long c.plan_gate.new.planned (g.C.Calendar.meaning c.plan_gate.new.calendar) (p.planned lt) (p.calendar lt))
    (λ ge. done_past L C c.args.levels.now c.args.planned.now c.args.moment.tick a c.args.gates.now.words (omega (arith, e, net.table)) l.gates.words l.planned (g.C.Calendar.meaning l.calendar) l.invariant
    c.in-Some.g c.in-Some.ensures.least c.set.new.self.words c.set.ensures.there (omega (arith, e, ge)) c.plan_gate.new.planned (g.C.Calendar.meaning c.plan_gate.new.calendar) (p.past ge) (p.still ge))
    (cases_lt c.in-Some.g net.head.gates)

pub loop-g-smaller : goal.loop-g-smaller
loop-g-smaller g c = low_nearer c.loop-g.gates.words c.in-Some.g c.in-Some.ensures.least c.set.new.self.words c.set.ensures.there

pub returns : goal.returns
returns g c =
    let l = c.loop-g in
    let L = g.F.Family.logic in
    let net = c.args.wiring.now.net in
    let C = contents net in
    let e = gates-count net in
    let a = g.C.Calendar.meaning c.args.calendar.now in
    let all = done_all L C c.args.levels.now c.args.planned.now c.args.moment.tick a c.args.gates.now.words (omega (arith, e, net.table)) l.gates.words l.planned (g.C.Calendar.meaning l.calendar) l.invariant c.in_default.ensures.least in
    record {
      long = l.invariant.long;
      planned = λ idle h lt. (all idle).1 h (omega (arith, e));
      rest = λ h le. l.invariant.past h (omega (arith, e));
      calendar = λ idle. (all idle).0 ∙ ap (λ k. plans L C c.args.levels.now c.args.planned.now c.args.moment.tick k a) e;
    }
