use Rattle.std.proofs.Common.{not, sym, refl, ◌∙◌, arith}
use Rattle.std.proofs.lemmas.Bool.{and_parts, not-true}
use Rattle.calendar.specs.Agenda.{with_waiting}
use Rattle.netlist.specs.Looked.{contents}
use Rattle.netlist.proofs.Contents.{watch_count}
use Rattle.tick.specs.Due.{is_first, left_over}
use Rattle.tick.proofs.Reports.{bytes_few}
use Rattle.run.proofs.Idle.{idled}
use Rattle.run.proofs.Leans.{steady}
use Rattle.run.proofs.Ticks.{ticked, few_more, roomy}
use Rattle.run.proofs.state.Run.tick.Goals as goal

pub returns-then-still : goal.returns-then-still
returns-then-still g c =
    let x = c.args.self.now in
    let due = is_first x.ticks (g.C.Calendar.meaning x.calendar).waiting in
    let both = and_parts x.calm (not due) (sym c.still.ensures ∙ c.if-still.true) in
    record {
      ticked = λ C s t n on h.
          let r = idled g.met.F.Family.laws x.wiring.net s t n (g.C.Calendar.meaning x.calendar) x.fit x.calm x.ports x.drives x.planned x.levels x.ticks x.records h.fits on c.requires.early
          both.0 (not-true due both.1) (g.C.Calendar.meaning c.turn.new.self) c.turn.ensures.after C h.board c.args.out.now c.args.at in
          (record { board = h.board; fits = r.0 }, r.1);
      more = refl;
      net = refl;
      ends = omega (arith, c.requires.room);
      long = refl;
    }

pub invariant_of-self-3 : goal.invariant_of-self-3
invariant_of-self-3 g c =
    let x = c.args.self.now in
    let net = x.wiring.net in
    let levels = c.work.new.levels in
    let wrote = roomy g.F.Family.logic net x.levels levels x.ticks c.args.at c.args.out.now c.report-end.result c.report-end.new.out c.requires.room c.report-end.ensures in
    let bytes = bytes_few g.F.Family.logic (contents net) x.levels levels x.ticks (contents net).watches in
    record {
      early = omega (arith, c.requires.early);
      few = few_more x.records x.ticks c.args.at c.report-end.result _ x.few wrote.count (omega (arith, bytes, watch_count net, net.list, net.nets));
    }

pub returns : goal.returns
returns g c =
    let x = c.args.self.now in
    let L = g.F.Family.logic in
    let net = x.wiring.net in
    let levels = c.work.new.levels in
    let worked = c.work.ensures in
    let a₁ = g.C.Calendar.meaning c.turn-2.new.self in
    let wrote = roomy L net x.levels levels x.ticks c.args.at c.args.out.now c.report-end.result c.report-end.new.out c.requires.room c.report-end.ensures in
    record {
      ticked = λ C s t n on h.
          let f = h.fits in
          let s₀ = steady L net s t n (g.C.Calendar.meaning x.calendar) x.fit x.calm x.ports x.drives x.planned x.levels x.ticks x.records f in
          let r = ticked g.met.F.Family.laws net s t n (g.C.Calendar.meaning x.calendar) x.fit x.calm x.ports x.drives x.planned x.levels x.ticks x.records f on c.requires.early
          a₁ (with_waiting a₁ (left_over x.ticks a₁.waiting)) (g.C.Calendar.meaning c.work.new.calendar)
          c.work.new.drives c.work.new.planned levels c.args.out.now c.report-end.new.out c.args.at c.report-end.result
          c.turn-2.ensures.after worked.drives refl (worked.long ∙ f.held.levels_long) (worked.levels s₀)
          wrote worked.wide (worked.planned s₀) (worked.calendar s₀) C h.board in
          (record { board = h.board; fits = r.0 }, r.1);
      more = refl;
      net = refl;
      ends =
          let bytes = bytes_few L (contents net) x.levels levels x.ticks (contents net).watches in
          omega (arith, bytes, watch_count net, wrote.count, c.requires.room, c.report-end.auto.out);
      long = c.report-end.auto.out;
    }
