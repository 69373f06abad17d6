use Rattle.std.proofs.Common.{false, replicate, sym, ap, subst}
use Rattle.netlist.specs.Looked.{contents}
use Rattle.signal.specs.Calls.{opened}
use Rattle.run.specs.Calls.{fit_for}
use Rattle.run.specs.Fits.{Fits}
use Rattle.run.proofs.Openings.{opened_fits}
use Rattle.run.proofs.state.Run.open.Goals as goal

pub returns : goal.returns
returns g c =
    let L = g.F.Family.logic in
    let a = g.C.Calendar.meaning c.args.calendar in
    let same = ap contents c.new-wiring.ensures in
    let fit = c.suits-fit.result in
    let x = c.unset.result in
    let y = c.unset-2.result in
    let z = c.unset-3.result in
    let w = c.unset-4.result in
    record {
      board = same;
      fits = subst (λ B. Fits L B (opened L (fit_for (contents c.args.net) a)) 0 0 a fit false (replicate 1024 x) (replicate 1024 y) (replicate 1024 z) (replicate 1024 w) 0 0) (sym same)
          (opened_fits L c.args.net a fit x y z w c.suits-fit.ensures c.unset.ensures c.unset-2.ensures c.unset-3.ensures c.unset-4.ensures);
    }
