use Rattle.std.proofs.Common.{get_or, None, ap, ◌∙◌}
use Rattle.run.specs.Compared.{lowest, contradicts, Compared}
use Rattle.run.proofs.Handlings.{law_of_runs}
use Rattle.run.proofs.Comparing.{apart, early, compared, learned}
use Rattle.run.proofs.state.compare.contradiction.Goals.{then-first-second-via-then-first-second, then-first-second-via-else-first-second+then-first-eq0}
use Rattle.run.proofs.state.compare.contradiction.Goals as goal

pub returns-then-first-second : goal.returns-then-first-second
returns-then-first-second g c =
    let x = c.args.first.now in
    let y = c.args.second.now in
    let laws = g.met.F.Family.laws in
    let answer : Compared g.F.Family g.C.Calendar g.D.Calendar x y None =
    elim c.then-first-second.branch [
      | then-first-second-via-then-first-second w ↦ apart g.F.Family g.C.Calendar g.D.Calendar x y w.if-first-second.true
      | then-first-second-via-else-first-second+then-first-eq0 w ↦ early g.F.Family g.C.Calendar g.D.Calendar x y w.if-first-second.false w.if-first-eq0.true
    ] in
    record {
      answer = answer;
      learned = learned g.F.Family g.C.Calendar g.D.Calendar x y laws None answer;
      law = law_of_runs g.F.Family laws g.C.Calendar g.D.Calendar;
    }

pub returns : goal.returns
returns g c =
    let x = c.args.first.now in
    let y = c.args.second.now in
    let L = g.F.Family.logic in
    let laws = g.met.F.Family.laws in
    let nets = ap (lowest (λ n. contradicts L (get_or x.levels n L.unset) (get_or y.levels n L.unset)) 0) c.min-nets.ensures in
    let answer = compared g.F.Family g.C.Calendar g.D.Calendar x y c.lowest.result c.if-first-second.false c.if-first-eq0.false (c.lowest.ensures ∙ nets) in
    record {
      answer = answer;
      learned = learned g.F.Family g.C.Calendar g.D.Calendar x y laws c.lowest.result answer;
      law = law_of_runs g.F.Family laws g.C.Calendar g.D.Calendar;
    }
