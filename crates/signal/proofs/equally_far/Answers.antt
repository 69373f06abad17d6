use Rattle.std.proofs.Common.{eqb, ap, ◌∙◌}
use Rattle.signal.proofs.Handling.{any_run, any_two_runs}
use Rattle.signal.proofs.equally_far.Goals as goal

pub returns : goal.returns
returns g c = record {
  answer = λ C D s u h k.
      let one = c.completed-ticks.ensures C s h in
      let two = c.completed-others.ensures D u k in
      ap (λ n. eqb n c.completed-others.result) one ∙ ap (eqb s.ticks) two;
  runs = any_run g.F.Family.logic g.A.Machine.has;
  laws = any_two_runs g.met.F.Family.laws g.A.Machine.has g.B.Machine.has;
}
