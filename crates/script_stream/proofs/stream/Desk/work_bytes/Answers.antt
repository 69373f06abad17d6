use Rattle.std.proofs.Common.{sym, subst}
use Rattle.script_stream.specs.Verdicts.{Grows}
use Rattle.script_stream.proofs.Growing.{grows_then}
use Rattle.script_stream.proofs.stream.Desk.work_bytes.Goals as goal
use Rattle.script_stream.proofs.stream.Desk.work_bytes.Goals.{then-b-eq10+in_ok-work_line, else-b-eq10}

pub loop-b-preserved : goal.loop-b-preserved
loop-b-preserved g c =
    let known = g.W.Write.contents in
    let from = known c.args.sink.now in
    elim c.if-b-eq10.branch [
      | then-b-eq10+in_ok-work_line w ↦ subst (λ s. Grows from (known s)) (sym w.sink-is) (grows_then from _ _ c.loop-b.invariant w.in_ok-work_line.ensures)
      | else-b-eq10 w ↦ subst (λ s. Grows from (known s)) (sym w.sink-is) c.loop-b.invariant
    ]
