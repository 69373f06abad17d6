use Rattle.std.proofs.Common.{sym, subst}
use Rattle.script_stream.specs.Verdicts.{Grows}
use Rattle.script_stream.proofs.Growing.{grows_then, grows_kept, on_ok}
use Rattle.script_stream.proofs.stream.work_script.Goals as goal
use Rattle.script_stream.proofs.stream.work_script.Goals.{then-not-is_empty+in_ok-work_line, else-not-is_empty}

pub loop-preserved : goal.loop-preserved
loop-preserved g c =
    let from = g.W.Write.contents c.args.sink.now in
    grows_then from _ _ (grows_then from _ _ c.loop.invariant c.in_ok-work_bytes.ensures) (grows_kept _ _ c.flush.ensures.bytes)

pub returns : goal.returns
returns g c =
    let known = g.W.Write.contents in
    let from = known c.args.sink.now in
    let last : Grows from (known c.if-not-is_empty.sink) = elim c.if-not-is_empty.branch [
      | then-not-is_empty+in_ok-work_line w ↦ subst (λ s. Grows from (known s)) (sym w.sink-is) (grows_then from _ _ c.loop.invariant w.in_ok-work_line.ensures)
      | else-not-is_empty w ↦ subst (λ s. Grows from (known s)) (sym w.sink-is) c.loop.invariant
    ] in
    on_ok c.flush-2.result (Grows from (known c.flush-2.new.self)) (grows_then from _ _ last (grows_kept _ _ c.flush-2.ensures.bytes))
