use Rattle.script_stream.specs.Verdicts.{Grows}
use Rattle.script_stream.proofs.stream.Desk.work_bytes.Given as goal

abbrev pub invariant-loop-b : goal.invariant-loop-b
invariant-loop-b g l = Grows (g.W.Write.contents l.fn.sink) (g.W.Write.contents l.sink)
