use Rattle.script_stream.specs.Verdicts.{Grows}
use Rattle.script_stream.proofs.stream.work_script.Given as goal

abbrev pub invariant-loop : goal.invariant-loop
invariant-loop g l = Grows (g.W.Write.contents l.fn.sink) (g.W.Write.contents l.sink)
