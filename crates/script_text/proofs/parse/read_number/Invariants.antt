use Rattle.script_text.proofs.Numbers.{Sofar}
use Rattle.script_text.proofs.parse.read_number.Given as goal

abbrev pub invariant-loop-d : goal.invariant-loop-d
invariant-loop-d l = Sofar l.digits l.d-index l.n
