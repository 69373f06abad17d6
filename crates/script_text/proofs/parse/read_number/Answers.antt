use Rattle.std.proofs.Common.{arith}
use Rattle.script_text.proofs.Numbers.{room}
use Rattle.script_text.proofs.parse.read_number.Goals as goal

pub overflow_mul-n : goal.overflow_mul-n
overflow_mul-n c = let r = room _ _ _ c.loop-d.invariant (omega arith) in omega (arith, r)

pub overflow_add-n : goal.overflow_add-n
overflow_add-n c = let r = room _ _ _ c.loop-d.invariant (omega arith) in let v = c.in_ok-n.ensures.value in omega (arith, r, v)
