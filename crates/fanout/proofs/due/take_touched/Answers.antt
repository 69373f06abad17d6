use Rattle.std.proofs.Common.{arith}
use Rattle.calendar.proofs.Sound.{first_due, due_parts}
use Rattle.fanout.proofs.due.take_touched.Goals as goal

pub apply-requires : goal.apply-requires
apply-requires g c =
    let a = g.C.Calendar.meaning c.loop-calendar.calendar in
    let e = c.in-Some.e in
    let gate = (due_parts a.today a.gates e (first_due a e (g.C.Calendar.lawful c.loop-calendar.calendar) c.in-Some.ensures.answer)).2 in
    let few = g.C.Calendar.small c.loop-calendar.calendar in
    omega arith
