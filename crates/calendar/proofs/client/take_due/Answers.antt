use Rattle.std.proofs.Common.{◌≡◌, get_or, sym, ap, ◌∙◌, arith}
use Rattle.calendar.specs.Agenda.{with_waiting}
use Rattle.calendar.specs.Due.{applied}
use Rattle.calendar.proofs.Sound.{first_due, due_parts, sound_rising}
use Rattle.calendar.proofs.Waiting.{laws, seen, applied_none, later_none}
use Rattle.calendar.proofs.client.take_due.Goals as goal

pub bounds-levels-e : goal.bounds-levels-e
bounds-levels-e g c =
    let a = g.C.Calendar.meaning c.loop-calendar.calendar in
    let e = c.in-Some.e in
    let few = g.C.Calendar.small c.loop-calendar.calendar in
    let gate = (due_parts a.today a.gates e (first_due a e (g.C.Calendar.lawful c.loop-calendar.calendar) c.in-Some.ensures.answer)).2 in
    omega arith

pub returns-after-loop-calendar : goal.returns-after-loop-calendar
returns-after-loop-calendar g c =
    let a = g.C.Calendar.meaning c.loop-calendar.calendar in
    let old = g.C.Calendar.meaning c.args.calendar.now in
    let ok = g.C.Calendar.lawful c.args.calendar.now in
    let t = c.args.tick in
    let l = c.args.levels.now in
    let none = sym c.loop-calendar-test.ensures in
    let all : c.loop-calendar.levels ≡ applied t l old.waiting = sym (applied_none t c.loop-calendar.levels a.waiting none) ∙ c.loop-calendar.invariant.0 in
    record {
      levels = all;
      after = ap (with_waiting a) (sym (later_none t a.waiting none)) ∙ c.loop-calendar.invariant.1;
      seen = λ b k h. ap (λ z. get_or z k 0) all ∙ seen t k 0 l old.waiting (sound_rising old ok) b h;
      lawful = laws old ok;
    }
