use Rattle.std.proofs.Common.{sym, refl}
use Rattle.std.proofs.lemmas.Result.{err_from_is_err_and}
use Rattle.heap.specs.Heaps.{heap_agenda}
use Rattle.heap.specs.Marks.{marked}
use Rattle.calendar.proofs.Faults.{turn_refused_keeps, turn_allowed}
use Rattle.calendar.proofs.Sound.{sound_turned, sound_rising, sound_due}
use Rattle.heap.proofs.Marking.{marked_turned}
use Rattle.heap.proofs.heap.HeapCalendar.turn.Goals as goal

pub returns-in_err-check_turn-clause-answer : goal.returns-in_err-check_turn-clause-answer
returns-in_err-check_turn-clause-answer c =
    let h = c.args.self.now in
    let p = err_from_is_err_and c.from_residual.result c.from_residual.ensures.1 in
    rw (p.1, p.2) (c.in_err-check_turn.ensures (heap_agenda h.today h.pile) refl (sym c.next.ensures))

pub returns-in_err-check_turn-clause-after : goal.returns-in_err-check_turn-clause-after
returns-in_err-check_turn-clause-after c =
    let h = c.args.self.now in
    let a = heap_agenda h.today h.pile in
    sym (turn_refused_keeps a c.args.tick _ (sym (c.in_err-check_turn.ensures a refl (sym c.next.ensures))))

pub returns-clause-answer : goal.returns-clause-answer
returns-clause-answer c =
    let h = c.args.self.now in
    c.in_ok-check_turn.ensures (heap_agenda h.today h.pile) refl (sym c.next.ensures)

pub invariant_of-self : goal.invariant_of-self
invariant_of-self c =
    let h = c.args.self.now in
    let a = heap_agenda h.today h.pile in
    let ok = turn_allowed a c.args.tick _ (sym (c.in_ok-check_turn.ensures a refl (sym c.next.ensures))) in
    let marked = marked_turned 1024 1024 h.today c.args.tick (marked h.marks.rows) a.waiting ok.0 (sound_rising a h.sound) (sound_due a h.sound) ok.2 h.marked in
    record { small = h.small; sound = sound_turned a c.args.tick h.sound ok.0 ok.2; marked = marked }
