use Rattle.std.proofs.Common.{◌≡◌, length, sym, ap, refl, ◌∙◌, subst, arith}
use Rattle.std.proofs.lemmas.Bool.{leb-false}
use Rattle.std.proofs.lemmas.Result.{err_from_is_err_and}
use Rattle.heap.specs.Marks.{marked, Marked}
use Rattle.heap.proofs.Marking.{marked_put}
use Rattle.calendar.specs.Agenda.{before, entry, with_waiting, sound}
use Rattle.heap.specs.Heaps.{heap_agenda}
use Rattle.calendar.specs.Order.{placed}
use Rattle.calendar.proofs.Sound.{sound_placed}
use Rattle.heap.proofs.heap.HeapCalendar.put.Goals as goal

pub returns-in_err-check_slot-clause-answer : goal.returns-in_err-check_slot-clause-answer
returns-in_err-check_slot-clause-answer c =
    let h = c.args.self.now in
    let p = err_from_is_err_and c.from_residual.result c.from_residual.ensures.1 in
    rw (p.1, p.2) (c.in_err-check_slot.ensures.refused refl (heap_agenda h.today h.pile) refl refl)

pub invariant_of-self : goal.invariant_of-self
invariant_of-self c =
    let h = c.args.self.now in
    let a = heap_agenda h.today h.pile in
    let e = entry c.args.tick c.args.gate c.args.code in
    let slot_ok = c.in_ok-check_slot.ensures.ok.0 refl in
    let told = c.push.ensures in
    let stays = sound_placed a h.sound e slot_ok.0 slot_ok.1 slot_ok.2 (sym (h.marked c.args.tick c.args.gate (omega arith, omega arith, slot_ok.0)) ∙ sym c.if-stands.ensures) (leb-false a.capacity (length a.waiting) (sym c.if-is_full.ensures)) in
    let is : heap_agenda h.today c.push.new.self ≡ with_waiting a (placed before e a.waiting) = (λ i. record { today = h.today; gates = 1024; capacity = told.room i; waiting = told.items i }) in
    let held = marked_put 1024 (marked h.marks.rows) h.today (marked c.mark.new.self.rows) a.waiting e (omega arith) (omega arith) c.mark.ensures h.marked in
    record { small = omega arith; sound = ap sound is ∙ stays; marked = subst (λ z. Marked (marked c.mark.new.self.rows) 1024 h.today z) (sym told.items) held }
