use Rattle.std.proofs.Common.{◌≡◌, ◌∷◌, sym, ap, ◌∙◌, subst, arith}
use Rattle.calendar.specs.Agenda.{with_waiting, sound, rest, rising}
use Rattle.heap.specs.Heaps.{heap_agenda}
use Rattle.heap.specs.Marks.{marked, Marked}
use Rattle.calendar.proofs.Sound.{sound_taken, first_due, due_parts, sound_rising}
use Rattle.heap.proofs.Marking.{marked_take, first_and_rest}
use Rattle.heap.proofs.heap.HeapCalendar.take.Goals as goal

pub mark-requires : goal.mark-requires
mark-requires c =
    let h = c.args.self.now in
    let a = heap_agenda h.today h.pile in
    let e = c.in_ok-e.e in
    (due_parts a.today a.gates e (first_due a e h.sound c.in_ok-e.ensures.answer)).2

pub invariant_of-self-2 : goal.invariant_of-self-2
invariant_of-self-2 c =
    let h = c.args.self.now in
    let a = heap_agenda h.today h.pile in
    let e = c.in_ok-e.e in
    let told = c.in_ok-e.ensures in
    let left = c.pop.new.self.waiting in
    let d = due_parts a.today a.gates e (first_due a e h.sound told.answer) in
    let is : heap_agenda h.today c.pop.new.self ≡ with_waiting a (rest a.waiting) = (λ i. record { today = h.today; gates = 1024; capacity = told.room i; waiting = told.items i }) in
    let were : a.waiting ≡ e ∷ left = first_and_rest a.waiting e (sym told.answer) ∙ ap (λ w. e ∷ w) (sym told.items) in
    let was = subst (λ z. Marked (marked h.marks.rows) 1024 h.today z) were h.marked in
    let held = marked_take 1024 (marked h.marks.rows) h.today (marked c.mark.new.self.rows) left e (omega arith) (omega arith) (ap rising (sym were) ∙ sound_rising a h.sound) c.mark.ensures was in
    record { small = omega arith; sound = ap sound is ∙ sound_taken a h.sound; marked = held }
