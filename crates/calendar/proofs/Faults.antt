-- When a put is refused. Assumes nothing.
use Rattle.std.proofs.Common.{◌≡◌, ℕ, ◌+◌, ◌<◌, ◌≤◌, Bool, true, false, cond, ◌||◌, ltb, leb, length, Some, None, Ok, Err, Option, refl, ap, ◌∙◌, arith}
use Rattle.std.proofs.lemmas.Bool.{lt-leb, le-ltb, le-leb, or_from, cond-false, cond-true, ltb-false}
use Rattle.calendar.specs.Order.{placed}
use Rattle.calendar.specs.Agenda.{Agenda, before, put_refused, put_answer, put_after, waits, before_tick, turn_refused, turn_answer, turn_after, outcome, unless, with_waiting, at_tick}
use Rattle.calendar.specs.declared.entry.Entry.{Entry}
use Rattle.calendar.specs.declared.entry.Reason.{Reason}
use Rattle.calendar.specs.declared.entry.Reason.TheVariants.{NoGate, BadTick, Twice, Full, BadTurn}
use Rattle.calendar.specs.declared.entry.CalendarFault.{CalendarFault}

module _ (a : Agenda) (e : Entry) (gate : e.gate < a.gates) (low : a.today < e.tick) (high : e.tick ≤ a.today + 64) (alone : waits e a.waiting ≡ false) where
  only_room : put_refused a e ≡ cond (leb a.capacity (length a.waiting)) (Some Full) None
  only_room =
      cond-false (leb a.gates e.gate) _ _ (lt-leb _ _ gate)
      ∙ cond-false (leb e.tick a.today || ltb (a.today + 64) e.tick) _ _ (or_from _ _ (lt-leb _ _ low) (le-ltb _ _ high))
      ∙ cond-false (waits e a.waiting) _ _ alone

  pub put_stands : length a.waiting < a.capacity → put_refused a e ≡ None
  put_stands h = only_room ∙ cond-false (leb a.capacity (length a.waiting)) _ _ (lt-leb _ _ h)

  pub put_full : a.capacity ≤ length a.waiting → put_refused a e ≡ Some Full
  put_full h = only_room ∙ cond-true (leb a.capacity (length a.waiting)) _ _ (le-leb _ _ h)

pub put_twice : (a : Agenda) (e : Entry) → e.gate < a.gates → a.today < e.tick → e.tick ≤ a.today + 64 → waits e a.waiting ≡ true → put_refused a e ≡ Some Twice
put_twice a e gate low high twice =
    cond-false (leb a.gates e.gate) _ _ (lt-leb _ _ gate)
    ∙ cond-false (leb e.tick a.today || ltb (a.today + 64) e.tick) _ _ (or_from _ _ (lt-leb _ _ low) (le-ltb _ _ high))
    ∙ cond-true (waits e a.waiting) _ _ twice

pub turn_stands : (a : Agenda) (t : ℕ) → a.today ≤ t → t ≤ 16777216 → before_tick a.waiting t ≡ false → turn_refused a t ≡ None
turn_stands a t low high none = cond-false (ltb t a.today || (ltb 16777216 t || before_tick a.waiting t)) _ _ (or_from _ _ (le-ltb _ _ low) (or_from _ _ (le-ltb _ _ high) none))

-- a put that stands finds no entry of its tick and gate
pub put_alone : (a : Agenda) (e : Entry) → put_refused a e ≡ None → waits e a.waiting ≡ false
put_alone a e h = go (leb a.gates e.gate) (leb e.tick a.today || ltb (a.today + 64) e.tick) (waits e a.waiting) (leb a.capacity (length a.waiting)) h
  where
    go : (p q r s : Bool) → cond p (Some NoGate) (cond q (Some BadTick) (cond r (Some Twice) (cond s (Some Full) None))) ≡ None → r ≡ false
    go true q r s h = let z : ◌≡◌ {A = ℕ} 0 1 = cc in absurd (omega arith)
    go false true r s h = let z : ◌≡◌ {A = ℕ} 0 1 = cc in absurd (omega arith)
    go false false true s h = let z : ◌≡◌ {A = ℕ} 0 1 = cc in absurd (omega arith)
    go false false false s h = refl

-- a refused call leaves the old meaning
pub put_refused_keeps : (a : Agenda) (e : Entry) (f : CalendarFault) → put_answer a e ≡ Err f → put_after a e ≡ a
put_refused_keeps a e f h = go (put_refused a e) h
  where
    go : (o : Option Reason) → outcome a o ≡ Err f → unless o a (with_waiting a (placed before e a.waiting)) ≡ a
    go None h = let z : ◌≡◌ {A = ℕ} 0 1 = cc in absurd (omega arith)
    go (Some r) h = refl

pub turn_refused_keeps : (a : Agenda) (t : ℕ) (f : CalendarFault) → turn_answer a t ≡ Err f → turn_after a t ≡ a
turn_refused_keeps a t f h = go (turn_refused a t) h
  where
    go : (o : Option Reason) → outcome a o ≡ Err f → unless o a (at_tick a t) ≡ a
    go None h = let z : ◌≡◌ {A = ℕ} 0 1 = cc in absurd (omega arith)
    go (Some r) h = refl

-- what holds where a turn is not refused
pub turn_allowed : (a : Agenda) (t : ℕ) (u : Unit {0}) → turn_answer a t ≡ Ok u → (a.today ≤ t) × (t ≤ 16777216) × (before_tick a.waiting t ≡ false) × (turn_after a t ≡ at_tick a t)
turn_allowed a t u h = go (ltb t a.today) (ltb 16777216 t) (before_tick a.waiting t) refl refl refl h
  where
    go : (p q r : Bool) → ltb t a.today ≡ p → ltb 16777216 t ≡ q → before_tick a.waiting t ≡ r → outcome a (cond (p || (q || r)) (Some BadTurn) None) ≡ Ok u
        → (a.today ≤ t) × (t ≤ 16777216) × (before_tick a.waiting t ≡ false) × (turn_after a t ≡ at_tick a t)
    go true q r d e f h = let z : ◌≡◌ {A = ℕ} 0 1 = cc in absurd (omega arith)
    go false true r d e f h = let z : ◌≡◌ {A = ℕ} 0 1 = cc in absurd (omega arith)
    go false false true d e f h = let z : ◌≡◌ {A = ℕ} 0 1 = cc in absurd (omega arith)
    go false false false d e f h = (ltb-false t a.today d, ltb-false 16777216 t e, f, ap (λ o. unless o a (at_tick a t)) (turn_stands a t (ltb-false t a.today d) (ltb-false 16777216 t e) f))
