-- What a calendar means, and what each call answers and leaves. Assumes nothing.
use Rattle.std.specs.Prelude.{ℕ, ◌+◌, Bool, true, false, cond, ◌&&◌, ◌||◌, List, [], ◌∷◌, length, Some, None, Ok, Err, Option, Result, ◌==◌, nat_le, nat_lt}
use Rattle.calendar.specs.Order.{placed}
use Rattle.calendar.specs.declared.entry.Entry.{Entry}
use Rattle.calendar.specs.declared.entry.Reason.{Reason}
use Rattle.calendar.specs.declared.entry.Reason.TheVariants.{NoGate, BadTick, Twice, Full, BadTurn}
use Rattle.calendar.specs.declared.entry.CalendarFault.{CalendarFault}

-- a tick called now (`now` is taken in clauses, so it goes by today), a number of gates, a
-- capacity, and the entries that wait, in order
pub record Agenda : Type 0 where
  pub today : ℕ
  pub gates : ℕ
  pub capacity : ℕ
  pub waiting : List Entry

abbrev pub entry : ℕ → ℕ → ℕ → Entry
entry t g k = record { tick = t; gate = g; code = k }

-- by tick, then gate, then code
abbrev pub before : Entry → Entry → Bool
before a b = nat_lt a.tick b.tick || (a.tick == b.tick && (nat_lt a.gate b.gate || (a.gate == b.gate && nat_lt a.code b.code)))

-- of one tick and gate
abbrev pub same_slot : Entry → Entry → Bool
same_slot a b = a.tick == b.tick && a.gate == b.gate

-- an entry of e's tick and gate stands in the list
abbrev pub waits : Entry → List Entry → Bool
waits e [] = false
waits e (x ∷ xs) = same_slot e x || waits e xs

-- the number of each refusal
abbrev pub number : Reason → ℕ
number NoGate = 11
number BadTick = 12
number Twice = 13
number Full = 14
number BadTurn = 15

-- the layer of each refusal is c, here as its character's code
abbrev pub letter : Reason → ℕ
letter r = 99

-- its place is now, here the tick t
abbrev pub fault_at : ℕ → Reason → CalendarFault
fault_at t r = record { reason = r; place = t }

abbrev pub fault : Agenda → Reason → CalendarFault
fault a r = fault_at a.today r

-- what refuses a put, the first of four
abbrev pub put_refused : Agenda → Entry → Option Reason
put_refused a e =
    cond (nat_le a.gates e.gate) (Some NoGate)
    (cond (nat_le e.tick a.today || nat_lt (a.today + 64) e.tick) (Some BadTick)
    (cond (waits e a.waiting) (Some Twice)
    (cond (nat_le a.capacity (length a.waiting)) (Some Full) None)))

-- a with the list w waiting
abbrev pub with_waiting : Agenda → List Entry → Agenda
with_waiting a w = record { today = a.today; gates = a.gates; capacity = a.capacity; waiting = w }

-- a with now t
abbrev pub at_tick : Agenda → ℕ → Agenda
at_tick a t = record { today = t; gates = a.gates; capacity = a.capacity; waiting = a.waiting }

abbrev pub outcome : Agenda → Option Reason → Result (Unit {0}) CalendarFault
outcome a None = Ok tt
outcome a (Some r) = Err (fault a r)

-- a refused call leaves the old meaning
abbrev pub unless : Option Reason → Agenda → Agenda → Agenda
unless None old new = new
unless (Some r) old new = old

abbrev pub put_answer : Agenda → Entry → Result (Unit {0}) CalendarFault
put_answer a e = outcome a (put_refused a e)

abbrev pub put_after : Agenda → Entry → Agenda
put_after a e = unless (put_refused a e) a (with_waiting a (placed before e a.waiting))

abbrev pub first : List Entry → Option Entry
first [] = None
first (x ∷ xs) = Some x

abbrev pub rest : List Entry → List Entry
rest [] = []
rest (x ∷ xs) = xs

-- the earliest waiting tick
abbrev pub first_tick : List Entry → Option ℕ
first_tick [] = None
first_tick (x ∷ xs) = Some x.tick

-- the first entry waits for a tick before t
abbrev pub before_tick : List Entry → ℕ → Bool
before_tick [] t = false
before_tick (x ∷ xs) t = nat_lt x.tick t

-- what refuses a turn: a tick that lies back, one past 16,777,216, or one that an entry waits before
abbrev pub turn_refused : Agenda → ℕ → Option Reason
turn_refused a t = cond (nat_lt t a.today || (nat_lt 16777216 t || before_tick a.waiting t)) (Some BadTurn) None

abbrev pub turn_answer : Agenda → ℕ → Result (Unit {0}) CalendarFault
turn_answer a t = outcome a (turn_refused a t)

abbrev pub turn_after : Agenda → ℕ → Agenda
turn_after a t = unless (turn_refused a t) a (at_tick a t)

-- a new calendar of g gates with room for k entries
abbrev pub new_agenda : ℕ → ℕ → Agenda
new_agenda g k = record { today = 0; gates = g; capacity = k; waiting = [] }

-- x's tick and gate come before y's
abbrev pub slot_before : Entry → Entry → Bool
slot_before x y = nat_lt x.tick y.tick || (x.tick == y.tick && nat_lt x.gate y.gate)

-- x's tick and gate come before the first of the list
abbrev pub leads : Entry → List Entry → Bool
leads x [] = true
leads x (y ∷ ys) = slot_before x y

-- in order of tick, then gate, and no two of one tick and gate
abbrev pub rising : List Entry → Bool
rising [] = true
rising (x ∷ xs) = leads x xs && rising xs

-- an entry of a gate below g, for now or one of the 64 ticks after
abbrev pub due : ℕ → ℕ → Entry → Bool
due t g e = nat_le t e.tick && (nat_le e.tick (t + 64) && nat_lt e.gate g)

abbrev pub all_due : ℕ → ℕ → List Entry → Bool
all_due t g [] = true
all_due t g (x ∷ xs) = due t g x && all_due t g xs

-- what holds of every calendar
abbrev pub sound : Agenda → Bool
sound a = rising a.waiting && (all_due a.today a.gates a.waiting && nat_le (length a.waiting) a.capacity)
