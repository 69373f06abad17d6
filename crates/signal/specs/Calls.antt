-- A run by the calls made of it: what each call answers, what it refuses, and what it leaves.
--
-- All of it follows from the board, from whether the calendar was fit, and from the calls in their order. No code is spoken of here:
-- a run of any make keeps its contract exactly where it answers as these definitions do.
use Rattle.std.specs.Prelude.{ℕ, zero, suc, ◌+◌, ◌-◌, ◌*◌, ◌/◌, ◌%◌, Bool, true, false, cond, not, ◌&&◌, List, [], ◌∷◌, ◌++◌, length, is_some, Some, None, Option, ◌==◌, nat_le, nat_lt}
use Rattle.std.specs.List.{range_with_len, flat_map}
use Rattle.calendar.specs.declared.entry.Entry.{Entry}
use Rattle.logic.specs.Logic.{Logic}
use Rattle.netlist.specs.Board.{Board}
use Rattle.signal.specs.Circuit.{gate, gate_count}
use Rattle.signal.specs.Signal.{N, D}

-- ---- calls and answers

-- The four calls of a run that is open.
pub data Call : Type 0 where
  -- wake a gate: its number and the code of its start level
  wake : ℕ → ℕ → Call
  -- drive a port: its number and the code of its value from the next tick on
  drive : ℕ → ℕ → Call
  -- advance: by how many ticks, and the length of the trace buffer
  advance : ℕ → ℕ → Call
  -- read a net, by its number
  read : ℕ → Call

-- What a call answers.
pub data Answer : Type 0 where
  -- of wake and drive
  done : Answer
  -- of advance: the ticks completed, and the bytes written
  advanced : ℕ → List ℕ → Answer
  -- of read: the code of the net's level at the last completed tick, and whether it is definite
  shows : ℕ → Bool → Answer
  -- of any call: the number of its fault, and the fault's place, the completed ticks
  refused : ℕ → ℕ → Answer

-- ---- trace records

-- A record of the trace: a tick, a watched net whose level differs there from the tick before, and the code of the new level.
pub record Change : Type 0 where
  pub tick : ℕ
  pub net : ℕ
  pub code : ℕ

-- 16 bits, the high byte first.
abbrev pub bytes16 : ℕ → List ℕ
bytes16 n = (n / 256 % 256) ∷ (n % 256) ∷ []

-- 32 bits, the high byte first.
abbrev pub bytes32 : ℕ → List ℕ
bytes32 n = (n / 16777216 % 256) ∷ (n / 65536 % 256) ∷ (n / 256 % 256) ∷ (n % 256) ∷ []

-- The 8 bytes of a record: the tick in 32 bits, the net and the code in 16 bits each.
abbrev pub change_bytes : Change → List ℕ
change_bytes c = bytes32 c.tick ++ (bytes16 c.net ++ bytes16 c.code)

-- ---- what a run has come to

pub record State (V : Type 0) : Type 0 where
  -- whether it was opened on a fit calendar
  pub fit : Bool
  -- the completed ticks, of which the first is 0
  pub ticks : ℕ
  -- S(g): the value last accepted for gate g by wake, or unset
  pub start : ℕ → V
  -- P(p, t): the value last accepted for port p by drive before tick t was completed, or unset
  pub port : ℕ → ℕ → V
  -- the records that the advances wrote
  pub changes : List Change

-- At opening no tick is complete, and every P and S is unset.
abbrev pub opened : {V : Type 0} → Logic V → Bool → State V
opened L fit = record { fit = fit; ticks = 0; start = λ g. L.unset; port = λ p t. L.unset; changes = [] }

-- No run completes more ticks.
abbrev pub most_ticks : ℕ
most_ticks = 16777216

-- The value of a code. A code that has none is refused before it comes to this.
abbrev pub value_of : {V : Type 0} → Logic V → ℕ → V
value_of L c = elim (L.of_code c) [ Some v ↦ v | None ↦ L.unset ]

-- The fault of the first check that finds something wrong, if one does.
abbrev pub first_of : List (Bool × ℕ) → Option ℕ
first_of [] = None
first_of (check ∷ others) = elim check.0 [ true ↦ Some check.1 | false ↦ first_of others ]

module _ {V : Type 0} (L : Logic V) (C : Board) where
  -- ---- levels and their changes

  -- The level of net n at tick t.
  abbrev pub level : State V → ℕ → ℕ → V
  level s n t = N L C s.start s.port n t

  -- The level at the tick before. Before tick 0 all nets are unset.
  abbrev pub level_before : State V → ℕ → ℕ → V
  level_before s n zero = L.unset
  level_before s n (suc t) = level s n t

  -- The record of net n at tick t, where its level differs from the tick before; else none.
  abbrev pub change : State V → ℕ → ℕ → List Change
  change s t n =
      cond (L.code (level s n t) == L.code (level_before s n t)) [] (record { tick = t; net = n; code = L.code (level s n t) } ∷ [])

  -- The records of tick t: of the watched nets, in the order of the watch list, which rises.
  abbrev pub changes_at : State V → ℕ → List Change
  changes_at s t = flat_map (change s t) C.watches

  -- ---- how an advance stops

  -- The bytes that a tick can need: a record of each watched net.
  abbrev pub tick_room : ℕ
  tick_room = 8 * length C.watches

  -- How many of k ticks, from tick t on, are completed where `room` bytes of the trace buffer remain:
  -- before each tick the advance stops if fewer than the bytes that a tick can need remain.
  abbrev pub completes : State V → ℕ → ℕ → ℕ → ℕ
  completes s zero t room = 0
  completes s (suc k) t room =
      elim (nat_lt room tick_room) [ true ↦ 0 | false ↦ suc (completes s k (t + 1) (room - 8 * length (changes_at s t))) ]

  -- The records that an advance by k writes into a buffer of that length, by tick.
  abbrev pub written : State V → ℕ → ℕ → List Change
  written s k length = flat_map (changes_at s) (range_with_len s.ticks (completes s k s.ticks length))

  -- ---- refusals

  -- The checks of a call in their order: what is wrong, and the number of the fault.
  abbrev pub checks : State V → Call → List (Bool × ℕ)
  checks s (wake g c) = (not s.fit, 16) ∷ (nat_le (gate_count C) g, 17) ∷ (not (is_some (L.of_code c)), 18) ∷ (nat_lt 0 s.ticks, 23) ∷ []
  checks s (drive p c) = (not s.fit, 16) ∷ (nat_le C.ports p, 17) ∷ (not (is_some (L.of_code c)), 18) ∷ []
  checks s (advance k length) = (not s.fit, 16) ∷ ((k == 0), 19) ∷ (nat_lt most_ticks (s.ticks + k), 20) ∷ (nat_lt length tick_room, 21) ∷ []
  checks s (read n) = (not s.fit, 16) ∷ (nat_le C.nets n, 22) ∷ ((s.ticks == 0), 23) ∷ []

  -- The fault that refuses a call, if one does.
  abbrev pub refusal : State V → Call → Option ℕ
  refusal s c = first_of (checks s c)

  -- ---- what a call leaves and answers

  -- What a call that is not refused leaves. Wake sets S(g); drive sets P(p, t) for every tick t that is not complete;
  -- advance completes ticks and writes their records; read leaves all as it was.
  abbrev pub leaves : State V → Call → State V
  leaves s (wake g c) = record { fit = s.fit; ticks = s.ticks; start = λ i. cond (i == g) (value_of L c) (s.start i); port = s.port; changes = s.changes }
  leaves s (drive p c) =
      record { fit = s.fit; ticks = s.ticks; start = s.start; port = λ q t. cond (q == p && nat_le s.ticks t) (value_of L c) (s.port q t); changes = s.changes }
  leaves s (advance k length) =
      record { fit = s.fit; ticks = s.ticks + completes s k s.ticks length; start = s.start; port = s.port; changes = s.changes ++ written s k length }
  leaves s (read n) = s

  -- What a call that is not refused answers.
  abbrev pub answers : State V → Call → Answer
  answers s (wake g c) = done
  answers s (drive p c) = done
  answers s (advance k length) = advanced (completes s k s.ticks length) (flat_map change_bytes (written s k length))
  answers s (read n) = shows (L.code (level s n (s.ticks - 1))) (L.definite (level s n (s.ticks - 1)))

  -- What any call leaves. A refused call changes nothing.
  abbrev pub after : State V → Call → State V
  after s c = elim (refusal s c) [ Some fault ↦ s | None ↦ leaves s c ]

  -- What any call answers.
  abbrev pub answer : State V → Call → Answer
  answer s c = elim (refusal s c) [ Some fault ↦ refused fault s.ticks | None ↦ answers s c ]

  -- What finish answers: the ticks completed and the records written.
  abbrev pub finish : State V → ℕ × ℕ
  finish s = (s.ticks, length s.changes)

  -- ---- one call upon another

  -- What a run has come to after calls, the latest of which stands first.
  abbrev pub lived : State V → List Call → State V
  lived s [] = s
  lived s (c ∷ earlier) = after (lived s earlier) c

  -- What each of them answered, the earliest first.
  abbrev pub replies : State V → List Call → List Answer
  replies s [] = []
  replies s (c ∷ earlier) = replies s earlier ++ (answer (lived s earlier) c ∷ [])

-- The bytes that a call wrote into the trace buffer.
abbrev pub wrote : Answer → List ℕ
wrote done = []
wrote (advanced ticks bytes) = bytes
wrote (shows code definite) = []
wrote (refused fault place) = []

-- ---- what waits in the calendar

module _ {V : Type 0} (L : Logic V) (C : Board) where
  -- The level that gate g drives at tick t.
  abbrev pub drives : State V → ℕ → ℕ → V
  drives s g t = D L C s.start s.port g t

  -- The entry of gate g for tick u, if one waits after completed tick t: u lies at most the gate's delay ahead, and what the gate drives
  -- changes there. Each change waits, also where a newer one waits behind it.
  abbrev pub entry : State V → ℕ → ℕ → ℕ → List Entry
  entry s t u g =
      cond (nat_le u (t + (gate C g).delay) && not (L.code (drives s g u) == L.code (drives s g (u - 1))))
      (record { tick = u; gate = g; code = L.code (drives s g u) } ∷ [])
      []

  -- All that waits after completed tick t, by tick and then by gate. No delay exceeds 64.
  abbrev pub waiting_after : State V → ℕ → List Entry
  waiting_after s t = flat_map (λ u. flat_map (entry s t u) (range_with_len 0 (gate_count C))) (range_with_len (t + 1) 64)

  -- What waits in the calendar. Nothing does before the first tick is completed.
  abbrev pub waiting : State V → List Entry
  waiting s = elim s.ticks [ zero ↦ [] | suc t ↦ waiting_after s t ]
