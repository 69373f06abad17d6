-- What each call of a run promises, over the run itself.
use Rattle.std.specs.Prelude.{◌≡◌, ℕ, ◌+◌, ◌≤◌, Bool, true, false, cond, ◌&&◌, ◌↔◌, List, [], ◌∷◌, length, take, drop, ok_or, Ok, Err, Option, Result, ◌==◌, nat_le}
use Rattle.std.specs.List.{flat_map, ContainsAt as List-has}
use Rattle.logic.specs.declared.family.Family.{Ghosts as Family}
use Rattle.calendar.specs.declared.calendar.Calendar.{Ghosts as Calendar}
use Rattle.logic.specs.Logic.{Logic}
use Rattle.netlist.specs.Board.{Board, total_delay}
use Rattle.signal.specs.Circuit.{gate_count}
use Rattle.signal.specs.Calls.{State, Call, Answer, wake, drive, advance, read, done, advanced, shows, refused, opened, after, answer, finish, changes_at, change_bytes, waiting_after}
use Rattle.signal.specs.Waiting.{Due}
use Rattle.calendar.specs.Agenda.{Agenda}
use Rattle.calendar.specs.declared.entry.Entry.{Entry}
use Rattle.netlist.specs.declared.place.Netlist.{Netlist}
use Rattle.run.specs.declared.state.RunFault.{RunFault}
use Rattle.run.specs.declared.state.RunFault.TheVariants.{UnfitCalendar, NoSuchCode}
use Rattle.run.specs.Faults.{number, place}
use Rattle.netlist.specs.Looked.{contents}
use Rattle.tick.specs.Laid.{Wrote}
use Rattle.run.specs.declared.state.Run.{Run}
use Rattle.run.specs.Fits.{Fits}

-- what a read answers of a level: its code, and whether it is definite
abbrev pub shown : {V : Type 0} → Logic V → V → ℕ × Bool
shown L v = (L.code v, L.definite v)

-- what a call's answer tells
abbrev pub told : Result (Unit {0}) RunFault → Answer
told (Ok u) = done
told (Err e) = refused (number e) (place e)

abbrev pub told_level : Result (ℕ × Bool) RunFault → Answer
told_level (Ok r) = shows r.0 r.1
told_level (Err e) = refused (number e) (place e)

-- the ticks completed, and the bytes that it says it wrote
abbrev pub told_trace : Result (ℕ × ℕ) RunFault → List ℕ → Answer
told_trace (Ok r) out = advanced r.0 (take r.1 out)
told_trace (Err e) out = refused (number e) (place e)

-- the bytes behind those
abbrev pub behind : Result (ℕ × ℕ) RunFault → List ℕ → List ℕ
behind (Ok r) out = drop r.1 out
behind (Err e) out = out

-- what the checks 16 and 18 answer after t ticks
abbrev pub readied : Bool → ℕ → Result (Unit {0}) RunFault
readied fit t = cond fit (Ok tt) (Err (UnfitCalendar t))

abbrev pub valued : {V : Type 0} → Option V → ℕ → Result V RunFault
valued o t = ok_or o (NoSuchCode t)

abbrev pub empty : List Entry → Bool
empty [] = true
empty (x ∷ xs) = false

-- whether a calendar is fit
abbrev pub fit_for : Board → Agenda → Bool
fit_for C a = a.today == 0 && (empty a.waiting && (nat_le (gate_count C) a.gates && nat_le (total_delay C) a.capacity))

module _ {F D V : Type 0} (f : Family F V) (c : Calendar D) where
  -- the run x, opened on the board C, has the state s, has gone on to t ticks, and written n records
  pub record At (C : Board) (s : State V) (t n : ℕ) (x : Run F D V f c) : Type 0 where
    pub board : contents x.wiring.net ≡ C
    pub fits : Fits f.logic (contents x.wiring.net) s t n (c.meaning x.calendar) x.fit x.calm x.ports x.drives x.planned x.levels x.ticks x.records

  abbrev pub Has : Board → State V → Run F D V f c → Type 0
  Has C s x = At C s s.ticks (length s.changes) x

  abbrev pub Ticked : Run F D V f c → List ℕ → ℕ → Run F D V f c → List ℕ → ℕ → Type 0
  Ticked x out at y out' end =
      (C : Board) (s : State V) (t n : ℕ) → s.fit ≡ true → At C s t n x →
      At C s (t + 1) (n + length (changes_at f.logic C s t)) y × Wrote out at (flat_map change_bytes (changes_at f.logic C s t)) end out'

  -- one tick more of the run x, whose records are written into a buffer from a place on: what it leaves, and the place behind them
  pub record Completed (x : Run F D V f c) (out : List ℕ) (at : ℕ) (y : Run F D V f c) (out' : List ℕ) (end : ℕ) : Type 0 where
    pub ticked : Ticked x out at y out' end
    pub more : y.ticks ≡ x.ticks + 1
    pub net : y.wiring.net ≡ x.wiring.net
    pub ends : end ≤ length out'
    pub long : length out' ≡ length out

  abbrev pub Opened : Netlist → D → Run F D V f c → Type 0
  Opened net cal y = Has (contents net) (opened f.logic (fit_for (contents net) (c.meaning cal))) y

  -- the contract of every call that answers a
  abbrev pub Called : Call → Run F D V f c → Run F D V f c → Answer → Type 0
  Called call x y a = (C : Board) (s : State V) → Has C s x → Has C (after f.logic C s call) y × (a ≡ answer f.logic C s call)

  -- wake, drive, advance and read: what they answer and leave, for every state that the run has come to;
  -- and whatever run it is, a refusal leaves the run, its calendar and the buffer exactly as they were
  pub record Waked (x : Run F D V f c) (g k : ℕ) (y : Run F D V f c) (r : Result (Unit {0}) RunFault) : Type 0 where
    pub called : Called (wake g k) x y (told r)
    pub unchanged : (e : RunFault) → r ≡ Err e → y ≡ x

  pub record Driven (x : Run F D V f c) (p k : ℕ) (y : Run F D V f c) (r : Result (Unit {0}) RunFault) : Type 0 where
    pub called : Called (drive p k) x y (told r)
    pub unchanged : (e : RunFault) → r ≡ Err e → y ≡ x

  pub record Advanced (x : Run F D V f c) (k : ℕ) (out : List ℕ) (y : Run F D V f c) (out' : List ℕ) (r : Result (ℕ × ℕ) RunFault) : Type 0 where
    pub called : Called (advance k (length out)) x y (told_trace r out')
    -- the bytes that it says it wrote stand in the buffer
    pub within : (ticks bytes : ℕ) → r ≡ Ok (ticks, bytes) → bytes ≤ length out'
    -- the bytes behind those that it wrote stay
    pub stays : (C : Board) (s : State V) → Has C s x → behind r out' ≡ behind r out
    pub unchanged : (e : RunFault) → r ≡ Err e → (y ≡ x) × (out' ≡ out)

  abbrev pub Reads : Run F D V f c → ℕ → Result (ℕ × Bool) RunFault → Type 0
  Reads x n r = Called (read n) x x (told_level r)

  abbrev pub Finished : Run F D V f c → ℕ × ℕ → Type 0
  Finished x r = (C : Board) (s : State V) → Has C s x → r ≡ finish f.logic C s

  -- what a calendar of the meaning a holds: after completed tick t its now is t, and the entries that wait are exactly
  -- those of the signal definition; at opening now is 0 and none waits
  pub record OnTime (C : Board) (s : State V) (a : Agenda) : Type 0 where
    pub opening : s.ticks ≡ 0 → (a.today ≡ 0) × (a.waiting ≡ [])
    pub today : (t : ℕ) → s.ticks ≡ t + 1 → a.today ≡ t
    pub waits : (t : ℕ) → s.ticks ≡ t + 1 → a.waiting ≡ waiting_after f.logic C s t
    pub exactly : (t : ℕ) → s.ticks ≡ t + 1 → (e : Entry) → List-has a.waiting e ↔ Due f.logic C s t e

  -- the calendar of a run that was opened on a fit one
  abbrev pub KeepsTime : Run F D V f c → D → Type 0
  KeepsTime x cal = (cal ≡ x.calendar) × ((C : Board) (s : State V) → Has C s x → s.fit ≡ true → OnTime C s (c.meaning cal))
