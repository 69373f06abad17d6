-- What the fields of a run say of its life.
use Rattle.std.specs.Prelude.{◌≡◌, ℕ, zero, suc, ◌+◌, ◌-◌, ◌<◌, ◌≤◌, Bool, true, List, [], length, slice_index_or}
use Rattle.calendar.specs.Agenda.{Agenda}
use Rattle.calendar.specs.declared.entry.Entry.{Entry}
use Rattle.logic.specs.Logic.{Logic}
use Rattle.netlist.specs.Board.{Board, total_delay}
use Rattle.signal.specs.Circuit.{gate, gate_count}
use Rattle.signal.specs.Calls.{State, drives, level_before, waiting_after}

module _ {V : Type 0} (L : Logic V) (C : Board) (s : State V) (t : ℕ) where
  -- the levels after t ticks: what every gate drives, what it planned last, and what every net carries
  pub record Held (ports drive planned levels : List V) : Type 0 where
    pub ports_long : length ports ≡ 1024
    pub drives_long : length drive ≡ 1024
    pub planned_long : length planned ≡ 1024
    pub levels_long : length levels ≡ 1024
    pub ports_are : (p u : ℕ) → p < C.ports → t ≤ u → slice_index_or ports p L.unset ≡ s.port p u
    pub drives_are : (g : ℕ) → g < gate_count C → slice_index_or drive g L.unset ≡ drives L C s g (t - 1)
    pub planned_are : (g : ℕ) → g < gate_count C → slice_index_or planned g L.unset ≡ drives L C s g (t + (gate C g).delay - 1)
    pub levels_are : (n : ℕ) → n < 1024 → slice_index_or levels n L.unset ≡ level_before L C s n t

  -- what waits after t ticks
  abbrev pub waiting_at : List Entry
  waiting_at = elim t [ zero ↦ [] | suc u ↦ waiting_after L C s u ]

  -- the calendar after t ticks
  pub record Kept (a : Agenda) : Type 0 where
    pub today_is : a.today ≡ t - 1
    pub waiting_is : a.waiting ≡ waiting_at
    pub gates_fit : gate_count C ≤ a.gates
    pub room_fits : total_delay C ≤ a.capacity

  -- a tick is complete, and no port was driven since
  pub record Calm (ports : List V) : Type 0 where
    pub some : 0 < t
    pub still : (p : ℕ) → p < C.ports → slice_index_or ports p L.unset ≡ s.port p (t - 1)

  -- a run that has completed t ticks and written n records
  pub record Fits (n : ℕ) (a : Agenda) (fit calm : Bool) (ports drive planned levels : List V) (ticks records : ℕ) : Type 0 where
    pub fit_is : fit ≡ s.fit
    pub ticks_are : ticks ≡ t
    pub records_are : records ≡ n
    pub held : Held ports drive planned levels
    pub calm_is : calm ≡ true → Calm ports
    pub kept : s.fit ≡ true → Kept a
