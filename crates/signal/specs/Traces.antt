-- Which records a trace has, in which order, and where an advance stops.
use Rattle.std.specs.Prelude.{◌≡◌, ℕ, ◌-◌, ◌*◌, ◌<◌, ◌≤◌, Bool, ◌⊎◌, ◌↔◌, List, ◌++◌, length}
use Rattle.std.specs.List.{range_with_len, flat_map, ContainsAt as Has}
use Rattle.logic.specs.Logic.{Logic}
use Rattle.netlist.specs.Board.{Board}
use Rattle.signal.specs.Calls.{State, Call, Change, change_bytes, level, level_before, changes_at, completes, tick_room, finish, most_ticks, opened, lived}
use Rattle.signal.specs.Ordered.{Ordered}
use Rattle.signal.specs.Laws.{Life, reached, trace, net}

-- By tick, then net.
abbrev pub Earlier : Change → Change → Type 0
Earlier x y = (x.tick < y.tick) ⊎ ((x.tick ≡ y.tick) × (x.net < y.net))

module _ {V : Type 0} (L : Logic V) where
  -- A record that belongs into the trace: of a completed tick and a watched net, whose level differs there from the tick before;
  -- it has the code of the new level. Before tick 0 all nets are unset.
  pub record Recorded (r : Life) (x : Change) : Type 0 where
    pub completed : x.tick < (reached L r).ticks
    pub watched : Has r.board.watches x.net
    pub differs : net L r x.net x.tick ≡ level_before L r.board (reached L r) x.net x.tick → ⊥
    pub coded : x.code ≡ L.code (net L r x.net x.tick)

  -- What a run's advances wrote, however its ticks were split among them.
  pub record TraceOf (r : Life) : Type 0 where
    -- the trace is the bytes of the records, 8 each, and finish counts the records;
    pub bytes : trace L r ≡ flat_map change_bytes (reached L r).changes
    pub long : length (trace L r) ≡ 8 * (finish L r.board (reached L r)).1
    -- there is a record of each change, and of nothing else,
    pub exactly : (x : Change) → Has (reached L r).changes x ↔ Recorded r x
    -- in order, so none twice;
    pub ordered : Ordered Earlier (reached L r).changes
    -- and no run passes its last tick.
    pub bounded : (reached L r).ticks ≤ most_ticks

  -- Of any list of calls, refused ones included.
  abbrev pub TracesExact : Type 0
  TracesExact = (r : Life) → TraceOf r

  module _ (C : Board) (s : State V) where
    -- The bytes that the first m ticks of an advance take.
    abbrev pub used : ℕ → ℕ
    used m = 8 * length (flat_map (changes_at L C s) (range_with_len s.ticks m))

    -- An advance by k with a buffer of `room` bytes completes m ticks:
    pub record Stops (k room m : ℕ) : Type 0 where
      -- at most k, whose records fit,
      pub most : m ≤ k
      pub fits : used m ≤ room
      -- each begun while there is room for a record of every watched net,
      pub free : (i : ℕ) → i < m → tick_room L C ≤ room - used i
      -- and fewer than k only where that room is gone.
      pub full : m < k → room - used m < tick_room L C

  -- So it does on every board, in every state, whatever it is asked for. (A call with less room than one tick can need is refused before.)
  abbrev pub AdvancesStop : Type 0
  AdvancesStop = (C : Board) (s : State V) (k room : ℕ) → Stops C s k room (completes L C s k s.ticks room)

  -- No later call, whatever it is, changes a level of a completed tick.
  abbrev pub PastStands : Type 0
  PastStands =
      (C : Board) (fit : Bool) (later earlier : List Call) (n t : ℕ) → t < (lived L C (opened L fit) earlier).ticks →
      level L C (lived L C (opened L fit) (later ++ earlier)) n t ≡ level L C (lived L C (opened L fit) earlier) n t

-- All that is promised of what advances write.
pub record TracesTold {V : Type 0} (L : Logic V) : Type 0 where
  pub traces : TracesExact L
  pub stops : AdvancesStop L
  pub past : PastStands L
