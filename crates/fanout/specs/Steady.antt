-- What holds between two ticks. Assumes nothing.
use Rattle.std.specs.Prelude.{◌≡◌, ℕ, ◌<◌, List, slice_index_or}
use Rattle.logic.specs.Logic.{Logic}
use Rattle.netlist.specs.Board.{Board}
use Rattle.signal.specs.Circuit.{gate_count}
use Rattle.signal.specs.Signal.{resolved}
use Rattle.tick.specs.Plans.{result_at}
use Rattle.tick.specs.Settled.{drivers_of}

-- every net carries what drives it, and every gate has planned what it gives on the levels
pub record Steady {V : Type 0} (L : Logic V) (C : Board) (ports drives levels planned : List V) : Type 0 where
  pub nets : (n : ℕ) → n < 1024 → slice_index_or levels n L.unset ≡ resolved L (drivers_of L C ports drives n)
  pub gates : (g : ℕ) → g < gate_count C → slice_index_or planned g L.unset ≡ result_at L C levels g
