-- What a wheel means. Assumes nothing.
use Rattle.std.specs.Prelude.{◌≡◌, ℕ, ◌*◌, ◌%◌, ◌<◌, ◌≤◌, false, cond, List, Some, None, Option, slice_index}
use Rattle.calendar.specs.Agenda.{Agenda}
use Rattle.calendar.specs.Table.{rows, slot}
use Rattle.number_set.specs.Members.{Numbers}
use Rattle.wheel.specs.Roster.{present}

-- the code that waits for tick t and gate g: the roster says whether, the buffer which
abbrev pub table : ℕ → List Numbers → List ℕ → ℕ → ℕ → Option ℕ
table gates sets codes t g = cond (present sets (t % 65) g) (Some (slice_index codes (slot gates t g))) None

abbrev pub wheel_agenda : ℕ → ℕ → List Numbers → List ℕ → Agenda
wheel_agenda today gates sets codes = record { today = today; gates = gates; capacity = 64 * gates; waiting = rows (table gates sets codes) today 65 gates }

-- no gate stands that the wheel has not
abbrev pub Inside : ℕ → List Numbers → Type 0
Inside gates sets = (r g : ℕ) → (r < 65) × (gates ≤ g) × (g < 1024) → present sets r g ≡ false
