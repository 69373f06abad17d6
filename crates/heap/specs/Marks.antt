-- Marks for the ticks and gates that wait. Assumes nothing.
use Rattle.std.specs.Prelude.{◌≡◌, ℕ, ◌+◌, ◌%◌, ◌<◌, ◌≤◌, Bool, false, List, [], slice_index_or}
use Rattle.calendar.specs.declared.entry.Entry.{Entry}
use Rattle.calendar.specs.Agenda.{entry, waits}

-- the mark of gate g in row r
abbrev pub marked : List (List Bool) → ℕ → ℕ → Bool
marked rows r g = slice_index_or (slice_index_or rows r []) g false

-- of 65 ticks from today and G gates a mark stands for each that waits, and for no other
abbrev pub Marked : (ℕ → ℕ → Bool) → ℕ → ℕ → List Entry → Type 0
Marked m G today w = (t g : ℕ) → (today ≤ t) × (t < today + 65) × (g < G) → m (t % 65) g ≡ waits (entry t g 0) w
