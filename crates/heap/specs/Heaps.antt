-- Heaps in a list, and what a heap of entries means. Assumes nothing.
use Rattle.std.specs.Prelude.{◌≡◌, ℕ, ◌+◌, ◌-◌, ◌*◌, ◌/◌, ◌<◌, ◌≤◌, Bool, false, List, slice_index_or}
use Rattle.calendar.specs.Agenda.{Agenda}
use Rattle.heap.specs.Piles.{Content}

-- of the places above low and below n, none has a value before its parent's
abbrev pub Heaped : {X : Type 0} → (X → X → Bool) → List X → ℕ → ℕ → Type 0
Heaped {X} lt xs low n = (k : ℕ) (d : X) → (low < k) × (k < n) → lt (slice_index_or xs k d) (slice_index_or xs ((k - 1) / 2) d) ≡ false

-- no child of j comes before the value at c
abbrev pub Least : {X : Type 0} → (X → X → Bool) → List X → ℕ → ℕ → ℕ → Type 0
Least {X} lt xs j c n = (k : ℕ) (d : X) → j * 2 + 1 ≤ k → k ≤ j * 2 + 2 → k < n → lt (slice_index_or xs k d) (slice_index_or xs c d) ≡ false

-- what a heap at tick t means
abbrev pub heap_agenda : ℕ → Content → Agenda
heap_agenda t p = record { today = t; gates = 1024; capacity = p.room; waiting = p.waiting }
