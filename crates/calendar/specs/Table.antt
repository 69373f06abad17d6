-- Entries in order as a table: which code, if any, waits for a tick and gate. Assumes nothing.
use Rattle.std.specs.Prelude.{ℕ, zero, suc, ◌+◌, ◌*◌, ◌%◌, cond, ◌&&◌, List, [], ◌∷◌, Some, None, Option, ◌==◌, nat_le}
use Rattle.calendar.specs.declared.entry.Entry.{Entry}
use Rattle.calendar.specs.Agenda.{entry}

-- the code that waits for a tick and gate
abbrev pub code_at : ℕ → ℕ → List Entry → Option ℕ
code_at t g [] = None
code_at t g (x ∷ xs) = cond (x.tick == t && x.gate == g) (Some x.code) (code_at t g xs)

abbrev pub with_code : ℕ → ℕ → Option ℕ → List Entry → List Entry
with_code t g None w = w
with_code t g (Some c) w = entry t g c ∷ w

-- the entries that a table has for tick t and the n gates from g on, and then w
abbrev pub row : (ℕ → ℕ → Option ℕ) → ℕ → ℕ → ℕ → List Entry → List Entry
row f t g zero w = w
row f t g (suc n) w = with_code t g (f t g) (row f t (g + 1) n w)

-- and for the n ticks from t on
unfoldable pub rows : (ℕ → ℕ → Option ℕ) → ℕ → ℕ → ℕ → List Entry
rows f t zero gates = []
rows f t (suc n) gates = row f t 0 gates (rows f (t + 1) n gates)

-- where a table kept as one list has tick t and gate g: a row for each of 65 ticks, in it a place
-- for each gate; entries of now and of the 64 ticks after can wait at once
abbrev pub slot : ℕ → ℕ → ℕ → ℕ
slot gates t g = (t % 65) * gates + g

-- what is left once every entry due by tick t is taken
abbrev pub later : ℕ → List Entry → List Entry
later t [] = []
later t (x ∷ xs) = cond (nat_le x.tick t) (later t xs) (x ∷ xs)
