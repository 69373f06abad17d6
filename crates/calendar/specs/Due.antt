-- What taking every entry due by a tick makes of the gates' levels. Assumes nothing.
use Rattle.std.specs.Prelude.{ℕ, Bool, false, cond, List, [], ◌∷◌, Some, None, Option, nat_le, slice_set}
use Rattle.calendar.specs.declared.entry.Entry.{Entry}

-- the levels once the codes due by tick t are set in, in order
abbrev pub applied : ℕ → List ℕ → List Entry → List ℕ
applied t levels [] = levels
applied t levels (x ∷ xs) = cond (nat_le x.tick t) (applied t (slice_set levels x.gate x.code) xs) levels

-- the first entry is due by tick t
abbrev pub first_due_by : ℕ → List Entry → Bool
first_due_by t [] = false
first_due_by t (x ∷ xs) = nat_le x.tick t

-- a code, or else d
abbrev pub or_else : Option ℕ → ℕ → ℕ
or_else None d = d
or_else (Some c) d = c
