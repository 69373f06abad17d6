-- What taking the entries of one tick does.
use Rattle.std.specs.Prelude.{ℕ, Bool, false, cond, List, [], ◌∷◌, Some, None, Option, ◌==◌, slice_set}
use Rattle.calendar.specs.declared.entry.Entry.{Entry}
use Rattle.logic.specs.Logic.{Logic}

abbrev pub levelled : {V : Type 0} → Option V → ℕ → List V → List V
levelled (Some v) g levels = slice_set levels g v
levelled None g levels = levels

-- the levels once the first entries, those of tick t, are set in
abbrev pub applied : {V : Type 0} → Logic V → ℕ → List V → List Entry → List V
applied L t levels [] = levels
applied L t levels (x ∷ xs) = cond (x.tick == t) (applied L t (levelled (L.of_code x.code) x.gate levels) xs) levels

abbrev pub left_over : ℕ → List Entry → List Entry
left_over t [] = []
left_over t (x ∷ xs) = cond (x.tick == t) (left_over t xs) (x ∷ xs)

abbrev pub is_first : ℕ → List Entry → Bool
is_first t [] = false
is_first t (x ∷ xs) = x.tick == t
