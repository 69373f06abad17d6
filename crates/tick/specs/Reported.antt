-- The records of a tick, by the levels before it and at it.
use Rattle.std.specs.Prelude.{ℕ, ◌+◌, ◌*◌, cond, List, [], ◌∷◌, length, ◌==◌, nat_le, slice_index_or}
use Rattle.std.specs.List.{flat_map}
use Rattle.logic.specs.Logic.{Logic}
use Rattle.netlist.specs.Board.{Board}
use Rattle.signal.specs.Calls.{Change}

abbrev pub made : ℕ → ℕ → ℕ → Change
made t n c = record { tick = t; net = n; code = c }

-- the record of a net, where its level differs from the one before
abbrev pub change_from : {V : Type 0} → Logic V → V → V → ℕ → ℕ → List Change
change_from L old new t n = cond (L.code new == L.code old) [] (made t n (L.code new) ∷ [])

module _ {V : Type 0} (L : Logic V) (C : Board) (old new : List V) (t : ℕ) where
  abbrev pub change_of : ℕ → List Change
  change_of n = change_from L (slice_index_or old n L.unset) (slice_index_or new n L.unset) t n

  abbrev pub changed : List Change
  changed = flat_map change_of C.watches

  -- where there is room for a record of each watched net from a place on in a buffer of some length, and else none
  abbrev pub with_room : ℕ → ℕ → List Change
  with_room at long = cond (nat_le (at + 8 * length C.watches) long) changed []
