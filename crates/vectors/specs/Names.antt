use Rattle.std.specs.Prelude.{ℕ, List, [], ◌∷◌, codes}

-- The names of the vectors, in their order.
abbrev pub names : List (List ℕ)
names =
    codes "inverter" ∷ codes "d_latch" ∷ codes "rs_latch" ∷ codes "ripple_counter"
    ∷ codes "bus_of_nine" ∷ codes "bus_of_pulls" ∷ codes "buffer" ∷ codes "not" ∷ codes "and"
    ∷ codes "or" ∷ codes "xor" ∷ codes "nand" ∷ codes "nor" ∷ codes "xnor" ∷ codes "tri"
    ∷ codes "resolution" ∷ []
