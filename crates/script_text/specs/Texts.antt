-- The texts of answers.
use Rattle.std.specs.Prelude.{ℕ, zero, suc, ◌+◌, ◌*◌, ◌/◌, Bool, true, false, List, [], ◌∷◌, ◌++◌, length, codes, decimal, slice_index}
use Rattle.logic.specs.Logic.{Logic}
use Rattle.logic.specs.Naming.{Naming}
use Rattle.script_text.specs.Commands.{name_of}

-- an accepted wake or drive
abbrev pub ok_text : List ℕ
ok_text = codes "ok" ++ (10 ∷ [])

-- the ticks that an advance completed
abbrev pub done_text : ℕ → List ℕ
done_text ticks = codes "done " ++ (decimal ticks ++ (10 ∷ []))

-- a fault: the line, the number, the letter of the layer, the place
abbrev pub fault_text : ℕ → ℕ → ℕ → ℕ → List ℕ
fault_text line number letter place = codes "no " ++ (decimal line ++ (32 ∷ (decimal number ++ (32 ∷ (letter ∷ (32 ∷ (decimal place ++ (10 ∷ []))))))))

abbrev pub certainty : Bool → List ℕ
certainty true = codes " definite" ++ (10 ∷ [])
certainty false = codes " open" ++ (10 ∷ [])

-- 16 and 32 bits at a place of a trace, the high byte first
abbrev pub word16 : List ℕ → ℕ → ℕ
word16 bytes i = slice_index bytes i * 256 + slice_index bytes (i + 1)

abbrev pub word32 : List ℕ → ℕ → ℕ
word32 bytes i = word16 bytes i * 65536 + word16 bytes (i + 2)

module _ {V : Type 0} (L : Logic V) (N : Naming V) where
  -- a level: the name of its code, and whether it is definite
  abbrev pub level_text : ℕ → Bool → List ℕ
  level_text code definite = name_of L N code ++ certainty definite

  -- a record of a trace: its tick, its net and the name of its code
  abbrev pub record_text : ℕ → ℕ → ℕ → List ℕ
  record_text tick net code = decimal tick ++ (32 ∷ (decimal net ++ (32 ∷ (name_of L N code ++ (10 ∷ [])))))

  -- record i of a trace, of 8 bytes: tick, net and code
  abbrev pub record_at : List ℕ → ℕ → List ℕ
  record_at trace i = record_text (word32 trace (8 * i)) (word16 trace (8 * i + 4)) (word16 trace (8 * i + 6))

  -- the first n records
  abbrev pub records_text : List ℕ → ℕ → List ℕ
  records_text trace zero = []
  records_text trace (suc n) = records_text trace n ++ record_at trace n

  -- a whole trace, and the ticks that it covers
  abbrev pub trace_text : List ℕ → ℕ → List ℕ
  trace_text trace ticks = records_text trace (length trace / 8) ++ done_text ticks
