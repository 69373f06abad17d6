-- What is said of two runs side by side, and what a script's answers do to the bytes that a writer is known to hold.
use Rattle.std.specs.Prelude.{ℕ, List, [], ◌∷◌, ◌++◌, codes, decimal, Option, Some, None}
use Rattle.std.specs.Io.KnownBytes.{Appends}
use Rattle.logic.specs.declared.family.Family.{Ghosts as Family}
use Rattle.calendar.specs.declared.calendar.Calendar.{Ghosts as Calendar}
use Rattle.run.specs.declared.state.Run.{Run}
use Rattle.run.specs.Compared.{Compared}

-- the net at which the second contradicts the first, if there is one
abbrev pub verdict_text : Option ℕ → List ℕ
verdict_text None = codes "agrees"
verdict_text (Some net) = codes "contradicts " ++ decimal net

-- known bytes stay at the front, and some come behind them
abbrev pub Grows : Option (List ℕ) → Option (List ℕ) → Type 0
Grows old new = (bytes : List ℕ) × Appends old new bytes

-- behind the answers stands one line more, which says of the two runs what their comparison is
abbrev pub SaysVerdict : {F C D V : Type 0} (f : Family F V) (c : Calendar C) (d : Calendar D) → Run F C V f c → Run F D V f d → Option (List ℕ) → Option (List ℕ) → Type 0
SaysVerdict f c d first second old new =
    (answers : List ℕ) × (net : Option ℕ) × Appends old new (answers ++ (verdict_text net ++ (10 ∷ []))) × Compared f c d first second net
