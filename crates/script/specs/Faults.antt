-- What a refused line says: the number of the fault, the letter of its layer, and its place.
use Rattle.std.specs.Prelude.{ℕ, Ok, Err, Result}
use Rattle.run.specs.declared.state.RunFault.{RunFault}
use Rattle.run.specs.Faults as run
use Rattle.script.specs.declared.fault.AtLine.{AtLine}
use Rattle.script.specs.declared.fault.ScriptFault.{ScriptFault}
use Rattle.script.specs.declared.fault.ScriptFault.TheVariants.{SmallBuffers, NoCommand, Refused}

abbrev pub number : ScriptFault → ℕ
number (SmallBuffers l) = 24
number (NoCommand l) = 25
number (Refused l e) = run.number e

-- the layer: s, or the run's
abbrev pub letter : ScriptFault → ℕ
letter (SmallBuffers l) = 115
letter (NoCommand l) = 115
letter (Refused l e) = run.letter e

abbrev pub place : ScriptFault → ℕ
place (SmallBuffers l) = l
place (NoCommand l) = l
place (Refused l e) = run.place e

-- the line that is refused
abbrev pub line_of : ScriptFault → ℕ
line_of (SmallBuffers l) = l
line_of (NoCommand l) = l
line_of (Refused l e) = l

-- a fault as an answer tells it
pub record Note : Type 0 where
  pub line : ℕ
  pub number : ℕ
  pub letter : ℕ
  pub place : ℕ

abbrev pub noted : ScriptFault → Note
noted e = record { line = line_of e; number = number e; letter = letter e; place = place e }

-- what a call of the run answered, a fault beside its line
abbrev pub at_line : {T : Type 0} → ℕ → Result T RunFault → Result T AtLine
at_line line (Ok v) = Ok v
at_line line (Err e) = Err (record { line = line; fault = e })
