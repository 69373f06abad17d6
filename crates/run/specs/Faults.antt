-- What a refused call of a run says: its number, the letter of its layer, and its place, the completed ticks.
use Rattle.std.specs.Prelude.{ℕ}
use Rattle.run.specs.declared.state.RunFault.{RunFault}
use Rattle.run.specs.declared.state.RunFault.TheVariants.{UnfitCalendar, NoSuchInput, NoSuchCode, ZeroTicks, TooManyTicks, ShortBuffer, NoSuchNet, WrongTime}

abbrev pub number : RunFault → ℕ
number (UnfitCalendar t) = 16
number (NoSuchInput t) = 17
number (NoSuchCode t) = 18
number (ZeroTicks t) = 19
number (TooManyTicks t) = 20
number (ShortBuffer t) = 21
number (NoSuchNet t) = 22
number (WrongTime t) = 23

-- the layer r
abbrev pub letter : RunFault → ℕ
letter fault = 114

abbrev pub place : RunFault → ℕ
place (UnfitCalendar t) = t
place (NoSuchInput t) = t
place (NoSuchCode t) = t
place (ZeroTicks t) = t
place (TooManyTicks t) = t
place (ShortBuffer t) = t
place (NoSuchNet t) = t
place (WrongTime t) = t
