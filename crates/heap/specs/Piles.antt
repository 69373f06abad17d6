-- What a pile means. Assumes nothing.
use Rattle.std.specs.Prelude.{ℕ, List}
use Rattle.calendar.specs.declared.entry.Entry.{Entry}

-- how many entries a pile has room for, and those in it, in order
pub record Content : Type 0 where
  pub room : ℕ
  pub waiting : List Entry
