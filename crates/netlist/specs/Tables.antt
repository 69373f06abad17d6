-- A table that a function filled, call by call.
use Rattle.std.specs.Prelude.{ℕ, ◌<◌, List, length, slice_index_or, Ok, Err, Result}

-- each entry before n is one that its call may answer
pub record FilledTo {T E : Type 0} (may : ℕ → Result T E → Type 0) (xs : List T) (n : ℕ) : Type 0 where
  pub each : (k : ℕ) (x : T) → k < n → may k (Ok (slice_index_or xs k x))

-- a call within the table may answer the fault, and the entries before it are filled
pub record StoppedBy {T E : Type 0} (may : ℕ → Result T E → Type 0) (xs : List T) (e : E) : Type 0 where
  pub at : ℕ
  pub inside : at < length xs
  pub refused : may at (Err e)
  pub before : FilledTo may xs at
