-- A text that is written into a buffer.
use Rattle.std.specs.Prelude.{◌≡◌, ℕ, ◌+◌, ◌-◌, List, ◌++◌, length, take, drop}

-- the buffer with the text from a place on, the bytes before and behind it as they were
unfoldable pub written : List ℕ → ℕ → List ℕ → List ℕ
written out at text = take at out ++ (text ++ drop (at + length text) out)

-- a call wrote the text into the buffer from a place on, and answered the place behind it
pub record Wrote (out : List ℕ) (at : ℕ) (text : List ℕ) (end : ℕ) (after : List ℕ) : Type 0 where
  pub count : end ≡ at + length text
  pub writes : after ≡ written out at text

-- a call wrote what the buffer has room for of a text
abbrev pub Lays : List ℕ → ℕ → List ℕ → ℕ → List ℕ → Type 0
Lays out at text end after = Wrote out at (take (length out - at) text) end after
