-- What a named family adds: a name of a fixed width for each value.
use Rattle.std.specs.Prelude.{◌≡◌, ℕ, ◌<◌, ◌≤◌, ◌≢◌, List, length, Some, None, Option, slice_index}

pub record Naming (V : Type 0) : Type 0 where
  pub width : ℕ
  pub name : V → List ℕ
  pub of_name : List ℕ → Option V

pub record NamingLaws {V : Type 0} (N : Naming V) : Type 0 where
  -- A name has the width of the family, 1 to 4 bytes, each from 21 to 7E (hexadecimal).
  pub width_from : 1 ≤ N.width
  pub width_to : N.width ≤ 4
  pub name_long : (a : V) → length (N.name a) ≡ N.width
  pub name_byte : (a : V) (i : ℕ) → i < N.width → (0x21 ≤ slice_index (N.name a) i) × (slice_index (N.name a) i ≤ 0x7E)
  -- Names differ; the name of a value gives it back, and a name that no value has gives none.
  pub name_equal : (a b : V) → N.name a ≡ N.name b → a ≡ b
  pub name_back : (a : V) → N.of_name (N.name a) ≡ Some a
  pub name_none : (s : List ℕ) → ((a : V) → N.name a ≢ s) → N.of_name s ≡ None
