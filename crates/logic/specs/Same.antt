-- What it is to tell whether two values are equal.
use Rattle.std.specs.Prelude.{◌≡◌, Bool, true}

pub record TellsSame {V : Type 0} (a b : V) (r : Bool) : Type 0 where
  pub only_equal : r ≡ true → a ≡ b
  pub every_equal : a ≡ b → r ≡ true
