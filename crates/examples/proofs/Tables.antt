-- The examples, by computation; of what is wrong, one case each that breaks a law.
use mathlib.Core.Path.{◌≡◌, refl}
use mathlib.Core.Bool.{Bool, true, false}
use native.Mathlib.Omega.{arith}
use Rattle.nine_values.specs.declared.nine.Nine.TheVariants.{U, X, Zero, One, W}
use Rattle.pull_ranges.specs.Ranges.{same_range, same_pull}
use Rattle.signal.specs.Signal.{N, D, before}
use Rattle.examples.specs.Examples.{Examples}
use Rattle.examples.specs.Inviting.{InvitingAndWrong}

pub examples : Examples
unfolding N D before
examples = record {
  and_u_0 = refl;
  resolve_0_1 = refl;
  resolve_l_h = refl;
  resolve_dash_z = refl;
  tri_u_x = refl;
  resolve_0066_3300 = same_pull _ _ (same_range _ _ refl refl) (same_range _ _ refl refl);
  code_3366 = refl;
  reads_3366 = refl;
  tri_6600_0000 = refl;
  file = refl;
  level_1_1 = refl;
  level_1_2 = refl;
  drives_0_1 = refl;
  drives_0_2 = refl;
  waits = refl;
  advance_32 = refl;
  advance_24 = refl;
  advance_15 = refl;
  read_1 = refl;
  read_9 = refl;
  waits_both = refl;
  shows_both = refl;
}

never : ◌≡◌ {A = Bool} false true → ⊥
never e = grind arith

pub inviting : InvitingAndWrong
inviting = record {
  tri = λ laws. never (laws.tri_mono U U X One refl refl);
  weak = λ laws. never (laws.resolve_mono W Zero One One refl refl);
}
