-- Definitions that look as good and are wrong: a family with one of them breaks the laws.
use Rattle.std.specs.Prelude.{Bool, cond, ◌||◌, ◌&&◌}
use Rattle.logic.specs.Logic.{Logic, Laws}
use Rattle.nine_values.specs.Nines.{nines, is, read9}
use Rattle.nine_values.specs.declared.nine.Nine.{Nine}
use Rattle.nine_values.specs.declared.nine.Nine.TheVariants.{X, Zero, W}

-- the nine values with another TRI and another refining
abbrev pub nines_with : (Nine → Nine → Nine) → (Nine → Nine → Bool) → Logic Nine
nines_with tri refines = record {
  unset = nines.unset;
  up = nines.up;
  down = nines.down;
  not = nines.not;
  and = nines.and;
  or = nines.or;
  xor = nines.xor;
  tri = tri;
  resolve = nines.resolve;
  refines = refines;
  definite = nines.definite;
  code = nines.code;
  of_code = nines.of_code;
}

-- TRI is X for an unknown enable, whatever the data.
abbrev pub tri_x_first : Nine → Nine → Nine
tri_x_first d e = cond (is (read9 e) X) X (nines.tri d e)

-- 0 refines W too, since W may turn out to be low.
abbrev pub zero_refines_w : Nine → Nine → Bool
zero_refines_w b a = (is b Zero && is a W) || nines.refines b a

pub record InvitingAndWrong : Type 0 where
  -- With data U, enable X would give X and enable 1 gives U, which does not refine X.
  pub tri : Laws (nines_with tri_x_first nines.refines) → ⊥
  -- Beside a driver at 1, W gives 1 and 0 gives X, which does not refine 1.
  pub weak : Laws (nines_with nines.tri zero_refines_w) → ⊥
