use Rattle.std.proofs.Common.{sym, refl}
use Rattle.pull_ranges.specs.Ranges.{range_back}
use Rattle.pull_ranges.proofs.pulls.range_of.Goals as goal

pub returns-then-high-le7 : goal.returns-then-high-le7
returns-then-high-le7 c = sym (range_back _ _ _ refl refl)
