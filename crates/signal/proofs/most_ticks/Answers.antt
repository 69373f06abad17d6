use Rattle.std.proofs.Common.{refl}
use Rattle.signal.proofs.Theorems.{three_laws}
use Rattle.signal.proofs.most_ticks.Goals as goal

pub returns : goal.returns
returns g c = record { ticks = refl; laws = three_laws g.met.F.Family.laws }
