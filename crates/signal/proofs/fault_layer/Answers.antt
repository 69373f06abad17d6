use Rattle.std.proofs.Common.{refl}
use Rattle.signal.proofs.Refusing.{refusals_exact}
use Rattle.signal.proofs.fault_layer.Goals as goal

pub returns : goal.returns
returns g c = record { letter = refl; refusals = refusals_exact g.met.F.Family.laws }
