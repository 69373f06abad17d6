use Rattle.std.proofs.Common.{refl}
use Rattle.signal.proofs.Recording.{traces_told}
use Rattle.signal.proofs.record_size.Goals as goal

pub returns : goal.returns
returns g c = record { bytes = refl; told = traces_told g.met.F.Family.laws }
