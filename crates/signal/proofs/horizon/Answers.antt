use Rattle.std.proofs.Common.{refl}
use Rattle.signal.proofs.Exactly.{waiting_exactly, waiting_ordered}
use Rattle.signal.proofs.horizon.Goals as goal

pub returns : goal.returns
returns g c = record { ticks = refl; waiting = waiting_exactly g.met.F.Family.laws; order = waiting_ordered g.F.Family.logic }
