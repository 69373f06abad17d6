use Rattle.std.proofs.Common.{rules}
use Rattle.signal.proofs.Inputs.{inputs_last}
use Rattle.signal.proofs.Signals.{signal_definition}
use Rattle.signal.proofs.opening_level.Goals as goal

pub returns : goal.returns
returns g c = record { level = search rules; signals = signal_definition g.F.Family.logic; inputs = inputs_last g.met.F.Family.laws }
