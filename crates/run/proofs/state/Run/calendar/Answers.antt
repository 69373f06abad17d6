use Rattle.std.proofs.Common.{refl}
use Rattle.run.proofs.Timing.{on_time}
use Rattle.run.proofs.state.Run.calendar.Goals as goal

pub returns : goal.returns
returns g c = (refl, λ C s h on. on_time g.F.Family g.C.Calendar g.met.F.Family.laws C s c.args.self.now h on)
