use Rattle.std.proofs.Common.{◌%◌, false, arith}
use Rattle.wheel.proofs.Rosters.{set_there}
use Rattle.wheel.proofs.roster.remove_gate.Goals as goal

pub returns-clause-there : goal.returns-clause-there
returns-clause-there c = λ r g h. set_there c.args.roster.now (c.args.tick % 65) c.index-roster-tick.result (omega arith) c.args.gate c.remove.new.self false c.remove.ensures.there r g
