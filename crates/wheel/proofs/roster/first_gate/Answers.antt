use Rattle.std.proofs.Common.{◌%◌, arith}
use Rattle.wheel.proofs.Rosters.{row_least}
use Rattle.wheel.proofs.roster.first_gate.Goals as goal

pub returns : goal.returns
returns c = row_least c.args.roster.now (c.args.tick % 65) c.index-roster-tick.result (omega arith) c.first.result c.first.ensures.least
