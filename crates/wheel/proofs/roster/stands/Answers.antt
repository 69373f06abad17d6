use Rattle.std.proofs.Common.{◌%◌, sym, ◌∙◌, arith}
use Rattle.wheel.proofs.Rosters.{row_member}
use Rattle.wheel.proofs.roster.stands.Goals as goal

pub returns : goal.returns
returns c = c.contains.ensures.member ∙ sym (row_member c.args.roster.now (c.args.tick % 65) c.index-roster-tick.result (omega arith) c.args.gate)
