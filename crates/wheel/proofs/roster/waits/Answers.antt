use Rattle.std.proofs.Common.{◌%◌, sym, ◌∙◌}
use Rattle.wheel.proofs.Rosters.{least_some, least_none}
use Rattle.wheel.proofs.roster.waits.Goals as goal

pub returns : goal.returns
returns c =
    let sets = c.args.roster.now in
    let row = c.args.tick % 65 in
    record {
      some = λ e. least_some sets row c.first_gate.result c.first_gate.ensures (sym c.is_some.ensures ∙ e);
      none = λ e. least_none sets row c.first_gate.result c.first_gate.ensures (sym c.is_some.ensures ∙ e);
    }
