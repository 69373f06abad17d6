use Rattle.std.proofs.Common.{[], ◌∷◌, codes, decimal}
use Rattle.script_text.proofs.Over.{lays_then}
use Rattle.script_text.proofs.say.put_done.Goals as goal

pub returns-clause-lays : goal.returns-clause-lays
returns-clause-lays c = lays_then (codes "done ") _ c.put_text.ensures.lays (lays_then (decimal c.args.ticks) (10 ∷ []) c.put_number.ensures.lays c.put.ensures.lays)
