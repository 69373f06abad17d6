use Rattle.std.proofs.Common.{rules}
use Rattle.script_text.specs.Commands.{name_of}
use Rattle.script_text.specs.Texts.{certainty}
use Rattle.script_text.proofs.Over.{lays_then}
use Rattle.script_text.proofs.say.say_level.Goals as goal

pub returns : goal.returns
returns g c =
    let whole = lays_then (name_of g.F.Family.logic g.F.Named.naming c.args.code) (certainty c.args.definite) c.put_name.ensures.lays c.put_certainty.ensures.lays in
    search (rules, whole)
