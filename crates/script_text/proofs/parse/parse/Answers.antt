use Rattle.std.proofs.Common.{sym, subst}
use Rattle.script_text.specs.Commands.{Exactly}
use Rattle.script_text.proofs.Reading.{exactly}
use Rattle.script_text.proofs.parse.parse.Goals as goal

pub returns-clause-exactly : goal.returns-clause-exactly
returns-clause-exactly g c =
    let L = g.F.Family.logic in
    let N = g.F.Named.naming in
    subst (Exactly L N c.args.line.now) (sym c.read_command.ensures) (exactly L N g.met.F.Family.laws g.met.F.Named.spelling c.args.line.now)
