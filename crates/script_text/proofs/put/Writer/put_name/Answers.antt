use Rattle.std.proofs.Common.{[], Some, None, ap, subst}
use Rattle.script_text.specs.Laid.{Lays}
use Rattle.script_text.proofs.Over.{lays_none}
use Rattle.script_text.proofs.put.Writer.put_name.Goals as goal

pub returns-in_default-clause-lays : goal.returns-in_default-clause-lays
returns-in_default-clause-lays g c =
    subst (λ text. Lays c.args.self.now.out.now c.args.self.now.end text c.args.self.now.end c.args.self.now.out.now)
    (ap (λ o. elim o [ Some v ↦ g.F.Named.naming.name v | None ↦ [] ]) c.in_default.ensures) (lays_none c.args.self.now.out.now c.args.self.now.end)
