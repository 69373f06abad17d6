use Rattle.script_text.proofs.Over.{lays_one, lays_past}
use Rattle.script_text.proofs.put.Writer.put.Goals as goal

pub returns-then-self-clause-lays : goal.returns-then-self-clause-lays
returns-then-self-clause-lays c = lays_one c.args.self.now.out.now c.args.self.now.end c.args.b c.if-self.true

pub returns-else-self-clause-lays : goal.returns-else-self-clause-lays
returns-else-self-clause-lays c = lays_past c.args.self.now.out.now c.args.self.now.end _ c.if-self.false
