use Rattle.std.proofs.Common.{◌≡◌, take}
use Rattle.script_text.specs.Laid.{Lays}
use Rattle.script_text.proofs.put.Writer.put_text.Given as goal

abbrev pub invariant-loop-b : goal.invariant-loop-b
invariant-loop-b l =
    (l.self.out.ghost_name ≡ l.initial.self.out.ghost_name)
    × Lays l.initial.self.out.now l.initial.self.end (take l.b-index l.text) l.self.end l.self.out.now
