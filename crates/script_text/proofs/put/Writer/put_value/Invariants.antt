use Rattle.std.proofs.Common.{◌≡◌, take}
use Rattle.script_text.specs.Laid.{Lays}
use Rattle.script_text.proofs.put.Writer.put_value.Given as goal

abbrev pub invariant-loop-i : goal.invariant-loop-i
invariant-loop-i g l =
    (l.self.out.ghost_name ≡ l.initial.self.out.ghost_name)
    × Lays l.initial.self.out.now l.initial.self.end (take l.i (g.F.Named.naming.name l.v)) l.self.end l.self.out.now
