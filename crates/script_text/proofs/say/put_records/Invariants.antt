use Rattle.std.proofs.Common.{◌≡◌}
use Rattle.script_text.specs.Laid.{Lays}
use Rattle.script_text.specs.Texts.{records_text}
use Rattle.script_text.proofs.say.put_records.Given as goal

abbrev pub invariant-loop-bytes : goal.invariant-loop-bytes
invariant-loop-bytes g l =
    (l.w.out.ghost_name ≡ l.fn.w.out.ghost_name)
    × Lays l.fn.w.out.now l.fn.w.end (records_text g.F.Family.logic g.F.Named.naming l.fn.trace l.bytes-index) l.w.end l.w.out.now
