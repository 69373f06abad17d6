use Rattle.std.proofs.Common.{rules, ◌/◌, length}
use Rattle.script_text.specs.Texts.{records_text, done_text}
use Rattle.script_text.proofs.Over.{lays_then}
use Rattle.script_text.proofs.say.say_trace.Goals as goal

pub returns : goal.returns
returns g c =
    let records = records_text g.F.Family.logic g.F.Named.naming c.args.trace.now (length c.args.trace.now / 8) in
    let whole = lays_then records (done_text c.args.ticks) c.put_records.ensures.lays c.put_done.ensures.lays in
    search (rules, whole)
