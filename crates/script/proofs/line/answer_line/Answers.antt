use Rattle.std.proofs.Common.{◌≡◌, ◌≤◌, eqb, leb, length, sym, ◌∙◌, rules}
use Rattle.std.proofs.lemmas.Bool.{and_parts, leb-true, eqb-true}
use Rattle.script.proofs.Conclusions.{none_answer, ok_answer, err_answer}
use Rattle.script.proofs.line.answer_line.Goals as goal

pub obey-requires : goal.obey-requires
obey-requires g c =
    let both = and_parts (leb 40000 (length c.args.out.now)) (eqb (length c.args.trace.now) 16384) (sym c.buffers_fit.ensures ∙ c.if-not-buffers_fit.false) in
    let room : 40000 ≤ length c.args.out.now = leb-true 40000 (length c.args.out.now) both.0 in
    let long : length c.args.trace.now ≡ 16384 = eqb-true (length c.args.trace.now) 16384 both.1 in
    search rules

pub returns-in-None : goal.returns-in-None
returns-in-None g c = none_answer g.F.Family g.F.Named g.C.Calendar c.args.run.now c.args.line.now c.args.number c.args.out.now c.args.trace.now (sym c.buffers_fit.ensures ∙ c.if-not-buffers_fit.false) (sym c.in-None.ensures.reads) c.say.result c.say.new.out c.say.ensures.lays c.say.ensures.short

pub returns-in-Ok : goal.returns-in-Ok
returns-in-Ok g c = ok_answer g.F.Family g.F.Named g.C.Calendar c.args.run.now c.args.line.now c.args.number c.args.out.now c.args.trace.now (sym c.buffers_fit.ensures ∙ c.if-not-buffers_fit.false) c.in-Some.command (sym c.in-Some.ensures.reads) c.obey.new.run c.obey.new.out c.obey.new.trace c.in-Ok.end c.in-Ok.ensures

pub returns-in-Err : goal.returns-in-Err
returns-in-Err g c = err_answer g.F.Family g.F.Named g.C.Calendar c.args.run.now c.args.line.now c.args.number c.args.out.now c.args.trace.now (sym c.buffers_fit.ensures ∙ c.if-not-buffers_fit.false) c.in-Some.command (sym c.in-Some.ensures.reads) c.obey.new.run c.obey.new.out c.obey.new.trace c.in-Err.fault c.in-Err.ensures c.say-in-Err.result c.say-in-Err.new.out c.say-in-Err.ensures.lays c.say-in-Err.ensures.short
