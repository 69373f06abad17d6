use Rattle.std.proofs.Common.{◌∷◌, [], ◌++◌}
use Rattle.script_stream.specs.Verdicts.{SaysVerdict, verdict_text}
use Rattle.script_stream.proofs.Growing.{grows_then, grows_line, on_ok}
use Rattle.script_stream.proofs.stream.work_both.Goals as goal

pub returns : goal.returns
returns g c =
    let known = g.W.Write.contents in
    let from = known c.args.sink.now in
    let net = c.contradiction.result in
    let line = verdict_text net ++ (10 ∷ []) in
    let said = grows_line from _ _ (known c.flush.new.self) line (grows_then from _ _ c.in_ok-work_script.ensures c.in_ok-work_script-2.ensures) c.in_ok-writeln.ensures.bytes c.flush.ensures.bytes in
    on_ok c.flush.result
    (SaysVerdict g.F.Family g.C.Calendar g.D.Calendar c.work_script.new.run c.work_script-2.new.run from (known c.flush.new.self))
    (said.0, net, said.1, c.contradiction.ensures.answer)
