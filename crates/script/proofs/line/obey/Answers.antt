use Rattle.std.proofs.Common.{◌≡◌, Err, Ok, sym, refl, ap, ◌∙◌, subst, arith}
use Rattle.std.proofs.lemmas.List.{length-take-le}
use Rattle.std.proofs.lemmas.Result.{err_from_is_err_and}
use Rattle.signal.specs.Calls.{wake, drive}
use Rattle.script_text.specs.declared.command.Command.TheVariants.{Wake, Drive, Advance, Read}
use Rattle.script.specs.Answers.{Obeys}
use Rattle.script.proofs.Callings.{at_line_ok, wakes_alike, drives_alike, set_err, set_ok, advance_err, advance_ok, read_err, read_ok}
use Rattle.script.proofs.line.obey.Goals as goal

pub returns-in_err-at_line-in-Wake : goal.returns-in_err-at_line-in-Wake
returns-in_err-at_line-in-Wake g c =
    let x = c.args.run.now in
    let call = Wake c.in-Wake.gate c.in-Wake.code in
    let is : call ≡ c.args.command = cc in
    let same = wakes_alike g.F.Family g.C.Calendar x c.narrow.result c.in-Wake.gate c.in-Wake.code c.narrow.ensures in
    let p = err_from_is_err_and c.from_residual.result c.from_residual.ensures.1 in
    subst (λ k. Obeys g.F.Family g.F.Named g.C.Calendar c.args.line k x c.args.out.now c.args.trace.now c.wake.new.self c.args.out.now c.args.trace.now c.from_residual.result) is
    (subst (Obeys g.F.Family g.F.Named g.C.Calendar c.args.line call x c.args.out.now c.args.trace.now c.wake.new.self c.args.out.now c.args.trace.now) (sym (p.1 ∙ ap Err p.2))
    (set_err g.F.Family g.F.Named g.C.Calendar c.args.line call (wake c.narrow.result c.in-Wake.code) x c.wake.new.self c.wake.result c.wake.ensures.called c.wake.ensures.unchanged same c.args.out.now c.args.trace.now
    c.in_err-at_line-in-Wake.field-0.0 (sym c.at_line.ensures ∙ c.in_err-at_line-in-Wake.was)))

pub returns-in_ok-at_line-in-Wake : goal.returns-in_ok-at_line-in-Wake
returns-in_ok-at_line-in-Wake g c =
    let x = c.args.run.now in
    let call = Wake c.in-Wake.gate c.in-Wake.code in
    let is : call ≡ c.args.command = cc in
    let same = wakes_alike g.F.Family g.C.Calendar x c.narrow.result c.in-Wake.gate c.in-Wake.code c.narrow.ensures in
    subst (λ k. Obeys g.F.Family g.F.Named g.C.Calendar c.args.line k x c.args.out.now c.args.trace.now c.wake.new.self c.say_ok.new.out c.args.trace.now (Ok c.say_ok.result)) is
    (set_ok g.F.Family g.F.Named g.C.Calendar c.args.line call (wake c.narrow.result c.in-Wake.code) x c.wake.new.self c.wake.result c.wake.ensures.called c.wake.ensures.unchanged same c.args.out.now c.args.trace.now
    tt (sym c.at_line.ensures ∙ c.in_ok-at_line-in-Wake.was) c.say_ok.new.out c.say_ok.result c.requires.room c.say_ok.ensures (λ C s. refl))

pub returns-in_err-at_line-in-Drive : goal.returns-in_err-at_line-in-Drive
returns-in_err-at_line-in-Drive g c =
    let x = c.args.run.now in
    let call = Drive c.in-Drive.port c.in-Drive.code in
    let is : call ≡ c.args.command = cc in
    let same = drives_alike g.F.Family g.C.Calendar x c.narrow-in-Drive.result c.in-Drive.port c.in-Drive.code c.narrow-in-Drive.ensures in
    let p = err_from_is_err_and c.from_residual-in_err-at_line-in-Drive.result c.from_residual-in_err-at_line-in-Drive.ensures.1 in
    subst (λ k. Obeys g.F.Family g.F.Named g.C.Calendar c.args.line k x c.args.out.now c.args.trace.now c.drive.new.self c.args.out.now c.args.trace.now c.from_residual-in_err-at_line-in-Drive.result) is
    (subst (Obeys g.F.Family g.F.Named g.C.Calendar c.args.line call x c.args.out.now c.args.trace.now c.drive.new.self c.args.out.now c.args.trace.now) (sym (p.1 ∙ ap Err p.2))
    (set_err g.F.Family g.F.Named g.C.Calendar c.args.line call (drive c.narrow-in-Drive.result c.in-Drive.code) x c.drive.new.self c.drive.result c.drive.ensures.called c.drive.ensures.unchanged same c.args.out.now c.args.trace.now
    c.in_err-at_line-in-Drive.field-0.0 (sym c.at_line-in-Drive.ensures ∙ c.in_err-at_line-in-Drive.was)))

pub returns-in_ok-at_line-in-Drive : goal.returns-in_ok-at_line-in-Drive
returns-in_ok-at_line-in-Drive g c =
    let x = c.args.run.now in
    let call = Drive c.in-Drive.port c.in-Drive.code in
    let is : call ≡ c.args.command = cc in
    let same = drives_alike g.F.Family g.C.Calendar x c.narrow-in-Drive.result c.in-Drive.port c.in-Drive.code c.narrow-in-Drive.ensures in
    subst (λ k. Obeys g.F.Family g.F.Named g.C.Calendar c.args.line k x c.args.out.now c.args.trace.now c.drive.new.self c.say_ok-in-Drive.new.out c.args.trace.now (Ok c.say_ok-in-Drive.result)) is
    (set_ok g.F.Family g.F.Named g.C.Calendar c.args.line call (drive c.narrow-in-Drive.result c.in-Drive.code) x c.drive.new.self c.drive.result c.drive.ensures.called c.drive.ensures.unchanged same c.args.out.now c.args.trace.now
    tt (sym c.at_line-in-Drive.ensures ∙ c.in_ok-at_line-in-Drive.was) c.say_ok-in-Drive.new.out c.say_ok-in-Drive.result c.requires.room c.say_ok-in-Drive.ensures (λ C s. refl))

pub slice_bounds-say_trace-end-in-Advance : goal.slice_bounds-say_trace-end-in-Advance
slice_bounds-say_trace-end-in-Advance g c =
    let done = c.in_ok-done-in-Advance.done in
    let bytes = c.in_ok-done-in-Advance.bytes in
    let is = at_line_ok c.args.line c.advance.result (done, bytes) (sym c.at_line-in-Advance.ensures ∙ c.in_ok-done-in-Advance.was) in
    sym (length-take-le bytes c.advance.new.out (c.advance.ensures.within done bytes is))

pub returns-in_err-done-in-Advance : goal.returns-in_err-done-in-Advance
returns-in_err-done-in-Advance g c =
    let x = c.args.run.now in
    let call = Advance c.in-Advance.ticks in
    let is : call ≡ c.args.command = cc in
    let r = c.from_residual-in_err-done-in-Advance.result in
    let p = err_from_is_err_and r c.from_residual-in_err-done-in-Advance.ensures.1 in
    subst (λ k. Obeys g.F.Family g.F.Named g.C.Calendar c.args.line k x c.args.out.now c.args.trace.now c.advance.new.self c.args.out.now c.advance.new.out r) is
    (subst (Obeys g.F.Family g.F.Named g.C.Calendar c.args.line call x c.args.out.now c.args.trace.now c.advance.new.self c.args.out.now c.advance.new.out) (sym (p.1 ∙ ap Err p.2))
    (advance_err g.F.Family g.F.Named g.C.Calendar c.args.line x c.advance.new.self c.advance.result c.in-Advance.ticks c.args.out.now c.args.trace.now c.advance.new.out c.requires.long c.advance.ensures
    c.in_err-done-in-Advance.field-0.0 (sym c.at_line-in-Advance.ensures ∙ c.in_err-done-in-Advance.was)))

pub returns-in_ok-done-in-Advance : goal.returns-in_ok-done-in-Advance
returns-in_ok-done-in-Advance g c =
    let x = c.args.run.now in
    let is : Advance c.in-Advance.ticks ≡ c.args.command = cc in
    let done = c.in_ok-done-in-Advance.done in
    let bytes = c.in_ok-done-in-Advance.bytes in
    subst (λ k. Obeys g.F.Family g.F.Named g.C.Calendar c.args.line k x c.args.out.now c.args.trace.now c.advance.new.self c.say_trace.new.out c.advance.new.out (Ok c.say_trace.result)) is
    (advance_ok g.F.Family g.F.Named g.C.Calendar c.args.line x c.advance.new.self c.advance.result c.in-Advance.ticks c.args.out.now c.args.trace.now c.advance.new.out c.requires.long c.advance.ensures
    g.met.F.Family.laws g.met.F.Named.spelling (omega arith) done bytes (sym c.at_line-in-Advance.ensures ∙ c.in_ok-done-in-Advance.was) c.say_trace.new.out c.say_trace.result c.requires.room c.say_trace.ensures)

pub returns-in_err-code-in-Read : goal.returns-in_err-code-in-Read
returns-in_err-code-in-Read g c =
    let x = c.args.run.now in
    let call = Read c.in-Read.net in
    let is : call ≡ c.args.command = cc in
    let r = c.from_residual-in_err-code-in-Read.result in
    let p = err_from_is_err_and r c.from_residual-in_err-code-in-Read.ensures.1 in
    subst (λ k. Obeys g.F.Family g.F.Named g.C.Calendar c.args.line k x c.args.out.now c.args.trace.now x c.args.out.now c.args.trace.now r) is
    (subst (Obeys g.F.Family g.F.Named g.C.Calendar c.args.line call x c.args.out.now c.args.trace.now x c.args.out.now c.args.trace.now) (sym (p.1 ∙ ap Err p.2))
    (read_err g.F.Family g.F.Named g.C.Calendar c.args.line x c.read.result c.in-Read.net c.narrow-in-Read.result c.narrow-in-Read.ensures c.read.ensures c.args.out.now c.args.trace.now
    c.in_err-code-in-Read.field-0.0 (sym c.at_line-in-Read.ensures ∙ c.in_err-code-in-Read.was)))

pub returns-in_ok-code-in-Read : goal.returns-in_ok-code-in-Read
returns-in_ok-code-in-Read g c =
    let x = c.args.run.now in
    let is : Read c.in-Read.net ≡ c.args.command = cc in
    subst (λ k. Obeys g.F.Family g.F.Named g.C.Calendar c.args.line k x c.args.out.now c.args.trace.now x c.say_level.new.out c.args.trace.now (Ok c.say_level.result)) is
    (read_ok g.F.Family g.F.Named g.C.Calendar c.args.line x c.read.result c.in-Read.net c.narrow-in-Read.result c.narrow-in-Read.ensures c.read.ensures c.args.out.now c.args.trace.now
    g.met.F.Family.laws g.met.F.Named.spelling c.in_ok-code-in-Read.code c.in_ok-code-in-Read.definite (sym c.at_line-in-Read.ensures ∙ c.in_ok-code-in-Read.was) c.say_level.new.out c.say_level.result c.requires.room c.say_level.ensures)
