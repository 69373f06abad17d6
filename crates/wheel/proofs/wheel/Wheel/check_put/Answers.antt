use Rattle.std.proofs.Common.{Err, sym, refl, ap, ◌∙◌, arith}
use Rattle.std.specs.Prelude.{is_err}
use Rattle.std.proofs.lemmas.Result.{err_from_is_err_and}
use Rattle.calendar.specs.Agenda.{outcome}
use Rattle.calendar.proofs.Faults.{put_stands, put_full, put_twice}
use Rattle.wheel.specs.Rings.{wheel_agenda}
use Rattle.wheel.proofs.Wheels.{waits_is}
use Rattle.wheel.proofs.wheel.Wheel.check_put.Goals as goal

pub returns-in_err-check_slot : goal.returns-in_err-check_slot
returns-in_err-check_slot c =
    let w = c.args.self.now in
    let told = c.check_slot.ensures.refused (ap is_err c.in_err-check_slot.was) (wheel_agenda w.today w.gates w.roster w.codes.now) refl refl in
    let p = err_from_is_err_and c.from_residual.result c.from_residual.ensures.1 in
    rw (p.1, p.2) (sym c.in_err-check_slot.was ∙ told)

pub returns-then-stands : goal.returns-then-stands
returns-then-stands c =
    let w = c.args.self.now in
    let a = wheel_agenda w.today w.gates w.roster w.codes.now in
    let e = c.args.e in
    let place = c.in_ok-check_slot.ensures.ok.0 refl in
    let waits = waits_is w.today w.gates w.roster w.codes.now w.few e place.0 place.1 place.2 ∙ sym c.stands.ensures in
    ap Err c.at.ensures ∙ sym (ap (outcome a) (put_twice a e place.0 place.1 place.2 (waits ∙ c.if-stands.true)))

pub returns-then-self-capacity : goal.returns-then-self-capacity
returns-then-self-capacity c =
    let w = c.args.self.now in
    let a = wheel_agenda w.today w.gates w.roster w.codes.now in
    let e = c.args.e in
    let place = c.in_ok-check_slot.ensures.ok.0 refl in
    let waits = waits_is w.today w.gates w.roster w.codes.now w.few e place.0 place.1 place.2 ∙ sym c.stands.ensures in
    ap Err c.at-then-self-capacity.ensures ∙ sym (ap (outcome a) (put_full a e place.0 place.1 place.2 (waits ∙ c.if-stands.false) (omega (arith, w.counted))))

pub returns : goal.returns
returns c =
    let w = c.args.self.now in
    let a = wheel_agenda w.today w.gates w.roster w.codes.now in
    let e = c.args.e in
    let place = c.in_ok-check_slot.ensures.ok.0 refl in
    let waits = waits_is w.today w.gates w.roster w.codes.now w.few e place.0 place.1 place.2 ∙ sym c.stands.ensures in
    sym (ap (outcome a) (put_stands a e place.0 place.1 place.2 (waits ∙ c.if-stands.false) (omega (arith, w.counted))))
