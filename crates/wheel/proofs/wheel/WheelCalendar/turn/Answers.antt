use Rattle.std.proofs.Common.{length, sym, refl, ap, ◌∙◌}
use Rattle.std.proofs.lemmas.Result.{err_from_is_err_and}
use Rattle.calendar.specs.Agenda.{at_tick, with_waiting, sound, first_tick}
use Rattle.calendar.proofs.Faults.{turn_allowed, turn_refused_keeps}
use Rattle.calendar.proofs.Sound.{sound_turned}
use Rattle.wheel.specs.Rings.{wheel_agenda, table}
use Rattle.wheel.proofs.Wheels.{turn_rows, around}
use Rattle.wheel.proofs.wheel.WheelCalendar.turn.Goals as goal

pub returns-in_err-check_turn : goal.returns-in_err-check_turn
returns-in_err-check_turn c =
    let w = c.args.self.now in
    let a = wheel_agenda w.today w.gates w.roster w.codes.now in
    let told = c.check_turn.ensures a refl (sym w.soonest) in
    let p = err_from_is_err_and c.from_residual.result c.from_residual.ensures.1 in
    record {
      answer = rw (p.1, p.2) (sym c.in_err-check_turn.was ∙ told);
      after = sym (turn_refused_keeps a c.args.tick c.in_err-check_turn.field-0.0 (sym told ∙ c.in_err-check_turn.was));
    }

pub invariant_of-self : goal.invariant_of-self
invariant_of-self c =
    let w = c.args.self.now in
    let t = c.args.tick in
    let a = wheel_agenda w.today w.gates w.roster w.codes.now in
    let allowed = turn_allowed a t c.in_ok-check_turn.field-0 (sym (c.check_turn.ensures a refl (sym w.soonest)) ∙ c.in_ok-check_turn.was) in
    let same = turn_rows (table w.gates w.roster w.codes.now) (around w.gates w.roster w.codes.now) w.gates w.today t allowed.0 allowed.2 in
    record {
      wide = w.wide;
      few = w.few;
      sets = w.sets;
      inside = w.inside;
      fits = allowed.1;
      counted = w.counted ∙ sym (ap length same);
      sound = ap (λ z. sound (with_waiting (at_tick a t) z)) same ∙ sound_turned a t w.sound allowed.0 allowed.2;
      soonest = w.soonest ∙ sym (ap first_tick same);
    }

pub returns : goal.returns
returns c =
    let w = c.args.self.now in
    let t = c.args.tick in
    let a = wheel_agenda w.today w.gates w.roster w.codes.now in
    let told = c.check_turn.ensures a refl (sym w.soonest) in
    let allowed = turn_allowed a t c.in_ok-check_turn.field-0 (sym told ∙ c.in_ok-check_turn.was) in
    let same = turn_rows (table w.gates w.roster w.codes.now) (around w.gates w.roster w.codes.now) w.gates w.today t allowed.0 allowed.2 in
    record { answer = sym c.in_ok-check_turn.was ∙ told; after = ap (with_waiting (at_tick a t)) same ∙ sym allowed.3 }
