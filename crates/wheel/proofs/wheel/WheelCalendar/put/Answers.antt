use Rattle.std.proofs.Common.{◌≡◌, length, length-set, min, Some, true, sym, ap, ◌∙◌, arith, rules}
use Rattle.std.specs.Option.{option_map_or}
use Rattle.calendar.specs.Agenda.{entry, with_waiting, sound, first_tick, before}
use Rattle.calendar.proofs.Faults.{put_refused_keeps}
use Rattle.calendar.proofs.Orders.{length_placed}
use Rattle.calendar.proofs.Sound.{sound_placed}
use Rattle.wheel.specs.Rings.{wheel_agenda}
use Rattle.wheel.proofs.Rings.{still_inside}
use Rattle.wheel.proofs.Wheels.{put_allowed, put_leaves, soonest_placed}
use Rattle.wheel.proofs.wheel.WheelCalendar.put.Goals as goal

pub returns-in_err-check_put-clause-after : goal.returns-in_err-check_put-clause-after
returns-in_err-check_put-clause-after c =
    let w = c.args.self.now in
    sym (put_refused_keeps (wheel_agenda w.today w.gates w.roster w.codes.now) (entry c.args.tick c.args.gate c.args.code) c.in_err-check_put.field-0.0 (sym c.check_put.ensures ∙ c.in_err-check_put.was))

pub overflow_add-self : goal.overflow_add-self
overflow_add-self c =
    let w = c.args.self.now in
    let allowed = put_allowed (wheel_agenda w.today w.gates w.roster w.codes.now) (entry c.args.tick c.args.gate c.args.code) c.in_ok-check_put.field-0 (sym c.check_put.ensures ∙ c.in_ok-check_put.was) in
    omega (arith, allowed.4, w.counted, w.few)

pub invariant_of-self : goal.invariant_of-self
invariant_of-self c =
    let w = c.args.self.now in
    let a = wheel_agenda w.today w.gates w.roster w.codes.now in
    let t = c.args.tick in
    let e = entry t c.args.gate c.args.code in
    let ok = sym c.check_put.ensures ∙ c.in_ok-check_put.was in
    let allowed = put_allowed a e c.in_ok-check_put.field-0 ok in
    let there = c.add_gate.ensures.there in
    let is = put_leaves w.today w.gates w.roster w.codes.now w.few c.add_gate.new.roster e c.place-at.result c.in_ok-check_put.field-0 ok c.place-at.ensures.value w.wide there in
    let soon : c.map_or.result ≡ option_map_or (λ x. min x t) w.soon t = search rules in
    record {
      wide = omega (arith, w.wide, length-set w.codes.now c.place-at.result c.args.code);
      few = w.few;
      sets = c.add_gate.ensures.sets;
      inside = still_inside w.gates w.roster c.add_gate.new.roster w.codes.now w.few t c.args.gate allowed.0 true there w.inside;
      fits = w.fits;
      counted = omega (arith, w.counted, ap length is, length_placed before e a.waiting);
      sound = ap (λ z. sound (with_waiting a z)) is ∙ sound_placed a w.sound e allowed.0 allowed.1 allowed.2 allowed.3 allowed.4;
      soonest = ap Some (soon ∙ ap (λ o. option_map_or (λ x. min x t) o t) w.soonest) ∙ sym (soonest_placed e a.waiting) ∙ sym (ap first_tick is);
    }

pub returns-clause-after : goal.returns-clause-after
returns-clause-after c =
    let w = c.args.self.now in
    let a = wheel_agenda w.today w.gates w.roster w.codes.now in
    let e = entry c.args.tick c.args.gate c.args.code in
    let ok = sym c.check_put.ensures ∙ c.in_ok-check_put.was in
    let is = put_leaves w.today w.gates w.roster w.codes.now w.few c.add_gate.new.roster e c.place-at.result c.in_ok-check_put.field-0 ok c.place-at.ensures.value w.wide c.add_gate.ensures.there in
    ap (with_waiting a) is ∙ sym (put_allowed a e c.in_ok-check_put.field-0 ok).5
