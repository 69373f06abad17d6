use Rattle.std.proofs.Common.{length, false, sym, ap, ◌∙◌, arith}
use Rattle.calendar.specs.Agenda.{with_waiting, sound, rest}
use Rattle.calendar.proofs.Sound.{sound_taken, sound_due}
use Rattle.wheel.specs.Rings.{wheel_agenda, table}
use Rattle.wheel.proofs.Rings.{still_inside}
use Rattle.wheel.proofs.Wheels.{list_of_first, first_in_time, take_leaves, soonest_left}
use Rattle.wheel.proofs.wheel.WheelCalendar.take.Goals as goal

pub invariant_of-self : goal.invariant_of-self
invariant_of-self c =
    let w = c.args.self.now in
    let G = w.gates in
    let a = wheel_agenda w.today G w.roster w.codes.now in
    let due = sound_due a w.sound in
    let e = c.in_ok-e.e in
    let list = list_of_first a.waiting e (sym c.head.ensures ∙ c.in_ok-e.was) in
    let place = first_in_time (table G w.roster w.codes.now) G w.today due e list.0 list.1 in
    let last = c.remove_gate.new.roster in
    let there = c.remove_gate.ensures.there in
    let left = take_leaves w.today G w.roster w.codes.now w.few last e list.0 due list.1 there in
    let inside = still_inside G w.roster last w.codes.now w.few e.tick e.gate place.2 false there w.inside in
    record {
      wide = w.wide;
      few = w.few;
      sets = c.remove_gate.ensures.sets;
      inside = inside;
      fits = w.fits;
      counted = omega (arith, w.counted, ap length left.0, ap length list.1);
      sound = ap (λ z. sound (with_waiting a z)) (left.0 ∙ sym (ap rest list.1)) ∙ sound_taken a w.sound;
      soonest = soonest_left G last w.codes.now w.few inside w.today e.tick place.0 left.1 c.first_wait-self.result c.first_wait-self.ensures;
    }

pub returns-clause-after : goal.returns-clause-after
returns-clause-after c =
    let w = c.args.self.now in
    let a = wheel_agenda w.today w.gates w.roster w.codes.now in
    let list = list_of_first a.waiting c.in_ok-e.e (sym c.head.ensures ∙ c.in_ok-e.was) in
    let left = take_leaves w.today w.gates w.roster w.codes.now w.few c.remove_gate.new.roster c.in_ok-e.e list.0 (sound_due a w.sound) list.1 c.remove_gate.ensures.there in
    ap (with_waiting a) (left.0 ∙ sym (ap rest list.1))
