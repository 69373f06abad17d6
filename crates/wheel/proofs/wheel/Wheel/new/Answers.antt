use Rattle.std.proofs.Common.{◌*◌, length, sym, ap, ◌∙◌, arith, rules}
use Rattle.std.proofs.lemmas.Bool.{le-leb}
use Rattle.calendar.specs.Agenda.{sound, with_waiting, new_agenda, first_tick}
use Rattle.wheel.proofs.Wheels.{new_rows, new_inside}
use Rattle.wheel.proofs.wheel.Wheel.new.Goals as goal

pub invariant_of-result : goal.invariant_of-result
invariant_of-result c =
    let G = c.min-gates.result in
    let none = new_rows c.new.result c.new.ensures.empty G (omega arith) c.args.buffer.now in
    record {
      wide = omega arith;
      few = omega arith;
      sets = search rules;
      inside = new_inside c.new.result c.new.ensures.empty G (omega arith);
      fits = omega arith;
      counted = sym (ap length none);
      sound = ap (λ z. sound (with_waiting (new_agenda G (64 * G)) z)) none ∙ le-leb 0 (64 * G) (omega arith);
      soonest = sym (ap first_tick none);
    }
