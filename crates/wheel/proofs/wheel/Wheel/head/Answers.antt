use Rattle.std.proofs.Common.{get_or, Some, sym, ap, ◌∙◌}
use Rattle.calendar.specs.Agenda.{entry}
use Rattle.calendar.specs.Table.{slot}
use Rattle.calendar.proofs.Sound.{sound_due}
use Rattle.wheel.specs.Rings.{wheel_agenda, table}
use Rattle.wheel.proofs.Rings.{row_empty, row_first}
use Rattle.wheel.proofs.Wheels.{some_stands, first_stands}
use Rattle.wheel.proofs.wheel.Wheel.head.Goals as goal

pub returns-in_err-gate : goal.returns-in_err-gate
returns-in_err-gate c =
    let w = c.args.self.now in
    let s = c.in_ok-tick.tick in
    let least = c.in_err-gate.ensures in
    let due = sound_due (wheel_agenda w.today w.gates w.roster w.codes.now) w.sound in
    absurd (some_stands (table w.gates w.roster w.codes.now) w.gates w.today s due (sym w.soonest ∙ c.in_ok-tick.was) (row_empty w.gates w.roster w.codes.now w.few w.inside s least))

pub place-requires : goal.place-requires
place-requires c =
    let w = c.args.self.now in
    let s = c.in_ok-tick.tick in
    let g = c.in_ok-gate.gate in
    let least = c.in_ok-gate.ensures in
    (row_first w.gates w.roster w.codes.now w.few w.inside s g least).0

pub returns : goal.returns
returns c =
    let w = c.args.self.now in
    let s = c.in_ok-tick.tick in
    let g = c.in_ok-gate.gate in
    let least = c.in_ok-gate.ensures in
    let row = row_first w.gates w.roster w.codes.now w.few w.inside s g least in
    let due = sound_due (wheel_agenda w.today w.gates w.roster w.codes.now) w.sound in
    let first = first_stands (table w.gates w.roster w.codes.now) w.gates w.today s due (sym w.soonest ∙ c.in_ok-tick.was) g (get_or w.codes.now (slot w.gates s g) 0) row.0 row.1 row.2 in
    ap (λ i. Some (entry s g (get_or w.codes.now i 0))) c.place.ensures.value ∙ sym first
