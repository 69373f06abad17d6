-- A board to work an example on: net 0 is a port, net 1 is its NOT with a delay of 2, and both are watched.
use Rattle.std.specs.Prelude.{List, [], ◌∷◌, true}
use Rattle.netlist.specs.Board.{Board}
use Rattle.netlist.specs.declared.gate.GateKind.TheVariants.{Not}
use Rattle.nine_values.specs.Nines.{nines}
use Rattle.nine_values.specs.declared.nine.Nine.{Nine}
use Rattle.signal.specs.Calls.{State, Call, drive, advance, opened, lived}

abbrev pub inverter : Board
inverter = record { nets = 2; ports = 1; gates = record { kind = Not; a = 0; b = 0; out = 1; delay = 2 } ∷ []; watches = 0 ∷ 1 ∷ [] }

-- A run of it on a fit calendar, after calls of which the latest stands first.
abbrev pub run_after : List Call → State Nine
run_after calls = lived nines inverter (opened nines true) calls

-- Port 0 is driven with 1, which has the code 3.
abbrev pub driven : State Nine
driven = run_after (drive 0 3 ∷ [])

-- Then the run advances by 4, with a trace buffer of 32 bytes.
abbrev pub moved : State Nine
moved = run_after (advance 4 32 ∷ drive 0 3 ∷ [])

-- Or it advances by 1, port 0 is driven with 0, and it advances by 3.
abbrev pub pulsed : State Nine
pulsed = run_after (advance 3 32 ∷ drive 0 2 ∷ advance 1 32 ∷ drive 0 3 ∷ [])
