-- The worked examples of the bench as one table of the definitions: a row is a field, and computing shows it.
use Rattle.std.specs.Prelude.{◌≡◌, true, [], ◌∷◌, map}
use Rattle.calendar.specs.Agenda.{entry}
use Rattle.netlist.specs.Board.{encoded}
use Rattle.nine_values.specs.Nines.{nines}
use Rattle.nine_values.specs.declared.nine.Nine.TheVariants.{U, X, Zero, One, Z, W, L, H, Dash}
use Rattle.pull_ranges.specs.Pulls.{pulls, pull, r00, r06, r33, r66, reading}
use Rattle.signal.specs.Calls.{advance, read, advanced, shows, refused, level, answer, drives, waiting_after}
use Rattle.examples.specs.Inverter.{inverter, driven, moved, pulsed}

pub record Examples : Type 0 where
  -- nine values
  pub and_u_0 : nines.and U Zero ≡ Zero
  pub resolve_0_1 : nines.resolve Zero One ≡ X
  pub resolve_l_h : nines.resolve L H ≡ W
  pub resolve_dash_z : nines.resolve Dash Z ≡ X
  pub tri_u_x : nines.tri U X ≡ U
  -- pull ranges, up before down
  pub resolve_0066_3300 : pulls.resolve (pull r00 r66) (pull r33 r00) ≡ pull r33 r66
  pub code_3366 : pulls.code (pull r33 r66) ≡ 1782
  pub reads_3366 : reading (pull r33 r66) ≡ Zero
  pub tri_6600_0000 : pulls.tri (pull r66 r00) (pull r00 r00) ≡ pull r06 r00
  -- the inverter: its file,
  pub file : encoded inverter
      ≡ 0x4E ∷ 0x4C ∷ 0x42 ∷ 0x00 ∷ 0x01 ∷ 0x00 ∷ 0x02 ∷ 0x00 ∷ 0x01 ∷ 0x00 ∷ 0x01 ∷ 0x00 ∷ 0x02
      ∷ 0x02 ∷ 0x00 ∷ 0x00 ∷ 0x00 ∷ 0x00 ∷ 0x00 ∷ 0x01 ∷ 0x00 ∷ 0x02 ∷ 0x00 ∷ 0x00 ∷ 0x00 ∷ 0x01 ∷ []
  -- its levels once port 0 is driven with 1: N(1, 1) = U and N(1, 2) = 0,
  pub level_1_1 : level nines inverter driven 1 1 ≡ U
  pub level_1_2 : level nines inverter driven 1 2 ≡ Zero
  -- what its gate drives: D(0, 1) = U and D(0, 2) = 0,
  pub drives_0_1 : drives nines inverter driven 0 1 ≡ U
  pub drives_0_2 : drives nines inverter driven 0 2 ≡ Zero
  -- the gate's change that waits after tick 0,
  pub waits : waiting_after nines inverter driven 0 ≡ entry 2 0 2 ∷ []
  -- advance by 4 with 32, 24 and 15 bytes,
  pub advance_32 : answer nines inverter driven (advance 4 32) ≡ advanced 4 (0 ∷ 0 ∷ 0 ∷ 0 ∷ 0 ∷ 0 ∷ 0 ∷ 3 ∷ 0 ∷ 0 ∷ 0 ∷ 2 ∷ 0 ∷ 1 ∷ 0 ∷ 2 ∷ [])
  pub advance_24 : answer nines inverter driven (advance 4 24) ≡ advanced 3 (0 ∷ 0 ∷ 0 ∷ 0 ∷ 0 ∷ 0 ∷ 0 ∷ 3 ∷ 0 ∷ 0 ∷ 0 ∷ 2 ∷ 0 ∷ 1 ∷ 0 ∷ 2 ∷ [])
  pub advance_15 : answer nines inverter driven (advance 4 15) ≡ refused 21 0
  -- what read then answers, of net 1 and of a net that is not there,
  pub read_1 : answer nines inverter moved (read 1) ≡ shows 2 true
  pub read_9 : answer nines inverter moved (read 9) ≡ refused 22 4
  -- and two changes of the one gate that wait at once, neither of which cancels the other: net 1 shows both.
  pub waits_both : waiting_after nines inverter pulsed 1 ≡ entry 2 0 2 ∷ entry 3 0 3 ∷ []
  pub shows_both : map (level nines inverter pulsed 1) (0 ∷ 1 ∷ 2 ∷ 3 ∷ []) ≡ U ∷ U ∷ Zero ∷ One ∷ []
