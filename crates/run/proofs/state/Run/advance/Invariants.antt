use Rattle.std.proofs.Common.{◌≡◌, ◌+◌, ◌≤◌, true, length}
use Rattle.netlist.specs.Board.{Board}
use Rattle.signal.specs.Calls.{State}
use Rattle.run.specs.Calls.{Has}
use Rattle.run.proofs.Advances.{Going}
use Rattle.run.proofs.state.Run.advance.Given as goal

abbrev pub invariant-loop-done : goal.invariant-loop-done
invariant-loop-done g l =
    (l.end ≤ length l.out) × (l.self.ticks ≡ l.initial.self.ticks + l.done) × (l.self.wiring.net ≡ l.initial.self.wiring.net)
    × ((C : Board) (s : State g.row.F-Value.Denot) → s.fit ≡ true → Has g.F.Family g.C.Calendar C s l.initial.self → Going g.F.Family g.C.Calendar C s l.k l.initial.out l.done l.end l.out l.self)
