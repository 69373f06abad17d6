-- What planning puts into a calendar.
use Rattle.std.specs.Prelude.{ℕ, zero, suc, ◌+◌, cond, List, ◌==◌, slice_index_or}
use Rattle.netlist.specs.declared.gate.Gate.{Gate}
use Rattle.calendar.specs.Agenda.{Agenda, entry, put_after}
use Rattle.logic.specs.Logic.{Logic}
use Rattle.netlist.specs.Board.{Board}
use Rattle.netlist.specs.Kinds.{kind_number}
use Rattle.signal.specs.Circuit.{gate, operate}

module _ {V : Type 0} (L : Logic V) where
  -- what a gate gives on the levels of its inputs
  abbrev pub result_of : Gate → List V → V
  result_of g levels = operate L (kind_number g.kind) (slice_index_or levels g.a L.unset) (slice_index_or levels g.b L.unset)

  -- v put for a delay on, where it differs from what was planned last
  abbrev pub put_changed : ℕ → ℕ → ℕ → V → V → Agenda → Agenda
  put_changed d g t v was a = cond (L.code v == L.code was) a (put_after a (entry (t + d) g (L.code v)))

  module _ (C : Board) (levels : List V) where
    abbrev pub result_at : ℕ → V
    result_at g = result_of (gate C g) levels

    -- the gates below i, in file order
    abbrev pub plans : List V → ℕ → ℕ → Agenda → Agenda
    plans was t zero a = a
    plans was t (suc i) a = put_changed (gate C i).delay i t (result_at i) (slice_index_or was i L.unset) (plans was t i a)
