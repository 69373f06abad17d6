use Rattle.std.proofs.Common.{◌≡◌, length}
use Rattle.netlist.specs.Tables.{FilledTo}
use Rattle.netlist.proofs.reader.fill_table.Given as goal

abbrev pub invariant-loop-i : goal.invariant-loop-i
invariant-loop-i g l = (length l.table ≡ length l.initial.table) × FilledTo (goal.F-post g l.entry) l.table l.i
