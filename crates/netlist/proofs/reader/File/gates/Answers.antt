use Rattle.std.proofs.Common.{◌≡◌, length, sym, ap, ◌∙◌, rules}
use Rattle.std.proofs.lemmas.Result.{err_from_is_err_and}
use Rattle.netlist.specs.File.{word, gate_no, gates_of}
use Rattle.netlist.specs.Checks.{gate_no_fault, gates_fault}
use Rattle.netlist.specs.Parts.{blank}
use Rattle.netlist.specs.declared.gate.Head.{Head}
use Rattle.netlist.proofs.Tables.{table_filled}
use Rattle.netlist.proofs.Sofar.{stopped, filled}
use Rattle.netlist.proofs.reader.File.gates.Goals as goal

pub returns-in_err-fill_table : goal.returns-in_err-fill_table
returns-in_err-fill_table c =
    let p = err_from_is_err_and c.from_residual.result c.from_residual.ensures.1 in
    let f = c.args.self.now.bytes.now in
    let count = ap (λ (h : Head). h.gates) c.args.self.now.read in
    let n : length c.fill_table.new.table ≡ word f 9 = search (rules, count) in
    let s = stopped (gate_no_fault f) (gate_no f) (word f 9) n c.in_err-fill_table.ensures.fills (λ k r lt m. search rules) in
    rw (p.1, p.2, s)

pub returns : goal.returns
returns c =
    let f = c.args.self.now.bytes.now in
    let count = ap (λ (h : Head). h.gates) c.args.self.now.read in
    let n : length c.fill_table.new.table ≡ word f 9 = search (rules, count) in
    let all = filled (gate_no_fault f) (gate_no f) (word f 9) n (rw n at c.in_ok-fill_table.ensures.fills) (λ k r lt m. search rules) in
    table_filled blank c.fill_table.new.table (gates_of f) c.args.self.now.head.gates (gates_fault f) all.0 all.1 (n ∙ sym count)
