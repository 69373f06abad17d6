use Rattle.std.proofs.Common.{◌≡◌, length, sym, ap, ◌∙◌, rules}
use Rattle.std.proofs.lemmas.Result.{err_from_is_err_and}
use Rattle.netlist.specs.File.{word, watch_at, watches_of}
use Rattle.netlist.specs.Checks.{watch_fault, watches_fault}
use Rattle.netlist.specs.declared.gate.Head.{Head}
use Rattle.netlist.proofs.Tables.{table_filled}
use Rattle.netlist.proofs.Sofar.{stopped, filled}
use Rattle.netlist.proofs.reader.File.watches.Goals as goal

pub returns-in_err-fill_table : goal.returns-in_err-fill_table
returns-in_err-fill_table c =
    let p = err_from_is_err_and c.from_residual.result c.from_residual.ensures.1 in
    let f = c.args.self.now.bytes.now in
    let count = ap (λ (h : Head). h.watches) c.args.self.now.read in
    let n : length c.fill_table.new.table ≡ word f 11 = search (rules, count) in
    let s = stopped (watch_fault f) (watch_at f) (word f 11) n c.in_err-fill_table.ensures.fills (λ k r lt m. search rules) in
    rw (p.1, p.2, s)

pub returns : goal.returns
returns c =
    let f = c.args.self.now.bytes.now in
    let count = ap (λ (h : Head). h.watches) c.args.self.now.read in
    let n : length c.fill_table.new.table ≡ word f 11 = search (rules, count) in
    let all = filled (watch_fault f) (watch_at f) (word f 11) n (rw n at c.in_ok-fill_table.ensures.fills) (λ k r lt m. search rules) in
    table_filled 0 c.fill_table.new.table (watches_of f) c.args.self.now.head.watches (watches_fault f) all.0 all.1 (n ∙ sym count)
