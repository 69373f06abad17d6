use Rattle.std.proofs.Common.{◌≡◌, true, false, rules}
use Rattle.std.proofs.lemmas.Iterator.{first_from_Range}
use Rattle.netlist.specs.Parts.{is_output}
use Rattle.netlist.proofs.Firsts.{undriven_found, undriven_none}
use borrow.Author.Tests.{tests}
use Rattle.netlist.proofs.reader.all_driven.Goals as goal

pub returns-in-Some : goal.returns-in-Some
returns-in-Some c =
    let first = first_from_Range _ _ _ _ (λ n. is_output c.args.gates.now n ≡ false) (λ n. is_output c.args.gates.now n ≡ true) c.find.ensures.ran (λ x q k. search (rules, tests)) (λ x q k. search (rules, tests)) in
    let found = rw c.in-Some.is at first in
    rw (undriven_found c.args.ports c.args.gates.now c.args.nets c.in-Some.net found.0 found.1 found.2 found.3)

pub returns-in-None : goal.returns-in-None
returns-in-None c =
    let first = first_from_Range _ _ _ _ (λ n. is_output c.args.gates.now n ≡ false) (λ n. is_output c.args.gates.now n ≡ true) c.find.ensures.ran (λ x q k. search (rules, tests)) (λ x q k. search (rules, tests)) in
    rw (undriven_none c.args.ports c.args.gates.now c.args.nets (rw c.in-None.is at first))
