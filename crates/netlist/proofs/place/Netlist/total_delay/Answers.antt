use Rattle.std.proofs.Common.{arith, rules, ◌^◌, ◌≤◌, length}
use Rattle.std.proofs.lemmas.Iterator.{YieldsList-from_slice}
use Rattle.std.proofs.lemmas.Iterator.Adapters.{fits_from_length, at_most_from_yields_List}
use Rattle.std.proofs.lemmas.Grind.{common_steps}
use Rattle.netlist.proofs.place.Netlist.total_delay.Goals as goal

-- at most 1,024 delays of 16 bits
pub sum-requires-clause-fits : goal.sum-requires-clause-fits
sum-requires-clause-fits c =
    let net = c.args.self.now in
    let few : length c.iter.result.rest.now ≤ 1024 = grind (arith, common_steps, net.table, net.wide, c.iter.ensures.len) in
    fits_from_length _ _ 1024 (2 ^ 32) (at_most_from_yields_List (YieldsList-from_slice c.iter.result.rest.now cc) few) c.map.ensures.closure (omega arith) (λ x r q k. search rules)
