use Rattle.std.proofs.Common.{Some, ◌∙◌, arith}
use Rattle.netlist.specs.Looked.{contents}
use Rattle.netlist.proofs.Contents.{gate_count as gates-count}
use Rattle.fanout.proofs.Chains.{found_gate, chain_found, named_entry}
use Rattle.fanout.proofs.wiring.Wiring.gates_at.Goals as goal

pub invariant_of-result : goal.invariant_of-result
invariant_of-result c =
    let net = c.args.self.now.net in
    let count = gates-count net in
    record { inside = λ g e. let f = found_gate (contents net) c.args.pin (Some c.args.n) 0 (omega arith) _ (c.named.ensures ∙ named_entry (contents net) c.args.pin (Some c.args.n) 0 (omega arith) (omega (arith, count, net.table)) _ (c.chain.ensures.heads c.args.n c.requires)) g e in omega (arith, count, f) }

pub returns : goal.returns
returns c =
    let net = c.args.self.now.net in
    let count = gates-count net in
    chain_found (contents net) c.args.pin (Some c.args.n) 0 (omega arith) _ (c.named.ensures ∙ named_entry (contents net) c.args.pin (Some c.args.n) 0 (omega arith) (omega (arith, count, net.table)) _ (c.chain.ensures.heads c.args.n c.requires))
