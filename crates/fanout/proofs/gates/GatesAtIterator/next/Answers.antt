use Rattle.std.proofs.Common.{◌+◌, ◌<◌, length, ap, ◌∙◌, rules, arith}
use Rattle.netlist.specs.Looked.{contents}
use Rattle.netlist.proofs.Contents.{gate_count as gates-count}
use Rattle.fanout.specs.Seek.{net_at}
use Rattle.fanout.proofs.Chains.{found_gate, chain_more, named_entry}
use Rattle.fanout.proofs.gates.GatesAtIterator.next.Goals as goal

pub invariant_of-self : goal.invariant_of-self
invariant_of-self c =
    let s = c.args.self.now in
    let net = s.wiring.now.net in
    let C = contents net in
    let g = c.in_ok-g.g in
    let count = gates-count net in
    let lt : g < net.head.gates = s.inside g c.in_ok-g.was in
    record { inside = λ h e. let f = found_gate C s.pin (net_at C s.pin g) (g + 1) (omega (arith, count)) _ (c.named-self.ensures ∙ named_entry C s.pin (net_at C s.pin g) (g + 1) (omega (arith, count)) (omega (arith, count, net.table)) _ (c.chain.ensures.links g (omega (arith, count)))) h e in omega (arith, count, f) }

pub returns-clause-steps : goal.returns-clause-steps
returns-clause-steps c =
    let s = c.args.self.now in
    let net = s.wiring.now.net in
    let C = contents net in
    let g = c.in_ok-g.g in
    let count = gates-count net in
    let lt : g < net.head.gates = s.inside g c.in_ok-g.was in
    chain_more C s.pin s.at g c.in_ok-g.was (omega (arith, count)) _ (c.named-self.ensures ∙ named_entry C s.pin (net_at C s.pin g) (g + 1) (omega (arith, count)) (omega (arith, count, net.table)) _ (c.chain.ensures.links g (omega (arith, count))))

pub returns-clause-goes : goal.returns-clause-goes
returns-clause-goes c =
    let s = c.args.self.now in
    let net = s.wiring.now.net in
    let C = contents net in
    let g = c.in_ok-g.g in
    let count = gates-count net in
    let lt : g < net.head.gates = s.inside g c.in_ok-g.was in
    let shorter = ap length (chain_more C s.pin s.at g c.in_ok-g.was (omega (arith, count)) _ (c.named-self.ensures ∙ named_entry C s.pin (net_at C s.pin g) (g + 1) (omega (arith, count)) (omega (arith, count, net.table)) _ (c.chain.ensures.links g (omega (arith, count))))) in
    search rules
