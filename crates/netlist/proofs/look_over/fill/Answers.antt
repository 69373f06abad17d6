use Rattle.std.proofs.Common.{◌≡◌, take, Some, None, refl, ◌∙◌}
use Rattle.std.proofs.lemmas.Result.{err_from_is_err_and}
use Rattle.netlist.specs.Checks.{verdict, nets_fault}
use Rattle.netlist.proofs.Sofar.{answer_ok, answer_err}
use Rattle.netlist.proofs.Accepted.{Read, read, facts, verdict_is, holds, net_driven}
use Rattle.netlist.proofs.look_over.fill.Goals as goal
use Rattle.netlist.proofs.look_over.fill.Goals.{In_ok-watches}

got : (c : In_ok-watches) → Read c.args.bytes.now c.in_ok-file.file.head c.in_ok-gates.gates c.in_ok-watches.watches
got c = let file = c.in_ok-file.file in read file.bytes.now c.in_ok-file.ensures.1 c.in_ok-file.ensures.0 file.read c.in_ok-gates.ensures c.in_ok-watches.ensures

pub returns-in_err-all_driven : goal.returns-in_err-all_driven
returns-in_err-all_driven c =
    let r = got (goal.at.returns-in_err-all_driven c).In_ok-watches in
    let p = err_from_is_err_and c.from_residual-in_err-all_driven.result c.from_residual-in_err-all_driven.ensures.1 in
    let v : verdict c.args.bytes.now ≡ Some c.in_err-all_driven.field-0.0 = verdict_is r ∙ answer_err _ tt _ c.in_err-all_driven.ensures in
    record {
      answers = rw (p.1, p.2, v);
      fills = rw v refl;
    }

pub invariant_of-place : goal.invariant_of-place
invariant_of-place c =
    let r = got (goal.at.invariant_of-place c).In_ok-watches in
    let x = facts r in
    let d = (answer_ok (nets_fault c.in_ok-file.file.head.ports (take c.in_ok-file.file.head.gates c.in_ok-gates.gates) c.in_ok-file.file.head.nets) tt _ c.in_ok-all_driven.ensures).0 in
    record {
      some = x.some;
      nets = x.nets;
      ports = x.ports;
      table = x.few;
      watched = x.watched;
      list = x.list;
      wide = x.wide;
      long = x.long;
      reads = λ g lt. ((x.good g lt).a_below, (x.good g lt).b_below);
      outs = λ g lt. (x.good g lt).out_below;
      unary = λ g lt. (x.good g lt).one_input;
      pulls = λ g lt k. ((x.good g lt).no_input k).0;
      quiet = λ g lt k. ((x.good g lt).no_input k).1;
      delays = λ g lt. ((x.good g lt).delay_low, (x.good g lt).delay_high);
      driven = net_driven c.in_ok-file.file.head.ports (take c.in_ok-file.file.head.gates c.in_ok-gates.gates) c.in_ok-file.file.head.nets d;
      below = x.below;
      rising = x.rising;
    }

pub returns : goal.returns
returns c =
    let r = got (goal.at.returns c).In_ok-watches in
    let d = (answer_ok (nets_fault c.in_ok-file.file.head.ports (take c.in_ok-file.file.head.gates c.in_ok-gates.gates) c.in_ok-file.file.head.nets) tt _ c.in_ok-all_driven.ensures).0 in
    let v : verdict c.args.bytes.now ≡ None = verdict_is r ∙ d in
    record {
      answers = rw v;
      fills = rw v (holds _ refl refl refl r);
    }
