-- What a place holds keeps the rules, whoever filled it. Assumes nothing.
use Rattle.std.proofs.Common.{◌≡◌, ℕ, ◌+◌, ◌<◌, ltb, length, get_or, sym, subst, inl, inr, ⊎_elim, arith}
use Rattle.std.proofs.lemmas.List.{length-take-le, get_or-take}
use Rattle.std.proofs.lemmas.Bool.{or_cases, ltb-true}
use Rattle.netlist.specs.Parts.{blank, is_output}
use Rattle.netlist.specs.Board.{Good, WellFormed}
use Rattle.netlist.specs.Looked.{contents}
use Rattle.netlist.specs.declared.place.Netlist.{Netlist}

module _ (n : Netlist) where
  pub gate_count : length (contents n).gates ≡ n.head.gates
  gate_count = length-take-le n.head.gates n.gates (omega (arith, n.table, n.wide))

  pub watch_count : length (contents n).watches ≡ n.head.watches
  watch_count = length-take-le n.head.watches n.watches (omega (arith, n.long, n.list, n.nets))

  pub gate_is : (g : ℕ) → g < n.head.gates → get_or (contents n).gates g blank ≡ get_or n.gates g blank
  gate_is g lt = get_or-take n.head.gates n.gates g blank lt

  pub watch_is : (i : ℕ) → i < n.head.watches → get_or (contents n).watches i 0 ≡ get_or n.watches i 0
  watch_is i lt = get_or-take n.head.watches n.watches i 0 lt

  good : (g : ℕ) → g < n.head.gates → Good n.head.nets (get_or n.gates g blank)
  good g lt = record {
    a_below = (n.reads g lt).0;
    b_below = (n.reads g lt).1;
    out_below = n.outs g lt;
    one_input = n.unary g lt;
    no_input = λ k. (n.pulls g lt k, n.quiet g lt k);
    delay_low = (n.delays g lt).0;
    delay_high = (n.delays g lt).1;
  }

  pub well_formed : WellFormed (contents n)
  well_formed = record {
    some = n.some;
    nets = n.nets;
    ports = n.ports;
    gates = omega (arith, gate_count, n.table);
    watched = omega (arith, watch_count, n.watched);
    watches = omega (arith, watch_count, n.list);
    good = λ g lt. let in-range : g < n.head.gates = omega (arith, gate_count) in subst (Good n.head.nets) (sym (gate_is g in-range)) (good g in-range);
    below = λ i lt. let in-range : i < n.head.watches = omega (arith, watch_count) in omega (arith, watch_is i in-range, n.below i in-range);
    rising = λ i lt.
        let next : i + 1 < n.head.watches = omega (arith, watch_count) in
        let here : i < n.head.watches = omega arith in
        omega (arith, watch_is i here, watch_is (i + 1) next, n.rising i next);
    driven = λ k lt. ⊎_elim (λ e. inl (ltb-true k n.head.ports e)) (λ e. inr e) (or_cases (ltb k n.head.ports) (is_output (contents n).gates k) (n.driven k lt));
  }
