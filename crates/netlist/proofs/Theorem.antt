-- Looking over accepts exactly the files of well-formed netlists. Assumes nothing.
use Rattle.std.proofs.Common.{◌≡◌, ℕ, ◌<◌, List, get_or, take, None, Result, sym, ap, ◌∙◌, subst}
use Rattle.std.proofs.lemmas.List.FromFn.{length-map-range_with_len}
use Rattle.std.proofs.lemmas.List.{take_at}
use Rattle.netlist.specs.Answers.{answer}
use Rattle.netlist.specs.File.{word, gates_of, watch_at, watches_of}
use Rattle.netlist.specs.Checks.{verdict}
use Rattle.netlist.specs.Board.{encoded, board_of}
use Rattle.netlist.specs.Looked.{Holds, After, contents, Exactly}
use Rattle.netlist.specs.declared.place.Netlist.{Netlist}
use Rattle.netlist.specs.declared.fault.NetlistFault.{NetlistFault}
use Rattle.netlist.proofs.Sofar.{answer_ok}
use Rattle.netlist.proofs.Accepted.{in_table}
use Rattle.netlist.proofs.Contents.{well_formed}
use Rattle.netlist.proofs.Exact.{exact}
use Rattle.netlist.proofs.Back.{same, accepted}

held : (f : List ℕ) (n : Netlist) → Holds f n → contents n ≡ board_of f
held f n h =
    let gates : take n.head.gates n.gates ≡ gates_of f = (λ i. take (h.head i).gates (h.gates i)) ∙ in_table f in
    let watches : take n.head.watches n.watches ≡ watches_of f = (λ i. take (h.head i).watches (h.watches i)) ∙ take_at (watches_of f) _ (word f 11) (length-map-range_with_len (watch_at f) 0 (word f 11)) in
    λ i. record { nets = (h.head i).nets; ports = (h.head i).ports; gates = gates i; watches = watches i }

pub exactly : (f : List ℕ) → ((i : ℕ) → get_or f i 0 < 256) → (before after : Netlist) (r : Result (Unit {0}) NetlistFault) → r ≡ answer (verdict f) tt → After f (verdict f) before after → Exactly f after r
exactly f byte before after r answers fills = record {
  every = λ b ok is.
      let none : verdict f ≡ None = ap verdict is ∙ accepted b ok in
      (answers ∙ ap (λ v. answer v tt) none, held f after (subst (λ v. After f v before after) none fills) ∙ ap board_of is ∙ same b);
  only = λ yes.
      let none = (answer_ok (verdict f) tt tt (sym yes ∙ answers)).0 in
      let c = held f after (subst (λ v. After f v before after) none fills) in
      (well_formed after, exact f none byte ∙ ap encoded (sym c));
  apart = λ b c ok fine e. sym (same b) ∙ ap board_of e ∙ same c;
}
