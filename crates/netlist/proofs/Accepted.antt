-- What no fault says of a netlist's parts. Assumes nothing.
use Rattle.std.proofs.Common.{◌≡◌, ℕ, ◌+◌, ◌-◌, ◌*◌, ◌<◌, ◌≤◌, true, ◌||◌, ltb, List, length, get_or, take, None, Ok, ◌∙◌, subst, arith}
use Rattle.std.proofs.lemmas.List.FromFn.{length-map-range_with_len}
use Rattle.std.proofs.lemmas.List.{take_at}
use Rattle.std.proofs.lemmas.Bool.Decides.{nat_tests}
use Rattle.netlist.specs.Parts.{table, blank, is_output}
use Rattle.netlist.specs.File.{word, gate_no, gate_offset, gates_of, watch_at, watches_of}
use Rattle.netlist.specs.Checks.{head_of, head_fault, gate_fault, gate_no_fault, gates_fault, net_fault, nets_fault, watch_fault, watches_fault, verdict}
use Rattle.netlist.specs.declared.gate.Gate.{Gate}
use Rattle.netlist.specs.declared.gate.Head.{Head}
use Rattle.netlist.specs.declared.place.Netlist.{Netlist}
use Rattle.netlist.specs.Board.{Good}
use Rattle.netlist.specs.Looked.{Holds}
use Rattle.netlist.specs.Answers.{answer}
use Rattle.netlist.proofs.Sofar.{answer_ok}
use Rattle.netlist.proofs.Firsts.{first_none}
use Rattle.netlist.proofs.Tables.{table_at, length_table}

pub record Counts (f : List ℕ) : Type 0 where
  pub some : 1 ≤ word f 5
  pub nets : word f 5 ≤ 1024
  pub ports : word f 7 ≤ word f 5
  pub gates : word f 9 ≤ 1024
  pub watched : 1 ≤ word f 11
  pub watches : word f 11 ≤ word f 5
  pub long : 13 + 9 * word f 9 + 2 * word f 11 ≡ length f

pub counts : (f : List ℕ) → head_fault f ≡ None → Counts f
counts f h = record { some = grind (arith, nat_tests); nets = grind (arith, nat_tests); ports = grind (arith, nat_tests); gates = grind (arith, nat_tests); watched = grind (arith, nat_tests); watches = grind (arith, nat_tests); long = grind (arith, nat_tests) }

pub good : (n at byte : ℕ) (g : Gate) → gate_fault n at byte g ≡ None → Good n g
good n at byte g h = record {
  a_below = grind (arith, nat_tests);
  b_below = grind (arith, nat_tests);
  out_below = grind (arith, nat_tests);
  one_input = λ k. grind (arith, nat_tests);
  no_input = λ k. (grind (arith, nat_tests), grind (arith, nat_tests));
  delay_low = grind (arith, nat_tests);
  delay_high = grind (arith, nat_tests);
}

pub in_table : (f : List ℕ) → take (word f 9) (table blank (gates_of f)) ≡ gates_of f
in_table f = take_at (gates_of f) _ (word f 9) (length-map-range_with_len (gate_no f) 0 (word f 9))

pub gate_good : (f : List ℕ) → gates_fault f ≡ None → (g : ℕ) → g < word f 9 → Good (word f 5) (get_or (table blank (gates_of f)) g blank)
gate_good f h g lt = rw (table_at blank (gate_no f) (word f 9) g lt) (good (word f 5) (gate_offset g) (get_or f (gate_offset g) 0) (gate_no f g) (first_none (gate_no_fault f) (word f 9) g h lt))

pub watch_below : (f : List ℕ) → watches_fault f ≡ None → (i : ℕ) → i < word f 11 → get_or (table 0 (watches_of f)) i 0 < word f 5
watch_below f h i lt =
    let none = first_none (watch_fault f) (word f 11) i h lt in
    rw (table_at 0 (watch_at f) (word f 11) i lt) (grind (arith, nat_tests))

pub watch_rising : (f : List ℕ) → watches_fault f ≡ None → (i : ℕ) → i + 1 < word f 11 → get_or (table 0 (watches_of f)) i 0 < get_or (table 0 (watches_of f)) (i + 1) 0
watch_rising f h i lt =
    let none = first_none (watch_fault f) (word f 11) (i + 1) h lt in
    let back : i + 1 - 1 ≡ i = omega arith in
    let here : i < word f 11 = omega arith in
    rw (table_at 0 (watch_at f) (word f 11) i here, table_at 0 (watch_at f) (word f 11) (i + 1) lt) (grind (arith, nat_tests, rw back at none))

pub net_driven : (p : ℕ) (gs : List Gate) (n : ℕ) → nets_fault p gs n ≡ None → (k : ℕ) → k < n → (ltb k p || is_output gs k) ≡ true
net_driven p gs n h k lt = let none = first_none (net_fault p gs) n k h lt in grind (arith, nat_tests)

-- what the four readers answered, where none of them refused
pub record Read (f : List ℕ) (h : Head) (gates : List Gate) (watches : List ℕ) : Type 0 where
  pub head_fine : head_fault f ≡ None
  pub head_is : h ≡ head_of f
  pub gates_fine : gates_fault f ≡ None
  pub gates_are : gates ≡ table blank (gates_of f)
  pub watches_fine : watches_fault f ≡ None
  pub watches_are : watches ≡ table 0 (watches_of f)

-- the invariant of a netlist
pub record Facts (h : Head) (gates : List Gate) (watches : List ℕ) : Type 0 where
  pub some : 1 ≤ h.nets
  pub nets : h.nets ≤ 1024
  pub ports : h.ports ≤ h.nets
  pub few : h.gates ≤ 1024
  pub watched : 1 ≤ h.watches
  pub list : h.watches ≤ h.nets
  pub wide : length gates ≡ 1024
  pub long : length watches ≡ 1024
  pub good : (g : ℕ) → g < h.gates → Good h.nets (get_or gates g blank)
  pub below : (i : ℕ) → i < h.watches → get_or watches i 0 < h.nets
  pub rising : (i : ℕ) → i + 1 < h.watches → get_or watches i 0 < get_or watches (i + 1) 0

module _ {f : List ℕ} {h : Head} {gates : List Gate} {watches : List ℕ} where
  -- g is the file as the readers have it
  pub read : (g : List ℕ) → g ≡ f → head_fault f ≡ None → h ≡ head_of g → Ok gates ≡ answer (gates_fault g) (table blank (gates_of g)) → Ok watches ≡ answer (watches_fault g) (table 0 (watches_of g)) → Read f h gates watches
  read g same none is b c =
      let y = answer_ok (gates_fault g) (table blank (gates_of g)) gates b in
      let z = answer_ok (watches_fault g) (table 0 (watches_of g)) watches c in
      subst (λ f. Read f h gates watches) same (record { head_fine = rw same none; head_is = is; gates_fine = y.0; gates_are = y.1; watches_fine = z.0; watches_are = z.1 })

  pub facts : Read f h gates watches → Facts h gates watches
  facts r =
      let n = counts f r.head_fine in
      let all : Facts (head_of f) (table blank (gates_of f)) (table 0 (watches_of f)) = record {
        some = n.some;
        nets = n.nets;
        ports = n.ports;
        few = n.gates;
        watched = n.watched;
        list = n.watches;
        wide = length_table blank (gate_no f) (word f 9) n.gates;
        long = length_table 0 (watch_at f) (word f 11) (omega (arith, n.watches, n.nets));
        good = gate_good f r.gates_fine;
        below = watch_below f r.watches_fine;
        rising = watch_rising f r.watches_fine;
      } in
      rw (r.head_is, r.gates_are, r.watches_are) all

  pub front : Read f h gates watches → take h.gates gates ≡ gates_of f
  front r = rw (r.head_is, r.gates_are) (in_table f)

  pub verdict_is : Read f h gates watches → verdict f ≡ nets_fault h.ports (take h.gates gates) h.nets
  verdict_is r =
      rw (front r, r.head_is, r.head_fine, r.gates_fine, r.watches_fine)

  pub holds : (n : Netlist) → n.head ≡ h → n.gates ≡ gates → n.watches ≡ watches → Read f h gates watches → Holds f n
  holds n a b c r = record { head = a ∙ r.head_is; gates = b ∙ r.gates_are; watches = c ∙ r.watches_are }
