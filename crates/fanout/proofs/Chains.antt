-- What stands in the chains. Assumes nothing.
use Rattle.std.proofs.Common.{◌≡◌, ℕ, zero, suc, ◌+◌, ◌-◌, ◌<◌, ◌≤◌, Bool, true, false, cond, eqb, ltb, List, [], ◌∷◌, length, get_or, set, replicate, Some, None, Option, IfSome, sym, refl, ap, ◌∙◌, ⊎_elim, arith, length-set, get_or-set_other, get_or-set_same}
use Rattle.std.specs.Bool.{then_some}
use Rattle.std.specs.List.{range_with_len, filter, find}
use Rattle.std.proofs.lemmas.List.{get_or-replicate, length-replicate}
use Rattle.std.proofs.lemmas.Bool.{lt-ltb, ltb-true, ltb-false, cond-true, cond-false, cases_eq, eq-eqb, ne_eqb, eqb-true, false≢true}
use Rattle.netlist.specs.Board.{Board}
use Rattle.signal.specs.Circuit.{gate_count}
use Rattle.fanout.specs.declared.pin.Pin.{Pin}
use Rattle.fanout.specs.Seek.{same_net, net_at, meets, numbers_from, named, entry_of}
use Rattle.fanout.specs.Left.{chain_from}

pub same-true : (o q : Option ℕ) → same_net o q ≡ true → o ≡ q
same-true (Some m) (Some n) e = ap Some (eqb-true m n e)
same-true (Some m) None e = absurd (false≢true e)
same-true None (Some n) e = absurd (false≢true e)
same-true None None e = refl

module _ (test : ℕ → Bool) where
  -- what a search finds, and those behind it
  abbrev listed : ℕ → Option ℕ → List ℕ
  listed count None = []
  listed count (Some g) = g ∷ filter test (range_with_len (g + 1) (count - (g + 1)))

  found : (i m count : ℕ) → i + m ≡ count → filter test (range_with_len i m) ≡ listed count (find test (range_with_len i m))
  found i zero count e = refl
  found i (suc m) count e = by (test i) (found (i + 1) m count (omega arith))
    where
      by : (b : Bool) → filter test (range_with_len (i + 1) m) ≡ listed count (find test (range_with_len (i + 1) m)) →
          cond b (i ∷ filter test (range_with_len (i + 1) m)) (filter test (range_with_len (i + 1) m)) ≡ listed count (cond b (Some i) (find test (range_with_len (i + 1) m)))
      by true ih = ap (λ k. i ∷ filter test (range_with_len (i + 1) k)) (omega arith)
      by false ih = ih

  pub found_inside : (i m g : ℕ) → find test (range_with_len i m) ≡ Some g → (g < i + m) × (test g ≡ true)
  found_inside i zero g e = cc
  found_inside i (suc m) g e = by (test i) refl e (found_inside (i + 1) m g)
    where
      by : (b : Bool) → test i ≡ b → cond b (Some i) (find test (range_with_len (i + 1) m)) ≡ Some g →
          (find test (range_with_len (i + 1) m) ≡ Some g → (g < i + 1 + m) × (test g ≡ true)) → (g < i + suc m) × (test g ≡ true)
      by true t e ih = let s : i ≡ g = cc in (omega arith, ap test (sym s) ∙ t)
      by false t e ih = let f = ih e in (omega (arith, f.0), f.1)

-- the walk from what a search finds is all that pass
pub chain_found : (C : Board) (p : Pin) (o : Option ℕ) (i : ℕ) → i ≤ gate_count C → (at : Option ℕ) → at ≡ find (meets C p o) (numbers_from C i) → chain_from C p at ≡ filter (meets C p o) (numbers_from C i)
chain_found C p o i le None e = sym (found (meets C p o) i (gate_count C - i) (gate_count C) (omega arith) ∙ ap (listed (meets C p o) (gate_count C)) (sym e))
chain_found C p o i le (Some g) e =
    ap (λ q. g ∷ filter (meets C p q) (numbers_from C (g + 1))) (same-true (net_at C p g) o (found_inside (meets C p o) i (gate_count C - i) g (sym e)).1)
    ∙ sym (found (meets C p o) i (gate_count C - i) (gate_count C) (omega arith) ∙ ap (listed (meets C p o) (gate_count C)) (sym e))

-- the first of those gates is a gate of the board
pub found_gate : (C : Board) (p : Pin) (o : Option ℕ) (i : ℕ) → i ≤ gate_count C → (at : Option ℕ) → at ≡ find (meets C p o) (numbers_from C i) → (g : ℕ) → at ≡ Some g → g < gate_count C
found_gate C p o i le at e g is = let f = found_inside (meets C p o) i (gate_count C - i) g (sym e ∙ is) in omega (arith, f.0)

-- one step of a walk
pub chain_more : (C : Board) (p : Pin) (at : Option ℕ) (g : ℕ) → at ≡ Some g → g < gate_count C → (next : Option ℕ) → next ≡ find (meets C p (net_at C p g)) (numbers_from C (g + 1)) → chain_from C p at ≡ g ∷ chain_from C p next
chain_more C p at g is lt next e = ap (chain_from C p) is ∙ ap (λ gs. g ∷ gs) (sym (chain_found C p (net_at C p g) (g + 1) (omega arith) next e))

pub chain_first : (C : Board) (p : Pin) (at : Option ℕ) (g : ℕ) (gs : List ℕ) → chain_from C p at ≡ g ∷ gs → at ≡ Some g
chain_first C p None g gs e = cc
chain_first C p (Some h) g gs e = let same : h ≡ g = cc in ap Some same

-- what an entry names is what was searched for
pub named_entry : (C : Board) (p : Pin) (o : Option ℕ) (i : ℕ) → i ≤ gate_count C → gate_count C ≤ 1024 → (e : ℕ) → e ≡ entry_of (find (meets C p o) (numbers_from C i)) → named e ≡ find (meets C p o) (numbers_from C i)
named_entry C p o i le fits e is = by (find (meets C p o) (numbers_from C i)) (λ g at. found_gate C p o i le (find (meets C p o) (numbers_from C i)) refl g at) is
  where
    by : (r : Option ℕ) → ((g : ℕ) → r ≡ Some g → g < gate_count C) → e ≡ entry_of r → named e ≡ r
    by None low e = ap named e
    by (Some g) low e = let lt = low g refl in ap named e ∙ ap (λ b. then_some b g) (lt-ltb g 1024 (omega arith))

-- the place of a net in a table of firsts
same_named : (n m : ℕ) → n ≤ 1024 → m ≤ 1024 → same_net (named n) (named m) ≡ eqb n m
same_named n m a b = by (ltb n 1024) refl (ltb m 1024) refl
  where
    by : (c : Bool) → ltb n 1024 ≡ c → (d : Bool) → ltb m 1024 ≡ d → same_net (then_some c n) (then_some d m) ≡ eqb n m
    by true p true q = refl
    by true p false q = let l = ltb-true n 1024 p in let h = ltb-false m 1024 q in sym (ne_eqb n m (λ e. omega arith))
    by false p true q = let l = ltb-true m 1024 q in let h = ltb-false n 1024 p in sym (ne_eqb n m (λ e. omega arith))
    by false p false q = let l = ltb-false n 1024 p in let h = ltb-false m 1024 q in sym (eq-eqb n m (omega arith))

-- the place of what a pin meets
pub place_of : (o : Option ℕ) → IfSome o (λ n. n < 1024) → (o ≡ named (entry_of o)) × (entry_of o ≤ 1024)
place_of None small = (refl, omega arith)
place_of (Some n) small = (ap (λ b. then_some b n) (sym (lt-ltb n 1024 small)), omega arith)

-- the chains of the gates from g on
pub record Linked (C : Board) (p : Pin) (g : ℕ) (first next : List ℕ) : Type 0 where
  pub long : length first ≡ 1025
  pub wide : length next ≡ 1024
  pub heads : (n : ℕ) → n ≤ 1024 → get_or first n 0 ≡ entry_of (find (meets C p (named n)) (numbers_from C g))
  pub links : (h : ℕ) → g ≤ h → h < gate_count C → get_or next h 0 ≡ entry_of (find (meets C p (net_at C p h)) (numbers_from C (h + 1)))

pub linked_none : (C : Board) (p : Pin) (g : ℕ) → g ≡ gate_count C → Linked C p g (replicate 1025 1024) (replicate 1024 1024)
linked_none C p g e = record {
  long = length-replicate {A = ℕ} 1025 1024;
  wide = length-replicate {A = ℕ} 1024 1024;
  heads = λ n h. get_or-replicate 1025 n 1024 0 (omega arith) ∙ sym (ap (λ k. entry_of (find (meets C p (named n)) (range_with_len g k))) (none g (gate_count C) e));
  links = λ h a b. absurd (omega arith);
}
  where
    none : (g k : ℕ) → g ≡ k → k - g ≡ 0
    none g k e = omega arith

module _ (C : Board) (p : Pin) (g : ℕ) (first next : List ℕ) (lt : g < gate_count C) (fits : gate_count C ≤ 1024) (l : Linked C p (g + 1) first next) where
  step : (o : Option ℕ) → find (meets C p o) (numbers_from C g) ≡ cond (meets C p o g) (Some g) (find (meets C p o) (numbers_from C (g + 1)))
  step o = ap (λ k. find (meets C p o) (range_with_len g k)) (one (gate_count C) g lt)
    where
      one : (c k : ℕ) → k < c → c - k ≡ suc (c - (k + 1))
      one c k h = omega arith

  pub linked_more : (n : ℕ) → n ≤ 1024 → net_at C p g ≡ named n → Linked C p g (set first n g) (set next g (get_or first n 0))
  linked_more n small e = record {
    long = length-set first n g ∙ l.long;
    wide = length-set next g (get_or first n 0) ∙ l.wide;
    heads = λ m h. ⊎_elim
        (λ same. ap (λ z. get_or (set first n g) z 0) same ∙ get_or-set_same first n g 0 (omega (arith, l.long))
        ∙ sym (ap entry_of (step (named m) ∙ cond-true (meets C p (named m) g) (Some g) (find (meets C p (named m)) (numbers_from C (g + 1))) (ap (λ o. same_net o (named m)) e ∙ same_named n m small h ∙ eq-eqb n m (sym same)))))
        (λ ne. get_or-set_other first n m g 0 ne ∙ l.heads m h
        ∙ sym (ap entry_of (step (named m) ∙ cond-false (meets C p (named m) g) (Some g) (find (meets C p (named m)) (numbers_from C (g + 1))) (ap (λ o. same_net o (named m)) e ∙ same_named n m small h ∙ ne_eqb n m (λ q. ne (sym q))))))
        (cases_eq m n);
    links = λ h a b. ⊎_elim
        (λ same. ap (λ z. get_or (set next g (get_or first n 0)) z 0) same ∙ get_or-set_same next g (get_or first n 0) 0 (omega (arith, l.wide)) ∙ l.heads n small
        ∙ ap (λ o. entry_of (find (meets C p o) (numbers_from C (g + 1)))) (sym e) ∙ ap (λ z. entry_of (find (meets C p (net_at C p z)) (numbers_from C (z + 1)))) (sym same))
        (λ ne. get_or-set_other next g h (get_or first n 0) 0 ne ∙ l.links h (omega arith) b)
        (cases_eq h g);
  }
