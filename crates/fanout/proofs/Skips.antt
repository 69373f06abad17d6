-- Planning passes over a gate that has planned what it gives.
use Rattle.std.proofs.Common.{◌≡◌, ℕ, zero, suc, ◌+◌, ◌-◌, ◌<◌, ◌≤◌, min, false, cond, eqb, List, length, get_or, set, Some, None, sym, refl, ap, ◌∙◌, ⊎_elim, add-zero, arith, length-set, get_or-set_other, get_or-set_same}
use Rattle.std.proofs.lemmas.Bool.{eq-eqb, cases_eq}
use Rattle.calendar.specs.Agenda.{Agenda, entry, put_after}
use Rattle.logic.specs.Logic.{Logic}
use Rattle.netlist.specs.Board.{Board}
use Rattle.number_set.specs.Members.{member, Least}
use Rattle.signal.specs.Circuit.{gate, gate_count}
use Rattle.tick.specs.Plans.{result_at, plans, put_changed}
use Rattle.fanout.specs.Seek.{Idle}
use Rattle.fanout.proofs.Sweeps.{low, low_under, low_none, low_some, low_more, out_other}

module _ {V : Type 0} (L : Logic V) (C : Board) (levels was : List V) (t : ℕ) (a : Agenda) where
  abbrev upto : ℕ → Agenda
  upto i = plans L C levels was t i a

  skip : (i m : ℕ) → ((h : ℕ) → i ≤ h → h < i + m → get_or was h L.unset ≡ result_at L C levels h) → upto (i + m) ≡ upto i
  skip i zero f = ap upto (add-zero i)
  skip i (suc m) f =
      ap upto (assoc i m)
      ∙ ap (λ b. cond b (upto (i + m)) (put_after (upto (i + m)) (entry (t + (gate C (i + m)).delay) (i + m) (L.code (result_at L C levels (i + m))))))
      (eq-eqb (L.code (result_at L C levels (i + m))) (L.code (get_or was (i + m) L.unset)) (ap L.code (sym (f (i + m) (omega arith) (omega arith)))))
      ∙ skip i m (λ h p q. f h p (omega arith))
    where
      assoc : (i m : ℕ) → i + suc m ≡ suc (i + m)
      assoc i m = omega arith

  skip_to : (i p : ℕ) → i ≤ p → ((h : ℕ) → i ≤ h → h < p → get_or was h L.unset ≡ result_at L C levels h) → upto p ≡ upto i
  skip_to i p le f = ap upto (sym (back i p le)) ∙ skip i (p - i) (λ h x y. f h x (omega arith))
    where
      back : (i p : ℕ) → i ≤ p → i + (p - i) ≡ p
      back i p h = omega arith

  -- the gates of the set `marks` that were taken have planned, and what waits is as if all below the least that is left had
  pub record Done (marks words : List ℕ) (planned : List V) (b : Agenda) : Type 0 where
    pub long : length planned ≡ length was
    pub ahead : (h : ℕ) → h < 1024 → low words ≤ h → member words h ≡ member marks h
    pub rest : (h : ℕ) → low words ≤ h → get_or planned h L.unset ≡ get_or was h L.unset
    pub past : (h : ℕ) → gate_count C ≤ h → get_or planned h L.unset ≡ get_or was h L.unset
    pub idle : Idle L C levels was marks → Idle L C levels planned words
    pub agenda : Idle L C levels was marks → b ≡ upto (min (low words) (gate_count C))

  module _ (marks : List ℕ) (fits : gate_count C ≤ 1024) where
    pub done_none : Done marks marks was a
    done_none = record {
      long = refl;
      ahead = λ h lt le. refl;
      rest = λ h le. refl;
      past = λ h le. refl;
      idle = λ idle. idle;
      agenda = λ idle. sym (skip_to 0 (min (low marks) (gate_count C)) (omega arith) (λ h _ lt. idle h (omega arith) (low_under marks h (omega arith))));
    }

    pub done_all : (words : List ℕ) (planned : List V) (b : Agenda) → Done marks words planned b → Least words None → Idle L C levels was marks →
        (b ≡ upto (gate_count C)) × ((h : ℕ) → h < gate_count C → get_or planned h L.unset ≡ result_at L C levels h)
    done_all words planned b d none idle =
        let end : min (low words) (gate_count C) ≡ gate_count C = omega (arith, low_none words none) in
        (d.agenda idle ∙ ap upto end, λ h lt. d.idle idle h lt (none h (omega arith)))

    module _ (words : List ℕ) (planned : List V) (b : Agenda) (d : Done marks words planned b) (g : ℕ) (first : Least words (Some g)) (words' : List ℕ) (sets : (m : ℕ) → m < 1024 → member words' m ≡ cond (eqb m g) false (member words m)) where
      at-least : low words ≡ g
      at-least = low_some words g first

      more : g < low words'
      more = low_more words g first words' sets

      other : (h : ℕ) → h < 1024 → (h ≡ g → ⊥) → member words' h ≡ member words h
      other = out_other words g first words' sets

      still_ahead : (h : ℕ) → h < 1024 → low words' ≤ h → member words' h ≡ member marks h
      still_ahead h lt le = other h lt (λ e. omega (arith, more)) ∙ d.ahead h lt (omega (arith, at-least, more))

      -- none of the gates from behind g to the least that is left stands in the set
      still : Idle L C levels was marks → (h : ℕ) → g + 1 ≤ h → h < min (low words') (gate_count C) → get_or was h L.unset ≡ result_at L C levels h
      still idle h x y =
          idle h (omega arith) (sym (d.ahead h (omega arith) (omega (arith, at-least))) ∙ sym (other h (omega arith) (λ e. omega arith)) ∙ low_under words' h (omega arith))

      pub done_past : gate_count C ≤ g → (planned' : List V) (b' : Agenda) → planned' ≡ planned → b' ≡ b → Done marks words' planned' b'
      done_past ge planned' b' p q = record {
        long = ap length p ∙ d.long;
        ahead = still_ahead;
        rest = λ h le. ap (λ l. get_or l h L.unset) p ∙ d.rest h (omega (arith, at-least, more));
        past = λ h le. ap (λ l. get_or l h L.unset) p ∙ d.past h le;
        idle = λ idle h lt off. ap (λ l. get_or l h L.unset) p ∙ d.idle idle h lt (sym (other h (omega arith) (λ e. omega arith)) ∙ off);
        agenda = λ idle. q ∙ d.agenda idle ∙ ap upto same;
      }
        where
          same : min (low words) (gate_count C) ≡ min (low words') (gate_count C)
          same = omega (arith, at-least, more)

      pub done_more : g < gate_count C → length planned ≡ 1024 → (planned' : List V) (b' : Agenda) → planned' ≡ set planned g (result_at L C levels g) →
          b' ≡ put_changed L (gate C g).delay g t (result_at L C levels g) (get_or planned g L.unset) b → Done marks words' planned' b'
      done_more lt wide planned' b' p q =
          let R = result_at L C levels g in
          let e : min (low words) (gate_count C) ≡ g = omega (arith, at-least) in
          let one : suc g ≡ g + 1 = omega arith in
          record {
            long = ap length p ∙ length-set planned g R ∙ d.long;
            ahead = still_ahead;
            rest = λ h le. ap (λ l. get_or l h L.unset) p ∙ get_or-set_other planned g h R L.unset (λ same. omega (arith, more)) ∙ d.rest h (omega (arith, at-least, more));
            past = λ h le. ap (λ l. get_or l h L.unset) p ∙ get_or-set_other planned g h R L.unset (λ same. omega arith) ∙ d.past h le;
            idle = λ idle h low off. ap (λ l. get_or l h L.unset) p ∙ ⊎_elim
                (λ same. ap (λ z. get_or (set planned g R) z L.unset) same ∙ get_or-set_same planned g R L.unset (omega (arith, first.0)) ∙ ap (result_at L C levels) (sym same))
                (λ ne. get_or-set_other planned g h R L.unset ne ∙ d.idle idle h low (sym (other h (omega arith) ne) ∙ off))
                (cases_eq h g);
            agenda = λ idle.
                q ∙ (λ i. put_changed L (gate C g).delay g t R (d.rest g (omega (arith, at-least)) i) ((d.agenda idle ∙ ap upto e) i))
                ∙ ap upto one ∙ sym (skip_to (g + 1) (min (low words') (gate_count C)) (omega (arith, more)) (still idle));
          }
