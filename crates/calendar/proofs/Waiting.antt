-- The laws of every calendar's meaning. Assumes nothing.
use Rattle.std.proofs.Common.{◌≡◌, ℕ, zero, suc, ◌+◌, ◌<◌, ◌≤◌, Bool, true, false, cond, not, ◌&&◌, eqb, ltb, leb, List, [], ◌∷◌, length, get_or, set, Some, None, Option, sym, refl, ap, ◌∙◌, ⊎_elim, arith, length-set, get_or-set_other, get_or-set_same}
use Rattle.std.proofs.lemmas.Bool.Decides.{nat_tests}
use Rattle.std.proofs.lemmas.Bool.{and_parts, cond-false, cond-true, eqb-true, eqb-false, cases_Bool, cases_order, both_ways, leb-true, leb-false, ne_eqb, and_left, lt-ltb, or_left}
use Rattle.calendar.specs.Order.{placed}
use Rattle.calendar.specs.Agenda.{Agenda, before, rising, leads, slot_before, same_slot, before_tick, due, all_due, sound, put_refused, put_after, with_waiting, unless, first_tick}
use Rattle.calendar.specs.Table.{code_at, later}
use Rattle.calendar.specs.Laws.{Laws, at}
use Rattle.calendar.specs.Due.{applied, first_due_by, or_else}
use Rattle.calendar.specs.declared.entry.Entry.{Entry}
use Rattle.calendar.proofs.Faults.{put_alone}
use Rattle.calendar.proofs.Sound.{due_parts, sound_rising, sound_due, sound_room}
use Rattle.calendar.proofs.Tables.{lex2, code_at_placed, none_after, none_before, not_itself, first_code, past, same_table}

further : (a b x y t g : ℕ) → lex2 a b x y ≡ true → lex2 x y t g ≡ true → lex2 a b t g ≡ true
further a b x y t g h k = grind (arith, nat_tests)

apart : (a b x y : ℕ) → lex2 a b x y ≡ true → (eqb a x && eqb b y) ≡ false
apart a b x y h = grind (arith, nat_tests)

apart_back : (a b x y : ℕ) → lex2 x y a b ≡ true → (eqb a x && eqb b y) ≡ false
apart_back a b x y h = grind (arith, nat_tests)

leads_all : (x : Entry) (w : List Entry) → leads x w ≡ true → rising w ≡ true → (j : ℕ) → j < length w → slot_before x (at w j) ≡ true
leads_all x [] l r j h = absurd (omega arith)
leads_all x (y ∷ w) l r zero h = l
leads_all x (y ∷ w) l r (suc j) h =
    let p = and_parts (leads y w) (rising w) r in
    further x.tick x.gate y.tick y.gate (at w j).tick (at w j).gate l (leads_all y w p.0 p.1 j (omega arith))

in_order : (w : List Entry) → rising w ≡ true → (i j : ℕ) → i < j → j < length w → slot_before (at w i) (at w j) ≡ true
in_order [] r i j h k = absurd (omega arith)
in_order (x ∷ w) r i zero h k = absurd (omega arith)
in_order (x ∷ w) r zero (suc j) h k = leads_all x w (and_parts (leads x w) (rising w) r).0 (and_parts (leads x w) (rising w) r).1 j (omega arith)
in_order (x ∷ w) r (suc i) (suc j) h k = in_order w (and_parts (leads x w) (rising w) r).1 i j (omega arith) (omega arith)

one_place : (w : List Entry) → rising w ≡ true → (i j : ℕ) → i < length w → j < length w → same_slot (at w i) (at w j) ≡ true → i ≡ j
one_place w r i j h k e = ⊎_elim (λ s. s) (⊎_elim
    (λ s. absurd (both_ways (same_slot (at w i) (at w j)) (apart (at w i).tick (at w i).gate (at w j).tick (at w j).gate (in_order w r i j s k)) e))
    (λ s. absurd (both_ways (same_slot (at w i) (at w j)) (apart_back (at w i).tick (at w i).gate (at w j).tick (at w j).gate (in_order w r j i s h)) e)))
    (cases_order i j)

in_time : (t g : ℕ) (w : List Entry) → all_due t g w ≡ true → (i : ℕ) → i < length w → (t ≤ (at w i).tick) × ((at w i).tick ≤ t + 64) × ((at w i).gate < g)
in_time t g [] d i h = absurd (omega arith)
in_time t g (x ∷ w) d zero h = due_parts t g x (and_parts (due t g x) (all_due t g w) d).0
in_time t g (x ∷ w) d (suc i) h = in_time t g w (and_parts (due t g x) (all_due t g w) d).1 i (omega arith)

put_table : (a : Agenda) (e : Entry) → put_refused a e ≡ None → (t g : ℕ) → code_at t g (put_after a e).waiting ≡ cond (eqb e.tick t && eqb e.gate g) (Some e.code) (code_at t g a.waiting)
put_table a e h t g = ap (λ o. code_at t g (unless o a (with_waiting a (placed before e a.waiting))).waiting) h ∙ code_at_placed t g e a.waiting (put_alone a e h)

pub take_table : (e : Entry) (w : List Entry) → rising (e ∷ w) ≡ true → (t g : ℕ) → code_at t g w ≡ cond (eqb e.tick t && eqb e.gate g) None (code_at t g (e ∷ w))
take_table e w r t g = ⊎_elim
    (λ p. none_after t g e w (past e.tick e.gate t g p) (and_parts (leads e w) (rising w) r).0 (and_parts (leads e w) (rising w) r).1 ∙ sym (cond-true (eqb e.tick t && eqb e.gate g) None (code_at t g (e ∷ w)) p))
    (λ p. sym (cond-false (eqb e.tick t && eqb e.gate g) None (code_at t g (e ∷ w)) p ∙ cond-false (eqb e.tick t && eqb e.gate g) (Some e.code) (code_at t g w) p))
    (cases_Bool (eqb e.tick t && eqb e.gate g))

-- nothing waits before the first entry's tick
pub before_first : (x : Entry) (w : List Entry) → rising (x ∷ w) ≡ true → (t g : ℕ) → t < x.tick → code_at t g (x ∷ w) ≡ None
before_first x w r t g h = none_before t g x.tick x.gate (x ∷ w) (or_left (ltb t x.tick) (eqb t x.tick && ltb g x.gate) (lt-ltb t x.tick h)) (ap not (not_itself x.tick x.gate)) r

pub later_table : (n : ℕ) (w : List Entry) → rising w ≡ true → (t g : ℕ) → code_at t g (later n w) ≡ cond (leb t n) None (code_at t g w)
later_table n [] r t g = elim (leb t n) as (λ b. ◌≡◌ {A = Option ℕ} None (cond b None None)) [ true ↦ refl | false ↦ refl ]
later_table n (x ∷ w) r t g = by_tests (leb x.tick n) (leb t n) refl refl (later_table n w (and_parts (leads x w) (rising w) r).1 t g)
  where
    by_tests : (p q : Bool) → leb x.tick n ≡ p → leb t n ≡ q → code_at t g (later n w) ≡ cond (leb t n) None (code_at t g w) → code_at t g (cond p (later n w) (x ∷ w)) ≡ cond q None (code_at t g (x ∷ w))
    by_tests true true e f ih = ih ∙ cond-true (leb t n) None (code_at t g w) f
    by_tests true false e f ih =
        let a : x.tick ≤ n = leb-true x.tick n e in
        let b : n < t = leb-false t n f in
        ih ∙ cond-false (leb t n) None (code_at t g w) f ∙ sym (cond-false (eqb x.tick t && eqb x.gate g) (Some x.code) (code_at t g w) (and_left (eqb x.tick t) (eqb x.gate g) (ne_eqb x.tick t (λ s. omega arith))))
    by_tests false true e f ih =
        let a : n < x.tick = leb-false x.tick n e in
        let b : t ≤ n = leb-true t n f in
        before_first x w r t g (omega arith)
    by_tests false false e f ih = refl

next_code : (w : List Entry) (n : ℕ) → first_tick w ≡ Some n → (g : ℕ) × ((c : ℕ) × (code_at n g w ≡ Some c))
next_code [] n h = let z : ◌≡◌ {A = ℕ} 0 1 = cc in absurd (omega arith)
next_code (x ∷ w) n h = let same : x.tick ≡ n = cc in (x.gate, (x.code, ap (λ z. code_at z x.gate (x ∷ w)) (sym same) ∙ first_code x w))

next_least : (w : List Entry) (n : ℕ) → rising w ≡ true → first_tick w ≡ Some n → (t g : ℕ) → t < n → code_at t g w ≡ None
next_least [] n r h t g k = refl
next_least (x ∷ w) n r h t g k = let same : x.tick ≡ n = cc in before_first x w r t g (omega arith)

none_next : (w : List Entry) → first_tick w ≡ None → (t g : ℕ) → code_at t g w ≡ None
none_next [] h t g = refl
none_next (x ∷ w) h t g = let z : ◌≡◌ {A = ℕ} 0 1 = cc in absurd (omega arith)

pub laws : (a : Agenda) → sound a ≡ true → Laws a
laws a ok = record {
  ordered = in_order a.waiting (sound_rising a ok);
  once = one_place a.waiting (sound_rising a ok);
  timely = in_time a.today a.gates a.waiting (sound_due a ok);
  roomy = sound_room a ok;
  put_adds = put_table a;
  take_answers = λ e w is. ap (code_at e.tick e.gate) is ∙ first_code e w;
  take_removes = λ e w is t g. take_table e w (ap rising (sym is) ∙ sound_rising a ok) t g ∙ ap (λ z. cond (eqb e.tick t && eqb e.gate g) None (code_at t g z)) (sym is);
  drained = λ n t g. later_table n a.waiting (sound_rising a ok) t g;
  next_waits = next_code a.waiting;
  next_earliest = λ n h t g k. next_least a.waiting n (sound_rising a ok) h t g k;
  next_none = none_next a.waiting;
  told = λ b fine e. same_table a.waiting b.waiting (sound_rising a ok) (sound_rising b fine) e;
}

module _ (t g d : ℕ) where
  -- an entry of the tick is seen once, and a gate with none keeps its level
  pub seen : (l : List ℕ) (w : List Entry) → rising w ≡ true → before_tick w t ≡ false → g < length l → get_or (applied t l w) g d ≡ or_else (code_at t g w) (get_or l g d)
  seen l [] r b h = refl
  seen l (x ∷ w) r b h =
      ap (λ p. get_or (cond p (applied t (set l x.gate x.code) w) l) g d) (level x.tick b)
      ∙ by_test (eqb x.tick t) (eqb x.gate g) refl refl (λ k. seen (set l x.gate x.code) w (and_parts (leads x w) (rising w) r).1 k (simp length-set h))
    where
      level : (x : ℕ) → ltb x t ≡ false → leb x t ≡ eqb x t
      level x h = grind (arith, nat_tests)

      same : (x t y u : ℕ) → eqb x t ≡ true → eqb u y ≡ true → lex2 x u t y ≡ false
      same x t y u p q = grind (arith, nat_tests)

      beyond : (x t y u : ℕ) → eqb x t ≡ false → ltb x t ≡ false → lex2 x u t y ≡ false
      beyond x t y u p q = grind (arith, nat_tests)

      next : (w : List Entry) → eqb x.tick t ≡ true → leads x w ≡ true → before_tick w t ≡ false
      next [] e k = refl
      next (y ∷ w) e k = ticks x.tick x.gate y.tick y.gate e k
        where
          ticks : (a b c d : ℕ) → eqb a t ≡ true → lex2 a b c d ≡ true → ltb c t ≡ false
          ticks a b c d e f = grind (arith, nat_tests)

      by_test : (p q : Bool) → eqb x.tick t ≡ p → eqb x.gate g ≡ q
          → (before_tick w t ≡ false → get_or (applied t (set l x.gate x.code) w) g d ≡ or_else (code_at t g w) (get_or (set l x.gate x.code) g d))
          → get_or (cond p (applied t (set l x.gate x.code) w) l) g d ≡ or_else (cond (p && q) (Some x.code) (code_at t g w)) (get_or l g d)
      by_test true true e f ih =
          let here : x.gate ≡ g = eqb-true x.gate g f in
          let in' : x.gate < length l = omega arith in
          ih (next w e (and_parts (leads x w) (rising w) r).0)
          ∙ ap (λ o. or_else o (get_or (set l x.gate x.code) g d)) (none_after t g x w (same x.tick t g x.gate e f) (and_parts (leads x w) (rising w) r).0 (and_parts (leads x w) (rising w) r).1)
          ∙ ap (λ k. get_or (set l x.gate x.code) k d) (sym here) ∙ get_or-set_same l x.gate x.code d in'
      by_test true false e f ih = ih (next w e (and_parts (leads x w) (rising w) r).0) ∙ ap (or_else (code_at t g w)) (get_or-set_other l x.gate g x.code d (λ s. eqb-false x.gate g f (sym s)))
      by_test false q e f ih = sym (ap (λ o. or_else o (get_or l g d)) (none_after t g x w (beyond x.tick t g x.gate e b) (and_parts (leads x w) (rising w) r).0 (and_parts (leads x w) (rising w) r).1))

-- where nothing is due, nothing is taken
pub applied_none : (t : ℕ) (l : List ℕ) (w : List Entry) → first_due_by t w ≡ false → applied t l w ≡ l
applied_none t l [] h = refl
applied_none t l (x ∷ w) h = cond-false (leb x.tick t) (applied t (set l x.gate x.code) w) l h

pub later_none : (t : ℕ) (w : List Entry) → first_due_by t w ≡ false → later t w ≡ w
later_none t [] h = refl
later_none t (x ∷ w) h = cond-false (leb x.tick t) (later t w) (x ∷ w) h
