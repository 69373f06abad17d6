-- What a table with one code changed lists, and what a turn leaves. Assumes nothing.
use Rattle.std.proofs.Common.{◌≡◌, ℕ, zero, suc, ◌+◌, ◌-◌, ◌*◌, ◌%◌, ◌<◌, ◌≤◌, Bool, true, false, cond, ◌&&◌, ◌||◌, eqb, ltb, leb, min, List, [], ◌∷◌, length, get_or, set, replicate, Some, None, Ok, Option, sym, refl, ap, ◌∙◌, ⊎_elim, arith}
use Rattle.std.specs.Prelude.{is_some}
use Rattle.std.specs.Option.{option_map_or}
use Rattle.std.proofs.lemmas.Bool.Decides.{nat_tests}
use Rattle.std.proofs.lemmas.Bool.{and_parts, and_left, cond-false, cases_eq, cases_lt, eq-eqb, ne_eqb, leb-false, ltb-false}
use Rattle.calendar.specs.Order.{placed}
use Rattle.calendar.specs.Agenda.{Agenda, before, entry, waits, rising, leads, before_tick, first, first_tick, due, all_due, put_answer, put_after, with_waiting, outcome, unless}
use Rattle.calendar.specs.Table.{code_at, rows, slot}
use Rattle.calendar.specs.declared.entry.Entry.{Entry}
use Rattle.calendar.specs.declared.entry.Reason.TheVariants.{NoGate, BadTick, Twice, Full}
use Rattle.calendar.proofs.Entries.{lex}
use Rattle.calendar.proofs.Faults.{put_stands}
use Rattle.calendar.proofs.Sound.{rising_placed, due_parts}
use Rattle.calendar.proofs.Tables.{same_table, code_at_placed, rows_rise, rows_at, rows_gate, rows_out, none_before, rows_none, rows_found, waits_none, waits_some, first_code, one_tick, round, sooner, begins}
use Rattle.calendar.proofs.Waiting.{take_table, before_first}
use Rattle.number_set.specs.Members.{Numbers, member}
use Rattle.wheel.specs.Roster.{present, FirstWait}
use Rattle.wheel.specs.Rings.{table, wheel_agenda, Inside}
use Rattle.wheel.proofs.Rings.{There, put_there, removed, row_empty, row_first}
use Rattle.wheel.proofs.Rosters.{no_match}

eq_sym : (a b : ℕ) → eqb a b ≡ eqb b a
eq_sym a b = grind (arith, nat_tests)

module _ (f f' : ℕ → ℕ → Option ℕ) (G today t g : ℕ) (in-gates : g < G) (low : today ≤ t) (high : t < today + 65) where
  -- in 65 ticks in a row, the row of t and the gate g are one entry
  one_entry : (u h : ℕ) → today ≤ u → u < today + 65 → (eqb (u % 65) (t % 65) && eqb h g) ≡ (eqb t u && eqb g h)
  one_entry u h p q = ⊎_elim
      (λ e. ap (λ b. b && eqb h g) (eq-eqb (u % 65) (t % 65) (ap (λ z. z % 65) e)) ∙ eq_sym h g ∙ sym (ap (λ b. b && eqb g h) (eq-eqb t u (sym e))))
      (λ n. and_left (eqb (u % 65) (t % 65)) (eqb h g) (ne_eqb (u % 65) (t % 65) (λ e. n (one_tick today u t e p q low high))) ∙ sym (and_left (eqb t u) (eqb g h) (ne_eqb t u (λ e. n (sym e)))))
      (cases_eq u t)

  module _ (o : Option ℕ) (changed : (u h : ℕ) → h < G → f' u h ≡ cond (eqb (u % 65) (t % 65) && eqb h g) o (f u h)) where
    outside : (u h : ℕ) → ((u ≡ t) × (h ≡ g) → ⊥) → code_at u h (rows f today 65 G) ≡ None → code_at u h (rows f' today 65 G) ≡ None → code_at u h (rows f' today 65 G) ≡ cond (eqb t u && eqb g h) o (code_at u h (rows f today 65 G))
    outside u h n old new = new ∙ sym (cond-false (eqb t u && eqb g h) o (code_at u h (rows f today 65 G)) (no_match t g u h (λ m. n (sym m.0, sym m.1))) ∙ old)

    changed_list : (u h : ℕ) → code_at u h (rows f' today 65 G) ≡ cond (eqb t u && eqb g h) o (code_at u h (rows f today 65 G))
    changed_list u h = ⊎_elim
        (λ k. ⊎_elim
        (λ p. outside u h (λ m. omega arith) (rows_out f today 65 G u h (λ a b. omega arith)) (rows_out f' today 65 G u h (λ a b. omega arith)))
        (λ p. ⊎_elim
        (λ q. rows_at f' today 65 G u h p q k ∙ changed u h k ∙ ap (λ b. cond b o (f u h)) (one_entry u h p q) ∙ ap (cond (eqb t u && eqb g h) o) (sym (rows_at f today 65 G u h p q k)))
        (λ q. outside u h (λ m. omega arith) (rows_out f today 65 G u h (λ a b. omega arith)) (rows_out f' today 65 G u h (λ a b. omega arith)))
        (cases_lt u (today + 65)))
        (cases_lt u today))
        (λ k. outside u h (λ m. omega arith) (rows_gate f today 65 G u h k) (rows_gate f' today 65 G u h k))
        (cases_lt h G)

  pub waits_where : (c : ℕ) → waits (entry t g c) (rows f today 65 G) ≡ is_some (f t g)
  waits_where c = by_code (f t g) refl
    where
      by_code : (o : Option ℕ) → f t g ≡ o → waits (entry t g c) (rows f today 65 G) ≡ is_some o
      by_code None e = waits_none (entry t g c) (rows f today 65 G) (rows_at f today 65 G t g low high in-gates ∙ e)
      by_code (Some d) e = waits_some (entry t g c) d (rows f today 65 G) (rows_at f today 65 G t g low high in-gates ∙ e)

  pub put_rows : (c : ℕ) → waits (entry t g c) (rows f today 65 G) ≡ false → ((u h : ℕ) → h < G → f' u h ≡ cond (eqb (u % 65) (t % 65) && eqb h g) (Some c) (f u h)) → rows f' today 65 G ≡ placed before (entry t g c) (rows f today 65 G)
  put_rows c alone changed = same_table _ _ (rows_rise f' today 65 G).0 (rising_placed (entry t g c) (rows f today 65 G) alone (rows_rise f today 65 G).0)
      (λ u h. changed_list (Some c) changed u h ∙ sym (code_at_placed u h (entry t g c) (rows f today 65 G) alone))

  -- the first entry taken out
  pub take_rows : (c : ℕ) (w : List Entry) → rows f today 65 G ≡ entry t g c ∷ w → ((u h : ℕ) → h < G → f' u h ≡ cond (eqb (u % 65) (t % 65) && eqb h g) None (f u h)) → rows f' today 65 G ≡ w
  take_rows c w is changed =
      let rise : rising (entry t g c ∷ w) ≡ true = ap rising (sym is) ∙ (rows_rise f today 65 G).0 in
      same_table _ _ (rows_rise f' today 65 G).0 (and_parts (leads (entry t g c) w) (rising w) rise).1
      (λ u h. changed_list None changed u h ∙ ap (λ z. cond (eqb t u && eqb g h) None (code_at u h z)) is ∙ sym (take_table (entry t g c) w rise u h))

-- a turn past ticks that nothing waits for
module _ (f : ℕ → ℕ → Option ℕ) (around : (u v h : ℕ) → u % 65 ≡ v % 65 → f u h ≡ f v h) (G today t : ℕ) (later : today ≤ t) (none : before_tick (rows f today 65 G) t ≡ false) where
  empty : (u h : ℕ) → u < t → code_at u h (rows f today 65 G) ≡ None
  empty u h l = none_before u h t 0 (rows f today 65 G) (sooner u h t l) (begins (rows f today 65 G) t none) (rows_rise f today 65 G).0

  wrapped : (u h : ℕ) → h < G → today + 65 ≤ u → u < t + 65 → f u h ≡ None
  wrapped u h k p q =
      let v : ℕ = today + (u - today) % 65 in
      around u v h (round today u (omega arith)) ∙ sym (rows_at f today 65 G v h (omega arith) (omega arith) k) ∙ empty v h (omega arith)

  turned_list : (u h : ℕ) → code_at u h (rows f t 65 G) ≡ code_at u h (rows f today 65 G)
  turned_list u h = ⊎_elim
      (λ k. ⊎_elim
      (λ p. rows_out f t 65 G u h (λ a b. omega arith) ∙ sym (empty u h p))
      (λ p. ⊎_elim
      (λ q. ⊎_elim
      (λ r. rows_at f t 65 G u h p q k ∙ sym (rows_at f today 65 G u h (omega arith) r k))
      (λ r. rows_at f t 65 G u h p q k ∙ wrapped u h k r q ∙ sym (rows_out f today 65 G u h (λ a b. omega arith)))
      (cases_lt u (today + 65)))
      (λ q. rows_out f t 65 G u h (λ a b. omega arith) ∙ sym (rows_out f today 65 G u h (λ a b. omega arith)))
      (cases_lt u (t + 65)))
      (cases_lt u t))
      (λ k. rows_gate f t 65 G u h k ∙ sym (rows_gate f today 65 G u h k))
      (cases_lt h G)

  pub turn_rows : rows f t 65 G ≡ rows f today 65 G
  turn_rows = same_table _ _ (rows_rise f t 65 G).0 (rows_rise f today 65 G).0 turned_list

pub around : (G : ℕ) (ws : List Numbers) (codes : List ℕ) (u v h : ℕ) → u % 65 ≡ v % 65 → table G ws codes u h ≡ table G ws codes v h
around G ws codes u v h e = ap (λ z. cond (present ws z h) (Some (get_or codes (z * G + h) 0)) None) e

-- ---- a new wheel

zeros : (s : Numbers) (n r : ℕ) → ((m : ℕ) → m < 1024 → member s.words m ≡ false) → (g : ℕ) → g < 1024 → present (replicate n s) r g ≡ false
zeros s zero r none g h = refl
zeros s (suc n) zero none g h = none g h
zeros s (suc n) (suc r) none g h = zeros s n r none g h

module _ (s : Numbers) (none : (m : ℕ) → m < 1024 → member s.words m ≡ false) (G : ℕ) (few : G ≤ 1024) where
  pub new_inside : Inside G (replicate 65 s)
  new_inside = λ r g k. zeros s 65 r none g k.2

  pub new_rows : (codes : List ℕ) → rows (table G (replicate 65 s) codes) 0 65 G ≡ []
  new_rows codes = rows_none (table G (replicate 65 s) codes) 0 65 G (λ u h a b k. cond-false (present (replicate 65 s) (u % 65) h) (Some (get_or codes (slot G u h) 0)) None (zeros s 65 (u % 65) none h (omega arith)))

-- ---- the soonest tick

first_low : (a b c x y z : ℕ) → lex a b c x y z ≡ true → a ≤ x
first_low a b c x y z h = grind (arith, nat_tests)

first_high : (a b c x y z : ℕ) → lex a b c x y z ≡ false → x ≤ a
first_high a b c x y z h = grind (arith, nat_tests)

-- an entry more makes its tick the soonest, if it is sooner
pub soonest_placed : (e : Entry) (w : List Entry) → first_tick (placed before e w) ≡ Some (option_map_or (λ t. min t e.tick) (first_tick w) e.tick)
soonest_placed e [] = refl
soonest_placed e (y ∷ w) = by_test (before y e) refl
  where
    by_test : (b : Bool) → before y e ≡ b → first_tick (cond b (y ∷ placed before e w) (e ∷ y ∷ w)) ≡ Some (min y.tick e.tick)
    by_test true t = let low = first_low y.tick y.gate y.code e.tick e.gate e.code t in let least : y.tick ≡ min y.tick e.tick = omega arith in ap Some least
    by_test false t = let high = first_high y.tick y.gate y.code e.tick e.gate e.code t in let least : e.tick ≡ min y.tick e.tick = omega arith in ap Some least

-- where a tick is the soonest, it lies in time, nothing waits before it, and an entry waits for it
module _ (f : ℕ → ℕ → Option ℕ) (G today s : ℕ) (ok : all_due today G (rows f today 65 G) ≡ true) (soon : first_tick (rows f today 65 G) ≡ Some s) where
  head_of : (w : List Entry) → first_tick w ≡ Some s → (x : Entry) × ((v : List Entry) × ((w ≡ x ∷ v) × (x.tick ≡ s)))
  head_of [] h = absurd (cc)
  head_of (x ∷ v) h = (x, (v, (refl, cc)))

  module _ (x : Entry) (v : List Entry) (is : rows f today 65 G ≡ x ∷ v) (at : x.tick ≡ s) where
    in_time : (today ≤ x.tick) × (x.tick ≤ today + 64) × (x.gate < G)
    in_time = due_parts today G x (and_parts (due today G x) (all_due today G v) (ap (all_due today G) (sym is) ∙ ok)).0

    one_stands : f s x.gate ≡ Some x.code
    one_stands =
        let place = in_time in
        sym (rows_at f today 65 G s x.gate (omega arith) (omega arith) place.2) ∙ ap (code_at s x.gate) is ∙ ap (λ z. code_at z x.gate (x ∷ v)) (sym at) ∙ first_code x v

    none_sooner : (u h : ℕ) → today ≤ u → u < s → h < G → f u h ≡ None
    none_sooner u h a b k =
        let place = in_time in
        sym (rows_at f today 65 G u h a (omega arith) k) ∙ ap (code_at u h) is ∙ before_first x v (ap rising (sym is) ∙ (rows_rise f today 65 G).0) u h (omega arith)

  pub some_stands : ((h : ℕ) → h < G → f s h ≡ None) → ⊥
  some_stands none =
      let one = head_of (rows f today 65 G) soon in
      let place = in_time one.0 one.1.0 one.1.1.0 one.1.1.1 in
      let code = one_stands one.0 one.1.0 one.1.1.0 one.1.1.1 in
      let gone = none one.0.gate place.2 in
      absurd (cc)

  pub first_stands : (g c : ℕ) → g < G → f s g ≡ Some c → ((h : ℕ) → h < g → f s h ≡ None) → first (rows f today 65 G) ≡ Some (entry s g c)
  first_stands g c k code least =
      let one = head_of (rows f today 65 G) soon in
      let place = in_time one.0 one.1.0 one.1.1.0 one.1.1.1 in
      let at = one.1.1.1 in
      ap first (rows_found f today 65 G s g c (omega arith) (omega arith) k code least (none_sooner one.0 one.1.0 one.1.1.0 at)).1

-- where an entry is the first of a list
pub list_of_first : (w : List Entry) (e : Entry) → first w ≡ Some e → (v : List Entry) × (w ≡ e ∷ v)
list_of_first [] e h = absurd (cc)
list_of_first (x ∷ v) e h = (v, cc)

-- where an entry is the first of a table, it lies in time, and nothing waits before its tick
module _ (f : ℕ → ℕ → Option ℕ) (G today : ℕ) (ok : all_due today G (rows f today 65 G) ≡ true) (e : Entry) (v : List Entry) (is : rows f today 65 G ≡ e ∷ v) where
  soon_is : first_tick (rows f today 65 G) ≡ Some e.tick
  soon_is = ap first_tick is

  pub first_in_time : (today ≤ e.tick) × (e.tick ≤ today + 64) × (e.gate < G)
  first_in_time = in_time f G today e.tick ok soon_is e v is refl

  pub first_alone : (u h : ℕ) → today ≤ u → u < e.tick → h < G → f u h ≡ None
  first_alone = none_sooner f G today e.tick ok soon_is e v is refl

-- where nothing waits before a tick, the soonest is the first row with a gate from there on
pub soonest_left : (G : ℕ) (sets : List Numbers) (codes : List ℕ) (few : G ≤ 1024) (inside : Inside G sets) (today t : ℕ) → today ≤ t →
    ((u h : ℕ) → today ≤ u → u < t → h < G → table G sets codes u h ≡ None) → (o : Option ℕ) → FirstWait sets t (today + 65) o → o ≡ first_tick (rows (table G sets codes) today 65 G)
soonest_left G sets codes few inside today t low clear None none = sym (ap first_tick (rows_none (table G sets codes) today 65 G (λ u h a b k. ⊎_elim
    (λ l. clear u h a l k)
    (λ l. row_empty G sets codes few inside u (none u l b) h k)
    (cases_lt u t))))
soonest_left G sets codes few inside today t low clear (Some v) wait =
    let g = wait.2.0 in
    let row = row_first G sets codes few inside v g wait.2.1 in
    sym (ap first_tick (rows_found (table G sets codes) today 65 G v g (get_or codes (slot G v g) 0) (omega arith) wait.1 row.0 row.1 row.2 (λ u h a b k. ⊎_elim
    (λ l. clear u h a l k)
    (λ l. row_empty G sets codes few inside u (wait.3 u l b) h k)
    (cases_lt u t))).1)

-- a code taken out leaves what was empty empty
pub still_none : (p : Bool) (o r : Option ℕ) → r ≡ cond p None o → o ≡ None → r ≡ None
still_none true o r e h = e
still_none false o r e h = e ∙ h

-- what holds where a put is not refused
pub put_allowed : (a : Agenda) (e : Entry) (u : Unit {0}) → put_answer a e ≡ Ok u →
    (e.gate < a.gates) × (a.today < e.tick) × (e.tick ≤ a.today + 64) × (waits e a.waiting ≡ false) × (length a.waiting < a.capacity) × (put_after a e ≡ with_waiting a (placed before e a.waiting))
put_allowed a e u h = go (leb a.gates e.gate) (leb e.tick a.today) (ltb (a.today + 64) e.tick) (waits e a.waiting) (leb a.capacity (length a.waiting)) refl refl refl refl refl h
  where
    go : (p q r s t : Bool) → leb a.gates e.gate ≡ p → leb e.tick a.today ≡ q → ltb (a.today + 64) e.tick ≡ r → waits e a.waiting ≡ s → leb a.capacity (length a.waiting) ≡ t →
        outcome a (cond p (Some NoGate) (cond (q || r) (Some BadTick) (cond s (Some Twice) (cond t (Some Full) None)))) ≡ Ok u →
        (e.gate < a.gates) × (a.today < e.tick) × (e.tick ≤ a.today + 64) × (waits e a.waiting ≡ false) × (length a.waiting < a.capacity) × (put_after a e ≡ with_waiting a (placed before e a.waiting))
    go true q r s t c d f i j h = absurd (cc)
    go false true r s t c d f i j h = absurd (cc)
    go false false true s t c d f i j h = absurd (cc)
    go false false false true t c d f i j h = absurd (cc)
    go false false false false true c d f i j h = absurd (cc)
    go false false false false false c d f i j h =
        let gate = leb-false a.gates e.gate c in
        let low = leb-false e.tick a.today d in
        let high = ltb-false (a.today + 64) e.tick f in
        let room = leb-false a.capacity (length a.waiting) j in
        (gate, low, high, i, room, ap (λ o. unless o a (with_waiting a (placed before e a.waiting))) (put_stands a e gate low high i room))

module _ (today G : ℕ) (ws : List Numbers) (codes : List ℕ) (few : G ≤ 1024) where
  -- an entry waits where its gate stands in the set of its tick's row
  pub waits_is : (e : Entry) → e.gate < G → today < e.tick → e.tick ≤ today + 64 → waits e (rows (table G ws codes) today 65 G) ≡ present ws (e.tick % 65) e.gate
  waits_is e k low high =
      let f : ℕ → ℕ → Option ℕ = table G ws codes in
      waits_where f f G today e.tick e.gate k (omega arith) (omega arith) e.code ∙ is_there (present ws (e.tick % 65) e.gate)
    where
      is_there : (b : Bool) → is_some (cond b (Some (get_or codes (slot G e.tick e.gate) 0)) None) ≡ b
      is_there true = refl
      is_there false = refl

  -- what a put and a take leave
  pub put_leaves : (vs : List Numbers) (e : Entry) (i : ℕ) (u : Unit {0}) → put_answer (wheel_agenda today G ws codes) e ≡ Ok u → i ≡ slot G e.tick e.gate → 65 * G ≤ length codes → There ws vs (e.tick % 65) e.gate true →
      rows (table G vs (set codes i e.code)) today 65 G ≡ placed before e (rows (table G ws codes) today 65 G)
  put_leaves vs e i u ok at wide there =
      let a : Agenda = wheel_agenda today G ws codes in
      let allowed = put_allowed a e u ok in
      put_rows (table G ws codes) (table G vs (set codes i e.code)) G today e.tick e.gate allowed.0 (omega arith) (omega arith) e.code allowed.3 (put_there G ws vs codes few e.tick e.gate allowed.0 e.code i at wide there)

  pub take_leaves : (vs : List Numbers) (e : Entry) (v : List Entry) → all_due today G (rows (table G ws codes) today 65 G) ≡ true → rows (table G ws codes) today 65 G ≡ e ∷ v → There ws vs (e.tick % 65) e.gate false →
      (rows (table G vs codes) today 65 G ≡ v) × ((u h : ℕ) → today ≤ u → u < e.tick → h < G → table G vs codes u h ≡ None)
  take_leaves vs e v ok is there =
      let f : ℕ → ℕ → Option ℕ = table G ws codes in
      let place = first_in_time f G today ok e v is in
      let changed = removed G ws vs codes few e.tick e.gate place.2 there in (
        take_rows f (table G vs codes) G today e.tick e.gate place.2 place.0 (omega arith) e.code v is changed,
        λ u h p q k. still_none (eqb (u % 65) (e.tick % 65) && eqb h e.gate) (f u h) (table G vs codes u h) (changed u h k) (first_alone f G today ok e v is u h p q k),
      )
