-- A mark for each tick and gate that waits. Assumes nothing.
use Rattle.std.proofs.Common.{◌≡◌, ℕ, zero, suc, ◌+◌, ◌-◌, ◌%◌, ◌<◌, ◌≤◌, Bool, true, false, cond, ◌&&◌, ◌||◌, eqb, List, [], ◌∷◌, get_or, replicate, Some, sym, refl, ap, ◌∙◌, ⊎_elim, arith}
use Rattle.std.proofs.lemmas.Bool.{and_from, and_parts, and_left, both_ways, cases_lt, cases_Bool, cond-true, cond-false, eqb-true, eq-eqb, or_from, ne_eqb}
use Rattle.calendar.specs.Order.{placed}
use Rattle.calendar.specs.Agenda.{before, entry, waits, same_slot, rising, leads, before_tick, all_due, due, first, rest}
use Rattle.heap.specs.Marks.{marked, Marked}
use Rattle.calendar.specs.Table.{code_at}
use Rattle.calendar.specs.declared.entry.Entry.{Entry}
use Rattle.calendar.proofs.Sound.{due_parts}
use Rattle.calendar.proofs.Tables.{none_after, none_before, not_itself, starts, lex2, waits_placed, one_tick, waits_none, round, sooner, begins}

-- a mark of another row or gate is of another tick or gate
apart : (u h t g : ℕ) → (eqb (u % 65) (t % 65) && eqb h g) ≡ false → (eqb u t && eqb h g) ≡ false
apart u h t g n = ⊎_elim
    (λ p. let q = and_parts (eqb u t) (eqb h g) p in absurd (both_ways (eqb (u % 65) (t % 65) && eqb h g) n (and_from (eqb (u % 65) (t % 65)) (eqb h g) (eq-eqb (u % 65) (t % 65) (ap (λ z. z % 65) (eqb-true u t q.0))) q.1)))
    (λ p. p) (cases_Bool (eqb u t && eqb h g))

module _ (G : ℕ) (m : ℕ → ℕ → Bool) (today : ℕ) where
  -- the marks with that of e's row and gate as `on` says
  abbrev Changed : (ℕ → ℕ → Bool) → Entry → Bool → Type 0
  Changed l e on = (r g : ℕ) → l r g ≡ cond (eqb r (e.tick % 65) && eqb g e.gate) on (m r g)

  pub marked_put : (l : ℕ → ℕ → Bool) (w : List Entry) (e : Entry) → today ≤ e.tick → e.tick < today + 65 → Changed l e true → Marked m G today w → Marked l G today (placed before e w)
  marked_put l w e low high is was = λ u h k. is (u % 65) h ∙ ⊎_elim
      (λ p. let q = and_parts (eqb (u % 65) (e.tick % 65)) (eqb h e.gate) p in
      let same : u ≡ e.tick = one_tick today u e.tick (eqb-true (u % 65) (e.tick % 65) q.0) k.0 k.1 low high in
      cond-true (eqb (u % 65) (e.tick % 65) && eqb h e.gate) true (m (u % 65) h) p
      ∙ sym (waits_placed (entry u h 0) e w ∙ ap (λ b. b || waits (entry u h 0) w) (and_from (eqb u e.tick) (eqb h e.gate) (eq-eqb u e.tick same) q.1)))
      (λ p. cond-false (eqb (u % 65) (e.tick % 65) && eqb h e.gate) true (m (u % 65) h) p ∙ was u h k
      ∙ sym (waits_placed (entry u h 0) e w ∙ ap (λ b. b || waits (entry u h 0) w) (apart u h e.tick e.gate p)))
      (cases_Bool (eqb (u % 65) (e.tick % 65) && eqb h e.gate))

  pub marked_take : (l : ℕ → ℕ → Bool) (w : List Entry) (e : Entry) → today ≤ e.tick → e.tick < today + 65 → rising (e ∷ w) ≡ true → Changed l e false → Marked m G today (e ∷ w) → Marked l G today w
  marked_take l w e low high rise is was = λ u h k. is (u % 65) h ∙ ⊎_elim
      (λ p. let q = and_parts (eqb (u % 65) (e.tick % 65)) (eqb h e.gate) p in
      let same : u ≡ e.tick = one_tick today u e.tick (eqb-true (u % 65) (e.tick % 65) q.0) k.0 k.1 low high in
      let gone = none_after e.tick e.gate e w (not_itself e.tick e.gate) (and_parts (leads e w) (rising w) rise).0 (and_parts (leads e w) (rising w) rise).1 in
      cond-true (eqb (u % 65) (e.tick % 65) && eqb h e.gate) false (m (u % 65) h) p
      ∙ sym (waits_none (entry u h 0) w (ap (λ z. code_at z h w) same ∙ ap (λ z. code_at e.tick z w) (eqb-true h e.gate q.1) ∙ gone)))
      (λ p. cond-false (eqb (u % 65) (e.tick % 65) && eqb h e.gate) false (m (u % 65) h) p ∙ was u h k
      ∙ ap (λ b. b || waits (entry u h 0) w) (apart u h e.tick e.gate p))
      (cases_Bool (eqb (u % 65) (e.tick % 65) && eqb h e.gate))

  never_late : (g u h : ℕ) (w : List Entry) → all_due today g w ≡ true → today + 65 ≤ u → waits (entry u h 0) w ≡ false
  never_late g u h [] d l = refl
  never_late g u h (x ∷ w) d l =
      let dx = due_parts today g x (and_parts (due today g x) (all_due today g w) d).0 in
      or_from (same_slot (entry u h 0) x) (waits (entry u h 0) w) (and_left (eqb u x.tick) (eqb h x.gate) (ne_eqb u x.tick (λ e. omega arith))) (never_late g u h w (and_parts (due today g x) (all_due today g w) d).1 l)

  never_early : (t u h : ℕ) (w : List Entry) → rising w ≡ true → starts t 0 w ≡ true → lex2 u h t 0 ≡ true → waits (entry u h 0) w ≡ false
  never_early t u h w r s l = waits_none (entry u h 0) w (none_before u h t 0 w l s r)

  pub marked_turn : (g t : ℕ) (w : List Entry) → today ≤ t → rising w ≡ true → all_due today g w ≡ true → starts t 0 w ≡ true → ((u h : ℕ) → u < t → lex2 u h t 0 ≡ true) → Marked m G today w → Marked m G t w
  marked_turn g t w later r d s l was = λ u h k. ⊎_elim
      (λ p. was u h (omega arith, p, k.2))
      (λ p. let v : ℕ = today + (u - today) % 65 in
      let same : u % 65 ≡ v % 65 = round today u (omega arith) in
      ap (λ z. m z h) same ∙ was v h (omega arith, omega arith, k.2) ∙ never_early t v h w r s (l v h (omega arith)) ∙ sym (never_late g u h w d p))
      (cases_lt u (today + 65))

pub marked_turned : (G g today t : ℕ) (m : ℕ → ℕ → Bool) (w : List Entry) → today ≤ t → rising w ≡ true → all_due today g w ≡ true → before_tick w t ≡ false → Marked m G today w → Marked m G t w
marked_turned G g today t m w later r d b was = marked_turn G m today g t w later r d (begins w t b) (λ u h l. sooner u h t l) was

-- no gate waits where every mark is clear
pub unmarked : (G n k today : ℕ) → Marked (marked (replicate n (replicate k false))) G today []
unmarked G n k today = λ t g h. clear n (t % 65) g
  where
    in_row : (k i : ℕ) → get_or (replicate k false) i false ≡ false
    in_row zero i = refl
    in_row (suc k) zero = refl
    in_row (suc k) (suc i) = in_row k i

    clear : (n r g : ℕ) → marked (replicate n (replicate k false)) r g ≡ false
    clear zero r g = refl
    clear (suc n) zero g = in_row k g
    clear (suc n) (suc r) g = clear n r g

pub first_and_rest : (w : List Entry) (e : Entry) → first w ≡ Some e → w ≡ e ∷ rest w
first_and_rest [] e h = let z : ◌≡◌ {A = ℕ} 0 1 = cc in absurd (omega arith)
first_and_rest (x ∷ w) e h = let same : x ≡ e = cc in ap (λ z. z ∷ w) same
