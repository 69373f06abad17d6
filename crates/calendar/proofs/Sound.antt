-- Each call keeps an agenda sound. Assumes nothing.
use Rattle.std.proofs.Common.{◌≡◌, ℕ, ◌+◌, ◌<◌, ◌≤◌, Bool, true, false, cond, ◌&&◌, eqb, ltb, leb, List, [], ◌∷◌, length, Some, refl, ap, ◌∙◌, arith}
use Rattle.std.proofs.lemmas.Bool.Decides.{nat_tests}
use Rattle.std.proofs.lemmas.Bool.{and_parts, and_from, or_parts, leb-true, le-leb, ltb-true, ltb-false, lt-ltb}
use Rattle.calendar.specs.Order.{placed}
use Rattle.calendar.specs.Agenda.{Agenda, before, waits, slot_before, leads, rising, due, all_due, sound, before_tick, with_waiting, at_tick, rest, first}
use Rattle.calendar.specs.declared.entry.Entry.{Entry}
use Rattle.calendar.proofs.Entries.{lex}
use Rattle.calendar.proofs.Orders.{length_placed}
use Rattle.calendar.proofs.Tables.{lex2}

sooner : (a b c x y z : ℕ) → (eqb x a && eqb y b) ≡ false → lex a b c x y z ≡ true → lex2 a b x y ≡ true
sooner a b c x y z n h = grind (arith, nat_tests)

later : (a b c x y z : ℕ) → (eqb x a && eqb y b) ≡ false → lex a b c x y z ≡ false → lex2 x y a b ≡ true
later a b c x y z n h = grind (arith, nat_tests)

leads_placed : (x e : Entry) (xs : List Entry) → slot_before x e ≡ true → leads x xs ≡ true → leads x (placed before e xs) ≡ true
leads_placed x e [] h k = h
leads_placed x e (y ∷ xs) h k = elim (before y e) as (λ b. leads x (cond b (y ∷ placed before e xs) (e ∷ y ∷ xs)) ≡ true) [ true ↦ k | false ↦ h ]

pub rising_placed : (e : Entry) (xs : List Entry) → waits e xs ≡ false → rising xs ≡ true → rising (placed before e xs) ≡ true
rising_placed e [] n h = refl
rising_placed e (x ∷ xs) n h = by_test (before x e) refl (rising_placed e xs (or_parts _ _ n).1 (and_parts _ _ h).1)
  where
    by_test : (b : Bool) → before x e ≡ b → rising (placed before e xs) ≡ true → rising (cond b (x ∷ placed before e xs) (e ∷ x ∷ xs)) ≡ true
    by_test true t ih = and_from _ _ (leads_placed x e xs (sooner x.tick x.gate x.code e.tick e.gate e.code (or_parts _ _ n).0 t) (and_parts _ _ h).0) ih
    by_test false t ih = and_from _ _ (later x.tick x.gate x.code e.tick e.gate e.code (or_parts _ _ n).0 t) h

pub due_parts : (t g : ℕ) (e : Entry) → due t g e ≡ true → (t ≤ e.tick) × (e.tick ≤ t + 64) × (e.gate < g)
due_parts t g e h =
    let p = and_parts (leb t e.tick) (leb e.tick (t + 64) && ltb e.gate g) h in
    let q = and_parts (leb e.tick (t + 64)) (ltb e.gate g) p.1 in
    (leb-true t e.tick p.0, leb-true e.tick (t + 64) q.0, ltb-true e.gate g q.1)

due_from : (t g : ℕ) (e : Entry) → t ≤ e.tick → e.tick ≤ t + 64 → e.gate < g → due t g e ≡ true
due_from t g e h k l = and_from _ _ (le-leb t e.tick h) (and_from _ _ (le-leb e.tick (t + 64) k) (lt-ltb e.gate g l))

due_placed : (t g : ℕ) (e : Entry) (xs : List Entry) → due t g e ≡ true → all_due t g xs ≡ true → all_due t g (placed before e xs) ≡ true
due_placed t g e [] h k = and_from _ _ h refl
due_placed t g e (x ∷ xs) h k = elim (before x e) as (λ b. all_due t g (cond b (x ∷ placed before e xs) (e ∷ x ∷ xs)) ≡ true) [ true ↦ and_from _ _ (and_parts _ _ k).0 (due_placed t g e xs h (and_parts _ _ k).1) | false ↦ and_from _ _ h k ]

module _ (a : Agenda) (ok : sound a ≡ true) where
  pub sound_rising : rising a.waiting ≡ true
  sound_rising = (and_parts _ _ ok).0

  pub sound_due : all_due a.today a.gates a.waiting ≡ true
  sound_due = (and_parts _ _ (and_parts _ _ ok).1).0

  pub sound_room : length a.waiting ≤ a.capacity
  sound_room = leb-true (length a.waiting) a.capacity (and_parts (all_due a.today a.gates a.waiting) (leb (length a.waiting) a.capacity) (and_parts (rising a.waiting) (all_due a.today a.gates a.waiting && leb (length a.waiting) a.capacity) ok).1).1

  pub sound_placed : (e : Entry) → e.gate < a.gates → a.today < e.tick → e.tick ≤ a.today + 64 → waits e a.waiting ≡ false → length a.waiting < a.capacity → sound (with_waiting a (placed before e a.waiting)) ≡ true
  sound_placed e g l h n r = and_from _ _ (rising_placed e a.waiting n sound_rising)
      (and_from _ _ (due_placed a.today a.gates e a.waiting (and_from _ _ (le-leb _ _ (omega arith)) (and_from _ _ (le-leb _ _ h) (lt-ltb _ _ g))) sound_due)
      (le-leb _ _ (omega (arith, length_placed before e a.waiting))))

fewer : (w : List Entry) (c : ℕ) → length w ≤ c → length (rest w) ≤ c
fewer [] c h = h
fewer (x ∷ w) c h = omega arith

rising_rest : (w : List Entry) → rising w ≡ true → rising (rest w) ≡ true
rising_rest [] h = h
rising_rest (x ∷ w) h = (and_parts _ _ h).1

due_rest : (t g : ℕ) (w : List Entry) → all_due t g w ≡ true → all_due t g (rest w) ≡ true
due_rest t g [] h = h
due_rest t g (x ∷ w) h = (and_parts _ _ h).1

pub sound_taken : (a : Agenda) → sound a ≡ true → sound (with_waiting a (rest a.waiting)) ≡ true
sound_taken a ok = and_from _ _ (rising_rest a.waiting (sound_rising a ok)) (and_from _ _ (due_rest a.today a.gates a.waiting (sound_due a ok)) (le-leb _ _ (fewer a.waiting a.capacity (sound_room a ok))))

-- entries in order, the first not before t
leads_due : (t u g : ℕ) (x : Entry) (w : List Entry) → t ≤ u → u ≤ x.tick → leads x w ≡ true → rising w ≡ true → all_due t g w ≡ true → all_due u g w ≡ true
leads_due t u g x [] p q l r h = refl
leads_due t u g x (y ∷ w) p q l r h =
    let dy = due_parts t g y (and_parts (due t g y) (all_due t g w) h).0 in
    let y-low : u ≤ y.tick = ticks x.tick x.gate y.tick y.gate l q in
    and_from (due u g y) (all_due u g w) (due_from u g y y-low (omega arith) dy.2)
    (leads_due t u g y w p y-low (and_parts (leads y w) (rising w) r).0 (and_parts (leads y w) (rising w) r).1 (and_parts (due t g y) (all_due t g w) h).1)
  where
    ticks : (a b c d : ℕ) → lex2 a b c d ≡ true → u ≤ a → u ≤ c
    ticks a b c d e f = grind (arith, nat_tests)

pub sound_turned : (a : Agenda) (t : ℕ) → sound a ≡ true → a.today ≤ t → before_tick a.waiting t ≡ false → sound (at_tick a t) ≡ true
sound_turned a t ok p b = and_from _ _ (sound_rising a ok) (and_from _ _ (go a.waiting b (sound_rising a ok) (sound_due a ok)) (le-leb _ _ (sound_room a ok)))
  where
    go : (w : List Entry) → before_tick w t ≡ false → rising w ≡ true → all_due a.today a.gates w ≡ true → all_due t a.gates w ≡ true
    go [] b r h = refl
    go (x ∷ w) b r h =
        let low : t ≤ x.tick = ltb-false x.tick t b in
        let dx = due_parts a.today a.gates x (and_parts (due a.today a.gates x) (all_due a.today a.gates w) h).0 in
        and_from (due t a.gates x) (all_due t a.gates w) (due_from t a.gates x low (omega arith) dx.2)
        (leads_due a.today t a.gates x w p low (and_parts (leads x w) (rising w) r).0 (and_parts (leads x w) (rising w) r).1 (and_parts (due a.today a.gates x) (all_due a.today a.gates w) h).1)

-- what a take answers is due
pub first_due : (a : Agenda) (e : Entry) → sound a ≡ true → Some e ≡ first a.waiting → due a.today a.gates e ≡ true
first_due a e ok is = go a.waiting (sound_due a ok) is
  where
    go : (w : List Entry) → all_due a.today a.gates w ≡ true → Some e ≡ first w → due a.today a.gates e ≡ true
    go [] h k = let z : ◌≡◌ {A = ℕ} 0 1 = cc in absurd (omega arith)
    go (x ∷ w) h k = let same : e ≡ x = cc in ap (due a.today a.gates) same ∙ (and_parts (due a.today a.gates x) (all_due a.today a.gates w) h).0
