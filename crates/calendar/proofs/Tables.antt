-- Entries in order are what their table says. Assumes nothing.
use Rattle.std.proofs.Common.{◌≡◌, ℕ, zero, suc, ◌+◌, ◌-◌, ◌*◌, ◌/◌, ◌%◌, ◌<◌, ◌≤◌, Bool, true, false, cond, not, ◌&&◌, ◌||◌, eqb, ltb, List, [], ◌∷◌, Some, None, Option, sym, refl, ap, ◌∙◌, ⊎_elim, arith}
use Rattle.std.proofs.lemmas.Nat.{mul-add-lt, div-mul-add, mod-mul-add}
use Rattle.std.proofs.lemmas.Bool.Decides.{nat_tests}
use Rattle.std.proofs.lemmas.Bool.{and_parts, and_from, or_parts, cond-false, cond-true, eqb-true, eq-eqb, both_ways, cases_eq, or_left, or_right, or_from}
use Rattle.calendar.specs.Order.{placed}
use Rattle.calendar.specs.Agenda.{before, rising, leads, waits, same_slot, entry, before_tick}
use Rattle.calendar.specs.Table.{code_at, with_code, row, rows, slot}
use Rattle.calendar.specs.declared.entry.Entry.{Entry}

abbrev pub lex2 : ℕ → ℕ → ℕ → ℕ → Bool
lex2 a b x y = ltb a x || (eqb a x && ltb b y)

apart : (a b x y t g : ℕ) → lex2 a b t g ≡ false → lex2 a b x y ≡ true → (eqb x t && eqb y g) ≡ false
apart a b x y t g h k = grind (arith, nat_tests)

onward : (a b x y t g : ℕ) → lex2 a b t g ≡ false → lex2 a b x y ≡ true → lex2 x y t g ≡ false
onward a b x y t g h k = grind (arith, nat_tests)

pub none_after : (t g : ℕ) (x : Entry) (w : List Entry) → lex2 x.tick x.gate t g ≡ false → leads x w ≡ true → rising w ≡ true → code_at t g w ≡ None
none_after t g x [] n l r = refl
none_after t g x (y ∷ w) n l r =
    cond-false (eqb y.tick t && eqb y.gate g) (Some y.code) (code_at t g w) (apart x.tick x.gate y.tick y.gate t g n l)
    ∙ none_after t g y w (onward x.tick x.gate y.tick y.gate t g n l) (and_parts (leads y w) (rising w) r).0 (and_parts (leads y w) (rising w) r).1

-- nothing in w comes before tick t and gate g
abbrev pub starts : ℕ → ℕ → List Entry → Bool
starts t g [] = true
starts t g (x ∷ w) = not (lex2 x.tick x.gate t g)

apart₂ : (u h t g x y : ℕ) → lex2 u h t g ≡ true → not (lex2 x y t g) ≡ true → (eqb x u && eqb y h) ≡ false
apart₂ u h t g x y p q = grind (arith, nat_tests)

onward₂ : (u h t g x y : ℕ) → lex2 u h t g ≡ true → not (lex2 x y t g) ≡ true → lex2 x y u h ≡ false
onward₂ u h t g x y p q = grind (arith, nat_tests)

pub none_before : (u h t g : ℕ) (w : List Entry) → lex2 u h t g ≡ true → starts t g w ≡ true → rising w ≡ true → code_at u h w ≡ None
none_before u h t g [] p s r = refl
none_before u h t g (x ∷ w) p s r =
    cond-false (eqb x.tick u && eqb x.gate h) (Some x.code) (code_at u h w) (apart₂ u h t g x.tick x.gate p s)
    ∙ none_after u h x w (onward₂ u h t g x.tick x.gate p s) (and_parts (leads x w) (rising w) r).0 (and_parts (leads x w) (rising w) r).1

itself : (t g : ℕ) → (eqb t t && eqb g g) ≡ true
itself t g = grind (arith, nat_tests)

pub not_itself : (t g : ℕ) → lex2 t g t g ≡ false
not_itself t g = grind (arith, nat_tests)

pub first_code : (x : Entry) (w : List Entry) → code_at x.tick x.gate (x ∷ w) ≡ Some x.code
first_code x w = cond-true (eqb x.tick x.tick && eqb x.gate x.gate) (Some x.code) (code_at x.tick x.gate w) (itself x.tick x.gate)

never : {A : Type 0} (c : ℕ) (o : Option ℕ) → o ≡ Some c → o ≡ None → A
never c o p q = let z : ◌≡◌ {A = ℕ} 0 1 = cc in absurd (omega arith)

turn_about : (a b x y : ℕ) → lex2 a b x y ≡ true → not (lex2 x y a b) ≡ true
turn_about a b x y h = grind (arith, nat_tests)

one_slot : (a b x y : ℕ) → lex2 a b x y ≡ false → lex2 x y a b ≡ false → (a ≡ x) × (b ≡ y)
one_slot a b x y h k = (grind (arith, nat_tests), grind (arith, nat_tests))

pub past : (a b t g : ℕ) → (eqb a t && eqb b g) ≡ true → lex2 a b t g ≡ false
past a b t g k = grind (arith, nat_tests)

-- two lists in order with one table are one list
pub same_table : (v w : List Entry) → rising v ≡ true → rising w ≡ true → ((t g : ℕ) → code_at t g v ≡ code_at t g w) → v ≡ w
same_table [] [] r s e = refl
same_table [] (y ∷ w) r s e = never y.code (code_at y.tick y.gate (y ∷ w)) (first_code y w) (sym (e y.tick y.gate))
same_table (x ∷ v) [] r s e = never x.code (code_at x.tick x.gate (x ∷ v)) (first_code x v) (e x.tick x.gate)
same_table (x ∷ v) (y ∷ w) r s e = by_tests (lex2 x.tick x.gate y.tick y.gate) (lex2 y.tick y.gate x.tick x.gate) refl refl
    (λ k. same_table v w (and_parts (leads x v) (rising v) r).1 (and_parts (leads y w) (rising w) s).1 k)
  where
    by_tests : (p q : Bool) → lex2 x.tick x.gate y.tick y.gate ≡ p → lex2 y.tick y.gate x.tick x.gate ≡ q → (((t g : ℕ) → code_at t g v ≡ code_at t g w) → v ≡ w) → (◌≡◌ {A = List Entry} (x ∷ v) (y ∷ w))
    by_tests true q f h ih = never x.code (code_at x.tick x.gate (x ∷ v)) (first_code x v) (e x.tick x.gate ∙ none_before x.tick x.gate y.tick y.gate (y ∷ w) f (ap not (not_itself y.tick y.gate)) s)
    by_tests false true f h ih = never y.code (code_at y.tick y.gate (y ∷ w)) (first_code y w) (sym (e y.tick y.gate) ∙ none_before y.tick y.gate x.tick x.gate (x ∷ v) h (ap not (not_itself x.tick x.gate)) r)
    by_tests false false f h ih =
        let slot = one_slot x.tick x.gate y.tick y.gate f h in
        let at_x = first_code x v in
        let at_y = first_code y w in
        let met : code_at y.tick y.gate (x ∷ v) ≡ Some x.code = cond-true (eqb x.tick y.tick && eqb x.gate y.gate) (Some x.code) (code_at y.tick y.gate v) (and_from _ _ (eq-eqb x.tick y.tick slot.0) (eq-eqb x.gate y.gate slot.1)) in
        let joined : Some x.code ≡ Some y.code = sym met ∙ e y.tick y.gate ∙ at_y in
        let code : x.code ≡ y.code = cc in
        let head : x ≡ y = (λ i. record { tick = slot.0 i; gate = slot.1 i; code = code i }) in
        let tail : v ≡ w = ih (λ t g. below t g (eqb x.tick t && eqb x.gate g) refl slot (e t g)) in
        (λ i. head i ∷ tail i)
      where
        below : (t g : ℕ) (b : Bool) → (eqb x.tick t && eqb x.gate g) ≡ b → (x.tick ≡ y.tick) × (x.gate ≡ y.gate) → code_at t g (x ∷ v) ≡ code_at t g (y ∷ w) → code_at t g v ≡ code_at t g w
        below t g true k slot e' =
            let m = and_parts (eqb x.tick t) (eqb x.gate g) k in
            none_after t g x v (past x.tick x.gate t g k) (and_parts (leads x v) (rising v) r).0 (and_parts (leads x v) (rising v) r).1
            ∙ sym (none_after t g y w (past y.tick y.gate t g (and_from _ _ (eq-eqb y.tick t (sym slot.0 ∙ eqb-true x.tick t m.0)) (eq-eqb y.gate g (sym slot.1 ∙ eqb-true x.gate g m.1)))) (and_parts (leads y w) (rising w) s).0 (and_parts (leads y w) (rising w) s).1)
        below t g false k slot e' =
            sym (cond-false (eqb x.tick t && eqb x.gate g) (Some x.code) (code_at t g v) k) ∙ e'
            ∙ cond-false (eqb y.tick t && eqb y.gate g) (Some y.code) (code_at t g w) (ap (λ z. eqb z t && eqb y.gate g) (sym slot.0) ∙ ap (λ z. eqb x.tick t && eqb z g) (sym slot.1) ∙ k)

-- a put adds one to the table
pub code_at_placed : (t g : ℕ) (e : Entry) (w : List Entry) → waits e w ≡ false → code_at t g (placed before e w) ≡ cond (eqb e.tick t && eqb e.gate g) (Some e.code) (code_at t g w)
code_at_placed t g e [] n = refl
code_at_placed t g e (x ∷ w) n = by_test (before x e) (eqb e.tick t && eqb e.gate g) (eqb x.tick t && eqb x.gate g) refl refl (or_parts (same_slot e x) (waits e w) n).0 (code_at_placed t g e w (or_parts (same_slot e x) (waits e w) n).1)
  where
    clash : (a b x y t g : ℕ) → (eqb a t && eqb b g) ≡ true → (eqb x t && eqb y g) ≡ true → (eqb a x && eqb b y) ≡ true
    clash a b x y t g p q = grind (arith, nat_tests)

    by_test : (b p q : Bool) → (eqb e.tick t && eqb e.gate g) ≡ p → (eqb x.tick t && eqb x.gate g) ≡ q → same_slot e x ≡ false
        → code_at t g (placed before e w) ≡ cond (eqb e.tick t && eqb e.gate g) (Some e.code) (code_at t g w)
        → code_at t g (cond b (x ∷ placed before e w) (e ∷ x ∷ w)) ≡ cond p (Some e.code) (cond q (Some x.code) (code_at t g w))
    by_test true true true p q n ih = absurd (both_ways (same_slot e x) n (clash e.tick e.gate x.tick x.gate t g p q))
    by_test true true false p q n ih = cond-false (eqb x.tick t && eqb x.gate g) (Some x.code) (code_at t g (placed before e w)) q ∙ ih ∙ cond-true (eqb e.tick t && eqb e.gate g) (Some e.code) (code_at t g w) p
    by_test true false true p q n ih = cond-true (eqb x.tick t && eqb x.gate g) (Some x.code) (code_at t g (placed before e w)) q
    by_test true false false p q n ih = cond-false (eqb x.tick t && eqb x.gate g) (Some x.code) (code_at t g (placed before e w)) q ∙ ih ∙ cond-false (eqb e.tick t && eqb e.gate g) (Some e.code) (code_at t g w) p
    by_test false p q f h n ih = ap (λ b. cond b (Some e.code) (cond (eqb x.tick t && eqb x.gate g) (Some x.code) (code_at t g w))) f ∙ ap (λ b. cond p (Some e.code) (cond b (Some x.code) (code_at t g w))) h

-- ---- the list of a table

low_row : (t g x y : ℕ) → not (lex2 x y (t + 1) 0) ≡ true → not (lex2 x y t g) ≡ true
low_row t g x y h = grind (arith, nat_tests)

low_gate : (t g x y : ℕ) → not (lex2 x y t (g + 1)) ≡ true → not (lex2 x y t g) ≡ true
low_gate t g x y h = grind (arith, nat_tests)

next_gate : (t g x y : ℕ) → not (lex2 x y t (g + 1)) ≡ true → lex2 t g x y ≡ true
next_gate t g x y h = grind (arith, nat_tests)

starts_row : (t g : ℕ) (w : List Entry) → starts (t + 1) 0 w ≡ true → starts t g w ≡ true
starts_row t g [] h = refl
starts_row t g (x ∷ w) h = low_row t g x.tick x.gate h

starts_gate : (t g : ℕ) (w : List Entry) → starts t (g + 1) w ≡ true → starts t g w ≡ true
starts_gate t g [] h = refl
starts_gate t g (x ∷ w) h = low_gate t g x.tick x.gate h

starts_leads : (t g c : ℕ) (w : List Entry) → starts t (g + 1) w ≡ true → leads (entry t g c) w ≡ true
starts_leads t g c [] h = refl
starts_leads t g c (x ∷ w) h = next_gate t g x.tick x.gate h

with_rises : (t g : ℕ) (o : Option ℕ) (w : List Entry) → (rising w ≡ true) × (starts t (g + 1) w ≡ true) → (rising (with_code t g o w) ≡ true) × (starts t g (with_code t g o w) ≡ true)
with_rises t g None w h = (h.0, starts_gate t g w h.1)
with_rises t g (Some c) w h = (and_from _ _ (starts_leads t g c w h.1) h.0, ap not (not_itself t g))

pub row_rises : (f : ℕ → ℕ → Option ℕ) (t g n : ℕ) (w : List Entry) → rising w ≡ true → starts (t + 1) 0 w ≡ true → (rising (row f t g n w) ≡ true) × (starts t g (row f t g n w) ≡ true)
row_rises f t g zero w r s = (r, starts_row t g w s)
row_rises f t g (suc n) w r s = with_rises t g (f t g) (row f t (g + 1) n w) (row_rises f t (g + 1) n w r s)

pub rows_rise : (f : ℕ → ℕ → Option ℕ) (t n gates : ℕ) → (rising (rows f t n gates) ≡ true) × (starts t 0 (rows f t n gates) ≡ true)
unfolding rows
rows_rise f t zero gates = (refl, refl)
rows_rise f t (suc n) gates = let h = rows_rise f (t + 1) n gates in row_rises f t 0 gates (rows f (t + 1) n gates) h.0 h.1

with_other : (t g u h : ℕ) (o : Option ℕ) (w : List Entry) → (eqb t u && eqb g h) ≡ false → code_at u h (with_code t g o w) ≡ code_at u h w
with_other t g u h None w n = refl
with_other t g u h (Some c) w n = cond-false (eqb t u && eqb g h) (Some c) (code_at u h w) n

with_here : (t g : ℕ) (o : Option ℕ) (w : List Entry) → code_at t g w ≡ None → code_at t g (with_code t g o w) ≡ o
with_here t g None w n = n
with_here t g (Some c) w n = cond-true (eqb t t && eqb g g) (Some c) (code_at t g w) (itself t g)

other_tick : (t g u h : ℕ) → (t ≡ u → ⊥) → (eqb t u && eqb g h) ≡ false
other_tick t g u h n = grind (arith, nat_tests)

other_gate : (t g h : ℕ) → (g ≡ h → ⊥) → (eqb t t && eqb g h) ≡ false
other_gate t g h n = grind (arith, nat_tests)

pub row_other : (f : ℕ → ℕ → Option ℕ) (t g n : ℕ) (w : List Entry) (u h : ℕ) → (t ≡ u → ⊥) → code_at u h (row f t g n w) ≡ code_at u h w
row_other f t g zero w u h n = refl
row_other f t g (suc m) w u h n = with_other t g u h (f t g) (row f t (g + 1) m w) (other_tick t g u h n) ∙ row_other f t (g + 1) m w u h n

pub row_low : (f : ℕ → ℕ → Option ℕ) (t g n : ℕ) (w : List Entry) (h : ℕ) → h < g → code_at t h (row f t g n w) ≡ code_at t h w
row_low f t g zero w h l = refl
row_low f t g (suc m) w h l = with_other t g t h (f t g) (row f t (g + 1) m w) (other_gate t g h (omega arith)) ∙ row_low f t (g + 1) m w h (omega arith)

pub row_at : (f : ℕ → ℕ → Option ℕ) (t g n : ℕ) (w : List Entry) (h : ℕ) → code_at t h w ≡ None → g ≤ h → h < g + n → code_at t h (row f t g n w) ≡ f t h
row_at f t g zero w h e l k = absurd (omega arith)
row_at f t g (suc m) w h e l k = ⊎_elim
    (λ s. ap (λ z. code_at t z (with_code t g (f t g) (row f t (g + 1) m w))) (sym s) ∙ with_here t g (f t g) (row f t (g + 1) m w) (ap (λ z. code_at t z (row f t (g + 1) m w)) s ∙ row_low f t (g + 1) m w h (omega arith) ∙ e) ∙ ap (f t) s)
    (λ s. with_other t g t h (f t g) (row f t (g + 1) m w) (other_gate t g h s) ∙ row_at f t (g + 1) m w h e (omega arith) (omega arith))
    (cases_eq g h)

pub row_high : (f : ℕ → ℕ → Option ℕ) (t g n : ℕ) (w : List Entry) (h : ℕ) → g + n ≤ h → code_at t h (row f t g n w) ≡ code_at t h w
row_high f t g zero w h l = refl
row_high f t g (suc m) w h l = with_other t g t h (f t g) (row f t (g + 1) m w) (other_gate t g h (omega arith)) ∙ row_high f t (g + 1) m w h (omega arith)

tick_before : (t h : ℕ) → lex2 t h (t + 1) 0 ≡ true
tick_before t h = grind (arith, nat_tests)

none_yet : (f : ℕ → ℕ → Option ℕ) (t n gates h : ℕ) → code_at t h (rows f (t + 1) n gates) ≡ None
none_yet f t n gates h = let r = rows_rise f (t + 1) n gates in none_before t h (t + 1) 0 (rows f (t + 1) n gates) (tick_before t h) r.1 r.0

-- the list has the table's codes, in the window
pub rows_at : (f : ℕ → ℕ → Option ℕ) (t n gates u h : ℕ) → t ≤ u → u < t + n → h < gates → code_at u h (rows f t n gates) ≡ f u h
unfolding rows
rows_at f t zero gates u h p q k = absurd (omega arith)
rows_at f t (suc n) gates u h p q k = ⊎_elim
    (λ s. ap (λ z. code_at z h (rows f t (suc n) gates)) (sym s) ∙ row_at f t 0 gates (rows f (t + 1) n gates) h (none_yet f t n gates h) (omega arith) (omega arith) ∙ ap (λ z. f z h) s)
    (λ s. row_other f t 0 gates (rows f (t + 1) n gates) u h s ∙ rows_at f (t + 1) n gates u h (omega arith) (omega arith) k)
    (cases_eq t u)

-- and no other
pub rows_gate : (f : ℕ → ℕ → Option ℕ) (t n gates u h : ℕ) → gates ≤ h → code_at u h (rows f t n gates) ≡ None
unfolding rows
rows_gate f t zero gates u h k = refl
rows_gate f t (suc n) gates u h k = ⊎_elim
    (λ s. ap (λ z. code_at z h (rows f t (suc n) gates)) (sym s) ∙ row_high f t 0 gates (rows f (t + 1) n gates) h (omega arith) ∙ none_yet f t n gates h)
    (λ s. row_other f t 0 gates (rows f (t + 1) n gates) u h s ∙ rows_gate f (t + 1) n gates u h k)
    (cases_eq t u)

pub rows_out : (f : ℕ → ℕ → Option ℕ) (t n gates u h : ℕ) → (t ≤ u → u < t + n → ⊥) → code_at u h (rows f t n gates) ≡ None
unfolding rows
rows_out f t zero gates u h k = refl
rows_out f t (suc n) gates u h k = row_other f t 0 gates (rows f (t + 1) n gates) u h (λ s. k (omega arith) (omega arith)) ∙ rows_out f (t + 1) n gates u h (λ p q. k (omega arith) (omega arith))

-- ---- the first entry of a table

row_found : (f : ℕ → ℕ → Option ℕ) (t g n : ℕ) (w : List Entry) (k c : ℕ) → g ≤ k → k < g + n → ((h : ℕ) → g ≤ h → h < k → f t h ≡ None) → f t k ≡ Some c → (rest : List Entry) × (row f t g n w ≡ entry t k c ∷ rest)
row_found f t g zero w k c p q free is = absurd (omega arith)
row_found f t g (suc n) w k c p q free is = ⊎_elim
    (λ e. (row f t (g + 1) n w, ap (λ o. with_code t g o (row f t (g + 1) n w)) (ap (f t) e ∙ is) ∙ ap (λ z. entry t z c ∷ row f t (g + 1) n w) e))
    (λ m. let r = row_found f t (g + 1) n w k c (omega arith) (omega arith) (λ h a b. free h (omega arith) b) is in
    (r.0, ap (λ o. with_code t g o (row f t (g + 1) n w)) (free g (omega arith) (omega arith)) ∙ r.1))
    (cases_eq g k)

row_none : (f : ℕ → ℕ → Option ℕ) (t g n : ℕ) (w : List Entry) → ((h : ℕ) → g ≤ h → h < g + n → f t h ≡ None) → row f t g n w ≡ w
row_none f t g zero w free = refl
row_none f t g (suc n) w free = ap (λ o. with_code t g o (row f t (g + 1) n w)) (free g (omega arith) (omega arith)) ∙ row_none f t (g + 1) n w (λ h a b. free h (omega arith) (omega arith))

pub rows_none : (f : ℕ → ℕ → Option ℕ) (t n G : ℕ) → ((u h : ℕ) → t ≤ u → u < t + n → h < G → f u h ≡ None) → rows f t n G ≡ []
unfolding rows
rows_none f t zero G free = refl
rows_none f t (suc n) G free = row_none f t 0 G (rows f (t + 1) n G) (λ h a b. free t h (omega arith) (omega arith) (omega arith)) ∙ rows_none f (t + 1) n G (λ u h a b d. free u h (omega arith) (omega arith) d)

pub rows_found : (f : ℕ → ℕ → Option ℕ) (t n G v k c : ℕ) → t ≤ v → v < t + n → k < G → f v k ≡ Some c → ((h : ℕ) → h < k → f v h ≡ None) → ((u h : ℕ) → t ≤ u → u < v → h < G → f u h ≡ None) → (rest : List Entry) × (rows f t n G ≡ entry v k c ∷ rest)
unfolding rows
rows_found f t zero G v k c p q l is low free = absurd (omega arith)
rows_found f t (suc n) G v k c p q l is low free = ⊎_elim
    (λ e. let r = row_found f t 0 G (rows f (t + 1) n G) k c (omega arith) (omega arith) (λ h a b. ap (λ z. f z h) e ∙ low h b) (ap (λ z. f z k) e ∙ is) in
    (r.0, r.1 ∙ ap (λ z. entry z k c ∷ r.0) e))
    (λ m. let r = rows_found f (t + 1) n G v k c (omega arith) (omega arith) l is low (λ u h a b d. free u h (omega arith) b d) in
    (r.0, row_none f t 0 G (rows f (t + 1) n G) (λ h a b. free t h (omega arith) (omega arith) (omega arith)) ∙ r.1))
    (cases_eq t v)

-- ---- whether an entry of a tick and gate waits

turned : (a b x y : ℕ) → (eqb a x && eqb b y) ≡ (eqb x a && eqb y b)
turned a b x y = grind (arith, nat_tests)

pub waits_none : (e : Entry) (w : List Entry) → code_at e.tick e.gate w ≡ None → waits e w ≡ false
waits_none e [] h = refl
waits_none e (x ∷ w) h = by_test (eqb x.tick e.tick && eqb x.gate e.gate) refl h (λ k. waits_none e w k)
  where
    by_test : (b : Bool) → (eqb x.tick e.tick && eqb x.gate e.gate) ≡ b → cond b (Some x.code) (code_at e.tick e.gate w) ≡ None → (code_at e.tick e.gate w ≡ None → waits e w ≡ false) → waits e (x ∷ w) ≡ false
    by_test true p k ih = let z : ◌≡◌ {A = ℕ} 0 1 = cc in absurd (omega arith)
    by_test false p k ih = or_from (same_slot e x) (waits e w) (turned e.tick e.gate x.tick x.gate ∙ p) (ih k)

pub waits_some : (e : Entry) (c : ℕ) (w : List Entry) → code_at e.tick e.gate w ≡ Some c → waits e w ≡ true
waits_some e c [] h = let z : ◌≡◌ {A = ℕ} 0 1 = cc in absurd (omega arith)
waits_some e c (x ∷ w) h = by_test (eqb x.tick e.tick && eqb x.gate e.gate) refl h (λ k. waits_some e c w k)
  where
    by_test : (b : Bool) → (eqb x.tick e.tick && eqb x.gate e.gate) ≡ b → cond b (Some x.code) (code_at e.tick e.gate w) ≡ Some c → (code_at e.tick e.gate w ≡ Some c → waits e w ≡ true) → waits e (x ∷ w) ≡ true
    by_test true p k ih = or_left (same_slot e x) (waits e w) (turned e.tick e.gate x.tick x.gate ∙ p)
    by_test false p k ih = or_right (same_slot e x) (waits e w) (ih k)

swap_or : (a b c : Bool) → (a || (b || c)) ≡ (b || (a || c))
swap_or true true c = refl
swap_or true false c = refl
swap_or false true c = refl
swap_or false false c = refl

pub waits_placed : (e x : Entry) (xs : List Entry) → waits e (placed before x xs) ≡ (same_slot e x || waits e xs)
waits_placed e x [] = refl
waits_placed e x (y ∷ xs) = elim (before y x) as (λ b. waits e (cond b (y ∷ placed before x xs) (x ∷ y ∷ xs)) ≡ (same_slot e x || (same_slot e y || waits e xs))) [ true ↦ ap (λ b. same_slot e y || b) (waits_placed e x xs) ∙ swap_or (same_slot e y) (same_slot e x) (waits e xs) | false ↦ refl ]

-- ---- a table of 65 rows

-- two places of such a table are one only where gate and row are
pub one_place : (G u h t g : ℕ) → h < G → g < G → slot G u h ≡ slot G t g → (u % 65 ≡ t % 65) × (h ≡ g)
one_place G u h t g p q e = (
  sym (div-mul-add (u % 65) G h p) ∙ ap (λ z. z / G) e ∙ div-mul-add (t % 65) G g q,
  sym (mod-mul-add (u % 65) G h p) ∙ ap (λ z. z % G) e ∙ mod-mul-add (t % 65) G g q,
)

-- of 65 ticks in a row no two have one row
pub one_tick : (today u t : ℕ) → u % 65 ≡ t % 65 → today ≤ u → u < today + 65 → today ≤ t → t < today + 65 → u ≡ t
one_tick today u t e a b c d = omega arith

pub round : (today u : ℕ) → today ≤ u → u % 65 ≡ (today + (u - today) % 65) % 65
round today u l = omega arith

pub in_table : (G n t g : ℕ) → 65 * G ≤ n → g < G → slot G t g < n
in_table G n t g wide q = omega (arith, mul-add-lt (t % 65) G g 65 (omega arith) q)

-- ---- what a turn finds

pub sooner : (u h t : ℕ) → u < t → lex2 u h t 0 ≡ true
sooner u h t l = grind (arith, nat_tests)

from_tick : (x y t : ℕ) → ltb x t ≡ false → not (lex2 x y t 0) ≡ true
from_tick x y t h = grind (arith, nat_tests)

pub begins : (w : List Entry) (t : ℕ) → before_tick w t ≡ false → starts t 0 w ≡ true
begins [] t h = refl
begins (x ∷ w) t h = from_tick x.tick x.gate t h
