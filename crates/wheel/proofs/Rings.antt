-- What a put, a remove and a look make of a ring's table. Assumes nothing.
use Rattle.std.proofs.Common.{◌≡◌, ℕ, ◌+◌, ◌*◌, ◌%◌, ◌<◌, ◌≤◌, Bool, true, false, cond, ◌&&◌, eqb, List, length, get_or, set, Some, None, sym, refl, ap, ◌∙◌, ⊎_elim, arith, get_or-set_other, get_or-set_same}
use Rattle.std.proofs.lemmas.Bool.{and_from, cond-true, cond-false, cases_eq, cases_lt, both_ways, eq-eqb}
use Rattle.calendar.specs.Table.{slot}
use Rattle.calendar.proofs.Tables.{one_place, in_table}
use Rattle.number_set.specs.Members.{Numbers}
use Rattle.wheel.specs.Roster.{present, Least}
use Rattle.wheel.specs.Rings.{table, Inside}
use Rattle.wheel.proofs.Rosters.{no_match}

-- the roster after one bit was set as `on` says
abbrev pub There : List Numbers → List Numbers → ℕ → ℕ → Bool → Type 0
There ws vs row gate on = (r g : ℕ) → r < 65 → g < 1024 → present vs r g ≡ cond (eqb r row && eqb g gate) on (present ws r g)

module _ (G : ℕ) (ws vs : List Numbers) (codes : List ℕ) (few : G ≤ 1024) (t g : ℕ) (in-gates : g < G) where
  pub removed : There ws vs (t % 65) g false → (u h : ℕ) → h < G → table G vs codes u h ≡ cond (eqb (u % 65) (t % 65) && eqb h g) None (table G ws codes u h)
  removed there u h k =
      ap (λ b. cond b (Some (get_or codes (slot G u h) 0)) None) (there (u % 65) h (omega arith) (omega arith))
      ∙ by_test (eqb (u % 65) (t % 65) && eqb h g)
    where
      by_test : (b : Bool) → cond (cond b false (present ws (u % 65) h)) (Some (get_or codes (slot G u h) 0)) None ≡ cond b None (table G ws codes u h)
      by_test true = refl
      by_test false = refl

  added : (c : ℕ) → 65 * G ≤ length codes → There ws vs (t % 65) g true → (u h : ℕ) → h < G → table G vs (set codes (slot G t g) c) u h ≡ cond (eqb (u % 65) (t % 65) && eqb h g) (Some c) (table G ws codes u h)
  added c wide there u h k =
      ap (λ b. cond b (Some (get_or (set codes (slot G t g) c) (slot G u h) 0)) None) (there (u % 65) h (omega arith) (omega arith))
      ∙ ⊎_elim
      (λ e. let s = one_place G u h t g k in-gates e in
      let yes = and_from _ _ (eq-eqb (u % 65) (t % 65) s.0) (eq-eqb h g s.1) in
      ap (λ b. cond (cond b true (present ws (u % 65) h)) (Some (get_or (set codes (slot G t g) c) (slot G u h) 0)) None) yes
      ∙ ap (λ z. Some (get_or (set codes (slot G t g) c) z 0)) e
      ∙ ap Some (get_or-set_same codes (slot G t g) c 0 (in_table G (length codes) t g wide in-gates))
      ∙ sym (cond-true (eqb (u % 65) (t % 65) && eqb h g) (Some c) (table G ws codes u h) yes))
      (λ n. let no = no_match (u % 65) h (t % 65) g (λ m. n (ap (λ z. z * G + h) m.0 ∙ ap (slot G t) m.1)) in
      ap (λ b. cond (cond b true (present ws (u % 65) h)) (Some (get_or (set codes (slot G t g) c) (slot G u h) 0)) None) no
      ∙ ap (λ z. cond (present ws (u % 65) h) (Some z) None) (get_or-set_other codes (slot G t g) (slot G u h) c 0 n)
      ∙ sym (cond-false (eqb (u % 65) (t % 65) && eqb h g) (Some c) (table G ws codes u h) no))
      (cases_eq (slot G u h) (slot G t g))

  pub put_there : (c i : ℕ) → i ≡ slot G t g → 65 * G ≤ length codes → There ws vs (t % 65) g true → (u h : ℕ) → h < G → table G vs (set codes i c) u h ≡ cond (eqb (u % 65) (t % 65) && eqb h g) (Some c) (table G ws codes u h)
  put_there c i at wide there u h k = ap (λ z. table G vs (set codes z c) u h) at ∙ added c wide there u h k

  pub still_inside : (on : Bool) → There ws vs (t % 65) g on → Inside G ws → Inside G vs
  still_inside on there was = λ r h k.
      there r h k.0 k.2 ∙ cond-false (eqb r (t % 65) && eqb h g) on (present ws r h) (no_match r h (t % 65) g (λ m. omega arith)) ∙ was r h k

module _ (G : ℕ) (ws : List Numbers) (codes : List ℕ) (few : G ≤ 1024) (inside : Inside G ws) (t : ℕ) where
  pub inside_gate : (g : ℕ) → g < 1024 → present ws (t % 65) g ≡ true → g < G
  inside_gate g h p = ⊎_elim (λ l. l) (λ l. absurd (both_ways (present ws (t % 65) g) (inside (t % 65) g (omega arith, l, h)) p)) (cases_lt g G)

  absent : (g : ℕ) → present ws (t % 65) g ≡ false → table G ws codes t g ≡ None
  absent g h = cond-false (present ws (t % 65) g) (Some (get_or codes (slot G t g) 0)) None h

  pub row_empty : Least ws (t % 65) None → (h : ℕ) → h < G → table G ws codes t h ≡ None
  row_empty least h k = absent h (least h (omega arith))

  pub row_first : (g : ℕ) → Least ws (t % 65) (Some g) → (g < G) × (table G ws codes t g ≡ Some (get_or codes (slot G t g) 0)) × ((h : ℕ) → h < g → table G ws codes t h ≡ None)
  row_first g least = (
    inside_gate g least.0 least.1,
    cond-true (present ws (t % 65) g) (Some (get_or codes (slot G t g) 0)) None least.1,
    λ h k. absent h (least.2 h k),
  )
