-- No more entries wait than the delays add up to.
use Rattle.std.proofs.Common.{◌≡◌, ℕ, zero, suc, ◌+◌, ◌-◌, ◌≤◌, Bool, true, false, cond, not, ◌&&◌, eqb, leb, List, [], ◌∷◌, map, length, sum_by, sym, refl, ap, ◌∙◌, ⊎_elim, arith}
use Rattle.std.specs.List.{range_with_len, flat_map}
use Rattle.std.proofs.lemmas.List.{length-append}
use Rattle.std.proofs.lemmas.List.Sums.{sum_by-cons}
use Rattle.std.proofs.lemmas.List.FromFn.{fill_by_all}
use Rattle.std.proofs.lemmas.Bool.{le-leb, lt-leb, cases_lt}
use Rattle.logic.specs.Logic.{Logic}
use Rattle.netlist.specs.Board.{Board}
use Rattle.netlist.specs.Parts.{blank}
use Rattle.signal.specs.Circuit.{gate, gate_count}
use Rattle.calendar.specs.declared.entry.Entry.{Entry}
use Rattle.signal.specs.Calls.{State, entry, waiting_after, waiting, drives}

-- a sum over a list, from the front
abbrev Σ : {X : Type 0} → (X → ℕ) → List X → ℕ
Σ f [] = 0
Σ f (x ∷ xs) = f x + Σ f xs

module _ {X : Type 0} where
  Σ_is : (f : X → ℕ) (xs : List X) → Σ f xs ≡ sum_by f xs
  Σ_is f [] = refl
  Σ_is f (x ∷ xs) = ap (λ n. f x + n) (Σ_is f xs) ∙ sym (sum_by-cons f x xs)

  Σ_le : (f g : X → ℕ) → ((x : X) → f x ≤ g x) → (xs : List X) → Σ f xs ≤ Σ g xs
  Σ_le f g h [] = omega arith
  Σ_le f g h (x ∷ xs) = omega (arith, h x, Σ_le f g h xs)

  Σ_add : (f g : X → ℕ) (xs : List X) → Σ (λ x. f x + g x) xs ≡ Σ f xs + Σ g xs
  Σ_add f g [] = refl
  Σ_add f g (x ∷ xs) = omega (arith, Σ_add f g xs)

  Σ_zero : (xs : List X) → Σ (λ x. 0) xs ≡ 0
  Σ_zero [] = refl
  Σ_zero (x ∷ xs) = omega (arith, Σ_zero xs)

  length_joined : {A : Type 0} (f : X → List A) (xs : List X) → length (flat_map f xs) ≡ Σ (λ x. length (f x)) xs
  length_joined f [] = refl
  length_joined f (x ∷ xs) = length-append (f x) (flat_map f xs) ∙ ap (λ n. length (f x) + n) (length_joined f xs)

  Σ_map : {Y : Type 0} (f : X → ℕ) (h : Y → X) (ys : List Y) → Σ f (map h ys) ≡ Σ (λ y. f (h y)) ys
  Σ_map f h [] = refl
  Σ_map f h (y ∷ ys) = ap (λ n. f (h y) + n) (Σ_map f h ys)

Σ_swap : {X Y : Type 0} (f : X → Y → ℕ) (xs : List X) (ys : List Y) → Σ (λ x. Σ (f x) ys) xs ≡ Σ (λ y. Σ (λ x. f x y) xs) ys
Σ_swap f [] ys = sym (Σ_zero ys)
Σ_swap f (x ∷ xs) ys = ap (λ n. Σ (f x) ys + n) (Σ_swap f xs ys) ∙ sym (Σ_add (f x) (λ y. Σ (λ z. f z y) xs) ys)

-- how many numbers from a on, of n in a row, do not exceed b
within : (a n b : ℕ) → Σ (λ u. cond (leb u b) 1 0) (range_with_len a n) ≤ b + 1 - a
within a zero b = omega arith
within a (suc n) b =
    let rest = within (a + 1) n b in
    ⊎_elim
    (λ h. rw (lt-leb a b h) (omega arith))
    (λ h. rw (le-leb a b h) (omega arith))
    (cases_lt b a)

delays_sum : (C : Board) → Σ (λ g. (gate C g).delay) (range_with_len 0 (gate_count C)) ≡ sum_by (λ g. g.delay) C.gates
delays_sum C =
    let all : C.gates ≡ map (gate C) (range_with_len 0 (gate_count C)) = fill_by_all (gate C) C.gates (gate_count C) blank refl (λ k lt. refl) in
    sym (Σ_map (λ g. g.delay) (gate C) (range_with_len 0 (gate_count C))) ∙ ap (Σ (λ g. g.delay)) (sym all) ∙ Σ_is (λ g. g.delay) C.gates

-- one thing at most for each gate and each of its delay's ticks after t, over any number m of ticks
pub spread : {X : Type 0} (C : Board) (t m : ℕ) (f : ℕ → ℕ → List X) → ((u g : ℕ) → length (f u g) ≤ cond (leb u (t + (gate C g).delay)) 1 0) →
    length (flat_map (λ u. flat_map (f u) (range_with_len 0 (gate_count C))) (range_with_len (t + 1) m)) ≤ sum_by (λ g. g.delay) C.gates
spread {X} C t m f few =
    let gs = range_with_len 0 (gate_count C) in
    let us = range_with_len (t + 1) m in
    let h : ℕ → ℕ → ℕ = λ u g. cond (leb u (t + (gate C g).delay)) 1 0 in
    let count : length (flat_map (λ u. flat_map (f u) gs) us) ≡ Σ (λ u. length (flat_map (f u) gs)) us = length_joined (λ u. flat_map (f u) gs) us in
    let more : Σ (λ u. length (flat_map (f u) gs)) us ≤ Σ (λ u. Σ (h u) gs) us =
    Σ_le (λ u. length (flat_map (f u) gs)) (λ u. Σ (h u) gs) (λ u. omega (arith, length_joined (f u) gs, Σ_le (λ g. length (f u g)) (h u) (few u) gs)) us in
    let swap = Σ_swap h us gs in
    let each : Σ (λ g. Σ (λ u. h u g) us) gs ≤ Σ (λ g. (gate C g).delay) gs =
    Σ_le (λ g. Σ (λ u. h u g) us) (λ g. (gate C g).delay) (λ g. omega (arith, within (t + 1) m (t + (gate C g).delay))) gs in
    omega (arith, count, more, swap, each, delays_sum C)

module _ {V : Type 0} (L : Logic V) (C : Board) (s : State V) where
  entry_few : (t u g : ℕ) → length (entry L C s t u g) ≤ cond (leb u (t + (gate C g).delay)) 1 0
  entry_few t u g = by (leb u (t + (gate C g).delay)) (not (eqb (L.code (drives L C s g u)) (L.code (drives L C s g (u - 1)))))
    where
      by : (b c : Bool) → length {A = Entry} (cond (b && c) (record { tick = u; gate = g; code = L.code (drives L C s g u) } ∷ []) []) ≤ cond b 1 0
      by true true = omega arith
      by true false = omega arith
      by false c = omega arith

  pub waiting_few : length (waiting L C s) ≤ sum_by (λ g. g.delay) C.gates
  waiting_few = by s.ticks
    where
      by : (k : ℕ) → length {A = Entry} (elim k [ zero ↦ [] | suc t ↦ waiting_after L C s t ]) ≤ sum_by (λ g. g.delay) C.gates
      by zero = omega arith
      by (suc t) = spread C t 64 (entry L C s t) (entry_few t)
