-- The entries that wait are exactly those that are due.
use Rattle.std.proofs.Common.{◌≡◌, ℕ, ◌+◌, ◌-◌, ◌<◌, ◌≤◌, Bool, true, false, cond, not, ◌&&◌, eqb, leb, List, [], ◌∷◌, ◌++◌, sym, refl, ap, ◌∙◌, subst, inl, inr, arith}
use Rattle.std.specs.List.{range_with_len, flat_map, ContainsAt as Has, AllByRecursion}
use Rattle.std.proofs.ByRecursion.{all-has, has_append_left, has_append_right, has_push}
use Rattle.std.proofs.lemmas.Bool.{and_parts, and_from, leb-true, le-leb, not-true, not_from_false, eqb-false, ne_eqb}
use Rattle.logic.specs.Logic.{Logic, Laws}
use Rattle.netlist.specs.Board.{Board}
use Rattle.signal.specs.Circuit.{gate, gate_count}
use Rattle.calendar.specs.declared.entry.Entry.{Entry}
use Rattle.signal.specs.Calls.{State, drives, entry, waiting_after}
use Rattle.signal.specs.Ordered.{Ordered}
use Rattle.signal.specs.Waiting.{Due, WaitingExactly, Sooner, WaitingOrdered}
use Rattle.signal.proofs.Ordering.{all_joined, ordered_joined, across}
use Rattle.signal.proofs.Rows.{counting_all}
use Rattle.signal.proofs.Grid.{joined_around, grid_all}

pub has_joined : {A : Type 0} (f : ℕ → List A) (a m k : ℕ) (x : A) → a ≤ k → k < a + m → Has (f k) x → Has (flat_map f (range_with_len a m)) x
has_joined f a m k x low high h =
    subst (λ l. Has l x) (sym (joined_around f a m k low high))
    (has_append_right (flat_map f (range_with_len a (k - a))) (f k ++ flat_map f (range_with_len (k + 1) (a + m - (k + 1)))) x (has_append_left (f k) (flat_map f (range_with_len (k + 1) (a + m - (k + 1)))) x h))

module _ {V : Type 0} {L : Logic V} (laws : Laws L) where
  pub waiting_exactly : WaitingExactly L
  waiting_exactly C ok s t x = (to, from)
    where
      test : ℕ → ℕ → Bool
      test u g = leb u (t + (gate C g).delay) && not (eqb (L.code (drives L C s g u)) (L.code (drives L C s g (u - 1))))

      made : ℕ → ℕ → Entry
      made u g = record { tick = u; gate = g; code = L.code (drives L C s g u) }

      to : Has (waiting_after L C s t) x → Due L C s t x
      to = all-has (Due L C s t) (waiting_after L C s t) x (grid_all made (Due L C s t) test (t + 1) 64 (gate_count C) (λ u g p q r on.
          let both = and_parts (leb u (t + (gate C g).delay)) (not (eqb (L.code (drives L C s g u)) (L.code (drives L C s g (u - 1))))) on in
          record {
            of_gate = r;
            later = omega arith;
            soon = leb-true u (t + (gate C g).delay) both.0;
            differs = λ e. eqb-false (L.code (drives L C s g u)) (L.code (drives L C s g (u - 1))) (not-true (eqb (L.code (drives L C s g u)) (L.code (drives L C s g (u - 1)))) both.1) (ap L.code e);
            coded = refl;
          }))

      from : Due L C s t x → Has (waiting_after L C s t) x
      from due =
          let u = x.tick in
          let g = x.gate in
          let short = (ok.good g due.of_gate).delay_high in
          let on : test u g ≡ true = and_from (leb u (t + (gate C g).delay)) (not (eqb (L.code (drives L C s g u)) (L.code (drives L C s g (u - 1)))))
          (le-leb u (t + (gate C g).delay) due.soon)
          (not_from_false (eqb (L.code (drives L C s g u)) (L.code (drives L C s g (u - 1)))) (ne_eqb (L.code (drives L C s g u)) (L.code (drives L C s g (u - 1))) (λ e. due.differs (laws.code_equal (drives L C s g u) (drives L C s g (u - 1)) e)))) in
          let is : made u g ≡ x = ap (λ c. record { tick = u; gate = g; code = c }) (sym due.coded) in
          let single : Has (made u g ∷ []) x = subst (Has (made u g ∷ [])) is (has_push [] (made u g)) in
          let here : Has (entry L C s t u g) x = subst (λ b. Has (cond b (made u g ∷ []) []) x) (sym on) single in
          has_joined (λ v. flat_map (entry L C s t v) (range_with_len 0 (gate_count C))) (t + 1) 64 u x (omega (arith, due.later)) (omega (arith, due.soon))
          (has_joined (entry L C s t u) 0 (gate_count C) g x (omega arith) (omega (arith, due.of_gate)) here)

module _ {V : Type 0} (L : Logic V) (C : Board) (s : State V) (t : ℕ) where
  -- what holds of an entry of gate g for tick u holds of all that waits of them, one at most
  entry_all : (P : Entry → Type 0) (u g : ℕ) → ((k : ℕ) → P (record { tick = u; gate = g; code = k })) → AllByRecursion P (entry L C s t u g)
  entry_all P u g h = by (leb u (t + (gate C g).delay) && not (eqb (L.code (drives L C s g u)) (L.code (drives L C s g (u - 1)))))
    where
      by : (b : Bool) → AllByRecursion P (cond b (record { tick = u; gate = g; code = L.code (drives L C s g u) } ∷ []) [])
      by true = (h (L.code (drives L C s g u)), tt)
      by false = tt

  entry_ordered : (u g : ℕ) → Ordered Sooner (entry L C s t u g)
  entry_ordered u g = by (leb u (t + (gate C g).delay) && not (eqb (L.code (drives L C s g u)) (L.code (drives L C s g (u - 1)))))
    where
      by : (b : Bool) → Ordered Sooner (cond b (record { tick = u; gate = g; code = L.code (drives L C s g u) } ∷ []) [])
      by true = (tt, tt)
      by false = tt

  -- the entries of a tick
  abbrev at : ℕ → List Entry
  at u = flat_map (entry L C s t u) (range_with_len 0 (gate_count C))

  at_tick : (u : ℕ) → AllByRecursion (λ (x : Entry). x.tick ≡ u) (at u)
  at_tick u = all_joined (entry L C s t u) (λ (x : Entry). x.tick ≡ u) (range_with_len 0 (gate_count C))
      (counting_all (λ g. AllByRecursion (λ (x : Entry). x.tick ≡ u) (entry L C s t u g)) 0 (gate_count C) (λ g _ _. entry_all (λ (x : Entry). x.tick ≡ u) u g (λ k. refl)))

  entries_ordered : Ordered Sooner (waiting_after L C s t)
  entries_ordered = ordered_joined Sooner at (t + 1) 64
      (λ u. ordered_joined Sooner (entry L C s t u) 0 (gate_count C) (entry_ordered u) (λ g h lt.
      across Sooner (λ (x : Entry). (x.tick ≡ u) × (x.gate ≡ g)) (λ (y : Entry). (y.tick ≡ u) × (y.gate ≡ h)) (entry L C s t u g) (entry L C s t u h)
      (λ x y p q. inr (p.0 ∙ sym q.0, omega (arith, p.1, q.1))) (entry_all (λ (x : Entry). (x.tick ≡ u) × (x.gate ≡ g)) u g (λ k. (refl, refl))) (entry_all (λ (y : Entry). (y.tick ≡ u) × (y.gate ≡ h)) u h (λ k. (refl, refl)))))
      (λ u v lt. across Sooner (λ (x : Entry). x.tick ≡ u) (λ (y : Entry). y.tick ≡ v) (at u) (at v) (λ x y p q. inl (omega (arith, p, q))) (at_tick u) (at_tick v))

pub waiting_ordered : {V : Type 0} (L : Logic V) → WaitingOrdered L
waiting_ordered L C s t = entries_ordered L C s t
