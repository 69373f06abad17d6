-- The steps of an advance.
use Rattle.std.proofs.Common.{◌≡◌, ℕ, zero, suc, ◌+◌, ◌-◌, ◌*◌, ◌<◌, ◌≤◌, Bool, true, false, cond, eqb, List, [], ◌∷◌, ◌++◌, length, refl, ap, ◌∙◌, arith}
use Rattle.std.specs.List.{range_with_len, flat_map}
use Rattle.std.proofs.lemmas.List.{length-append, append-nil}
use Rattle.std.proofs.lemmas.Bool.{lt-ltb, le-ltb}
use Rattle.logic.specs.Logic.{Logic}
use Rattle.netlist.specs.Board.{Board}
use Rattle.signal.specs.Calls.{State, Change, change_bytes, change, changes_at, completes, tick_room, level, level_before}
use Rattle.std.proofs.lemmas.Grind.{flat_map-append}
use Rattle.signal.proofs.Rows.{counting_append}

-- a record has 8 bytes
pub length_bytes : (cs : List Change) → length (flat_map change_bytes cs) ≡ 8 * length cs
length_bytes [] = refl
length_bytes (c ∷ cs) = omega (arith, length-append (change_bytes c) (flat_map change_bytes cs), length_bytes cs)

module _ {V : Type 0} (L : Logic V) (C : Board) (s : State V) where
  few : (t : ℕ) (ws : List ℕ) → length (flat_map (change L C s t) ws) ≤ length ws
  few t [] = omega arith
  few t (w ∷ ws) =
      omega (arith, length-append (change L C s t w) (flat_map (change L C s t) ws), one (eqb (L.code (level L C s w t)) (L.code (level_before L C s w t))), few t ws)
    where
      one : (b : Bool) → length {A = Change} (cond b [] (record { tick = t; net = w; code = L.code (level L C s w t) } ∷ [])) ≤ 1
      one true = omega arith
      one false = omega arith

  -- a tick writes no more than its room
  pub tick_fits : (t : ℕ) → 8 * length (changes_at L C s t) ≤ tick_room L C
  tick_fits t = omega (arith, few t C.watches)

  pub completes_stop : (k t room : ℕ) → room < tick_room L C → completes L C s k t room ≡ 0
  completes_stop zero t room h = refl
  completes_stop (suc k) t room h = rw (lt-ltb room (tick_room L C) h, completes)

  pub completes_go : (k t room : ℕ) → tick_room L C ≤ room → completes L C s (suc k) t room ≡ suc (completes L C s k (t + 1) (room - 8 * length (changes_at L C s t)))
  completes_go k t room h = rw (le-ltb room (tick_room L C) h, completes)

  -- one tick more
  pub written_more : (t m : ℕ) → flat_map (changes_at L C s) (range_with_len t (m + 1)) ≡ flat_map (changes_at L C s) (range_with_len t m) ++ changes_at L C s (t + m)
  written_more t m =
      let f = changes_at L C s in
      ap (flat_map f) (counting_append t m 1) ∙ flat_map-append f (range_with_len t m) (range_with_len (t + m) 1) ∙ ap (λ l. flat_map f (range_with_len t m) ++ l) (append-nil (f (t + m)))
