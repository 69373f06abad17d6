-- The bytes of the records of some nets.
use Rattle.std.proofs.Common.{◌≡◌, ℕ, ◌+◌, ◌*◌, ◌<◌, ◌≤◌, Bool, true, false, cond, eqb, List, [], ◌∷◌, ◌++◌, length, get_or, take, ap, ◌∙◌, arith}
use Rattle.std.specs.List.{flat_map}
use Rattle.std.proofs.lemmas.List.{length-append, append-nil, take_more}
use Rattle.logic.specs.Logic.{Logic}
use Rattle.netlist.specs.Board.{Board}
use Rattle.signal.specs.Calls.{Change, change_bytes}
use Rattle.std.proofs.lemmas.Grind.{flat_map-append}
use Rattle.signal.proofs.Advancing.{length_bytes}
use Rattle.tick.specs.Reported.{change_of, made}

module _ {V : Type 0} (L : Logic V) (C : Board) (old new : List V) (t : ℕ) where
  few : (ws : List ℕ) → length (flat_map (change_of L C old new t) ws) ≤ length ws
  few [] = omega arith
  few (w ∷ ws) =
      omega (arith, length-append (change_of L C old new t w) (flat_map (change_of L C old new t) ws), one (eqb (L.code (get_or new w L.unset)) (L.code (get_or old w L.unset))), few ws)
    where
      one : (b : Bool) → length {A = Change} (cond b [] (made t w (L.code (get_or new w L.unset)) ∷ [])) ≤ 1
      one true = omega arith
      one false = omega arith

  pub bytes_few : (ws : List ℕ) → length (flat_map change_bytes (flat_map (change_of L C old new t) ws)) ≤ 8 * length ws
  bytes_few ws = omega (arith, few ws, length_bytes (flat_map (change_of L C old new t) ws))

  pub bytes_more : (ws : List ℕ) (i : ℕ) → i < length ws →
      flat_map change_bytes (flat_map (change_of L C old new t) (take (i + 1) ws)) ≡ flat_map change_bytes (flat_map (change_of L C old new t) (take i ws)) ++ flat_map change_bytes (change_of L C old new t (get_or ws i 0))
  bytes_more ws i lt =
      let f = change_of L C old new t in
      ap (flat_map change_bytes) (ap (flat_map f) (take_more ws i 0 lt) ∙ flat_map-append f (take i ws) (get_or ws i 0 ∷ []) ∙ ap (λ l. flat_map f (take i ws) ++ l) (append-nil (f (get_or ws i 0))))
      ∙ flat_map-append change_bytes (flat_map f (take i ws)) (f (get_or ws i 0))
