-- A table that is filled from its start. Assumes nothing.
use Rattle.std.proofs.Common.{◌≡◌, ℕ, ◌-◌, ◌<◌, ◌≤◌, List, ◌++◌, map, length, get_or, drop, replicate, None, Ok, Option, sym, ◌∙◌, arith, length-append}
use lib.ListN.{length-replicate}
use Rattle.std.specs.List.{range_with_len}
use Rattle.std.proofs.lemmas.List.FromFn.{length-map-range_with_len, get_or-map-range_with_len}
use Rattle.std.proofs.lemmas.List.{drop-replicate, get_or_append_left}
use Rattle.netlist.specs.Answers.{answer}
use Rattle.netlist.specs.Parts.{table}

-- what a table holds whose first n entries were filled
pub table_filled : {X F : Type 0} (x : X) (ys xs : List X) (n : ℕ) (o : Option F) → o ≡ None → ys ≡ xs → length ys ≡ n → Ok (ys ++ drop n (replicate 1024 x)) ≡ answer o (table x xs)
table_filled x ys xs n o none same long = rw (none, sym same, long, drop-replicate n 1024 x)

module _ {X : Type 0} (x : X) (f : ℕ → X) where
  pub table_at : (n k : ℕ) → k < n → get_or (table x (map f (range_with_len 0 n))) k x ≡ f k
  table_at n k lt =
      let m = length-map-range_with_len f 0 n in
      let inside : k < length (map f (range_with_len 0 n)) = omega (arith, m) in
      get_or_append_left (map f (range_with_len 0 n)) _ x k inside ∙ get_or-map-range_with_len f 0 n k k x lt (omega arith)

  pub length_table : (n : ℕ) → n ≤ 1024 → length (table x (map f (range_with_len 0 n))) ≡ 1024
  length_table n le =
      let m = length-map-range_with_len f 0 n in
      let a = length-append (map f (range_with_len 0 n)) (replicate (1024 - length (map f (range_with_len 0 n))) x) in
      let r = length-replicate (1024 - length (map f (range_with_len 0 n))) x in
      omega (arith, a, r, m)
