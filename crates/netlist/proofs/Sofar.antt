-- What a filled table says of its checks, and what a refused entry says. Assumes nothing.
use Rattle.std.proofs.Common.{◌≡◌, ℕ, ◌<◌, ◌≤◌, List, map, length, get_or, Some, None, Ok, Err, Option, Result, refl, arith}
use Rattle.std.specs.List.{range_with_len}
use Rattle.std.proofs.lemmas.List.FromFn.{fill_by_all}
use Rattle.netlist.specs.Answers.{answer, first_fault}
use Rattle.netlist.specs.Tables.{FilledTo, StoppedBy}
use Rattle.netlist.proofs.Firsts.{first_all, first_found}

module _ {T F : Type 0} (o : Option F) (x : T) where
  pub answer_err : (e : F) → Err e ≡ answer o x → o ≡ Some e
  answer_err e h = elim o as (λ o. Err e ≡ answer o x → o ≡ Some e) [ Some d ↦ λ k. cc | None ↦ λ k. cc ] h

  pub answer_ok : (y : T) → Ok y ≡ answer o x → (o ≡ None) × (y ≡ x)
  answer_ok y h = elim o as (λ o. Ok y ≡ answer o x → (o ≡ None) × (y ≡ x)) [ Some d ↦ λ k. (cc, cc) | None ↦ λ k. (refl, cc) ] h

-- each call k answers check k's fault, or value k
module _ {T F : Type 0} (check : ℕ → Option F) (value : ℕ → T) {may : ℕ → Result T F → Type 0} {xs : List T} (n : ℕ) (long : length xs ≡ n) where
  each : (m : ℕ) → m ≤ n → FilledTo may xs m → ((k : ℕ) (r : Result T F) → k < n → may k r → r ≡ answer (check k) (value k)) → (k : ℕ) → k < m → (check k ≡ None) × (get_or xs k (value 0) ≡ value k)
  each m le held says k lt = answer_ok (check k) (value k) _ (says k _ (omega arith) (held.each k (value 0) lt))

  pub filled : FilledTo may xs n → ((k : ℕ) (r : Result T F) → k < n → may k r → r ≡ answer (check k) (value k)) → (first_fault check n ≡ None) × (xs ≡ map value (range_with_len 0 n))
  filled held says = (
    first_all check n (λ k lt. (each n (omega arith) held says k lt).0),
    fill_by_all value xs n (value 0) long (λ k lt. (each n (omega arith) held says k lt).1),
  )

  pub stopped : {e : F} → StoppedBy may xs e → ((k : ℕ) (r : Result T F) → k < n → may k r → r ≡ answer (check k) (value k)) → first_fault check n ≡ Some e
  stopped {e} s says =
      let lt : s.at < n = omega (arith, long, s.inside) in
      first_found check e s.at n (first_all check s.at (λ k before. (each s.at (omega arith) s.before says k before).0)) (answer_err (check s.at) (value s.at) e (says s.at _ lt s.refused)) lt
