-- What is joined in order from parts in order is in order.
use Rattle.std.proofs.Common.{ℕ, zero, suc, ◌+◌, ◌<◌, ◌≤◌, List, [], ◌∷◌, ◌++◌, arith}
use Rattle.std.specs.List.{range_with_len, flat_map, AllByRecursion}
use Rattle.std.proofs.ByRecursion.{All-append, All-weaker}
use Rattle.signal.specs.Ordered.{Ordered}
use Rattle.signal.proofs.Rows.{all_each, all_both}

pub all_joined : {X A : Type 0} (f : X → List A) (P : A → Type 0) (xs : List X) → AllByRecursion (λ x. AllByRecursion P (f x)) xs → AllByRecursion P (flat_map f xs)
all_joined f P [] h = tt
all_joined f P (x ∷ xs) h = All-append P (f x) (flat_map f xs) h.0 (all_joined f P xs h.1)

module _ {X : Type 0} (Before : X → X → Type 0) where
  -- all of xs come before all of ys
  abbrev pub Across : List X → List X → Type 0
  Across xs ys = AllByRecursion (λ x. AllByRecursion (Before x) ys) xs

  pub ordered_append : (xs ys : List X) → Ordered Before xs → Ordered Before ys → Across xs ys → Ordered Before (xs ++ ys)
  ordered_append [] ys h g c = g
  ordered_append (x ∷ xs) ys h g c = (All-append (Before x) xs ys h.0 c.0, ordered_append xs ys h.1 g c.1)

  across_joined : (xs : List X) (f : ℕ → List X) (a m : ℕ) → ((k : ℕ) → a ≤ k → Across xs (f k)) → Across xs (flat_map f (range_with_len a m))
  across_joined xs f a zero h = all_each (λ x. AllByRecursion (Before x) []) (λ x. tt) xs
  across_joined xs f a (suc m) h =
      all_both (λ x. AllByRecursion (Before x) (f a)) (λ x. AllByRecursion (Before x) (flat_map f (range_with_len (a + 1) m))) (λ x. AllByRecursion (Before x) (f a ++ flat_map f (range_with_len (a + 1) m)))
      (λ x p q. All-append (Before x) (f a) (flat_map f (range_with_len (a + 1) m)) p q) xs (h a (omega arith)) (across_joined xs f (a + 1) m (λ k le. h k (omega arith)))

  -- part upon part, each before those of higher numbers
  pub ordered_joined : (f : ℕ → List X) (a m : ℕ) → ((k : ℕ) → Ordered Before (f k)) → ((k l : ℕ) → k < l → Across (f k) (f l)) → Ordered Before (flat_map f (range_with_len a m))
  ordered_joined f a zero each cross = tt
  ordered_joined f a (suc m) each cross =
      ordered_append (f a) (flat_map f (range_with_len (a + 1) m)) (each a) (ordered_joined f (a + 1) m each cross) (across_joined (f a) f (a + 1) m (λ k le. cross a k (omega arith)))

  -- what holds of all of xs and what holds of all of ys put xs before ys
  pub across : (P Q : X → Type 0) (xs ys : List X) → ((x y : X) → P x → Q y → Before x y) → AllByRecursion P xs → AllByRecursion Q ys → Across xs ys
  across P Q xs ys h p q = All-weaker P (λ x. AllByRecursion (Before x) ys) (λ x px. All-weaker Q (Before x) (λ y qy. h x y px qy) ys q) xs p
