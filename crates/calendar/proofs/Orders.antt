-- Lists in order. Assumes nothing.
use Rattle.std.proofs.Common.{◌≡◌, ℕ, zero, suc, ◌<◌, Bool, true, false, cond, List, [], ◌∷◌, length, get_or, set, sym, refl, ap, ◌∙◌, ⊎_elim, arith, length-set, get_or-set_other, get_or-set_same}
use Rattle.std.specs.List.Sorted.{IsPermutation}
use Rattle.std.specs.List.{swap, AllByRecursion}
use Rattle.std.proofs.lemmas.List.Sorted.{IsPermutation-keeps}
use Rattle.std.proofs.lemmas.Bool.{both_ways, cases_eq}
use Rattle.calendar.specs.Order.{Strict, placed, in_order}

module _ {X : Type 0} (lt : X → X → Bool) where
  -- e taken from its place
  abbrev displaced : X → List X → List X
  displaced e [] = []
  displaced e (x ∷ xs) = cond (lt x e) (x ∷ displaced e xs) xs

  pub length_placed : (e : X) (xs : List X) → length (placed lt e xs) ≡ suc (length xs)
  length_placed e [] = refl
  length_placed e (x ∷ xs) = elim (lt x e) as (λ b. length (cond b (x ∷ placed lt e xs) (e ∷ x ∷ xs)) ≡ suc (suc (length xs))) [ true ↦ ap suc (length_placed e xs) | false ↦ refl ]

  pub length_in_order : (xs : List X) → length (in_order lt xs) ≡ length xs
  length_in_order [] = refl
  length_in_order (x ∷ xs) = length_placed x (in_order lt xs) ∙ ap suc (length_in_order xs)

  all_placed : (P : X → Type 0) (e : X) (xs : List X) → P e → AllByRecursion P xs → AllByRecursion P (placed lt e xs)
  all_placed P e [] p h = (p, tt)
  all_placed P e (x ∷ xs) p h = elim (lt x e) as (λ b. AllByRecursion P (cond b (x ∷ placed lt e xs) (e ∷ x ∷ xs))) [ true ↦ (h.0, all_placed P e xs p h.1) | false ↦ (p, h) ]

  pub all_in_order : (P : X → Type 0) (xs : List X) → AllByRecursion P xs → AllByRecursion P (in_order lt xs)
  all_in_order P [] h = tt
  all_in_order P (x ∷ xs) h = all_placed P x (in_order lt xs) h.0 (all_in_order P xs h.1)

  -- what nothing comes before stands first
  placed_first : (e : X) (xs : List X) → AllByRecursion (λ x. lt x e ≡ false) xs → placed lt e xs ≡ e ∷ xs
  placed_first e [] h = refl
  placed_first e (x ∷ xs) h = ap (λ b. cond b (x ∷ placed lt e xs) (e ∷ x ∷ xs)) h.0

  pub first_in_order : (e : X) (xs : List X) → AllByRecursion (λ x. lt x e ≡ false) xs → in_order lt (e ∷ xs) ≡ e ∷ in_order lt xs
  first_in_order e xs h = placed_first e (in_order lt xs) (all_in_order (λ x. lt x e ≡ false) xs h)

  module _ (o : Strict lt) where
    never : (x : X) (b : Bool) → lt x x ≡ b → lt x x ≡ false
    never x true e = o.one_way x x e
    never x false e = e

    displaced_placed : (e : X) (xs : List X) → displaced e (placed lt e xs) ≡ xs
    displaced_placed e [] = ap (λ b. cond b (e ∷ []) []) (never e _ refl)
    displaced_placed e (x ∷ xs) = by_test (lt x e) refl (displaced_placed e xs)
      where
        by_test : (b : Bool) → lt x e ≡ b → displaced e (placed lt e xs) ≡ xs → displaced e (cond b (x ∷ placed lt e xs) (e ∷ x ∷ xs)) ≡ x ∷ xs
        by_test true t ih = ap (λ b. cond b (x ∷ displaced e (placed lt e xs)) (placed lt e xs)) t ∙ ap (λ l. x ∷ l) ih
        by_test false t ih = ap (λ b. cond b (e ∷ displaced e (x ∷ xs)) (x ∷ xs)) (never e _ refl)

    two : (a b : X) (s : List X) (p q : Bool) → lt b a ≡ p → lt a b ≡ q → cond p (b ∷ a ∷ s) (a ∷ b ∷ s) ≡ cond q (a ∷ b ∷ s) (b ∷ a ∷ s)
    two a b s true true e f = absurd (both_ways (lt a b) (o.one_way b a e) f)
    two a b s true false e f = refl
    two a b s false true e f = refl
    two a b s false false e f = let same : a ≡ b = o.tied a b f e in cc

    placed_placed : (a b : X) (s : List X) → placed lt a (placed lt b s) ≡ placed lt b (placed lt a s)
    placed_placed a b [] = two a b [] (lt b a) (lt a b) refl refl
    placed_placed a b (x ∷ s) = by_tests (lt x a) (lt x b) (lt a b) (lt b a) refl refl refl refl (placed_placed a b s)
      where
        by_tests : (p q r t : Bool) → lt x a ≡ p → lt x b ≡ q → lt a b ≡ r → lt b a ≡ t → placed lt a (placed lt b s) ≡ placed lt b (placed lt a s)
            → placed lt a (cond q (x ∷ placed lt b s) (b ∷ x ∷ s)) ≡ placed lt b (cond p (x ∷ placed lt a s) (a ∷ x ∷ s))
        by_tests true true r t e f g h ih = simp (e, f) (ap (λ l. x ∷ l) ih)
        by_tests false true true t e f g h ih = simp (e, f, g)
        by_tests false true false t e f g h ih = absurd (both_ways (lt x b) (o.chain x a b e g) f)
        by_tests true false r true e f g h ih = simp (e, f, h)
        by_tests true false r false e f g h ih = absurd (both_ways (lt x a) (o.chain x b a f h) e)
        by_tests false false r t e f g h ih = simp (e, f) (two a b (x ∷ s) (lt b a) (lt a b) refl refl)

    in_order_set : (xs : List X) (i : ℕ) (v d : X) → i < length xs → placed lt (get_or xs i d) (in_order lt (set xs i v)) ≡ placed lt v (in_order lt xs)
    in_order_set [] i v d h = absurd (omega arith)
    in_order_set (x ∷ xs) zero v d h = placed_placed x v (in_order lt xs)
    in_order_set (x ∷ xs) (suc i) v d h =
        placed_placed (get_or xs i d) x (in_order lt (set xs i v))
        ∙ ap (placed lt x) (in_order_set xs i v d (omega arith))
        ∙ placed_placed x v (in_order lt xs)

    same_order : (e : X) (xs ys : List X) → placed lt e xs ≡ placed lt e ys → xs ≡ ys
    same_order e xs ys h = sym (displaced_placed e xs) ∙ ap (displaced e) h ∙ displaced_placed e ys

    written_at : (xs : List X) (i j : ℕ) (d : X) → i < length xs → j < length xs → get_or (set xs i (get_or xs j d)) j d ≡ get_or xs j d
    written_at xs i j d h k = ⊎_elim
        (λ e. ap (λ n. get_or (set xs i (get_or xs j d)) n d) (sym e) ∙ get_or-set_same xs i (get_or xs j d) d h)
        (λ n. get_or-set_other xs i j (get_or xs j d) d (λ e. n (sym e)))
        (cases_eq i j)

    pub swaps : (xs : List X) (i j : ℕ) (d : X) → i < length xs → j < length xs → in_order lt (set (set xs i (get_or xs j d)) j (get_or xs i d)) ≡ in_order lt xs
    swaps xs i j d h k =
        let ys : List X = set xs i (get_or xs j d) in
        let one = in_order_set xs i (get_or xs j d) d h in
        let other = in_order_set ys j (get_or xs i d) d (simp length-set k) in
        same_order (get_or xs j d) _ _ (ap (λ e. placed lt e (in_order lt (set ys j (get_or xs i d)))) (sym (written_at xs i j d h k)) ∙ other ∙ one)

    exchanges : (xs : List X) (i j : ℕ) → i < length xs → j < length xs → in_order lt (swap xs i j) ≡ in_order lt xs
    exchanges [] i j h k = refl
    exchanges (d ∷ xs) i j h k = swaps (d ∷ xs) i j d h k

    pub in_order_shuffled : (xs ys : List X) → IsPermutation xs ys → in_order lt ys ≡ in_order lt xs
    in_order_shuffled xs ys s = IsPermutation-keeps xs (λ l. in_order lt l ≡ in_order lt xs) refl (λ l i j h k e. exchanges l i j h k ∙ e) ys s
