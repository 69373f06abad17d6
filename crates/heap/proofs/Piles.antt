-- What a push and a pop make of a pile. Assumes nothing.
use Rattle.std.proofs.Common.{◌≡◌, ℕ, zero, suc, ◌+◌, ◌-◌, ◌<◌, ◌≤◌, Bool, false, not, List, [], ◌∷◌, ◌++◌, length, get_or, take, drop, set, sym, refl, ap, ◌∙◌, ⊎_elim, arith, length-set, length-take, length-take-le, get_or-drop, get_or-take}
use Rattle.std.specs.Prelude.{slice_get}
use Rattle.std.specs.List.Sorted.{IsPermutation}
use Rattle.std.specs.List.{AllByRecursion}
use Rattle.std.proofs.ByRecursion.{All-from_get_or}
use Rattle.std.proofs.lemmas.List.{take_at, take_more, take_more_set, get_or-append_right}
use Rattle.std.proofs.lemmas.List.Sorted.{IsPermutation-to_front, length_permutation}
use Rattle.std.proofs.lemmas.Bool.{cases_eq}
use Rattle.calendar.specs.Order.{Strict, in_order, placed}
use Rattle.heap.specs.Heaps.{Heaped}
use Rattle.heap.specs.Piles.{Content}
use Rattle.heap.proofs.Heaps.{Swapped, tested, top}
use Rattle.calendar.proofs.Orders.{in_order_shuffled, first_in_order, swaps, length_in_order}
use Rattle.calendar.proofs.Entries.{strict, ge_before}
use Rattle.calendar.specs.contracts.entry.EntryPartialOrd.TheImpl.{partial_cmp-value}
use Rattle.std.specs.Ordering.{partial_ge}
use Rattle.calendar.specs.Agenda.{before, entry, first}
use Rattle.calendar.specs.declared.entry.Entry.{Entry}

take_set_in : {X : Type 0} (n : ℕ) (xs : List X) (i : ℕ) (v : X) → take n (set xs i v) ≡ set (take n xs) i v
take_set_in zero xs i v = refl
take_set_in (suc n) [] i v = refl
take_set_in (suc n) (x ∷ xs) zero v = refl
take_set_in (suc n) (x ∷ xs) (suc i) v = ap (λ l. x ∷ l) (take_set_in n xs i v)

module _ {X : Type 0} (lt : X → X → Bool) where
  -- the top of a heap stands first
  pub heap_first : Strict lt → (xs : List X) (n : ℕ) (d : X) → 0 < n → n ≤ length xs → Heaped lt xs 0 n → (rest : List X) × (in_order lt (take n xs) ≡ get_or xs 0 d ∷ rest)
  heap_first o xs zero d p q h = absurd (omega arith)
  heap_first o [] (suc n) d p q h = absurd (omega arith)
  heap_first o (x ∷ xs) (suc n) d p q h = (
    in_order lt (take n xs),
    first_in_order lt x (take n xs) (All-from_get_or (λ y. lt y x ≡ false) (take n xs) d (λ i f.
        let short : i < n = omega (arith, length-take n xs) in
        ap (λ z. lt z x) (get_or-take n xs i d short) ∙ top lt o (x ∷ xs) (suc n) d h (suc i) (suc i) (omega arith) (omega arith))),
  )

  module _ (xs : List X) (n m : ℕ) (e : X) (room : n < length xs) (more : m ≡ n + 1) where
    pub push_length : length (take m (set xs n e)) ≡ m
    push_length = length-take-le m (set xs n e) (simp length-set (omega arith))

    pub pushed_length : (ys : List X) → IsPermutation (take m (set xs n e)) ys → length ys ≡ n + 1
    pushed_length ys s = length_permutation _ ys s ∙ push_length ∙ more

    pub pushed_items : Strict lt → (ys t : List X) → IsPermutation (take m (set xs n e)) ys → in_order lt (take (n + 1) (ys ++ t)) ≡ placed lt e (in_order lt (take n xs))
    pushed_items o ys t s =
        ap (in_order lt) (take_at ys t (n + 1) (pushed_length ys s))
        ∙ in_order_shuffled lt o _ ys s
        ∙ ap (λ k. in_order lt (take k (set xs n e))) more
        ∙ ap (in_order lt) (take_more_set xs n e room)
        ∙ sym (in_order_shuffled lt o _ _ (IsPermutation-to_front (take n xs) e))

  module _ (o : Strict lt) (xs ws : List X) (n l m : ℕ) (last : l + 1 ≡ n) (is-l : m ≡ l) (within : n ≤ length xs) (size : length ws ≡ length xs) (w : Swapped xs ws 0 l) where
    pub pop_length : length (take l ws) ≡ l
    pop_length = length-take-le l ws (omega arith)

    pub popped_length : (ys : List X) → IsPermutation (take m ws) ys → length ys ≡ l
    popped_length ys s = length_permutation _ ys s ∙ ap (λ k. length (take k ws)) is-l ∙ pop_length

    first_of : (d : X) → Heaped lt xs 0 n → AllByRecursion (λ y. lt y (get_or xs 0 d) ≡ false) (take l ws)
    first_of d h = All-from_get_or (λ y. lt y (get_or xs 0 d) ≡ false) (take l ws) d (λ i f.
        let short : length (take l ws) ≡ l = pop_length in
        ap (λ z. lt z (get_or xs 0 d)) (get_or-take l ws i d (omega arith)) ∙ ⊎_elim
        (λ z. ap (λ m. lt (get_or ws m d) (get_or xs 0 d)) z ∙ ap (λ y. lt y (get_or xs 0 d)) (w.0 d) ∙ top lt o xs n d h l l (omega arith) (omega arith))
        (λ z. ap (λ y. lt y (get_or xs 0 d)) (w.2 i d z (omega arith)) ∙ top lt o xs n d h i i (omega arith) (omega arith))
        (cases_eq i 0))

    kept_last : (d : X) (ys : List X) → IsPermutation (take m ws) ys → get_or (ys ++ drop m ws) l d ≡ get_or xs 0 d
    kept_last d ys s =
        let zero' : m + (l - l) ≡ l = omega arith in
        get_or-append_right ys (drop m ws) l l d (popped_length ys s) (omega arith) ∙ get_or-drop m ws (l - l) d ∙ ap (λ k. get_or ws k d) zero' ∙ w.1 d

    exchanged_front : (d : X) → ws ≡ set (set xs 0 (get_or xs l d)) l (get_or xs 0 d) → in_order lt (take n ws) ≡ in_order lt (take n xs)
    exchanged_front d is =
        let f = get_or-take n xs 0 d (omega arith) in
        let g = get_or-take n xs l d (omega arith) in
        ap (λ z. in_order lt (take n z)) is
        ∙ ap (in_order lt) (take_set_in n (set xs 0 (get_or xs l d)) l (get_or xs 0 d))
        ∙ ap (λ z. in_order lt (set z l (get_or xs 0 d))) (take_set_in n xs 0 (get_or xs l d))
        ∙ ap (λ z. in_order lt (set (set (take n xs) 0 (get_or xs l d)) l z)) (sym f)
        ∙ ap (λ z. in_order lt (set (set (take n xs) 0 z) l (get_or (take n xs) 0 d))) (sym g)
        ∙ swaps lt o (take n xs) 0 l d (simp length-take (omega arith)) (simp length-take (omega arith))

    pub popped_items : (d : X) → ws ≡ set (set xs 0 (get_or xs l d)) l (get_or xs 0 d) → Heaped lt xs 0 n → (ys : List X) → IsPermutation (take m ws) ys → in_order lt (take n xs) ≡ get_or (ys ++ drop m ws) l d ∷ in_order lt (take l (ys ++ drop m ws))
    popped_items d is h ys s =
        sym (exchanged_front d is)
        ∙ ap (λ k. in_order lt (take k ws)) (sym last)
        ∙ ap (in_order lt) (take_more ws l d (omega arith))
        ∙ sym (in_order_shuffled lt o _ _ (IsPermutation-to_front (take l ws) (get_or ws l d)))
        ∙ ap (λ z. in_order lt (z ∷ take l ws)) (w.1 d)
        ∙ first_in_order lt (get_or xs 0 d) (take l ws) (first_of d h)
        ∙ ap (λ k. get_or xs 0 d ∷ in_order lt (take k ws)) (sym is-l)
        ∙ ap (λ z. get_or xs 0 d ∷ z) (sym (in_order_shuffled lt o _ ys s))
        ∙ ap (λ z. get_or xs 0 d ∷ in_order lt z) (sym (take_at ys (drop m ws) l (popped_length ys s)))
        ∙ ap (λ z. z ∷ in_order lt (take l (ys ++ drop m ws))) (sym (kept_last d ys s))

-- the first of a heap's part in order
pub heap_head : (xs : List Entry) (n : ℕ) → n ≤ length xs → Heaped before xs 0 n → slice_get (take n xs) 0 ≡ first (in_order before (take n xs))
heap_head xs zero p h = refl
heap_head [] (suc n) p h = absurd (omega arith)
heap_head (x ∷ xs) (suc n) p h = sym (ap first (heap_first before strict (x ∷ xs) (suc n) x (omega arith) p h).1)

pub length_part : (xs : List Entry) (n : ℕ) → n ≤ length xs → length (in_order before (take n xs)) ≡ n
length_part xs n p = length_in_order before (take n xs) ∙ length-take-le n xs p

-- where a pile that is seen as p has room, its buffer does
pub room_left : (xs : List Entry) (n : ℕ) (p : Content) → n ≤ length xs → ◌≡◌ {A = Content} (record { room = length xs; waiting = in_order before (take n xs) }) p → length p.waiting < p.room → n < length xs
room_left xs n p h is room =
    let wide : length xs ≡ p.room = ap (λ q. q.room) is in
    let held : length (in_order before (take n xs)) ≡ length p.waiting = ap (λ q. length q.waiting) is in
    omega (arith, length_part xs n h)

-- tests of two entries of a heap, as the program makes them
pub tested_ge : (xs : List Entry) (i j : ℕ) (t : Bool) → i < length xs → j < length xs → t ≡ partial_ge partial_cmp-value.it (get_or xs i (entry 0 0 0)) (get_or xs j (entry 0 0 0)) → (d : Entry) → before (get_or xs i d) (get_or xs j d) ≡ not t
tested_ge xs i j t h k is = tested before xs i j (entry 0 0 0) (not t) h k (ge_before (get_or xs i (entry 0 0 0)) (get_or xs j (entry 0 0 0)) t is)
