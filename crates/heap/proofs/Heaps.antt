-- A value rises or sinks in a heap, and the top of a heap comes first. Assumes nothing.
use Rattle.std.proofs.Common.{◌≡◌, ℕ, zero, suc, ◌+◌, ◌-◌, ◌*◌, ◌/◌, ◌<◌, ◌≤◌, Bool, true, false, List, length, get_or, sym, refl, ap, ◌∙◌, ⊎_elim, arith}
use Rattle.std.proofs.lemmas.List.{get_or_default}
use Rattle.std.proofs.lemmas.Bool.{cases_eq}
use Rattle.calendar.specs.Order.{Strict}
use Rattle.heap.specs.Heaps.{Heaped, Least}

-- ys is xs with the values at i and j exchanged, as the contract of `swap` says it
abbrev pub Swapped : {X : Type 0} → List X → List X → ℕ → ℕ → Type 0
Swapped {X} xs ys i j = ((d : X) → get_or ys i d ≡ get_or xs j d) × ((d : X) → get_or ys j d ≡ get_or xs i d) × ((k : ℕ) (d : X) → (k ≡ i → ⊥) → (k ≡ j → ⊥) → get_or ys k d ≡ get_or xs k d)

module _ {X : Type 0} (lt : X → X → Bool) where
  by : (a b x y : X) → a ≡ x → b ≡ y → lt x y ≡ false → lt a b ≡ false
  by a b x y p q h = ap (λ z. lt z b) p ∙ ap (lt x) q ∙ h

  -- a test of two values that were read, at any default
  pub tested : (xs : List X) (i j : ℕ) (e : X) (b : Bool) → i < length xs → j < length xs → b ≡ lt (get_or xs i e) (get_or xs j e) → (d : X) → lt (get_or xs i d) (get_or xs j d) ≡ b
  tested xs i j e b h k t d = ap (λ z. lt z (get_or xs j d)) (get_or_default xs i d e h) ∙ ap (lt (get_or xs i e)) (get_or_default xs j d e k) ∙ sym t

  -- a heap but for the value at j and its parent
  abbrev pub Rising : List X → ℕ → ℕ → Type 0
  Rising xs j n =
      ((p k : ℕ) (d : X) → p * 2 + 1 ≤ k → k ≤ p * 2 + 2 → k < n → (k ≡ j → ⊥) → lt (get_or xs k d) (get_or xs p d) ≡ false)
      × ((p k : ℕ) (d : X) → p * 2 + 1 ≤ j → j ≤ p * 2 + 2 → j * 2 + 1 ≤ k → k ≤ j * 2 + 2 → k < n → lt (get_or xs k d) (get_or xs p d) ≡ false)

  -- a heap but for the value at j and its children
  abbrev pub Sinking : List X → ℕ → ℕ → Type 0
  Sinking xs j n =
      ((p k : ℕ) (d : X) → p * 2 + 1 ≤ k → k ≤ p * 2 + 2 → k < n → (p ≡ j → ⊥) → lt (get_or xs k d) (get_or xs p d) ≡ false)
      × ((p k : ℕ) (d : X) → p * 2 + 1 ≤ j → j ≤ p * 2 + 2 → j * 2 + 1 ≤ k → k ≤ j * 2 + 2 → k < n → lt (get_or xs k d) (get_or xs p d) ≡ false)

  module _ (o : Strict lt) where
    never : (x : X) (b : Bool) → lt x x ≡ b → lt x x ≡ false
    never x true e = o.one_way x x e
    never x false e = e

    itself : (xs : List X) (j k : ℕ) (d : X) → k ≡ j → lt (get_or xs k d) (get_or xs j d) ≡ false
    itself xs j k d e = by _ _ _ _ (ap (λ m. get_or xs m d) e) refl (never (get_or xs j d) _ refl)

    pub rise_steps : (xs ys : List X) (j q n : ℕ) → q * 2 + 1 ≤ j → j ≤ q * 2 + 2 → j < n → Swapped xs ys q j → ((d : X) → lt (get_or xs j d) (get_or xs q d) ≡ true) → Rising xs j n → Rising ys q n
    rise_steps xs ys j q n s t in' w l h = (
      λ p k d a b f u. ⊎_elim
          (λ e. let same : p ≡ q = omega arith in by _ _ _ _ (ap (λ m. get_or ys m d) e ∙ w.1 d) (ap (λ m. get_or ys m d) same ∙ w.0 d) (o.one_way _ _ (l d)))
          (λ v. ⊎_elim
          (λ e. by _ _ _ _ (w.2 k d u v) (ap (λ m. get_or ys m d) e ∙ w.0 d) (o.chain _ _ _ (h.0 q k d (omega arith) (omega arith) f v) (o.one_way _ _ (l d))))
          (λ x. ⊎_elim
          (λ e. by _ _ _ _ (w.2 k d u v) (ap (λ m. get_or ys m d) e ∙ w.1 d) (h.1 q k d s t (omega arith) (omega arith) f))
          (λ y. by _ _ _ _ (w.2 k d u v) (w.2 p d x y) (h.0 p k d a b f v))
          (cases_eq p j))
          (cases_eq p q))
          (cases_eq k j),
      λ p k d a b f g i. ⊎_elim
          (λ e. by _ _ _ _ (ap (λ m. get_or ys m d) e ∙ w.1 d) (w.2 p d (omega arith) (omega arith)) (h.0 p q d a b (omega arith) (omega arith)))
          (λ v. by _ _ _ _ (w.2 k d (omega arith) v) (w.2 p d (omega arith) (omega arith)) (o.chain _ _ _ (h.0 q k d f g i v) (h.0 p q d a b (omega arith) (omega arith))))
          (cases_eq k j),
    )

    pub sink_rests : (xs : List X) (j c n : ℕ) → ((d : X) → lt (get_or xs c d) (get_or xs j d) ≡ false) → Least lt xs j c n → Sinking xs j n → Heaped lt xs 0 n
    sink_rests xs j c n t g h = λ k d f. ⊎_elim
        (λ e. by _ _ _ _ refl (ap (λ m. get_or xs m d) e) (o.chain _ _ _ (g k d (omega arith) (omega arith) f.1) (t d)))
        (λ u. h.0 ((k - 1) / 2) k d (omega arith) (omega arith) f.1 u) (cases_eq ((k - 1) / 2) j)

    pub sink_steps : (xs ys : List X) (j c n : ℕ) → j * 2 + 1 ≤ c → c ≤ j * 2 + 2 → c < n → Swapped xs ys j c → ((d : X) → lt (get_or xs c d) (get_or xs j d) ≡ true) → Least lt xs j c n → Sinking xs j n → Sinking ys c n
    sink_steps xs ys j c n s t in' w l g h = (
      λ p k d a b f u. ⊎_elim
          (λ e. ⊎_elim
          (λ m. by _ _ _ _ (ap (λ n. get_or ys n d) m ∙ w.1 d) (ap (λ n. get_or ys n d) e ∙ w.0 d) (o.one_way _ _ (l d)))
          (λ m. by _ _ _ _ (w.2 k d (omega arith) m) (ap (λ n. get_or ys n d) e ∙ w.0 d) (g k d (omega arith) (omega arith) f))
          (cases_eq k c))
          (λ v. ⊎_elim
          (λ m. by _ _ _ _ (ap (λ n. get_or ys n d) m ∙ w.0 d) (w.2 p d v u) (h.1 p c d (omega arith) (omega arith) s t in'))
          (λ m. by _ _ _ _ (w.2 k d m (omega arith)) (w.2 p d v u) (h.0 p k d a b f v))
          (cases_eq k j))
          (cases_eq p j),
      λ p k d a b f g i.
          let same : p ≡ j = omega arith in
          by _ _ _ _ (w.2 k d (omega arith) (omega arith)) (ap (λ n. get_or ys n d) same ∙ w.0 d) (h.0 c k d f g i (omega arith)),
    )

    -- nothing in a heap comes before its top
    pub top : (xs : List X) (n : ℕ) (d : X) → Heaped lt xs 0 n → (fuel k : ℕ) → k ≤ fuel → k < n → lt (get_or xs k d) (get_or xs 0 d) ≡ false
    top xs n d h zero k a b = itself xs 0 k d (omega arith)
    top xs n d h (suc fuel) k a b = ⊎_elim (itself xs 0 k d)
        (λ u. o.chain _ _ _ (h k d (omega arith, b)) (top xs n d h fuel ((k - 1) / 2) (omega arith) (omega arith)))
        (cases_eq k 0)
