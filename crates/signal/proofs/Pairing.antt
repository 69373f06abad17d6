-- Lists whose elements pair one to one have the same elements in another order.
use Rattle.std.proofs.Common.{◌≡◌, ℕ, zero, suc, ◌-◌, ◌<◌, ◌≤◌, cond, ltb, List, [], ◌∷◌, length, get_or, sym, refl, ap, ◌∙◌, subst, ⊎_elim, arith}
use Rattle.std.specs.List.Sorted.{IsPermutation}
use Rattle.std.proofs.lemmas.List.FromFn.{length-map-range_with_len, get_or-map-range_with_len}
use Rattle.std.proofs.lemmas.List.Sorted.{IsPermutation-refl, IsPermutation-cons, IsPermutation-trans}
use Rattle.std.proofs.lemmas.Bool.{cases_lt, lt-ltb, le-ltb}
use Rattle.logic.specs.Logic.{Logic}
use Rattle.netlist.specs.declared.gate.Gate.{Gate}
use Rattle.netlist.specs.Parts.{blank}
use Rattle.signal.specs.Circuit.{gate, gate_count}
use Rattle.signal.specs.Signal.{started}
use Rattle.signal.specs.Laws.{reached, PairsShuffle}

module _ {X : Type 0} where
  -- a list without its element at j
  abbrev without : List X → ℕ → List X
  without [] j = []
  without (y ∷ ys) zero = ys
  without (y ∷ ys) (suc j) = y ∷ without ys j

  length_without : (ys : List X) (j : ℕ) → j < length ys → length ys ≡ suc (length (without ys j))
  length_without [] j h = absurd (omega arith)
  length_without (y ∷ ys) zero h = refl
  length_without (y ∷ ys) (suc j) h = ap suc (length_without ys j (omega arith))

  before_gap : (ys : List X) (j k : ℕ) (d : X) → k < j → get_or (without ys j) k d ≡ get_or ys k d
  before_gap [] j k d h = refl
  before_gap (y ∷ ys) zero k d h = absurd (omega arith)
  before_gap (y ∷ ys) (suc j) zero d h = refl
  before_gap (y ∷ ys) (suc j) (suc k) d h = before_gap ys j k d (omega arith)

  behind_gap : (ys : List X) (j k : ℕ) (d : X) → j ≤ k → get_or (without ys j) k d ≡ get_or ys (suc k) d
  behind_gap [] j k d h = refl
  behind_gap (y ∷ ys) zero k d h = refl
  behind_gap (y ∷ ys) (suc j) zero d h = absurd (omega arith)
  behind_gap (y ∷ ys) (suc j) (suc k) d h = behind_gap ys j k d (omega arith)

  swap : (a b : X) (xs : List X) → IsPermutation (a ∷ b ∷ xs) (b ∷ a ∷ xs)
  swap a b xs = record { moves = (0, 1) ∷ []; below = (omega arith, omega arith, tt); is = refl }

  -- its element at j may stand first
  to_front : (ys : List X) (j : ℕ) (d : X) → j < length ys → IsPermutation (get_or ys j d ∷ without ys j) ys
  to_front [] j d h = absurd (omega arith)
  to_front (y ∷ ys) zero d h = IsPermutation-refl (y ∷ ys)
  to_front (y ∷ ys) (suc j) d h =
      IsPermutation-trans (get_or ys j d ∷ y ∷ without ys j) (y ∷ get_or ys j d ∷ without ys j) (y ∷ ys) (swap (get_or ys j d) y (without ys j))
      (IsPermutation-cons y (get_or ys j d ∷ without ys j) ys (to_front ys j d (omega arith)))

-- where place k of a list comes to stand once place j is gone
closed : ℕ → ℕ → ℕ
closed j k = cond (ltb k j) k (k - 1)

closed_before : (j k : ℕ) → k < j → closed j k ≡ k
unfolding closed
closed_before j k h = ap (λ b. cond b k (k - 1)) (lt-ltb k j h)

closed_behind : (j k : ℕ) → j ≤ k → closed j k ≡ k - 1
unfolding closed
closed_behind j k h = ap (λ b. cond b k (k - 1)) (le-ltb k j h)

-- it is k or, behind j, one less
closed_is : (j k : ℕ) (P : ℕ → Type 0) → (k < j → P k) → (j ≤ k → P (k - 1)) → P (closed j k)
closed_is j k P f g = ⊎_elim (λ h. subst P (sym (closed_before j k h)) (f h)) (λ h. subst P (sym (closed_behind j k h)) (g h)) (cases_lt k j)

closed_apart : (j k m : ℕ) → (k ≡ j → ⊥) → (m ≡ j → ⊥) → closed j k ≡ closed j m → k ≡ m
closed_apart j k m nk nm =
    closed_is j k (λ x. x ≡ closed j m → k ≡ m)
    (λ h. closed_is j m (λ y. k ≡ y → k ≡ m) (λ i e. e) (λ i e. absurd (gap i h e)))
    (λ h. closed_is j m (λ y. k - 1 ≡ y → k ≡ m) (λ i e. absurd (gap' h i e)) (λ i e. both h i e))
  where
    gap : j ≤ m → k < j → k ≡ m - 1 → ⊥
    gap i h e = nm (omega arith)

    gap' : j ≤ k → m < j → k - 1 ≡ m → ⊥
    gap' h i e = nk (omega arith)

    both : j ≤ k → j ≤ m → k - 1 ≡ m - 1 → k ≡ m
    both h i e = ⊎_elim (λ z. absurd (nk (omega arith))) (λ z. ⊎_elim (λ w. absurd (nm (omega arith))) (λ w. omega arith) (cases_lt m 1)) (cases_lt k 1)

get_or_closed : {X : Type 0} (ys : List X) (j k : ℕ) (d : X) → (k ≡ j → ⊥) → get_or (without ys j) (closed j k) d ≡ get_or ys k d
get_or_closed ys j k d ne =
    closed_is j k (λ x. get_or (without ys j) x d ≡ get_or ys k d) (before_gap ys j k d) (λ h.
    let back : suc (k - 1) ≡ k = some (omega arith) in
    behind_gap ys j (k - 1) d (lower h) ∙ ap (λ m. get_or ys m d) back)
  where
    some : 0 < k → suc (k - 1) ≡ k
    some h = omega arith

    lower : j ≤ k → j ≤ k - 1
    lower h = ⊎_elim (λ z. omega arith) (λ z. absurd (ne (omega arith))) (cases_lt j k)

pub paired_shuffled : {X : Type 0} (xs ys : List X) (d : X) (f : ℕ → ℕ) → length ys ≡ length xs → ((i : ℕ) → i < length xs → f i < length ys) →
    ((i k : ℕ) → i < length xs → k < length xs → f i ≡ f k → i ≡ k) → ((i : ℕ) → i < length xs → get_or ys (f i) d ≡ get_or xs i d) → IsPermutation xs ys
paired_shuffled [] [] d f long there apart same = IsPermutation-refl []
paired_shuffled [] (y ∷ ys) d f long there apart same = absurd (omega arith)
paired_shuffled {X} (x ∷ xs) ys d f long there apart same =
    let j = f 0 in
    let here : j < length ys = there 0 (omega arith) in
    let less = length_without ys j here in
    let far : (i : ℕ) → i < length xs → f (suc i) ≡ j → ⊥ = λ i lt e. let z : suc i ≡ 0 = apart (suc i) 0 (omega arith) (omega arith) e in omega arith in
    let rest : IsPermutation xs (without ys j) = paired_shuffled xs (without ys j) d (λ i. closed j (f (suc i))) (omega arith)
    (λ i lt. let in' = there (suc i) (omega arith) in let ne = far i lt in closed_is j (f (suc i)) (λ k. k < length (without ys j)) (λ h. omega arith) (λ h. fits j (f (suc i)) (length ys) (length (without ys j)) less ne h in'))
    (λ i k lt lt' e. suc_same i k (apart (suc i) (suc k) (omega arith) (omega arith) (closed_apart j (f (suc i)) (f (suc k)) (far i lt) (far k lt') e)))
    (λ i lt. get_or_closed ys j (f (suc i)) d (far i lt) ∙ same (suc i) (omega arith)) in
    let first : get_or ys j d ≡ x = same 0 (omega arith) in
    IsPermutation-trans (x ∷ xs) (x ∷ without ys j) ys (IsPermutation-cons x xs (without ys j) rest) (subst (λ z. IsPermutation (z ∷ without ys j) ys) first (to_front ys j d here))
  where
    suc_same : (i k : ℕ) → suc i ≡ suc k → i ≡ k
    suc_same i k e = omega arith

    fits : (j k n m : ℕ) → n ≡ suc m → (k ≡ j → ⊥) → j ≤ k → k < n → k - 1 < m
    fits j k n m e ne h lt = ⊎_elim (λ z. absurd (ne (omega arith))) (λ z. omega arith) (cases_lt k 1)

pub pairs_shuffle : {V : Type 0} (L : Logic V) → PairsShuffle L
pairs_shuffle {V} L r q p =
    let n = gate_count r.board in
    let f : ℕ → Gate × V = λ g. (gate r.board g, (reached L r).start g) in
    let h : ℕ → Gate × V = λ g. (gate q.board g, (reached L q).start g) in
    let d : Gate × V = (blank, L.unset) in
    let one : length (started r.board (reached L r).start) ≡ n = length-map-range_with_len f 0 n in
    let two : length (started q.board (reached L q).start) ≡ gate_count q.board = length-map-range_with_len h 0 (gate_count q.board) in
    let many = p.as_many in
    paired_shuffled (started r.board (reached L r).start) (started q.board (reached L q).start) d p.partner (two ∙ many ∙ sym one)
    (λ g lt. let t = p.there g (omega arith) in omega arith)
    (λ g k lt lt' e. p.apart g k (omega arith) (omega arith) e)
    (λ g lt.
    let in' : g < n = omega arith in
    get_or-map-range_with_len h 0 (gate_count q.board) (p.partner g) (p.partner g) d (p.there g in') (omega arith)
    ∙ ap (λ (x : Gate). (x, (reached L q).start (p.partner g))) (p.records g in') ∙ ap (λ (v : V). (gate r.board g, v)) (p.starts g in')
    ∙ sym (get_or-map-range_with_len f 0 n g g d in' (omega arith)))
