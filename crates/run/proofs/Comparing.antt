-- Two runs side by side.
use Rattle.std.proofs.Common.{◌≡◌, ℕ, zero, suc, ◌+◌, ◌-◌, ◌<◌, ◌≤◌, min, Bool, true, false, cond, not, ◌&&◌, eqb, get_or, Some, None, Option, sym, refl, ap, ◌∙◌, ⊎_elim, arith}
use Rattle.std.specs.Option.{MatchOption}
use Rattle.std.proofs.lemmas.Bool.{cond-false, both_ways, eq-eqb, ne_eqb, cases_eq, and_right}
use Rattle.logic.specs.declared.family.Family.{Ghosts as Family}
use Rattle.logic.specs.Logic.{Logic, Laws}
use Rattle.calendar.specs.declared.calendar.Calendar.{Ghosts as Calendar}
use Rattle.netlist.specs.Board.{Board}
use Rattle.signal.specs.Calls.{State, level}
use Rattle.signal.specs.Laws.{reached}
use Rattle.signal.proofs.Handling.{handled}
use Rattle.run.specs.declared.state.Run.{Run}
use Rattle.run.specs.Calls.{Has}
use Rattle.run.specs.Compared.{lowest, contradicts, contradiction, Compared, LearningContradictsNone}
use Rattle.run.proofs.Callings.{read_level, nets_count}
use Rattle.run.proofs.Handlings.{of_any_make, law_of_runs}

-- r is the first of the numbers from i to below end that passes the test, or none does
abbrev pub FirstIn : (ℕ → Bool) → ℕ → ℕ → Option ℕ → Type 0
FirstIn test i end r = MatchOption r ((k : ℕ) → i ≤ k → k < end → test k ≡ false) (λ j. (i ≤ j) × (j < end) × (test j ≡ true) × ((k : ℕ) → i ≤ k → k < j → test k ≡ false))

pub lowest_is : (test : ℕ → Bool) (i many end : ℕ) → i + many ≡ end → (r : Option ℕ) → FirstIn test i end r → r ≡ lowest test i many
lowest_is test i zero end e None h = refl
lowest_is test i zero end e (Some j) h = absurd (omega (arith, h.0, h.1))
lowest_is test i (suc many) end e r h = by (test i) refl r h (lowest_is test (suc i) many end (omega arith))
  where
    by : (b : Bool) → test i ≡ b → (r : Option ℕ) → FirstIn test i end r → ((q : Option ℕ) → FirstIn test (suc i) end q → q ≡ lowest test (suc i) many) → r ≡ cond b (Some i) (lowest test (suc i) many)
    by true is None h ih = absurd (both_ways (test i) (h i (omega arith) (omega arith)) is)
    by true is (Some j) h ih = ⊎_elim
        (λ same. ap Some same)
        (λ ne. absurd (both_ways (test i) (h.3 i (omega arith) (omega (arith, h.0))) is))
        (cases_eq j i)
    by false is None h ih = ih None (λ k a b. h k (omega arith) b)
    by false is (Some j) h ih = ⊎_elim
        (λ same. absurd (both_ways (test i) is (ap test (sym same) ∙ h.2)))
        (λ ne. ih (Some j) (omega (arith, h.0), h.1, h.2, λ k a b. h.3 k (omega arith) b))
        (cases_eq j i)

-- tests that agree
pub lowest_same : (p q : ℕ → Bool) (i many : ℕ) → ((n : ℕ) → n < i + many → p n ≡ q n) → lowest p i many ≡ lowest q i many
lowest_same p q i zero same = refl
lowest_same p q i (suc many) same =
    (λ j. cond (same i (inside i many) j) (Some i) (lowest p (suc i) many))
    ∙ ap (cond (q i) (Some i)) (lowest_same p q (suc i) many (λ n lt. same n (later n i many lt)))
  where
    inside : (i many : ℕ) → i < i + suc many
    inside i many = omega arith

    later : (n i many : ℕ) → n < suc i + many → n < i + suc many
    later n i many lt = omega arith

pub lowest_none : (p : ℕ → Bool) (i many : ℕ) → ((n : ℕ) → p n ≡ false) → lowest p i many ≡ None
lowest_none p i zero fails = refl
lowest_none p i (suc many) fails = cond-false (p i) (Some i) (lowest p (suc i) many) (fails i) ∙ lowest_none p (suc i) many fails

-- levels that agree wherever the first is definite
agree : {V : Type 0} (L : Logic V) (v w : V) → (L.definite v ≡ true → w ≡ v) → contradicts L v w ≡ false
agree L v w same = by (L.definite v) same
  where
    by : (b : Bool) → (b ≡ true → w ≡ v) → (b && not (eqb (L.code v) (L.code w))) ≡ false
    by true same = ap not (eq-eqb (L.code v) (L.code w) (ap L.code (sym (same refl))))
    by false same = refl

module _ {F C D V : Type 0} (f : Family F V) (c : Calendar C) (d : Calendar D) (x : Run F C V f c) (y : Run F D V f d) where
  -- what the two runs show at net n
  abbrev shown : (B B' : Board) (s s' : State V) → ℕ → Bool
  shown B B' s s' n = contradicts f.logic (level f.logic B s n (s.ticks - 1)) (level f.logic B' s' n (s'.ticks - 1))

  -- the ticks differ
  pub apart : (x.ticks ≡ y.ticks → ⊥) → Compared f c d x y None
  apart ne B B' s s' h k =
      sym (ap (λ b. cond (b && not (eqb s.ticks 0)) (lowest (shown B B' s s') 0 (min B.nets B'.nets)) None) (ne_eqb s.ticks s'.ticks (λ e. ne (h.fits.ticks_are ∙ e ∙ sym k.fits.ticks_are))))

  -- no tick is complete
  pub early : x.ticks ≡ y.ticks → x.ticks ≡ 0 → Compared f c d x y None
  early same none B B' s s' h k =
      let e : eqb s.ticks s'.ticks ≡ true = eq-eqb s.ticks s'.ticks (sym h.fits.ticks_are ∙ same ∙ k.fits.ticks_are) in
      let z : eqb s.ticks 0 ≡ true = eq-eqb s.ticks 0 (sym h.fits.ticks_are ∙ none) in
      sym (λ i. cond (e i && not (z i)) (lowest (shown B B' s s') 0 (min B.nets B'.nets)) None)

  pub compared : (r : Option ℕ) → x.ticks ≡ y.ticks → (x.ticks ≡ 0 → ⊥) →
      r ≡ lowest (λ n. contradicts f.logic (get_or x.levels n f.logic.unset) (get_or y.levels n f.logic.unset)) 0 (min x.wiring.net.head.nets y.wiring.net.head.nets) →
      Compared f c d x y r
  compared r same some is B B' s s' h k =
      let L = f.logic in
      let e : eqb s.ticks s'.ticks ≡ true = eq-eqb s.ticks s'.ticks (sym h.fits.ticks_are ∙ same ∙ k.fits.ticks_are) in
      let on : s.ticks ≡ 0 → ⊥ = λ z. some (h.fits.ticks_are ∙ z) in
      let on' : s'.ticks ≡ 0 → ⊥ = λ z. some (same ∙ k.fits.ticks_are ∙ z) in
      let z : eqb s.ticks 0 ≡ false = ne_eqb s.ticks 0 on in
      let held : ℕ → Bool = λ n. contradicts L (get_or x.levels n L.unset) (get_or y.levels n L.unset) in
      let nets : min x.wiring.net.head.nets y.wiring.net.head.nets ≡ min B.nets B'.nets = λ i. min (sym (nets_count f c B s x h) i) (sym (nets_count f d B' s' y k) i) in
      is ∙ ap (lowest held 0) nets
      ∙ lowest_same held (shown B B' s s') 0 (min B.nets B'.nets) (λ n lt. λ i. contradicts L
      (read_level f c B s x h n (below n lt) on i) (read_level f d B' s' y k n (below n lt) on' i))
      ∙ sym (λ i. cond (e i && not (z i)) (lowest (shown B B' s s') 0 (min B.nets B'.nets)) None)
    where
      below : (n : ℕ) → n < 0 + min B.nets B'.nets → n < 1024
      below n lt = omega (arith, x.wiring.net.nets, nets_count f c B s x h)

  pub learned : Laws f.logic → (a : Option ℕ) → Compared f c d x y a → LearningContradictsNone f c d x y a
  learned laws a is r q u v h k board ticks learns =
      let L = f.logic in
      let one = (handled L (Has f c) r.board r.fit (of_any_make f c h).1.0).0 in
      let two = (handled L (Has f d) q.board q.fit (of_any_make f d k).1.0).0 in
      is r.board q.board (reached L r) (reached L q) one two
      ∙ none (reached L r) (reached L q) ticks (λ some n. ((law_of_runs f laws c d r q x y u v h k).learning ((reached L r).ticks - 1) board (omega arith) (omega arith) learns n).equal)
    where
      none : (s s' : State V) → s.ticks ≡ s'.ticks →
          (0 < s.ticks → (n : ℕ) → f.logic.definite (level f.logic r.board s n (s.ticks - 1)) ≡ true → level f.logic q.board s' n (s.ticks - 1) ≡ level f.logic r.board s n (s.ticks - 1)) →
          contradiction f.logic r.board s q.board s' ≡ None
      none s s' same kept = ⊎_elim
          (λ z. ap (λ b. cond (eqb s.ticks s'.ticks && not b) (lowest (shown r.board q.board s s') 0 (min r.board.nets q.board.nets)) None) (eq-eqb s.ticks 0 z)
          ∙ ap (λ b. cond b (lowest (shown r.board q.board s s') 0 (min r.board.nets q.board.nets)) None) (and_right (eqb s.ticks s'.ticks) false refl))
          (λ ne. (λ i. cond (eq-eqb s.ticks s'.ticks same i && not (ne_eqb s.ticks 0 ne i)) (lowest (shown r.board q.board s s') 0 (min r.board.nets q.board.nets)) None)
          ∙ lowest_none (shown r.board q.board s s') 0 (min r.board.nets q.board.nets) (λ n. agree f.logic (level f.logic r.board s n (s.ticks - 1)) (level f.logic q.board s' n (s'.ticks - 1))
          (λ sure. ap (λ t. level f.logic q.board s' n (t - 1)) (sym same) ∙ kept (omega arith) n sure)))
          (cases_eq s.ticks 0)
