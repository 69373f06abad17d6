-- One text written behind another, as far as there is room. Assumes nothing.
use Rattle.std.proofs.Common.{◌≡◌, ℕ, zero, suc, ◌+◌, ◌-◌, ◌<◌, ◌≤◌, List, [], ◌∷◌, ◌++◌, length, take, drop, set, sym, refl, ap, ◌∙◌, subst, ⊎_elim, append_assoc, add-zero, add_assoc, add-one, arith, length-append, length-drop, take-append-drop, length-take}
use Rattle.std.proofs.lemmas.List.{take_at, take_all, drop_at, drop-drop, length-take-le, set_split}
use Rattle.std.proofs.lemmas.Bool.{cases_lt}
use Rattle.script_text.specs.Laid.{written, Wrote, Lays}

module _ (out : List ℕ) (at : ℕ) (s : List ℕ) (fits : at + length s ≤ length out) where
  front : length (take at out ++ s) ≡ at + length s
  front = length-append (take at out) s ∙ ap (λ n. n + length s) (length-take-le at out (omega arith))

  split : written out at s ≡ (take at out ++ s) ++ drop (at + length s) out
  unfolding written
  split = sym (append_assoc (take at out) s (drop (at + length s) out))

  -- the buffer keeps its length
  pub length_written : length (written out at s) ≡ length out
  length_written =
      let a = length-append (take at out ++ s) (drop (at + length s) out) in
      let d = length-drop (at + length s) out in
      ap length split ∙ omega (arith, a, d, front)

  written_then : (t : List ℕ) → written (written out at s) (at + length s) t ≡ written out at (s ++ t)
  unfolding written
  written_then t =
      let n : at + length s + length t ≡ at + length (s ++ t) = add_assoc at (length s) (length t) ∙ ap (λ k. at + k) (sym (length-append s t)) in
      let f : take (at + length s) (written out at s) ≡ take at out ++ s = ap (take (at + length s)) split ∙ take_at (take at out ++ s) (drop (at + length s) out) (at + length s) front in
      let b : drop (at + length s + length t) (written out at s) ≡ drop (at + length (s ++ t)) out =
      sym (drop-drop (length t) (at + length s) (written out at s))
      ∙ ap (drop (length t)) (ap (drop (at + length s)) split ∙ drop_at (take at out ++ s) (drop (at + length s) out) (at + length s) front)
      ∙ drop-drop (length t) (at + length s) out
      ∙ ap (λ k. drop k out) n in
      (λ i. f i ++ (t ++ b i))
      ∙ append_assoc (take at out) s (t ++ drop (at + length (s ++ t)) out)
      ∙ ap (λ l. take at out ++ l) (sym (append_assoc s t (drop (at + length (s ++ t)) out)))

written_none : (out : List ℕ) (at : ℕ) → out ≡ written out at []
unfolding written
written_none out at = sym (take-append-drop at out) ∙ ap (λ k. take at out ++ drop k out) (sym (add-zero at))

written_one : (out : List ℕ) (at b : ℕ) → at < length out → set out at b ≡ written out at (b ∷ [])
unfolding written
written_one out at b lt = set_split out at b lt ∙ ap (λ k. take at out ++ (b ∷ drop k out)) (sym (add-one at))

wrote_none : (out : List ℕ) (at : ℕ) → Wrote out at [] at out
wrote_none out at = record { count = sym (add-zero at); writes = written_none out at }

-- one text, and then another
wrote_then : {out mid after : List ℕ} {at m end : ℕ} (s t : List ℕ) → at + length s ≤ length out → Wrote out at s m mid → Wrote mid m t end after → Wrote out at (s ++ t) end after
wrote_then {out} {mid} {after} {at} {m} {end} s t fits a b = record {
  count = b.count ∙ ap (λ k. k + length t) a.count ∙ add_assoc at (length s) (length t) ∙ ap (λ k. at + k) (sym (length-append s t));
  writes = b.writes ∙ (λ i. written (a.writes i) (a.count i) t) ∙ written_then out at s fits t;
}

-- ---- as far as there is room

pub lays_one : (out : List ℕ) (at b : ℕ) → at < length out → Lays out at (b ∷ []) (at + 1) (set out at b)
lays_one out at b lt =
    let whole : take (length out - at) (b ∷ []) ≡ b ∷ [] = take_all (length out - at) (b ∷ []) (omega arith) in
    subst (λ l. Wrote out at l (at + 1) (set out at b)) (sym whole) (record { count = refl; writes = written_one out at b lt })

-- no room
pub lays_past : (out : List ℕ) (at : ℕ) (text : List ℕ) → length out ≤ at → Lays out at text at out
lays_past out at text past =
    let none : 0 ≡ length out - at = omega arith in
    subst (λ n. Wrote out at (take n text) at out) none (wrote_none out at)

pub lays_none : (out : List ℕ) (at : ℕ) → Lays out at [] at out
lays_none out at = subst (λ l. Wrote out at l at out) (sym (take_all (length out - at) [] (omega arith))) (wrote_none out at)

take_append : (n : ℕ) (s t : List ℕ) → take n (s ++ t) ≡ take n s ++ take (n - length s) t
take_append zero s t = ap (λ k. take k t) (none (length s))
  where
    none : (k : ℕ) → 0 ≡ 0 - k
    none k = omega arith
take_append (suc n) [] t = ap (λ k. take k t) (same n)
  where
    same : (k : ℕ) → suc k ≡ suc k - 0
    same k = omega arith
take_append (suc n) (x ∷ s) t = ap (λ l. x ∷ l) (take_append n s t ∙ ap (λ k. take n s ++ take k t) (less n (length s)))
  where
    less : (n k : ℕ) → n - k ≡ suc n - suc k
    less n k = omega arith

pub lays_then : {out mid after : List ℕ} {at m end : ℕ} (s t : List ℕ) → Lays out at s m mid → Lays mid m t end after → Lays out at (s ++ t) end after
lays_then {out} {mid} {after} {at} {m} {end} s t a b = ⊎_elim past room (cases_lt (length out) at)
  where
    past : length out < at → Lays out at (s ++ t) end after
    past lt =
        let none : (length out - at) ≡ 0 = omega arith in
        let a' : Wrote out at [] m mid = subst (λ k. Wrote out at (take k s) m mid) none a in
        let m-is : m ≡ at = a'.count ∙ add-zero at in
        let mid-is : mid ≡ out = a'.writes ∙ sym (written_none out at) in
        let b' : Wrote out at (take (length out - at) t) end after = subst (λ (k : ℕ). Wrote out k (take (length out - k) t) end after) m-is (subst (λ (l : List ℕ). Wrote l m (take (length l - m) t) end after) mid-is b) in
        subst (λ k. Wrote out at (take k (s ++ t)) end after) (sym none) (subst (λ k. Wrote out at (take k t) end after) none b')

    room : at ≤ length out → Lays out at (s ++ t) end after
    room le =
        let short = length-take (length out - at) s in
        let fits : at + length (take (length out - at) s) ≤ length out = omega arith in
        let long : length mid ≡ length out = ap length a.writes ∙ length_written out at (take (length out - at) s) fits in
        let left : length mid - m ≡ (length out - at) - length s = omega (arith, a.count) in
        let b' : Wrote mid m (take ((length out - at) - length s) t) end after = subst (λ k. Wrote mid m (take k t) end after) left b in
        subst (λ l. Wrote out at l end after) (sym (take_append (length out - at) s t)) (wrote_then (take (length out - at) s) (take ((length out - at) - length s) t) fits a b')

-- what has room is written whole
pub lays_whole : {out after : List ℕ} {at end : ℕ} (s : List ℕ) → at + length s ≤ length out → Lays out at s end after → Wrote out at s end after
lays_whole {out} {after} {at} {end} s fits a = subst (λ l. Wrote out at l end after) (take_all (length out - at) s (omega arith)) a
