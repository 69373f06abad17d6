-- One text written behind another. Assumes nothing.
use Rattle.std.proofs.Common.{◌≡◌, ℕ, ◌+◌, ◌≤◌, List, [], ◌++◌, length, take, drop, sym, refl, ap, ◌∙◌, append_assoc, add-zero, add_assoc, arith, length-append, take-append-drop}
use Rattle.std.proofs.lemmas.List.{take_at, drop_at, drop-drop, length-take-le}
use borrow.Rule.Slice.PartMut.{put_mid}
use Rattle.tick.specs.Laid.{written, Wrote}

module _ (out : List ℕ) (at : ℕ) (s : List ℕ) (fits : at + length s ≤ length out) where
  front : length (take at out ++ s) ≡ at + length s
  front = length-append (take at out) s ∙ ap (λ n. n + length s) (length-take-le at out (omega arith))

  split : written out at s ≡ (take at out ++ s) ++ drop (at + length s) out
  unfolding written
  split = sym (append_assoc (take at out) s (drop (at + length s) out))

  pub written_then : (t : List ℕ) → written (written out at s) (at + length s) t ≡ written out at (s ++ t)
  unfolding written
  written_then t =
      let n : at + length s + length t ≡ at + length (s ++ t) = add_assoc at (length s) (length t) ∙ ap (λ k. at + k) (sym (length-append s t)) in
      let f : take (at + length s) (written out at s) ≡ take at out ++ s = ap (take (at + length s)) split ∙ take_at (take at out ++ s) (drop (at + length s) out) (at + length s) front in
      let b : drop (at + length s + length t) (written out at s) ≡ drop (at + length (s ++ t)) out =
      sym (drop-drop (length t) (at + length s) (written out at s))
      ∙ ap (drop (length t)) (ap (drop (at + length s)) split ∙ drop_at (take at out ++ s) (drop (at + length s) out) (at + length s) front)
      ∙ drop-drop (length t) (at + length s) out
      ∙ ap (λ k. drop k out) n in
      (λ i. f i ++ (t ++ b i))
      ∙ append_assoc (take at out) s (t ++ drop (at + length (s ++ t)) out)
      ∙ ap (λ l. take at out ++ l) (sym (append_assoc s t (drop (at + length (s ++ t)) out)))

pub written_none : (out : List ℕ) (at : ℕ) → out ≡ written out at []
unfolding written
written_none out at = sym (take-append-drop at out) ∙ ap (λ k. take at out ++ drop k out) (sym (add-zero at))

-- a text in the place of as many bytes
pub wrote_over : (out text now : List ℕ) (at k : ℕ) → now ≡ text → k ≡ length text → at + length text ≤ length out → Wrote out at text (at + length text) (put_mid at k out now)
unfolding written
wrote_over out text now at k is e fits = record {
  count = refl;
  writes = (λ i. take at out ++ (is i ++ drop (e i) (drop at out))) ∙ ap (λ l. take at out ++ (text ++ l)) (drop-drop (length text) at out);
}

pub wrote_none : (out : List ℕ) (at : ℕ) → Wrote out at [] at out
wrote_none out at = record { count = sym (add-zero at); writes = written_none out at }

-- one text, and then another
pub wrote_then : {out mid after : List ℕ} {at m end : ℕ} (s t : List ℕ) → at + length s ≤ length out → Wrote out at s m mid → Wrote mid m t end after → Wrote out at (s ++ t) end after
wrote_then {out} {mid} {after} {at} {m} {end} s t fits a b = record {
  count = b.count ∙ ap (λ k. k + length t) a.count ∙ add_assoc at (length s) (length t) ∙ ap (λ k. at + k) (sym (length-append s t));
  writes = b.writes ∙ (λ i. written (a.writes i) (a.count i) t) ∙ written_then out at s fits t;
}
