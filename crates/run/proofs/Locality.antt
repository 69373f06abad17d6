-- A drive changes nothing that is complete or planned.
use Rattle.std.proofs.Common.{◌≡◌, ℕ, zero, suc, ◌+◌, ◌-◌, ◌<◌, ◌≤◌, cond, not, ◌&&◌, eqb, leb, List, [], ◌∷◌, sym, refl, ap, ◌∙◌, ⊎_elim, arith}
use Rattle.std.specs.List.{range_with_len, flat_map}
use Rattle.std.proofs.lemmas.Bool.{cases_lt, lt-leb, and_left}
use Rattle.calendar.specs.declared.entry.Entry.{Entry}
use Rattle.logic.specs.Logic.{Logic, Laws}
use Rattle.netlist.specs.Kinds.{kind_number}
use Rattle.netlist.specs.Board.{Board, WellFormed}
use Rattle.signal.specs.Circuit.{gate, gate_count, operate}
use Rattle.signal.specs.Calls.{State, drives, level, level_before, entry}
use Rattle.signal.proofs.Signals.{d_before, d_after}
use Rattle.signal.proofs.Lives.{level_same}
use Rattle.signal.proofs.Rows.{joined_each, counting_all}
use Rattle.run.specs.Fits.{waiting_at}

module _ {V : Type 0} {L : Logic V} (laws : Laws L) (C : Board) (ok : WellFormed C) (s s' : State V) (T : ℕ)
    (starts : s'.start ≡ s.start) (same : (q u : ℕ) → u < T → s'.port q u ≡ s.port q u) where
  pub drives_same : (g u : ℕ) → g < gate_count C → u < T + (gate C g).delay → drives L C s' g u ≡ drives L C s g u
  drives_same g u lt near = ⊎_elim
      (λ h. d_before L C s'.start s'.port g u h ∙ ap (λ S. S g) starts ∙ sym (d_before L C s.start s.port g u h))
      (λ h.
      let d = (gate C g).delay in
      let past : (n : ℕ) → level L C s' n (u - d) ≡ level L C s n (u - d) = level_same laws C s s' (u - d) starts (λ q v le. same q v (omega arith)) in
      d_after L C s'.start s'.port g u (ok.good g lt).delay_low h
      ∙ (λ i. operate L (kind_number (gate C g).kind) (past (gate C g).a i) (past (gate C g).b i))
      ∙ sym (d_after L C s.start s.port g u (ok.good g lt).delay_low h))
      (cases_lt u (gate C g).delay)

  pub levels_same : (t n : ℕ) → t ≤ T → level_before L C s' n t ≡ level_before L C s n t
  levels_same zero n le = refl
  levels_same (suc t) n le = level_same laws C s s' t starts (λ q u h. same q u (omega arith)) n

  entry_same : (u v g : ℕ) → suc u ≤ T → g < gate_count C → entry L C s' u v g ≡ entry L C s u v g
  entry_same u v g le lt = ⊎_elim
      (λ far. none (drives L C s' g v) (drives L C s' g (v - 1)) far ∙ sym (none (drives L C s g v) (drives L C s g (v - 1)) far))
      (λ near.
      let now = drives_same g v lt (omega arith) in
      let was = drives_same g (v - 1) lt (omega arith) in
      λ i. cond (leb v (u + (gate C g).delay) && not (eqb (L.code (now i)) (L.code (was i)))) (record { tick = v; gate = g; code = L.code (now i) } ∷ []) [])
      (cases_lt (u + (gate C g).delay) v)
    where
      none : (x y : V) → u + (gate C g).delay < v → ◌≡◌ {A = List Entry} (cond (leb v (u + (gate C g).delay) && not (eqb (L.code x) (L.code y))) (record { tick = v; gate = g; code = L.code x } ∷ []) []) []
      none x y far = ap (λ b. cond b (record { tick = v; gate = g; code = L.code x } ∷ []) []) (and_left (leb v (u + (gate C g).delay)) (not (eqb (L.code x) (L.code y))) (lt-leb v (u + (gate C g).delay) far))

  pub waiting_same : (t : ℕ) → t ≤ T → waiting_at L C s' t ≡ waiting_at L C s t
  waiting_same zero le = refl
  waiting_same (suc u) le =
      let gs = range_with_len 0 (gate_count C) in
      joined_each (λ v. flat_map (entry L C s' u v) gs) (λ v. flat_map (entry L C s u v) gs) (range_with_len (u + 1) 64)
      (counting_all (λ v. flat_map (entry L C s' u v) gs ≡ flat_map (entry L C s u v) gs) (u + 1) 64 (λ v _ _.
      joined_each (entry L C s' u v) (entry L C s u v) gs (counting_all (λ g. entry L C s' u v g ≡ entry L C s u v g) 0 (gate_count C) (λ g _ lt. entry_same u v g le (omega arith)))))
