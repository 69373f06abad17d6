-- How a run goes on over an advance.
use Rattle.std.proofs.Common.{◌≡◌, ℕ, zero, suc, ◌+◌, ◌-◌, ◌*◌, ◌<◌, ◌≤◌, List, ◌++◌, length, take, drop, sym, refl, ap, ◌∙◌, subst, add-zero, add_assoc, zero-add, arith}
use Rattle.std.specs.List.{range_with_len, flat_map}
use Rattle.std.proofs.lemmas.List.{length-append, take_at, drop_at}
use Rattle.netlist.specs.Board.{Board}
use Rattle.signal.specs.Calls.{State, Change, advanced, advance, changes_at, change_bytes, completes, tick_room, leaves, answers, level_before}
use Rattle.logic.specs.declared.family.Family.{Ghosts as Family}
use Rattle.calendar.specs.declared.calendar.Calendar.{Ghosts as Calendar}
use Rattle.std.proofs.lemmas.Grind.{flat_map-append}
use Rattle.signal.proofs.Advancing.{length_bytes, completes_go, written_more}
use Rattle.netlist.specs.Looked.{contents}
use Rattle.tick.specs.Laid.{Wrote}
use Rattle.tick.specs.Laid.{written as laid}
use Rattle.tick.proofs.Over.{wrote_none, wrote_then}
use Rattle.run.specs.declared.state.Run.{Run}
use Rattle.run.specs.Fits.{waiting_at}
use Rattle.run.specs.Calls.{At, Has}
use Rattle.netlist.proofs.Contents.{watch_count}

pub wrote_take : (old out text : List ℕ) (end : ℕ) → Wrote old 0 text end out → take end out ≡ text
unfolding laid
wrote_take old out text end w = ap (take end) w.writes ∙ take_at text (drop (0 + length text) old) end (sym (w.count ∙ zero-add (length text)))

pub wrote_drop : (old out text : List ℕ) (end : ℕ) → Wrote old 0 text end out → drop end out ≡ drop end old
unfolding laid
wrote_drop old out text end w = ap (drop end) w.writes ∙ drop_at text (drop (0 + length text) old) end (sym (w.count ∙ zero-add (length text))) ∙ ap (λ k. drop k old) (sym w.count)

module _ {F D V : Type 0} (f : Family F V) (c : Calendar D) (C : Board) (s : State V) (k : ℕ) (old : List ℕ) where
  -- the records of the first m ticks
  abbrev pub first : ℕ → List Change
  first m = flat_map (changes_at f.logic C s) (range_with_len s.ticks m)

  -- an advance that has completed some ticks, in the middle
  pub record Going (done end : ℕ) (out : List ℕ) (x : Run F D V f c) : Type 0 where
    pub at : At f c C s (s.ticks + done) (length s.changes + length (first done)) x
    pub wrote : Wrote old 0 (flat_map change_bytes (first done)) end out
    pub left : completes f.logic C s k s.ticks (length old) ≡ done + completes f.logic C s (k - done) (s.ticks + done) (length old - end)

  pub going_none : (x : Run F D V f c) → Has f c C s x → Going 0 0 old x
  going_none x h = record {
    at = subst (λ t. At f c C s t (length s.changes + 0) x) (sym (add-zero s.ticks)) (subst (λ n. At f c C s s.ticks n x) (sym (add-zero (length s.changes))) h);
    wrote = wrote_none old 0;
    left = (λ i. completes f.logic C s (z k i) (sym (add-zero s.ticks) i) (z (length old) i)) ∙ sym (zero-add _);
  }
    where
      z : (n : ℕ) → n ≡ n - 0
      z n = omega arith

  pub going_more : (done end end' : ℕ) (out out' : List ℕ) (x y : Run F D V f c) → done < k → end ≤ length old → tick_room f.logic C ≤ length old - end → Going done end out x →
      At f c C s (s.ticks + done + 1) (length s.changes + length (first done) + length (changes_at f.logic C s (s.ticks + done))) y →
      Wrote out end (flat_map change_bytes (changes_at f.logic C s (s.ticks + done))) end' out' → Going (done + 1) end' out' y
  going_more done end end' out out' x y lt in' room g at' w =
      let L = f.logic in
      let T = s.ticks in
      let new = changes_at L C s (T + done) in
      let more : first (done + 1) ≡ first done ++ new = written_more L C s T done in
      let bytes : flat_map change_bytes (first (done + 1)) ≡ flat_map change_bytes (first done) ++ flat_map change_bytes new = ap (flat_map change_bytes) more ∙ flat_map-append change_bytes (first done) new in
      let count : length s.changes + length (first done) + length new ≡ length s.changes + length (first (done + 1)) = add_assoc (length s.changes) (length (first done)) (length new) ∙ ap (λ m. length s.changes + m) (sym (ap length more ∙ length-append (first done) new)) in
      let fewer : k - done ≡ suc (k - (done + 1)) = omega arith in
      let rest : length old - end - 8 * length new ≡ length old - end' = omega (arith, w.count, length_bytes new) in
      record {
        at = subst (λ t. At f c C s t (length s.changes + length (first (done + 1))) y) (add_assoc T done 1) (subst (λ n. At f c C s (T + done + 1) n y) count at');
        wrote = subst (λ text. Wrote old 0 text end' out') (sym bytes) (wrote_then (flat_map change_bytes (first done)) (flat_map change_bytes new) (omega (arith, g.wrote.count)) g.wrote w);
        left = g.left
            ∙ ap (λ m. done + m) (ap (λ j. completes L C s j (T + done) (length old - end)) fewer ∙ completes_go L C s (k - (done + 1)) (T + done) (length old - end) room)
            ∙ shift done (completes L C s (k - (done + 1)) (T + done + 1) (length old - end - 8 * length new))
            ∙ (λ i. done + 1 + completes L C s (k - (done + 1)) (add_assoc T done 1 i) (rest i));
      }
    where
      shift : (a b : ℕ) → a + suc b ≡ a + 1 + b
      shift a b = omega arith

  -- what has no more ticks to complete
  pub gone : (done end : ℕ) (out : List ℕ) (x : Run F D V f c) → completes f.logic C s (k - done) (s.ticks + done) (length old - end) ≡ 0 → Going done end out x →
      Has f c C (leaves f.logic C s (advance k (length old))) x × (advanced done (take end out) ≡ answers f.logic C s (advance k (length old))) × (drop end out ≡ drop end old)
  gone done end out x none g =
      let L = f.logic in
      let m : completes L C s k s.ticks (length old) ≡ done = g.left ∙ ap (λ j. done + j) none ∙ add-zero done in
      let count : length s.changes + length (first done) ≡ length (s.changes ++ first (completes L C s k s.ticks (length old))) = sym (length-append s.changes (first done)) ∙ ap (λ j. length (s.changes ++ first j)) (sym m) in
      let a : At f c C s (s.ticks + completes L C s k s.ticks (length old)) (length (s.changes ++ first (completes L C s k s.ticks (length old)))) x =
      subst (λ n. At f c C s (s.ticks + completes L C s k s.ticks (length old)) n x) count (subst (λ j. At f c C s (s.ticks + j) (length s.changes + length (first done)) x) (sym m) g.at) in
      let h = a.fits.held in (
        record {
          board = a.board;
          fits = record {
            fit_is = a.fits.fit_is;
            ticks_are = a.fits.ticks_are;
            records_are = a.fits.records_are;
            held = record {
              ports_long = h.ports_long;
              drives_long = h.drives_long;
              planned_long = h.planned_long;
              levels_long = h.levels_long;
              ports_are = h.ports_are;
              drives_are = h.drives_are;
              planned_are = h.planned_are;
              levels_are = λ n lt. h.levels_are n lt ∙ before_same n (s.ticks + completes L C s k s.ticks (length old));
            };
            calm_is = λ e. let q = a.fits.calm_is e in record { some = q.some; still = q.still };
            kept = λ on. let K = a.fits.kept on in record {
              today_is = K.today_is;
              waiting_is = K.waiting_is ∙ waiting_same (s.ticks + completes L C s k s.ticks (length old));
              gates_fit = K.gates_fit;
              room_fits = K.room_fits;
            };
          };
        },
        (λ i. advanced (sym m i) ((wrote_take old out (flat_map change_bytes (first done)) end g.wrote ∙ ap (λ j. flat_map change_bytes (first j)) (sym m)) i)),
        wrote_drop old out (flat_map change_bytes (first done)) end g.wrote,
      )
    where
      before_same : (n t : ℕ) → level_before f.logic (contents x.wiring.net) s n t ≡ level_before f.logic (contents x.wiring.net) (leaves f.logic C s (advance k (length old))) n t
      before_same n zero = refl
      before_same n (suc t) = refl

      waiting_same : (t : ℕ) → waiting_at f.logic (contents x.wiring.net) s t ≡ waiting_at f.logic (contents x.wiring.net) (leaves f.logic C s (advance k (length old))) t
      waiting_same zero = refl
      waiting_same (suc t) = refl

module _ {F D V : Type 0} (f : Family F V) (c : Calendar D) (C : Board) (s : State V) (x : Run F D V f c) (h : Has f c C s x) where
  pub room_is : tick_room f.logic C ≡ 8 * x.wiring.net.head.watches
  room_is = ap (λ n. 8 * n) (sym (ap (λ (B : Board). length B.watches) h.board) ∙ watch_count x.wiring.net)
