-- The calendar of a run.
use Rattle.std.proofs.Common.{◌≡◌, ℕ, ◌+◌, ◌-◌, true, ◌↔◌, sym, ap, ◌∙◌, subst, add-one, arith}
use Rattle.std.specs.List.{ContainsAt as List-has}
use Rattle.logic.specs.declared.family.Family.{Ghosts as Family}
use Rattle.logic.specs.Logic.{Laws}
use Rattle.calendar.specs.declared.calendar.Calendar.{Ghosts as Calendar}
use Rattle.netlist.specs.Board.{Board, WellFormed}
use Rattle.netlist.specs.Looked.{contents}
use Rattle.netlist.proofs.Contents.{well_formed}
use Rattle.signal.specs.Calls.{State, waiting_after}
use Rattle.signal.specs.Waiting.{Due}
use Rattle.signal.proofs.Exactly.{waiting_exactly}
use Rattle.run.specs.declared.state.Run.{Run}
use Rattle.run.specs.Fits.{waiting_at}
use Rattle.run.specs.Calls.{Has, OnTime}

pub on_time : {F D V : Type 0} (f : Family F V) (c : Calendar D) (laws : Laws f.logic) (C : Board) (s : State V) (x : Run F D V f c) → Has f c C s x → s.fit ≡ true →
    OnTime f c C s (c.meaning x.calendar)
on_time f c laws C s x h on =
    let L = f.logic in
    let a = c.meaning x.calendar in
    let kept = h.fits.kept on in
    let waits : (t : ℕ) → s.ticks ≡ t + 1 → a.waiting ≡ waiting_after L C s t = λ t e.
    kept.waiting_is ∙ (λ i. waiting_at L (h.board i) s ((e ∙ add-one t) i)) in
    record {
      opening = λ e. (kept.today_is ∙ ap (λ t. t - 1) e, kept.waiting_is ∙ ap (waiting_at L (contents x.wiring.net) s) e);
      today = λ t e. kept.today_is ∙ ap (λ u. u - 1) e ∙ less t;
      waits = waits;
      exactly = λ t e entry. subst (λ w. List-has w entry ↔ Due L C s t entry) (sym (waits t e))
          (waiting_exactly laws C (subst WellFormed h.board (well_formed x.wiring.net)) s t entry);
    }
  where
    less : (t : ℕ) → t + 1 - 1 ≡ t
    less t = omega arith
