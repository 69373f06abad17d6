-- A whole line, from its parts.
use Rattle.std.proofs.Common.{◌≡◌, ℕ, ◌≤◌, true, eqb, leb, List, length, Some, None, Ok, Err, Option, sym, refl, ap, subst, arith}
use Rattle.std.specs.Option.{option_map}
use Rattle.std.proofs.lemmas.Bool.{and_parts, leb-true, both_ways}
use Rattle.logic.specs.declared.family.Family.{Ghosts as Family}
use Rattle.logic.specs.declared.named.Named.{Ghosts as Named}
use Rattle.calendar.specs.declared.calendar.Calendar.{Ghosts as Calendar}
use Rattle.netlist.specs.Board.{Board}
use Rattle.signal.specs.Calls.{State}
use Rattle.run.specs.declared.state.Run.{Run}
use Rattle.run.specs.Calls.{Has}
use Rattle.script_text.specs.declared.command.Command.{Command}
use Rattle.script_text.specs.Commands.{command}
use Rattle.script_text.specs.Laid.{Wrote, Lays}
use Rattle.script_text.proofs.Over.{lays_whole}
use Rattle.script.specs.Faults.{noted}
use Rattle.script.specs.Answers.{roomy, most_trace, note_text, fronted, granted, line_fault, line_text, line_after, line_wrote, Obeys, Answered}
use Rattle.script.specs.declared.fault.ScriptFault.{ScriptFault}
use Rattle.script.specs.declared.fault.ScriptFault.TheVariants.{NoCommand}

module _ {F D V : Type 0} (f : Family F V) (n : Named F V) (c : Calendar D) (x : Run F D V f c) (line : List ℕ) (number : ℕ) (out trace : List ℕ) where
  module _ (yes : roomy out trace ≡ true) where
    room : 40000 ≤ length out
    room = leb-true 40000 (length out) (and_parts (leb 40000 (length out)) (eqb (length trace) most_trace) yes).0

    -- a line that says the command o, if it says one
    abbrev Told : Option Command → Run F D V f c → List ℕ → List ℕ → ℕ × Option ScriptFault → Type 0
    Told o y out' trace' r = (C : Board) (s : State V) → Has f c C s x →
        Has f c C (line_after f.logic n.naming C s o) y
        × Wrote out 0 (line_text f.logic n.naming C s number o) r.0 out'
        × (option_map noted r.1 ≡ line_fault f.logic n.naming C s number o)
        × (trace' ≡ fronted trace (line_wrote f.logic n.naming C s o))

    whole : (o : Option Command) → command f.logic n.naming line ≡ o → (y : Run F D V f c) (out' trace' : List ℕ) (r : ℕ × Option ScriptFault) → Told o y out' trace' r →
        ((e : ScriptFault) → r.1 ≡ Some e → (y ≡ x) × (trace' ≡ trace)) → Answered f n c x line number out trace y out' trace' r
    whole o is y out' trace' r told same = record {
      small = λ e. absurd (both_ways (roomy out trace) e yes);
      answered = λ _ C s h.
          let t = subst (λ p. Told p y out' trace' r) (sym is) told C s h in
          record { goes_on = t.0; text = t.1; fault = t.2; traces = t.3 };
      unchanged = same;
    }

    pub none_answer : command f.logic n.naming line ≡ None → (end : ℕ) (out' : List ℕ) → Lays out 0 (note_text (noted (NoCommand number))) end out' → length (note_text (noted (NoCommand number))) ≤ 100 →
        Answered f n c x line number out trace x out' trace (end, Some (NoCommand number))
    none_answer is end out' lays short =
        whole None is x out' trace (end, Some (NoCommand number))
        (λ C s h. (h, lays_whole (note_text (noted (NoCommand number))) (omega (arith, room)) lays, refl, refl))
        (λ e q. (refl, refl))

    pub ok_answer : (k : Command) → command f.logic n.naming line ≡ Some k → (y : Run F D V f c) (out' trace' : List ℕ) (end : ℕ) → Obeys f n c number k x out trace y out' trace' (Ok end) →
        Answered f n c x line number out trace y out' trace' (end, None)
    ok_answer k is y out' trace' end obeys =
        whole (Some k) is y out' trace' (end, None)
        (λ C s h.
        let r = obeys.replies C s h in (
          obeys.goes_on C s h,
          subst (λ t. Wrote out 0 t end out') (sym (ap (λ o. elim o [ Some m ↦ note_text m | None ↦ granted f.logic n.naming C s k ]) r.0)) r.1,
          sym r.0,
          obeys.traces C s h,
        ))
        (λ e q. absurd (let z : ◌≡◌ {A = ℕ} 0 1 = cc in omega arith))

    pub err_answer : (k : Command) → command f.logic n.naming line ≡ Some k → (y : Run F D V f c) (mid trace' : List ℕ) (e : ScriptFault) → Obeys f n c number k x out trace y mid trace' (Err e) →
        (end : ℕ) (out' : List ℕ) → Lays mid 0 (note_text (noted e)) end out' → length (note_text (noted e)) ≤ 100 → Answered f n c x line number out trace y out' trace' (end, Some e)
    err_answer k is y mid trace' e obeys end out' lays short =
        let same = obeys.unchanged e refl in
        let laid : Lays out 0 (note_text (noted e)) end out' = subst (λ b. Lays b 0 (note_text (noted e)) end out') same.1 lays in
        whole (Some k) is y out' trace' (end, Some e)
        (λ C s h.
        let r = obeys.replies C s h in (
          obeys.goes_on C s h,
          subst (λ t. Wrote out 0 t end out') (sym (ap (λ o. elim o [ Some m ↦ note_text m | None ↦ granted f.logic n.naming C s k ]) r)) (lays_whole (note_text (noted e)) (omega (arith, room, short)) laid),
          sym r,
          obeys.traces C s h,
        ))
        (λ g q. (same.0, same.2))
