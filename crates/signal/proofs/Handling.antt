-- The three laws, of runs as they are handled.
use Rattle.std.proofs.Common.{◌≡◌, ℕ, Bool, List, [], ◌∷◌, ◌++◌, Some, None, Option, sym, refl, ap, ◌∙◌}
use Rattle.std.specs.List.{flat_map}
use Rattle.logic.specs.Logic.{Logic, Laws}
use Rattle.netlist.specs.Board.{Board}
use Rattle.signal.specs.Calls.{State, Call, Answer, refused, read, opened, lived, answer, answers, refusal, replies, wrote}
use Rattle.signal.specs.Laws.{reached}
use Rattle.signal.specs.Handled.{Handled, opens, calls, AnyRun, AnyTwoRuns}
use Rattle.signal.proofs.Theorems.{three_laws}

module _ {V : Type 0} (L : Logic V) {R : Type 0} (has : Board → State V → R → Type 0) (C : Board) (fit : Bool) where
  pub handled : {cs : List Call} {x : R} {us : List Answer} → Handled L has C fit cs x us → has C (lived L C (opened L fit) cs) x × (us ≡ replies L C (opened L fit) cs)
  handled (opens h) = (h, refl)
  handled (calls {cs = cs} {us = us} past c y a call) =
      let before = handled past in
      let now = call (lived L C (opened L fit) cs) before.0 in
      (now.0, ap (λ l. l ++ (a ∷ [])) before.1 ∙ ap (λ b. replies L C (opened L fit) cs ++ (b ∷ [])) now.1)

pub any_run : {V : Type 0} (L : Logic V) {R : Type 0} (has : Board → State V → R → Type 0) → AnyRun L has
any_run L has r x us h = handled L has r.board r.fit h

not_refused : {V : Type 0} (L : Logic V) (C : Board) (s : State V) (c : Call) → ((fault place : ℕ) → answer L C s c ≡ refused fault place → ⊥) → refusal L C s c ≡ None
not_refused L C s c h = by (refusal L C s c) refl
  where
    by : (o : Option ℕ) → refusal L C s c ≡ o → o ≡ None
    by (Some fault) e = absurd (h fault s.ticks (ap (λ (o : Option ℕ). elim o [ Some f ↦ refused f s.ticks | None ↦ answers L C s c ]) e))
    by None e = refl

module _ {V : Type 0} {L : Logic V} (laws : Laws L) {R Q : Type 0} (has : Board → State V → R → Type 0) (had : Board → State V → Q → Type 0) where
  pub any_two_runs : AnyTwoRuns L has had
  any_two_runs r q x y us vs h k =
      let all = three_laws laws in
      let one = handled L has r.board r.fit h in
      let two = handled L had q.board q.fit k in
      let ta = ap (flat_map wrote) one.1 in
      let tb = ap (flat_map wrote) two.1 in
      record {
        traces = λ watch ticks. let iff = all.traces r q watch ticks in (λ e. iff.0 (sym ta ∙ e ∙ tb), λ levels. ta ∙ iff.1 levels ∙ sym tb);
        learning = λ t same lt lt' l n.
            let kept = all.learning r q t same lt lt' l n in
            (kept.refines, kept.equal, λ d p p' x' y' a b ca cb. (cb (reached L q) two.0).1 ∙ kept.answered d p p' ∙ sym (ca (reached L r) one.0).1);
        gate_order = λ alike ticks.
            let order = all.gate_order r q alike ticks in (
              ta ∙ order.0 ∙ sym tb,
              λ n x' y' a b ca cb ra rb.
                  let ea = (ca (reached L r) one.0).1 in
                  let eb = (cb (reached L q) two.0).1 in
                  ea
                  ∙ order.1 n
                  (not_refused L r.board (reached L r) (read n) (λ f p e. ra f p (ea ∙ e)))
                  (not_refused L q.board (reached L q) (read n) (λ f p e. rb f p (eb ∙ e)))
                  ∙ sym eb,
            );
      }
