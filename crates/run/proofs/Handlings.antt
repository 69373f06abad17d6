-- The law of runs: a handled run keeps the contract of every call, so the laws of any two runs are laws of these.
use Rattle.std.proofs.Common.{◌≡◌, ℕ, Bool, true, cond, eqb, List, [], ◌∷◌, ◌++◌, length, is_ok, Ok, Err, Result, sym, refl, ap, ◌∙◌, append-nil, arith}
use Rattle.std.specs.List.{flat_map}
use Rattle.std.proofs.lemmas.Bool.{false≢true}
use Rattle.logic.specs.declared.family.Family.{Ghosts as Family}
use Rattle.logic.specs.Logic.{Laws}
use Rattle.calendar.specs.declared.calendar.Calendar.{Ghosts as Calendar}
use Rattle.netlist.specs.Board.{Board}
use Rattle.signal.specs.Calls.{Call, Answer, wake, drive, advance, read, shows, refused, wrote}
use Rattle.signal.specs.Handled.{Handled as AnyHandled, opens as any_opens, calls as any_calls}
use Rattle.signal.proofs.Theorems.{three_laws}
use Rattle.signal.proofs.Handling.{any_two_runs}
use Rattle.std.proofs.lemmas.Grind.{flat_map-append}
use Rattle.run.specs.declared.state.Run.{Run}
use Rattle.run.specs.declared.state.RunFault.{RunFault}
use Rattle.run.specs.declared.state.RunFault.TheVariants.{UnfitCalendar, NoSuchInput, NoSuchCode, ZeroTicks, TooManyTicks, ShortBuffer, NoSuchNet, WrongTime}
use Rattle.run.specs.Faults.{number, place}
use Rattle.run.specs.Calls.{Has, told, told_level, told_trace}
use Rattle.run.specs.Handled.{added, Handled, opens, wakes, drives, advances, reads, LawOfRuns}

-- ---- an answer is what it tells

fault_of : ℕ → ℕ → RunFault
fault_of n t =
    cond (eqb n 16) (UnfitCalendar t) (cond (eqb n 17) (NoSuchInput t) (cond (eqb n 18) (NoSuchCode t) (cond (eqb n 19) (ZeroTicks t)
    (cond (eqb n 20) (TooManyTicks t) (cond (eqb n 21) (ShortBuffer t) (cond (eqb n 22) (NoSuchNet t) (WrongTime t)))))))

fault_back : (e : RunFault) → fault_of (number e) (place e) ≡ e
unfolding fault_of
fault_back (UnfitCalendar t) = refl
fault_back (NoSuchInput t) = refl
fault_back (NoSuchCode t) = refl
fault_back (ZeroTicks t) = refl
fault_back (TooManyTicks t) = refl
fault_back (ShortBuffer t) = refl
fault_back (NoSuchNet t) = refl
fault_back (WrongTime t) = refl

same_refused : (m n s t : ℕ) → refused m s ≡ refused n t → (m ≡ n) × (s ≡ t)
same_refused m n s t e = (cc, cc)

same_fault : (e e' : RunFault) → refused (number e) (place e) ≡ refused (number e') (place e') → e ≡ e'
same_fault e e' h =
    let both = same_refused (number e) (number e') (place e) (place e') h in
    sym (fault_back e) ∙ (λ i. fault_of (both.0 i) (both.1 i)) ∙ fault_back e'

same_shown : (k l : ℕ) (b d : Bool) → shows k b ≡ shows l d → (k ≡ l) × (b ≡ d)
same_shown k l b d e = (cc, cc)

shown_refused : (k : ℕ) (b : Bool) (n t : ℕ) → shows k b ≡ refused n t → ⊥
shown_refused k b n t e = let z : ◌≡◌ {A = ℕ} 0 1 = cc in omega arith

pub same_told : (a b : Result (ℕ × Bool) RunFault) → told_level a ≡ told_level b → a ≡ b
same_told (Ok r) (Ok q) e = let both = same_shown r.0 q.0 r.1 q.1 e in λ i. Ok (both.0 i, both.1 i)
same_told (Ok r) (Err e') e = absurd (shown_refused r.0 r.1 (number e') (place e') e)
same_told (Err e') (Ok r) e = absurd (shown_refused r.0 r.1 (number e') (place e') (sym e))
same_told (Err e') (Err e'') e = ap Err (same_fault e' e'' e)

accepted : (a : Result (ℕ × Bool) RunFault) → is_ok a ≡ true → (fault place : ℕ) → told_level a ≡ refused fault place → ⊥
accepted (Ok r) ok n t e = shown_refused r.0 r.1 n t e
accepted (Err e') ok n t e = false≢true ok

-- ---- what each call wrote

no_bytes : (r : Result (Unit {0}) RunFault) → wrote (told r) ≡ []
no_bytes (Ok u) = refl
no_bytes (Err e) = refl

no_level_bytes : (r : Result (ℕ × Bool) RunFault) → wrote (told_level r) ≡ []
no_level_bytes (Ok u) = refl
no_level_bytes (Err e) = refl

bytes_added : (r : Result (ℕ × ℕ) RunFault) (out : List ℕ) → wrote (told_trace r out) ≡ added r out
bytes_added (Ok r) out = refl
bytes_added (Err e) out = refl

more : (us : List Answer) (a : Answer) (u w : List ℕ) → flat_map wrote us ≡ u → wrote a ≡ w → flat_map wrote (us ++ (a ∷ [])) ≡ u ++ w
more us a u w e is = flat_map-append wrote us (a ∷ []) ∙ (λ i. e i ++ (append-nil (wrote a) ∙ is) i)

quiet : (us : List Answer) (a : Answer) (u : List ℕ) → flat_map wrote us ≡ u → wrote a ≡ [] → flat_map wrote (us ++ (a ∷ [])) ≡ u
quiet us a u e is = more us a u [] e is ∙ append-nil u

-- ---- a handled run is one of any make

module _ {F C V : Type 0} (f : Family F V) (c : Calendar C) where
  pub of_any_make : {B : Board} {fit : Bool} {cs : List Call} {x : Run F C V f c} {u : List ℕ} → Handled f c B fit cs x u →
      (us : List Answer) × (AnyHandled f.logic (Has f c) B fit cs x us × (flat_map wrote us ≡ u))
  of_any_make (opens board calendar o) = ([], (any_opens o, refl))
  of_any_make (wakes {B = B} {u = u} past g k y r w) =
      let was = of_any_make past in
      (was.0 ++ (told r ∷ []), (any_calls was.1.0 (wake g k) y (told r) (w.called B), quiet was.0 (told r) u was.1.1 (no_bytes r)))
  of_any_make (drives {B = B} {u = u} past p k y r w) =
      let was = of_any_make past in
      (was.0 ++ (told r ∷ []), (any_calls was.1.0 (drive p k) y (told r) (w.called B), quiet was.0 (told r) u was.1.1 (no_bytes r)))
  of_any_make (advances {B = B} {u = u} past k out y out' r w) =
      let was = of_any_make past in (
        was.0 ++ (told_trace r out' ∷ []),
        (any_calls was.1.0 (advance k (length out)) y (told_trace r out') (w.called B), more was.0 (told_trace r out') u (added r out') was.1.1 (bytes_added r out')),
      )
  of_any_make (reads {B = B} {x = x} {u = u} past n r w) =
      let was = of_any_make past in
      (was.0 ++ (told_level r ∷ []), (any_calls was.1.0 (read n) x (told_level r) (w B), quiet was.0 (told_level r) u was.1.1 (no_level_bytes r)))

module _ {F C D V : Type 0} (f : Family F V) (laws : Laws f.logic) (c : Calendar C) (d : Calendar D) where
  pub law_of_runs : LawOfRuns f c d
  law_of_runs r q x y u v h k =
      let one = of_any_make f c h in
      let two = of_any_make f d k in
      let all = any_two_runs laws (Has f c) (Has f d) r q x y one.0 two.0 one.1.0 two.1.0 in
      record {
        traces = λ watch ticks.
            let iff = all.traces watch ticks in
            (λ e. iff.0 (one.1.1 ∙ e ∙ sym two.1.1), λ levels. sym one.1.1 ∙ iff.1 levels ∙ two.1.1);
        learning = λ t same lt lt' l n.
            let kept = all.learning t same lt lt' l n in
            record {
              refines = kept.0;
              equal = kept.1;
              answered = λ definite p p' a b ra rb. same_told b a (kept.2 definite p p' x y (told_level a) (told_level b) (ra r.board) (rb q.board));
            };
        gate_order = λ alike ticks.
            let order = all.gate_order alike ticks in (
              sym one.1.1 ∙ order.0 ∙ two.1.1,
              λ n a b ra rb oka okb. same_told a b (order.1 n x y (told_level a) (told_level b) (ra r.board) (rb q.board) (accepted a oka) (accepted b okb)),
            );
        pairs = (three_laws laws).pairs r q;
      }
