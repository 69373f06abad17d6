-- What a line takes from the run's own contract.
use Rattle.std.proofs.Common.{◌≡◌, ℕ, ◌+◌, ◌-◌, ◌<◌, ◌≤◌, min, Bool, true, false, not, eqb, ltb, leb, List, [], ◌∷◌, ◌++◌, length, take, drop, is_some, Some, None, Ok, Err, Option, Result, sym, refl, ap, ◌∙◌, subst, ⊎_elim, arith, length-append, length-take}
use Rattle.std.specs.List.{flat_map}
use Rattle.std.specs.Option.{option_map}
use Rattle.std.proofs.lemmas.List.{take-append-drop, drop_all}
use Rattle.std.proofs.lemmas.Bool.{cases_lt, le-leb}
use Rattle.logic.specs.declared.family.Family.{Ghosts as Family}
use Rattle.logic.specs.declared.named.Named.{Ghosts as Named}
use Rattle.logic.specs.Logic.{Logic, Laws}
use Rattle.logic.specs.Naming.{NamingLaws}
use Rattle.calendar.specs.declared.calendar.Calendar.{Ghosts as Calendar}
use Rattle.netlist.specs.Board.{Board, WellFormed}
use Rattle.netlist.proofs.Contents.{well_formed}
use Rattle.signal.specs.Circuit.{gate_count}
use Rattle.signal.specs.Calls.{level, completes, written, change_bytes, State, Call, Answer, wake, drive, advance, read, done, advanced, shows, refused, first_of, refusal, leaves, answers, after, answer, wrote}
use Rattle.run.specs.declared.state.Run.{Run}
use Rattle.run.specs.declared.state.RunFault.{RunFault}
use Rattle.run.specs.Faults as run
use Rattle.run.specs.Calls.{Has, Called, told, told_level, told_trace, behind, Advanced, Reads}
use Rattle.script_text.specs.declared.command.Command.{Command}
use Rattle.script_text.specs.declared.command.Command.TheVariants.{Advance, Read}
use Rattle.script_text.specs.Laid.{Wrote, Lays}
use Rattle.script_text.specs.Texts.{ok_text, level_text, trace_text}
use Rattle.script_text.proofs.Over.{lays_whole}
use Rattle.script.proofs.Lines.{name_short, in_time, written_plain, trace_lines, advance_short}
use Rattle.script.specs.Faults.{at_line}
use Rattle.script_text.specs.Commands.{name_of}
use Rattle.script_text.specs.Texts.{certainty}
use Rattle.script.specs.Answers.{call_of, fronted, granted, Obeys, most_trace}
use Rattle.script.specs.declared.fault.AtLine.{AtLine}
use Rattle.script.specs.declared.fault.ScriptFault.TheVariants.{Refused}

-- ---- a call's result beside its line

pub at_line_err : {T : Type 0} (line : ℕ) (r : Result T RunFault) (e : AtLine) → at_line line r ≡ Err e → (r ≡ Err e.fault) × (e.line ≡ line)
at_line_err line (Ok v) e q = absurd (let z : ◌≡◌ {A = ℕ} 0 1 = cc in omega arith)
at_line_err {T} line (Err f) e q = let p : record { line = line; fault = f } ≡ e = cc in (ap (λ (a : AtLine). Err a.fault) p, sym (ap (λ (a : AtLine). a.line) p))

pub at_line_ok : {T : Type 0} (line : ℕ) (r : Result T RunFault) (v : T) → at_line line r ≡ Ok v → r ≡ Ok v
at_line_ok line (Ok w) v q = cc
at_line_ok line (Err f) v q = absurd (let z : ◌≡◌ {A = ℕ} 0 1 = cc in omega arith)

-- ---- refused or granted

module _ {V : Type 0} (L : Logic V) (C : Board) (s : State V) where
  never : (c : Call) (n p : ℕ) → refused n p ≡ answers L C s c → ⊥
  never (wake g k) n p e = let z : ◌≡◌ {A = ℕ} 0 1 = cc in omega arith
  never (drive g k) n p e = let z : ◌≡◌ {A = ℕ} 0 1 = cc in omega arith
  never (advance k m) n p e = let z : ◌≡◌ {A = ℕ} 0 1 = cc in omega arith
  never (read m) n p e = let z : ◌≡◌ {A = ℕ} 0 1 = cc in omega arith

  answer_at : (c : Call) (o : Option ℕ) → refusal L C s c ≡ o → answer L C s c ≡ elim o [ Some fault ↦ refused fault s.ticks | None ↦ answers L C s c ]
  answer_at c o q = ap (λ p. elim p [ Some fault ↦ refused fault s.ticks | None ↦ answers L C s c ]) q

  pub refused_is : (c : Call) (n p : ℕ) → refused n p ≡ answer L C s c → (refusal L C s c ≡ Some n) × (p ≡ s.ticks)
  refused_is c n p e = by (refusal L C s c) refl
    where
      by : (o : Option ℕ) → refusal L C s c ≡ o → (refusal L C s c ≡ Some n) × (p ≡ s.ticks)
      by None q = absurd (never c n p (e ∙ answer_at c None q))
      by (Some k) q =
          let same : refused n p ≡ refused k s.ticks = e ∙ answer_at c (Some k) q in
          let number : k ≡ n = cc in
          let place : p ≡ s.ticks = cc in
          (q ∙ ap Some number, place)

  pub granted_is : (c : Call) (a : Answer) → ((n p : ℕ) → a ≡ refused n p → ⊥) → a ≡ answer L C s c → (refusal L C s c ≡ None) × (a ≡ answers L C s c)
  granted_is c a other e = by (refusal L C s c) refl
    where
      by : (o : Option ℕ) → refusal L C s c ≡ o → (refusal L C s c ≡ None) × (a ≡ answers L C s c)
      by None q = (q, e ∙ answer_at c None q)
      by (Some k) q = absurd (other k s.ticks (e ∙ answer_at c (Some k) q))

  -- two calls that come to the same
  pub record Alike (c d : Call) : Type 0 where
    pub same_after : after L C s c ≡ after L C s d
    pub same_answer : answer L C s c ≡ answer L C s d

  pub alike_self : (c : Call) → Alike c c
  alike_self c = record { same_after = refl; same_answer = refl }

  alike_refused : (c d : Call) (n : ℕ) → refusal L C s c ≡ Some n → refusal L C s d ≡ Some n → Alike c d
  alike_refused c d n p q = record {
    same_after = ap (λ o. elim o [ Some fault ↦ s | None ↦ leaves L C s c ]) p ∙ sym (ap (λ o. elim o [ Some fault ↦ s | None ↦ leaves L C s d ]) q);
    same_answer = answer_at c (Some n) p ∙ sym (answer_at d (Some n) q);
  }

  -- ---- a number above 65,535 is refused like 65,535

  pub wake_narrow : WellFormed C → (g k : ℕ) → Alike (wake (min g 65535) k) (wake g k)
  wake_narrow wf g k = ⊎_elim low high (cases_lt g 65536)
    where
      low : g < 65536 → Alike (wake (min g 65535) k) (wake g k)
      low lt = let same : g ≡ min g 65535 = omega arith in subst (λ m. Alike (wake m k) (wake g k)) same (alike_self (wake g k))

      high : 65536 ≤ g → Alike (wake (min g 65535) k) (wake g k)
      high le = by s.fit refl
        where
          by : (b : Bool) → s.fit ≡ b → Alike (wake (min g 65535) k) (wake g k)
          by false q =
              alike_refused (wake (min g 65535) k) (wake g k) 16
              (λ i. first_of ((not (q i), 16) ∷ (leb (gate_count C) (min g 65535), 17) ∷ (not (is_some (L.of_code k)), 18) ∷ (ltb 0 s.ticks, 23) ∷ []))
              (λ i. first_of ((not (q i), 16) ∷ (leb (gate_count C) g, 17) ∷ (not (is_some (L.of_code k)), 18) ∷ (ltb 0 s.ticks, 23) ∷ []))
          by true q =
              let few = wf.gates in
              let a = le-leb (gate_count C) (min g 65535) (omega arith) in
              let b = le-leb (gate_count C) g (omega arith) in
              alike_refused (wake (min g 65535) k) (wake g k) 17
              (λ i. first_of ((not (q i), 16) ∷ (a i, 17) ∷ (not (is_some (L.of_code k)), 18) ∷ (ltb 0 s.ticks, 23) ∷ []))
              (λ i. first_of ((not (q i), 16) ∷ (b i, 17) ∷ (not (is_some (L.of_code k)), 18) ∷ (ltb 0 s.ticks, 23) ∷ []))

  pub drive_narrow : WellFormed C → (p k : ℕ) → Alike (drive (min p 65535) k) (drive p k)
  drive_narrow wf p k = ⊎_elim low high (cases_lt p 65536)
    where
      low : p < 65536 → Alike (drive (min p 65535) k) (drive p k)
      low lt = let same : p ≡ min p 65535 = omega arith in subst (λ m. Alike (drive m k) (drive p k)) same (alike_self (drive p k))

      high : 65536 ≤ p → Alike (drive (min p 65535) k) (drive p k)
      high le = by s.fit refl
        where
          by : (b : Bool) → s.fit ≡ b → Alike (drive (min p 65535) k) (drive p k)
          by false q =
              alike_refused (drive (min p 65535) k) (drive p k) 16
              (λ i. first_of ((not (q i), 16) ∷ (leb C.ports (min p 65535), 17) ∷ (not (is_some (L.of_code k)), 18) ∷ []))
              (λ i. first_of ((not (q i), 16) ∷ (leb C.ports p, 17) ∷ (not (is_some (L.of_code k)), 18) ∷ []))
          by true q =
              let a = le-leb C.ports (min p 65535) (omega (arith, wf.ports, wf.nets)) in
              let b = le-leb C.ports p (omega (arith, wf.ports, wf.nets)) in
              alike_refused (drive (min p 65535) k) (drive p k) 17
              (λ i. first_of ((not (q i), 16) ∷ (a i, 17) ∷ (not (is_some (L.of_code k)), 18) ∷ []))
              (λ i. first_of ((not (q i), 16) ∷ (b i, 17) ∷ (not (is_some (L.of_code k)), 18) ∷ []))

  pub read_narrow : WellFormed C → (n : ℕ) → Alike (read (min n 65535)) (read n)
  read_narrow wf n = ⊎_elim low high (cases_lt n 65536)
    where
      low : n < 65536 → Alike (read (min n 65535)) (read n)
      low lt = let same : n ≡ min n 65535 = omega arith in subst (λ m. Alike (read m) (read n)) same (alike_self (read n))

      high : 65536 ≤ n → Alike (read (min n 65535)) (read n)
      high le = by s.fit refl
        where
          by : (b : Bool) → s.fit ≡ b → Alike (read (min n 65535)) (read n)
          by false q =
              alike_refused (read (min n 65535)) (read n) 16
              (λ i. first_of ((not (q i), 16) ∷ (leb C.nets (min n 65535), 22) ∷ (eqb s.ticks 0, 23) ∷ []))
              (λ i. first_of ((not (q i), 16) ∷ (leb C.nets n, 22) ∷ (eqb s.ticks 0, 23) ∷ []))
          by true q =
              let a = le-leb C.nets (min n 65535) (omega (arith, wf.nets)) in
              let b = le-leb C.nets n (omega (arith, wf.nets)) in
              alike_refused (read (min n 65535)) (read n) 22
              (λ i. first_of ((not (q i), 16) ∷ (a i, 22) ∷ (eqb s.ticks 0, 23) ∷ []))
              (λ i. first_of ((not (q i), 16) ∷ (b i, 22) ∷ (eqb s.ticks 0, 23) ∷ []))

-- ---- buffers

-- what a call wrote to the front, and what stays behind it
pub fronted_is : (trace trace' bytes : List ℕ) (n : ℕ) → length trace' ≡ length trace → take n trace' ≡ bytes → drop n trace' ≡ drop n trace → trace' ≡ fronted trace bytes
fronted_is trace trace' bytes n long front rest =
    let size : length bytes ≡ min n (length trace) = sym (ap length front) ∙ length-take n trace' ∙ ap (min n) long in
    sym (take-append-drop n trace') ∙ (λ i. front i ++ rest i) ∙ ap (λ l. bytes ++ l) (behind size)
  where
    behind : length bytes ≡ min n (length trace) → drop n trace ≡ drop (length bytes) trace
    behind size = ⊎_elim
        (λ lt. let same : n ≡ length bytes = omega arith in ap (λ m. drop m trace) same)
        (λ le. drop_all n trace le ∙ sym (drop_all (length bytes) trace (omega arith)))
        (cases_lt n (length trace))

-- ---- the contract of a command, from that of a call

module _ {F D V : Type 0} (f : Family F V) (c : Calendar D) where
  pub kept_rules : (C : Board) (s : State V) (x : Run F D V f c) → Has f c C s x → WellFormed C
  kept_rules C s x h = subst WellFormed h.board (well_formed x.wiring.net)

  -- two calls come to the same for every state that the run has come to
  abbrev pub Interchange : Run F D V f c → Call → Call → Type 0
  Interchange x d e = (C : Board) (s : State V) → Has f c C s x → Alike f.logic C s d e

  pub swapped : (x y : Run F D V f c) (d e : Call) (a : Answer) → Interchange x d e → Called f c d x y a → Called f c e x y a
  swapped x y d e a same called C s h =
      let r = called C s h in
      let w = same C s h in
      (subst (λ t. Has f c C t y) w.same_after r.0, r.1 ∙ w.same_answer)

  -- a number that was cut to 16 bits
  pub wakes_alike : (x : Run F D V f c) (m g k : ℕ) → m ≡ min g 65535 → Interchange x (wake m k) (wake g k)
  wakes_alike x m g k is = λ C s h. subst (λ j. Alike f.logic C s (wake j k) (wake g k)) (sym is) (wake_narrow f.logic C s (kept_rules C s x h) g k)

  pub drives_alike : (x : Run F D V f c) (m p k : ℕ) → m ≡ min p 65535 → Interchange x (drive m k) (drive p k)
  drives_alike x m p k is = λ C s h. subst (λ j. Alike f.logic C s (drive j k) (drive p k)) (sym is) (drive_narrow f.logic C s (kept_rules C s x h) p k)

module _ {F D V : Type 0} (f : Family F V) (n : Named F V) (c : Calendar D) (line : ℕ) (k : Command) (x y : Run F D V f c) (out trace : List ℕ) where
  pub obeys_refused : (e : RunFault) (trace' : List ℕ) → Called f c (call_of k) x y (refused (run.number e) (run.place e)) → (y ≡ x) × (trace' ≡ trace) →
      Obeys f n c line k x out trace y out trace' (Err (Refused line e))
  obeys_refused e trace' called same = record {
    goes_on = λ C s h. (called C s h).0;
    replies = λ C s h.
        let r = refused_is f.logic C s (call_of k) (run.number e) (run.place e) (called C s h).1 in
        ap (option_map (λ m. record { line = line; number = m; letter = 114; place = s.ticks })) r.0 ∙ ap (λ t. Some (record { line = line; number = run.number e; letter = 114; place = t })) (sym r.1);
    traces = λ C s h. same.1 ∙ ap (λ a. fronted trace (wrote a)) (called C s h).1;
    unchanged = λ g q. (same.0, refl, same.1);
  }

  pub obeys_granted : (a : Answer) (out' trace' : List ℕ) (m : ℕ) → ((i p : ℕ) → a ≡ refused i p → ⊥) → Called f c (call_of k) x y a →
      ((C : Board) (s : State V) → Has f c C s x → refusal f.logic C s (call_of k) ≡ None → a ≡ answers f.logic C s (call_of k) → Wrote out 0 (granted f.logic n.naming C s k) m out') →
      ((C : Board) (s : State V) → Has f c C s x → trace' ≡ fronted trace (wrote a)) →
      Obeys f n c line k x out trace y out' trace' (Ok m)
  obeys_granted a out' trace' m other called writes traced = record {
    goes_on = λ C s h. (called C s h).0;
    replies = λ C s h.
        let r = granted_is f.logic C s (call_of k) a other (called C s h).1 in
        (ap (option_map (λ i. record { line = line; number = i; letter = 114; place = s.ticks })) r.0, writes C s h r.0 r.1);
    traces = λ C s h. traced C s h ∙ ap (λ b. fronted trace (wrote b)) (called C s h).1;
    unchanged = λ g q. absurd (let z : ◌≡◌ {A = ℕ} 0 1 = cc in omega arith);
  }

-- ---- wake and drive, advance, read

module _ {F D V : Type 0} (f : Family F V) (n : Named F V) (c : Calendar D) (line : ℕ) (k : Command) (d : Call) (x y : Run F D V f c) (w : Result (Unit {0}) RunFault)
    (called : Called f c d x y (told w)) (unchanged : (e : RunFault) → w ≡ Err e → y ≡ x) (same : Interchange f c x d (call_of k)) (out trace : List ℕ) where
  pub set_err : (e : AtLine) → at_line line w ≡ Err e → Obeys f n c line k x out trace y out trace (Err (Refused e.line e.fault))
  set_err e is =
      let q = at_line_err line w e is in
      let turned = subst (λ a. Called f c (call_of k) x y a) (ap told q.0) (swapped f c x y d (call_of k) (told w) same called) in
      subst (λ l. Obeys f n c line k x out trace y out trace (Err (Refused l e.fault))) (sym q.1)
      (obeys_refused f n c line k x y out trace e.fault trace turned (unchanged e.fault q.0, refl))

  pub set_ok : (u : Unit {0}) → at_line line w ≡ Ok u → (out' : List ℕ) (m : ℕ) → 40000 ≤ length out → Lays out 0 ok_text m out' →
      ((C : Board) (s : State V) → granted f.logic n.naming C s k ≡ ok_text) → Obeys f n c line k x out trace y out' trace (Ok m)
  set_ok u is out' m room lays text =
      let q = at_line_ok line w u is in
      let turned = subst (λ a. Called f c (call_of k) x y a) (ap told q) (swapped f c x y d (call_of k) (told w) same called) in
      obeys_granted f n c line k x y out trace done out' trace m (λ i p e. let z : ◌≡◌ {A = ℕ} 0 1 = cc in omega arith) turned
      (λ C s h none a. subst (λ t. Wrote out 0 t m out') (sym (text C s)) (lays_whole ok_text (omega arith) lays))
      (λ C s h. refl)

module _ {F D V : Type 0} (f : Family F V) (n : Named F V) (c : Calendar D) (line : ℕ) (x : Run F D V f c) (w : Result (ℕ × Bool) RunFault) (net m : ℕ)
    (is : m ≡ min net 65535) (reads : Reads f c x m w) (out trace : List ℕ) where
  read_called : Called f c (read net) x x (told_level w)
  read_called =
      swapped f c x x (read m) (read net) (told_level w)
      (λ C s h. subst (λ j. Alike f.logic C s (read j) (read net)) (sym is) (read_narrow f.logic C s (kept_rules f c C s x h) net)) reads

  pub read_err : (e : AtLine) → at_line line w ≡ Err e → Obeys f n c line (Read net) x out trace x out trace (Err (Refused e.line e.fault))
  read_err e at =
      let q = at_line_err line w e at in
      subst (λ l. Obeys f n c line (Read net) x out trace x out trace (Err (Refused l e.fault))) (sym q.1)
      (obeys_refused f n c line (Read net) x x out trace e.fault trace (subst (λ a. Called f c (read net) x x a) (ap told_level q.0) read_called) (refl, refl))

  pub read_ok : Laws f.logic → NamingLaws n.naming → (code : ℕ) (definite : Bool) → at_line line w ≡ Ok (code, definite) → (out' : List ℕ) (end : ℕ) → 40000 ≤ length out →
      Lays out 0 (level_text f.logic n.naming code definite) end out' → Obeys f n c line (Read net) x out trace x out' trace (Ok end)
  read_ok laws spelling code definite at out' end room lays =
      let q = at_line_ok line w (code, definite) at in
      obeys_granted f n c line (Read net) x x out trace (shows code definite) out' trace end (λ i p e. let z : ◌≡◌ {A = ℕ} 0 1 = cc in omega arith)
      (subst (λ a. Called f c (read net) x x a) (ap told_level q) read_called)
      (λ C s h none a. text C s a)
      (λ C s h. refl)
    where
      certain_short : (b : Bool) → length (certainty b) ≤ 10
      certain_short true = omega arith
      certain_short false = omega arith

      text : (C : Board) (s : State V) → shows code definite ≡ answers f.logic C s (read net) → Wrote out 0 (granted f.logic n.naming C s (Read net)) end out'
      text C s a =
          let L = f.logic in
          let v = level L C s net (s.ticks - 1) in
          let coded : code ≡ L.code (level L C s net (s.ticks - 1)) = cc in
          let known : definite ≡ L.definite (level L C s net (s.ticks - 1)) = cc in
          let name = name_short L n.naming spelling code v (ap L.of_code coded ∙ laws.code_back v) in
          let long = length-append (name_of L n.naming code) (certainty definite) in
          let tail = certain_short definite in
          let fits : 0 + length (level_text L n.naming code definite) ≤ length out = omega arith in
          subst (λ t. Wrote out 0 t end out') (λ i. level_text L n.naming (coded i) (known i)) (lays_whole (level_text L n.naming code definite) fits lays)

module _ {F D V : Type 0} (f : Family F V) (n : Named F V) (c : Calendar D) (line : ℕ) (x y : Run F D V f c) (w : Result (ℕ × ℕ) RunFault) (ticks : ℕ) (out trace trace' : List ℕ)
    (long : length trace ≡ 16384) (works : Advanced f c x ticks trace y trace' w) where
  advance_called : Called f c (advance ticks most_trace) x y (told_trace w trace')
  advance_called =
      swapped f c x y (advance ticks (length trace)) (advance ticks most_trace) (told_trace w trace')
      (λ C s h. subst (λ m. Alike f.logic C s (advance ticks (length trace)) (advance ticks m)) long (alike_self f.logic C s (advance ticks (length trace)))) works.called

  pub advance_err : (e : AtLine) → at_line line w ≡ Err e → Obeys f n c line (Advance ticks) x out trace y out trace' (Err (Refused e.line e.fault))
  advance_err e at =
      let q = at_line_err line w e at in
      subst (λ l. Obeys f n c line (Advance ticks) x out trace y out trace' (Err (Refused l e.fault))) (sym q.1)
      (obeys_refused f n c line (Advance ticks) x y out trace e.fault trace' (subst (λ a. Called f c (advance ticks most_trace) x y a) (ap (λ r. told_trace r trace') q.0) advance_called) (works.unchanged e.fault q.0))

  pub advance_ok : Laws f.logic → NamingLaws n.naming → length trace' ≡ length trace → (finished bytes : ℕ) → at_line line w ≡ Ok (finished, bytes) → (out' : List ℕ) (end : ℕ) → 40000 ≤ length out →
      Lays out 0 (trace_text f.logic n.naming (take bytes trace') finished) end out' → Obeys f n c line (Advance ticks) x out trace y out' trace' (Ok end)
  advance_ok laws spelling same finished bytes at out' end room lays =
      obeys_granted f n c line (Advance ticks) x y out trace (advanced finished (take bytes trace')) out' trace' end (λ i p e. let z : ◌≡◌ {A = ℕ} 0 1 = cc in omega arith)
      (subst (λ a. Called f c (advance ticks most_trace) x y a) (ap (λ r. told_trace r trace') (at_line_ok line w (finished, bytes) at)) advance_called)
      (λ C s h none a. text C s h none a)
      (λ C s h. fronted_is trace trace' (take bytes trace') bytes same refl (subst (λ r. behind r trace' ≡ behind r trace) (at_line_ok line w (finished, bytes) at) (works.stays C s h)))
    where
      text : (C : Board) (s : State V) → Has f c C s x → refusal f.logic C s (advance ticks most_trace) ≡ None → advanced finished (take bytes trace') ≡ answers f.logic C s (advance ticks most_trace) →
          Wrote out 0 (granted f.logic n.naming C s (Advance ticks)) end out'
      text C s h none a =
          let L = f.logic in
          let N = n.naming in
          let wf = kept_rules f c C s x h in
          let early = in_time laws N C s ticks most_trace none in
          let count : finished ≡ completes L C s ticks s.ticks most_trace = cc in
          let written-bytes : take bytes trace' ≡ flat_map change_bytes (written L C s ticks most_trace) = cc in
          let lines : trace_text L N (take bytes trace') finished ≡ granted L N C s (Advance ticks) =
          (λ i. trace_text L N (written-bytes i) (count i)) ∙ trace_lines L N (written L C s ticks most_trace) (completes L C s ticks s.ticks most_trace) (written_plain laws N C s wf ticks early) in
          let short = advance_short laws N C s spelling wf ticks early in
          lays_whole (granted L N C s (Advance ticks)) (omega arith) (subst (λ t. Lays out 0 t end out') lines lays)
