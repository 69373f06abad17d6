-- How a run goes on over a call.
use Rattle.std.proofs.Common.{◌≡◌, ℕ, zero, suc, ◌+◌, ◌-◌, ◌<◌, Bool, true, false, cond, not, ◌&&◌, eqb, ltb, leb, List, [], ◌∷◌, length, get_or, set, is_some, Some, None, Ok, Err, Option, Result, sym, refl, ap, ◌∙◌, subst, ⊎_elim, arith, length-set, get_or-set_other, get_or-set_same}
use Rattle.std.proofs.lemmas.Bool.{cases_eq, eq-eqb, ne_eqb, le-leb, lt-leb, and_from, and_left, and_right, cond-true, cond-false, false≢true}
use Rattle.netlist.specs.declared.place.Netlist.{Netlist}
use Rattle.calendar.specs.Agenda.{Agenda}
use Rattle.logic.specs.Logic.{Logic, Laws}
use Rattle.netlist.specs.Board.{Board}
use Rattle.signal.specs.Circuit.{gate, gate_count}
use Rattle.signal.specs.Calls.{State, Call, wake, drive, advance, read, refused, first_of, most_ticks, tick_room, value_of, refusal, leaves, answers, after, answer, level, level_before}
use Rattle.logic.specs.declared.family.Family.{Ghosts as Family}
use Rattle.calendar.specs.declared.calendar.Calendar.{Ghosts as Calendar}
use Rattle.signal.proofs.Signals.{d_before}
use Rattle.netlist.specs.Looked.{contents}
use Rattle.run.specs.declared.state.Run.{Run}
use Rattle.run.specs.Fits.{Fits, waiting_at}
use Rattle.run.specs.declared.state.RunFault.{RunFault}
use Rattle.run.specs.declared.state.RunFault.TheVariants.{UnfitCalendar, NoSuchCode}
use Rattle.run.specs.Faults.{number, place}
use Rattle.run.specs.Calls.{Has, Called, Waked, Driven, Advanced, readied, valued}
use Rattle.netlist.proofs.Contents.{gate_count as gates-count, well_formed}
use Rattle.run.proofs.Locality.{drives_same, levels_same, waiting_same}

pub first_on : (b : Bool) (n : ℕ) (cs : List (Bool × ℕ)) → b ≡ true → first_of ((b, n) ∷ cs) ≡ Some n
first_on b n cs e = ap (λ c. first_of ((c, n) ∷ cs)) e

pub first_off : (b : Bool) (n : ℕ) (cs : List (Bool × ℕ)) → b ≡ false → first_of ((b, n) ∷ cs) ≡ first_of cs
first_off b n cs e = ap (λ c. first_of ((c, n) ∷ cs)) e

module _ {F D V : Type 0} (f : Family F V) (c : Calendar D) (C : Board) (s : State V) (x : Run F D V f c) (h : Has f c C s x) where
  fit_off : x.fit ≡ false → not s.fit ≡ true
  fit_off e = ap not (sym h.fits.fit_is ∙ e)

  pub refuses : (call : Call) (k : ℕ) → refusal f.logic C s call ≡ Some k → Has f c C (after f.logic C s call) x × (refused k x.ticks ≡ answer f.logic C s call)
  refuses call k e = (
    subst (λ o. Has f c C (elim o [ Some fault ↦ s | None ↦ leaves f.logic C s call ]) x) (sym e) h,
    ap (refused k) h.fits.ticks_are ∙ sym (ap (λ o. elim o [ Some fault ↦ refused fault s.ticks | None ↦ answers f.logic C s call ]) e),
  )

  pub accepts : (call : Call) (y : Run F D V f c) → refusal f.logic C s call ≡ None → Has f c C (leaves f.logic C s call) y → Has f c C (after f.logic C s call) y × (answers f.logic C s call ≡ answer f.logic C s call)
  accepts call y e k = (
    subst (λ o. Has f c C (elim o [ Some fault ↦ s | None ↦ leaves f.logic C s call ]) y) (sym e) k,
    sym (ap (λ o. elim o [ Some fault ↦ refused fault s.ticks | None ↦ answers f.logic C s call ]) e),
  )

  pub unfit : (call : Call) → x.fit ≡ false → refusal f.logic C s call ≡ Some 16
  unfit (wake g k) e = first_on (not s.fit) 16 ((leb (gate_count C) g, 17) ∷ (not (is_some (f.logic.of_code k)), 18) ∷ (ltb 0 s.ticks, 23) ∷ []) (fit_off e)
  unfit (drive p k) e = first_on (not s.fit) 16 ((leb C.ports p, 17) ∷ (not (is_some (f.logic.of_code k)), 18) ∷ []) (fit_off e)
  unfit (advance k n) e = first_on (not s.fit) 16 ((eqb k 0, 19) ∷ (ltb most_ticks (s.ticks + k), 20) ∷ (ltb n (tick_room f.logic C), 21) ∷ []) (fit_off e)
  unfit (read n) e = first_on (not s.fit) 16 ((leb C.nets n, 22) ∷ (eqb s.ticks 0, 23) ∷ []) (fit_off e)

  pub fit_on : x.fit ≡ true → not s.fit ≡ false
  fit_on e = ap not (sym h.fits.fit_is ∙ e)

  pub ports_count : C.ports ≡ x.wiring.net.head.ports
  ports_count = sym (ap (λ (B : Board). B.ports) h.board)

  pub nets_count : C.nets ≡ x.wiring.net.head.nets
  nets_count = sym (ap (λ (B : Board). B.nets) h.board)

  pub gate_number : gate_count C ≡ x.wiring.net.head.gates
  gate_number = sym (ap gate_count h.board) ∙ gates-count x.wiring.net

-- ---- what the checks 16 and 18 tell

pub never : {T E : Type 0} (v : T) (e : E) → Ok v ≡ Err e → ⊥
never v e is = let z : ◌≡◌ {A = ℕ} 0 1 = cc in omega arith

same_err : {T E : Type 0} (e e' : E) → ◌≡◌ {A = Result T E} (Err e) (Err e') → e ≡ e'
same_err e e' is = cc

pub same_ok : {T E : Type 0} (v v' : T) → ◌≡◌ {A = Result T E} (Ok v) (Ok v') → v ≡ v'
same_ok v v' is = cc

pub unready : (fit : Bool) (t : ℕ) (e : RunFault) → readied fit t ≡ Err e → (fit ≡ false) × (e ≡ UnfitCalendar t)
unready true t e is = absurd (never tt e is)
unready false t e is = (refl, sym (same_err (UnfitCalendar t) e is))

pub is_ready : (fit : Bool) (t : ℕ) (u : Unit {0}) → readied fit t ≡ Ok u → fit ≡ true
is_ready true t u is = refl
is_ready false t u is = absurd (never u (UnfitCalendar t) (sym is))

pub unvalued : {V : Type 0} (o : Option V) (t : ℕ) (e : RunFault) → valued o t ≡ Err e → (o ≡ None) × (e ≡ NoSuchCode t)
unvalued (Some v) t e is = absurd (never v e is)
unvalued None t e is = (refl, sym (same_err (NoSuchCode t) e is))

pub is_valued : {V : Type 0} (o : Option V) (t : ℕ) (v : V) → valued o t ≡ Ok v → o ≡ Some v
is_valued (Some w) t v is = ap Some (same_ok w v is)
is_valued None t v is = absurd (never v (NoSuchCode t) (sym is))

-- ---- a refused call

module _ {F D V : Type 0} (f : Family F V) (c : Calendar D) (x : Run F D V f c) (e : RunFault) (at : place e ≡ x.ticks) where
  pub call_refused : (call : Call) → ((C : Board) (s : State V) → Has f c C s x → refusal f.logic C s call ≡ Some (number e)) → Called f c call x x (refused (number e) (place e))
  call_refused call is C s h =
      let r = refuses f c C s x h call (number e) (is C s h) in
      (r.0, ap (refused (number e)) at ∙ r.1)

  pub wake_refused : (g k : ℕ) → ((C : Board) (s : State V) → Has f c C s x → refusal f.logic C s (wake g k) ≡ Some (number e)) → Waked f c x g k x (Err e)
  wake_refused g k is = record { called = call_refused (wake g k) is; unchanged = λ e' _. refl }

  pub drive_refused : (p k : ℕ) → ((C : Board) (s : State V) → Has f c C s x → refusal f.logic C s (drive p k) ≡ Some (number e)) → Driven f c x p k x (Err e)
  drive_refused p k is = record { called = call_refused (drive p k) is; unchanged = λ e' _. refl }

  pub advance_refused : (k : ℕ) (out : List ℕ) → ((C : Board) (s : State V) → Has f c C s x → refusal f.logic C s (advance k (length out)) ≡ Some (number e)) → Advanced f c x k out x out (Err e)
  advance_refused k out is = record { called = call_refused (advance k (length out)) is; within = λ t b ok. absurd (never (t, b) e (sym ok)); stays = λ C s h. refl; unchanged = λ e' _. (refl, refl) }

pub before_is : {V : Type 0} (L : Logic V) (C : Board) (s : State V) (n t : ℕ) → (t ≡ 0 → ⊥) → level_before L C s n t ≡ level L C s n (t - 1)
before_is L C s n zero ne = absurd (ne refl)
before_is L C s n (suc t) ne = ap (level L C s n) (less t)
  where
    less : (t : ℕ) → t ≡ suc t - 1
    less t = omega arith

module _ {F D V : Type 0} (f : Family F V) (c : Calendar D) (C : Board) (s : State V) (x : Run F D V f c) (h : Has f c C s x) where
  pub read_level : (n : ℕ) → n < 1024 → (s.ticks ≡ 0 → ⊥) → get_or x.levels n f.logic.unset ≡ level f.logic C s n (s.ticks - 1)
  read_level n lt ne =
      h.fits.held.levels_are n lt ∙ before_is f.logic (contents x.wiring.net) s n s.ticks ne ∙ ap (λ (B : Board). level f.logic B s n (s.ticks - 1)) h.board

module _ {V : Type 0} {L : Logic V} (laws : Laws L) (net : Netlist) (s : State V) (k : ℕ) (v : V) (is : L.of_code k ≡ Some v)
    (n : ℕ) (a : Agenda) (fit calm : Bool) (ports drive₀ plan levels : List V) (ticks records : ℕ)
    (f : Fits L (contents net) s s.ticks n a fit calm ports drive₀ plan levels ticks records) where
  value_is : value_of L k ≡ v
  value_is = ap (λ o. elim o [ Some w ↦ w | None ↦ L.unset ]) is

  pub drive_fits : (C : Board) (p : ℕ) → p < 1024 → Fits L (contents net) (leaves L C s (drive p k)) s.ticks n a fit false (set ports p v) drive₀ plan levels ticks records
  drive_fits C p lt =
      let B = contents net in
      let T = s.ticks in
      let s' = leaves L C s (drive p k) in
      let same : (q u : ℕ) → u < T → s'.port q u ≡ s.port q u = λ q u h. cond-false (eqb q p && leb T u) (value_of L k) (s.port q u) (and_right (eqb q p) (leb T u) (lt-leb T u h)) in
      let ok = well_formed net in
      record {
        fit_is = f.fit_is;
        ticks_are = f.ticks_are;
        records_are = f.records_are;
        held = record {
          ports_long = length-set ports p v ∙ f.held.ports_long;
          drives_long = f.held.drives_long;
          planned_long = f.held.planned_long;
          levels_long = f.held.levels_long;
          ports_are = λ q u in' le. ⊎_elim
              (λ e. ap (λ j. get_or (set ports p v) j L.unset) e ∙ get_or-set_same ports p v L.unset (omega (arith, f.held.ports_long)) ∙ sym value_is
              ∙ sym (cond-true (eqb q p && leb T u) (value_of L k) (s.port q u) (and_from (eqb q p) (leb T u) (eq-eqb q p e) (le-leb T u le))))
              (λ ne. get_or-set_other ports p q v L.unset ne ∙ f.held.ports_are q u in' le
              ∙ sym (cond-false (eqb q p && leb T u) (value_of L k) (s.port q u) (and_left (eqb q p) (leb T u) (ne_eqb q p ne))))
              (cases_eq q p);
          drives_are = λ g h. f.held.drives_are g h ∙ sym (drives_same laws B ok s s' T refl same g (T - 1) h (omega (arith, (ok.good g h).delay_low)));
          planned_are = λ g h. f.held.planned_are g h ∙ sym (drives_same laws B ok s s' T refl same g (T + (gate B g).delay - 1) h (omega (arith, (ok.good g h).delay_low)));
          levels_are = λ m h. f.held.levels_are m h ∙ sym (levels_same laws B ok s s' T refl same T m (omega arith));
        };
        calm_is = λ e. absurd (false≢true e);
        kept = λ on. let K = f.kept on in record {
          today_is = K.today_is;
          waiting_is = K.waiting_is ∙ sym (waiting_same laws B ok s s' T refl same T (omega arith));
          gates_fit = K.gates_fit;
          room_fits = K.room_fits;
        };
      }

  pub wake_fits : (C : Board) (g₀ : ℕ) → g₀ < 1024 → s.ticks ≡ 0 → Fits L (contents net) (leaves L C s (wake g₀ k)) s.ticks n a fit calm ports (set drive₀ g₀ v) (set plan g₀ v) levels ticks records
  wake_fits C g₀ lt none =
      let B = contents net in
      let T = s.ticks in
      let s' = leaves L C s (wake g₀ k) in
      let ok = well_formed net in
      record {
        fit_is = f.fit_is;
        ticks_are = f.ticks_are;
        records_are = f.records_are;
        held = record {
          ports_long = f.held.ports_long;
          drives_long = length-set drive₀ g₀ v ∙ f.held.drives_long;
          planned_long = length-set plan g₀ v ∙ f.held.planned_long;
          levels_long = f.held.levels_long;
          ports_are = f.held.ports_are;
          drives_are = λ g h. woken drive₀ f.held.drives_long g (f.held.drives_are g h ∙ d_before L B s.start s.port g (T - 1) (omega (arith, (ok.good g h).delay_low))) ∙ sym (d_before L B s'.start s'.port g (T - 1) (omega (arith, (ok.good g h).delay_low)));
          planned_are = λ g h. woken plan f.held.planned_long g (f.held.planned_are g h ∙ d_before L B s.start s.port g (T + (gate B g).delay - 1) (omega (arith, (ok.good g h).delay_low))) ∙ sym (d_before L B s'.start s'.port g (T + (gate B g).delay - 1) (omega (arith, (ok.good g h).delay_low)));
          levels_are = λ m h. f.held.levels_are m h ∙ ap (level_before L B s m) none ∙ sym (ap (level_before L B s' m) none);
        };
        calm_is = λ e. absurd (omega (arith, (f.calm_is e).some));
        kept = λ on. let K = f.kept on in record {
          today_is = K.today_is;
          waiting_is = K.waiting_is ∙ ap (waiting_at L B s) none ∙ sym (ap (waiting_at L B s') none);
          gates_fit = K.gates_fit;
          room_fits = K.room_fits;
        };
      }
    where
      woken : (ls : List V) → length ls ≡ 1024 → (g : ℕ) → get_or ls g L.unset ≡ s.start g → get_or (set ls g₀ v) g L.unset ≡ cond (eqb g g₀) (value_of L k) (s.start g)
      woken ls long g was = ⊎_elim
          (λ e. ap (λ j. get_or (set ls g₀ v) j L.unset) e ∙ get_or-set_same ls g₀ v L.unset (omega arith) ∙ sym value_is ∙ sym (cond-true (eqb g g₀) (value_of L k) (s.start g) (eq-eqb g g₀ e)))
          (λ ne. get_or-set_other ls g₀ g v L.unset ne ∙ was ∙ sym (cond-false (eqb g g₀) (value_of L k) (s.start g) (ne_eqb g g₀ ne)))
          (cases_eq g g₀)
