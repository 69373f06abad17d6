use Rattle.std.proofs.Common.{◌≡◌, ℕ, ◌+◌, ◌-◌, ◌≤◌, true, false, not, eqb, ltb, [], ◌∷◌, length, Err, sym, refl, ap, ◌∙◌, subst, arith}
use Rattle.std.proofs.lemmas.Result.{err_from_is_err_and}
use Rattle.std.proofs.lemmas.Bool.{lt-ltb, le-ltb, eq-eqb, ne_eqb}
use Rattle.netlist.specs.Board.{Board}
use Rattle.signal.specs.Calls.{State, advance, first_of, tick_room, completes, most_ticks}
use Rattle.run.specs.declared.state.RunFault.TheVariants.{UnfitCalendar, ZeroTicks, TooManyTicks, ShortBuffer}
use Rattle.signal.proofs.Advancing.{completes_stop}
use Rattle.run.specs.Calls.{Has, Advanced}
use Rattle.run.proofs.Callings.{advance_refused, unfit, unready, is_ready, never, same_ok, accepts, fit_on}
use Rattle.run.proofs.Advances.{Going, going_none, going_more, gone, room_is}
use Rattle.run.proofs.state.Run.advance.Goals as goal

pub returns-in_err-ready : goal.returns-in_err-ready
returns-in_err-ready g c =
    let x = c.args.self.now in
    let out = c.args.out.now in
    let u = unready x.fit x.ticks c.in_err-ready.field-0.0 (sym c.ready.ensures ∙ c.in_err-ready.was) in
    let p = err_from_is_err_and c.from_residual.result c.from_residual.ensures.1 in
    subst (Advanced g.F.Family g.C.Calendar x c.args.k out x out) (sym (p.1 ∙ ap Err (p.2 ∙ u.1)))
    (advance_refused g.F.Family g.C.Calendar x (UnfitCalendar x.ticks) refl c.args.k out
    (λ C s h. unfit g.F.Family g.C.Calendar C s x h (advance c.args.k (length out)) u.0))

pub returns-then-k-eq0 : goal.returns-then-k-eq0
returns-then-k-eq0 g c =
    let x = c.args.self.now in
    let L = g.F.Family.logic in
    let k = c.args.k in
    let n = length c.args.out.now in
    let on = is_ready x.fit x.ticks tt (sym c.ready.ensures ∙ c.in_ok-ready.was) in
    advance_refused g.F.Family g.C.Calendar x (ZeroTicks x.ticks) refl k c.args.out.now (λ C s h.
    let e₁ : not s.fit ≡ false = fit_on g.F.Family g.C.Calendar C s x h on in
    let e₂ : eqb k 0 ≡ true = eq-eqb k 0 c.if-k-eq0.true in
    λ i. first_of ((e₁ i, 16) ∷ (e₂ i, 19) ∷ (ltb most_ticks (s.ticks + k), 20) ∷ (ltb n (tick_room L C), 21) ∷ []))

pub returns-then-k-self : goal.returns-then-k-self
returns-then-k-self g c =
    let x = c.args.self.now in
    let L = g.F.Family.logic in
    let k = c.args.k in
    let n = length c.args.out.now in
    let on = is_ready x.fit x.ticks tt (sym c.ready.ensures ∙ c.in_ok-ready.was) in
    advance_refused g.F.Family g.C.Calendar x (TooManyTicks x.ticks) refl k c.args.out.now (λ C s h.
    let e₁ : not s.fit ≡ false = fit_on g.F.Family g.C.Calendar C s x h on in
    let e₂ : eqb k 0 ≡ false = ne_eqb k 0 c.if-k-eq0.false in
    let e₃ : ltb most_ticks (s.ticks + k) ≡ true = lt-ltb most_ticks (s.ticks + k) (omega (arith, h.fits.ticks_are, x.early, c.if-k-self.true)) in
    λ i. first_of ((e₁ i, 16) ∷ (e₂ i, 19) ∷ (e₃ i, 20) ∷ (ltb n (tick_room L C), 21) ∷ []))

pub returns-then-out-room : goal.returns-then-out-room
returns-then-out-room g c =
    let x = c.args.self.now in
    let L = g.F.Family.logic in
    let k = c.args.k in
    let n = length c.args.out.now in
    let on = is_ready x.fit x.ticks tt (sym c.ready.ensures ∙ c.in_ok-ready.was) in
    advance_refused g.F.Family g.C.Calendar x (ShortBuffer x.ticks) refl k c.args.out.now (λ C s h.
    let e₁ : not s.fit ≡ false = fit_on g.F.Family g.C.Calendar C s x h on in
    let e₂ : eqb k 0 ≡ false = ne_eqb k 0 c.if-k-eq0.false in
    let e₃ : ltb most_ticks (s.ticks + k) ≡ false = le-ltb most_ticks (s.ticks + k) (omega (arith, h.fits.ticks_are, x.early, c.if-k-self.false)) in
    let e₄ : ltb n (tick_room L C) ≡ true = lt-ltb n (tick_room L C) (omega (arith, room_is g.F.Family g.C.Calendar C s x h, c.if-out-room.true)) in
    λ i. first_of ((e₁ i, 16) ∷ (e₂ i, 19) ∷ (e₃ i, 20) ∷ (e₄ i, 21) ∷ []))

pub loop-done-init : goal.loop-done-init
loop-done-init g c = (omega arith, omega arith, refl, λ C s on h. going_none g.F.Family g.C.Calendar C s c.args.k c.args.out.now c.args.self.now h)

pub loop-done-preserved : goal.loop-done-preserved
loop-done-preserved g c =
    let inv = c.loop-done.invariant in (
      c.tick-end.ensures.ends,
      c.tick-end.ensures.more ∙ ap (λ n. n + 1) inv.1 ∙ omega arith,
      c.tick-end.ensures.net ∙ inv.2,
      λ C s on h.
          let w = inv.3 C s on h in
          let t = c.tick-end.ensures.ticked C s _ _ on w.at in
          going_more g.F.Family g.C.Calendar C s c.args.k c.args.out.now c.loop-done.done c.loop-done.end c.tick-end.result c.loop-done.out c.tick-end.new.out c.loop-done.self c.tick-end.new.self
          (omega arith) (omega (arith, c.loop-done.auto.out)) (omega (arith, room_is g.F.Family g.C.Calendar C s c.args.self.now h, c.loop-done.auto.out)) w t.0 t.1,
    )

pub returns-then-out-end : goal.returns-then-out-end
returns-then-out-end g c =
    let x = c.args.self.now in
    let L = g.F.Family.logic in
    let k = c.args.k in
    let n = length c.args.out.now in
    let on = is_ready x.fit x.ticks tt (sym c.ready.ensures ∙ c.in_ok-ready.was) in
    record {
      called = λ C s h.
          let e₁ : not s.fit ≡ false = fit_on g.F.Family g.C.Calendar C s x h on in
          let e₂ : eqb k 0 ≡ false = ne_eqb k 0 c.if-k-eq0.false in
          let e₃ : ltb most_ticks (s.ticks + k) ≡ false = le-ltb most_ticks (s.ticks + k) (omega (arith, h.fits.ticks_are, x.early, c.if-k-self.false)) in
          let e₄ : ltb n (tick_room L C) ≡ false = le-ltb n (tick_room L C) (omega (arith, room_is g.F.Family g.C.Calendar C s x h, c.if-out-room.false)) in
          let z = gone g.F.Family g.C.Calendar C s k c.args.out.now c.loop-done.done c.loop-done.end c.loop-done.out c.loop-done.self (completes_stop L C s (k - c.loop-done.done) (s.ticks + c.loop-done.done) (n - c.loop-done.end) (omega (arith, room_is g.F.Family g.C.Calendar C s x h, c.loop-done.auto.out, c.if-out-end.true))) (c.loop-done.invariant.3 C s (sym h.fits.fit_is ∙ on) h) in
          let r = accepts g.F.Family g.C.Calendar C s x h (advance k n) c.loop-done.self (λ i. first_of ((e₁ i, 16) ∷ (e₂ i, 19) ∷ (e₃ i, 20) ∷ (e₄ i, 21) ∷ [])) z.0 in
          (r.0, z.1 ∙ r.1);
      within = λ t b ok. subst (λ n. n ≤ length c.loop-done.out) (ap (λ q. q.1) (same_ok (c.loop-done.done, c.loop-done.end) (t, b) ok)) c.loop-done.invariant.0;
      stays = λ C s h. (gone g.F.Family g.C.Calendar C s k c.args.out.now c.loop-done.done c.loop-done.end c.loop-done.out c.loop-done.self (completes_stop L C s (k - c.loop-done.done) (s.ticks + c.loop-done.done) (n - c.loop-done.end) (omega (arith, room_is g.F.Family g.C.Calendar C s x h, c.loop-done.auto.out, c.if-out-end.true))) (c.loop-done.invariant.3 C s (sym h.fits.fit_is ∙ on) h)).2;
      unchanged = λ e refused. absurd (never (c.loop-done.done, c.loop-done.end) e refused);
    }

none : (k : ℕ) → k - k ≡ 0
none k = omega arith

pub returns : goal.returns
returns g c =
    let x = c.args.self.now in
    let L = g.F.Family.logic in
    let k = c.args.k in
    let n = length c.args.out.now in
    let l = c.loop-done in
    let on = is_ready x.fit x.ticks tt (sym c.ready.ensures ∙ c.in_ok-ready.was) in
    let all : l.done ≡ k = omega arith in
    let through = λ (C : Board) (s : State g.row.F-Value.Denot) (h : Has g.F.Family g.C.Calendar C s x).
    gone g.F.Family g.C.Calendar C s k c.args.out.now k l.end l.out l.self (ap (λ j. completes L C s j (s.ticks + k) (n - l.end)) (none k))
    (subst (λ d. Going g.F.Family g.C.Calendar C s k c.args.out.now d l.end l.out l.self) all (l.invariant.3 C s (sym h.fits.fit_is ∙ on) h)) in
    record {
      called = λ C s h.
          let e₁ : not s.fit ≡ false = fit_on g.F.Family g.C.Calendar C s x h on in
          let e₂ : eqb k 0 ≡ false = ne_eqb k 0 c.if-k-eq0.false in
          let e₃ : ltb most_ticks (s.ticks + k) ≡ false = le-ltb most_ticks (s.ticks + k) (omega (arith, h.fits.ticks_are, x.early, c.if-k-self.false)) in
          let e₄ : ltb n (tick_room L C) ≡ false = le-ltb n (tick_room L C) (omega (arith, room_is g.F.Family g.C.Calendar C s x h, c.if-out-room.false)) in
          let z = through C s h in
          let r = accepts g.F.Family g.C.Calendar C s x h (advance k n) l.self (λ i. first_of ((e₁ i, 16) ∷ (e₂ i, 19) ∷ (e₃ i, 20) ∷ (e₄ i, 21) ∷ [])) z.0 in
          (r.0, z.1 ∙ r.1);
      within = λ t b ok. subst (λ n. n ≤ length l.out) (ap (λ q. q.1) (same_ok (k, l.end) (t, b) ok)) l.invariant.0;
      stays = λ C s h. (through C s h).2;
      unchanged = λ e refused. absurd (never (k, l.end) e refused);
    }
