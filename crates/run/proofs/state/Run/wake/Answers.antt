use Rattle.std.proofs.Common.{◌≡◌, true, false, not, ltb, leb, [], ◌∷◌, length, is_some, Err, sym, refl, ap, ◌∙◌, subst, arith}
use Rattle.std.proofs.lemmas.Result.{err_from_is_err_and}
use Rattle.std.proofs.lemmas.Bool.{le-leb, lt-leb, lt-ltb, le-ltb}
use Rattle.signal.specs.Circuit.{gate_count}
use Rattle.signal.specs.Calls.{wake, first_of}
use Rattle.run.specs.declared.state.RunFault.TheVariants.{UnfitCalendar, NoSuchInput, NoSuchCode, WrongTime}
use Rattle.run.specs.Calls.{Waked}
use Rattle.run.proofs.Callings.{wake_refused, unfit, unready, is_ready, unvalued, is_valued, never, accepts, fit_on, gate_number, wake_fits}
use Rattle.run.proofs.state.Run.wake.Goals as goal

pub returns-then-self-ne0 : goal.returns-then-self-ne0
returns-then-self-ne0 g c =
    let x = c.args.self.now in
    let L = g.F.Family.logic in
    let k = c.args.gate in
    let on = is_ready x.fit x.ticks tt (sym c.ready.ensures ∙ c.in_ok-ready.was) in
    let is = is_valued (L.of_code c.args.code) x.ticks c.in_ok-v.v (sym c.value.ensures ∙ c.in_ok-v.was) in
    wake_refused g.F.Family g.C.Calendar x (WrongTime x.ticks) refl k c.args.code (λ C s h.
    let e₁ : not s.fit ≡ false = fit_on g.F.Family g.C.Calendar C s x h on in
    let e₂ : leb (gate_count C) k ≡ false = lt-leb (gate_count C) k (omega (arith, gate_number g.F.Family g.C.Calendar C s x h, c.if-gate-self.false)) in
    let e₃ : not (is_some (L.of_code c.args.code)) ≡ false = ap (λ o. not (is_some o)) is in
    let e₄ : ltb 0 s.ticks ≡ true = lt-ltb 0 s.ticks (omega (arith, h.fits.ticks_are, c.if-self-ne0.true)) in
    λ i. first_of ((e₁ i, 16) ∷ (e₂ i, 17) ∷ (e₃ i, 18) ∷ (e₄ i, 23) ∷ []))

pub returns : goal.returns
returns g c =
    let x = c.args.self.now in
    let L = g.F.Family.logic in
    let k = c.args.gate in
    let on = is_ready x.fit x.ticks tt (sym c.ready.ensures ∙ c.in_ok-ready.was) in
    let is = is_valued (L.of_code c.args.code) x.ticks c.in_ok-v.v (sym c.value.ensures ∙ c.in_ok-v.was) in
    record {
      called = λ C s h.
          let e₁ : not s.fit ≡ false = fit_on g.F.Family g.C.Calendar C s x h on in
          let e₂ : leb (gate_count C) k ≡ false = lt-leb (gate_count C) k (omega (arith, gate_number g.F.Family g.C.Calendar C s x h, c.if-gate-self.false)) in
          let e₃ : not (is_some (L.of_code c.args.code)) ≡ false = ap (λ o. not (is_some o)) is in
          let e₄ : ltb 0 s.ticks ≡ false = le-ltb 0 s.ticks (omega (arith, h.fits.ticks_are, c.if-self-ne0.false)) in
          accepts g.F.Family g.C.Calendar C s x h (wake k c.args.code) _ (λ i. first_of ((e₁ i, 16) ∷ (e₂ i, 17) ∷ (e₃ i, 18) ∷ (e₄ i, 23) ∷ []))
          (record { board = h.board; fits = wake_fits g.met.F.Family.laws x.wiring.net s c.args.code c.in_ok-v.v is (length s.changes) (g.C.Calendar.meaning x.calendar) x.fit x.calm x.ports x.drives x.planned x.levels x.ticks x.records h.fits C k (omega (arith, x.wiring.net.table, c.if-gate-self.false)) (sym h.fits.ticks_are ∙ c.if-self-ne0.false) });
      unchanged = λ e refused. absurd (never tt e refused);
    }
