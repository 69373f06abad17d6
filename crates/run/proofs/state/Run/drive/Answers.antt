use Rattle.std.proofs.Common.{◌≡◌, false, not, leb, [], ◌∷◌, length, is_some, sym, ap, ◌∙◌, arith}
use Rattle.std.proofs.lemmas.Bool.{lt-leb}
use Rattle.signal.specs.Calls.{drive, first_of}
use Rattle.run.proofs.Callings.{is_ready, is_valued, never, accepts, fit_on, ports_count, drive_fits}
use Rattle.run.proofs.state.Run.drive.Goals as goal

pub returns : goal.returns
returns g c =
    let x = c.args.self.now in
    let L = g.F.Family.logic in
    let p = c.args.port in
    let on = is_ready x.fit x.ticks tt (sym c.ready.ensures ∙ c.in_ok-ready.was) in
    let is = is_valued (L.of_code c.args.code) x.ticks c.in_ok-v.v (sym c.value.ensures ∙ c.in_ok-v.was) in
    record {
      called = λ C s h.
          let e₁ : not s.fit ≡ false = fit_on g.F.Family g.C.Calendar C s x h on in
          let e₂ : leb C.ports p ≡ false = lt-leb C.ports p (omega (arith, ports_count g.F.Family g.C.Calendar C s x h, c.if-port-self.false)) in
          let e₃ : not (is_some (L.of_code c.args.code)) ≡ false = ap (λ o. not (is_some o)) is in
          accepts g.F.Family g.C.Calendar C s x h (drive p c.args.code) _ (λ i. first_of ((e₁ i, 16) ∷ (e₂ i, 17) ∷ (e₃ i, 18) ∷ []))
          (record { board = h.board; fits = drive_fits g.met.F.Family.laws x.wiring.net s c.args.code c.in_ok-v.v is (length s.changes) (g.C.Calendar.meaning x.calendar) x.fit x.calm x.ports x.drives x.planned x.levels x.ticks x.records h.fits C p (omega (arith, x.wiring.net.nets, x.wiring.net.ports, c.if-port-self.false)) });
      unchanged = λ e refused. absurd (never tt e refused);
    }
