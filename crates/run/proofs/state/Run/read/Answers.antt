use Rattle.std.proofs.Common.{◌≡◌, true, false, not, eqb, leb, [], ◌∷◌, Err, sym, refl, ap, ◌∙◌, subst, arith}
use Rattle.std.proofs.lemmas.Result.{err_from_is_err_and}
use Rattle.std.proofs.lemmas.Bool.{le-leb, lt-leb, eq-eqb, ne_eqb}
use Rattle.signal.specs.Calls.{read, first_of, shows}
use Rattle.run.specs.declared.state.RunFault.TheVariants.{UnfitCalendar, NoSuchNet, WrongTime}
use Rattle.run.specs.Calls.{Reads}
use Rattle.run.proofs.Callings.{call_refused, unfit, unready, is_ready, accepts, fit_on, nets_count, read_level}
use Rattle.run.proofs.state.Run.read.Goals as goal

pub returns-then-net-self : goal.returns-then-net-self
returns-then-net-self g c =
    let x = c.args.self.now in
    let n = c.args.net in
    let on = is_ready x.fit x.ticks tt (sym c.ready.ensures ∙ c.in_ok-ready.was) in
    call_refused g.F.Family g.C.Calendar x (NoSuchNet x.ticks) refl (read n) (λ C s h.
    let e₁ : not s.fit ≡ false = fit_on g.F.Family g.C.Calendar C s x h on in
    let e₂ : leb C.nets n ≡ true = le-leb C.nets n (omega (arith, nets_count g.F.Family g.C.Calendar C s x h, c.if-net-self.true)) in
    λ i. first_of ((e₁ i, 16) ∷ (e₂ i, 22) ∷ (eqb s.ticks 0, 23) ∷ []))

pub returns : goal.returns
returns g c C s h =
    let x = c.args.self.now in
    let L = g.F.Family.logic in
    let n = c.args.net in
    let on = is_ready x.fit x.ticks tt (sym c.ready.ensures ∙ c.in_ok-ready.was) in
    let e₁ : not s.fit ≡ false = fit_on g.F.Family g.C.Calendar C s x h on in
    let e₂ : leb C.nets n ≡ false = lt-leb C.nets n (omega (arith, nets_count g.F.Family g.C.Calendar C s x h, c.if-net-self.false)) in
    let e₃ : eqb s.ticks 0 ≡ false = ne_eqb s.ticks 0 (λ z. c.if-self-eq0.false (h.fits.ticks_are ∙ z)) in
    let r = accepts g.F.Family g.C.Calendar C s x h (read n) x (λ i. first_of ((e₁ i, 16) ∷ (e₂ i, 22) ∷ (e₃ i, 23) ∷ [])) h in
    let v = read_level g.F.Family g.C.Calendar C s x h n (omega (arith, x.wiring.net.nets, c.if-net-self.false)) (λ z. c.if-self-eq0.false (h.fits.ticks_are ∙ z)) in
    (r.0, ap (λ p. shows p.0 p.1) c.show.ensures ∙ (λ i. shows (L.code (v i)) (L.definite (v i))) ∙ r.1)
