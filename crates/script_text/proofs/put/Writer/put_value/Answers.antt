use Rattle.std.proofs.Common.{◌≡◌, ◌+◌, ◌<◌, [], ◌∷◌, ◌++◌, length, take, sym, ap, ◌∙◌, subst, refl, arith}
use Rattle.std.proofs.lemmas.List.{take_more}
use Rattle.script_text.specs.Laid.{Lays}
use Rattle.script_text.proofs.Over.{lays_none, lays_then}
use Rattle.script_text.proofs.put.Writer.put_value.Goals as goal

pub loop-i-init : goal.loop-i-init
loop-i-init g c = (refl, lays_none _ _)

pub loop-i-preserved : goal.loop-i-preserved
loop-i-preserved g c =
    let name = g.F.Named.naming.name c.args.v in
    let i = c.loop-i.i in
    let long = g.met.F.Named.spelling.name_long c.args.v in
    let inside : i < length name = omega (arith, long, c.name_width-i-end.ensures, c.loop-i-test.true) in
    let e : take i name ++ (c.name_byte.result ∷ []) ≡ take (i + 1) name = ap (λ b. take i name ++ (b ∷ [])) c.name_byte.ensures ∙ sym (take_more name i 0 inside) in (
      c.put.ensures.same_reference ∙ c.loop-i.invariant.0,
      subst (λ text. Lays c.args.self.now.out.now c.args.self.now.end text c.put.new.self.end c.put.new.self.out.now) e
          (lays_then (take i name) (c.name_byte.result ∷ []) c.loop-i.invariant.1 c.put.ensures.lays),
    )
