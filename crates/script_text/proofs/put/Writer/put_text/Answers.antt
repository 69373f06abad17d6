use Rattle.std.proofs.Common.{[], ◌∷◌, ◌∙◌, get_or, take, refl}
use Rattle.std.proofs.lemmas.List.{take_more}
use Rattle.script_text.proofs.Over.{lays_none, lays_then}
use Rattle.script_text.proofs.put.Writer.put_text.Goals as goal

pub loop-b-init : goal.loop-b-init
loop-b-init c = (refl, lays_none _ _)

pub loop-b-preserved : goal.loop-b-preserved
loop-b-preserved c =
    let e = take_more c.args.text.now c.loop-b.b-index 0 c.loop-b-test.true in
    (c.put.ensures.same_reference ∙ c.loop-b.invariant.0, rw e (lays_then (take c.loop-b.b-index c.args.text.now) (get_or c.args.text.now c.loop-b.b-index 0 ∷ []) c.loop-b.invariant.1 c.put.ensures.lays))
