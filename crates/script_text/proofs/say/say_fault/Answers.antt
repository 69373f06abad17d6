use Rattle.std.proofs.Common.{rules, [], ◌∷◌, codes, decimal}
use Rattle.script_text.proofs.Over.{lays_then}
use Rattle.script_text.proofs.say.say_fault.Goals as goal

pub returns : goal.returns
returns c =
    let whole = lays_then (codes "no ") _ c.put_text.ensures.lays
    (lays_then (decimal c.args.line) _ c.put_number.ensures.lays
    (lays_then (32 ∷ []) _ c.put.ensures.lays
    (lays_then (decimal c.args.number) _ c.put_number-2.ensures.lays
    (lays_then (32 ∷ []) _ c.put-2.ensures.lays
    (lays_then (c.args.letter ∷ []) _ c.put-3.ensures.lays
    (lays_then (32 ∷ []) _ c.put-4.ensures.lays
    (lays_then (decimal c.args.place) (10 ∷ []) c.put_number-3.ensures.lays c.put-5.ensures.lays))))))) in
    search (rules, whole)
