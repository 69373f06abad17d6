use Rattle.std.proofs.Common.{◌≡◌, ℕ, ◌^◌, ◌<◌, ◌≤◌, [], ◌∷◌, ◌++◌, length, decimal, subst, arith, length-append}
use Rattle.std.proofs.lemmas.Fmt.{length-decimal-le}
use Rattle.script_text.specs.Laid.{Lays}
use Rattle.script_text.specs.Texts.{fault_text}
use Rattle.script.specs.Answers.{note_text}
use Rattle.script.specs.Faults.{noted}
use Rattle.script.proofs.line.say.Goals as goal

short_text : (l n k p : ℕ) → l < 2 ^ 32 → n < 2 ^ 32 → p < 2 ^ 32 → length (fault_text l n k p) ≤ 100
short_text l n k p a b d =
    let x = length-decimal-le 10 l (omega arith) (omega arith) (omega arith) in
    let y = length-decimal-le 10 n (omega arith) (omega arith) (omega arith) in
    let z = length-decimal-le 10 p (omega arith) (omega arith) (omega arith) in
    let u = length-append (decimal p) (10 ∷ []) in
    let v = length-append (decimal n) (32 ∷ (k ∷ (32 ∷ (decimal p ++ (10 ∷ []))))) in
    let w = length-append (decimal l) (32 ∷ (decimal n ++ (32 ∷ (k ∷ (32 ∷ (decimal p ++ (10 ∷ []))))))) in
    omega arith

pub returns : goal.returns
returns c =
    let e : fault_text c.line.result c.number.result c.letter.result c.place.result ≡ note_text (noted c.args.fault) =
    λ i. fault_text (c.line.ensures i) (c.number.ensures i) (c.letter.ensures i) (c.place.ensures i) in
    record {
      lays = subst (λ t. Lays c.args.out.now 0 t c.say_fault.result c.say_fault.new.out) e c.say_fault.ensures;
      short = subst (λ t. length t ≤ 100) e (short_text c.line.result c.number.result c.letter.result c.place.result (omega arith) (omega arith) (omega arith));
    }
