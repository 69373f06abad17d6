use Rattle.std.proofs.Common.{◌≡◌, ◌+◌, ◌/◌, ◌%◌, [], ◌∷◌, decimal, ap, ◌∙◌, subst, arith}
use Rattle.std.proofs.lemmas.Fmt.{decimal_digit, decimal_step}
use Rattle.script_text.specs.Laid.{Lays}
use Rattle.script_text.proofs.Over.{lays_then}
use Rattle.script_text.proofs.put.Writer.+put_number.Goals as goal
use Rattle.script_text.proofs.put.Writer.+put_number.Goals.{then-n-ge10, else-n-ge10}

pub returns-clause-lays : goal.returns-clause-lays
returns-clause-lays t c =
    let n = c.args.n in
    elim c.if-n-ge10.branch [
      | then-n-ge10 w ↦
          let last = subst (λ s. Lays s.out.now s.end ((48 + n % 10) ∷ []) c.put.new.self.end c.put.new.self.out.now) w.self-is c.put.ensures.lays in
          let e = decimal_step n w.if-n-ge10.true (omega arith) in
          rw e (lays_then (decimal (n / 10)) ((48 + n % 10) ∷ []) w.put_number.ensures.lays last)
      | else-n-ge10 w ↦
          let less = w.if-n-ge10.false in
          let whole : n ≡ n % 10 = omega (arith, less) in
          let e = decimal_digit n less ∙ ap (λ d. (48 + d) ∷ []) whole in
          rw e (subst (λ s. Lays s.out.now s.end ((48 + n % 10) ∷ []) c.put.new.self.end c.put.new.self.out.now) w.self-is c.put.ensures.lays)
    ]
