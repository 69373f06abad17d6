use Rattle.std.proofs.Common.{◌≡◌, [], ◌∷◌, ◌∙◌, decimal, subst}
use Rattle.script_text.specs.Commands.{name_of}
use Rattle.script_text.specs.Laid.{Lays}
use Rattle.script_text.specs.Texts.{record_text, word16, word32}
use Rattle.script_text.proofs.Over.{lays_then}
use Rattle.script_text.proofs.Records.{be_word16, be_word32}
use Rattle.script_text.proofs.say.put_record.Goals as goal

pub returns-clause-lays : goal.returns-clause-lays
returns-clause-lays g c =
    let L = g.F.Family.logic in
    let N = g.F.Named.naming in
    let bytes = c.args.bytes.now in
    let tick : c.from_be_bytes.result ≡ word32 bytes 0 = c.from_be_bytes.ensures ∙ be_word32 _ _ _ _ in
    let net : c.from_be_bytes-2.result ≡ word16 bytes 4 = c.from_be_bytes-2.ensures ∙ be_word16 _ _ in
    let code : c.from_be_bytes-3.result ≡ word16 bytes 6 = c.from_be_bytes-3.ensures ∙ be_word16 _ _ in
    let whole = lays_then (decimal c.from_be_bytes.result) _ c.put_number.ensures.lays
    (lays_then (32 ∷ []) _ c.put.ensures.lays
    (lays_then (decimal c.from_be_bytes-2.result) _ c.put_number-2.ensures.lays
    (lays_then (32 ∷ []) _ c.put-2.ensures.lays
    (lays_then (name_of L N c.from_be_bytes-3.result) (10 ∷ []) c.put_name.ensures.lays c.put-3.ensures.lays)))) in
    subst (λ t. Lays c.args.w.now.out.now c.args.w.now.end t c.put-3.new.self.end c.put-3.new.self.out.now) (λ i. record_text L N (tick i) (net i) (code i)) whole
