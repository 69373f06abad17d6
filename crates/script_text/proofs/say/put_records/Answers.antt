use Rattle.std.proofs.Common.{◌/◌, ◌<◌, [], length, get_or, sym, refl, ap, ◌∙◌, subst, add-one, arith}
use Rattle.script_text.specs.Laid.{Lays}
use Rattle.script_text.specs.Texts.{records_text, record_at}
use Rattle.script_text.proofs.Over.{lays_none, lays_then}
use Rattle.script_text.proofs.Records.{record_is}
use Rattle.script_text.proofs.say.put_records.Goals as goal

pub loop-bytes-init : goal.loop-bytes-init
loop-bytes-init g c = (refl, lays_none _ _)

pub loop-bytes-preserved : goal.loop-bytes-preserved
loop-bytes-preserved g c =
    let L = g.F.Family.logic in
    let N = g.F.Named.naming in
    let trace = c.args.trace.now in
    let i = c.loop-bytes.bytes-index in
    let inside : i < length trace / 8 = omega (arith, c.loop-bytes-test.true, c.as_chunks.ensures.front_len) in
    let is = ap (λ rs. record_at L N (get_or rs i []) 0) c.as_chunks.ensures.front ∙ record_is L N trace (length trace / 8) i inside in
    let one = subst (λ t. Lays c.loop-bytes.w.out.now c.loop-bytes.w.end t c.put_record.new.w.end c.put_record.new.w.out.now) is c.put_record.ensures.lays in (
      c.put_record.ensures.same_reference ∙ c.loop-bytes.invariant.0,
      subst (λ n. Lays c.args.w.now.out.now c.args.w.now.end (records_text L N trace n) c.put_record.new.w.end c.put_record.new.w.out.now) (sym (add-one i))
          (lays_then (records_text L N trace i) (record_at L N trace i) c.loop-bytes.invariant.1 one),
    )
