use Rattle.std.proofs.Common.{◌≡◌, ◌+◌, ◌-◌, length, refl, ◌∙◌, arith}
use Rattle.signal.specs.Calls.{change_bytes}
use Rattle.tick.specs.Reported.{made}
use Rattle.tick.proofs.Over.{wrote_over}
use Rattle.tick.proofs.report.put_record.Goals as goal

pub returns : goal.returns
returns c =
    let text = change_bytes (made c.args.tick c.args.net c.args.code) in
    let eight : length text ≡ 8 = refl in
    wrote_over c.args.out.now text c.copy_from_slice.new.self c.args.at (c.args.at + 8 - c.args.at) (c.copy_from_slice.ensures.after ∙ c.record.ensures) (omega arith) c.requires
