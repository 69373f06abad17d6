use Rattle.std.proofs.Common.{w64, sym, ap, ◌∙◌}
use Rattle.std.proofs.lemmas.Nat.Bits.{bit_at_set_same, bit_at_set_other, bit_at_clear_same, bit_at_clear_other}
use Rattle.number_set.specs.Members.{flag}
use Rattle.number_set.proofs.word.with_bit.Goals as goal

pub returns-then-on : goal.returns-then-on
returns-then-on c = record {
  here = bit_at_set_same w64 c.args.w c.args.i c.requires ∙ sym (ap flag c.if-on.true);
  rest = λ j h. bit_at_set_other w64 c.args.w c.args.i c.requires j;
}

pub returns-else-on : goal.returns-else-on
returns-else-on c = record {
  here = bit_at_clear_same w64 c.args.w c.args.i c.requires ∙ sym (ap flag c.if-on.false);
  rest = bit_at_clear_other w64 c.args.w c.args.i c.requires;
}
