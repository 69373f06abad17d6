use Rattle.netlist.proofs.Theorem.{exactly}
use Rattle.netlist.proofs.Contents.{well_formed}
use Rattle.std.proofs.Common.{arith}
use Rattle.netlist.proofs.look_over.look_over.Goals as goal

pub returns : goal.returns
returns c = record {
  answers = c.fill.ensures.answers;
  fills = c.fill.ensures.fills;
  exactly = exactly c.args.bytes.now (λ i. omega (arith, c.type_inv.bytes i)) c.args.place.now c.fill.new.place c.fill.result c.fill.ensures.answers c.fill.ensures.fills;
  sound = well_formed c.fill.new.place;
}
