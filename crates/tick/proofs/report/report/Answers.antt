use Rattle.std.proofs.Common.{◌≡◌, ◌+◌, ◌*◌, ◌<◌, ◌++◌, false, cond, leb, [], length, get_or, take, sym, ◌∙◌, subst, arith}
use Rattle.std.specs.List.{flat_map}
use Rattle.std.proofs.lemmas.Bool.{lt-leb}
use Rattle.std.proofs.lemmas.List.{get_or_default, length-take-le}
use Rattle.signal.specs.Calls.{change_bytes}
use Rattle.netlist.specs.Looked.{contents}
use Rattle.netlist.proofs.Contents.{watch_count, well_formed}
use Rattle.tick.specs.Laid.{Wrote}
use Rattle.tick.specs.Reported.{changed, change_of, change_from}
use Rattle.tick.proofs.Over.{wrote_none, wrote_then}
use Rattle.tick.proofs.Reports.{bytes_few, bytes_more}
use Rattle.tick.proofs.report.report.Goals as goal

pub returns-then-saturating_sub-watches : goal.returns-then-saturating_sub-watches
returns-then-saturating_sub-watches g c =
    let out = c.args.out.now in
    let net = c.args.net.now in
    let C = contents net in
    let e : leb (c.args.at + 8 * length C.watches) (length out) ≡ false = lt-leb (c.args.at + 8 * length C.watches) (length out) (omega (arith, watch_count net, net.watched, c.saturating_sub.ensures, c.if-saturating_sub-watches.true)) in
    subst (λ b. Wrote out c.args.at (flat_map change_bytes (cond b (changed g.F.Family.logic C c.args.old.now c.args.new.now c.args.tick) [])) c.args.at out) (sym e) (wrote_none out c.args.at)

pub loop-n-init : goal.loop-n-init
loop-n-init g c = wrote_none _ _

pub report_net-end-requires : goal.report_net-end-requires
report_net-end-requires g c =
    let net = c.args.net.now in
    let C = contents net in
    let i = c.loop-n.n-index in
    let lt : i < length C.watches = c.loop-n-test.true in
    let few = bytes_few g.F.Family.logic C c.args.old.now c.args.new.now c.args.tick (take i C.watches) in
    let long = length-take-le i C.watches (omega arith) in
    omega (arith, few, long, c.loop-n.invariant.count, c.loop-n.auto.out, lt, c.saturating_sub.ensures, c.if-saturating_sub-watches.false)

pub loop-n-preserved : goal.loop-n-preserved
loop-n-preserved g c =
    let L = g.F.Family.logic in
    let net = c.args.net.now in
    let C = contents net in
    let i = c.loop-n.n-index in
    let lt : i < length C.watches = c.loop-n-test.true in
    let n = get_or C.watches i 0 in
    let f = change_of L C c.args.old.now c.args.new.now c.args.tick in
    let inside : n < 1024 = omega (arith, (well_formed net).below i lt, net.nets) in
    let old = get_or_default c.args.old.now n c.index-old-i.result L.unset (omega (arith, c.type_inv.old, inside)) in
    let new = get_or_default c.args.new.now n c.index-new-i.result L.unset (omega (arith, c.type_inv.new, inside)) in
    let few = bytes_few L C c.args.old.now c.args.new.now c.args.tick (take i C.watches) in
    let long = length-take-le i C.watches (omega arith) in
    let A = flat_map change_bytes (flat_map f (take i C.watches)) in
    let e : A ++ flat_map change_bytes (change_from L (get_or c.args.old.now n c.index-old-i.result) (get_or c.args.new.now n c.index-new-i.result) c.args.tick n) ≡ flat_map change_bytes (flat_map f (take (i + 1) C.watches)) =
    (λ j. A ++ flat_map change_bytes (change_from L (old j) (new j) c.args.tick n))
    ∙ sym (bytes_more L C c.args.old.now c.args.new.now c.args.tick C.watches i lt) in
    subst (λ text. Wrote c.args.out.now c.args.at text c.report_net-end.result c.report_net-end.new.out) e
    (wrote_then A (flat_map change_bytes (change_from L (get_or c.args.old.now n c.index-old-i.result) (get_or c.args.new.now n c.index-new-i.result) c.args.tick n)) (omega (arith, few, long, lt, c.saturating_sub.ensures, c.if-saturating_sub-watches.false)) c.loop-n.invariant c.report_net-end.ensures)
