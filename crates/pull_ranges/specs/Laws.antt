-- The pull ranges keep the laws of a family.
use Rattle.std.specs.Prelude.{◌≡◌, ℕ, ◌/◌, ◌%◌, true, ◌≢◌, Some, None, refl}
use Rattle.std.proofs.Common.{ap, arith}
use Rattle.std.proofs.Math.Decide.{dec_le}
use Rattle.std.proofs.Math.Nat.{div-div-eq-div-mul}
use Rattle.logic.proofs.Back.{read_back}
use Rattle.logic.specs.Logic.{Laws, RefinedBy, Monotone2}
use Rattle.nine_values.specs.Each.{all, imp, so, at2}
use Rattle.nine_values.specs.Laws.{nine_laws}
use Rattle.nine_values.specs.Nines.{nines, refines9}
use Rattle.nine_values.specs.declared.nine.Nine.{Nine}
use Rattle.pull_ranges.specs.Ranges.{same_range, same_pull, range_back, range_from, pull_none}
use Rattle.pull_ranges.specs.Pulls.{pulls, range, pull, reading, shape, tri_shape, resolve_pull, refines_pull, definite_pull, code_pull, of_code_pull}
use Rattle.pull_ranges.specs.declared.range.Pull.{Pull}
use Rattle.std.proofs.lemmas.Bool.Decides.{nat_tests}

-- the digits of a code
ul : (a : Pull) → code_pull a / 512 ≡ a.up.low
ul a = let p = a.up.ordered in let q = a.up.small in let r = a.down.ordered in let t = a.down.small in omega arith

uh : (a : Pull) → code_pull a / 64 % 8 ≡ a.up.high
uh a = let p = a.up.ordered in let q = a.up.small in let r = a.down.ordered in let t = a.down.small in omega arith

dl : (a : Pull) → code_pull a / 8 % 8 ≡ a.down.low
dl a = let p = a.up.ordered in let q = a.up.small in let r = a.down.ordered in let t = a.down.small in omega arith

dh : (a : Pull) → code_pull a % 8 ≡ a.down.high
dh a = let p = a.up.ordered in let q = a.up.small in let r = a.down.ordered in let t = a.down.small in omega arith

back : (a : Pull) → of_code_pull (code_pull a) ≡ Some a
back a = rw (range_back a.up _ _ (ul a) (uh a), range_back a.down _ _ (dl a) (dh a))

none : (n : ℕ) → ((a : Pull) → code_pull a ≢ n) → of_code_pull n ≡ None
none n f = pull_none _ _ (λ u d e g.
    let x = range_from (dec_le (n / 512) (n / 64 % 8)) (dec_le (n / 64 % 8) 7) u e in
    let y = range_from (dec_le (n / 8 % 8) (n % 8)) (dec_le (n % 8) 7) d g in
    let e8 : n / 8 / 8 ≡ n / 64 = div-div-eq-div-mul n 8 8 in
    let e64 : n / 64 / 8 ≡ n / 512 = div-div-eq-div-mul n 64 8 in
    f (pull u d) (omega arith))

comm : (a b : Pull) → resolve_pull a b ≡ resolve_pull b a
comm a b = same_pull _ _ (same_range _ _ (omega arith) (omega arith)) (same_range _ _ (omega arith) (omega arith))

assoc : (a b c : Pull) → resolve_pull (resolve_pull a b) c ≡ resolve_pull a (resolve_pull b c)
assoc a b c = same_pull _ _ (same_range _ _ (omega arith) (omega arith)) (same_range _ _ (omega arith) (omega arith))

resolve_mono : Monotone2 pulls resolve_pull
resolve_mono a b c d h k = grind (arith, nat_tests)

-- A refined value has a refined reading, and a refined reading a refined form.
reading_mono : (a b : Pull) → RefinedBy pulls a b → RefinedBy nines (reading a) (reading b)
reading_mono a b h = grind (arith, nat_tests)

shape_mono : (x y : Nine) → RefinedBy nines x y → RefinedBy pulls (shape x) (shape y)
shape_mono x y h = so (refines9 y x) _ (at2 (λ x y. imp (refines9 y x) (refines_pull (shape y) (shape x))) refl x y) h

tri_shape_mono : (x y z w : Nine) → RefinedBy nines x y → RefinedBy nines z w → RefinedBy pulls (tri_shape x z) (tri_shape y w)
tri_shape_mono x y z w h k =
    let in-y = so (refines9 y x) (all (λ z. all (λ w. imp (refines9 w z) (refines_pull (tri_shape y w) (tri_shape x z)))))
    (at2 (λ x y. imp (refines9 y x) (all (λ z. all (λ w. imp (refines9 w z) (refines_pull (tri_shape y w) (tri_shape x z)))))) refl x y) h in
    so (refines9 w z) _ (at2 (λ z w. imp (refines9 w z) (refines_pull (tri_shape y w) (tri_shape x z))) in-y z w) k

by_reading : (f : Nine → Nine → Nine) → Monotone2 nines f → Monotone2 pulls (λ a b. shape (f (reading a) (reading b)))
by_reading f m a b c d h k =
    shape_mono (f (reading a) (reading c)) (f (reading b) (reading d))
    (m (reading a) (reading b) (reading c) (reading d) (reading_mono a b h) (reading_mono c d k))

-- The ranges of the low ends refine a value, so one that only itself refines has each high end at its low end.
definite : (a : Pull) → ((b : Pull) → RefinedBy pulls a b → b ≡ a) → definite_pull a ≡ true
definite a f =
    let p = a.up.ordered in let q = a.up.small in let r = a.down.ordered in let s = a.down.small in
    let b = pull (range a.up.low a.up.low (omega arith) (omega arith)) (range a.down.low a.down.low (omega arith) (omega arith)) in
    let e = f b (grind (arith, nat_tests)) in
    let u : a.up.low ≡ a.up.high = ap (λ (x : Pull). x.up.high) e in
    let d : a.down.low ≡ a.down.high = ap (λ (x : Pull). x.down.high) e in
    grind (arith, nat_tests)

pub pull_laws : Laws pulls
pull_laws = record {
  code_fits = λ a. let p = a.up.ordered in let q = a.up.small in let r = a.down.ordered in let t = a.down.small in omega arith;
  code_equal = read_back code_pull of_code_pull back;
  code_back = back;
  code_none = none;
  ref_self = λ a. grind (arith, nat_tests);
  ref_anti = λ a b h k. same_pull a b (same_range a.up b.up (grind (arith, nat_tests)) (grind (arith, nat_tests))) (same_range a.down b.down (grind (arith, nat_tests)) (grind (arith, nat_tests)));
  ref_trans = λ a b c h k. grind (arith, nat_tests);
  ref_unset = λ a. let q = a.up.small in let t = a.down.small in grind (arith, nat_tests);
  not_mono = λ a b h. shape_mono (nines.not (reading a)) (nines.not (reading b)) (nine_laws.not_mono (reading a) (reading b) (reading_mono a b h));
  and_mono = by_reading nines.and nine_laws.and_mono;
  or_mono = by_reading nines.or nine_laws.or_mono;
  xor_mono = by_reading nines.xor nine_laws.xor_mono;
  tri_mono = λ a b c d h k. tri_shape_mono (reading a) (reading b) (reading c) (reading d) (reading_mono a b h) (reading_mono c d k);
  resolve_mono = resolve_mono;
  resolve_comm = comm;
  resolve_assoc = assoc;
  definite_only = λ a b h k.
      let p = b.up.ordered in
      let q = b.down.ordered in
      same_pull b a (same_range b.up a.up (grind (arith, nat_tests)) (grind (arith, nat_tests))) (same_range b.down a.down (grind (arith, nat_tests)) (grind (arith, nat_tests)));
  only_definite = definite;
}
