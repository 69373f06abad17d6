-- Entries by tick, gate and code are in a strict order. Assumes nothing.
use Rattle.std.proofs.Common.{◌≡◌, ℕ, Bool, true, false, not, ◌&&◌, ◌||◌, eqb, ltb, ap, ◌∙◌, arith, rules}
use Rattle.std.specs.Ordering.{partial_ge}
use Rattle.std.proofs.lemmas.Bool.Decides.{nat_tests}
use Rattle.calendar.specs.Order.{Strict}
use Rattle.calendar.specs.Agenda.{before}
use Rattle.calendar.specs.declared.entry.Entry.{Entry}
use Rattle.calendar.specs.contracts.entry.EntryPartialOrd.TheImpl.{partial_cmp-value}

abbrev pub lex : ℕ → ℕ → ℕ → ℕ → ℕ → ℕ → Bool
lex a b c x y z = ltb a x || (eqb a x && (ltb b y || (eqb b y && ltb c z)))

lex_one_way : (a b c x y z : ℕ) → lex a b c x y z ≡ true → lex x y z a b c ≡ false
lex_one_way a b c x y z h = grind (arith, nat_tests)

lex_chain : (a b c x y z u v w : ℕ) → lex a b c x y z ≡ false → lex x y z u v w ≡ false → lex a b c u v w ≡ false
lex_chain a b c x y z u v w h k = grind (arith, nat_tests)

lex_tied : (a b c x y z : ℕ) → lex a b c x y z ≡ false → lex x y z a b c ≡ false → (a ≡ x) × (b ≡ y) × (c ≡ z)
lex_tied a b c x y z h k = (grind (arith, nat_tests), grind (arith, nat_tests), grind (arith, nat_tests))

pub strict : Strict before
strict = record {
  one_way = λ a b h. lex_one_way a.tick a.gate a.code b.tick b.gate b.code h;
  chain = λ a b c h k. lex_chain a.tick a.gate a.code b.tick b.gate b.code c.tick c.gate c.code h k;
  tied = λ a b h k. let e = lex_tied a.tick a.gate a.code b.tick b.gate b.code h k in (λ i. record { tick = e.0 i; gate = e.1 i; code = e.2 i });
}

-- the order that entries are compared by in the program
pub ge_before : (a b : Entry) (t : Bool) → t ≡ partial_ge partial_cmp-value.it a b → not t ≡ before a b
ge_before a b t h = ap not h ∙ search rules
