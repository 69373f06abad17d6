-- One due entry is taken.
use Rattle.std.proofs.Common.{◌≡◌, ℕ, true, cond, List, [], ◌∷◌, Some, sym, ap, ◌∙◌, arith}
use Rattle.calendar.specs.declared.entry.Entry.{Entry}
use Rattle.calendar.specs.Agenda.{first, rest}
use Rattle.logic.specs.Logic.{Logic}
use Rattle.tick.specs.Due.{applied, left_over, levelled, is_first}

pub taken : {V : Type 0} (L : Logic V) (t : ℕ) (drives : List V) (w : List Entry) (e : Entry) → Some e ≡ first w → is_first t w ≡ true →
    (applied L t (levelled (L.of_code e.code) e.gate drives) (rest w) ≡ applied L t drives w) × (left_over t (rest w) ≡ left_over t w)
taken L t drives [] e f d = let z : ◌≡◌ {A = ℕ} 0 1 = cc in absurd (omega arith)
taken L t drives (x ∷ xs) e f d =
    let same : e ≡ x = cc in (
      ap (λ (y : Entry). applied L t (levelled (L.of_code y.code) y.gate drives) xs) same
          ∙ ap (λ b. cond b (applied L t (levelled (L.of_code x.code) x.gate drives) xs) drives) (sym d),
      ap (λ b. cond b (left_over t xs) (x ∷ xs)) (sym d),
    )
