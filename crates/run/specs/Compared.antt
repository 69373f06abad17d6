-- Two runs side by side: the lowest net at which one contradicts the other.
use Rattle.std.specs.Prelude.{◌≡◌, ℕ, zero, suc, ◌-◌, min, Bool, cond, not, ◌&&◌, List, Some, None, Option, ◌==◌}
use Rattle.logic.specs.declared.family.Family.{Ghosts as Family}
use Rattle.logic.specs.Logic.{Logic}
use Rattle.calendar.specs.declared.calendar.Calendar.{Ghosts as Calendar}
use Rattle.netlist.specs.Board.{Board}
use Rattle.signal.specs.Calls.{State, level}
use Rattle.signal.specs.Laws.{Life, reached, Learns}
use Rattle.run.specs.declared.state.Run.{Run}
use Rattle.run.specs.Calls.{Has}
use Rattle.run.specs.Handled.{Lives}

-- the lowest of the `many` numbers from i on that passes the test
abbrev pub lowest : (ℕ → Bool) → ℕ → ℕ → Option ℕ
lowest test i zero = None
lowest test i (suc many) = cond (test i) (Some i) (lowest test (suc i) many)

-- a definite level v, and another one, w
abbrev pub contradicts : {V : Type 0} → Logic V → V → V → Bool
contradicts L v w = L.definite v && not (L.code v == L.code w)

-- The lowest net of both boards at which a definite level of the first run, at its last completed tick, is contradicted by the second's.
-- There is none where they have not completed equally many ticks, or no tick at all, as is so of every run on an unfit calendar.
abbrev pub contradiction : {V : Type 0} → Logic V → Board → State V → Board → State V → Option ℕ
contradiction L B s B' s' =
    cond (s.ticks == s'.ticks && not (s.ticks == 0))
    (lowest (λ n. contradicts L (level L B s n (s.ticks - 1)) (level L B' s' n (s'.ticks - 1))) 0 (min B.nets B'.nets))
    None

module _ {F C D V : Type 0} (f : Family F V) (c : Calendar C) (d : Calendar D) where
  -- the one answer, for every two states that the runs have come to
  abbrev pub Compared : Run F C V f c → Run F D V f d → Option ℕ → Type 0
  Compared x y r =
      (B B' : Board) (s s' : State V) → Has f c B s x → Has f d B' s' y → r ≡ contradiction f.logic B s B' s'

  -- where the second run learned more than the first, of one netlist over equally many ticks, it contradicts no definite level
  abbrev pub LearningContradictsNone : Run F C V f c → Run F D V f d → Option ℕ → Type 0
  LearningContradictsNone x y a =
      (r q : Life) (u v : List ℕ) → Lives f c r x u → Lives f d q y v → r.board ≡ q.board → (reached f.logic r).ticks ≡ (reached f.logic q).ticks →
      Learns f.logic r q ((reached f.logic r).ticks - 1) → a ≡ None
