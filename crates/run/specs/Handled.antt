-- Runs as their callers handle them, and the law that any two of them keep.
use Rattle.std.specs.Prelude.{◌≡◌, ℕ, ◌+◌, ◌<◌, Bool, true, ◌↔◌, List, [], ◌∷◌, ◌++◌, length, take, is_ok, Ok, Err, Result}
use Rattle.std.specs.List.{AllByRecursion}
use Rattle.logic.specs.declared.family.Family.{Ghosts as Family}
use Rattle.logic.specs.Logic.{RefinedBy}
use Rattle.calendar.specs.declared.calendar.Calendar.{Ghosts as Calendar}
use Rattle.netlist.specs.declared.place.Netlist.{Netlist}
use Rattle.netlist.specs.Board.{Board}
use Rattle.netlist.specs.Looked.{contents}
use Rattle.signal.specs.Calls.{Call, wake, drive, advance, read}
use Rattle.signal.specs.Laws.{Life, reached, net, Learns, Alike, Paired}
use Rattle.signal.specs.Signal.{started}
use Rattle.std.specs.List.Sorted.{IsPermutation}
use Rattle.run.specs.declared.state.Run.{Run}
use Rattle.run.specs.declared.state.RunFault.{RunFault}
use Rattle.run.specs.Calls.{fit_for, Opened, Waked, Driven, Advanced, Reads}

-- what an advance adds to the trace: the bytes that it says it wrote
abbrev pub added : Result (ℕ × ℕ) RunFault → List ℕ → List ℕ
added (Ok r) out = take r.1 out
added (Err e) out = []

module _ {F C V : Type 0} (f : Family F V) (c : Calendar C) where
  -- A run x: the board that it was opened on, whether its calendar was fit, the calls made of it, refused ones included, the latest
  -- first, and its trace, which is what its advances wrote, joined in order. Each step is what the contract of that call ensures.
  pub data Handled : Board → Bool → List Call → Run F C V f c → List ℕ → Type 0 where
    opens : (board : Netlist) (calendar : C) {x : Run F C V f c} →
        Opened f c board calendar x → Handled (contents board) (fit_for (contents board) (c.meaning calendar)) [] x []
    wakes : {B : Board} {fit : Bool} {cs : List Call} {x : Run F C V f c} {u : List ℕ} → Handled B fit cs x u →
        (g k : ℕ) (y : Run F C V f c) (r : Result (Unit {0}) RunFault) → Waked f c x g k y r → Handled B fit (wake g k ∷ cs) y u
    drives : {B : Board} {fit : Bool} {cs : List Call} {x : Run F C V f c} {u : List ℕ} → Handled B fit cs x u →
        (p k : ℕ) (y : Run F C V f c) (r : Result (Unit {0}) RunFault) → Driven f c x p k y r → Handled B fit (drive p k ∷ cs) y u
    advances : {B : Board} {fit : Bool} {cs : List Call} {x : Run F C V f c} {u : List ℕ} → Handled B fit cs x u →
        (k : ℕ) (out : List ℕ) (y : Run F C V f c) (out' : List ℕ) (r : Result (ℕ × ℕ) RunFault) → Advanced f c x k out y out' r →
        Handled B fit (advance k (length out) ∷ cs) y (u ++ added r out')
    reads : {B : Board} {fit : Bool} {cs : List Call} {x : Run F C V f c} {u : List ℕ} → Handled B fit cs x u →
        (n : ℕ) (r : Result (ℕ × Bool) RunFault) → Reads f c x n r → Handled B fit (read n ∷ cs) x u

  -- the run x has the life r and the trace u
  abbrev pub Lives : Life → Run F C V f c → List ℕ → Type 0
  Lives r x u = Handled r.board r.fit r.calls x u

-- Two runs x and y of one family, on calendars of any two makes, with their lives r and q, and their traces u and v.
-- `net L r n t` is what net n carries at tick t by the signal definition, and `(reached L r).ticks` the completed ticks.
module _ {F C D V : Type 0} (f : Family F V) (c : Calendar C) (d : Calendar D) where
  -- At tick t the second run learned more than the first: what does net n carry in both?
  pub record Kept (r q : Life) (x : Run F C V f c) (y : Run F D V f d) (t n : ℕ) : Type 0 where
    pub refines : RefinedBy f.logic (net f.logic r n t) (net f.logic q n t)
    pub equal : f.logic.definite (net f.logic r n t) ≡ true → net f.logic q n t ≡ net f.logic r n t
    -- where t is the last tick of both, read answers a definite level alike
    pub answered : f.logic.definite (net f.logic r n t) ≡ true → (reached f.logic r).ticks ≡ t + 1 → (reached f.logic q).ticks ≡ t + 1 →
        (a b : Result (ℕ × Bool) RunFault) → Reads f c x n a → Reads f d y n b → b ≡ a

  pub record Law (r q : Life) (x : Run F C V f c) (y : Run F D V f d) (u v : List ℕ) : Type 0 where
    -- Equal traces tell equal levels: with one watch list, over equally many ticks.
    pub traces : r.board.watches ≡ q.board.watches → (reached f.logic r).ticks ≡ (reached f.logic q).ticks →
        u ≡ v ↔ ((t : ℕ) → t < (reached f.logic r).ticks → AllByRecursion (λ n. net f.logic r n t ≡ net f.logic q n t) r.board.watches)
    -- Learning takes no definite level back: one netlist, at a tick that both complete.
    pub learning : (t : ℕ) → r.board ≡ q.board → t < (reached f.logic r).ticks → t < (reached f.logic q).ticks → Learns f.logic r q t →
        (n : ℕ) → Kept r q x y t n
    -- Gate order does not show: neither in the trace, nor in a read that both accept.
    pub gate_order : Alike f.logic r q → (reached f.logic r).ticks ≡ (reached f.logic q).ticks →
        (u ≡ v)
        × ((n : ℕ) (a b : Result (ℕ × Bool) RunFault) → Reads f c x n a → Reads f d y n b → is_ok a ≡ true → is_ok b ≡ true → a ≡ b)
    -- Gates that pair one to one, with equal records and start levels, are the same ones in another order, as `Alike` asks.
    pub pairs : Paired f.logic r q → IsPermutation (started r.board (reached f.logic r).start) (started q.board (reached f.logic q).start)

  -- The law of runs: of any two runs, however they were handled.
  abbrev pub LawOfRuns : Type 0
  LawOfRuns = (r q : Life) (x : Run F C V f c) (y : Run F D V f d) (u v : List ℕ) → Lives f c r x u → Lives f d q y v → Law r q x y u v
