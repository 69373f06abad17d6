-- Runs of any make, as their callers handle them: by opening, and then by calls that each keep the contract.
--
-- A make of runs has a type R, and `has C s x` says that the run x, opened on the board C, has come to the state s.
use Rattle.std.specs.Prelude.{◌≡◌, ℕ, ◌+◌, ◌<◌, Bool, true, ◌↔◌, List, [], ◌∷◌, ◌++◌, ◌≢◌}
use Rattle.std.specs.List.{flat_map, AllByRecursion}
use Rattle.logic.specs.Logic.{Logic, RefinedBy}
use Rattle.netlist.specs.Board.{Board}
use Rattle.signal.specs.Calls.{State, Call, Answer, refused, read, opened, after, answer, replies, wrote}
use Rattle.signal.specs.Laws.{Life, reached, net, Learns, Alike}

module _ {V : Type 0} (L : Logic V) {R : Type 0} (has : Board → State V → R → Type 0) where
  -- The contract of every call: it goes from the run x to the run y and answers a, so that whatever state x had come to,
  -- y has come to the state after the call, and a is the answer in that state.
  abbrev pub Called : Board → Call → R → R → Answer → Type 0
  Called C c x y a = (s : State V) → has C s x → has C (after L C s c) y × (a ≡ answer L C s c)

  -- A run that was opened and then only called: the calls, the latest first, the run, and what it answered, the earliest first.
  pub data Handled (C : Board) (fit : Bool) : List Call → R → List Answer → Type 0 where
    opens : {x : R} → has C (opened L fit) x → Handled C fit [] x []
    calls : {cs : List Call} {x : R} {us : List Answer} → Handled C fit cs x us →
        (c : Call) (y : R) (a : Answer) → Called C c x y a → Handled C fit (c ∷ cs) y (us ++ (a ∷ []))

  -- It has come to the state that its calls lead to, and has answered each of them as the definitions do.
  abbrev pub AnyRun : Type 0
  AnyRun =
      (r : Life) (x : R) (us : List Answer) → Handled r.board r.fit r.calls x us →
      has r.board (reached L r) x × (us ≡ replies L r.board (opened L r.fit) r.calls)

module _ {V : Type 0} (L : Logic V) {R Q : Type 0} (has : Board → State V → R → Type 0) (had : Board → State V → Q → Type 0) where
  -- The three laws of a run x with the life r and the answers us, and a run y, perhaps of another make, with the life q and the answers vs.
  -- A trace is what the advances answered that they wrote, and the levels are those of the signal definition.
  pub record Between (r q : Life) (x : R) (y : Q) (us vs : List Answer) : Type 0 where
    -- 1. Equal traces tell equal levels.
    pub traces : r.board.watches ≡ q.board.watches → (reached L r).ticks ≡ (reached L q).ticks →
        flat_map wrote us ≡ flat_map wrote vs ↔ ((t : ℕ) → t < (reached L r).ticks → AllByRecursion (λ n. net L r n t ≡ net L q n t) r.board.watches)
    -- 2. Learning takes no definite level back, and where t is the last tick of both, a read of each answers it alike.
    pub learning : (t : ℕ) → r.board ≡ q.board → t < (reached L r).ticks → t < (reached L q).ticks → Learns L r q t → (n : ℕ) →
        RefinedBy L (net L r n t) (net L q n t)
        × (L.definite (net L r n t) ≡ true → net L q n t ≡ net L r n t)
        × (L.definite (net L r n t) ≡ true → (reached L r).ticks ≡ t + 1 → (reached L q).ticks ≡ t + 1 →
        (x' : R) (y' : Q) (a b : Answer) → Called L has r.board (read n) x x' a → Called L had q.board (read n) y y' b → b ≡ a)
    -- 3. Gate order does not show, in the traces or in reads that both accept.
    pub gate_order : Alike L r q → (reached L r).ticks ≡ (reached L q).ticks →
        (flat_map wrote us ≡ flat_map wrote vs)
        × ((n : ℕ) (x' : R) (y' : Q) (a b : Answer) → Called L has r.board (read n) x x' a → Called L had q.board (read n) y y' b →
        ((fault place : ℕ) → a ≢ refused fault place) → ((fault place : ℕ) → b ≢ refused fault place) → a ≡ b)

  -- Of any two runs that were handled, with any two lists of calls, refused ones included.
  abbrev pub AnyTwoRuns : Type 0
  AnyTwoRuns =
      (r q : Life) (x : R) (y : Q) (us vs : List Answer) →
      Handled L has r.board r.fit r.calls x us → Handled L had q.board q.fit q.calls y vs → Between r q x y us vs
