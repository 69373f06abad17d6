-- What holds of any two runs, over every logic family that shows the laws.
use Rattle.std.specs.Prelude.{◌≡◌, ℕ, ◌+◌, ◌<◌, ◌≤◌, Bool, true, ◌↔◌, List, None}
use Rattle.std.specs.List.{flat_map, AllByRecursion}
use Rattle.std.specs.List.Sorted.{IsPermutation}
use Rattle.logic.specs.Logic.{Logic, RefinedBy}
use Rattle.netlist.specs.Board.{Board, WellFormed}
use Rattle.signal.specs.Circuit.{gate, gate_count}
use Rattle.signal.specs.Signal.{started}
use Rattle.signal.specs.Calls.{State, Call, read, opened, lived, level, answer, refusal, replies, wrote}

-- A run's life: its looked-over netlist, whether its calendar was fit, and the calls made of it, refused ones included, the latest first.
pub record Life : Type 0 where
  pub board : Board
  pub well_formed : WellFormed board
  pub fit : Bool
  pub calls : List Call

module _ {V : Type 0} (L : Logic V) where
  -- What the run has come to.
  abbrev pub reached : Life → State V
  reached r = lived L r.board (opened L r.fit) r.calls

  -- Its trace: what its advances wrote since opening, joined in order.
  abbrev pub trace : Life → List ℕ
  trace r = flat_map wrote (replies L r.board (opened L r.fit) r.calls)

  -- The level of net n at tick t.
  abbrev pub net : Life → ℕ → ℕ → V
  net r n t = level L r.board (reached r) n t

  -- The run would not refuse the call.
  abbrev pub accepts : Life → Call → Type 0
  accepts r c = refusal L r.board (reached r) c ≡ None

  -- ---- 1. Equal traces tell equal levels.

  -- Two traces of one watch list, over equally many ticks, are equal byte for byte exactly when every watched net has equal values at each tick.
  abbrev pub TracesTell : Type 0
  TracesTell =
      (r q : Life) → r.board.watches ≡ q.board.watches → (reached r).ticks ≡ (reached q).ticks →
      trace r ≡ trace q ↔ ((t : ℕ) → t < (reached r).ticks → AllByRecursion (λ n. net r n t ≡ net q n t) r.board.watches)

  -- ---- 2. Learning takes no definite level back.

  -- The second run knows all that the first does, and perhaps more: its start levels, and its port values at each tick up to t, refine the first's.
  pub record Learns (r q : Life) (t : ℕ) : Type 0 where
    pub starts : (g : ℕ) → g < gate_count r.board → RefinedBy L ((reached r).start g) ((reached q).start g)
    pub ports : (p u : ℕ) → p < r.board.ports → u ≤ t → RefinedBy L ((reached r).port p u) ((reached q).port p u)

  -- Then net n of the second refines the first's at tick t; a definite value of the first is equal in both;
  -- and where t is the last tick of both, read answers it alike.
  pub record Kept (r q : Life) (t n : ℕ) : Type 0 where
    pub refines : RefinedBy L (net r n t) (net q n t)
    pub equal : L.definite (net r n t) ≡ true → net q n t ≡ net r n t
    pub answered : L.definite (net r n t) ≡ true → (reached r).ticks ≡ t + 1 → (reached q).ticks ≡ t + 1 →
        answer L q.board (reached q) (read n) ≡ answer L r.board (reached r) (read n)

  -- Of any two runs of one netlist, at a tick that both complete, and every net.
  abbrev pub LearningKeeps : Type 0
  LearningKeeps =
      (r q : Life) (t : ℕ) → r.board ≡ q.board → t < (reached r).ticks → t < (reached q).ticks → Learns r q t → (n : ℕ) → Kept r q t n

  -- ---- 3. Gate order does not show.

  -- Alike but for gate order: the nets, the ports, the watch list and the port values at every completed tick are equal, and the gates,
  -- each with its record and its start level, are the same ones in another order.
  pub record Alike (r q : Life) : Type 0 where
    pub nets : r.board.nets ≡ q.board.nets
    pub ports : r.board.ports ≡ q.board.ports
    pub watch : r.board.watches ≡ q.board.watches
    pub inputs : (p t : ℕ) → p < r.board.ports → t < (reached r).ticks → (reached r).port p t ≡ (reached q).port p t
    pub gates : IsPermutation (started r.board (reached r).start) (started q.board (reached q).start)

  -- Such runs, over equally many ticks, give equal traces, and a read that both accept answers alike.
  abbrev pub GateOrderHides : Type 0
  GateOrderHides =
      (r q : Life) → Alike r q → (reached r).ticks ≡ (reached q).ticks →
      (trace r ≡ trace q)
      × ((n : ℕ) → accepts r (read n) → accepts q (read n) → answer L r.board (reached r) (read n) ≡ answer L q.board (reached q) (read n))

  -- The gates of two runs pair one to one: each gate of the first has a partner in the second, no two have the same, and there are equally many;
  -- partners have equal records and equal start levels.
  pub record Paired (r q : Life) : Type 0 where
    pub partner : ℕ → ℕ
    pub as_many : gate_count q.board ≡ gate_count r.board
    pub there : (g : ℕ) → g < gate_count r.board → partner g < gate_count q.board
    pub apart : (g h : ℕ) → g < gate_count r.board → h < gate_count r.board → partner g ≡ partner h → g ≡ h
    pub records : (g : ℕ) → g < gate_count r.board → gate q.board (partner g) ≡ gate r.board g
    pub starts : (g : ℕ) → g < gate_count r.board → (reached q).start (partner g) ≡ (reached r).start g

  -- Gates that pair one to one are the same ones in another order, as `Alike` asks.
  abbrev pub PairsShuffle : Type 0
  PairsShuffle = (r q : Life) → Paired r q → IsPermutation (started r.board (reached r).start) (started q.board (reached q).start)

-- All three, of any two lists of calls.
pub record ThreeLaws {V : Type 0} (L : Logic V) : Type 0 where
  pub traces : TracesTell L
  pub learning : LearningKeeps L
  pub gate_order : GateOrderHides L
  pub pairs : PairsShuffle L
