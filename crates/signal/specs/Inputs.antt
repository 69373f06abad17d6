-- P and S by the calls: the value last accepted by drive before a tick was completed, and the value last accepted by wake.
use Rattle.std.specs.Prelude.{◌≡◌, ℕ, ◌≤◌, Bool, ◌⊎◌, List, [], ◌∷◌, None}
use Rattle.logic.specs.Logic.{Logic}
use Rattle.netlist.specs.Board.{Board}
use Rattle.signal.specs.Calls.{State, Call, wake, drive, opened, lived, refusal}

module _ {V : Type 0} (L : Logic V) (C : Board) (fit : Bool) where
  -- What the run had come to after the earlier calls, the latest first.
  abbrev pub then : List Call → State V
  then earlier = lived L C (opened L fit) earlier

  -- Call c, made after the earlier ones, was accepted.
  abbrev pub Accepted : List Call → Call → Type 0
  Accepted earlier c = refusal L C (then earlier) c ≡ None

  -- Call c gives port p the value v, and tick t was not complete then.
  abbrev pub Drives : ℕ → ℕ → List Call → Call → V → Type 0
  Drives p t earlier c v = (c ≡ drive p (L.code v)) × Accepted earlier c × ((then earlier).ticks ≤ t)

  -- Call c gives gate g the start level v.
  abbrev pub Wakes : ℕ → List Call → Call → V → Type 0
  Wakes g earlier c v = (c ≡ wake g (L.code v)) × Accepted earlier c

  -- v is the value that the last such call gave, or unset where there was none; `Gives earlier c v` says what such a call is.
  abbrev pub Last : (List Call → Call → V → Type 0) → List Call → V → Type 0
  Last Gives [] v = v ≡ L.unset
  Last Gives (c ∷ earlier) v = Gives earlier c v ⊎ (((w : V) → Gives earlier c w → ⊥) × Last Gives earlier v)

  -- After any calls, refused ones included, P and S are the values last accepted.
  pub record InputsOf (calls : List Call) : Type 0 where
    pub ports : (p t : ℕ) → Last (Drives p t) calls ((then calls).port p t)
    pub starts : (g : ℕ) → Last (Wakes g) calls ((then calls).start g)

-- Over every board, on a fit calendar or not, and any calls.
abbrev pub InputsLast : {V : Type 0} → Logic V → Type 0
InputsLast L = (C : Board) (fit : Bool) (calls : List Call) → InputsOf L C fit calls
