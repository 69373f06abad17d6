-- What drives a net, gate after gate of its chain.
use Rattle.std.proofs.Common.{◌≡◌, ℕ, ◌-◌, Bool, true, false, cond, eqb, ltb, List, [], ◌∷◌, ◌++◌, map, get_or, Some, None, Option, sym, refl, ap, ◌∙◌, arith}
use Rattle.std.specs.List.{range_with_len, flat_map, filter}
use Rattle.std.specs.Bool.{then_some}
use Rattle.std.specs.Option.{unwrap_or}
use Rattle.logic.specs.Logic.{Logic}
use Rattle.netlist.specs.Board.{Board}
use Rattle.signal.specs.Circuit.{gate, gate_count}
use Rattle.signal.specs.Signal.{resolved, resolved_onto}
use Rattle.tick.specs.Settled.{by_port, by_gate, drivers_of, joined}
use Rattle.fanout.specs.declared.pin.Pin.TheVariants.{Output}
use Rattle.fanout.specs.Seek.{meets, gates_at, numbers_from}

module _ {V : Type 0} (L : Logic V) where
  -- what the drivers so far and those to come make together
  abbrev pub ended : Option V → List V → V
  ended None vs = resolved L vs
  ended (Some v) vs = resolved_onto L v vs

  pub ended_more : (o : Option V) (v : V) (vs : List V) → ended o (v ∷ vs) ≡ ended (Some (joined L o v)) vs
  ended_more None v vs = refl
  ended_more (Some w) v vs = refl

  pub ended_all : (o : Option V) → ended o [] ≡ unwrap_or o L.unset
  ended_all None = refl
  ended_all (Some v) = refl

  module _ (C : Board) (ports drives : List V) (n : ℕ) where
    abbrev pub drive : ℕ → V
    drive g = get_or drives g L.unset

    by_chain : (gs : List ℕ) → flat_map (by_gate L C ports drives n) gs ≡ map drive (filter (meets C Output (Some n)) gs)
    by_chain [] = refl
    by_chain (g ∷ gs) = by (eqb (gate C g).out n) _ _ (by_chain gs)
      where
        by : (b : Bool) (vs : List V) (hs : List ℕ) → vs ≡ map drive hs → cond b (drive g ∷ []) [] ++ vs ≡ map drive (cond b (g ∷ hs) hs)
        by true vs hs e = ap (λ ws. drive g ∷ ws) e
        by false vs hs e = e

    -- the port, if it is one, and then the gates of the net's chain
    pub ended_none : (o : Option V) → o ≡ then_some (ltb n C.ports) (get_or ports n L.unset) → ended o (map drive (gates_at C Output n)) ≡ resolved L (drivers_of L C ports drives n)
    ended_none o e = ap (λ p. ended p (map drive (gates_at C Output n))) e ∙ ap (ended (then_some (ltb n C.ports) (get_or ports n L.unset))) (sym (by_chain (numbers_from C 0))) ∙ begun (ltb n C.ports) (flat_map (by_gate L C ports drives n) (numbers_from C 0))
        ∙ ap (λ k. resolved L (by_port L C ports drives n C.ports ++ flat_map (by_gate L C ports drives n) (range_with_len 0 k))) (whole (gate_count C))
      where
        whole : (k : ℕ) → k - 0 ≡ k
        whole k = omega arith

        begun : (b : Bool) (vs : List V) → ended (then_some b (get_or ports n L.unset)) vs ≡ resolved L (cond b (get_or ports n L.unset ∷ []) [] ++ vs)
        begun true vs = refl
        begun false vs = refl
