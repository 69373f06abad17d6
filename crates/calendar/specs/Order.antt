-- Lists in an order. Assumes nothing.
use Rattle.std.specs.Prelude.{◌≡◌, Bool, true, false, cond, List, [], ◌∷◌}

-- lt is a strict order in which any two different values have a first
pub record Strict {X : Type 0} (lt : X → X → Bool) : Type 0 where
  pub one_way : (x y : X) → lt x y ≡ true → lt y x ≡ false
  pub chain : (x y z : X) → lt x y ≡ false → lt y z ≡ false → lt x z ≡ false
  pub tied : (x y : X) → lt x y ≡ false → lt y x ≡ false → x ≡ y

-- x at its place among values in order
abbrev pub placed : {X : Type 0} → (X → X → Bool) → X → List X → List X
placed lt e [] = e ∷ []
placed lt e (x ∷ xs) = cond (lt x e) (x ∷ placed lt e xs) (e ∷ x ∷ xs)

-- the values of a list, in order
abbrev pub in_order : {X : Type 0} → (X → X → Bool) → List X → List X
in_order lt [] = []
in_order lt (x ∷ xs) = placed lt x (in_order lt xs)
