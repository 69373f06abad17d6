-- Lists in an order.
use Rattle.std.specs.Prelude.{List, [], ◌∷◌}
use Rattle.std.specs.List.{AllByRecursion}

-- Every element comes before all that stand behind it, so that none stands twice; `Before x y` says that x comes before y.
abbrev pub Ordered : {X : Type 0} → (X → X → Type 0) → List X → Type 0
Ordered Before [] = Unit {0}
Ordered Before (x ∷ xs) = AllByRecursion (Before x) xs × Ordered Before xs
