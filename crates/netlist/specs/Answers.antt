-- A check finds a fault or none. Checks are made in order, and the first fault counts.
use Rattle.std.specs.Prelude.{ℕ, zero, suc, Bool, true, false, ◌||◌, nat_lt, Some, None, Ok, Err, Option, Result}

-- the fault, where the test is true
abbrev pub when : {F : Type 0} → Bool → F → Option F
when true e = Some e
when false e = None

-- the first check's fault, else the second's
infixr 20 ◌orelse◌
abbrev pub ◌orelse◌ : {F : Type 0} → Option F → Option F → Option F
(Some e) orelse q = Some e
None orelse q = q

-- the first fault among check 0, check 1, .. check (n - 1)
abbrev pub first_fault : {F : Type 0} → (ℕ → Option F) → ℕ → Option F
first_fault check zero = None
first_fault check (suc n) = first_fault check n orelse check n

-- what a call answers: the fault, or the value where there is none
abbrev pub answer : {T F : Type 0} → Option F → T → Result T F
answer (Some e) x = Err e
answer None x = Ok x

-- a number outside low .. high
abbrev pub outside : ℕ → ℕ → ℕ → Bool
outside low high x = nat_lt x low || nat_lt high x
