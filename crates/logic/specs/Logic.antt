-- What a logic family is: its operations, and the laws that it shows.
use Rattle.std.specs.Prelude.{◌≡◌, ℕ, ◌<◌, Bool, true, ◌≢◌, Some, None, Option}

pub record Logic (V : Type 0) : Type 0 where
  pub unset : V
  pub up : V
  pub down : V
  pub not : V → V
  pub and : V → V → V
  pub or : V → V → V
  pub xor : V → V → V
  -- data, enable
  pub tri : V → V → V
  pub resolve : V → V → V
  -- refines b a: b refines a
  pub refines : V → V → Bool
  pub definite : V → Bool
  pub code : V → ℕ
  pub of_code : ℕ → Option V

-- a is refined by b: b says all that a says, and perhaps more
abbrev pub RefinedBy : {V : Type 0} → Logic V → V → V → Type 0
RefinedBy L a b = L.refines b a ≡ true

-- Refined operands give a refined result.
abbrev pub Monotone1 : {V : Type 0} → Logic V → (V → V) → Type 0
Monotone1 {V} L f = (a b : V) → RefinedBy L a b → RefinedBy L (f a) (f b)

abbrev pub Monotone2 : {V : Type 0} → Logic V → (V → V → V) → Type 0
Monotone2 {V} L f = (a b c d : V) → RefinedBy L a b → RefinedBy L c d → RefinedBy L (f a c) (f b d)

pub record Laws {V : Type 0} (L : Logic V) : Type 0 where
  -- Two values are equal exactly when their codes are; a value's code gives that value, and a code that no value has gives none.
  pub code_fits : (a : V) → L.code a < 65536
  pub code_equal : (a b : V) → L.code a ≡ L.code b → a ≡ b
  pub code_back : (a : V) → L.of_code (L.code a) ≡ Some a
  pub code_none : (n : ℕ) → ((a : V) → L.code a ≢ n) → L.of_code n ≡ None
  -- Refining is reflexive, antisymmetric and transitive, and every value refines unset.
  pub ref_self : (a : V) → RefinedBy L a a
  pub ref_anti : (a b : V) → RefinedBy L a b → RefinedBy L b a → a ≡ b
  pub ref_trans : (a b c : V) → RefinedBy L a b → RefinedBy L b c → RefinedBy L a c
  pub ref_unset : (a : V) → RefinedBy L L.unset a
  -- NOT, AND, OR, XOR, TRI and resolve give a refined result for refined operands.
  pub not_mono : Monotone1 L L.not
  pub and_mono : Monotone2 L L.and
  pub or_mono : Monotone2 L L.or
  pub xor_mono : Monotone2 L L.xor
  pub tri_mono : Monotone2 L L.tri
  pub resolve_mono : Monotone2 L L.resolve
  -- Resolve is commutative and associative.
  pub resolve_comm : (a b : V) → L.resolve a b ≡ L.resolve b a
  pub resolve_assoc : (a b c : V) → L.resolve (L.resolve a b) c ≡ L.resolve a (L.resolve b c)
  -- A value is definite exactly when only the value itself refines it.
  pub definite_only : (a b : V) → L.definite a ≡ true → RefinedBy L a b → b ≡ a
  pub only_definite : (a : V) → ((b : V) → RefinedBy L a b → b ≡ a) → L.definite a ≡ true
