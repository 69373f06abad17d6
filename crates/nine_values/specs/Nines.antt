-- The family of nine values, as its rules have it.
use Rattle.std.specs.Prelude.{ℕ, Bool, cond, not, ◌&&◌, ◌||◌, List, [], ◌∷◌, Some, None, codes, Option, ◌==◌, slice_index}
use Rattle.logic.specs.Logic.{Logic}
use Rattle.logic.specs.Naming.{Naming}
use Rattle.nine_values.specs.declared.nine.Nine.{Nine}
use Rattle.nine_values.specs.declared.nine.Nine.TheVariants.{U, X, Zero, One, Z, W, L, H, Dash}

-- Codes 0 to 8 are U X 0 1 Z W L H -.
abbrev pub code9 : Nine → ℕ
code9 U = 0
code9 X = 1
code9 Zero = 2
code9 One = 3
code9 Z = 4
code9 W = 5
code9 L = 6
code9 H = 7
code9 Dash = 8

abbrev pub is : Nine → Nine → Bool
is a b = code9 a == code9 b

-- The value of which f gives n.
abbrev pub found : (Nine → ℕ) → ℕ → Option Nine
found f n =
    cond (n == f U) (Some U) (cond (n == f X) (Some X) (cond (n == f Zero) (Some Zero) (cond (n == f One) (Some One)
    (cond (n == f Z) (Some Z) (cond (n == f W) (Some W) (cond (n == f L) (Some L) (cond (n == f H) (Some H)
    (cond (n == f Dash) (Some Dash) None))))))))

-- A logic operation first reads each operand: L as 0, H as 1, and Z, W and - as X.
abbrev pub read9 : Nine → Nine
read9 U = U
read9 X = X
read9 Zero = Zero
read9 One = One
read9 Z = X
read9 W = X
read9 L = Zero
read9 H = One
read9 Dash = X

-- The operations on operands that are read:
-- AND is 0 if an operand is 0, else U if one is U, else X if one is X, else 1.
abbrev pub and_read : Nine → Nine → Nine
and_read a b = cond (is a Zero || is b Zero) Zero (cond (is a U || is b U) U (cond (is a X || is b X) X One))

-- OR is the same with 0 and 1 exchanged.
abbrev pub or_read : Nine → Nine → Nine
or_read a b = cond (is a One || is b One) One (cond (is a U || is b U) U (cond (is a X || is b X) X Zero))

-- XOR is U if an operand is U, else X if one is X, else 0 for equal operands and 1 for others.
abbrev pub xor_read : Nine → Nine → Nine
xor_read a b = cond (is a U || is b U) U (cond (is a X || is b X) X (cond (is a b) Zero One))

-- NOT exchanges 0 and 1.
abbrev pub not_read : Nine → Nine
not_read a = cond (is a Zero) One (cond (is a One) Zero a)

-- TRI is Z if enable is 0, else U if either operand is U, else X if enable is X, else data.
abbrev pub tri_read : Nine → Nine → Nine
tri_read d e = cond (is e Zero) Z (cond (is d U || is e U) U (cond (is e X) X d))

-- A name is one letter.
abbrev pub byte9 : Nine → ℕ
byte9 a = slice_index (codes "UX01ZWLH-") (code9 a)

abbrev or_u : Option Nine → Nine
or_u (Some a) = a
or_u None = U

-- Resolve, with rows and columns in the order of codes.
abbrev pub row9 : Nine → List ℕ
row9 U = codes "UUUUUUUUU"
row9 X = codes "UXXXXXXXX"
row9 Zero = codes "UX0X0000X"
row9 One = codes "UXX11111X"
row9 Z = codes "UX01ZWLHX"
row9 W = codes "UX01WWWWX"
row9 L = codes "UX01LWLWX"
row9 H = codes "UX01HWWHX"
row9 Dash = codes "UXXXXXXXX"

abbrev pub resolve9 : Nine → Nine → Nine
resolve9 a b = or_u (found byte9 (slice_index (row9 a) (code9 b)))

-- b refines a: every value refines itself and U; all but U refine X; Z, L and H also refine W.
abbrev pub refines9 : Nine → Nine → Bool
refines9 b a = is a b || is a U || (is a X && not (is b U)) || (is a W && (is b Z || is b L || is b H))

-- Something else refines U, X and W, and nothing else refines the others.
abbrev pub definite9 : Nine → Bool
definite9 a = not (is a U || is a X || is a W)

abbrev pub nines : Logic Nine
nines = record {
  unset = U;
  up = H;
  down = L;
  not = λ a. not_read (read9 a);
  and = λ a b. and_read (read9 a) (read9 b);
  or = λ a b. or_read (read9 a) (read9 b);
  xor = λ a b. xor_read (read9 a) (read9 b);
  tri = λ d e. tri_read (read9 d) (read9 e);
  resolve = resolve9;
  refines = refines9;
  definite = definite9;
  code = code9;
  of_code = found code9;
}

abbrev pub spelt9 : List ℕ → Option Nine
spelt9 [] = None
spelt9 (c ∷ []) = found byte9 c
spelt9 (c ∷ (d ∷ s)) = None

abbrev pub nine_names : Naming Nine
nine_names = record { width = 1; name = λ a. byte9 a ∷ []; of_name = spelt9 }
