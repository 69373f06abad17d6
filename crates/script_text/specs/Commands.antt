-- The texts of commands, and the command that a line says.
use Rattle.std.specs.Prelude.{◌≡◌, ℕ, ◌+◌, ◌-◌, ◌*◌, ◌<◌, ◌≤◌, Bool, true, cond, ◌&&◌, ◌||◌, List, [], ◌∷◌, ◌++◌, length, take, drop, replicate, is_some, Some, None, codes, decimal, Option, ◌==◌, nat_le, nat_lt, slice_index}
use Rattle.std.specs.Option.{option_map}
use Rattle.logic.specs.Logic.{Logic}
use Rattle.logic.specs.Naming.{Naming}
use Rattle.script_text.specs.declared.command.Verb.{Verb}
use Rattle.script_text.specs.declared.command.Verb.TheVariants as word
use Rattle.script_text.specs.declared.command.Command.{Command}
use Rattle.script_text.specs.declared.command.Command.TheVariants.{Wake, Drive, Advance, Read}

-- ---- the text of a command

-- a number in decimal digits, behind some zeros
abbrev pub padded : ℕ → ℕ → List ℕ
padded zeros n = replicate zeros 48 ++ decimal n

abbrev pub spelt : Verb → List ℕ
spelt word.Wake = codes "wake "
spelt word.Drive = codes "drive "
spelt word.Advance = codes "advance "
spelt word.Read = codes "read "

-- the gate, the port, the ticks or the net
abbrev pub number_in : Command → ℕ
number_in (Wake g c) = g
number_in (Drive p c) = p
number_in (Advance k) = k
number_in (Read n) = n

module _ {V : Type 0} (L : Logic V) (N : Naming V) where
  -- the name of the value that has a code
  abbrev pub name_of : ℕ → List ℕ
  name_of code = elim (L.of_code code) [ Some v ↦ N.name v | None ↦ [] ]

  -- whether the code in a command is the code of a value
  abbrev pub valued : Command → Bool
  valued (Wake g c) = is_some (L.of_code c)
  valued (Drive p c) = is_some (L.of_code c)
  valued (Advance k) = true
  valued (Read n) = true

  -- the text of a command whose number has some leading zeros
  abbrev pub text : ℕ → Command → List ℕ
  text zeros (Wake g c) = spelt word.Wake ++ (padded zeros g ++ (32 ∷ name_of c))
  text zeros (Drive p c) = spelt word.Drive ++ (padded zeros p ++ (32 ∷ name_of c))
  text zeros (Advance k) = spelt word.Advance ++ padded zeros k
  text zeros (Read n) = spelt word.Read ++ padded zeros n

  -- A command can be said with so many zeros: its number has at most 8 digits then, and its code is that of a value.
  pub record Sayable (zeros : ℕ) (c : Command) : Type 0 where
    pub small : number_in c < 100000000
    pub short : zeros + length (decimal (number_in c)) ≤ 8
    pub named : valued c ≡ true

  -- Exactly the texts of commands are read: the text of a command gives it, and what gives a command is its text, up to leading zeros.
  pub record Exactly (line : List ℕ) (r : Option Command) : Type 0 where
    pub said : (zeros : ℕ) (c : Command) → Sayable zeros c → line ≡ text zeros c → r ≡ Some c
    pub only : (c : Command) → r ≡ Some c → (zeros : ℕ) × Sayable zeros c × (line ≡ text zeros c)

-- ---- the command that a line says

-- the number that decimal digits write behind n; none where a byte is no digit
abbrev pub digits : ℕ → List ℕ → Option ℕ
digits n [] = Some n
digits n (c ∷ cs) = cond (nat_le 48 c && nat_le c 57) (digits (n * 10 + (c - 48)) cs) None

-- 1 to 8 decimal digits
abbrev pub number : List ℕ → Option ℕ
number ds = cond (nat_lt (length ds) 1 || nat_lt 8 (length ds)) None (digits 0 ds)

-- the line has these bytes from place i on
abbrev pub spells : List ℕ → List ℕ → ℕ → Bool
spells [] line i = true
spells (c ∷ cs) line i = slice_index line i == c && spells cs line (i + 1)

-- the first word of a line, with the space behind it
abbrev pub verb : List ℕ → Option Verb
verb line =
    cond (spells (spelt word.Wake) line 0) (Some word.Wake)
    (cond (spells (spelt word.Drive) line 0) (Some word.Drive)
    (cond (spells (spelt word.Advance) line 0) (Some word.Advance)
    (cond (spells (spelt word.Read) line 0) (Some word.Read) None)))

-- the number from a place on, before a space and w bytes
abbrev pub number_before : List ℕ → ℕ → ℕ → Option ℕ
number_before line at w =
    cond (nat_lt (length line) (at + 2 + w)) None
    (cond (slice_index line (length line - w - 1) == 32) (number (take (length line - w - 1 - at) (drop at line))) None)

abbrev pub both : {X Y Z : Type 0} → (X → Y → Z) → Option X → Option Y → Option Z
both f None y = None
both f (Some x) None = None
both f (Some x) (Some y) = Some (f x y)

module _ {V : Type 0} (L : Logic V) (N : Naming V) where
  -- the code of the value that has a name
  abbrev pub code_of : List ℕ → Option ℕ
  code_of name = option_map L.code (N.of_name name)

  -- what follows the first word
  abbrev pub behind : Option Verb → List ℕ → Option Command
  behind None line = None
  behind (Some word.Wake) line = both Wake (number_before line 5 N.width) (code_of (drop (length line - N.width) line))
  behind (Some word.Drive) line = both Drive (number_before line 6 N.width) (code_of (drop (length line - N.width) line))
  behind (Some word.Advance) line = option_map Advance (number (drop 8 line))
  behind (Some word.Read) line = option_map Read (number (drop 5 line))

  -- a line of more than 32 bytes is no command
  abbrev pub command : List ℕ → Option Command
  command line = cond (nat_lt 32 (length line)) None (behind (verb line) line)
