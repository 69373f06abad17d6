-- Exactly the texts of commands are read.
use Rattle.std.proofs.Common.{◌≡◌, ℕ, zero, suc, ◌+◌, ◌-◌, ◌*◌, ◌^◌, ◌<◌, ◌≤◌, Bool, true, false, cond, ◌&&◌, ◌||◌, eqb, ltb, leb, ◌⊎◌, List, [], ◌∷◌, ◌++◌, length, get_or, take, drop, replicate, is_some, Some, None, decimal, Option, sym, refl, ap, ◌∙◌, subst, inl, inr, ⊎_elim, append_assoc, zero-add, arith, length-append, rules}
use Rattle.std.specs.Option.{option_map}
use Rattle.std.specs.Str.{all_ascii_digits}
use Rattle.std.proofs.lemmas.Fmt.{decimal_digit, decimal_nonempty, digits_decimal, digits_value-decimal, decimal-digits_value}
use Rattle.std.proofs.lemmas.List.{length-replicate, get_or_past, get_or_at, drop_more, drop_at, drop-drop, take_at, take-append-drop}
use Rattle.std.proofs.lemmas.Str.Parse.{IsNumeralModel, numerals_by_fold, tells_all_ascii_digits, digits_value_short}
use Rattle.std.proofs.lemmas.Bool.{cases_eq, and_parts, eqb-true, eq-eqb, le-ltb, ltb-true, ltb-false, cond-false}
use Rattle.logic.specs.Logic.{Logic, Laws}
use Rattle.logic.specs.Naming.{Naming, NamingLaws}
use Rattle.script_text.specs.declared.command.Verb.{Verb}
use Rattle.script_text.specs.declared.command.Verb.TheVariants as word
use Rattle.script_text.specs.declared.command.Command.{Command}
use Rattle.script_text.specs.declared.command.Command.TheVariants.{Wake, Drive, Advance, Read}
use Rattle.script_text.specs.Commands.{padded, spelt, name_of, text, Sayable, Exactly, digits, number, spells, verb, number_before, both, code_of, behind, command}

-- ---- what is read back

same_or_not : (xs ys : List ℕ) → (xs ≡ ys) ⊎ (xs ≡ ys → ⊥)
same_or_not [] [] = inl refl
same_or_not [] (y ∷ ys) = inr (λ e. let z : ◌≡◌ {A = ℕ} 0 1 = cc in omega arith)
same_or_not (x ∷ xs) [] = inr (λ e. let z : ◌≡◌ {A = ℕ} 0 1 = cc in omega arith)
same_or_not (x ∷ xs) (y ∷ ys) =
    ⊎_elim
    (λ p. ⊎_elim (λ q. inl (cc)) (λ n. inr (λ e. n (cc))) (same_or_not xs ys))
    (λ n. inr (λ e. n (cc)))
    (cases_eq x y)

-- a function f with a way back g that knows what has no source: what g gives is the source
source_of : {V W : Type 0} (f : V → W) (g : W → Option V) → ((a : V) → g (f a) ≡ Some a) → ((w : W) → ((a : V) → f a ≡ w → ⊥) → g w ≡ None) →
    (w : W) (v : V) → (f v ≡ w) ⊎ (f v ≡ w → ⊥) → g w ≡ Some v → f v ≡ w
source_of {V} f g back none w v same_or e = ⊎_elim (λ p. p) (λ n. absurd (no n)) same_or
  where
    same : (a : V) → f a ≡ w → v ≡ a
    same a p = let b = back a in let q = ap g p in cc

    no : (f v ≡ w → ⊥) → ⊥
    no n =
        let nothing = none w (λ a p. n (ap f (same a p) ∙ p)) in
        let z : ◌≡◌ {A = ℕ} 0 1 = cc in
        omega arith

some_of : {V : Type 0} (o : Option V) → is_some o ≡ true → (v : V) × (o ≡ Some v)
some_of None e = absurd (let z : ◌≡◌ {A = ℕ} 0 1 = cc in omega arith)
some_of (Some v) e = (v, refl)

-- ---- numbers

abbrev value_on : ℕ → List ℕ → ℕ
value_on n [] = n
value_on n (c ∷ cs) = value_on (n * 10 + (c - 48)) cs

own : IsNumeralModel (λ ds. all_ascii_digits ds ≡ true) (value_on 0)
own = numerals_by_fold _ tells_all_ascii_digits value_on (search rules)

digits_are : (n : ℕ) (ds : List ℕ) → digits n ds ≡ cond (all_ascii_digits ds) (Some (value_on n ds)) None
digits_are n [] = refl
digits_are n (c ∷ cs) = by (digits_are (n * 10 + (c - 48)) cs) (leb 48 c && leb c 57)
  where
    by : digits (n * 10 + (c - 48)) cs ≡ cond (all_ascii_digits cs) (Some (value_on (n * 10 + (c - 48)) cs)) None → (b : Bool) → cond b (digits (n * 10 + (c - 48)) cs) None ≡ cond (b && all_ascii_digits cs) (Some (value_on (n * 10 + (c - 48)) cs)) None
    by later true = later
    by later false = refl

zeros_skip : (zeros : ℕ) (ds : List ℕ) → digits 0 (replicate zeros 48 ++ ds) ≡ digits 0 ds
zeros_skip zero ds = refl
zeros_skip (suc zeros) ds = zeros_skip zeros ds

length_padded : (zeros n : ℕ) → length (padded zeros n) ≡ zeros + length (decimal n)
length_padded zeros n = length-append (replicate zeros 48) (decimal n) ∙ ap (λ k. k + length (decimal n)) (length-replicate zeros 48)

number_said : (zeros n : ℕ) → n < 100000000 → zeros + length (decimal n) ≤ 8 → number (padded zeros n) ≡ Some n
number_said zeros n small short =
    let tiny : n < 2 ^ 64 = omega arith in
    let long = length_padded zeros n in
    let some = decimal_nonempty n tiny in
    let low : ltb (length (padded zeros n)) 1 ≡ false = le-ltb (length (padded zeros n)) 1 (omega arith) in
    let high : ltb 8 (length (padded zeros n)) ≡ false = le-ltb 8 (length (padded zeros n)) (omega arith) in
    let read : digits 0 (padded zeros n) ≡ Some n =
    zeros_skip zeros (decimal n) ∙ digits_are 0 (decimal n)
    ∙ (λ i. cond (digits_decimal own n tiny i) (Some (digits_value-decimal own n tiny i)) None) in
    (λ i. cond (low i || high i) None (digits 0 (padded zeros n))) ∙ read

-- digits are zeros and a number
zeros_split : (ds : List ℕ) → all_ascii_digits ds ≡ true → 0 < length ds → length ds ≤ 8 → (zeros : ℕ) × (ds ≡ padded zeros (value_on 0 ds))
zeros_split [] d some few = absurd (omega arith)
zeros_split (c ∷ cs) d some few = ⊎_elim (zero_first (zeros_split cs)) (λ n. (0, other n)) (cases_eq c 48)
  where
    alone : (cs : List ℕ) → cs ≡ [] → 48 ∷ cs ≡ padded 0 (value_on 0 (48 ∷ cs))
    alone [] e = sym (decimal_digit 0 (omega arith))
    alone (x ∷ xs) e = absurd (let z : ◌≡◌ {A = ℕ} 0 1 = cc in omega arith)

    behind_zero : (all_ascii_digits cs ≡ true → 0 < length cs → length cs ≤ 8 → (zeros : ℕ) × (cs ≡ padded zeros (value_on 0 cs))) → (cs' : List ℕ) → cs ≡ cs' → (zeros : ℕ) × (48 ∷ cs ≡ padded zeros (value_on 0 (48 ∷ cs)))
    behind_zero later [] e = (0, alone cs e)
    behind_zero later (x ∷ xs) e =
        let more : length cs ≡ suc (length xs) = ap length e in
        let r = later (and_parts (leb 48 c && leb c 57) (all_ascii_digits cs) d).1 (omega arith) (omega arith) in
        (suc r.0, ap (λ l. 48 ∷ l) r.1)

    zero_first : (all_ascii_digits cs ≡ true → 0 < length cs → length cs ≤ 8 → (zeros : ℕ) × (cs ≡ padded zeros (value_on 0 cs))) → c ≡ 48 → (zeros : ℕ) × (c ∷ cs ≡ padded zeros (value_on 0 (c ∷ cs)))
    zero_first later e = subst (λ k. (zeros : ℕ) × (k ∷ cs ≡ padded zeros (value_on 0 (k ∷ cs)))) (sym e) (behind_zero later cs refl)

    other : (c ≡ 48 → ⊥) → c ∷ cs ≡ padded 0 (value_on 0 (c ∷ cs))
    other n =
        let small = digits_value_short own (c ∷ cs) 8 d few in
        sym (decimal-digits_value own (c ∷ cs) d some (λ e. absurd (n e)) (omega arith))

number_only : (ds : List ℕ) (n : ℕ) → number ds ≡ Some n → (zeros : ℕ) × (n < 100000000) × (zeros + length (decimal n) ≤ 8) × (ds ≡ padded zeros n)
number_only ds n e = by (ltb (length ds) 1) (ltb 8 (length ds)) refl refl e
  where
    nothing : None ≡ Some n → ⊥
    nothing q = let z : ◌≡◌ {A = ℕ} 0 1 = cc in omega arith

    read : (b : Bool) → all_ascii_digits ds ≡ b → cond b (Some (value_on 0 ds)) None ≡ Some n → (all_ascii_digits ds ≡ true) × (value_on 0 ds ≡ n)
    read true p q = (p, cc)
    read false p q = absurd (nothing q)

    by : (low high : Bool) → ltb (length ds) 1 ≡ low → ltb 8 (length ds) ≡ high → cond (low || high) None (digits 0 ds) ≡ Some n →
        (zeros : ℕ) × (n < 100000000) × (zeros + length (decimal n) ≤ 8) × (ds ≡ padded zeros n)
    by true high p q f = absurd (nothing f)
    by false true p q f = absurd (nothing f)
    by false false p q f =
        let r = read (all_ascii_digits ds) refl (sym (digits_are 0 ds) ∙ f) in
        let some = ltb-false (length ds) 1 p in
        let few = ltb-false 8 (length ds) q in
        let z = zeros_split ds r.0 (omega arith) few in
        let small = digits_value_short own ds 8 r.0 few in
        let line : ds ≡ padded z.0 n = z.1 ∙ ap (padded z.0) r.1 in
        let long = ap length line ∙ length_padded z.0 n in
        (z.0, omega (arith, r.1), omega arith, line)

-- ---- words

-- no byte is 0
abbrev solid : List ℕ → Bool
solid [] = true
solid (c ∷ cs) = ltb 0 c && solid cs

spells_only : (cs line : List ℕ) (i : ℕ) → solid cs ≡ true → spells cs line i ≡ true → drop i line ≡ cs ++ drop (i + length cs) line
spells_only [] line i s e = ap (λ k. drop k line) (none i)
  where
    none : (i : ℕ) → i ≡ i + 0
    none i = omega arith
spells_only (c ∷ cs) line i s e =
    let here = and_parts (eqb (get_or line i 0) c) (spells cs line (i + 1)) e in
    let some = and_parts (ltb 0 c) (solid cs) s in
    let is = eqb-true (get_or line i 0) c here.0 in
    let positive = ltb-true 0 c some.0 in
    let inside : i < length line = ⊎_elim (λ lt. lt) (λ past. absurd (let z = get_or_past line i 0 past in omega arith)) (cases i (length line)) in
    drop_more line i 0 inside ∙ (λ j. is j ∷ spells_only cs line (i + 1) some.1 here.1 j) ∙ ap (λ k. c ∷ (cs ++ drop k line)) (one_more i (length cs))
  where
    one_more : (i k : ℕ) → i + 1 + k ≡ i + suc k
    one_more i k = omega arith

    cases : (a b : ℕ) → (a < b) ⊎ (b ≤ a)
    cases a b = ⊎_elim (λ t. inl (ltb-true a b t)) (λ f. inr (ltb-false a b f)) (bools (ltb a b))
      where
        bools : (b : Bool) → (b ≡ true) ⊎ (b ≡ false)
        bools true = inl refl
        bools false = inr refl

-- the word that a line begins with
verb_only : (line : List ℕ) (v : Verb) → verb line ≡ Some v → line ≡ spelt v ++ drop (length (spelt v)) line
verb_only line v e = rw (← zero-add (length (spelt v))) (spells_only (spelt v) line 0 (solid_word v) (by (spells (spelt word.Wake) line 0) (spells (spelt word.Drive) line 0) (spells (spelt word.Advance) line 0) (spells (spelt word.Read) line 0) refl refl refl refl e))
  where
    solid_word : (v : Verb) → solid (spelt v) ≡ true
    solid_word word.Wake = refl
    solid_word word.Drive = refl
    solid_word word.Advance = refl
    solid_word word.Read = refl

    is : (w : Verb) → spells (spelt w) line 0 ≡ true → Some w ≡ Some v → spells (spelt v) line 0 ≡ true
    is w t q = let same : w ≡ v = cc in subst (λ u. spells (spelt u) line 0 ≡ true) same t

    by : (a b c d : Bool) → spells (spelt word.Wake) line 0 ≡ a → spells (spelt word.Drive) line 0 ≡ b → spells (spelt word.Advance) line 0 ≡ c → spells (spelt word.Read) line 0 ≡ d →
        cond a (Some word.Wake) (cond b (Some word.Drive) (cond c (Some word.Advance) (cond d (Some word.Read) None))) ≡ Some v → spells (spelt v) line 0 ≡ true
    by true b c d p q r s f = is word.Wake p f
    by false true c d p q r s f = is word.Drive q f
    by false false true d p q r s f = is word.Advance r f
    by false false false true p q r s f = is word.Read s f
    by false false false false p q r s f = absurd (let z : ◌≡◌ {A = ℕ} 0 1 = cc in omega arith)

-- ---- a number, a space, a name

module _ (p ds name : List ℕ) (at w : ℕ) (before : length p ≡ at) (wide : length name ≡ w) (some : 0 < length ds) where
  line_of : List ℕ
  line_of = p ++ (ds ++ (32 ∷ name))

  length_line : length line_of ≡ at + (length ds + suc w)
  unfolding line_of
  length_line =
      let a = length-append p (ds ++ (32 ∷ name)) in
      let b = length-append ds (32 ∷ name) in
      omega (arith, a, b)

  front_long : length (p ++ ds) ≡ at + length ds
  front_long = length-append p ds ∙ ap (λ k. k + length ds) before

  number_behind : number_before line_of at w ≡ number ds
  unfolding line_of
  number_behind =
      let n = length_line in
      let room : ltb (length line_of) (at + 2 + w) ≡ false = le-ltb (length line_of) (at + 2 + w) (omega arith) in
      let spot : length line_of - w - 1 ≡ at + length ds = omega arith in
      let size : length ds ≡ length line_of - w - 1 - at = omega arith in
      let space : get_or line_of (length line_of - w - 1) 0 ≡ 32 =
      ap (λ (l : List ℕ). get_or l (length line_of - w - 1) 0) (sym (append_assoc p ds (32 ∷ name))) ∙ get_or_at (p ++ ds) 32 name 0 (length line_of - w - 1) (front_long ∙ sym spot) in
      let middle : take (length line_of - w - 1 - at) (drop at line_of) ≡ ds =
      ap (take (length line_of - w - 1 - at)) (drop_at p (ds ++ (32 ∷ name)) at before) ∙ take_at ds (32 ∷ name) (length line_of - w - 1 - at) size in
      (λ i. cond (room i) None (cond (eq-eqb (get_or line_of (length line_of - w - 1) 0) 32 space i) (number (middle i)) None))

  name_behind : drop (length line_of - w) line_of ≡ name
  unfolding line_of
  name_behind =
      let n = length_line in
      let spot : length ((p ++ ds) ++ (32 ∷ [])) ≡ length line_of - w = length-append (p ++ ds) (32 ∷ []) ∙ omega (arith, front_long) in
      ap (drop (length line_of - w)) (sym (append_assoc p ds (32 ∷ name)) ∙ sym (append_assoc (p ++ ds) (32 ∷ []) name)) ∙ drop_at ((p ++ ds) ++ (32 ∷ [])) name (length line_of - w) spot

-- a line in which a number, a space and w bytes stand from a place on
record Parted (line : List ℕ) (at w n : ℕ) : Type 0 where
  long : at + 2 + w ≤ length line
  reads : number (take (length line - w - 1 - at) (drop at line)) ≡ Some n
  parts : drop at line ≡ take (length line - w - 1 - at) (drop at line) ++ (32 ∷ drop (length line - w) line)

parted : (line : List ℕ) (at w n : ℕ) → number_before line at w ≡ Some n → Parted line at w n
parted line at w n e = by (ltb (length line) (at + 2 + w)) (eqb (get_or line (length line - w - 1) 0) 32) refl refl e
  where
    nothing : None ≡ Some n → Parted line at w n
    nothing q = absurd (let z : ◌≡◌ {A = ℕ} 0 1 = cc in omega arith)

    by : (a b : Bool) → ltb (length line) (at + 2 + w) ≡ a → eqb (get_or line (length line - w - 1) 0) 32 ≡ b → cond a None (cond b (number (take ((length line - w - 1) - at) (drop at line))) None) ≡ Some n → Parted line at w n
    by true b p q f = nothing f
    by false false p q f = nothing f
    by false true p q f =
        let room = ltb-false (length line) (at + 2 + w) p in
        let space = eqb-true (get_or line (length line - w - 1) 0) 32 q in
        let inside : (length line - w - 1) < length line = omega arith in
        let there : at + ((length line - w - 1) - at) ≡ (length line - w - 1) = omega arith in
        let next : (length line - w - 1) + 1 ≡ length line - w = omega arith in
        let rest : drop ((length line - w - 1) - at) (drop at line) ≡ 32 ∷ drop (length line - w) line =
        drop-drop ((length line - w - 1) - at) at line ∙ ap (λ k. drop k line) there ∙ drop_more line (length line - w - 1) 0 inside ∙ (λ i. space i ∷ drop (next i) line) in
        record { long = room; reads = f; parts = sym (take-append-drop ((length line - w - 1) - at) (drop at line)) ∙ ap (λ l. take ((length line - w - 1) - at) (drop at line) ++ l) rest }

pair_parts : (K : ℕ → ℕ → Command) (A B : Option ℕ) (c : Command) → both K A B ≡ Some c → (n : ℕ) × (k : ℕ) × (A ≡ Some n) × (B ≡ Some k) × (K n k ≡ c)
pair_parts K None B c e = absurd (let z : ◌≡◌ {A = ℕ} 0 1 = cc in omega arith)
pair_parts K (Some n) None c e = absurd (let z : ◌≡◌ {A = ℕ} 0 1 = cc in omega arith)
pair_parts K (Some n) (Some k) c e = (n, k, refl, refl, cc)

mapped_parts : {X Y : Type 0} (f : X → Y) (o : Option X) (y : Y) → option_map f o ≡ Some y → (x : X) × (o ≡ Some x) × (f x ≡ y)
mapped_parts f None y e = absurd (let z : ◌≡◌ {A = ℕ} 0 1 = cc in omega arith)
mapped_parts f (Some x) y e = (x, refl, cc)

module _ {V : Type 0} (L : Logic V) (N : Naming V) (laws : Laws L) (spelling : NamingLaws N) where
  coded : (k : ℕ) (v : V) → L.of_code k ≡ Some v → L.code v ≡ k
  coded k v e = source_of L.code L.of_code laws.code_back laws.code_none k v (cases_eq (L.code v) k) e

  named : (s : List ℕ) (v : V) → N.of_name s ≡ Some v → N.name v ≡ s
  named s v e = source_of N.name N.of_name spelling.name_back spelling.name_none s v (same_or_not (N.name v) s) e

  -- the name of a code that has a value
  name_is : (k : ℕ) (v : V) → L.of_code k ≡ Some v → name_of L N k ≡ N.name v
  name_is k v e = ap (λ o. elim o [ Some w ↦ N.name w | None ↦ [] ]) e

  length_name : (k : ℕ) → is_some (L.of_code k) ≡ true → length (name_of L N k) ≡ N.width
  length_name k e = let s = some_of (L.of_code k) e in ap length (name_is k s.0 s.1) ∙ spelling.name_long s.0

  -- a name is read back
  code_back : (k : ℕ) → is_some (L.of_code k) ≡ true → code_of L N (name_of L N k) ≡ Some k
  code_back k e =
      let s = some_of (L.of_code k) e in
      ap (code_of L N) (name_is k s.0 s.1) ∙ ap (option_map L.code) (spelling.name_back s.0) ∙ ap Some (coded k s.0 s.1)

  code_only : (s : List ℕ) (k : ℕ) → code_of L N s ≡ Some k → (is_some (L.of_code k) ≡ true) × (s ≡ name_of L N k)
  code_only s k e =
      let v = mapped_parts L.code (N.of_name s) k e in
      let has : L.of_code k ≡ Some v.0 = ap L.of_code (sym v.2) ∙ laws.code_back v.0 in
      (ap is_some has, sym (named s v.0 v.1) ∙ sym (name_is k v.0 has))

  -- ---- the text of a command gives it

  padded_some : (zeros n : ℕ) → n < 100000000 → 0 < length (padded zeros n)
  padded_some zeros n small = let some = decimal_nonempty n (omega arith) in omega (arith, length_padded zeros n)

  pair_said : (K : ℕ → ℕ → Command) (p : List ℕ) (at zeros n k : ℕ) → length p ≡ at → n < 100000000 → zeros + length (decimal n) ≤ 8 → is_some (L.of_code k) ≡ true →
      (line : List ℕ) → line ≡ p ++ (padded zeros n ++ (32 ∷ name_of L N k)) → both K (number_before line at N.width) (code_of L N (drop (length line - N.width) line)) ≡ Some (K n k)
  unfolding line_of
  pair_said K p at zeros n k before small short has line is =
      let wide = length_name k has in
      let some = padded_some zeros n small in
      let a = number_behind p (padded zeros n) (name_of L N k) at N.width before wide some ∙ number_said zeros n small short in
      let b = ap (code_of L N) (name_behind p (padded zeros n) (name_of L N k) at N.width before wide some) ∙ code_back k has in
      subst (λ (l : List ℕ). both K (number_before l at N.width) (code_of L N (drop (length l - N.width) l)) ≡ Some (K n k)) (sym is) (λ i. both K (a i) (b i))

  -- no text of a command has more than 32 bytes
  short_line : (zeros : ℕ) (c : Command) → Sayable L N zeros c → length (text L N zeros c) ≤ 32
  short_line zeros (Wake g k) s =
      let a = length-append (padded zeros g) (32 ∷ name_of L N k) in
      omega (arith, a, length_padded zeros g, length_name k s.named, spelling.width_to, s.short)
  short_line zeros (Drive p k) s =
      let a = length-append (padded zeros p) (32 ∷ name_of L N k) in
      omega (arith, a, length_padded zeros p, length_name k s.named, spelling.width_to, s.short)
  short_line zeros (Advance k) s = omega (arith, length_padded zeros k, s.short)
  short_line zeros (Read n) s = omega (arith, length_padded zeros n, s.short)

  said_behind : (zeros : ℕ) (c : Command) → Sayable L N zeros c → behind L N (verb (text L N zeros c)) (text L N zeros c) ≡ Some c
  said_behind zeros (Wake g k) s = pair_said Wake (spelt word.Wake) 5 zeros g k refl s.small s.short s.named (text L N zeros (Wake g k)) refl
  said_behind zeros (Drive p k) s = pair_said Drive (spelt word.Drive) 6 zeros p k refl s.small s.short s.named (text L N zeros (Drive p k)) refl
  said_behind zeros (Advance k) s = ap (option_map Advance) (number_said zeros k s.small s.short)
  said_behind zeros (Read n) s = ap (option_map Read) (number_said zeros n s.small s.short)

  said : (zeros : ℕ) (c : Command) → Sayable L N zeros c → command L N (text L N zeros c) ≡ Some c
  said zeros c s = cond-false (ltb 32 (length (text L N zeros c))) None (behind L N (verb (text L N zeros c)) (text L N zeros c)) (le-ltb 32 (length (text L N zeros c)) (short_line zeros c s)) ∙ said_behind zeros c s

  -- ---- what gives a command is its text

  Says : List ℕ → Command → Type 0
  Says line c = (zeros : ℕ) × Sayable L N zeros c × (line ≡ text L N zeros c)

  pair_only : (line : List ℕ) (at n k : ℕ) → number_before line at N.width ≡ Some n → code_of L N (drop (length line - N.width) line) ≡ Some k →
      (zeros : ℕ) × (n < 100000000) × (zeros + length (decimal n) ≤ 8) × (is_some (L.of_code k) ≡ true) × (drop at line ≡ padded zeros n ++ (32 ∷ name_of L N k))
  pair_only line at n k a b =
      let p = parted line at N.width n a in
      let d = number_only (take (length line - N.width - 1 - at) (drop at line)) n p.reads in
      let m = code_only (drop (length line - N.width) line) k b in
      (d.0, d.1, d.2, m.0, p.parts ∙ (λ i. d.3 i ++ (32 ∷ m.1 i)))

  only_behind : (line : List ℕ) (c : Command) (o : Option Verb) → verb line ≡ o → behind L N o line ≡ Some c → Says line c
  unfolding Says
  only_behind line c None e f = absurd (let z : ◌≡◌ {A = ℕ} 0 1 = cc in omega arith)
  only_behind line c (Some word.Wake) e f =
      let q = pair_parts Wake (number_before line 5 N.width) (code_of L N (drop (length line - N.width) line)) c f in
      let r = pair_only line 5 q.0 q.1 q.2 q.3 in
      subst (Says line) q.4 (r.0, record { small = r.1; short = r.2; named = r.3 }, verb_only line word.Wake e ∙ ap (λ l. spelt word.Wake ++ l) r.4)
  only_behind line c (Some word.Drive) e f =
      let q = pair_parts Drive (number_before line 6 N.width) (code_of L N (drop (length line - N.width) line)) c f in
      let r = pair_only line 6 q.0 q.1 q.2 q.3 in
      subst (Says line) q.4 (r.0, record { small = r.1; short = r.2; named = r.3 }, verb_only line word.Drive e ∙ ap (λ l. spelt word.Drive ++ l) r.4)
  only_behind line c (Some word.Advance) e f =
      let q = mapped_parts Advance (number (drop 8 line)) c f in
      let r = number_only (drop 8 line) q.0 q.1 in
      subst (Says line) q.2 (r.0, record { small = r.1; short = r.2; named = refl }, verb_only line word.Advance e ∙ ap (λ l. spelt word.Advance ++ l) r.3)
  only_behind line c (Some word.Read) e f =
      let q = mapped_parts Read (number (drop 5 line)) c f in
      let r = number_only (drop 5 line) q.0 q.1 in
      subst (Says line) q.2 (r.0, record { small = r.1; short = r.2; named = refl }, verb_only line word.Read e ∙ ap (λ l. spelt word.Read ++ l) r.3)

  only : (line : List ℕ) (c : Command) → command L N line ≡ Some c → Says line c
  only line c e = by (ltb 32 (length line)) e
    where
      by : (b : Bool) → cond b None (behind L N (verb line) line) ≡ Some c → Says line c
      by true f = absurd (let z : ◌≡◌ {A = ℕ} 0 1 = cc in omega arith)
      by false f = only_behind line c (verb line) refl f

  pub exactly : (line : List ℕ) → Exactly L N line (command L N line)
  unfolding Says
  exactly line = record {
    said = λ zeros c s is. subst (λ l. command L N l ≡ Some c) (sym is) (said zeros c s);
    only = only line;
  }
