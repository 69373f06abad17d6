-- The lines of an advance: a trace that is read back gives the records of the definition, and 40,000 bytes have room for them.
use Rattle.std.proofs.Common.{◌≡◌, ℕ, zero, suc, ◌+◌, ◌*◌, ◌/◌, ◌%◌, ◌<◌, ◌≤◌, Bool, true, false, cond, not, eqb, ltb, List, [], ◌∷◌, ◌++◌, length, get_or, Some, None, decimal, sym, refl, ap, ◌∙◌, append_assoc, arith, length-append}
use Rattle.std.specs.List.{range_with_len, flat_map, AllByRecursion}
use Rattle.std.proofs.lemmas.Fmt.{length-decimal-le}
use Rattle.std.proofs.ByRecursion.{All-append, All-weaker, All-from_get_or}
use Rattle.std.proofs.lemmas.List.{append-nil, get_or-append-add}
use Rattle.std.proofs.lemmas.Bool.{ltb-false}
use Rattle.logic.specs.Logic.{Logic, Laws}
use Rattle.logic.specs.Naming.{Naming, NamingLaws}
use Rattle.netlist.specs.Board.{Board, WellFormed}
use Rattle.signal.specs.Calls.{State, Change, change_bytes, advance, level, level_before, change, changes_at, completes, written, first_of, refusal, most_ticks, tick_room}
use Rattle.signal.proofs.Advancing.{length_bytes}
use Rattle.signal.proofs.Recording.{stops}
use Rattle.signal.proofs.Rows.{counting_all}
use Rattle.script_text.specs.Commands.{name_of}
use Rattle.script_text.specs.Texts.{word16, word32, record_text, record_at, records_text, done_text, trace_text}
use Rattle.script.specs.Answers.{change_text, most_trace}

-- ---- numbers of several bytes

small_byte : (d : ℕ) → d < 256 → d % 256 ≡ d
small_byte d h = omega arith

back16 : (n : ℕ) → n < 65536 → n / 256 % 256 * 256 + n % 256 ≡ n
back16 n lt = let high = small_byte (n / 256) (omega arith) in omega arith

back32 : (t : ℕ) → t < 16777216 → (t / 16777216 % 256 * 256 + t / 65536 % 256) * 65536 + (t / 256 % 256 * 256 + t % 256) ≡ t
back32 t lt =
    let top : t / 16777216 % 256 ≡ 0 = omega arith in
    let high : t / 65536 % 256 ≡ t / 65536 = small_byte (t / 65536) (omega arith) in
    let split : t / 256 / 256 ≡ t / 65536 = omega arith in
    let low : t / 65536 * 65536 + (t / 256 % 256 * 256 + t % 256) ≡ t = omega arith in
    omega arith

-- ---- one record behind another

shift : (xs more : List ℕ) (i k : ℕ) → length xs ≡ 8 → k ≡ 8 + i → get_or (xs ++ more) k 0 ≡ get_or more i 0
shift xs more i k long e = ap (λ j. get_or (xs ++ more) j 0) (e ∙ ap (λ m. m + i) (sym long)) ∙ get_or-append-add xs more i 0

word16_next : (xs more : List ℕ) (i k : ℕ) → length xs ≡ 8 → k ≡ 8 + i → word16 (xs ++ more) k ≡ word16 more i
word16_next xs more i k long e =
    let a = shift xs more i k long e in
    let b = shift xs more (i + 1) (k + 1) long (omega arith) in
    λ j. a j * 256 + b j

word32_next : (xs more : List ℕ) (i k : ℕ) → length xs ≡ 8 → k ≡ 8 + i → word32 (xs ++ more) k ≡ word32 more i
word32_next xs more i k long e =
    let a = word16_next xs more i k long e in
    let b = word16_next xs more (i + 2) (k + 2) long (omega arith) in
    λ j. a j * 65536 + b j

module _ {V : Type 0} (L : Logic V) (N : Naming V) where
  -- a record of a run, whose fields fit
  pub record Plain (c : Change) : Type 0 where
    pub tick_small : c.tick < 16777216
    pub net_small : c.net < 1024
    pub code_small : c.code < 65536
    pub value : V
    pub has_value : L.of_code c.code ≡ Some value

  one_record : (c : Change) (more : List ℕ) → Plain c → record_at L N (change_bytes c ++ more) 0 ≡ change_text L N c
  one_record c more p =
      let t = back32 c.tick p.tick_small in
      let n = back16 c.net (omega (arith, p.net_small)) in
      let k = back16 c.code p.code_small in
      λ i. record_text L N (t i) (n i) (k i)

  record_next : (c : Change) (more : List ℕ) (n : ℕ) → record_at L N (change_bytes c ++ more) (suc n) ≡ record_at L N more n
  record_next c more n =
      let t = word32_next (change_bytes c) more (8 * n) (8 * suc n) refl (omega arith) in
      let m = word16_next (change_bytes c) more (8 * n + 4) (8 * suc n + 4) refl (omega arith) in
      let k = word16_next (change_bytes c) more (8 * n + 6) (8 * suc n + 6) refl (omega arith) in
      λ i. record_text L N (t i) (m i) (k i)

  records_next : (c : Change) (more : List ℕ) (n : ℕ) → records_text L N (change_bytes c ++ more) (suc n) ≡ record_at L N (change_bytes c ++ more) 0 ++ records_text L N more n
  records_next c more zero = sym (append-nil (record_at L N (change_bytes c ++ more) 0))
  records_next c more (suc n) =
      (λ i. records_next c more n i ++ record_next c more n i) ∙ append_assoc (record_at L N (change_bytes c ++ more) 0) (records_text L N more n) (record_at L N more n)

  lines_are : (cs : List Change) → AllByRecursion Plain cs → records_text L N (flat_map change_bytes cs) (length cs) ≡ flat_map (change_text L N) cs
  lines_are [] h = refl
  lines_are (c ∷ cs) h =
      records_next c (flat_map change_bytes cs) (length cs) ∙ (λ i. one_record c (flat_map change_bytes cs) h.0 i ++ lines_are cs h.1 i)

  -- the text of a trace is that of its records
  pub trace_lines : (cs : List Change) (ticks : ℕ) → AllByRecursion Plain cs → trace_text L N (flat_map change_bytes cs) ticks ≡ flat_map (change_text L N) cs ++ done_text ticks
  trace_lines cs ticks h =
      let many : length (flat_map change_bytes cs) / 8 ≡ length cs = omega (arith, length_bytes cs) in
      ap (λ n. records_text L N (flat_map change_bytes cs) n ++ done_text ticks) many ∙ ap (λ l. l ++ done_text ticks) (lines_are cs h)

  -- ---- room

  module _ (spelling : NamingLaws N) where
    pub name_short : (k : ℕ) (v : V) → L.of_code k ≡ Some v → length (name_of L N k) ≤ 4
    name_short k v e =
        let same : length (name_of L N k) ≡ N.width = ap (λ o. length {A = ℕ} (elim o [ Some w ↦ N.name w | None ↦ [] ])) e ∙ spelling.name_long v in
        omega (arith, spelling.width_to)

    line_short : (c : Change) → Plain c → length (change_text L N c) ≤ 19
    line_short c p =
        let t = length-decimal-le 8 c.tick (omega arith) (omega (arith, p.tick_small)) (omega (arith, p.tick_small)) in
        let n = length-decimal-le 4 c.net (omega arith) (omega (arith, p.net_small)) (omega (arith, p.net_small)) in
        let k = name_short c.code p.value p.has_value in
        let a = length-append (decimal c.tick) (32 ∷ (decimal c.net ++ (32 ∷ (name_of L N c.code ++ (10 ∷ []))))) in
        let b = length-append (decimal c.net) (32 ∷ (name_of L N c.code ++ (10 ∷ []))) in
        let d = length-append (name_of L N c.code) (10 ∷ []) in
        omega arith

    pub lines_short : (cs : List Change) → AllByRecursion Plain cs → length (flat_map (change_text L N) cs) ≤ 19 * length cs
    lines_short [] h = omega arith
    lines_short (c ∷ cs) h =
        let a = length-append (change_text L N c) (flat_map (change_text L N) cs) in
        let one = line_short c h.0 in
        let rest = lines_short cs h.1 in
        omega arith

-- ---- the records of a run

all_joined : {X A : Type 0} (P : A → Type 0) (f : X → List A) (xs : List X) → AllByRecursion (λ x. AllByRecursion P (f x)) xs → AllByRecursion P (flat_map f xs)
all_joined P f [] h = tt
all_joined P f (x ∷ xs) h = All-append P (f x) (flat_map f xs) h.0 (all_joined P f xs h.1)

module _ {V : Type 0} {L : Logic V} (laws : Laws L) (N : Naming V) (C : Board) (s : State V) where
  change_plain : (t n : ℕ) → t < 16777216 → n < 1024 → AllByRecursion (Plain L N) (change L C s t n)
  change_plain t n early low = by (eqb (L.code (level L C s n t)) (L.code (level_before L C s n t)))
    where
      by : (b : Bool) → AllByRecursion (Plain L N) (cond b [] (record { tick = t; net = n; code = L.code (level L C s n t) } ∷ []))
      by true = tt
      by false = (record { tick_small = early; net_small = low; code_small = laws.code_fits (level L C s n t); value = level L C s n t; has_value = laws.code_back (level L C s n t) }, tt)

  tick_plain : (t : ℕ) → t < 16777216 → AllByRecursion (λ n. n < 1024) C.watches → AllByRecursion (Plain L N) (changes_at L C s t)
  tick_plain t early low = all_joined (Plain L N) (change L C s t) C.watches (All-weaker (λ n. n < 1024) (λ n. AllByRecursion (Plain L N) (change L C s t n)) (λ n lt. change_plain t n early lt) C.watches low)

  watches_low : WellFormed C → AllByRecursion (λ n. n < 1024) C.watches
  watches_low wf = All-from_get_or (λ n. n < 1024) C.watches 0 (λ i lt. omega (arith, wf.below i lt, wf.nets))

  -- an advance that is not refused does not pass the last tick
  pub in_time : (k m : ℕ) → refusal L C s (advance k m) ≡ None → s.ticks + k ≤ 16777216
  in_time k m e = ltb-false 16777216 (s.ticks + k) (by (not s.fit) (eqb k 0) (ltb most_ticks (s.ticks + k)) refl e)
    where
      by : (a b c : Bool) → ltb most_ticks (s.ticks + k) ≡ c → first_of ((a, 16) ∷ (b, 19) ∷ (c, 20) ∷ (ltb m (tick_room L C), 21) ∷ []) ≡ None → ltb most_ticks (s.ticks + k) ≡ false
      by true b c q f = absurd (let z : ◌≡◌ {A = ℕ} 0 1 = cc in omega arith)
      by false true c q f = absurd (let z : ◌≡◌ {A = ℕ} 0 1 = cc in omega arith)
      by false false true q f = absurd (let z : ◌≡◌ {A = ℕ} 0 1 = cc in omega arith)
      by false false false q f = q

  pub written_plain : WellFormed C → (k : ℕ) → s.ticks + k ≤ 16777216 → AllByRecursion (Plain L N) (written L C s k most_trace)
  written_plain wf k early =
      let few = (stops laws C s k most_trace).most in
      all_joined (Plain L N) (changes_at L C s) (range_with_len s.ticks (completes L C s k s.ticks most_trace))
      (counting_all (λ t. AllByRecursion (Plain L N) (changes_at L C s t)) s.ticks (completes L C s k s.ticks most_trace) (λ t p q. tick_plain t (omega arith) (watches_low wf)))

  pub written_few : (k : ℕ) → length (written L C s k most_trace) ≤ 2048
  written_few k = let fits = (stops laws C s k most_trace).fits in omega arith

  -- 40,000 bytes have room for the answer of an advance
  pub advance_short : NamingLaws N → WellFormed C → (k : ℕ) → s.ticks + k ≤ 16777216 →
      length (flat_map (change_text L N) (written L C s k most_trace) ++ done_text (completes L C s k s.ticks most_trace)) ≤ 40000
  advance_short spelling wf k early =
      let lines = lines_short L N spelling (written L C s k most_trace) (written_plain wf k early) in
      let few = written_few k in
      let most = (stops laws C s k most_trace).most in
      let ticks = completes L C s k s.ticks most_trace in
      let d = length-decimal-le 8 (completes L C s k s.ticks most_trace) (omega arith) (omega arith) (omega arith) in
      let a = length-append (flat_map (change_text L N) (written L C s k most_trace)) (done_text (completes L C s k s.ticks most_trace)) in
      let b = length-append (decimal (completes L C s k s.ticks most_trace)) (10 ∷ []) in
      omega arith
