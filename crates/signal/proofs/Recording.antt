-- A trace has a record of each change and of nothing else, in order; and where an advance stops.
use Rattle.std.proofs.Common.{◌≡◌, ℕ, zero, suc, ◌+◌, ◌-◌, ◌*◌, ◌<◌, ◌≤◌, Bool, true, false, cond, eqb, List, [], ◌∷◌, ◌++◌, length, sym, refl, ap, ◌∙◌, subst, inl, inr, ⊎_elim, arith}
use Rattle.std.specs.List.{range_with_len, flat_map, ContainsAt as Has, AllByRecursion}
use Rattle.std.proofs.lemmas.List.{length-append}
use Rattle.std.proofs.ByRecursion.{All-weaker, all-has, all_has_itself, has_append_left, has_append_right, has_push}
use Rattle.std.proofs.lemmas.Bool.{eqb-false, ne_eqb, cases_lt}
use Rattle.logic.specs.Logic.{Logic, Laws}
use Rattle.netlist.specs.Board.{Board}
use Rattle.signal.specs.Calls.{State, Change, level, level_before, change, changes_at, completes, tick_room}
use Rattle.signal.specs.Laws.{Life, reached}
use Rattle.signal.specs.Ordered.{Ordered}
use Rattle.signal.specs.Traces.{Earlier, Recorded, TracesExact, Stops, TracesTold}
use Rattle.signal.proofs.Rows.{counting_all}
use Rattle.signal.proofs.Ordering.{all_joined, ordered_joined, across}
use Rattle.signal.proofs.Lives.{whole, wrote_life}
use Rattle.signal.proofs.Advancing.{length_bytes, tick_fits, completes_stop, completes_go}
use Rattle.signal.proofs.Decoding.{Up, up_from, rising_all}
use Rattle.signal.proofs.Exactly.{has_joined}
use Rattle.signal.proofs.Inputs.{past_stands}

-- ---- joined lists
module _ {X A : Type 0} (f : X → List A) where
  joined_has : (y : A) (xs : List X) → AllByRecursion (λ x. Has (f x) y → Has (flat_map f xs) y) xs
  joined_has y [] = tt
  joined_has y (x ∷ xs) = (
    has_append_left (f x) (flat_map f xs) y,
    All-weaker (λ z. Has (f z) y → Has (flat_map f xs) y) (λ z. Has (f z) y → Has (f x ++ flat_map f xs) y) (λ z h k. has_append_right (f x) (flat_map f xs) y (h k)) xs (joined_has y xs),
  )

module _ {V : Type 0} {L : Logic V} (laws : Laws L) (C : Board) (s : State V) where
  made : ℕ → ℕ → Change
  made t n = record { tick = t; net = n; code = L.code (level L C s n t) }

  still : ℕ → ℕ → Bool
  still t n = eqb (L.code (level L C s n t)) (L.code (level_before L C s n t))

  -- what holds of the record of each change holds of all that a net writes
  change_all : (P : Change → Type 0) (t n : ℕ) → (still t n ≡ false → P (made t n)) → AllByRecursion P (change L C s t n)
  unfolding still made
  change_all P t n h = by (still t n) refl
    where
      by : (b : Bool) → still t n ≡ b → AllByRecursion P (cond b [] (made t n ∷ []))
      by true e = tt
      by false e = (h e, tt)

  -- ---- by tick, then net
  row_push : (t w : ℕ) (ws : List ℕ) → AllByRecursion (λ v. w < v) ws → Ordered Earlier (flat_map (change L C s t) ws) → (b : Bool) → Ordered Earlier (cond b [] (made t w ∷ []) ++ flat_map (change L C s t) ws)
  unfolding made
  row_push t w ws up rest true = rest
  row_push t w ws up rest false = (
    all_joined (change L C s t) (Earlier (made t w)) ws (All-weaker (λ v. w < v) (λ v. AllByRecursion (Earlier (made t w)) (change L C s t v))
        (λ v lt. change_all (Earlier (made t w)) t v (λ _. inr (refl, lt))) ws up),
    rest,
  )

  row_ordered : (t : ℕ) (ws : List ℕ) → Up ws → Ordered Earlier (flat_map (change L C s t) ws)
  unfolding made still
  row_ordered t [] up = tt
  row_ordered t (w ∷ ws) up = row_push t w ws up.0 (row_ordered t ws up.1) (still t w)

  row_tick : (P : ℕ → Type 0) (t : ℕ) → P t → AllByRecursion (λ (x : Change). P x.tick) (changes_at L C s t)
  unfolding made
  row_tick P t h = all_joined (change L C s t) (λ (x : Change). P x.tick) C.watches
      (All-weaker (Has C.watches) (λ n. AllByRecursion (λ (x : Change). P x.tick) (change L C s t n)) (λ n _. change_all (λ (x : Change). P x.tick) t n (λ _. h)) C.watches (all_has_itself C.watches))

  ticks_ordered : Up C.watches → (m : ℕ) → Ordered Earlier (flat_map (changes_at L C s) (range_with_len 0 m))
  ticks_ordered up m = ordered_joined Earlier (changes_at L C s) 0 m (λ t. row_ordered t C.watches up)
      (λ t u lt. across Earlier (λ (x : Change). x.tick ≡ t) (λ (y : Change). y.tick ≡ u) (changes_at L C s t) (changes_at L C s u)
      (λ x y p q. inl (omega (arith, p, q))) (row_tick (λ v. v ≡ t) t refl) (row_tick (λ v. v ≡ u) u refl))

  -- ---- where an advance stops
  -- the bytes of m ticks from t on
  size : ℕ → ℕ → ℕ
  size t m = 8 * length (flat_map (changes_at L C s) (range_with_len t m))

  size_more : (t m : ℕ) → size t (suc m) ≡ 8 * length (changes_at L C s t) + size (t + 1) m
  unfolding size
  size_more t m = omega (arith, length-append (changes_at L C s t) (flat_map (changes_at L C s) (range_with_len (t + 1) m)))

  abbrev Stopped : ℕ → ℕ → ℕ → ℕ → Type 0
  Stopped t k room m =
      (m ≤ k) × (size t m ≤ room) × ((i : ℕ) → i < m → tick_room L C ≤ room - size t i) × (m < k → room - size t m < tick_room L C)

  size_none : (t : ℕ) → size t 0 ≡ 0
  unfolding size
  size_none t = refl

  stop_short : (k t room : ℕ) → room < tick_room L C → Stopped t (suc k) room (completes L C s (suc k) t room)
  stop_short k t room h =
      let none = size_none t in
      subst (Stopped t (suc k) room) (sym (completes_stop L C s (suc k) t room h)) (omega arith, omega arith, λ i lt. absurd (omega arith), λ _. omega arith)

  -- one tick more, and the others in the room that it leaves
  stop_turns : (t room m : ℕ) → tick_room L C ≤ room → ((i : ℕ) → i < m → tick_room L C ≤ room - 8 * length (changes_at L C s t) - size (t + 1) i) →
      (i : ℕ) → i < suc m → tick_room L C ≤ room - size t i
  stop_turns t room m h later zero lt = omega (arith, size_none t)
  stop_turns t room m h later (suc i) lt = omega (arith, later i (omega arith), size_more t i)

  stop_enough : (k t room : ℕ) → Stopped (t + 1) k (room - 8 * length (changes_at L C s t)) (completes L C s k (t + 1) (room - 8 * length (changes_at L C s t))) → tick_room L C ≤ room →
      Stopped t (suc k) room (completes L C s (suc k) t room)
  stop_enough k t room rest h =
      let m = completes L C s k (t + 1) (room - 8 * length (changes_at L C s t)) in
      let more = size_more t m in
      let fit = tick_fits L C s t in
      let few = rest.0 in
      let fits = rest.1 in
      subst (Stopped t (suc k) room) (sym (completes_go L C s k t room h))
      (omega arith, omega arith, stop_turns t room m h rest.2, λ lt. omega (arith, rest.3 (omega arith)))

  stopped : (k t room : ℕ) → Stopped t k room (completes L C s k t room)
  stopped zero t room = let none = size_none t in (omega arith, omega arith, λ i lt. absurd (omega arith), λ lt. absurd (omega arith))
  stopped (suc k) t room = ⊎_elim (stop_short k t room) (stop_enough k t room (stopped k (t + 1) (room - 8 * length (changes_at L C s t)))) (cases_lt room (tick_room L C))

  pub stops : (k room : ℕ) → Stops L C s k room (completes L C s k s.ticks room)
  unfolding size
  stops k room = let all = stopped k s.ticks room in record { most = all.0; fits = all.1; free = all.2; full = all.3 }

module _ {V : Type 0} {L : Logic V} (laws : Laws L) where
  told : (r : Life) → AllByRecursion (Recorded L r) (flat_map (changes_at L r.board (reached L r)) (range_with_len 0 (reached L r).ticks))
  unfolding made still
  told r =
      let C = r.board in
      let s = reached L r in
      all_joined (changes_at L C s) (Recorded L r) (range_with_len 0 s.ticks) (counting_all (λ t. AllByRecursion (Recorded L r) (changes_at L C s t)) 0 s.ticks
      (λ t _ lt. all_joined (change L C s t) (Recorded L r) C.watches (All-weaker (Has C.watches) (λ n. AllByRecursion (Recorded L r) (change L C s t n))
      (λ n watched. change_all laws C s (Recorded L r) t n (λ off. record {
        completed = omega arith;
        watched = watched;
        differs = λ e. eqb-false (L.code (level L C s n t)) (L.code (level_before L C s n t)) off (ap L.code e);
        coded = refl;
      })) C.watches (all_has_itself C.watches))))

  written : (r : Life) (x : Change) → Recorded L r x → Has (flat_map (changes_at L r.board (reached L r)) (range_with_len 0 (reached L r).ticks)) x
  unfolding made still
  written r x h =
      let C = r.board in
      let s = reached L r in
      let t = x.tick in
      let n = x.net in
      let off : still laws C s t n ≡ false = ne_eqb (L.code (level L C s n t)) (L.code (level_before L C s n t)) (λ e. h.differs (laws.code_equal (level L C s n t) (level_before L C s n t) e)) in
      let is : made laws C s t n ≡ x = ap (λ c. record { tick = t; net = n; code = c }) (sym h.coded) in
      let single : Has (made laws C s t n ∷ []) x = subst (Has (made laws C s t n ∷ [])) is (has_push [] (made laws C s t n)) in
      let here : Has (change L C s t n) x = subst (λ b. Has (cond b [] (made laws C s t n ∷ [])) x) (sym off) single in
      has_joined (changes_at L C s) 0 s.ticks t x (omega arith) (omega (arith, h.completed))
      (all-has (λ m. Has (change L C s t m) x → Has (changes_at L C s t) x) C.watches n (joined_has (change L C s t) x C.watches) h.watched here)

  trace_of : TracesExact L
  trace_of r =
      let C = r.board in
      let s = reached L r in
      let w = whole laws C r.fit r.calls in
      let bytes = wrote_life L C r.fit r.calls in
      let all = flat_map (changes_at L C s) (range_with_len 0 s.ticks) in
      record {
        bytes = bytes;
        long = ap length bytes ∙ length_bytes s.changes;
        exactly = λ x. (
          λ h. all-has (Recorded L r) s.changes x (subst (AllByRecursion (Recorded L r)) (sym w.told) (told r)) h,
          λ h. subst (λ l. Has l x) (sym w.told) (written r x h),
        );
        ordered = subst (Ordered Earlier) (sym w.told) (ticks_ordered laws C s (up_from C.watches (rising_all C.watches r.well_formed.rising)) s.ticks);
        bounded = w.early;
      }

  pub traces_told : TracesTold L
  traces_told = record { traces = trace_of; stops = λ C s k room. stops laws C s k room; past = past_stands laws }
