-- What every calendar's meaning obeys, whatever structure holds it. Assumes nothing.
use Rattle.std.specs.Prelude.{◌≡◌, ℕ, ◌+◌, ◌<◌, ◌≤◌, true, cond, ◌&&◌, List, ◌∷◌, length, Some, None, ◌==◌, nat_le, slice_index_or}
use Rattle.calendar.specs.declared.entry.Entry.{Entry}
use Rattle.calendar.specs.Agenda.{Agenda, entry, same_slot, slot_before, put_refused, put_after, first_tick, sound}
use Rattle.calendar.specs.Table.{code_at, later}

-- the entry at place i
abbrev pub at : List Entry → ℕ → Entry
at w i = slice_index_or w i (entry 0 0 0)

pub record Laws (a : Agenda) : Type 0 where
  -- entries stand in order of tick, then gate
  pub ordered : (i j : ℕ) → i < j → j < length a.waiting → slot_before (at a.waiting i) (at a.waiting j) ≡ true
  -- no tick and gate stand twice
  pub once : (i j : ℕ) → i < length a.waiting → j < length a.waiting → same_slot (at a.waiting i) (at a.waiting j) ≡ true → i ≡ j
  -- each entry is of a gate, for now or one of the 64 ticks after
  pub timely : (i : ℕ) → i < length a.waiting → (a.today ≤ (at a.waiting i).tick) × ((at a.waiting i).tick ≤ a.today + 64) × ((at a.waiting i).gate < a.gates)
  -- there is room for all of them
  pub roomy : length a.waiting ≤ a.capacity
  -- after a put the new code waits, and every other as before
  pub put_adds : (e : Entry) → put_refused a e ≡ None → (t g : ℕ) → code_at t g (put_after a e).waiting ≡ cond (e.tick == t && e.gate == g) (Some e.code) (code_at t g a.waiting)
  -- a take answers a code that waits; after it that one is gone, and every other waits as before
  pub take_answers : (e : Entry) (w : List Entry) → a.waiting ≡ e ∷ w → code_at e.tick e.gate a.waiting ≡ Some e.code
  pub take_removes : (e : Entry) (w : List Entry) → a.waiting ≡ e ∷ w → (t g : ℕ) → code_at t g w ≡ cond (e.tick == t && e.gate == g) None (code_at t g a.waiting)
  -- once all that is due by a tick is taken, what waits for later ticks is as before
  pub drained : (n t g : ℕ) → code_at t g (later n a.waiting) ≡ cond (nat_le t n) None (code_at t g a.waiting)
  -- next is a tick that something waits for, nothing waits before it, and none means that nothing waits
  pub next_waits : (n : ℕ) → first_tick a.waiting ≡ Some n → (g : ℕ) × ((c : ℕ) × (code_at n g a.waiting ≡ Some c))
  pub next_earliest : (n : ℕ) → first_tick a.waiting ≡ Some n → (t g : ℕ) → t < n → code_at t g a.waiting ≡ None
  pub next_none : first_tick a.waiting ≡ None → (t g : ℕ) → code_at t g a.waiting ≡ None
  -- the codes that wait tell the whole list
  pub told : (b : Agenda) → sound b ≡ true → ((t g : ℕ) → code_at t g a.waiting ≡ code_at t g b.waiting) → a.waiting ≡ b.waiting
