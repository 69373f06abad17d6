-- Which gates a net's level reaches.
use Rattle.std.proofs.Common.{◌≡◌, ℕ, zero, suc, ◌+◌, ◌-◌, ◌<◌, ◌≤◌, Bool, true, false, cond, ◌||◌, eqb, List, [], ◌∷◌, get_or, set, Some, sym, refl, ap, ◌∙◌, ⊎_elim, arith, get_or-set_other}
use Rattle.std.specs.Bool.{then_some}
use Rattle.std.specs.List.{range_with_len, filter, list_any}
use Rattle.std.proofs.lemmas.Bool.{cases_eq, cases_Bool, both_ways, eq-eqb}
use Rattle.logic.specs.Logic.{Logic}
use Rattle.netlist.specs.Board.{Board}
use Rattle.netlist.specs.Kinds.{kind_number, reads_a, reads_b}
use Rattle.netlist.specs.declared.gate.GateKind.{GateKind}
use Rattle.netlist.specs.declared.gate.GateKind.TheVariants.{Buffer, Not, And, Or, Xor, Nand, Nor, Xnor, Tri, PullUp, PullDown}
use Rattle.number_set.specs.Members.{member}
use Rattle.signal.specs.Circuit.{gate, gate_count, operate}
use Rattle.tick.specs.Plans.{result_at}
use Rattle.fanout.specs.declared.pin.Pin.{Pin}
use Rattle.fanout.specs.declared.pin.Pin.TheVariants.{First, Second}
use Rattle.fanout.specs.Seek.{same_net, net_at, meets, gates_at}

-- a kind's result follows from the pins that it uses
operate_same : {V : Type 0} (L : Logic V) (k : GateKind) (a a' b b' : V) → (reads_a k ≡ true → a ≡ a') → (reads_b k ≡ true → b ≡ b') → operate L (kind_number k) a b ≡ operate L (kind_number k) a' b'
operate_same L Buffer a a' b b' f g = ap (λ x. L.and x x) (f refl)
operate_same L Not a a' b b' f g = ap L.not (f refl)
operate_same L And a a' b b' f g = λ i. L.and (f refl i) (g refl i)
operate_same L Or a a' b b' f g = λ i. L.or (f refl i) (g refl i)
operate_same L Xor a a' b b' f g = λ i. L.xor (f refl i) (g refl i)
operate_same L Nand a a' b b' f g = λ i. L.not (L.and (f refl i) (g refl i))
operate_same L Nor a a' b b' f g = λ i. L.not (L.or (f refl i) (g refl i))
operate_same L Xnor a a' b b' f g = λ i. L.not (L.xor (f refl i) (g refl i))
operate_same L Tri a a' b b' f g = λ i. L.tri (f refl i) (g refl i)
operate_same L PullUp a a' b b' f g = refl
operate_same L PullDown a a' b b' f g = refl

-- a gate that meets the net at neither input gives what it gave
pub reads_other : {V : Type 0} (L : Logic V) (C : Board) (levels : List V) (n : ℕ) (v : V) (g : ℕ) → (net_at C First g ≡ Some n → ⊥) → (net_at C Second g ≡ Some n → ⊥) → result_at L C (set levels n v) g ≡ result_at L C levels g
reads_other L C levels n v g first second =
    let x = gate C g in
    operate_same L x.kind (get_or (set levels n v) x.a L.unset) (get_or levels x.a L.unset) (get_or (set levels n v) x.b L.unset) (get_or levels x.b L.unset)
    (λ on. get_or-set_other levels n x.a v L.unset (λ e. first (ap (λ b. then_some b x.a) on ∙ ap Some e)))
    (λ on. get_or-set_other levels n x.b v L.unset (λ e. second (ap (λ b. then_some b x.b) on ∙ ap Some e)))

abbrev pub has : List ℕ → ℕ → Bool
has gs h = list_any (λ g. eqb h g) gs

or_right : (b : Bool) → (b || true) ≡ true
or_right true = refl
or_right false = refl

has_behind : (b : Bool) (h i : ℕ) (gs : List ℕ) → has gs h ≡ true → has (cond b (i ∷ gs) gs) h ≡ true
has_behind true h i gs is = ap (λ c. eqb h i || c) is ∙ or_right (eqb h i)
has_behind false h i gs is = is

has_passing : (test : ℕ → Bool) (h i m : ℕ) → test h ≡ true → i ≤ h → h < i + m → has (filter test (range_with_len i m)) h ≡ true
has_passing test h i zero e le low = absurd (omega arith)
has_passing test h i (suc m) e le low =
    let gs = filter test (range_with_len (i + 1) m) in
    ⊎_elim
    (λ same. ap (λ b. has (cond b (i ∷ gs) gs) h) (ap test (sym same) ∙ e) ∙ ap (λ b. b || has gs h) (eq-eqb h i same))
    (λ ne. has_behind (test i) h i gs (has_passing test h (i + 1) m e (omega arith) (omega arith)))
    (cases_eq h i)

-- a gate that meets the net stands in the net's chain
pub in_chain : (C : Board) (p : Pin) (n h : ℕ) → h < gate_count C → net_at C p h ≡ Some n → has (gates_at C p n) h ≡ true
in_chain C p n h lt e = has_passing (meets C p (Some n)) h 0 (gate_count C - 0) (ap (λ o. same_net o (Some n)) e ∙ eq-eqb n n refl) (omega arith) (omega arith)

-- of the gates `all` those that are left are not marked yet
pub record Marks (all old now left : List ℕ) : Type 0 where
  pub kept : (h : ℕ) → h < 1024 → member old h ≡ true → member now h ≡ true
  pub done : (h : ℕ) → h < 1024 → has all h ≡ true → member now h ≡ false → has left h ≡ true

pub marks_none : (all old : List ℕ) → (left : List ℕ) → left ≡ all → Marks all old old left
marks_none all old left e = record { kept = λ h lt m. m; done = λ h lt in' off. ap (λ gs. has gs h) e ∙ in' }

pub marks_more : (all old now new left rest : List ℕ) (g : ℕ) → left ≡ g ∷ rest → ((m : ℕ) → m < 1024 → member new m ≡ cond (eqb m g) true (member now m)) → Marks all old now left → Marks all old new rest
marks_more all old now new left rest g e sets s = record {
  kept = λ h lt m. sets h lt ∙ stays (eqb h g) (member now h) (s.kept h lt m);
  done = λ h lt in' off. let o = both_off (eqb h g) (member now h) (sym (sets h lt) ∙ off) in sym (ap (λ b. b || has rest h) o.0) ∙ sym (ap (λ gs. has gs h) e) ∙ s.done h lt in' o.1;
}
  where
    stays : (c b : Bool) → b ≡ true → cond c true b ≡ true
    stays true b e = refl
    stays false b e = e

    both_off : (c b : Bool) → cond c true b ≡ false → (c ≡ false) × (b ≡ false)
    both_off true b e = absurd (both_ways true e refl)
    both_off false b e = (refl, e)

pub marks_all : (all old now left : List ℕ) → left ≡ [] → Marks all old now left → (h : ℕ) → h < 1024 → has all h ≡ true → member now h ≡ true
marks_all all old now left none s h lt in' = ⊎_elim
    (λ on. on)
    (λ off. absurd (both_ways (has left h) (ap (λ gs. has gs h) none) (s.done h lt in' off)))
    (cases_Bool (member now h))
