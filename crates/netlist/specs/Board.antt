-- A netlist, what makes it well formed, and the file that writes it down.
use Rattle.std.specs.Prelude.{◌≡◌, ℕ, ◌+◌, ◌/◌, ◌%◌, ◌<◌, ◌≤◌, true, ◌⊎◌, List, [], ◌∷◌, ◌++◌, length, sum_by, slice_index, slice_index_or}
use Rattle.std.specs.List.{flat_map}
use Rattle.netlist.specs.Kinds.{kind_number}
use Rattle.netlist.specs.Parts.{blank, is_output}
use Rattle.netlist.specs.File.{word, gates_of, watches_of}
use Rattle.netlist.specs.declared.gate.Gate.{Gate}

-- nets are the numbers below `nets`, ports those below `ports`; gates stand in file order
pub record Board : Type 0 where
  pub nets : ℕ
  pub ports : ℕ
  pub gates : List Gate
  pub watches : List ℕ

-- a gate of a netlist of n nets: its nets and its delay are in range, and an input that its kind does not use is 0
pub record Good (n : ℕ) (g : Gate) : Type 0 where
  pub a_below : g.a < n
  pub b_below : g.b < n
  pub out_below : g.out < n
  pub one_input : kind_number g.kind < 3 → g.b ≡ 0
  pub no_input : 9 < kind_number g.kind → (g.a ≡ 0) × (g.b ≡ 0)
  pub delay_low : 1 ≤ g.delay
  pub delay_high : g.delay ≤ 64

-- the rules of a netlist: counts in range, good gates, a rising watch list, and every net a port or an output
pub record WellFormed (b : Board) : Type 0 where
  pub some : 1 ≤ b.nets
  pub nets : b.nets ≤ 1024
  pub ports : b.ports ≤ b.nets
  pub gates : length b.gates ≤ 1024
  pub watched : 1 ≤ length b.watches
  pub watches : length b.watches ≤ b.nets
  pub good : (g : ℕ) → g < length b.gates → Good b.nets (slice_index_or b.gates g blank)
  pub below : (i : ℕ) → i < length b.watches → slice_index b.watches i < b.nets
  pub rising : (i : ℕ) → i + 1 < length b.watches → slice_index b.watches i < slice_index b.watches (i + 1)
  pub driven : (n : ℕ) → n < b.nets → (n < b.ports) ⊎ (is_output b.gates n ≡ true)

-- 16 bits, the high byte first
abbrev pub pair : ℕ → List ℕ
pair w = w / 256 ∷ (w % 256 ∷ [])

-- a record of 9 bytes
abbrev pub gate_bytes : Gate → List ℕ
gate_bytes g = kind_number g.kind ∷ (pair g.a ++ (pair g.b ++ (pair g.out ++ pair g.delay)))

-- the mark, version 1 and the four counts
abbrev pub head_bytes : Board → List ℕ
head_bytes b = 0x4e ∷ (0x4c ∷ (0x42 ∷ (pair 1 ++ (pair b.nets ++ (pair b.ports ++ (pair (length b.gates) ++ pair (length b.watches)))))))

-- the file of a netlist
abbrev pub encoded : Board → List ℕ
encoded b = head_bytes b ++ (flat_map gate_bytes b.gates ++ flat_map pair b.watches)

-- the ticks of delay of all the gates
abbrev pub total_delay : Board → ℕ
total_delay b = sum_by (λ g. g.delay) b.gates

-- the netlist of a file
abbrev pub board_of : List ℕ → Board
board_of f = record { nets = word f 5; ports = word f 7; gates = gates_of f; watches = watches_of f }
