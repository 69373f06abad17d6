-- What a line of a script does and answers, by the signal definition.
use Rattle.std.specs.Prelude.{◌≡◌, ℕ, ◌-◌, Bool, true, false, ◌&&◌, List, [], ◌++◌, length, drop, Some, None, Ok, Err, Option, Result, ◌==◌, nat_le}
use Rattle.std.specs.List.{flat_map}
use Rattle.std.specs.Option.{option_map}
use Rattle.logic.specs.declared.family.Family.{Ghosts as Family}
use Rattle.logic.specs.declared.named.Named.{Ghosts as Named}
use Rattle.logic.specs.Logic.{Logic}
use Rattle.logic.specs.Naming.{Naming}
use Rattle.calendar.specs.declared.calendar.Calendar.{Ghosts as Calendar}
use Rattle.netlist.specs.Board.{Board}
use Rattle.signal.specs.Calls.{State, Call, Change, wake, drive, advance, read, wrote, level, written, completes, refusal, after, answer}
use Rattle.run.specs.declared.state.Run.{Run}
use Rattle.run.specs.Calls.{Has}
use Rattle.script_text.specs.declared.command.Command.{Command}
use Rattle.script_text.specs.declared.command.Command.TheVariants.{Wake, Drive, Advance, Read}
use Rattle.script_text.specs.Commands.{command}
use Rattle.script_text.specs.Laid.{Wrote}
use Rattle.script_text.specs.Texts.{ok_text, done_text, fault_text, level_text, record_text}
use Rattle.script.specs.Faults.{Note, noted}
use Rattle.script.specs.declared.fault.ScriptFault.{ScriptFault}
use Rattle.script.specs.declared.fault.ScriptFault.TheVariants.{SmallBuffers}

abbrev pub most_trace : ℕ
most_trace = 16384

-- the buffers have the lengths that a script needs
abbrev pub roomy : List ℕ → List ℕ → Bool
roomy out trace = nat_le 40000 (length out) && length trace == most_trace

-- the call that a command makes
abbrev pub call_of : Command → Call
call_of (Wake g c) = wake g c
call_of (Drive p c) = drive p c
call_of (Advance k) = advance k most_trace
call_of (Read n) = read n

abbrev pub note_text : Note → List ℕ
note_text n = fault_text n.line n.number n.letter n.place

-- a trace buffer with bytes at its front, and the rest as it was
abbrev pub fronted : List ℕ → List ℕ → List ℕ
fronted trace bytes = bytes ++ drop (length bytes) trace

-- a record of the trace, as a line
abbrev pub change_text : {V : Type 0} → Logic V → Naming V → Change → List ℕ
change_text L N c = record_text L N c.tick c.net c.code

module _ {V : Type 0} (L : Logic V) (N : Naming V) (C : Board) (s : State V) where
  -- what a command answers that is not refused
  abbrev pub granted : Command → List ℕ
  granted (Wake g c) = ok_text
  granted (Drive p c) = ok_text
  granted (Advance k) = flat_map (change_text L N) (written L C s k most_trace) ++ done_text (completes L C s k s.ticks most_trace)
  granted (Read n) = level_text L N (L.code (level L C s n (s.ticks - 1))) (L.definite (level L C s n (s.ticks - 1)))

  -- the fault of a command at a line, if the run refuses it
  abbrev pub fault_of : ℕ → Command → Option Note
  fault_of line c = option_map (λ n. record { line = line; number = n; letter = 114; place = s.ticks }) (refusal L C s (call_of c))

  -- the fault of a line; 25 where it is no command
  abbrev pub line_fault : ℕ → Option Command → Option Note
  line_fault line None = Some (record { line = line; number = 25; letter = 115; place = line })
  line_fault line (Some c) = fault_of line c

  -- the text that answers a line
  abbrev pub line_text : ℕ → Option Command → List ℕ
  line_text line None = fault_text line 25 115 line
  line_text line (Some c) = elim (fault_of line c) [ Some n ↦ note_text n | None ↦ granted c ]

  -- what the run has come to behind a line
  abbrev pub line_after : Option Command → State V
  line_after None = s
  line_after (Some c) = after L C s (call_of c)

  -- what a line writes into the trace buffer
  abbrev pub line_wrote : Option Command → List ℕ
  line_wrote None = []
  line_wrote (Some c) = wrote (answer L C s (call_of c))

  -- the answer of a command: the fault, or the count of what is written
  abbrev pub Replies : ℕ → Command → List ℕ → List ℕ → Result ℕ ScriptFault → Type 0
  Replies line c out out' (Ok n) = (fault_of line c ≡ None) × Wrote out 0 (granted c) n out'
  Replies line c out out' (Err e) = fault_of line c ≡ Some (noted e)

module _ {F D V : Type 0} (f : Family F V) (n : Named F V) (c : Calendar D) where
  -- a command: what it answers and leaves for every state that the run has come to; a refusal leaves all as it was
  pub record Obeys (line : ℕ) (k : Command) (x : Run F D V f c) (out trace : List ℕ) (y : Run F D V f c) (out' trace' : List ℕ) (r : Result ℕ ScriptFault) : Type 0 where
    pub goes_on : (C : Board) (s : State V) → Has f c C s x → Has f c C (after f.logic C s (call_of k)) y
    pub replies : (C : Board) (s : State V) → Has f c C s x → Replies f.logic n.naming C s line k out out' r
    pub traces : (C : Board) (s : State V) → Has f c C s x → trace' ≡ fronted trace (wrote (answer f.logic C s (call_of k)))
    pub unchanged : (e : ScriptFault) → r ≡ Err e → (y ≡ x) × (out' ≡ out) × (trace' ≡ trace)

  -- A line, for every state that the run has come to: the run goes on by its call, the answer is written from the start of the output
  -- buffer and its bytes are counted, the fault is the definition's, and the trace buffer has the advance's bytes at its front.
  pub record LineAnswered (C : Board) (s : State V) (line : List ℕ) (number : ℕ) (out trace : List ℕ) (y : Run F D V f c) (out' trace' : List ℕ) (r : ℕ × Option ScriptFault) : Type 0 where
    pub goes_on : Has f c C (line_after f.logic n.naming C s (command f.logic n.naming line)) y
    pub text : Wrote out 0 (line_text f.logic n.naming C s number (command f.logic n.naming line)) r.0 out'
    pub fault : option_map noted r.1 ≡ line_fault f.logic n.naming C s number (command f.logic n.naming line)
    pub traces : trace' ≡ fronted trace (line_wrote f.logic n.naming C s (command f.logic n.naming line))

  pub record Answered (x : Run F D V f c) (line : List ℕ) (number : ℕ) (out trace : List ℕ) (y : Run F D V f c) (out' trace' : List ℕ) (r : ℕ × Option ScriptFault) : Type 0 where
    -- 24: nothing is written
    pub small : roomy out trace ≡ false → (r ≡ (0, Some (SmallBuffers number))) × (out' ≡ out)
    pub answered : roomy out trace ≡ true → (C : Board) (s : State V) → Has f c C s x → LineAnswered C s line number out trace y out' trace' r
    -- a refused line alters nothing but the output buffer
    pub unchanged : (e : ScriptFault) → r.1 ≡ Some e → (y ≡ x) × (trace' ≡ trace)
