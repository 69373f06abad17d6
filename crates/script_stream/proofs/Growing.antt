-- Known bytes that grow. Assumes nothing.
use Rattle.std.proofs.Common.{ℕ, List, [], ◌++◌, Some, None, Option, Result, Ok, Err, OnOk, sym, ap, ◌∙◌, append-nil, append_assoc}
use Rattle.std.specs.Io.KnownBytes.{Appends, Keeps}
use Rattle.script_stream.specs.Verdicts.{Grows}

pub grows_same : (a : Option (List ℕ)) → Grows a a
grows_same None = ([], tt)
grows_same (Some xs) = ([], sym (append-nil xs))

pub grows_kept : (a b : Option (List ℕ)) → Keeps a b → Grows a b
grows_kept None b k = ([], tt)
grows_kept (Some xs) None k = absurd k
grows_kept (Some xs) (Some ys) k = ([], k ∙ sym (append-nil xs))

pub grows_then : (a b c : Option (List ℕ)) → Grows a b → Grows b c → Grows a c
grows_then None b c f g = ([], tt)
grows_then (Some xs) None c f g = absurd f.1
grows_then (Some xs) (Some ys) None f g = absurd g.1
grows_then (Some xs) (Some ys) (Some zs) f g = (f.0 ++ g.0, g.1 ∙ ap (λ z. z ++ g.0) f.1 ∙ append_assoc xs f.0 g.0)

-- a line behind what grew, and no byte after it
pub grows_line : (a b c d : Option (List ℕ)) (line : List ℕ) → Grows a b → Appends b c line → Keeps c d → (front : List ℕ) × Appends a d (front ++ line)
grows_line None b c d line f w k = ([], tt)
grows_line (Some xs) None c d line f w k = absurd f.1
grows_line (Some xs) (Some ys) None d line f w k = absurd w
grows_line (Some xs) (Some ys) (Some zs) None line f w k = absurd k
grows_line (Some xs) (Some ys) (Some zs) (Some us) line f w k = (f.0, k ∙ w ∙ ap (λ l. l ++ line) f.1 ∙ append_assoc xs f.0 line)

-- what holds anyway holds where the answer is Ok
pub on_ok : {T E : Type 0} (r : Result T E) (P : Type 0) → P → OnOk r P
on_ok (Ok x) P p = p
on_ok (Err e) P p = tt
