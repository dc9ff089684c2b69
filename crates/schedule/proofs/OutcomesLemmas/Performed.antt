-- The state of a replay after a command's note was added.
use Rattle.std.proofs.Common.{◌≡◌, ℕ, List, [], ◌∷◌, ◌++◌, Option, Some, None, Result, Ok, Err, sym, ◌∙◌}
use Rattle.std.proofs.lemmas.Option.{none-some, same_Some}
use Rattle.schedule.specs.declared.command.Note.{Note}
use Rattle.schedule.specs.declared.command.Word.{Word}
use Rattle.schedule.specs.Meaning.{Run, State, noted}
use Rattle.schedule.specs.Outcomes.Performed.{HasDone}

-- the replay is as far as the state, and so are its notes
pub record IsNext (IsFar : Run → Type 0) (s : State) (notes : List Note) : Type 0 where
  pub far : IsFar s.run
  pub same : notes ≡ s.notes

-- after a command that left a note
pub noted_next : (IsFar : Run → Type 0) (s : State) (line : ℕ) (word : Word) (answer : Option Word) (acted : Result Run Word) (notes : List Note) → HasDone IsFar s.run (Ok answer) acted → answer ≡ Some word → notes ≡ s.notes
    → IsNext IsFar (noted s line acted) (notes ++ record { line = line; word = word } ∷ [])
noted_next IsFar s line word (Some answer) (Ok r) notes h e same = absurd h
noted_next IsFar s line word (Some answer) (Err w) notes h e same = record { far = h.1; same = rw (same, sym (same_Some answer word e) ∙ h.0) }
noted_next IsFar s line word None acted notes h e same = absurd (none-some word e)

-- after a command that left none
pub silent_next : (IsFar : Run → Type 0) (s : State) (line : ℕ) (answer : Option Word) (acted : Result Run Word) (notes : List Note) → HasDone IsFar s.run (Ok answer) acted → answer ≡ None → notes ≡ s.notes → IsNext IsFar (noted s line acted) notes
silent_next IsFar s line None (Ok r) notes h e same = record { far = h; same = same }
silent_next IsFar s line None (Err w) notes h e same = absurd h
silent_next IsFar s line (Some answer) acted notes h e same = absurd (none-some answer (sym e))
