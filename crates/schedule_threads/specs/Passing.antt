-- Turns that were passed over, with the notes so far (this project's profile).
use Rattle.std.specs.Prelude.{◌≡◌, ℕ, List, ◌++◌}
use Rattle.instances.specs.declared.turn.Turn.{Turn}
use Rattle.schedule.specs.declared.command.Note.{Note}
use Rattle.schedule_threads.specs.RunNotes.{notes_from}
use Rattle.schedule_threads.specs.RunOutcomes.{lacked_memory}

-- These turns lead from one place with the notes so far to another place. Whatever turns follow, the notes of all turns
-- are the notes so far and those of the turns that follow. Memory was refused in all turns exactly if it was refused in
-- those.
pub record Passes (lines : List ℕ) (old : List Note) (place : ℕ) (turns : List Turn)
    (new : List Note) (next : ℕ) : Type 0 where
  pub notes : (rest : List Turn) → new ++ notes_from lines next rest ≡ old ++ notes_from lines place (turns ++ rest)
  pub memory : (rest : List Turn) → lacked_memory (turns ++ rest) ≡ lacked_memory rest
