-- The state of a replay after a command (this project's profile).
use Rattle.std.specs.Prelude.{◌≡◌, Option, None, Some, Result, Ok, Err}
use Rattle.schedule.specs.declared.command.Word.{Word}
use Rattle.schedule.specs.Meaning.{Run}
use Rattle.schedule.specs.declared.outcomes.error.ReplayError.{ReplayError}

-- unless memory is refused: the replay is as far as the command's run, or as the run before it, with the word of the
-- command's note
abbrev pub HasDone : (Run → Type 0) → Run → Result (Option Word) ReplayError → Result Run Word → Type 0
HasDone IsFar r (Ok None) (Ok s) = IsFar s
HasDone IsFar r (Ok None) (Err word) = ⊥
HasDone IsFar r (Ok (Some noted)) (Ok s) = ⊥
HasDone IsFar r (Ok (Some noted)) (Err word) = (noted ≡ word) × IsFar r
HasDone IsFar r (Err e) acted = Unit {0}
