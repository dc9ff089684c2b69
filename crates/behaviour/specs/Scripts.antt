-- What a script does (this project's profile).
use Rattle.std.specs.Prelude.{ℕ, ◌+◌, List, length, min, slice_index_or}
use Rattle.board.specs.declared.error.SendError.TheVariants as sending
use Rattle.board.specs.declared.error.TakeError.TheVariants as taking
use Rattle.behaviour.specs.declared.act.Act.{Act}
use Rattle.behaviour.specs.declared.answer.Answer.{Answer}
use Rattle.behaviour.specs.declared.bare_act.BareAct.{BareAct}
use Rattle.behaviour.specs.declared.bare_act.BareAct.TheVariants.{Stop}
use Rattle.behaviour.specs.declared.bare_answer.BareAnswer.{BareAnswer}
use Rattle.behaviour.specs.declared.bare_answer.BareAnswer.TheVariants.{Start, Unsent, Nothing, Unreceived}
use Rattle.behaviour.specs.Bare.{with_empty_body, bare_answer}

-- its acts, and the place of the present one, from 0
pub record ScriptView : Type 0 where
  pub acts : List BareAct
  pub place : ℕ

-- The place of a script with `many` acts after this answer. It stays the same after `Start`, and if the lane was full
-- or nothing waited. It is past the last act if memory was refused, and otherwise the next one.
abbrev pub script_next : ℕ → ℕ → BareAnswer → ℕ
script_next many place Start = place
script_next many place Nothing = place
script_next many place (Unsent sending.Full) = place
script_next many place (Unsent sending.Memory) = many
script_next many place (Unreceived taking.Memory) = many
script_next many place _ = min many (place + 1)

-- the script after an answer to its last act
abbrev pub script_after : ScriptView → Answer → ScriptView
script_after script last = record script { place = script_next (length script.acts) script.place (bare_answer last) }

-- the act at the script's place, with an empty body; past the last act, it stops
abbrev pub script_act : ScriptView → Act
script_act script = with_empty_body (slice_index_or script.acts script.place Stop)
