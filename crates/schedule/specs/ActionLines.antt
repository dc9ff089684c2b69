-- The commands of a schedule's text: the acting instance, and its action (this project's profile).
use Rattle.std.specs.Prelude.{ℕ, not, ◌||◌, ◌==◌, List, [], ◌∷◌, length, Result, Ok, Err, if◌then◌else◌}
use Rattle.texts.specs.Faults.{◌>>=◌}
use Rattle.texts.specs.Instances.{known_of}
use Rattle.texts.specs.Lines.{words_of, name_or_cause}
use Rattle.texts.specs.declared.fault.Cause.{Cause}
use Rattle.texts.specs.declared.fault.Cause.TheVariants.{ToItself, Syntax}
use Rattle.schedule.specs.Keywords.{is_written}
use Rattle.schedule.specs.declared.keyword.ScheduleWord.TheVariants as keywords
use Rattle.schedule.specs.declared.command.Action.{Action}
use Rattle.schedule.specs.declared.command.Action.TheVariants.{Send, Receive, Any, Close, Open, Shut}

-- an instance, and its action
abbrev pub ActorAction : Type 0
ActorAction = ℕ × Action

-- two instances that were looked up, which are not the same
abbrev pub both_of : Result ℕ Cause → Result ℕ Cause → Result (ℕ × ℕ) Cause
both_of actor partner = do
  by ← actor
  to ← partner
  if by == to then Err ToItself else Ok (by, to)

-- two instances, which are not the same
unfoldable pub pair_of : List (List ℕ) → List ℕ → List ℕ → Result (ℕ × ℕ) Cause
pair_of names a b = both_of (known_of names a) (known_of names b)

-- actor and partner of a line that has no other name
unfoldable pub partners_of : List (List ℕ) → List ℕ → List ℕ → Result (ℕ × ℕ) Cause
partners_of names a b = do
  actor ← name_or_cause a
  partner ← name_or_cause b
  pair_of names actor partner

-- NAME send NAME MESSAGE
unfoldable pub send_of : List (List ℕ) → List ℕ → List ℕ → List ℕ → Result ActorAction Cause
send_of names a b m = do
  actor ← name_or_cause a
  partner ← name_or_cause b
  name ← name_or_cause m
  pair ← pair_of names actor partner
  Ok (pair.0, Send pair.1 name)

-- NAME receive NAME
unfoldable pub receive_of : List (List ℕ) → List ℕ → List ℕ → Result ActorAction Cause
receive_of names a b = do
  pair ← partners_of names a b
  Ok (pair.0, Receive pair.1)

-- NAME close NAME
unfoldable pub close_of : List (List ℕ) → List ℕ → List ℕ → Result ActorAction Cause
close_of names a b = do
  pair ← partners_of names a b
  Ok (pair.0, Close pair.1)

-- an action with no partner: NAME any, NAME concurrent, NAME endconcurrent
unfoldable pub alone_of : List (List ℕ) → List ℕ → Action → Result ActorAction Cause
alone_of names a action = do
  actor ← name_or_cause a
  by ← known_of names actor
  Ok (by, action)

-- a line of two words, the first of which has at least one byte
unfoldable pub by_two : List (List ℕ) → List ℕ → List ℕ → Result ActorAction Cause
by_two names a k =
    if is_written keywords.Any k then alone_of names a Any else (
    if is_written keywords.Concurrent k then alone_of names a Open else (
    if is_written keywords.EndConcurrent k then alone_of names a Shut else Err Syntax))

-- a line of three words, the first and the last of which have
unfoldable pub by_three : List (List ℕ) → List ℕ → List ℕ → List ℕ → Result ActorAction Cause
by_three names a k b =
    if is_written keywords.Receive k then receive_of names a b else (
    if is_written keywords.Close k then close_of names a b else Err Syntax)

-- the action of the line's words; none of them is empty
abbrev pub action_by : List (List ℕ) → List (List ℕ) → Result ActorAction Cause
action_by names (a ∷ k ∷ []) = if length a == 0 then Err Syntax else by_two names a k
action_by names (a ∷ k ∷ b ∷ []) = if length a == 0 || length b == 0 then Err Syntax else by_three names a k b
action_by names (a ∷ k ∷ b ∷ m ∷ []) = if length a == 0 || length b == 0 || length m == 0
    || not (is_written keywords.Send k) then Err Syntax else send_of names a b m
action_by names _ = Err Syntax

-- what the line means
unfoldable pub action_of : List (List ℕ) → List ℕ → Result ActorAction Cause
action_of names line = action_by names (words_of line)
