-- The messages of a diagram whose lines are joined.
use Rattle.std.specs.Prelude.{◌≡◌, ℕ, List, [], map, filter, Option, None, Some, Result, Ok, Err, if◌then◌else◌}
use Rattle.diagrams.specs.Diagrams.{ParticipantView}
use Rattle.diagrams.specs.Losing.{kept, with_lost}
use Rattle.diagrams.specs.declared.left_out.LeftOut.{LeftOut}
use Rattle.diagrams.specs.declared.message.Message.{Message}
use Rattle.diagram_join.specs.Joins.{JoinView, is_misnamed, names_from, process_of, taken_from}
use Rattle.diagram_join.specs.Moves.{is_across, moved, overtaking_from, staying_from, with_within}
use Rattle.diagram_join.specs.declared.joined.Joined.{Joined}
use Rattle.diagram_join.specs.declared.error.JoinError.{JoinError}
use Rattle.diagram_join.specs.declared.error.JoinError.TheVariants.{Memory, NoSuchLine, Taken, Instances, NotPossible, LineFull}
use Rattle.diagram_join.specs.declared.moves.Overtaking.{Overtaking}

-- the instances' names, their messages, the skipped constructs, and the overtaking messages
pub record JoinedView : Type 0 where
  pub names : List (List ℕ)
  pub messages : List Message
  pub left_out : List LeftOut
  pub overtaking : List Overtaking

abbrev pub joined_view : Joined → JoinedView
joined_view j = record { names = j.names; messages = j.messages.items; left_out = j.left_out.items; overtaking = j.overtaking.items }

-- the messages that go from one instance to another
abbrev pub all_across : List (List ℕ) → List (List ℕ) → List Message → List Message
all_across names processes messages = filter is_across (map (moved names processes) messages)

-- Lines of these instances have these messages. Each message goes from the sender's instance to the receiver's.
-- Messages within one instance are skipped, and so are messages that overtake another one of their lane. A lost message
-- is skipped if a later message of its lane is received.
abbrev pub joined_with : List (List ℕ) → List (List ℕ) → List Message → List LeftOut → JoinedView
joined_with names processes messages left_out = record {
  names = names;
  messages = kept (staying_from [] (all_across names processes messages));
  left_out = with_lost (with_within left_out (map (moved names processes) messages)) (staying_from [] (all_across names processes messages));
  overtaking = overtaking_from [] (all_across names processes messages);
}

unfoldable pub joined_of : List (List ℕ) → List Message → List LeftOut → JoinedView
joined_of processes messages left_out = joined_with (names_from [] processes) processes messages left_out

abbrev pub unless_taken : Option ℕ → JoinedView → Result JoinedView JoinError
unless_taken None joined = Ok joined
unless_taken (Some line) joined = Err (Taken line)

-- the messages of lines with these names after joining, or the refusal
unfoldable pub joined : List ParticipantView → List (List ℕ) → List JoinView → List Message → List LeftOut → Result JoinedView JoinError
joined participants lines joins messages left_out =
    if is_misnamed lines joins then Err NoSuchLine
    else unless_taken (taken_from joins lines participants joins) (joined_of (map (process_of joins) lines) messages left_out)

-- an error is the refusal, unless memory ran out
abbrev pub Fails : {Y : Type 0} → JoinError → Result Y JoinError → Type 0
Fails Memory read = Unit {0}
Fails NoSuchLine read = read ≡ Err NoSuchLine
Fails (Taken line) read = read ≡ Err (Taken line)
Fails Instances read = read ≡ Err Instances
Fails (NotPossible line) read = read ≡ Err (NotPossible line)
Fails (LineFull line) read = read ≡ Err (LineFull line)

-- the result, seen through view, is the defined one, unless memory ran out
abbrev pub Gives : {X Y : Type 0} → (X → Y) → Result X JoinError → Result Y JoinError → Type 0
Gives view (Ok x) read = read ≡ Ok (view x)
Gives view (Err e) read = Fails e read
