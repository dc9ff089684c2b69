-- A diagram whose lines are joined has a chart.
use Rattle.std.proofs.Common.{◌≡◌, ℕ, ◌≤◌, Bool, true, false, cond, List, [], Option, None, Some, Result, Ok, Err, length, map, refl, sym, ap, subst}
use Rattle.std.specs.Prelude.{nat_lt}
use Rattle.std.proofs.lemmas.Bool.{ltb-false}
use Rattle.std.proofs.lemmas.List.{length-map}
use Rattle.diagram_labels.specs.Labels.{none}
use Rattle.diagrams.specs.Messages.Following.{AreBuildable}
use Rattle.diagrams.specs.Collecting.{CollectedView, collected}
use Rattle.diagrams.specs.Crossing.{fault_from}
use Rattle.diagrams.specs.Diagrams.{ParticipantView, ItemView}
use Rattle.diagrams.specs.Building.{◌>>=◌}
use Rattle.diagrams.specs.Full.{full_from}
use Rattle.diagrams.specs.Losing.{kept}
use Rattle.diagrams.specs.Naming.{named_from}
use Rattle.diagrams.specs.declared.left_out.LeftOut.{LeftOut}
use Rattle.diagrams.specs.declared.message.Message.{Message}
use Rattle.diagrams.proofs.ChartLemmas.{items_sound}
use Rattle.diagrams.proofs.PlacedLemmas.{AreCollected}
use Rattle.diagrams.proofs.StayingLemmas.{none_overtakes, stay_built}
use Rattle.diagram_join.specs.Coregions.{cut_from}
use Rattle.diagram_join.specs.Building.{unless, checked}
use Rattle.diagram_join.specs.Joined.{JoinedView, all_across, joined_of, unless_taken, joined}
use Rattle.diagram_join.specs.Joins.{JoinView, is_misnamed, process_of, taken_from}
use Rattle.diagram_join.specs.Joins as joins
use Rattle.diagram_join.specs.Moves.{staying_from}
use Rattle.diagram_join.specs.declared.error.JoinError.{JoinError}
use Rattle.diagram_join.specs.declared.error.JoinError.TheVariants.{NoSuchLine, Instances, NotPossible, LineFull}
use Rattle.diagram_join.proofs.CutLemmas.{built_cut}
use Rattle.diagram_join.proofs.StayingLemmas.{stays_collected, stays_sound}

value_or : {A : Type 0} → A → Result A JoinError → A
value_or d (Ok x) = x
value_or d (Err e) = d

-- the result of joining lines
joined_is : (participants : List ParticipantView) (lines : List (List ℕ)) (js : List JoinView) (messages : List Message) (left_out : List LeftOut) (j : JoinedView)
    → joined participants lines js messages left_out ≡ Ok j → j ≡ joined_of (map (process_of js) lines) messages left_out
unfolding joined value_or
joined_is participants lines js messages left_out j is = go (is_misnamed lines js) (taken_from js lines participants js) is
  where
    go : (misnamed : Bool) (taken : Option ℕ) → cond misnamed (Err NoSuchLine) (unless_taken taken (joined_of (map (process_of js) lines) messages left_out)) ≡ Ok j
        → j ≡ joined_of (map (process_of js) lines) messages left_out
    go true taken e = absurd (cc e)
    go false (Some line) e = absurd (cc e)
    go false None e = sym (ap (value_or j) e)

-- a result that passes all checks
pub record Passes (fault : Option ℕ) (messages : List Message) (j : JoinedView) : Type 0 where
  pub sound : fault_from fault [] messages ≡ None
  pub few : full_from [] j.messages ≡ None
  pub several : 2 ≤ length j.names

checked_is : (fault : Option ℕ) (messages : List Message) (j k : JoinedView) → checked fault messages j ≡ Ok k → Passes fault messages j
unfolding checked
checked_is fault messages j k is = go (fault_from fault [] messages) refl (full_from [] j.messages) refl (nat_lt (length j.names) 2) refl is
  where
    go : (f : Option ℕ) → fault_from fault [] messages ≡ f → (g : Option ℕ) → full_from [] j.messages ≡ g → (one : Bool) → nat_lt (length j.names) 2 ≡ one
        → (unless NotPossible f j >>= (λ sound. unless LineFull g j >>= (λ few. cond one (Err Instances) (Ok j)))) ≡ Ok k → Passes fault messages j
    go (Some line) e g d one h is = absurd (cc is)
    go None e (Some line) d one h is = absurd (cc is)
    go None e None d true h is = absurd (cc is)
    go None e None d false h is = record { sound = e; few = d; several = ltb-false (length j.names) 2 h }

-- there are at least two instances
pub several_joined : (fault : Option ℕ) (messages : List Message) (j : JoinedView) → checked fault messages j ≡ Ok j → 2 ≤ length j.names
several_joined fault messages j is = (checked_is fault messages j j is).several

-- the messages that stay after joining have a chart in cut rows
processes_built : (items : List ItemView) (processes : List (List ℕ)) (messages : List Message) (left_out : List LeftOut) (row : ℕ) → AreCollected (length processes) row messages
    → full_from [] (joined_of processes messages left_out).messages ≡ None
    → AreBuildable (length (joined_of processes messages left_out).names) (named_from none items (cut_from (joined_of processes messages left_out).messages 0 (joined_of processes messages left_out).messages))
unfolding joined_of
processes_built items processes messages left_out row are few =
    let names : List (List ℕ) = joins.names_from [] processes in
    let stays : List Message = kept (staying_from [] (all_across (joins.names_from [] processes) processes messages)) in
    let whole : AreBuildable (length (joins.names_from [] processes)) (named_from none items (kept (staying_from [] (all_across (joins.names_from [] processes) processes messages)))) =
    stay_built (length (joins.names_from [] processes)) row none items (staying_from [] (all_across (joins.names_from [] processes) processes messages))
    (stays_collected processes row messages are) (stays_sound (all_across (joins.names_from [] processes) processes messages)) few in
    built_cut (length names) none items stays whole

collected_built : (participants : List ParticipantView) (items : List ItemView) (lines : List (List ℕ)) (js : List JoinView) (left_out : List LeftOut) (j : JoinedView)
    → joined participants lines js (collected lines items left_out).messages (collected lines items left_out).left_out ≡ Ok j
    → checked (collected lines items left_out).fault (collected lines items left_out).messages j ≡ Ok j
    → AreBuildable (length j.names) (named_from none items (cut_from j.messages 0 j.messages))
collected_built participants items lines js left_out j one two =
    let c = collected lines items left_out in
    let passes = checked_is c.fault c.messages j j two in
    let is = joined_is participants lines js c.messages c.left_out j one in
    let no_fault : c.fault ≡ None = (none_overtakes c.fault [] c.messages passes.sound).fault_is in
    let are = items_sound lines items left_out no_fault in
    let many : length lines ≡ length (map (process_of js) lines) = sym (length-map lines (process_of js)) in
    subst (λ (k : JoinedView). AreBuildable (length k.names) (named_from none items (cut_from k.messages 0 k.messages))) (sym is)
    (processes_built items (map (process_of js) lines) c.messages c.left_out are.0 (subst (λ n. AreCollected n are.0 c.messages) many are.1)
    (subst (λ (k : JoinedView). full_from [] k.messages ≡ None) is passes.few))

-- the same, for the collected messages of a diagram's items
pub rows_built : (participants : List ParticipantView) (items : List ItemView) (lines : List (List ℕ)) (js : List JoinView) (left_out : List LeftOut) (c : CollectedView) (j : JoinedView)
    → c ≡ collected lines items left_out → joined participants lines js c.messages c.left_out ≡ Ok j → checked c.fault c.messages j ≡ Ok j
    → AreBuildable (length j.names) (named_from none items (cut_from j.messages 0 j.messages))
rows_built participants items lines js left_out c j is one two =
    collected_built participants items lines js left_out j (subst (λ (k : CollectedView). joined participants lines js k.messages k.left_out ≡ Ok j) is one)
    (subst (λ (k : CollectedView). checked k.fault k.messages j ≡ Ok j) is two)
