-- The messages of a diagram that stay have a chart.
use Rattle.std.proofs.Common.{◌≡◌, ℕ, List, [], Option, None, Some, Result, Ok, Err, length, refl, sym, ap, subst}
use Rattle.diagram_labels.specs.Labels.{none}
use Rattle.diagrams.specs.Collecting.{CollectedView, nothing, collected}
use Rattle.diagrams.specs.Crossing.{fault_from}
use Rattle.diagrams.specs.Diagrams.{ItemView}
use Rattle.diagrams.specs.Building.{◌>>=◌, possible, within, staying}
use Rattle.diagrams.specs.Full.{full_from}
use Rattle.diagrams.specs.Losing.{kept, with_lost}
use Rattle.diagrams.specs.Naming.{named_from}
use Rattle.diagrams.specs.Placing.{first_misplaced}
use Rattle.diagrams.specs.Messages.Following.{AreBuildable}
use Rattle.diagrams.specs.declared.built.BuildError.{BuildError}
use Rattle.diagrams.specs.declared.left_out.LeftOut.{LeftOut}
use Rattle.diagrams.specs.declared.message.Message.{Message}
use Rattle.diagrams.proofs.PlacedLemmas.{AreCollected, items_collected, items_fault}
use Rattle.diagrams.proofs.StayingLemmas.{none_overtakes, stay_built}

-- the messages that stay are those that aren't skipped, and nothing refuses them
record StaySo (fault : Option ℕ) (messages stay : List Message) : Type 0 where
  pub sound : fault_from fault [] messages ≡ None
  pub few : full_from [] (kept messages) ≡ None
  pub stay_is : stay ≡ kept messages

stay_so : (fault : Option ℕ) (messages : List Message) (left_out : List LeftOut) (stay : List Message × List LeftOut) → staying fault messages left_out ≡ Ok stay → StaySo fault messages stay.0
unfolding staying
stay_so fault messages left_out stay is = go (fault_from fault [] messages) refl (full_from [] (kept messages)) refl is
  where
    messages_or : Result (List Message × List LeftOut) BuildError → List Message
    messages_or (Ok s) = s.0
    messages_or (Err e) = []

    go : (f : Option ℕ) → fault_from fault [] messages ≡ f → (g : Option ℕ) → full_from [] (kept messages) ≡ g
        → (possible f messages >>= (λ all. within g (kept messages, with_lost left_out messages))) ≡ Ok stay → StaySo fault messages stay.0
    go (Some line) e g d is = absurd (cc is)
    go None e (Some line) d is = absurd (cc is)
    go None e None d is = record { sound = e; few = d; stay_is = sym (ap messages_or is) }

-- the messages of a diagram's items, if there is no fault
pub items_sound : (names : List (List ℕ)) (items : List ItemView) (left_out : List LeftOut) → (collected names items left_out).fault ≡ None
    → (row : ℕ) × AreCollected (length names) row (collected names items left_out).messages
unfolding collected
items_sound names items left_out no_fault =
    items_collected names 0 0 items (nothing (first_misplaced (length names) 0 items) left_out) (items_fault names 0 items (nothing (first_misplaced (length names) 0 items) left_out) no_fault) (record { each = tt; order = tt })

collected_built : (names : List (List ℕ)) (items : List ItemView) (left_out : List LeftOut) (stay : List Message × List LeftOut)
    → staying (collected names items left_out).fault (collected names items left_out).messages (collected names items left_out).left_out ≡ Ok stay → AreBuildable (length names) (named_from none items stay.0)
collected_built names items left_out stay is =
    let c = collected names items left_out in
    let so = stay_so c.fault c.messages c.left_out stay is in
    let no_fault : c.fault ≡ None = (none_overtakes c.fault [] c.messages so.sound).fault_is in
    let are = items_sound names items left_out no_fault in
    let sound : fault_from None [] c.messages ≡ None = subst (λ f. fault_from f [] c.messages ≡ None) no_fault so.sound in
    subst (λ messages. AreBuildable (length names) (named_from none items messages)) (sym so.stay_is) (stay_built (length names) are.0 none items c.messages are.1 sound so.few)

pub messages_built : (names : List (List ℕ)) (items : List ItemView) (left_out : List LeftOut) (c : CollectedView) (stay : List Message × List LeftOut) → c ≡ collected names items left_out
    → staying c.fault c.messages c.left_out ≡ Ok stay → AreBuildable (length names) (named_from none items stay.0)
messages_built names items left_out c stay e is = collected_built names items left_out stay (subst (λ (k : CollectedView). staying k.fault k.messages k.left_out ≡ Ok stay) e is)
