-- Slots that are filled one after another, each with a message whose send is recorded.
use Rattle.std.proofs.Common.{◌≡◌, ℕ, suc, ◌+◌, ◌≤◌, List, [], ◌∷◌, ◌++◌, length, refl, sym, ap, ◌∙◌, subst, arith}
use Rattle.std.proofs.lemmas.List.{map-append, length_push}
use Rattle.chart.specs.declared.line.TheConstants.{MAX_EVENTS}
use Rattle.chart.specs.Events.{send_event}
use Rattle.chart.specs.Messages.{Content}
use Rattle.clock.specs.Clocks.{entry_of}
use Rattle.clock.specs.declared.diff.Change.{Change}
use Rattle.clock.proofs.EntryLemmas.{entry_of-with_entry, length-with_entry}
use Rattle.line_recorder.specs.Recorders.{RecorderView, send_clock, after_send, after_sends}
use Rattle.line_recorder.proofs.SendsLemmas.{after_sends-push}
use Rattle.board_core.specs.Instances.{HaveClocks}
use Rattle.board_core.specs.Parcels.{Parcel, names}
use Rattle.board_core.proofs.Standing.{have_clocks_push}
use Rattle.board_table.specs.declared.packet.Packet.{Packet}
use Rattle.board_table.specs.Carrying.{Carries, AreCarried, last_clock}
use Rattle.board_table.proofs.Carried.{carried_append}
use Rattle.board.specs.SendingMany.{IsDiffTo, AreFilled}

-- the recorder of instance p may record `many` more sends, directly after a send
pub record GoesOn (p many : ℕ) (r : RecorderView) : Type 0 where
  pub its : r.line.instance ≡ p
  pub among : p ≤ length r.knowledge
  pub known : entry_of r.knowledge p ≡ length r.line.events
  pub short : length r.line.events + many ≤ MAX_EVENTS
  pub room : many ≤ r.room

-- after one of these sends
pub goes_on : (p many to : ℕ) (name : List ℕ) (r : RecorderView) → 1 ≤ p → r.line.instance ≡ p → p ≤ length r.knowledge → length r.line.events + suc many ≤ MAX_EVENTS → suc many ≤ r.room → GoesOn p many (after_send r to name)
goes_on p many to name r low its among short room =
    let longer = length_push r.line.events (send_event to name) in
    let i : ℕ = length r.line.events + 1 in
    let known : entry_of (send_clock r) p ≡ i = rw its (entry_of-with_entry r.knowledge p i low among) in
    record {
      its = its;
      among = omega (arith, length-with_entry r.knowledge r.line.instance i, among);
      known = known ∙ omega (arith, longer);
      short = omega (arith, longer, short);
      room = omega (arith, room);
    }

-- the clock of the last of several sends is the recorder's knowledge after them
last_known : (r : RecorderView) (to : ℕ) (ys : List Parcel) → HaveClocks r to ys → last_clock r.knowledge ys ≡ (after_sends r to (names ys)).knowledge
last_known r to [] clocks = refl
last_known r to (y ∷ ys) clocks = ap (λ (c : List ℕ). last_clock c ys) clocks.0 ∙ last_known (after_send r to y.message.name) to ys clocks.1

-- no slot is filled yet
pub filled_none : (r : RecorderView) (to : ℕ) → AreFilled r.knowledge r to [] [] r
filled_none r to = record { parcels = []; messages_are = refl; clocks = tt; carried = tt; recorded = refl }

-- one more slot
pub filled_more : (r v : RecorderView) (to : ℕ) (ms : List Content) (xs : List Packet) (m : Content) (x : Packet) → AreFilled r.knowledge r to ms xs v → Carries v.knowledge x (record { message = m; clock = send_clock v }) → AreFilled r.knowledge r to (ms ++ m ∷ []) (xs ++ x ∷ []) (after_send v to m.name)
filled_more r v to ms xs m x are carries =
    let y : Parcel = record { message = m; clock = send_clock v } in
    let ys = are.parcels in
    let last : v.knowledge ≡ last_clock r.knowledge ys = ap (λ (z : RecorderView). z.knowledge) are.recorded ∙ sym (last_known r to ys are.clocks) in
    record {
      parcels = ys ++ y ∷ [];
      messages_are = map-append (λ (z : Parcel). z.message) ys (y ∷ []) ∙ ap (λ (zs : List Content). zs ++ m ∷ []) are.messages_are;
      clocks = have_clocks_push r to ys y are.clocks (ap (λ (z : RecorderView). send_clock z) are.recorded);
      carried = carried_append r.knowledge xs ys (x ∷ []) (y ∷ []) are.carried (subst (λ (c : List ℕ). AreCarried c (x ∷ []) (y ∷ [])) last (carries, tt));
      recorded = ap (λ (z : RecorderView). after_send z to m.name) are.recorded ∙ sym (after_sends-push r to (names ys) m.name) ∙ ap (after_sends r to) (sym (map-append (λ (z : Parcel). z.message.name) ys (y ∷ [])));
    }

-- a first slot before them, over another base
pub filled_first : (base : List ℕ) (r v : RecorderView) (to : ℕ) (m : Content) (ms : List Content) (diff : List Change) (xs : List Packet) → IsDiffTo base diff (send_clock r) → AreFilled (send_clock r) (after_send r to m.name) to ms xs v → AreFilled base r to (m ∷ ms) (record { message = m; diff = diff } ∷ xs) v
filled_first base r v to m ms diff xs first are = record {
  parcels = record { message = m; clock = send_clock r } ∷ are.parcels;
  messages_are = ap (λ (zs : List Content). m ∷ zs) are.messages_are;
  clocks = (refl, are.clocks);
  carried = (record { message = refl; within = first.within; exact = first.exact; clock = first.applied }, are.carried);
  recorded = are.recorded;
}
