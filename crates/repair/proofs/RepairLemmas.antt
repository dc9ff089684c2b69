-- Messages that mend a race pair: there is one of a name, if any.
use Rattle.std.proofs.Common.{◌≡◌, ℕ, ◌+◌, ◌<◌, ◌≤◌, inl, inr, List, length, sym, ap, ◌∙◌, subst, arith}
use Rattle.std.specs.List.{insert}
use Rattle.std.proofs.lemmas.Bool.{false≢true, cases_lt}
use Rattle.std.proofs.lemmas.List.Edits.{length-insert}
use Rattle.chart.specs.declared.event.Event.{Event}
use Rattle.chart.specs.declared.line.TheConstants.{MAX_EVENTS}
use Rattle.chart.specs.Events.{send_event, receive_event}
use Rattle.chart.specs.Charts.{Chart, Place, LineView, IsChart, chart_lines}
use Rattle.chart.proofs.Belongs.{same_send}
use Rattle.chart.proofs.Tally.{ith_at}
use Rattle.closure.specs.Faults.{place_of}
use Rattle.repair.specs.Messages.{NewMessage, EndsBehind, informing, NoMessage}
use Rattle.repair.specs.Counted.{CountedView}
use Rattle.repair.specs.Growing.{message_of}
use Rattle.repair.specs.Moves.{moved_counted}
use Rattle.repair.specs.Mends.{IsAsked, IsMended, Informs, Crosses, Waits, IsFull}
use Rattle.repair.specs.declared.message.Message.{Message}
use Rattle.repair.specs.declared.pairs.RacePair.{RacePair}
use Rattle.repair.specs.Repairs.{with_message, IsRepair, Leaves}
use Rattle.repair.specs.Best.{HasPairs}
use Rattle.repair.proofs.CountLemmas.{line_shorts}
use Rattle.repair.proofs.PairLemmas.{one_count}

-- a coregion ends in one place
shorter : (line : List Event) (index j k : ℕ) → EndsBehind line index j → EndsBehind line index k → j < k → ⊥
shorter line index j k a b less =
    let next = ith_at line (j + 1) (omega arith) (let w = b.within in omega arith) in
    let has = a.has in
    false≢true (sym (a.ends next.0 next.1) ∙ b.inside (j + 1) next.0 (omega arith) (omega arith) next.1)

one_end : (line : List Event) (index j k : ℕ) → EndsBehind line index j → EndsBehind line index k → j ≡ k
one_end line index j k a b =
    elim (cases_lt j k) [
      | inl less ↦ absurd (shorter line index j k a b less)
      | inr most ↦ elim (cases_lt k j) [
        | inl less ↦ absurd (shorter line index k j b a less)
        | inr least ↦ omega arith
      ]
    ]

-- a pair has one message of a name
pub one_repair : (lines : List LineView) (pair : RacePair) (name : List ℕ) (m n : NewMessage) → IsRepair lines pair name m → IsRepair lines pair name n → m ≡ n
one_repair lines pair name m n a b =
    let e = place_of pair.earlier in
    let send = same_send (chart_lines lines) a.send b.send (place_of pair.receive) a.asked.belongs b.asked.belongs in
    let many = one_end (chart_lines lines e.instance) e.index a.many b.many a.asked.ends b.asked.ends in
    a.message ∙ ap (λ (s : Place). informing e.instance a.many s name) send ∙ ap (λ k. informing e.instance k b.send name) many ∙ sym b.message

-- so it leaves one number of race pairs
pub one_left : (counted : CountedView) (lines : List LineView) (pair : RacePair) (name : List ℕ) (m : NewMessage) (left : ℕ) → IsRepair lines pair name m → HasPairs (moved_counted m counted) (with_message m lines) left → (k : ℕ) → Leaves counted lines name pair k → k ≡ left
one_left counted lines pair name m left repair has k (n, pairs, other, are, is) =
    let same = one_repair lines pair name n m other repair in
    one_count (moved_counted m counted) (with_message m lines) k left (subst (λ (x : NewMessage). HasPairs (moved_counted x counted) (with_message x lines) k) same (pairs, are, is)) has

-- a line with one event more than another that is short enough has room in that one
room_in : (line longer : List Event) (k : ℕ) (m : Event) → k ≤ length line → longer ≡ insert line k m → length longer ≤ MAX_EVENTS → length line < MAX_EVENTS
room_in line longer k m within is short =
    let long = ap (λ (l : List Event). length l) is ∙ length-insert line k m within in
    omega arith

-- the message that mends a pair in a chart
pub repair_of : (lines chart : List LineView) (pair : RacePair) (name : List ℕ) (m : Message) → IsChart chart → Informs (length lines) (chart_lines lines) (place_of pair.earlier) (place_of pair.receive) name m chart → chart ≡ with_message (message_of m) lines → IsRepair lines pair name (message_of m)
repair_of lines chart pair name m is_chart informs is =
    let n = message_of m in
    let with = informs.mended.added in
    record {
      send = informs.send;
      many = informs.many;
      asked = informs.asked;
      message = informs.message;
      room = (
        room_in (chart_lines lines n.sender) (chart_lines chart n.sender) n.sent (send_event n.receiver n.name) with.sent_within with.send (line_shorts chart n.sender is_chart),
        room_in (chart_lines lines n.receiver) (chart_lines chart n.receiver) n.received (receive_event n.sender n.name n.region) with.received_within with.receive (line_shorts chart n.receiver is_chart),
      );
      mended = subst (λ (l : List LineView). IsMended (length lines) (chart_lines lines) (place_of pair.earlier) (place_of pair.receive) (message_of m) (chart_lines l)) is informs.mended;
    }

module _ (counted : CountedView) (lines : List LineView) (name : List ℕ) (pair : RacePair) where
  abbrev c : Chart
  c = chart_lines lines

  abbrev e : Place
  e = place_of pair.earlier

  abbrev r : Place
  r = place_of pair.receive

  -- no message mends it where there is none to its receive's sender
  none_left : (s : Place) (k : ℕ) → IsAsked c e r s k → NoMessage (length lines) c e.instance s.instance e r → (left : ℕ) → Leaves counted lines name pair left → ⊥
  none_left s k asked none left (m, pairs, repair, are, is) =
      let mended = repair.mended in
      let sender = ap (λ (x : NewMessage). x.sender) repair.message in
      let receiver = ap (λ (x : NewMessage). x.receiver) repair.message ∙ ap (λ (x : Place). x.instance) (same_send c repair.send s r repair.asked.belongs asked.belongs) in
      none m (chart_lines (with_message m lines)) sender receiver mended.added mended.possible mended.belongs mended.enforced

  pub none_crossed : (x : Place) → Crosses (length lines) c e r x → (left : ℕ) → Leaves counted lines name pair left → ⊥
  none_crossed x w = none_left w.send w.many w.asked w.none

  pub none_waiting : (x : Place) → Waits (length lines) c e r x → (left : ℕ) → Leaves counted lines name pair left → ⊥
  none_waiting x w = none_left w.send w.many w.asked w.none

  pub none_full : (p : ℕ) → IsFull c e r p → (left : ℕ) → Leaves counted lines name pair left → ⊥
  none_full p w left (m, pairs, repair, are, is) =
      let room = repair.room in
      let sender = ap (λ (x : NewMessage). x.sender) repair.message in
      let receiver = ap (λ (x : NewMessage). x.receiver) repair.message ∙ ap (λ (x : Place). x.instance) (same_send c repair.send w.send r repair.asked.belongs w.asked.belongs) in
      let mine : length (c e.instance) < MAX_EVENTS = subst (λ q. length (c q) < MAX_EVENTS) sender room.0 in
      let theirs : length (c w.send.instance) < MAX_EVENTS = subst (λ q. length (c q) < MAX_EVENTS) receiver room.1 in
      elim w.full [ inl f ↦ absurd (omega (arith, mine, f.1)) | inr f ↦ absurd (omega (arith, theirs, f.2)) ]
