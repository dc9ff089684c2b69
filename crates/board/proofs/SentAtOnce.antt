-- Messages in the slots of a lane, sent by one store.
use Rattle.std.proofs.Common.{◌≡◌, ℕ, ◌+◌, ◌≤◌, false, List, [], ◌∷◌, ◌++◌, length, drop, refl, sym, ap, ◌∙◌, subst, arith}
use Rattle.std.proofs.lemmas.List.{length-map}
use Rattle.chart.specs.declared.history.Occurrence.{Occurrence}
use Rattle.chart.specs.declared.line.TheConstants.{MAX_EVENTS}
use Rattle.chart.specs.Messages.{Content}
use Rattle.chart.specs.Histories.{own, sent, is_closed, chart_of, IsLegal}
use Rattle.line_recorder.specs.Recorders.{RecorderView, send_clock, after_sends}
use Rattle.line_recorder.specs.Recording.{IsRecorder}
use Rattle.board_core.proofs.OwnEvents.{same_recorder}
use Rattle.board_table.specs.declared.held.Held.{Held}
use Rattle.board_table.specs.declared.packet.Packet.{Packet}
use Rattle.board_table.specs.Layout.{LaneView}
use Rattle.board_table.specs.Carrying.{AreNext, sent_base, with_sent}
use Rattle.board_table.specs.Knowing.{Mine, held, packets_out, Moves}
use Rattle.board_table.specs.Plays.{Publishes}
use Rattle.board.specs.declared.ends.Outgoing.{Outgoing}
use Rattle.board.specs.Known.{IsOutgoing, Did}
use Rattle.board.specs.Sending.{sends_of}
use Rattle.board.specs.Parts.{MayPut, HasSlots}
use Rattle.board.specs.declared.sending_several.Prepared.{Prepared}
use Rattle.board.specs.SendingMany.{IsDiffTo, IsPrepared, AreFilled}
use Rattle.board.proofs.EndLemmas.{outgoing_later}
use Rattle.board.proofs.DidLemmas.{did_move}
use Rattle.board.proofs.OneSend.{known_many, recorder_saw, line_saw, closed_saw}
use Rattle.board.proofs.SeveralSends.{IsSender, is_sender, sends_after, sends_are, contents, sent_are, carried_contents, names_of, names_are, last_base, recorder_sends, end_sends}

-- The call knew what m knows, and then saw what s knows. f has the packets xs of the messages ms in its slots.
pub record Fills (l : LaneView) (m s f : Mine) (r : RecorderView) (u : Outgoing) (ms : List Content) (xs : List Packet) : Type 0 where
  pub legal : IsLegal l.instances l.capacity (held m).seen
  pub its : own (held m).seen l.sender ≡ (held m).made
  pub did : Did l.instances l.capacity l.sender (held m) (held s) (held s).seen []
  pub recorder : IsRecorder l.instances (held m).seen l.sender r
  pub end : IsOutgoing l.instances (held s).seen l.sender l.receiver u
  pub number : (held s).number ≡ l.sender
  pub kept : held f ≡ held s
  pub filled : packets_out f ≡ xs
  pub are : contents xs ≡ ms

-- what is prepared and then filled, over any base for the first difference, is filled over the lane's base
pub prepared_filled : (base : List ℕ) (r q v : RecorderView) (to : ℕ) (ms : List Content) (it : Prepared) (xs : List Packet) → IsPrepared base r ms it q → ((b : List ℕ) → IsDiffTo b it.first (send_clock q) → AreFilled b q to ms xs v) → AreFilled base q to ms xs v
prepared_filled base r q v to ms it xs prepared filled = filled base (subst (λ (z : RecorderView). IsDiffTo base it.first (send_clock z)) (sym prepared.room) prepared.first)

-- with packets whose sends the recorder has recorded
pub fills_of : (l : LaneView) (m s f : Mine) (r q v : RecorderView) (e u : Outgoing) (ms : List Content) (it : Prepared) → MayPut l (length ms) m e r → Did l.instances l.capacity l.sender (held m) (held s) (held s).seen [] → IsOutgoing l.instances (held s).seen l.sender l.receiver u
    → HasSlots l (length ms) s → IsPrepared u.base r ms it q → held f ≡ held s → AreFilled u.base q l.receiver ms (packets_out f) v → Fills l m s f q u ms (packets_out f)
fills_of l m s f r q v e u ms it may did end slots prepared kept are = record {
  legal = may.legal;
  its = may.own;
  did = did;
  recorder = subst (λ (z : RecorderView). IsRecorder l.instances (held m).seen l.sender z) (sym prepared.room) (record { line = may.recorded.line; knowledge = may.recorded.knowledge; receives = may.recorded.receives; reports = may.recorded.reports });
  end = end;
  number = slots.filling.post.number;
  kept = kept;
  filled = refl;
  are = carried_contents u.base (packets_out f) are.parcels are.carried ∙ are.messages_are;
}

-- the recorder has recorded the sends of these messages
pub recorded_is : (base : List ℕ) (q v : RecorderView) (to : ℕ) (ms : List Content) (xs : List Packet) → AreFilled base q to ms xs v → v ≡ after_sends q to (names_of ms)
recorded_is base q v to ms xs are = are.recorded ∙ ap (after_sends q to) (names_are are.parcels ∙ ap names_of are.messages_are)

-- with one packet, which carries its message with the sender's next clock
pub fills_one : (l : LaneView) (m s f : Mine) (r : RecorderView) (e u : Outgoing) (message : Content) (x : Packet) → MayPut l 1 m e r → Did l.instances l.capacity l.sender (held m) (held s) (held s).seen [] → IsOutgoing l.instances (held s).seen l.sender l.receiver u
    → HasSlots l 1 s → held f ≡ held s → packets_out f ≡ packets_out s ++ x ∷ [] → x.message ≡ message → Fills l m s f r u (message ∷ []) (x ∷ [])
fills_one l m s f r e u message x may did end slots kept filled same = record {
  legal = may.legal;
  its = may.own;
  did = did;
  recorder = may.recorded;
  end = end;
  number = slots.filling.post.number;
  kept = kept;
  filled = filled ∙ ap (λ (xs : List Packet). xs ++ x ∷ []) slots.unfilled;
  are = ap (λ (one : Content). one ∷ []) same;
}

module _ (l : LaneView) (m s f : Mine) (r : RecorderView) (u : Outgoing) (ms : List Content) (xs : List Packet) (fills : Fills l m s f r u ms xs) where
  as_many : length xs ≡ length ms
  as_many = sym (length-map xs (λ (x : Packet). x.message)) ∙ ap length fills.are

  pub count_is : (count : ℕ) → count ≡ u.put + length ms → count ≡ length (sent (held f).seen l.sender l.receiver) + length (packets_out f)
  count_is count put =
      let sends = ap (λ (y : Held). length (sent y.seen l.sender l.receiver)) fills.kept in
      omega (arith, put, fills.end.put, sends, ap length fills.filled, as_many)

  pub unclosed : is_closed (held m).seen l.sender l.receiver ≡ false → is_closed (held f).seen l.sender l.receiver ≡ false
  unclosed open_lane = ap (λ (y : Held). is_closed y.seen l.sender l.receiver) fills.kept ∙ closed_saw l.instances l.capacity l.sender (held m) (held s) fills.legal fills.its fills.did l.receiver ∙ open_lane

  pub short : length (chart_of (held m).seen l.sender) + length ms ≤ MAX_EVENTS → length (chart_of (held f).seen l.sender) + length (packets_out f) ≤ MAX_EVENTS
  short room =
      let line = ap (λ (y : Held). chart_of y.seen l.sender) fills.kept ∙ line_saw l.instances l.capacity l.sender (held m) (held s) fills.legal fills.its fills.did in
      omega (arith, ap length line, ap length fills.filled, as_many, room)

  saw : IsRecorder l.instances (held s).seen l.sender r
  saw = recorder_saw l.instances l.capacity l.sender (held m) (held s) fills.legal fills.its fills.did r fills.recorder

  pub sender : IsSender l.instances (held s).seen l.sender r
  sender = is_sender l.instances (held s).seen l.sender r saw

  pub next : AreNext l.instances u.base (held s).seen l.sender l.receiver xs → AreNext l.instances (sent_base l.instances (held f).seen l.sender l.receiver) (held f).seen l.sender l.receiver (packets_out f)
  next are =
      subst (λ (ys : List Packet). AreNext l.instances (sent_base l.instances (held f).seen l.sender l.receiver) (held f).seen l.sender l.receiver ys) (sym fills.filled)
      (subst (λ (y : Held). AreNext l.instances (sent_base l.instances y.seen l.sender l.receiver) y.seen l.sender l.receiver xs) (sym fills.kept)
      (subst (λ (b : List ℕ). AreNext l.instances b (held s).seen l.sender l.receiver xs) fills.end.base are))

  module _ (w : Mine) (publishes : Publishes l f w) where
    abbrev before : List Occurrence
    before = drop (length ms) (held w).seen

    moves : Moves l.instances l.capacity (held s) (held w) before (with_sent l.sender l.receiver xs)
    moves =
        subst (λ (i : ℕ). Moves l.instances l.capacity (held s) (held w) (drop i (held w).seen) (with_sent l.sender l.receiver xs)) as_many
        (subst (λ (y : Held). Moves l.instances l.capacity y (held w) (drop (length xs) (held w).seen) (with_sent l.sender l.receiver xs)) fills.kept
        (subst (λ (ys : List Packet). Moves l.instances l.capacity (held f) (held w) (drop (length ys) (held w).seen) (with_sent l.sender l.receiver ys)) fills.filled publishes.moves))

    sends : (h : List Occurrence) → with_sent l.sender l.receiver xs h ≡ sends_after l.sender l.receiver ms h
    sends h = sent_are l.sender l.receiver xs h ∙ ap (λ (cs : List Content). sends_after l.sender l.receiver cs h) fills.are

    seen_is : (held w).seen ≡ sends_after l.sender l.receiver ms before
    seen_is = moves.seen ∙ sends before

    pub did_send : Did l.instances l.capacity l.sender (held m) (held w) before (sends_of l.sender l.receiver ms)
    did_send = did_move l.instances l.capacity l.sender (held m) (held s) (held w) before (sends_of l.sender l.receiver ms) (with_sent l.sender l.receiver xs) fills.did fills.number (λ h. sends h ∙ sends_are l.sender l.receiver ms h) moves

    same_before : own before l.sender ≡ own (held s).seen l.sender
    same_before = subst (λ y. own before y ≡ (held s).made) fills.number moves.own_before ∙ sym fills.did.own

    recorder_before : IsRecorder l.instances before l.sender r
    recorder_before = same_recorder l.instances (held s).seen before moves.later l.capacity l.sender r fills.did.legal same_before saw

    pub recorder_sent : IsRecorder l.instances (held w).seen l.sender (after_sends r l.receiver (names_of ms))
    recorder_sent =
        subst (λ (h : List Occurrence). IsRecorder l.instances h l.sender (after_sends r l.receiver (names_of ms))) (sym seen_is)
        (recorder_sends l.instances l.capacity l.sender l.receiver ms before r (subst (IsLegal l.instances l.capacity) seen_is moves.legal) recorder_before)

    pub end_sent : (put : ℕ) → put ≡ u.put + length ms → IsOutgoing l.instances (held w).seen l.sender l.receiver (record u { put = put; base = last_base u.base r l.receiver ms })
    end_sent put many =
        let there = outgoing_later l.instances (held s).seen before l.sender l.receiver u moves.later same_before fills.end in
        let long = known_many l.instances l.capacity (held m).seen l.sender r fills.legal fills.recorder in
        subst (λ (h : List Occurrence). IsOutgoing l.instances h l.sender l.receiver (record u { put = put; base = last_base u.base r l.receiver ms })) (sym seen_is)
        (end_sends l.instances l.sender l.receiver ms before r u put (is_sender l.instances before l.sender r recorder_before) long there many)
