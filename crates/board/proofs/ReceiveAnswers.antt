-- What a post's receive leaves and answers.
use Rattle.std.proofs.Common.{◌≡◌, ◌≢◌, ℕ, zero, suc, ◌+◌, ◌-◌, ◌<◌, ◌≤◌, inl, inr, ◌⊎◌, List, [], ◌∷◌, ◌++◌, length, drop, set, replicate, get_or, sym, ap, ◌∙◌, subst, arith}
use Rattle.std.proofs.lemmas.List.{length-set}
use Rattle.std.proofs.lemmas.Option.{slice_get-get_or}
use Rattle.std.specs.Prelude.{slice_get, Some}
use Rattle.atomic_table.specs.Seated.{TableId}
use Rattle.chart.specs.declared.history.Occurrence.{Occurrence}
use Rattle.chart.specs.declared.history.Occurrence.TheVariants.{Receive}
use Rattle.chart.specs.Messages.{Content}
use Rattle.chart.specs.Events.{receive_event, MayHaveRegion}
use Rattle.chart.specs.Histories.{own, waiting, chart_of, AreTwo, IsLegal}
use Rattle.chart.proofs.Histories.{begins_onward}
use Rattle.chart.proofs.Regions.{may-again}
use Rattle.chart.proofs.Sends.{line_after_receive}
use Rattle.line_recorder.specs.Recorders.{RecorderView}
use Rattle.line_recorder.specs.Recording.{IsRecorder}
use Rattle.line_recorder.proofs.Carrying.{first_message}
use Rattle.board_core.proofs.OwnEvents.{same_line}
use Rattle.board_table.specs.declared.held.Held.{Held}
use Rattle.board_table.specs.Layout.{LaneView}
use Rattle.board_table.specs.Knowing.{Mine, held, Rests}
use Rattle.board.specs.declared.answer.Arrival.{Arrival}
use Rattle.board.specs.declared.answer.Stop.{Stop}
use Rattle.board.specs.declared.answer.Stop.TheVariants.{Asked, NoMore, Refused}
use Rattle.board.specs.declared.ends.Outgoing.{Outgoing}
use Rattle.board.specs.declared.ends.Incoming.{Incoming}
use Rattle.board.specs.declared.error.TakeError.{TakeError}
use Rattle.board.specs.declared.error.TakeError.TheVariants.{NoSuchInstance, ToItself, LineFull, Memory}
use Rattle.board.specs.Known.{IsIncoming, AreEndsBut, AreEnds, IsPost, Did, view_of}
use Rattle.board.specs.Found.{HasMessages}
use Rattle.board.specs.Receipts.{MayReceive, IsReceived, AreReceived, IsUnrecorded, IsStopped}
use Rattle.board.specs.Sending.{numbered}
use Rattle.board.specs.Taking.{IsGot, IsUntaken}
use Rattle.board.specs.TakingMany.{messages_of, AreGot, Stops}
use Rattle.board.proofs.EndLemmas.{ends_later, ends_received, ends_but}
use Rattle.board.proofs.OneSend.{saw_same, line_saw, recorder_saw}
use Rattle.board.proofs.PostLemmas.{knowledge, at_set}
use Rattle.board.proofs.SendAnswers.{did_makes}

-- the call first only saw, and then did this
pub did_onward : (n k p : ℕ) (e f g : Held) (before events : List Occurrence) → Did n k p e f f.seen [] → Did n k p f g before events → Did n k p e g before events
did_onward n k p e f g before events saw did = record {
  later = begins_onward e.seen f.seen before saw.later did.later;
  legal_before = did.legal_before;
  own_before = did.own_before ∙ saw.made;
  seen = did.seen;
  made = did.made ∙ ap (λ xs. events ++ xs) saw.made;
  legal = did.legal;
  own = did.own;
  looks = omega (arith, saw.looks, did.looks);
}

-- p's line may go on in a coregion after a receive in it
may_one : (n k p q c : ℕ) (h : List Occurrence) → IsLegal n k (Receive p q c ∷ h) → MayHaveRegion (chart_of h p) c → MayHaveRegion (chart_of (Receive p q c ∷ h) p) c
may_one n k p q c h legal may = go (first_message (waiting h q p) legal.0.1)
  where
    go : (m : Content) × (rest : List Content) × (waiting h q p ≡ m ∷ rest) → MayHaveRegion (chart_of (Receive p q c ∷ h) p) c
    go (m, rest, first) = subst (λ l. MayHaveRegion l c) (sym (line_after_receive h p q c m rest first)) (may-again (chart_of h p) (receive_event q m.name c) may)

-- and after several receives
may_several : (n k p q c many : ℕ) (h : List Occurrence) → IsLegal n k (replicate (suc many) (Receive p q c) ++ h) → MayHaveRegion (chart_of h p) c → MayHaveRegion (chart_of (replicate (suc many) (Receive p q c) ++ h) p) c
may_several n k p q c zero h legal may = may_one n k p q c h legal may
may_several n k p q c (suc many) h legal may = may_one n k p q c (replicate (suc many) (Receive p q c) ++ h) legal (may_several n k p q c many h legal.1 may)

-- the other ends after several receives at one end
ends_several : (n p q to_one c : ℕ) (outgoing : List Outgoing) (incoming : List Incoming) (many : ℕ) (h : List Occurrence) → AreEndsBut n h p to_one q outgoing incoming → AreEndsBut n (replicate many (Receive p q c) ++ h) p to_one q outgoing incoming
ends_several n p q to_one c outgoing incoming zero h old = old
ends_several n p q to_one c outgoing incoming (suc many) h old = ends_received n (replicate many (Receive p q c) ++ h) p q to_one c outgoing incoming (ends_several n p q to_one c outgoing incoming many h old)

-- an end is put at its place
with_incoming : (n : ℕ) (h : List Occurrence) (p j : ℕ) (e : Incoming) (outgoing : List Outgoing) (incoming : List Incoming) → j < length incoming → AreEndsBut n h p 0 (suc j) outgoing incoming → IsIncoming n h p (suc j) e → AreEnds n h p outgoing (set incoming j e)
with_incoming n h p j e outgoing incoming within old its = record {
  as_many = old.as_many;
  of_each = length-set incoming j e ∙ old.of_each;
  sends = old.sends;
  takes = λ i o ne other at_i. go i o ne (at_set incoming j i e o at_i);
}
  where
    go : (i : ℕ) (o : Incoming) → suc i ≢ p → ((i ≡ j) × (e ≡ o)) ⊎ ((i ≢ j) × (slice_get incoming i ≡ Some o)) → IsIncoming n h p (suc i) o
    go i o ne (inl (here, same)) = subst (λ (x : ℕ). IsIncoming n h p (suc x) o) (sym here) (subst (λ (x : Incoming). IsIncoming n h p (suc j) x) same its)
    go i o ne (inr (other, there)) = old.takes i o ne (λ same. other (omega arith)) there

module _ (m : Mine) (n k p : ℕ) (r : RecorderView) (region : ℕ) (outgoing : List Outgoing) (incoming : List Incoming) (post : IsPost m n k p (knowledge r region outgoing incoming)) where
  -- the end of the lane from an instance
  pub incoming_at : (from j : ℕ) (i : Incoming) → from ≡ suc j → from ≢ p → from ≤ n → i ≡ get_or incoming j i → IsIncoming n (held m).seen p from i
  incoming_at from j i place ne most read =
      let within : j < length incoming = let many = post.knows.ends.of_each in omega (arith, place, most) in
      let its : IsIncoming n (held m).seen p (suc j) i = post.knows.ends.takes j i (λ e. ne (place ∙ e)) (λ e. absurd (omega arith)) (slice_get-get_or incoming j i within ∙ ap Some (sym read)) in
      subst (λ (x : ℕ). IsIncoming n (held m).seen p x i) (sym place) its

  -- the post after it saw what s has seen
  module _ (s : Mine) (did : Did n k p (held m) (held s) (held s).seen []) where
    pub recorder_then : IsRecorder n (held s).seen p r
    recorder_then = recorder_saw n k p (held m) (held s) post.knows.legal post.made did r post.knows.own.recorder

    pub region_then : MayHaveRegion (chart_of (held s).seen p) region
    region_then = subst (λ l. MayHaveRegion l region) (sym (line_saw n k p (held m) (held s) post.knows.legal post.made did)) post.knows.own.region_fits

    -- the post may receive the found messages
    pub may_receive : (from : ℕ) (e : Incoming) → AreTwo n p from → HasMessages (record { instances = n; capacity = k; sender = from; receiver = p }) s → IsIncoming n (held s).seen p from e → MayReceive (record { instances = n; capacity = k; sender = from; receiver = p }) region s e r
    may_receive from e two found end = record { found = found; legal = did.legal; own = did.own; incoming = end; recorded = recorder_then; coregion = region_then; two = two }

  module _ (w : Mine) (u : RecorderView) (rests : Rests n k p w) (recorder : IsRecorder n (held w).seen p u) (j : ℕ) (e : Incoming) (within : j < length incoming) (end : IsIncoming n (held w).seen p (suc j) e) where
    -- the call that changed this end only saw, and made nothing
    pub post_looked : Did n k p (held m) (held w) (held w).seen [] → IsPost w n k p (knowledge u region outgoing (set incoming j e))
    post_looked did =
        let same = saw_same n k p (held m) (held w) post.knows.legal post.made did in
        let line = line_saw n k p (held m) (held w) post.knows.legal post.made did in
        let others = ends_later n k (held m).seen (held w).seen p 0 (suc j) outgoing incoming post.knows.legal did.later same (ends_but n (held m).seen p 0 (suc j) outgoing incoming post.knows.ends) in
        record {
          sized = post.sized;
          least = post.least;
          most = post.most;
          rests = rests;
          knows = record {
            legal = did.legal;
            own = record { recorder = recorder; region_fits = subst (λ l. MayHaveRegion l region) (sym line) post.knows.own.region_fits };
            ends = with_incoming n (held w).seen p j e outgoing incoming within others end;
          };
          made = did.own;
        }

    -- the call received one message or more
    pub post_received : (before : List Occurrence) (many : ℕ) → Did n k p (held m) (held w) before (replicate (suc many) (Receive p (suc j) region)) → IsPost w n k p (knowledge u region outgoing (set incoming j e))
    post_received before many did =
        let same : own before p ≡ own (held m).seen p = did.own_before ∙ sym post.made in
        let line : chart_of before p ≡ chart_of (held m).seen p = same_line n (held m).seen before did.later p same in
        let others = ends_later n k (held m).seen before p 0 (suc j) outgoing incoming post.knows.legal did.later same (ends_but n (held m).seen p 0 (suc j) outgoing incoming post.knows.ends) in
        let now : AreEndsBut n (held w).seen p 0 (suc j) outgoing incoming = subst (λ h. AreEndsBut n h p 0 (suc j) outgoing incoming) (sym did.seen) (ends_several n p (suc j) 0 region outgoing incoming (suc many) before others) in
        let start : MayHaveRegion (chart_of before p) region = subst (λ l. MayHaveRegion l region) (sym line) post.knows.own.region_fits in
        let may : MayHaveRegion (chart_of (held w).seen p) region = subst (λ h. MayHaveRegion (chart_of h p) region) (sym did.seen)
        (may_several n k p (suc j) region many before (subst (λ h. IsLegal n k h) did.seen did.legal) start) in
        record {
          sized = post.sized;
          least = post.least;
          most = post.most;
          rests = rests;
          knows = record {
            legal = did.legal;
            own = record { recorder = recorder; region_fits = may };
            ends = with_incoming n (held w).seen p j e outgoing incoming within now end;
          };
          made = did.own;
        }

  -- What the call answers.
  module _ (table : TableId) (from : ℕ) (two : AreTwo n p from) where
    abbrev lane : LaneView
    lane = record { instances = n; capacity = k; sender = from; receiver = p }

    by_cause : (w : Mine) (left : ℕ) (error : TakeError) → 0 < length (waiting (held w).seen from p) → IsUnrecorded (length (chart_of (held w).seen p)) error → IsUntaken (view_of table m n k p region r.room) from error (view_of table w n k p region left)
    by_cause w left NoSuchInstance waits never = absurd never
    by_cause w left ToItself waits never = absurd never
    by_cause w left LineFull waits full = (record { two = two; waits = waits }, full)
    by_cause w left Memory waits less = (record { two = two; waits = waits }, less)

    pub got : (s w : Mine) (left : ℕ) (arrival : Arrival) → Did n k p (held m) (held s) (held s).seen [] → IsReceived lane region s arrival w → left ≡ r.room - 1 → IsGot (view_of table m n k p region r.room) from arrival (view_of table w n k p region left)
    got s w left arrival saw its taken = record {
      two = two;
      makes = (drop 1 (held w).seen, its.first.0, did_makes table m w n k p region r.room (drop 1 (held w).seen) (Receive p from region ∷ []) (did_onward n k p (held m) (held s) (held w) (drop 1 (held w).seen) (Receive p from region ∷ []) saw its.did) left, its.first.1);
      sender = its.sender;
      receive = its.receive;
      report = its.report;
      room = taken;
    }

    pub got_many : (s w : Mine) (left : ℕ) (arrivals : List Arrival) → Did n k p (held m) (held s) (held s).seen [] → 0 < length arrivals → AreReceived lane region s arrivals w → left ≡ r.room - length arrivals → AreGot (view_of table m n k p region r.room) from arrivals (view_of table w n k p region left)
    got_many s w left arrivals saw some its taken =
        let events = replicate (length arrivals) (Receive p from region) in
        let line = ap length (line_saw n k p (held m) (held s) post.knows.legal post.made saw) in
        record {
          two = two;
          some = some;
          makes = (drop (length arrivals) (held w).seen, its.first.0, did_makes table m w n k p region r.room (drop (length arrivals) (held w).seen) events (did_onward n k p (held m) (held s) (held w) (drop (length arrivals) (held w).seen) events saw its.did) left, its.first.1);
          senders = its.senders;
          receives = its.receives ∙ ap (λ (i : ℕ). numbered p (i + 1) (messages_of arrivals)) line;
          reports = its.reports;
          room = taken;
        }

    pub stopped : (s w : Mine) (left most : ℕ) (arrivals : List Arrival) (stop : Stop) → Did n k p (held m) (held s) (held s).seen [] → AreReceived lane region s arrivals w → IsStopped lane most s arrivals w stop → Stops (view_of table m n k p region r.room) from most arrivals stop (view_of table w n k p region left)
    stopped s w left most arrivals Asked saw its is = is
    stopped s w left most arrivals NoMore saw its is =
        let events = replicate (length arrivals) (Receive p from region) in
        (is.0, record { front = ((held s).seen, saw.later, begins_onward (held s).seen (drop (length arrivals) (held w).seen) (held w).seen its.did.later (events, its.did.seen), is.1) })
    stopped s w left most arrivals (Refused error) saw its is = (is.0, by_cause w left error is.1 is.2)
