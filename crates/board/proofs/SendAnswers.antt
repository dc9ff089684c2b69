-- What a post's send answers.
use Rattle.std.proofs.Common.{◌≡◌, ◌≢◌, ℕ, suc, ◌+◌, ◌<◌, ◌≤◌, false, List, [], length, get_or, refl, sym, ap, ◌∙◌, subst, arith}
use Rattle.std.proofs.lemmas.Option.{slice_get-get_or}
use Rattle.std.specs.Prelude.{Some}
use Rattle.atomic_table.specs.Seated.{TableId}
use Rattle.chart.specs.declared.history.Occurrence.{Occurrence}
use Rattle.chart.specs.declared.line.TheConstants.{MAX_EVENTS}
use Rattle.chart.specs.Histories.{is_closed, chart_of}
use Rattle.chart.proofs.Histories.{closed_own, begins_onward}
use Rattle.line_recorder.specs.Recorders.{RecorderView}
use Rattle.board_table.specs.Knowing.{Mine, held}
use Rattle.board.specs.declared.ends.Outgoing.{Outgoing}
use Rattle.board.specs.declared.ends.Incoming.{Incoming}
use Rattle.board.specs.Views.{Sound, Makes, Stays}
use Rattle.board.specs.Known.{IsOutgoing, IsPost, Did, view_of}
use Rattle.board_table.specs.Layout.{LaneView}
use Rattle.board.specs.declared.error.SendError.{SendError}
use Rattle.board.specs.declared.error.SendError.TheVariants.{NoSuchInstance, ToItself, InCoregion, Closed, TooMany, LineFull, Full, Memory}
use Rattle.board.specs.Parts.{MayPut, IsCause}
use Rattle.board.specs.Sending.{MaySend, MayPass, IsUnsent}
use Rattle.board.proofs.OneSend.{line_saw, closed_saw}
use Rattle.board.proofs.PostLemmas.{knowledge}

module _ (m : Mine) (n k p : ℕ) (r : RecorderView) (region : ℕ) (outgoing : List Outgoing) (incoming : List Incoming) (post : IsPost m n k p (knowledge r region outgoing incoming)) where
  -- the end of the lane to an instance
  pub outgoing_at : (to j : ℕ) (o : Outgoing) → to ≡ suc j → to ≢ p → to ≤ n → o ≡ get_or outgoing j o → IsOutgoing n (held m).seen p to o
  outgoing_at to j o place ne most read =
      let within : j < length outgoing = let many = post.knows.ends.as_many in omega (arith, place, most) in
      let its : IsOutgoing n (held m).seen p (suc j) o = post.knows.ends.sends j o (λ e. ne (place ∙ e)) (λ e. absurd (omega arith)) (slice_get-get_or outgoing j o within ∙ ap Some (sym read)) in
      subst (λ (x : ℕ). IsOutgoing n (held m).seen p x o) (sym place) its

  pub closed_made : (to : ℕ) (o : Outgoing) → IsOutgoing n (held m).seen p to o → is_closed (held m).made p to ≡ o.closed
  closed_made to o end = ap (λ h. is_closed h p to) (sym post.made) ∙ closed_own (held m).seen p to ∙ sym end.unsent

  -- nothing prevents the send except the line, the lane's slots and memory
  pub may_send : (table : TableId) (to j : ℕ) (o : Outgoing) → to ≡ suc j → to ≢ p → to ≤ n → o ≡ get_or outgoing j o → region ≡ 0 → o.closed ≡ false → MaySend (view_of table m n k p region r.room) to
  may_send table to j o place ne most read outside open_end = record {
    two = (post.least, post.most, omega (arith, place), most, λ e. ne (sym e));
    outside = outside;
    opened = closed_made to o (outgoing_at to j o place ne most read) ∙ open_end;
  }

  pub line_is : chart_of (held m).seen p ≡ r.line.events
  line_is = sym (ap (λ l. l.events) post.knows.own.recorder.line)

-- a post after a call
module _ (table : TableId) (m w : Mine) (n k p region room : ℕ) (before events : List Occurrence) (did : Did n k p (held m) (held w) before events) where
  pub did_sound : (after left : ℕ) → Sound (view_of table m n k p region room) (view_of table w n k p after left)
  did_sound after left = record {
    same = record { board = refl; number = refl };
    later = begins_onward (held m).seen before (held w).seen did.later (events, did.seen);
    legal = did.legal;
    own = did.own;
    looks = did.looks;
  }

  pub did_makes : (left : ℕ) → Makes (view_of table m n k p region room) before events (view_of table w n k p region left)
  did_makes left = record { later = did.later; seen = did.seen; made = did.made; region = refl }

-- a call that only saw leaves the post's own events as they were
pub did_stays : (table : TableId) (m w : Mine) (n k p region room left : ℕ) → Did n k p (held m) (held w) (held w).seen [] → left ≡ room → Stays (view_of table m n k p region room) (view_of table w n k p region left)
did_stays table m w n k p region room left did kept = record { made = did.made; region = refl; room = kept }

module _ (table : TableId) (m w : Mine) (n k p : ℕ) (r : RecorderView) (region : ℕ) (outgoing : List Outgoing) (incoming : List Incoming) (post : IsPost m n k p (knowledge r region outgoing incoming)) (to many : ℕ) (may : MayPass (view_of table m n k p region r.room) to many) where
  -- the lane is open in what is seen
  unclosed : is_closed (held m).seen p to ≡ false
  unclosed = sym (closed_own (held m).seen p to) ∙ ap (λ h. is_closed h p to) post.made ∙ may.allowed.opened

  -- the post may put the messages on the lane
  pub may_put : (end : Outgoing) → IsOutgoing n (held m).seen p to end → MayPut (record { instances = n; capacity = k; sender = p; receiver = to }) many m end r
  may_put end outgoing_end = record {
    rests = post.rests;
    legal = post.knows.legal;
    own = post.made;
    outgoing = outgoing_end;
    recorded = post.knows.own.recorder;
    unclosed = unclosed;
    short = may.short;
    two = may.allowed.two;
  }

  -- why `many` messages aren't sent
  pub unsent : (left : ℕ) (l : LaneView) → l ≡ record { instances = n; capacity = k; sender = p; receiver = to } → (error : SendError) → Did n k p (held m) (held w) (held w).seen [] → 0 < many → IsCause l many m w error → IsUnsent (view_of table m n k p region r.room) to many error (view_of table w n k p region left)
  unsent left l lane error did some = subst (λ (x : LaneView). IsCause x many m w error → IsUnsent (view_of table m n k p region r.room) to many error (view_of table w n k p region left)) (sym lane) (by_cases error)
    where
      short : length (chart_of (held w).seen p) + many ≤ MAX_EVENTS
      short = let line = line_saw n k p (held m) (held w) post.knows.legal post.made did in omega (arith, ap length line, may.short)

      by_cases : (e : SendError) → IsCause (record { instances = n; capacity = k; sender = p; receiver = to }) many m w e → IsUnsent (view_of table m n k p region r.room) to many e (view_of table w n k p region left)
      by_cases NoSuchInstance never = absurd never
      by_cases ToItself never = absurd never
      by_cases InCoregion never = absurd never
      by_cases Closed never = absurd never
      by_cases TooMany never = absurd never
      by_cases LineFull never = absurd never
      by_cases Full none = (
        may.allowed,
        may.within_capacity,
        short,
        record {
          waits = none.waits;
          opened = closed_saw n k p (held m) (held w) post.knows.legal post.made did to ∙ unclosed;
          before = none.before;
          looked = none.looked;
        },
      )
      by_cases Memory fit = (may.allowed, some, short, fit)
