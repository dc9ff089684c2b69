-- If the verdict on a log's race is luck, some run has a moment at which the earlier receive could have had the later
-- message.
use Rattle.std.proofs.Common.{◌≡◌, ℕ, zero, suc, ◌+◌, ◌-◌, ◌<◌, ◌≤◌, ◌==◌, inl, inr, true, false, cond, List, [], Option, None, Some, length, refl, sym, ap, ◌∙◌, subst, arith, eqb-true}
use Rattle.std.specs.Prelude.{Contains, slice_get}
use Rattle.std.proofs.Math.Path.{fun_ext}
use Rattle.std.proofs.lemmas.Bool.{cases_lt, cases_eq, and_parts}
use Rattle.std.proofs.lemmas.Option.{same_Some}
use Rattle.std.proofs.lemmas.List.Elements.{All-contains, All-contains_itself, All-filter}
use Rattle.chart.specs.declared.history.Occurrence.{Occurrence}
use Rattle.chart.specs.Events.{is_send_to, is_receive_from, ith}
use Rattle.chart.specs.Histories.{chart_of}
use Rattle.chart.specs.Charts.{Chart, Place, IsReceiveFrom, BelongsTo, IsPossible}
use Rattle.chart.specs.Order.{IsEarlier, Before}
use Rattle.chart.specs.Order.Direct.{same_sender}
use Rattle.chart.specs.Order.Before.{direct}
use Rattle.chart.proofs.Belongs.{IsEvent-from_passes, same_place}
use Rattle.log_chart.specs.Begun.{begun}
use Rattle.log_chart.specs.Charts.ChartLines.{chart_from}
use Rattle.log_chart.specs.Entries.{is_send}
use Rattle.log_chart.specs.Fates.{stays, fate_of}
use Rattle.log_chart.specs.HostLines.{host_lines, kept}
use Rattle.log_chart.specs.Items.{item_of, message_of, received_message}
use Rattle.log_chart.specs.Laws.{AreOfLanes, line_of}
use Rattle.log_chart.specs.Matching.{matched}
use Rattle.log_chart.specs.NameOrder.{by_name}
use Rattle.log_chart.specs.declared.entry.Entry.{Entry}
use Rattle.log_chart.specs.declared.item.Item.{Item}
use Rattle.log_chart.specs.declared.item.MessageNo.{MessageNo}
use Rattle.log_chart.specs.declared.item.MessageNo.TheVariants as messages
use Rattle.log_chart.specs.declared.matching.LogLine.{LogLine}
use Rattle.log_chart.proofs.NameOrderLemmas.{are_up_to}
use Rattle.log_chart.proofs.ChartsLemmas.CycleLemmas.{IsMessage, message_is}
use Rattle.log_chart.proofs.ChartsLemmas.LineLemmas.{chart_of_log, host_is, host_of_event, item_of_event}
use Rattle.log_chart.proofs.ChartsLemmas.PlacedLemmas.{Placed, placed, items_placed, IsOf, placed_are}
use Rattle.log_chart.proofs.ChartsLemmas.PlacedLemmas.IsOf.{head, own, after}
use Rattle.log_chart.proofs.ChartsLemmas.TurnLemmas.{ith_of, event_sends}
use Rattle.race_verdicts.specs.Luck.Arrivals.{CameFirst}
use Rattle.race_verdicts.specs.Luck.Behind.{IsSentBefore, IsThere}
use Rattle.race_verdicts.specs.Luck.Laws.{IsOfEntries, IsReady, IsMoment, WouldHaveTakenAt, CouldComeNext}
use Rattle.race_verdicts.specs.Luck.Places.{host_items, item_at}
use Rattle.race_verdicts.specs.Luck.Recorded.{IsRecording}
use Rattle.race_verdicts.specs.Luck.Verdicts.{IsVerdict}
use Rattle.race_verdicts.specs.Luck.Verdicts.IsBegunBefore.{unlogged, itself}
use Rattle.race_verdicts.specs.Recordings.{RecordingView}
use Rattle.race_verdicts.specs.declared.verdict.Verdict.TheVariants as verdicts
use Rattle.race_verdicts.proofs.LuckLemmas.HostLemmas.{lines_rise, taken_once}
use Rattle.race_verdicts.proofs.LuckLemmas.LogLemmas.{line_at}
use Rattle.race_verdicts.proofs.LuckLemmas.MomentLemmas.{line_reached, run, moment, is_run, begins_run, line_came, not_yet, send_came, waits_still}
use Rattle.reordering.specs.OtherRuns.OtherRuns.{HasCome}

-- some run of a possible chart has such a moment
pub record HasMoment (n : ℕ) (c : Chart) (e s r : Place) : Type 0 where
  pub run : List Occurrence
  pub moment : List Occurrence
  pub is : IsMoment n c run moment
  pub ready : IsReady c moment e s r

pub has_moment : (n : ℕ) (c : Chart) → IsPossible n c → (s r e : Place) → BelongsTo c s r → IsEarlier e r → (Before c e r → ⊥) → HasMoment n c e s r
has_moment n c (h, k, legal, same) s r e =
    subst (λ d. BelongsTo d s r → IsEarlier e r → (Before d e r → ⊥) → HasMoment n d e s r) (fun_ext same)
    (λ belongs earlier apart.
    let here = IsEvent-from_passes (chart_of h) (is_receive_from s.instance) r belongs.received in
    let begun = earlier.begun in
    let less = earlier.less in
    let low : e.index - 1 ≤ length (chart_of h e.instance) = subst (λ p. e.index - 1 ≤ length (chart_of h p)) (sym earlier.line) (omega (arith, less, here.1)) in
    let w = line_reached h e.instance (e.index - 1) low in
    let ends : length (chart_of w.0 e.instance) + 1 ≡ e.index = omega (arith, w.2, begun) in
    record {
      run = run n k h legal s r belongs w.0 w.1;
      moment = moment n k h legal s r belongs w.0 w.1;
      is = record { is_run = is_run n k h legal s r belongs w.0 w.1; begins = begins_run n k h legal s r belongs w.0 w.1 };
      ready = record {
        earlier = line_came n k h legal s r belongs w.0 w.1 e earlier apart ends;
        not_yet = not_yet n k h legal s r belongs w.0 w.1 e earlier apart ends;
        sent = send_came n k h legal s r belongs w.0 w.1;
        waits = waits_still n k h legal s r belongs w.0 w.1 e earlier apart ends;
      };
    })

module _ (n : ℕ) (from to : ℕ → ℕ) (log : List Entry) (lanes : AreOfLanes from to log) (rec : RecordingView) (of : IsOfEntries n log rec) (keeps : IsRecording (chart_from log 1 (host_lines n log)) rec) where
  -- an event of a host is in the recording
  item_here : (f : Place) (x : Item) → 1 ≤ f.instance → f.instance ≤ n → ith (line_of n log f.instance) f.index ≡ Some x → item_at rec f ≡ Some x
  item_here f x low high is = go f.instance low high is
    where
      go : (p : ℕ) → 1 ≤ p → p ≤ n → ith (line_of n log p) f.index ≡ Some x → ith (host_items rec.hosts p) f.index ≡ Some x
      go zero one two here = absurd (omega (arith, one))
      go (suc p) one two here = ap (λ hosts. ith (host_items hosts (suc p)) f.index) of.events ∙ ap (λ items. ith items f.index) (host_is n log p [] (omega (arith, two))) ∙ here

  -- a kept line of the log is in the recording
  line_kept : (x : LogLine) → Contains (kept log) x → Contains rec.lines x
  line_kept x has =
      subst (λ l. Contains l x) (sym of.lines)
      (All-contains (Contains (matched log)) (kept log) x (All-filter (λ y. stays (fate_of (matched log) y)) (Contains (matched log)) (matched log) (All-contains_itself (matched log))) has)

  -- a logged event has a line
  pub record IsLineAt (q : ℕ) (i : Item) : Type 0 where
    pub line : LogLine
    pub among : Contains rec.lines line
    pub host : line.entry.host ≡ q
    pub is : i ≡ item_of line

  line_of_item : (q j : ℕ) (i : Item) (s : ℕ) → ith (line_of n log q) j ≡ Some i → i.message ≡ messages.Sent s → IsLineAt q i
  line_of_item q j i s is message = go w.0 w.2 (placed_are n (by_name n log) (are_up_to n log) (kept log) (begun (kept log)) q j w.0 w.1)
    where
      w : (w : Placed) × (ith (placed (by_name n log) (kept log) (begun (kept log)) q) j ≡ Some w) × (w.item ≡ i)
      w = ith_of (λ (v : Placed). v.item) (placed (by_name n log) (kept log) (begun (kept log)) q) j i (subst (λ l. ith l j ≡ Some i) (sym (items_placed (by_name n log) (kept log) (begun (kept log)) q)) is)

      never : (r : ℕ) → messages.Begun r ≡ messages.Sent s → IsLineAt q i
      never r e = absurd (cc e)

      go : (v : Placed) → v.item ≡ i → IsOf n (kept log) (begun (kept log)) q v → IsLineAt q i
      go v same (head p r low high there item none) = never r (ap (λ (x : Item). x.message) (sym item ∙ same) ∙ message)
      go v same (after y r y_in y_host there item stands) = never r (ap (λ (x : Item). x.message) (sym item ∙ same) ∙ message)
      go v same (own y y_in y_host item stands) = record { line = y; among = line_kept y y_in; host = y_host; is = sym same ∙ item }

  -- the line of a sent message is the one that identifies it
  sends_line : (x : LogLine) (s : ℕ) → is_send x.entry.kind ≡ true → message_of x ≡ messages.Sent s → x.number ≡ s
  sends_line x s sends message =
      let its : messages.Sent x.number ≡ messages.Sent s = sym (ap (λ b. cond b (messages.Sent x.number) (received_message x.number x.send)) sends) ∙ message in
      cc its

  takes_line : (x : LogLine) (s : ℕ) → is_send x.entry.kind ≡ false → message_of x ≡ messages.Sent s → x.send ≡ Some s
  takes_line x s receives message = go x.send (sym (ap (λ b. cond b (messages.Sent x.number) (received_message x.number x.send)) receives) ∙ message)
    where
      go : (t : Option ℕ) → received_message x.number t ≡ messages.Sent s → t ≡ Some s
      go None its = absurd (cc its)
      go (Some t) its = let same : t ≡ s = cc its in ap (λ k. Some k) same

  abbrev c : Chart
  c = chart_of_log n log

  -- the receiver of a send
  sent_to_host : (o d : Place) → BelongsTo c o d → (i : Item) → ith (line_of n log o.instance) o.index ≡ Some i → i.partner ≡ d.instance
  sent_to_host o d belongs i is =
      let x = item_of_event n log o belongs.sent.0 belongs.sent.1 in
      let same : x.0 ≡ i = same_Some x.0 i (sym x.1 ∙ is) in
      let parts = and_parts x.0.sends (x.0.partner == d.instance) (sym (event_sends log d.instance x.0) ∙ ap (is_send_to d.instance) x.2 ∙ belongs.sent.2) in
      sym (ap (λ (y : Item). y.partner) same) ∙ eqb-true x.0.partner d.instance parts.1

  module _ (s r e : Place) (belongs : BelongsTo c s r) (earlier : IsEarlier e r) (apart : Before c e r → ⊥) (v : IsVerdict (chart_from log 1 (host_lines n log)) rec r e verdicts.Luck) where
    r_in : (1 ≤ r.instance) × (r.instance ≤ n)
    r_in = host_of_event n log r belongs.received.0 belongs.received.1

    s_in : (1 ≤ s.instance) × (s.instance ≤ n)
    s_in = host_of_event n log s belongs.sent.0 belongs.sent.1

    m : IsMessage n from to log lanes s r
    m = message_is n from to log lanes s r belongs

    receive_same : v.receive ≡ m.receive
    receive_same = same_Some v.receive m.receive (sym v.receive_is ∙ item_here r m.receive r_in.0 r_in.1 m.receive_is)

    -- the send is logged
    sent_line : (ls : ℕ) × (m.send.message ≡ messages.Sent ls)
    sent_line = go m.send.message refl
      where
        go : (x : MessageNo) → m.send.message ≡ x → (ls : ℕ) × (m.send.message ≡ messages.Sent ls)
        go (messages.Sent ls) is = (ls, is)
        go (messages.Begun b) is = absurd (v.first verdicts.BegunInTheMiddle (omega arith) (itself b (ap (λ (i : Item). i.message) receive_same ∙ sym m.message ∙ is)))

    r_message : v.receive.message ≡ messages.Sent sent_line.0
    r_message = ap (λ (i : Item). i.message) receive_same ∙ sym m.message ∙ sent_line.1

    -- the earlier receive would have taken the message
    would_take : (WouldHaveTakenAt rec e s → ⊥) → ⊥
    would_take never = go v.earlier.line refl
      where
        go : (line : Option ℕ) → v.earlier.line ≡ line → ⊥
        go None is = v.first verdicts.BegunInTheMiddle (omega arith) (unlogged is)
        go (Some k) is =
            v.first verdicts.WouldNotTake (omega arith) (
              k,
              sent_line.0,
              record { line = is; send = r_message },
              λ takes. never (record {
                earlier = v.earlier;
                sent = m.send;
                earlier_is = v.earlier_is;
                sent_is = item_here s m.send s_in.0 s_in.1 m.send_is;
                k = k;
                s = sent_line.0;
                logged = record { line = is; send = sent_line.1 };
                takes = takes;
                kept = λ came. v.first verdicts.PassedOver (omega arith) (subst (λ x. CameFirst rec x v.earlier.message) (sym r_message) came);
              }),
            )

    module _ (moment : List Occurrence) (ready : IsReady c moment e s r) (o d : Place) (other : BelongsTo c o d) (on_line : d.instance ≡ r.instance) (before : IsEarlier o s) (still : HasCome c moment d → ⊥) (would : WouldHaveTakenAt rec e o) where
      o_in : (1 ≤ o.instance) × (o.instance ≤ n)
      o_in = host_of_event n log o other.sent.0 other.sent.1

      d_in : (1 ≤ d.instance) × (d.instance ≤ n)
      d_in = host_of_event n log d other.received.0 other.received.1

      om : IsMessage n from to log lanes o d
      om = message_is n from to log lanes o d other

      earlier_same : would.earlier ≡ v.earlier
      earlier_same = same_Some would.earlier v.earlier (sym would.earlier_is ∙ v.earlier_is)

      sent_same : would.sent ≡ om.send
      sent_same = same_Some would.sent om.send (sym would.sent_is ∙ item_here o om.send o_in.0 o_in.1 om.send_is)

      o_message : om.send.message ≡ messages.Sent would.s
      o_message = let logged = would.logged in ap (λ (i : Item). i.message) (sym sent_same) ∙ logged.send

      -- the lines of both sends and of the receive
      o_line : IsLineAt o.instance om.send
      o_line = line_of_item o.instance o.index om.send would.s om.send_is o_message

      s_line : IsLineAt s.instance m.send
      s_line = line_of_item s.instance s.index m.send sent_line.0 m.send_is sent_line.1

      d_line : IsLineAt d.instance om.receive
      d_line = line_of_item d.instance d.index om.receive would.s om.receive_is (sym om.message ∙ o_message)

      o_sends : is_send o_line.line.entry.kind ≡ true
      o_sends = ap (λ (i : Item). i.sends) (sym o_line.is) ∙ om.sends

      s_sends : is_send s_line.line.entry.kind ≡ true
      s_sends = ap (λ (i : Item). i.sends) (sym s_line.is) ∙ m.sends

      o_number : o_line.line.number ≡ would.s
      o_number = sends_line o_line.line would.s o_sends (ap (λ (i : Item). i.message) (sym o_line.is) ∙ o_message)

      s_number : s_line.line.number ≡ sent_line.0
      s_number = sends_line s_line.line sent_line.0 s_sends (ap (λ (i : Item). i.message) (sym s_line.is) ∙ sent_line.1)

      d_takes : d_line.line.send ≡ Some would.s
      d_takes = takes_line d_line.line would.s (ap (λ (i : Item). i.sends) (sym d_line.is) ∙ om.receives) (ap (λ (i : Item). i.message) (sym d_line.is) ∙ sym om.message ∙ o_message)

      -- the receive is later than e
      later : e.index < d.index
      later = elim (cases_lt d.index e.index) [
        | inl less ↦ absurd (still (ready.earlier d (record { line = on_line ∙ sym earlier.line; begun = (IsEvent-from_passes c (is_receive_from o.instance) d other.received).0; less = less })))
        | inr low ↦
            elim (cases_eq d.index e.index) [
              | inr differs ↦ omega (arith, low, differs)
              | inl same ↦
                  let one : d ≡ e = same_place d e (on_line ∙ sym earlier.line) same in
                  let own : IsReceiveFrom c s.instance e = subst (λ q. IsReceiveFrom c q e) before.line (subst (λ x. IsReceiveFrom c o.instance x) one other.received) in
                  absurd (apart (direct (same_sender s.instance earlier own belongs.received)))
            ]
      ]

      e_event : ith (line_of n log d.instance) e.index ≡ Some v.earlier
      e_event = go e.instance (earlier.line ∙ sym on_line) v.earlier_is
        where
          go : (p : ℕ) → p ≡ d.instance → ith (host_items rec.hosts p) e.index ≡ Some v.earlier → ith (line_of n log d.instance) e.index ≡ Some v.earlier
          go zero same is = absurd (let low = d_in.0 in omega (arith, low, same))
          go (suc p) same is =
              subst (λ q. ith (line_of n log q) e.index ≡ Some v.earlier) same
              (sym (ap (λ hosts. ith (host_items hosts (suc p)) e.index) of.events ∙ ap (λ items. ith items e.index) (host_is n log p [] (let high = d_in.1 in omega (arith, high, same)))) ∙ is)

      late : would.k < d_line.line.number
      late =
          let logged = would.logged in
          lines_rise n log d.instance e.index d.index v.earlier om.receive would.k d_line.line.number e_event om.receive_is later (ap (λ (i : Item). i.line) (sym earlier_same) ∙ logged.line) (ap (λ (i : Item). i.line) d_line.is)

      sent_before : IsSentBefore rec would.s sent_line.0
      sent_before = record {
        line = o_line.line;
        is = subst (λ k. slice_get rec.lines k ≡ Some o_line.line) o_number (line_at rec.lines keeps.log o_line.line o_line.among);
        later = s_line.line;
        later_is = subst (λ k. slice_get rec.lines k ≡ Some s_line.line) s_number (line_at rec.lines keeps.log s_line.line s_line.among);
        sends = o_sends;
        sender = o_line.host ∙ before.line ∙ sym s_line.host;
        receiver =
            ap (λ (i : Item). i.partner) (sym o_line.is) ∙ sent_to_host o d other om.send om.send_is ∙ on_line ∙ sym (sent_to_host s r belongs m.send m.send_is) ∙ ap (λ (i : Item). i.partner) s_line.is;
        before =
            let rise = lines_rise n log s.instance o.index s.index om.send m.send o_line.line.number s_line.line.number (subst (λ q. ith (line_of n log q) o.index ≡ Some om.send) before.line om.send_is) m.send_is before.less
            (ap (λ (i : Item). i.line) o_line.is) (ap (λ (i : Item). i.line) s_line.is) in
            omega (arith, rise, o_number, s_number);
      }

      there : IsThere rec would.k would.s
      there = record {
        taker = d_line.line;
        among = d_line.among;
        takes = d_takes;
        late = λ x has takes.
            let one : x ≡ d_line.line = taken_once from to log lanes x d_line.line would.s (subst (λ l. Contains l x) of.lines has) (subst (λ l. Contains l d_line.line) of.lines d_line.among) takes d_takes in
            subst (λ (y : LogLine). would.k ≤ y.number) (sym one) (omega (arith, late));
      }

      pub never_behind : ⊥
      never_behind =
          let logged = would.logged in
          v.first verdicts.BehindAnother (omega arith) (
            would.k,
            sent_line.0,
            record { line = ap (λ (i : Item). i.line) (sym earlier_same) ∙ logged.line; send = r_message },
            record {
              other = would.s;
              sent = sent_before;
              would = record {
                there = there;
                takes = would.takes;
                kept = subst (λ (i : Item). CameFirst rec (messages.Sent would.s) i.message → ⊥) earlier_same would.kept;
              };
            },
          )

    pub could_come_next : IsPossible n c → CouldComeNext n c rec e s r
    could_come_next possible =
        let w = has_moment n c possible s r e belongs earlier apart in
        record { run = w.run; moment = w.moment; is = w.is; ready = w.ready; takes = would_take; first = λ o d other on_line before still would. never_behind w.moment w.ready o d other on_line before still would }
