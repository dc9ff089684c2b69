-- Messages of a lane, received one directly after another.
use mathlib.Core.List.{map-map}
use Rattle.std.proofs.Common.{◌≡◌, ℕ, zero, suc, ◌+◌, ◌-◌, ◌<◌, ◌≤◌, List, [], ◌∷◌, ◌++◌, length, map, take, drop, replicate, get_or, refl, sym, ap, ap₂, ◌∙◌, subst, arith, inl, inr, length-append, append-nil, append_assoc}
use Rattle.std.specs.Prelude.{All}
use Rattle.std.proofs.lemmas.List.{length_push, length-map, map-append, drop-map, drop-drop, drop-append-le, take-append-le}
use Rattle.std.proofs.lemmas.List.Elements.{All-nil, All-push, All-head, All-tail, All-cons}
use Rattle.chart.specs.declared.history.Occurrence.{Occurrence}
use Rattle.chart.specs.declared.history.Occurrence.TheVariants.{Receive}
use Rattle.chart.specs.declared.instance.EventNo.{EventNo}
use Rattle.chart.specs.declared.line.TheConstants.{MAX_EVENTS}
use Rattle.chart.specs.Charts.{LineView}
use Rattle.chart.specs.Events.{receive_event, MayHaveRegion}
use Rattle.chart.specs.Messages.{Content}
use Rattle.chart.specs.Histories.{own, sent, received, waiting, chart_of, IsLegal}
use Rattle.chart.specs.Reports.{ReportView, IsReportIn}
use Rattle.chart.proofs.Histories.{begins_onward, same_received, received-le, sent_begins-le}
use Rattle.chart.proofs.Tally.{ith_at_drop}
use Rattle.line_recorder.specs.Carried.{clocks_of}
use Rattle.line_recorder.specs.Recorders.{RecorderView, after_receive, IsReportOf}
use Rattle.line_recorder.specs.Recording.{IsRecorder}
use Rattle.line_recorder.proofs.Carrying.{carried_entries}
use Rattle.board_core.specs.Parcels.{Parcel, goods}
use Rattle.board_core.specs.Instances.{IsInstance}
use Rattle.board_core.specs.World.{with_receives, after_receives}
use Rattle.board_core.specs.Runs.{AreAnswers}
use Rattle.board_core.specs.Differences.{zeros}
use Rattle.board_core.proofs.GoodsLemmas.{goods_many, goods_grow, goods_clocks, waiting_goods as goods_waiting}
use Rattle.board_core.proofs.OwnEvents.{same_line, same_instance}
use Rattle.board_core.proofs.Several.{AreReceived as Received, several_received}
use Rattle.board_core.proofs.Knowledge.{reports_received}
use Rattle.board_table.specs.declared.held.Held.{Held}
use Rattle.board_table.specs.declared.packet.Packet.{Packet}
use Rattle.board_table.specs.Layout.{LaneView}
use Rattle.board_table.specs.Carrying.{Carries, AreCarried, last_clock, with_received}
use Rattle.board_table.specs.Knowing.{Mine, held, packets_out, vacant_out, IsEmptying, Moves, waiting_goods, emptied_base, at_rest}
use Rattle.board_table.specs.Plays.{PutsBack, Frees}
use Rattle.board_table.specs.Recording.{IsReady, IsRecorded}
use Rattle.board.specs.declared.answer.Arrival.{Arrival}
use Rattle.board.specs.declared.answer.Stop.{Stop}
use Rattle.board.specs.declared.answer.Stop.TheVariants.{Asked, NoMore, Refused}
use Rattle.board.specs.declared.ends.Incoming.{Incoming}
use Rattle.board.specs.declared.error.TakeError.{TakeError}
use Rattle.board.specs.Known.{IsIncoming, Did}
use Rattle.board.specs.Found.{KnowsOf}
use Rattle.board.specs.Receipts.{MayReceive, MayTake, IsTaking, ReceiverView, IsTaken, reports_of, AreTaken, IsUnrecorded, IsReceived, AreReceived, IsUnreceived, IsHalted, IsStopped}
use Rattle.board.specs.Sending.{numbered}
use Rattle.board.specs.TakingMany.{messages_of}
use Rattle.board.proofs.DidLemmas.{did_nothing, did_put_back, did_move, waiting_many}
use Rattle.board.proofs.Claiming.{last_clock-push, sent_within}
use Rattle.board.proofs.Closes.{line_short}
use Rattle.board.proofs.Finding.{nil_of}
use Rattle.board.proofs.OneSend.{known_many}

-- equal lists of one element have equal elements
one_is : {X : Type 0} (x y : X) → x ∷ [] ≡ y ∷ [] → x ≡ y
one_is x y e = ap (λ xs. get_or xs 0 x) e

-- the first `r` elements and one more
take_first : {X : Type 0} (r : ℕ) (xs : List X) (y : X) (ys : List X) → drop r xs ≡ y ∷ ys → take (suc r) xs ≡ take r xs ++ y ∷ []
take_first zero xs y ys e = ap (take 1) e
take_first (suc r) [] y ys e = absurd (omega (arith, ap length e))
take_first (suc r) (x ∷ xs) y ys e = ap (λ zs. x ∷ zs) (take_first r xs y ys e)

-- what holds for all elements holds for the last ones
all_behind : {X : Type 0} (P : X → Type 0) (xs ys : List X) → All P (xs ++ ys) → All P ys
all_behind P [] ys are = are
all_behind P (x ∷ xs) ys are = all_behind P xs ys (All-tail P x (xs ++ ys) are)

-- what holds for all elements of a mapped list holds for each image
all_mapped : {X Y : Type 0} (P : Y → Type 0) (f : X → Y) (xs : List X) → All P (map f xs) → All (λ x. P (f x)) xs
all_mapped P f [] are = All-nil (λ x. P (f x))
all_mapped P f (x ∷ xs) are = All-cons (λ x. P (f x)) x xs (All-head P (f x) (map f xs) are) (all_mapped P f xs (All-tail P (f x) (map f xs) are))

-- Several receives of a lane, as a list.

around : (many : ℕ) (e : Occurrence) (h : List Occurrence) → replicate many e ++ e ∷ h ≡ e ∷ (replicate many e ++ h)
around zero e h = refl
around (suc many) e h = ap (λ xs. e ∷ xs) (around many e h)

received_list : (p q c many : ℕ) (h : List Occurrence) → with_received p q c many h ≡ replicate many (Receive p q c) ++ h
received_list p q c zero h = refl
received_list p q c (suc many) h = received_list p q c many (Receive p q c ∷ h) ∙ around many (Receive p q c) h

received_these : (p q c : ℕ) (xs : List Parcel) (h : List Occurrence) → with_receives h p q c xs ≡ with_received p q c (length xs) h
received_these p q c [] h = refl
received_these p q c (x ∷ xs) h = received_these p q c xs (Receive p q c ∷ h)

-- A recorder's answers and state, with one more receive.

module _ (q c : ℕ) where
  answers-push : (r : RecorderView) (xs : List Parcel) (reports : List ReportView) (x : Parcel) (report : ReportView) → AreAnswers r q c xs reports → IsReportOf (after_receives r q c xs reports) q c x.clock report → AreAnswers r q c (xs ++ x ∷ []) (reports ++ report ∷ [])
  answers-push r [] [] x report are its = (its, tt)
  answers-push r [] (other ∷ reports) x report are its = absurd are
  answers-push r (y ∷ ys) [] x report are its = absurd are
  answers-push r (y ∷ ys) (other ∷ reports) x report are its = (are.0, answers-push (after_receive r q y.message.name c y.clock other) ys reports x report are.1 its)

  after-push : (r : RecorderView) (xs : List Parcel) (reports : List ReportView) (x : Parcel) (report : ReportView) → AreAnswers r q c xs reports → after_receives r q c (xs ++ x ∷ []) (reports ++ report ∷ []) ≡ after_receive (after_receives r q c xs reports) q x.message.name c x.clock report
  after-push r [] [] x report are = refl
  after-push r [] (other ∷ reports) x report are = absurd are
  after-push r (y ∷ ys) [] x report are = absurd are
  after-push r (y ∷ ys) (other ∷ reports) x report are = after-push (after_receive r q y.message.name c y.clock other) ys reports x report are.1

  -- its line has one more event for each receive
  after_many : (r : RecorderView) (xs : List Parcel) (reports : List ReportView) → AreAnswers r q c xs reports → length (after_receives r q c xs reports).line.events ≡ length r.line.events + length xs
  after_many r [] [] are = omega arith
  after_many r [] (other ∷ reports) are = absurd are
  after_many r (y ∷ ys) [] are = absurd are
  after_many r (y ∷ ys) (other ∷ reports) are =
      let rest = after_many (after_receive r q y.message.name c y.clock other) ys reports are.1 in
      omega (arith, rest, length_push r.line.events (receive_event q y.message.name c))

  -- its room has one place fewer for each receive
  room_many : (r : RecorderView) (xs : List Parcel) (reports : List ReportView) → AreAnswers r q c xs reports → (after_receives r q c xs reports).room ≡ r.room - length xs
  room_many r [] [] are = omega arith
  room_many r [] (other ∷ reports) are = absurd are
  room_many r (y ∷ ys) [] are = absurd are
  room_many r (y ∷ ys) (other ∷ reports) are = let rest = room_many (after_receive r q y.message.name c y.clock other) ys reports are.1 in omega (arith, rest)

  -- the receives are numbered by these events
  answers_numbered : (r : RecorderView) (xs : List Parcel) (reports : List ReportView) (index : ℕ) → length r.line.events + 1 ≡ index → AreAnswers r q c xs reports → map (λ (report : ReportView). report.receive) reports ≡ numbered r.line.instance index (map (λ (x : Parcel). x.message) xs)
  answers_numbered r [] [] index at are = refl
  answers_numbered r [] (other ∷ reports) index at are = absurd are
  answers_numbered r (y ∷ ys) [] index at are = absurd are
  answers_numbered r (y ∷ ys) (report ∷ reports) index at are =
      let rest = answers_numbered (after_receive r q y.message.name c y.clock report) ys reports (index + 1) (omega (arith, at, length_push r.line.events (receive_event q y.message.name c))) are.1 in
      ap₂ (λ (e : EventNo) (es : List EventNo). e ∷ es) (are.0.receive ∙ ap (λ (i : ℕ). record { instance = r.line.instance; index = i }) at) rest

abbrev pub receiving : Mine → Incoming → RecorderView → ReceiverView
receiving me end recorder = record { me = me; end = end; recorder = recorder }

-- Messages are out with the receiver, as the seat t has it.
module _ (l : LaneView) (t : Mine) (o : Incoming) (taking : IsTaking l t o) (legal : IsLegal l.instances l.capacity (held t).seen) where
  abbrev goods_then : List Parcel
  goods_then = goods l.instances (held t).seen l.sender l.receiver

  abbrev passed : ℕ
  passed = received (held t).seen l.sender l.receiver + vacant_out t

  abbrev First : Packet → Type 0
  First x = (y : Parcel) × (ys : List Parcel) × (waiting_goods l t ≡ y ∷ ys) × Carries o.base x y

  -- the first packet has the first parcel
  first_good : (x : Packet) (xs : List Packet) → packets_out t ≡ x ∷ xs → First x
  first_good x xs are = go (waiting_goods l t) refl
      (subst (λ (ps : List Packet). AreCarried o.base ps (waiting_goods l t)) are
      (subst (λ (b : List ℕ). AreCarried b (packets_out t) (waiting_goods l t)) (sym taking.base) taking.emptying.carried))
    where
      go : (ys : List Parcel) → waiting_goods l t ≡ ys → AreCarried o.base (x ∷ xs) ys → First x
      go [] e never = absurd never
      go (y ∷ ys) e carried = (y, ys, e, carried.0)

  good_long : (y : Parcel) (ys : List Parcel) → waiting_goods l t ≡ y ∷ ys → length y.clock ≡ l.instances
  good_long y ys e =
      let clocks : drop passed (clocks_of l.instances (held t).seen l.sender l.receiver) ≡ y.clock ∷ map (λ (z : Parcel). z.clock) ys =
      ap (drop passed) (sym (goods_clocks l.instances (held t).seen l.sender l.receiver)) ∙ drop-map (λ (z : Parcel). z.clock) passed goods_then ∙ ap (map (λ (z : Parcel). z.clock)) e in
      carried_entries l.instances l.capacity (held t).seen legal l.sender l.receiver passed y.clock (ith_at_drop passed (clocks_of l.instances (held t).seen l.sender l.receiver) y.clock (map (λ (z : Parcel). z.clock) ys) clocks)

  pub taken_few : o.taken ≤ MAX_EVENTS
  taken_few = omega (arith, taking.taken, taking.emptying.waiting, sent_within (held t).seen l.sender l.receiver, line_short l.instances l.capacity (held t).seen legal l.sender)

  -- the first message is taken out, as w has it
  pub next_taken : (w : Mine) (x : Packet) (clock : List ℕ) (region : ℕ) (r v : RecorderView) (arrival : Arrival) → IsEmptying l w → held w ≡ held t → packets_out t ≡ x ∷ packets_out w → vacant_out w ≡ suc (vacant_out t) → IsRecorded (packets_out t) o.base r (record { from = l.sender; region = region; clock = clock; report = arrival.report }) v → arrival.from ≡ l.sender → arrival.message ≡ x.message
      → IsTaken l region (receiving t o r) arrival (receiving w (record o { taken = o.taken + 1; base = clock }) v)
  next_taken w x clock region r v arrival emptying kept took vacant recorded sender message =
      let good = first_good x (packets_out w) took in
      let same = ap (λ (y : Held). received y.seen l.sender l.receiver) kept in
      let goods_now = ap (λ (y : Held). goods l.instances y.seen l.sender l.receiver) kept in
      let onward : received (held w).seen l.sender l.receiver + vacant_out w ≡ passed + 1 = omega (arith, same, vacant) in
      let next : passed + 1 ≡ suc passed = omega arith in
      let stamp : clock ≡ good.0.clock = sym (recorded.clock_is x (packets_out w) took) ∙ good.3.clock in
      let rest : waiting_goods l w ≡ good.1 = ap₂ (λ (i : ℕ) (xs : List Parcel). drop i xs) onward goods_now ∙ sym (drop-drop 1 passed goods_then) ∙ ap (drop 1) good.2 in
      let base : emptied_base l w ≡ good.0.clock =
      ap₂ (λ (i : ℕ) (xs : List Parcel). last_clock (zeros l.instances) (take i xs)) (onward ∙ next) goods_now ∙ ap (last_clock (zeros l.instances)) (take_first passed goods_then good.0 good.1 good.2) ∙ last_clock-push (zeros l.instances) (take passed goods_then) good.0 in
      record {
        taking = record {
          emptying = emptying;
          taken = omega (arith, taking.taken, onward);
          base = stamp ∙ sym base;
          long = ap length stamp ∙ good_long good.0 good.1 good.2;
        };
        kept = kept;
        parcel = good.0;
        took = good.2 ∙ ap (λ (ys : List Parcel). good.0 ∷ ys) (sym rest);
        out = omega (arith, vacant);
        sender = sender;
        message = message ∙ good.3.message;
        report = subst (λ (c : List ℕ). IsReportOf r l.sender region c arrival.report) stamp recorded.report_is;
        recorder_is = recorded.recorded x (packets_out w) took ∙ ap₂ (λ (m : Content) (c : List ℕ). after_receive r l.sender m.name region c arrival.report) good.3.message stamp;
        known = refl;
      }

-- All messages that waited are out, as the seat s has it.
module _ (l : LaneView) (region : ℕ) (s : Mine) (u : Incoming) (r : RecorderView) (may : MayReceive l region s u r) where
  pub some_waits : 0 < length (waiting (held s).seen l.sender l.receiver)
  some_waits = let many = waiting_many l.instances l.capacity (held s).seen l.sender l.receiver may.legal in omega (arith, many, may.found.some, may.found.untaken, may.found.emptying.waiting)

  pub all_taking : IsTaking l s u
  all_taking =
      let none : received (held s).seen l.sender l.receiver ≡ received (held s).seen l.sender l.receiver + vacant_out s = omega (arith, may.found.untaken) in
      record {
        emptying = may.found.emptying;
        taken = omega (arith, may.incoming.taken, none);
        base = may.incoming.base ∙ ap (λ r. last_clock (zeros l.instances) (take r (goods l.instances (held s).seen l.sender l.receiver))) none;
        long = may.incoming.long;
      }

  -- the messages are back in their slots, for this cause
  pub back_unreceived : (t v : Mine) (error : TakeError) → held t ≡ held s → PutsBack t v → IsUnrecorded (length r.line.events) error → IsUnreceived l s v error
  back_unreceived t v error kept back cause =
      let same : v ≡ (at_rest (held s) ∷ [], []) = back ∙ ap (λ (e : Held). (at_rest e ∷ [], [])) kept in
      subst (λ (x : Mine). IsUnreceived l s x error) (sym same) (record {
        did = did_put_back l.instances l.capacity l.receiver (held s) (held s) (at_rest (held s)) (held s).seen [] (did_nothing l.instances l.capacity l.receiver (held s) may.legal may.own) refl;
        waits = some_waits;
        cause = subst (λ (i : ℕ). IsUnrecorded i error) (ap (λ (line : LineView). length line.events) may.recorded.line) cause;
      })

  -- the recorder is as it was
  pub back_recorder : (t v : Mine) → held t ≡ held s → PutsBack t v → IsRecorder l.instances (held v).seen l.receiver r
  back_recorder t v kept back =
      subst (λ (x : Mine). IsRecorder l.instances (held x).seen l.receiver r) (sym back)
      (subst (λ (e : Held). IsRecorder l.instances e.seen l.receiver r) (sym kept) may.recorded)

  -- no message was taken out yet
  pub none_taken : AreTaken l region (receiving s u r) [] (receiving s u r)
  none_taken =
      let none : received (held s).seen l.sender l.receiver ≡ received (held s).seen l.sender l.receiver + vacant_out s = omega (arith, may.found.untaken) in
      record {
        taking = all_taking;
        kept = refl;
        parcels = [];
        took = ap (λ (i : ℕ). drop i (goods l.instances (held s).seen l.sender l.receiver)) none;
        out = may.found.untaken;
        senders = All-nil (λ (arrival : Arrival). arrival.from ≡ l.sender);
        messages = refl;
        answers = tt;
        recorder_is = refl;
        short = let line = ap (λ (line : LineView). length line.events) may.recorded.line in omega (arith, line, line_short l.instances l.capacity (held s).seen may.legal l.receiver);
        known = refl;
      }

  -- These messages were taken out, as t has it.
  module _ (arrivals : List Arrival) (t : Mine) (o : Incoming) (v : RecorderView) (are : AreTaken l region (receiving s u r) arrivals (receiving t o v)) where
    pub as_many : length are.parcels ≡ length arrivals
    as_many = sym (length-map are.parcels (λ (x : Parcel). x.message)) ∙ ap length (sym are.messages) ∙ length-map arrivals (λ (arrival : Arrival). arrival.message)

    -- no message was taken out, and so nothing is recorded
    pub none_recorded : length arrivals ≡ 0 → v ≡ r
    none_recorded none = are.recorder_is ∙ go are.parcels (as_many ∙ none)
      where
        go : (xs : List Parcel) → length xs ≡ 0 → after_receives r l.sender region xs (reports_of arrivals) ≡ r
        go [] e = refl
        go (x ∷ xs) e = absurd (omega (arith, e))

    pub room_left : v.room ≡ r.room - length arrivals
    room_left =
        let rest = ap (λ (x : RecorderView). x.room) are.recorder_is ∙ room_many l.sender region r are.parcels (reports_of arrivals) are.answers in
        omega (arith, rest, as_many)

    line_then : length v.line.events ≡ length (chart_of (held s).seen l.receiver) + length arrivals
    line_then =
        let line = ap (λ (line : LineView). length line.events) may.recorded.line in
        let grown = ap (λ (x : RecorderView). length x.line.events) are.recorder_is ∙ after_many l.sender region r are.parcels (reports_of arrivals) are.answers in
        omega (arith, line, grown, as_many)

    -- the history and recorder after their receives, from a history that the recorder has recorded
    receives_at : (h : List Occurrence) (more : List Parcel) → IsLegal l.instances l.capacity h → IsInstance l.instances h l.receiver r region → chart_of h l.receiver ≡ chart_of (held s).seen l.receiver → drop (received h l.sender l.receiver) (goods l.instances h l.sender l.receiver) ≡ are.parcels ++ more
        → Received l.instances l.capacity l.sender l.receiver region (length are.parcels) h (with_receives h l.receiver l.sender region are.parcels) (after_receives r l.sender region are.parcels (reports_of arrivals))
    receives_at h more legal_h its line next =
        several_received l.instances l.capacity l.sender l.receiver region h r are.parcels more (reports_of arrivals) may.two legal_h its are.answers next
        (let same = ap length line in omega (arith, same, line_then, are.short, as_many))

    ready : IsReady l region v
    ready =
        let h = (held s).seen in
        let done = receives_at h (waiting_goods l t) may.legal (record { recorder = may.recorded; region_fits = may.coregion }) refl are.took in
        let its = done.own.recorder in
        subst (λ (x : RecorderView). IsReady l region x) (sym are.recorder_is) (record {
          its = ap (λ (line : LineView). line.instance) its.line;
          knows = known_many l.instances l.capacity (with_receives h l.receiver l.sender region are.parcels) l.receiver (after_receives r l.sender region are.parcels (reports_of arrivals)) done.legal its;
          region_fits = subst (λ (line : LineView). MayHaveRegion line.events region) (sym its.line) done.own.region_fits;
        })

    -- a known message is still out
    pub more_out : length arrivals < u.known_put - u.taken → 0 < length (packets_out t)
    more_out less =
        let there = ap (λ (e : Held). length (sent e.seen l.sender l.receiver)) are.kept in
        let here = ap (λ (e : Held). received e.seen l.sender l.receiver) are.kept in
        omega (arith, less, there, here, are.taking.emptying.waiting, are.out, may.incoming.taken, may.incoming.known)

    -- the next message may be taken out
    pub may_take : 0 < length (packets_out t) → length v.line.events < MAX_EVENTS → MayTake l region t o v
    may_take some short = record {
      taking = are.taking;
      some = some;
      legal = subst (λ (e : Held). IsLegal l.instances l.capacity e.seen) (sym are.kept) may.legal;
      ready = ready;
      short = short;
      two = may.two;
    }

    -- one more message is taken out
    pub one_more : (w : Mine) (i : Incoming) (x : RecorderView) (arrival : Arrival) → length v.line.events < MAX_EVENTS → IsTaken l region (receiving t o v) arrival (receiving w i x) → AreTaken l region (receiving s u r) (arrivals ++ arrival ∷ []) (receiving w i x)
    one_more w i x arrival less its =
        let reports = map-append (λ (a : Arrival). a.report) arrivals (arrival ∷ []) in
        record {
          taking = its.taking;
          kept = its.kept ∙ are.kept;
          parcels = are.parcels ++ its.parcel ∷ [];
          took = are.took ∙ ap (λ (ys : List Parcel). are.parcels ++ ys) its.took ∙ sym (append_assoc are.parcels (its.parcel ∷ []) (waiting_goods l w));
          out = omega (arith, its.out, are.out, length_push arrivals arrival);
          senders = All-push (λ (a : Arrival). a.from ≡ l.sender) arrivals arrival are.senders its.sender;
          messages = map-append (λ (a : Arrival). a.message) arrivals (arrival ∷ []) ∙ ap₂ (λ (ms : List Content) (m : Content). ms ++ m ∷ []) are.messages its.message ∙ sym (map-append (λ (y : Parcel). y.message) are.parcels (its.parcel ∷ []));
          answers = subst (λ (rs : List ReportView). AreAnswers r l.sender region (are.parcels ++ its.parcel ∷ []) rs) (sym reports)
              (answers-push l.sender region r are.parcels (reports_of arrivals) its.parcel arrival.report are.answers
              (subst (λ (y : RecorderView). IsReportOf y l.sender region its.parcel.clock arrival.report) are.recorder_is its.report));
          recorder_is = its.recorder_is ∙ ap (λ (y : RecorderView). after_receive y l.sender its.parcel.message.name region its.parcel.clock arrival.report) are.recorder_is
              ∙ sym (after-push l.sender region r are.parcels (reports_of arrivals) its.parcel arrival.report are.answers) ∙ ap (λ (rs : List ReportView). after_receives r l.sender region (are.parcels ++ its.parcel ∷ []) rs) (sym reports);
          short =
              let line = ap (λ (y : RecorderView). length y.line.events) its.recorder_is in
              omega (arith, line, less, length_push v.line.events (receive_event l.sender its.parcel.message.name region));
          known = its.known ∙ are.known;
        }

    pub free_short : length (chart_of (held t).seen l.receiver) + vacant_out t ≤ MAX_EVENTS
    free_short =
        let same = ap (λ (e : Held). length (chart_of e.seen l.receiver)) are.kept in
        omega (arith, same, are.out, line_then, are.short)

    -- The messages are received, as w has it.
    module _ (w : Mine) (frees : Frees l region t w) where
      abbrev before : List Occurrence
      before = drop (length arrivals) (held w).seen

      abbrev receives : List Occurrence
      receives = replicate (length arrivals) (Receive l.receiver l.sender region)

      moves : Moves l.instances l.capacity (held s) (held w) before (with_received l.receiver l.sender region (length arrivals))
      moves =
          subst (λ (e : Held). Moves l.instances l.capacity e (held w) before (with_received l.receiver l.sender region (length arrivals))) are.kept
          (subst (λ (many : ℕ). Moves l.instances l.capacity (held t) (held w) (drop many (held w).seen) (with_received l.receiver l.sender region many)) are.out frees.moves)

      pub all_did : Did l.instances l.capacity l.receiver (held s) (held w) before receives
      all_did = did_move l.instances l.capacity l.receiver (held s) (held s) (held w) before receives (with_received l.receiver l.sender region (length arrivals)) (did_nothing l.instances l.capacity l.receiver (held s) may.legal may.own)
          may.found.emptying.post.number (λ h. received_list l.receiver l.sender region (length arrivals) h) moves

      same_before : own before l.receiver ≡ own (held s).seen l.receiver
      same_before = all_did.own_before ∙ sym may.own

      -- the messages sent before that, and those that others sent since
      abbrev Grown : Type 0
      Grown = (more : List Parcel) × (goods l.instances before l.sender l.receiver ≡ goods l.instances (held s).seen l.sender l.receiver ++ more)

      grown : Grown
      grown = goods_grow l.instances (held s).seen before all_did.later l.sender l.receiver

      taken_before : received before l.sender l.receiver ≡ received (held s).seen l.sender l.receiver
      taken_before = same_received (held s).seen before l.sender l.receiver same_before

      abbrev rest : List Parcel
      rest = waiting_goods l t ++ grown.0

      waits_before : drop (received before l.sender l.receiver) (goods l.instances before l.sender l.receiver) ≡ are.parcels ++ rest
      waits_before =
          let few : received (held s).seen l.sender l.receiver ≤ length (goods l.instances (held s).seen l.sender l.receiver) =
          omega (arith, goods_many l.instances (held s).seen l.sender l.receiver, received-le l.instances l.capacity (held s).seen may.legal l.sender l.receiver) in
          ap₂ (λ (i : ℕ) (xs : List Parcel). drop i xs) taken_before grown.1
          ∙ drop-append-le (received (held s).seen l.sender l.receiver) (goods l.instances (held s).seen l.sender l.receiver) grown.0 few
          ∙ ap (λ (ys : List Parcel). ys ++ grown.0) are.took ∙ append_assoc are.parcels (waiting_goods l t) grown.0

      done : Received l.instances l.capacity l.sender l.receiver region (length are.parcels) before (with_receives before l.receiver l.sender region are.parcels) (after_receives r l.sender region are.parcels (reports_of arrivals))
      done = receives_at before rest all_did.legal_before
          (same_instance l.instances (held s).seen before all_did.later l.capacity l.receiver r region may.legal same_before (record { recorder = may.recorded; region_fits = may.coregion }))
          (same_line l.instances (held s).seen before all_did.later l.receiver same_before) waits_before

      seen_now : (held w).seen ≡ with_receives before l.receiver l.sender region are.parcels
      seen_now = moves.seen ∙ ap (λ (many : ℕ). with_received l.receiver l.sender region many before) (sym as_many) ∙ sym (received_these l.receiver l.sender region are.parcels before)

      pub all_recorder : IsRecorder l.instances (held w).seen l.receiver v
      all_recorder =
          subst (λ (h : List Occurrence). IsRecorder l.instances h l.receiver v) (sym seen_now)
          (subst (λ (x : RecorderView). IsRecorder l.instances (with_receives before l.receiver l.sender region are.parcels) l.receiver x) (sym are.recorder_is) done.own.recorder)

      line_now : length (chart_of (held w).seen l.receiver) ≡ length (chart_of (held s).seen l.receiver) + length arrivals
      line_now = sym (ap (λ (line : LineView). length line.events) all_recorder.line) ∙ line_then

      taken_now : received (held w).seen l.sender l.receiver ≡ received (held s).seen l.sender l.receiver + length arrivals
      taken_now = ap (λ (h : List Occurrence). received h l.sender l.receiver) seen_now ∙ done.here ∙ ap₂ (λ (i j : ℕ). i + j) taken_before as_many

      goods_now : goods l.instances (held w).seen l.sender l.receiver ≡ goods l.instances (held s).seen l.sender l.receiver ++ grown.0
      goods_now = ap (λ (h : List Occurrence). goods l.instances h l.sender l.receiver) seen_now ∙ done.goods l.sender l.receiver ∙ grown.1

      sent_now : length (sent (held s).seen l.sender l.receiver) ≤ length (sent (held w).seen l.sender l.receiver)
      sent_now = sent_begins-le (held s).seen (held w).seen (begins_onward (held s).seen before (held w).seen all_did.later (receives, all_did.seen)) l.sender l.receiver

      pub all_end : IsIncoming l.instances (held w).seen l.receiver l.sender o
      all_end =
          let here = ap (λ (e : Held). received e.seen l.sender l.receiver) are.kept in
          let there = ap (λ (e : Held). length (sent e.seen l.sender l.receiver)) are.kept in
          let many : received (held t).seen l.sender l.receiver + vacant_out t ≡ received (held w).seen l.sender l.receiver = omega (arith, here, are.out, taken_now) in
          let few : received (held w).seen l.sender l.receiver ≤ length (goods l.instances (held s).seen l.sender l.receiver) =
          omega (arith, taken_now, goods_many l.instances (held s).seen l.sender l.receiver, here, there, are.out, are.taking.emptying.waiting) in
          record {
            taken = are.taking.taken ∙ many;
            known = omega (arith, are.known, may.incoming.known, sent_now);
            base = are.taking.base ∙ ap₂ (λ (i : ℕ) (e : Held). last_clock (zeros l.instances) (take i (goods l.instances e.seen l.sender l.receiver))) many are.kept
                ∙ ap (last_clock (zeros l.instances)) (sym (ap (take (received (held w).seen l.sender l.receiver)) goods_now ∙ take-append-le (received (held w).seen l.sender l.receiver) (goods l.instances (held s).seen l.sender l.receiver) grown.0 few));
            long = are.taking.long;
          }

      pub first_waits : (rest : List Content) × (waiting before l.sender l.receiver ≡ messages_of arrivals ++ rest)
      first_waits =
          let message : Parcel → Content = λ (x : Parcel). x.message in (
            map (λ (x : Parcel). x.message) rest,
            goods_waiting l.instances before l.sender l.receiver (are.parcels ++ rest) waits_before ∙ map-append (λ (x : Parcel). x.message) are.parcels rest ∙ ap (λ (ms : List Content). ms ++ map (λ (x : Parcel). x.message) rest) (sym are.messages),
          )

      -- the waiting messages are fewer by the received ones
      pub more_waits : 0 < length (packets_out t) → 0 < length (waiting (held w).seen l.sender l.receiver)
      more_waits some =
          let here = ap (λ (e : Held). received e.seen l.sender l.receiver) are.kept in
          let there = ap (λ (e : Held). length (sent e.seen l.sender l.receiver)) are.kept in
          omega (arith, some, here, there, are.out, are.taking.emptying.waiting, taken_now, sent_now, waiting_many l.instances l.capacity (held w).seen l.sender l.receiver all_did.legal)

      -- these were all waiting messages if as many were known as were sent
      all_waited : length arrivals ≡ u.known_put - u.taken → u.known_put ≡ length (sent (held s).seen l.sender l.receiver) → waiting (held s).seen l.sender l.receiver ≡ messages_of arrivals
      all_waited known all =
          let left = map (λ (x : Parcel). x.message) (waiting_goods l t) in
          let waits : waiting (held s).seen l.sender l.receiver ≡ messages_of arrivals ++ left =
          goods_waiting l.instances (held s).seen l.sender l.receiver (are.parcels ++ waiting_goods l t) are.took ∙ map-append (λ (x : Parcel). x.message) are.parcels (waiting_goods l t) ∙ ap (λ (ms : List Content). ms ++ left) (sym are.messages) in
          let many = ap length waits ∙ length-append (messages_of arrivals) left in
          let of_these = length-map arrivals (λ (a : Arrival). a.message) in
          let none : left ≡ [] = nil_of left (omega (arith, many, of_these, known, all, may.incoming.taken, waiting_many l.instances l.capacity (held s).seen l.sender l.receiver may.legal)) in
          waits ∙ ap (λ (ms : List Content). messages_of arrivals ++ ms) none ∙ append-nil (messages_of arrivals)

      pub all_stopped : (most : ℕ) (stop : Stop) → KnowsOf l most s u → IsHalted most (u.known_put - u.taken) (length arrivals) (length v.line.events) stop → IsStopped l most s arrivals w stop
      all_stopped most Asked knows halted = halted
      all_stopped most NoMore knows halted = (halted.0, elim knows.enough [ inl many ↦ absurd (omega (arith, many, halted.0, halted.1)) | inr all ↦ all_waited halted.1 all ])
      all_stopped most (Refused error) knows halted = (halted.0, more_waits (more_out halted.1), subst (λ (i : ℕ). IsUnrecorded i error) (ap (λ (line : LineView). length line.events) all_recorder.line) halted.2)

      pub all_received : AreReceived l region s arrivals w
      all_received =
          let line = ap (λ (line : LineView). length line.events) may.recorded.line in
          let numbers = answers_numbered l.sender region r are.parcels (reports_of arrivals) (length (chart_of (held s).seen l.receiver) + 1) (omega (arith, line)) are.answers in
          let all = subst (λ (rs : List ReportView). All (IsReportIn (chart_of (held w).seen)) rs) (ap (λ (x : RecorderView). x.reports) are.recorder_is ∙ reports_received r l.sender region are.parcels (reports_of arrivals) are.answers) all_recorder.reports in
          record {
            did = all_did;
            first = first_waits;
            senders = are.senders;
            receives = sym (map-map (λ (report : ReportView). report.receive) (λ (a : Arrival). a.report) arrivals) ∙ numbers
                ∙ ap₂ (λ (i : ℕ) (ms : List Content). numbered i (length (chart_of (held s).seen l.receiver) + 1) ms) (ap (λ (line : LineView). line.instance) may.recorded.line) (sym are.messages);
            reports = all_mapped (IsReportIn (chart_of (held w).seen)) (λ (a : Arrival). a.report) arrivals (all_behind (IsReportIn (chart_of (held w).seen)) r.reports (reports_of arrivals) all);
          }

      -- the first message only
      pub one_received : (arrival : Arrival) → arrivals ≡ arrival ∷ [] → IsReceived l region s arrival w
      one_received arrival alone =
          let all : AreReceived l region s (arrival ∷ []) w = subst (λ (xs : List Arrival). AreReceived l region s xs w) alone all_received in
          let here = line_now ∙ ap (λ (xs : List Arrival). length (chart_of (held s).seen l.receiver) + length xs) alone in
          record {
            did = all.did;
            first = all.first;
            sender = All-head (λ (a : Arrival). a.from ≡ l.sender) arrival [] all.senders;
            receive = one_is arrival.report.receive (record { instance = l.receiver; index = length (chart_of (held s).seen l.receiver) + 1 }) all.receives ∙ ap (λ (i : ℕ). record { instance = l.receiver; index = i }) (sym here);
            report = All-head (λ (a : Arrival). IsReportIn (chart_of (held w).seen) a.report) arrival [] all.reports;
          }
