-- Several sends or receives on a lane, one directly after another.
use Rattle.std.proofs.Common.{◌≡◌, ◌≢◌, ℕ, ◌+◌, ◌<◌, ◌≤◌, false, List, [], ◌∷◌, ◌++◌, length, drop, map, refl, sym, ap, ◌∙◌, subst, arith, append-nil, append_assoc}
use Rattle.std.proofs.lemmas.List.{length-drop, length_push, drop-drop}
use Rattle.chart.specs.declared.history.Occurrence.{Occurrence}
use Rattle.chart.specs.declared.history.Occurrence.TheVariants.{Send, Receive}
use Rattle.chart.specs.declared.line.TheConstants.{MAX_EVENTS}
use Rattle.chart.specs.Events.{MayHaveRegion, send_event, receive_event}
use Rattle.chart.specs.Histories.{by, is_lane, sent, received, waiting, is_closed, chart_of, AreTwo, IsLegal}
use Rattle.chart.specs.Reports.{ReportView}
use Rattle.chart.proofs.Histories.{is_lane-same, received-le}
use Rattle.chart.proofs.Regions.{may-again}
use Rattle.chart.proofs.Sends.{line_after_send, line_after_receive}
use Rattle.chart.proofs.Steps.{line_of_other}
use Rattle.line_recorder.specs.Carried.{waiting_clocks}
use Rattle.line_recorder.specs.Recorders.{RecorderView, after_send, after_sends, after_receive}
use Rattle.line_recorder.specs.Recording.{IsRecorder}
use Rattle.line_recorder.proofs.Recording.{knowledge_of-other, send_clock-is, IsRecorder-send, IsRecorder-receive}
use Rattle.board_core.specs.Instances.{HaveClocks, IsInstance}
use Rattle.board_core.specs.Parcels.{Parcel, names, goods, next_clock}
use Rattle.board_core.specs.World.{with_sends, with_receives, after_receives}
use Rattle.board_core.specs.Runs.{AreAnswers}
use Rattle.board_core.proofs.GoodsLemmas.{goods_many, waiting_goods, waiting_goods_clocks}
use Rattle.board_core.proofs.Standing.{stands_idle}

-- another instance, after an event that isn't its own
pub beside : (n k : ℕ) (h : List Occurrence) (e : Occurrence) (s : ℕ) (r : RecorderView) (region : ℕ) → IsLegal n k h → s ≢ by e → IsInstance n h s r region → IsInstance n (e ∷ h) s r region
beside n k h e s r region legal ne old = stands_idle n k h (e ∷ h) s r region legal (e ∷ [], refl) (line_of_other h e s (λ same. ne (sym same))) (knowledge_of-other n h e s ne) old

-- the effect on a history of q's sends of these parcels to p, with q's recorder afterwards
pub record AreSent (n k q p : ℕ) (h g : List Occurrence) (xs : List Parcel) (r : RecorderView) : Type 0 where
  pub legal : IsLegal n k g
  pub recorder : IsRecorder n g q r
  pub here : goods n g q p ≡ goods n h q p ++ xs
  pub there : (a b : ℕ) → is_lane q p a b ≡ false → goods n g a b ≡ goods n h a b
  pub received : (a b : ℕ) → received g a b ≡ received h a b
  pub closed : (a b : ℕ) → is_closed g a b ≡ is_closed h a b
  pub others : (s : ℕ) (o : RecorderView) (region : ℕ) → s ≢ q → IsInstance n h s o region → IsInstance n g s o region

pub several_sent : (n k q p : ℕ) (h : List Occurrence) (r : RecorderView) (xs : List Parcel) → AreTwo n q p → IsLegal n k h → is_closed h q p ≡ false → IsRecorder n h q r → HaveClocks r p xs → length (goods n h q p) + length xs ≤ received h q p + k → length (chart_of h q) + length xs ≤ MAX_EVENTS
    → AreSent n k q p h (with_sends h q p xs) xs (after_sends r p (names xs))
several_sent n k q p h r [] two legal unclosed its clocks room short = record {
  legal = legal;
  recorder = its;
  here = sym (append-nil (goods n h q p));
  there = λ a b other. refl;
  received = λ a b. refl;
  closed = λ a b. refl;
  others = λ s o region ne old. old;
}
several_sent n k q p h r (x ∷ xs) two legal unclosed its (clock, clocks) room short =
    let e : Occurrence = Send q p x.message in
    let many = goods_many n h q p in
    let free : length (waiting h q p) < k = omega (arith, many, length-drop (received h q p) (sent h q p), received-le n k h legal q p) in
    let now : IsLegal n k (e ∷ h) = ((two, unclosed, free, omega arith), legal) in
    let one : goods n (e ∷ h) q p ≡ goods n h q p ++ x ∷ [] = sent_one (clock ∙ send_clock-is n h q r its) in
    let line = ap length (line_after_send h q p x.message) ∙ length_push (chart_of h q) (send_event p x.message.name) in
    let done = several_sent n k q p (e ∷ h) (after_send r p x.message.name) xs two now unclosed (IsRecorder-send n k h q p x.message r legal its) clocks (omega (arith, ap length one, length_push (goods n h q p) x)) (omega (arith, line)) in
    record {
      legal = done.legal;
      recorder = done.recorder;
      here = done.here ∙ ap (λ ys. ys ++ xs) one ∙ append_assoc (goods n h q p) (x ∷ []) xs;
      there = λ a b other. done.there a b other ∙ beside_lane a b other;
      received = done.received;
      closed = done.closed;
      others = λ s o region ne old. done.others s o region ne (beside n k h e s o region legal ne old);
    }
  where
    sent_one : x.clock ≡ next_clock n h q → goods n (Send q p x.message ∷ h) q p ≡ goods n h q p ++ x ∷ []
    sent_one same = rw (is_lane-same q p) (ap (λ c. goods n h q p ++ record { message = x.message; clock = c } ∷ []) (sym same))

    beside_lane : (a b : ℕ) → is_lane q p a b ≡ false → goods n (Send q p x.message ∷ h) a b ≡ goods n h a b
    beside_lane a b other = rw other

-- the effect on a history of p's receives of `many` parcels from q, with p's recorder afterwards
pub record AreReceived (n k q p region many : ℕ) (h g : List Occurrence) (r : RecorderView) : Type 0 where
  pub legal : IsLegal n k g
  pub own : IsInstance n g p r region
  pub goods : (a b : ℕ) → goods n g a b ≡ goods n h a b
  pub here : received g q p ≡ received h q p + many
  pub there : (a b : ℕ) → is_lane q p a b ≡ false → received g a b ≡ received h a b
  pub closed : (a b : ℕ) → is_closed g a b ≡ is_closed h a b
  pub others : (s : ℕ) (o : RecorderView) (c : ℕ) → s ≢ p → IsInstance n h s o c → IsInstance n g s o c

pub several_received : (n k q p region : ℕ) (h : List Occurrence) (r : RecorderView) (xs rest : List Parcel) (reports : List ReportView) → AreTwo n p q → IsLegal n k h → IsInstance n h p r region → AreAnswers r q region xs reports → drop (received h q p) (goods n h q p) ≡ xs ++ rest → length (chart_of h p) + length xs ≤ MAX_EVENTS
    → AreReceived n k q p region (length xs) h (with_receives h p q region xs) (after_receives r q region xs reports)
several_received n k q p region h r [] rest reports two legal its answers next short = record {
  legal = legal;
  own = its;
  goods = λ a b. refl;
  here = omega arith;
  there = λ a b other. refl;
  closed = λ a b. refl;
  others = λ s o c ne old. old;
}
several_received n k q p region h r (x ∷ xs) rest [] two legal its answers next short = absurd answers
several_received n k q p region h r (x ∷ xs) rest (report ∷ reports) two legal its (answer, answers) next short =
    let e : Occurrence = Receive p q region in
    let messages = map (λ (y : Parcel). y.message) (xs ++ rest) in
    let first : waiting h q p ≡ x.message ∷ messages = waiting_goods n h q p (x ∷ xs ++ rest) next in
    let stamp : waiting_clocks n h q p ≡ x.clock ∷ map (λ (y : Parcel). y.clock) (xs ++ rest) = waiting_goods_clocks n h q p (x ∷ xs ++ rest) next in
    let some : 0 < length (waiting h q p) = omega (arith, ap length first) in
    let now : IsLegal n k (e ∷ h) = ((two, some, omega arith, its.region_fits), legal) in
    let line = line_after_receive h p q region x.message messages first in
    let line_event = receive_event q x.message.name region in
    let recorded = IsRecorder-receive n k h p q region x.message messages x.clock (map (λ (y : Parcel). y.clock) (xs ++ rest)) r report legal two.0 two.1 first stamp answer its.recorder in
    let own : IsInstance n (e ∷ h) p (after_receive r q x.message.name region x.clock report) region = record { recorder = recorded; region_fits = subst (λ l. MayHaveRegion l region) (sym line) (may-again (chart_of h p) line_event its.region_fits) } in
    let one : received (e ∷ h) q p ≡ received h q p + 1 = received_one in
    let onward : drop (received (e ∷ h) q p) (goods n (e ∷ h) q p) ≡ xs ++ rest = ap (λ i. drop i (goods n h q p)) one ∙ sym (drop-drop 1 (received h q p) (goods n h q p)) ∙ ap (drop 1) next in
    let done = several_received n k q p region (e ∷ h) (after_receive r q x.message.name region x.clock report) xs rest reports two now own answers onward (omega (arith, ap length line, length_push (chart_of h p) line_event)) in
    record {
      legal = done.legal;
      own = done.own;
      goods = done.goods;
      here = omega (arith, done.here, one);
      there = λ a b other. done.there a b other ∙ beside_lane a b other;
      closed = done.closed;
      others = λ s o c ne old. done.others s o c ne (beside n k h e s o c legal ne old);
    }
  where
    received_one : received (Receive p q region ∷ h) q p ≡ received h q p + 1
    received_one = rw (is_lane-same q p)

    beside_lane : (a b : ℕ) → is_lane q p a b ≡ false → received (Receive p q region ∷ h) a b ≡ received h a b
    beside_lane a b other = rw other
