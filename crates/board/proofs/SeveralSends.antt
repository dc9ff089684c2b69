-- Several messages, sent one directly after another.
use Rattle.std.proofs.Common.{◌≡◌, ℕ, ◌+◌, ◌≤◌, List, [], ◌∷◌, ◌++◌, length, map, refl, sym, ap, ap₂, ◌∙◌, subst, arith, append_assoc}
use Rattle.std.proofs.lemmas.Bool.{eq-eqb}
use Rattle.std.proofs.lemmas.List.{reverse-append, length-append, length-map}
use Rattle.chart.specs.declared.history.Occurrence.{Occurrence}
use Rattle.chart.specs.declared.history.Occurrence.TheVariants.{Send}
use Rattle.chart.specs.Events.{send_event}
use Rattle.chart.specs.Charts.{LineView}
use Rattle.chart.specs.Messages.{Content}
use Rattle.chart.specs.Histories.{chart_of, IsLegal}
use Rattle.chart.proofs.Begun.{legal_begun}
use Rattle.chart.proofs.Sends.{line_after_send}
use Rattle.clock.specs.Clocks.{with_entry}
use Rattle.clock.specs.Diffs.{IsDiff}
use Rattle.line_recorder.specs.Carried.{knowledge_of}
use Rattle.line_recorder.specs.Recorders.{RecorderView, send_clock, after_send, after_sends}
use Rattle.line_recorder.specs.Recording.{IsRecorder}
use Rattle.clock.proofs.EntryLemmas.{length-with_entry, with_entry-with_entry}
use Rattle.line_recorder.proofs.Recording.{IsRecorder-send}
use Rattle.line_recorder.proofs.SendsLemmas.{after_sends_is}
use Rattle.board_core.specs.Instances.{HaveClocks}
use Rattle.board_core.specs.Parcels.{Parcel, next_clock, names}
use Rattle.board_table.specs.declared.packet.Packet.{Packet}
use Rattle.board_table.specs.Carrying.{Carries, AreCarried, AreNext, with_sent}
use Rattle.board.specs.declared.ends.Outgoing.{Outgoing}
use Rattle.board.specs.declared.ends.Incoming.{Incoming}
use Rattle.board.specs.Known.{IsOutgoing, AreEndsBut}
use Rattle.board.specs.Sending.{sends_of}
use Rattle.board.proofs.Claiming.{outgoing_sent}
use Rattle.board.proofs.EndLemmas.{ends_sent}

-- the history after p's sends of these to q
abbrev pub sends_after : ℕ → ℕ → List Content → List Occurrence → List Occurrence
sends_after p q [] h = h
sends_after p q (m ∷ ms) h = sends_after p q ms (Send p q m ∷ h)

pub sends_are : (p q : ℕ) (ms : List Content) (h : List Occurrence) → sends_after p q ms h ≡ sends_of p q ms ++ h
sends_are p q [] h = refl
sends_are p q (m ∷ ms) h = sends_are p q ms (Send p q m ∷ h) ∙ sym (append_assoc (sends_of p q ms) (Send p q m ∷ []) h) ∙ ap (λ es. es ++ h) (sym (reverse-append (Send p q m ∷ []) (map (Send p q) ms)))

-- the messages of packets
abbrev pub contents : List Packet → List Content
contents xs = map (λ (x : Packet). x.message) xs

pub sent_are : (p q : ℕ) (xs : List Packet) (h : List Occurrence) → with_sent p q xs h ≡ sends_after p q (contents xs) h
sent_are p q [] h = refl
sent_are p q (x ∷ xs) h = sent_are p q xs (Send p q x.message ∷ h)

-- they are the messages of the parcels that the packets carry
pub carried_contents : (base : List ℕ) (xs : List Packet) (ys : List Parcel) → AreCarried base xs ys → contents xs ≡ map (λ (y : Parcel). y.message) ys
carried_contents base [] [] are = refl
carried_contents base [] (y ∷ ys) are = absurd are
carried_contents base (x ∷ xs) [] are = absurd are
carried_contents base (x ∷ xs) (y ∷ ys) are = ap₂ (λ (m : Content) (ms : List Content). m ∷ ms) are.0.message (carried_contents y.clock xs ys are.1)

-- the names of messages
abbrev pub names_of : List Content → List (List ℕ)
names_of messages = map (λ (message : Content). message.name) messages

pub names_are : (ys : List Parcel) → names ys ≡ names_of (map (λ (y : Parcel). y.message) ys)
names_are [] = refl
names_are (y ∷ ys) = ap (λ (ns : List (List ℕ)). y.message.name ∷ ns) (names_are ys)

-- the recorder has p's line and what p knows
pub record IsSender (n : ℕ) (h : List Occurrence) (p : ℕ) (r : RecorderView) : Type 0 where
  pub line : r.line ≡ record { instance = p; events = chart_of h p }
  pub knowledge : r.knowledge ≡ knowledge_of n h p

pub is_sender : (n : ℕ) (h : List Occurrence) (p : ℕ) (r : RecorderView) → IsRecorder n h p r → IsSender n h p r
is_sender n h p r its = record { line = its.line; knowledge = its.knowledge }

sender_clock : (n : ℕ) (h : List Occurrence) (p : ℕ) (r : RecorderView) → IsSender n h p r → send_clock r ≡ next_clock n h p
sender_clock n h p r its = ap₂ (λ (l : LineView) (known : List ℕ). with_entry known l.instance (length l.events + 1)) its.line its.knowledge

sender_sent : (n : ℕ) (h : List Occurrence) (p q : ℕ) (m : Content) (r : RecorderView) → IsSender n h p r → IsSender n (Send p q m ∷ h) p (after_send r q m.name)
sender_sent n h p q m r its = record {
  line = rw (line_after_send h p q m) (ap (λ (l : LineView). record l { events = l.events ++ send_event q m.name ∷ [] }) its.line);
  knowledge = rw (eq-eqb p p refl) (sender_clock n h p r its);
}

-- a packet that carries a message with the sender's next clock is p's next send
pub next_one : (n p q : ℕ) (m : Content) (x : Packet) (base : List ℕ) (h : List Occurrence) (r : RecorderView) → IsSender n h p r → Carries base x (record { message = m; clock = send_clock r }) → AreNext n base h p q (x ∷ [])
next_one n p q m x base h r its carries =
    let clock = sender_clock n h p r its in
    (record { message = refl; within = carries.within; exact = subst (λ after. IsDiff base after x.diff) clock carries.exact; clock = carries.clock ∙ clock }, tt)

-- packets that carry messages with the clocks of their sends are p's next sends
pub carried_next : (n p q : ℕ) (xs : List Packet) (ys : List Parcel) (base : List ℕ) (h : List Occurrence) (r : RecorderView) → IsSender n h p r → AreCarried base xs ys → HaveClocks r q ys → AreNext n base h p q xs
carried_next n p q [] ys base h r its are clocks = tt
carried_next n p q (x ∷ xs) [] base h r its are clocks = absurd are
carried_next n p q (x ∷ xs) (y ∷ ys) base h r its are clocks =
    let clock : y.clock ≡ next_clock n h p = clocks.0 ∙ sender_clock n h p r its in
    let rest = subst (λ (m : Content). HaveClocks (after_send r q m.name) q ys) (sym are.0.message) clocks.1 in
    let onward = carried_next n p q xs ys y.clock (Send p q x.message ∷ h) (after_send r q x.message.name) (sender_sent n h p q x.message r its) are.1 rest in (
      record { message = refl; within = are.0.within; exact = subst (λ after. IsDiff base after x.diff) clock are.0.exact; clock = are.0.clock ∙ clock },
      subst (λ c. AreNext n c (Send p q x.message ∷ h) p q xs) clock onward,
    )

-- What the sends leave of p's recorder, its line and its ends.

pub recorder_sends : (n k p q : ℕ) (ms : List Content) (h : List Occurrence) (r : RecorderView) → IsLegal n k (sends_after p q ms h) → IsRecorder n h p r → IsRecorder n (sends_after p q ms h) p (after_sends r q (names_of ms))
recorder_sends n k p q [] h r legal its = its
recorder_sends n k p q (m ∷ ms) h r legal its =
    let before = legal_begun n k h (sends_after p q (m ∷ ms) h) (sends_of p q (m ∷ ms), sends_are p q (m ∷ ms) h) legal in
    recorder_sends n k p q ms (Send p q m ∷ h) (after_send r q m.name) legal (IsRecorder-send n k h p q m r before its)

-- the clock of the last send, or the base if there is no send
abbrev pub last_base : List ℕ → RecorderView → ℕ → List Content → List ℕ
last_base base r q [] = base
last_base base r q (m ∷ ms) = (after_sends r q (names_of (m ∷ ms))).knowledge

last_onward : (base : List ℕ) (r : RecorderView) (q : ℕ) (m : Content) (ms : List Content) → last_base (send_clock r) (after_send r q m.name) q ms ≡ last_base base r q (m ∷ ms)
last_onward base r q m [] = refl
last_onward base r q m (next ∷ ms) = refl

-- the last clock is the first one, stamped with the number of the last send's event
pub last_stamped : (base : List ℕ) (r : RecorderView) (q : ℕ) (ms : List Content) → 1 ≤ length ms → let v = after_sends r q (names_of ms) in with_entry (send_clock r) v.line.instance (length v.line.events) ≡ last_base base r q ms
last_stamped base r q [] some = absurd (omega arith)
last_stamped base r q (m ∷ ms) some =
    let all = names_of (m ∷ ms) in
    let v = after_sends r q all in
    let is = after_sends_is r q all in
    let sends = map (send_event q) all in
    let own : v.line.instance ≡ r.line.instance = ap (λ (x : RecorderView). x.line.instance) is in
    let many : length v.line.events ≡ length r.line.events + length all = ap (λ (x : RecorderView). length x.line.events) is ∙ omega (arith, length-append r.line.events sends, length-map all (send_event q)) in
    let knows : v.knowledge ≡ with_entry r.knowledge r.line.instance (length r.line.events + length all) = ap (λ (x : RecorderView). x.knowledge) is in
    ap (λ (i : ℕ). with_entry (send_clock r) i (length v.line.events)) own ∙ ap (λ (i : ℕ). with_entry (send_clock r) r.line.instance i) many
    ∙ with_entry-with_entry r.knowledge r.line.instance (length r.line.events + 1) (length r.line.events + length all) ∙ sym knows

pub end_sends : (n p q : ℕ) (ms : List Content) (h : List Occurrence) (r : RecorderView) (o : Outgoing) (put : ℕ) → IsSender n h p r → length r.knowledge ≡ n → IsOutgoing n h p q o → put ≡ o.put + length ms
    → IsOutgoing n (sends_after p q ms h) p q (record o { put = put; base = last_base o.base r q ms })
end_sends n p q [] h r o put its long old many =
    let same : put ≡ o.put = omega (arith, many) in
    record { put = same ∙ old.put; known = old.known; unsent = old.unsent; base = old.base; long = old.long }
end_sends n p q (m ∷ ms) h r o put its long old many =
    let same = length-with_entry r.knowledge r.line.instance (length r.line.events + 1) ∙ long in
    let one = outgoing_sent n h p q m (send_clock r) o old (sender_clock n h p r its) same in
    let all = end_sends n p q ms (Send p q m ∷ h) (after_send r q m.name) (record o { put = o.put + 1; base = send_clock r }) put (sender_sent n h p q m r its) same one (omega (arith, many)) in
    subst (λ (base : List ℕ). IsOutgoing n (sends_after p q ms (Send p q m ∷ h)) p q (record o { put = put; base = base })) (last_onward o.base r q m ms) all

pub ends_sends : (n p q from_one : ℕ) (ms : List Content) (h : List Occurrence) (outgoing : List Outgoing) (incoming : List Incoming) → AreEndsBut n h p q from_one outgoing incoming → AreEndsBut n (sends_after p q ms h) p q from_one outgoing incoming
ends_sends n p q from_one [] h outgoing incoming old = old
ends_sends n p q from_one (m ∷ ms) h outgoing incoming old = ends_sends n p q from_one ms (Send p q m ∷ h) outgoing incoming (ends_sent n h p q from_one m outgoing incoming old)
