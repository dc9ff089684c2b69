-- Histories that grow by several sends or receives on one lane, for any recorders.
use Rattle.std.proofs.Common.{◌≡◌, ◌≢◌, ℕ, zero, suc, ◌+◌, ◌<◌, ◌≤◌, false, List, [], ◌∷◌, ◌++◌, length, refl, sym, ap, ap₂, ◌∙◌, subst, arith, append-nil, append_assoc}
use Rattle.std.proofs.lemmas.List.{length-drop, length_push}
use Rattle.std.proofs.lemmas.Bool.{eq-eqb, ne_eqb}
use Rattle.chart.specs.declared.history.Occurrence.{Occurrence}
use Rattle.chart.specs.declared.history.Occurrence.TheVariants.{Send, Receive}
use Rattle.chart.specs.declared.line.TheConstants.{MAX_EVENTS}
use Rattle.chart.specs.Events.{MayHaveRegion, send_event, receive_event}
use Rattle.chart.specs.Messages.{Content}
use Rattle.chart.specs.Histories.{by, own, is_lane, sent, received, waiting, is_closed, chart_of, AreTwo, IsLegal, Begins}
use Rattle.chart.proofs.Histories.{is_lane-same, received-le, begins_same, begins_onward}
use Rattle.chart.proofs.Regions.{may-again}
use Rattle.chart.proofs.Sends.{line_after_send, line_after_receive}
use Rattle.clock.specs.Clocks.{with_entry}
use Rattle.line_recorder.specs.Carried.{knowledge_of}
use Rattle.board_core.specs.Parcels.{Parcel, next_clock, goods}
use Rattle.board_core.proofs.GoodsLemmas.{goods_many}
use Rattle.board_table.specs.declared.packet.Packet.{Packet}
use Rattle.board_table.specs.Carrying.{Carries, AreCarried, AreNext, with_sent, with_received}

-- one more event
pub own_here : (e : Occurrence) (h : List Occurrence) → own (e ∷ h) (by e) ≡ e ∷ own h (by e)
own_here e h = rw (eq-eqb (by e) (by e) refl)

pub own_there : (e : Occurrence) (h : List Occurrence) (b : ℕ) → b ≢ by e → own (e ∷ h) b ≡ own h b
own_there e h b other = rw (ne_eqb (by e) b (λ same. other (sym same)))

pub begins_event : (e : Occurrence) (h : List Occurrence) → Begins h (e ∷ h)
begins_event e h = (e ∷ [], refl)

-- what q's next sends carry depends only on its own line and on what it knows
pub next_anywhere : (n q p : ℕ) (xs : List Packet) (base : List ℕ) (h g : List Occurrence) → chart_of g q ≡ chart_of h q → knowledge_of n g q ≡ knowledge_of n h q → AreNext n base h q p xs → AreNext n base g q p xs
next_anywhere n q p [] base h g line knows are = tt
next_anywhere n q p (x ∷ xs) base h g line knows are =
    let clock : next_clock n h q ≡ next_clock n g q = ap₂ (λ known (m : ℕ). with_entry known q (m + 1)) (sym knows) (ap length (sym line)) in
    let onward = next_anywhere n q p xs (next_clock n h q) (Send q p x.message ∷ h) (Send q p x.message ∷ g) (line_after_send g q p x.message ∙ ap (λ l. l ++ send_event p x.message.name ∷ []) line ∙ sym (line_after_send h q p x.message)) (knows_after h g knows line) are.1 in
    (subst (λ c. Carries base x (record { message = x.message; clock = c })) clock are.0, subst (λ c. AreNext n c (Send q p x.message ∷ g) q p xs) clock onward)
  where
    knows_after : (h g : List Occurrence) → knowledge_of n g q ≡ knowledge_of n h q → chart_of g q ≡ chart_of h q → knowledge_of n (Send q p x.message ∷ g) q ≡ knowledge_of n (Send q p x.message ∷ h) q
    knows_after h g same line = rw (eq-eqb q q refl) (ap₂ (λ known (m : ℕ). with_entry known q (m + 1)) same (ap length line))

-- q's sends of these packets to p
pub record AreSent (n k q p : ℕ) (base : List ℕ) (xs : List Packet) (h g : List Occurrence) : Type 0 where
  pub legal : IsLegal n k g
  pub begins : Begins h g
  pub parcels : List Parcel
  pub here : goods n g q p ≡ goods n h q p ++ parcels
  pub carried : AreCarried base xs parcels
  pub there : (a b : ℕ) → is_lane q p a b ≡ false → goods n g a b ≡ goods n h a b
  pub received : (a b : ℕ) → received g a b ≡ received h a b
  pub closed : (a b : ℕ) → is_closed g a b ≡ is_closed h a b
  pub made : own g q ≡ with_sent q p xs (own h q)
  pub others : (b : ℕ) → b ≢ q → own g b ≡ own h b

pub are_sent : (n k q p : ℕ) (base : List ℕ) (xs : List Packet) (h : List Occurrence) → AreTwo n q p → IsLegal n k h → is_closed h q p ≡ false → AreNext n base h q p xs → length (goods n h q p) + length xs ≤ received h q p + k → length (chart_of h q) + length xs ≤ MAX_EVENTS
    → AreSent n k q p base xs h (with_sent q p xs h)
are_sent n k q p base [] h two legal unclosed next room short = record {
  legal = legal;
  begins = begins_same h;
  parcels = [];
  here = sym (append-nil (goods n h q p));
  carried = tt;
  there = λ a b other. refl;
  received = λ a b. refl;
  closed = λ a b. refl;
  made = refl;
  others = λ b other. refl;
}
are_sent n k q p base (x ∷ xs) h two legal unclosed next room short =
    let e : Occurrence = Send q p x.message in
    let y : Parcel = record { message = x.message; clock = next_clock n h q } in
    let many = goods_many n h q p in
    let free : length (waiting h q p) < k = omega (arith, many, length-drop (received h q p) (sent h q p), received-le n k h legal q p) in
    let one : goods n (e ∷ h) q p ≡ goods n h q p ++ y ∷ [] = rw (is_lane-same q p) refl in
    let line = ap length (line_after_send h q p x.message) ∙ length_push (chart_of h q) (send_event p x.message.name) in
    let done = are_sent n k q p (next_clock n h q) xs (e ∷ h) two ((two, unclosed, free, omega arith), legal) unclosed next.1 (omega (arith, ap length one, length_push (goods n h q p) y)) (omega (arith, line)) in
    record {
      legal = done.legal;
      begins = begins_onward h (e ∷ h) (with_sent q p xs (e ∷ h)) (begins_event e h) done.begins;
      parcels = y ∷ done.parcels;
      here = done.here ∙ ap (λ ys. ys ++ done.parcels) one ∙ append_assoc (goods n h q p) (y ∷ []) done.parcels;
      carried = (next.0, done.carried);
      there = λ a b other. done.there a b other ∙ beside_lane a b other;
      received = done.received;
      closed = done.closed;
      made = done.made ∙ ap (with_sent q p xs) (own_here e h);
      others = λ b other. done.others b other ∙ own_there e h b other;
    }
  where
    beside_lane : (a b : ℕ) → is_lane q p a b ≡ false → goods n (Send q p x.message ∷ h) a b ≡ goods n h a b
    beside_lane a b other = rw other

-- `many` receives of p from q
pub record AreReceived (n k q p many : ℕ) (h g mine : List Occurrence) : Type 0 where
  pub legal : IsLegal n k g
  pub begins : Begins h g
  pub goods : (a b : ℕ) → goods n g a b ≡ goods n h a b
  pub here : received g q p ≡ received h q p + many
  pub there : (a b : ℕ) → is_lane q p a b ≡ false → received g a b ≡ received h a b
  pub closed : (a b : ℕ) → is_closed g a b ≡ is_closed h a b
  pub made : own g p ≡ mine
  pub others : (b : ℕ) → b ≢ p → own g b ≡ own h b

-- the same for the receives after the first
abbrev Onward : ℕ → ℕ → ℕ → ℕ → ℕ → ℕ → Occurrence → List Occurrence → Type 0
Onward n k q p region many e h = IsLegal n k (e ∷ h) → MayHaveRegion (chart_of (e ∷ h) p) region → received (e ∷ h) q p + many ≤ length (sent (e ∷ h) q p) → length (chart_of (e ∷ h) p) + many ≤ MAX_EVENTS
    → AreReceived n k q p many (e ∷ h) (with_received p q region many (e ∷ h)) (with_received p q region many (own (e ∷ h) p))

pub are_received : (n k q p region many : ℕ) (h : List Occurrence) → AreTwo n q p → IsLegal n k h → MayHaveRegion (chart_of h p) region → received h q p + many ≤ length (sent h q p) → length (chart_of h p) + many ≤ MAX_EVENTS
    → AreReceived n k q p many h (with_received p q region many h) (with_received p q region many (own h p))
are_received n k q p region zero h two legal may some short = record {
  legal = legal;
  begins = begins_same h;
  goods = λ a b. refl;
  here = omega arith;
  there = λ a b other. refl;
  closed = λ a b. refl;
  made = refl;
  others = λ b other. refl;
}
are_received n k q p region (suc many) h two legal may some short = go (λ legal' may' some' short'. are_received n k q p region many (Receive p q region ∷ h) two legal' may' some' short') (waiting h q p) refl
  where
    e : Occurrence
    e = Receive p q region

    one : received (e ∷ h) q p ≡ received h q p + 1
    one = rw (is_lane-same q p)

    beside_lane : (a b : ℕ) → is_lane q p a b ≡ false → received (e ∷ h) a b ≡ received h a b
    beside_lane a b other = rw other

    go : Onward n k q p region many e h → (ms : List Content) → waiting h q p ≡ ms → AreReceived n k q p (suc many) h (with_received p q region (suc many) h) (with_received p q region (suc many) (own h p))
    go onward [] none = absurd (omega (arith, ap length none, length-drop (received h q p) (sent h q p)))
    go onward (m ∷ ms) first =
        let line = line_after_receive h p q region m ms first in
        let line_event = receive_event q m.name region in
        let back : AreTwo n p q = (two.2, two.3, two.0, two.1, λ same. two.4 (sym same)) in
        let now : IsLegal n k (e ∷ h) = ((back, omega (arith, ap length first), omega arith, may), legal) in
        let done = onward now (subst (λ l. MayHaveRegion l region) (sym line) (may-again (chart_of h p) line_event may)) (omega (arith, one)) (omega (arith, ap length line, length_push (chart_of h p) line_event)) in
        record {
          legal = done.legal;
          begins = begins_onward h (e ∷ h) (with_received p q region many (e ∷ h)) (begins_event e h) done.begins;
          goods = done.goods;
          here = omega (arith, done.here, one);
          there = λ a b other. done.there a b other ∙ beside_lane a b other;
          closed = done.closed;
          made = done.made ∙ ap (with_received p q region many) (own_here e h);
          others = λ b other. done.others b other ∙ own_there e h b other;
        }
