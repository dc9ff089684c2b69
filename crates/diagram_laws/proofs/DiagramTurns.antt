-- The turns of messages are those of a run of their chart: each row is cut into as many as there are messages, so that no
-- two events of different messages are in one.
use Rattle.std.proofs.Common.{◌≡◌, ℕ, zero, suc, ◌+◌, ◌*◌, ◌<◌, ◌≤◌, ◌==◌, inl, inr, Bool, true, false, cond, List, [], ◌∷◌, ◌++◌, Option, None, Some, length, map, filter, refl, sym, ap, ◌∙◌, subst, arith, append_assoc, append-nil}
use Rattle.std.specs.Prelude.{nat_lt}
use Rattle.std.specs.List.{flat_map}
use Rattle.std.proofs.lemmas.Bool.{cases_lt}
use Rattle.std.proofs.lemmas.List.{length-map, map-append, get_or_past}
use Rattle.std.proofs.lemmas.List.Elements.{filter_agree}
use Rattle.chart.specs.declared.event.Event.{Event}
use Rattle.chart.specs.declared.event.Event.TheVariants as events
use Rattle.chart.specs.declared.history.Occurrence.{Occurrence}
use Rattle.chart.specs.declared.history.Occurrence.TheVariants.{Send, Receive}
use Rattle.chart.specs.Charts.{Chart, LineView, chart_lines}
use Rattle.chart.specs.Events.{greatest_region}
use Rattle.chart.specs.HistoryLines.{history_lines}
use Rattle.chart.specs.Histories.{chart_of, AreTwo, IsLegal}
use Rattle.chart.specs.StableOrder.Order.{in_order_by}
use Rattle.chart.proofs.HistoryLines.{chart-is, length-history_lines}
use Rattle.chart.proofs.StableOrderLemmas.OrderLemmas.{order_length}
use Rattle.chart_layout.specs.KeptTurns.Runs.{IsRun}
use Rattle.diagrams.specs.Messages.Each.{Each, Pairs}
use Rattle.diagrams.specs.Messages.Following.{IsMessage, AreBuildable}
use Rattle.diagrams.specs.Messages.Regions.{region_of, event_of, with_ends}
use Rattle.diagrams.specs.Messages.Turns.{send_end, receive_end, all_ends, own_ends, in_turn}
use Rattle.diagrams.specs.declared.message.Message.{Message}
use Rattle.diagrams.specs.declared.messages.end.End.{End}
use Rattle.diagrams.specs.declared.messages.message.Named.{Named}
use Rattle.diagrams.proofs.MessagesLemmas.EachLemmas.{each_weaker}
use Rattle.diagrams.proofs.MessagesLemmas.FifoLemmas.{own_in_turn, turn_each, lane_fifo}
use Rattle.diagrams.proofs.MessagesLemmas.HistoryLemmas.{Stands, happening, with_last, history_from, history_legal, history_chart}
use Rattle.diagrams.proofs.MessagesLemmas.LineLemmas.{open_none}
use Rattle.diagrams.proofs.MessagesLemmas.PossibleLemmas.{ends_two}
use Rattle.diagram_join.specs.Turns.Turns.{sends_in, sent, received, moments_of, turns_of}
use Rattle.diagram_laws.specs.Turns.{history_turns}
use Rattle.diagram_laws.proofs.HistoryTurns.{bare, AreAlike, history_run, run_alike}
use Rattle.diagram_laws.proofs.Lists.{filter_map}
use Rattle.diagram_laws.proofs.Orders.{Agree, order_agrees, order_view, map_agrees, finer, finer_own}

-- The events of messages, with the messages' numbers.

pub record Source : Type 0 where
  pub number : ℕ
  pub message : Message
  pub sends : Bool

abbrev pub send_of : ℕ → Message → Source
send_of k m = record { number = k; message = m; sends = true }

abbrev pub receive_of : ℕ → Message → Source
receive_of k m = record { number = k; message = m; sends = false }

abbrev pub sources : ℕ → List Message → List Source
sources k [] = []
sources k (m ∷ ms) = cond m.is_lost (send_of k m ∷ []) (send_of k m ∷ receive_of k m ∷ []) ++ sources (k + 1) ms

-- the instance of an event, and the event without its name
abbrev pub who : Source → ℕ
who x = cond x.sends x.message.sender x.message.receiver

abbrev pub shown : Source → Event
shown x = cond x.sends (events.Send x.message.receiver []) (events.Receive x.message.sender [] 0)

-- an end without its name
abbrev pub plain : End → Event
plain e = cond e.sends (events.Send e.partner []) (events.Receive e.partner [] 0)

abbrev pub turn_of : End → ℕ
turn_of e = e.turn

bare_event : (e : End) (region : ℕ) → bare (event_of e region) ≡ plain e
bare_event e region = go e.sends
  where
    go : (sends : Bool) → bare (cond sends (events.Send e.partner e.name) (events.Receive e.partner e.name region)) ≡ cond sends (events.Send e.partner []) (events.Receive e.partner [] 0)
    go true = refl
    go false = refl

pub bare_line : (last : Option End) (line : List Event) (ends : List End) → map bare (with_ends last line ends) ≡ map bare line ++ map plain ends
unfolding with_ends
bare_line last line [] = sym (append-nil (map bare line))
bare_line last line (e ∷ ends) =
    bare_line (Some e) (line ++ event_of e (region_of last (greatest_region line) e ends) ∷ []) ends
    ∙ ap (λ l. l ++ map plain ends) (map-append bare line (event_of e (region_of last (greatest_region line) e ends) ∷ []))
    ∙ append_assoc (map bare line) (bare (event_of e (region_of last (greatest_region line) e ends)) ∷ []) (map plain ends)
    ∙ ap (λ x. map bare line ++ x ∷ map plain ends) (bare_event e (region_of last (greatest_region line) e ends))

-- ends that are seen as the events of messages
pub view_line : (view : Source → End) (key : Source → ℕ) → ((x : Source) → (view x).turn ≡ key x) → ((x : Source) → (view x).instance ≡ who x) → ((x : Source) → plain (view x) ≡ shown x)
    → (p : ℕ) (xs : List Source) → map plain (in_turn (own_ends p (map view xs))) ≡ map shown (in_order_by key (filter (λ x. who x == p) xs))
view_line view key turns instances events p xs =
    ap (λ l. map plain (in_turn l)) (filter_map view (λ (e : End). e.instance == p) xs)
    ∙ ap (λ l. map plain (in_turn (map view l))) (filter_agree (λ x. (view x).instance == p) (λ x. who x == p) (λ x. ap (λ q. q == p) (instances x)) xs)
    ∙ order_view view turn_of plain (filter (λ x. who x == p) xs)
    ∙ ap (map (λ x. plain (view x))) (order_agrees (λ x. (view x).turn) key turns (filter (λ x. who x == p) xs))
    ∙ map_agrees (λ x. plain (view x)) shown events (in_order_by key (filter (λ x. who x == p) xs))

pub view_count : (view : Source → End) → ((x : Source) → (view x).instance ≡ who x) → (p : ℕ) (xs : List Source) → length (own_ends p (map view xs)) ≡ length (filter (λ x. who x == p) xs)
view_count view instances p xs =
    ap length (filter_map view (λ (e : End). e.instance == p) xs) ∙ length-map (filter (λ x. (view x).instance == p) xs) view
    ∙ ap length (filter_agree (λ x. (view x).instance == p) (λ x. who x == p) (λ x. ap (λ q. q == p) (instances x)) xs)

-- the history of ends
turns_from : (h : List Occurrence) (lasts : ℕ → Option End) (ends : List End) → history_turns (history_from h lasts ends) ≡ history_turns h ++ map (λ (e : End). e.instance) ends
unfolding history_turns
turns_from h lasts [] = sym (append-nil (history_turns h))
turns_from h lasts (e ∷ ends) =
    turns_from (happening h lasts e ends ∷ h) (with_last lasts e) ends
    ∙ ap (λ l. l ++ map (λ (x : End). x.instance) ends) (go e.sends _ _)
    ∙ append_assoc (history_turns h) (e.instance ∷ []) (map (λ (x : End). x.instance) ends)
  where
    go : (sends : Bool) (m : _) (region : ℕ) → history_turns (cond sends (Send e.instance e.partner m) (Receive e.instance e.partner region) ∷ h) ≡ history_turns h ++ e.instance ∷ []
    go true m region = refl
    go false m region = refl

begins : (n : ℕ) (messages : List Named) → AreBuildable n messages → Stands n (suc (length (in_turn (all_ends messages)))) [] (λ p. None) (in_turn (all_ends messages))
begins n messages are = record {
  legal = tt;
  opened = λ q p. refl;
  slots = omega arith;
  two = turn_each (λ e. AreTwo n e.instance e.partner) (all_ends messages) (ends_two n messages are.each);
  room = λ p. omega (arith, are.room p, ap length (own_in_turn p (all_ends messages)), order_length turn_of (own_ends p (all_ends messages)));
  is_open = λ p. open_none (own_ends p (in_turn (all_ends messages)));
  fifo = lane_fifo messages are.follow (each_weaker (IsMessage n) (λ m. m.is_lost ≡ false → m.begins ≤ m.ends) (λ m is. is.down) messages are.each);
}

-- messages whose ends come in their turns, and any lines of n instances with the same events
pub ends_run : (n : ℕ) (messages : List Named) → AreBuildable n messages → (lines : List LineView) → length lines ≡ n
    → ((p : ℕ) → 1 ≤ p → p ≤ n → map bare (chart_lines lines p) ≡ map plain (in_turn (own_ends p (all_ends messages))))
    → IsRun (chart_lines lines) (map (λ (e : End). e.instance) (in_turn (all_ends messages)))
unfolding history_turns
ends_run n messages are lines many same =
    run_alike (chart_of h) (chart_lines lines) alike (map (λ (e : End). e.instance) (in_turn (all_ends messages)))
    (subst (IsRun (chart_of h)) (turns_from [] (λ p. None) (in_turn (all_ends messages))) (history_run n k h legal))
  where
    k : ℕ
    k = suc (length (in_turn (all_ends messages)))

    h : List Occurrence
    h = history_from [] (λ p. None) (in_turn (all_ends messages))

    legal : IsLegal n k h
    legal = history_legal n k [] (λ p. None) (in_turn (all_ends messages)) (begins n messages are)

    line : (p : ℕ) → map bare (chart_of h p) ≡ map plain (in_turn (own_ends p (all_ends messages)))
    line p =
        ap (map bare) (history_chart n k [] (λ p. None) (in_turn (all_ends messages)) (begins n messages are) p)
        ∙ bare_line None [] (own_ends p (in_turn (all_ends messages))) ∙ ap (map plain) (own_in_turn p (all_ends messages))

    outside : (i : ℕ) → n ≤ i → chart_of h (suc i) ≡ chart_lines lines (suc i)
    outside i past =
        ap (λ (c : Chart). c (suc i)) (chart-is n k h legal)
        ∙ ap (λ (l : LineView). l.events) (get_or_past (history_lines n h) i (record { instance = suc i; events = [] }) (omega (arith, past, length-history_lines n h)))
        ∙ sym (ap (λ (l : LineView). l.events) (get_or_past lines i (record { instance = suc i; events = [] }) (omega (arith, past, many))))

    alike : AreAlike (chart_of h) (chart_lines lines)
    alike zero = ap (λ (c : Chart). map bare (c 0)) (chart-is n k h legal)
    alike (suc i) = elim (cases_lt i n) [
      | inl within ↦ line (suc i) ∙ sym (same (suc i) (omega arith) (omega (arith, within)))
      | inr past ↦ ap (map bare) (outside i past)
    ]

-- Turns, and rows that are cut.

module _ (all : List Message) where
  -- whether a receive comes after the sends of its row
  abbrev pub after : ℕ → ℕ → ℕ
  after row p = cond (sends_in all row p) 1 0

  pub after_one : (row p : ℕ) → after row p ≤ 1
  after_one row p = go (sends_in all row p)
    where
      go : (b : Bool) → cond b 1 0 ≤ 1
      go true = omega arith
      go false = omega arith

  abbrev pub moment : Source → ℕ
  moment x = cond x.sends (2 * x.message.begins) (2 * x.message.ends + after x.message.ends x.message.receiver)

  moments_are : (k : ℕ) (ms : List Message) → flat_map (moments_of all) ms ≡ map (λ (x : Source). cond x.sends (sent x.message) (received all x.message)) (sources k ms)
  moments_are k [] = refl
  moments_are k (m ∷ ms) = go m.is_lost (moments_are (k + 1) ms)
    where
      go : (lost : Bool) → flat_map (moments_of all) ms ≡ map (λ (x : Source). cond x.sends (sent x.message) (received all x.message)) (sources (k + 1) ms)
          → cond lost (sent m ∷ []) (sent m ∷ received all m ∷ []) ++ flat_map (moments_of all) ms
          ≡ map (λ (x : Source). cond x.sends (sent x.message) (received all x.message)) (cond lost (send_of k m ∷ []) (send_of k m ∷ receive_of k m ∷ []) ++ sources (k + 1) ms)
      go true rest = ap (λ l. sent m ∷ l) rest
      go false rest = ap (λ l. sent m ∷ received all m ∷ l) rest

  pub turns_are : turns_of all ≡ map who (in_order_by moment (sources 0 all))
  unfolding turns_of
  turns_are = rw (moments_are 0 all)
      (order_view (λ (x : Source). cond x.sends (sent x.message) (received all x.message)) (λ e. e.turn) (λ e. e.instance) (sources 0 all)
      ∙ ap (map (λ (x : Source). (cond x.sends (sent x.message) (received all x.message)).instance)) (order_agrees (λ (x : Source). (cond x.sends (sent x.message) (received all x.message)).turn) moment (λ x. turn x.sends x.message) (sources 0 all))
      ∙ map_agrees (λ (x : Source). (cond x.sends (sent x.message) (received all x.message)).instance) who (λ x. instance x.sends x.message) (in_order_by moment (sources 0 all)))
    where
      turn : (b : Bool) (m : Message) → (cond b (sent m) (received all m)).turn ≡ cond b (2 * m.begins) (2 * m.ends + after m.ends m.receiver)
      turn true m = refl
      turn false m = refl

      instance : (b : Bool) (m : Message) → (cond b (sent m) (received all m)).instance ≡ cond b m.sender m.receiver
      instance true m = refl
      instance false m = refl

  -- W rows for each
  module _ (W : ℕ) where
    abbrev pub fine : ℕ → Message → Named
    fine k m = record {
      sender = m.sender;
      receiver = m.receiver;
      begins = 2 * m.begins * W + k;
      ends = (2 * m.ends + after m.ends m.receiver) * W + k;
      is_lost = m.is_lost;
      name = [];
    }

    abbrev pub fines : ℕ → List Message → List Named
    fines k [] = []
    fines k (m ∷ ms) = fine k m ∷ fines (k + 1) ms

    abbrev pub fine_end : Source → End
    fine_end x = cond x.sends (send_end (fine x.number x.message)) (receive_end (fine x.number x.message))

    abbrev pub fine_turn : Source → ℕ
    fine_turn x = cond x.sends (2 * (2 * x.message.begins * W + x.number)) (2 * ((2 * x.message.ends + after x.message.ends x.message.receiver) * W + x.number) + 1)

    pub fine_ends : (k : ℕ) (ms : List Message) → all_ends (fines k ms) ≡ map fine_end (sources k ms)
    unfolding all_ends
    fine_ends k [] = refl
    fine_ends k (m ∷ ms) = go m.is_lost (fine_ends (k + 1) ms)
      where
        go : (lost : Bool) → all_ends (fines (k + 1) ms) ≡ map fine_end (sources (k + 1) ms)
            → cond lost (send_end (fine k m) ∷ []) (send_end (fine k m) ∷ receive_end (fine k m) ∷ []) ++ all_ends (fines (k + 1) ms)
            ≡ map fine_end (cond lost (send_of k m ∷ []) (send_of k m ∷ receive_of k m ∷ []) ++ sources (k + 1) ms)
        go true rest = ap (λ l. send_end (fine k m) ∷ l) rest
        go false rest = ap (λ l. send_end (fine k m) ∷ receive_end (fine k m) ∷ l) rest

    pub fine_turns : (x : Source) → (fine_end x).turn ≡ fine_turn x
    fine_turns x = go x.sends
      where
        go : (b : Bool) → (cond b (send_end (fine x.number x.message)) (receive_end (fine x.number x.message))).turn
            ≡ cond b (2 * (2 * x.message.begins * W + x.number)) (2 * ((2 * x.message.ends + after x.message.ends x.message.receiver) * W + x.number) + 1)
        go true = refl
        go false = refl

    pub fine_instances : (x : Source) → (fine_end x).instance ≡ who x
    fine_instances x = go x.sends
      where
        go : (b : Bool) → (cond b (send_end (fine x.number x.message)) (receive_end (fine x.number x.message))).instance ≡ cond b x.message.sender x.message.receiver
        go true = refl
        go false = refl

    pub fine_events : (x : Source) → plain (fine_end x) ≡ shown x
    fine_events x = go x.sends
      where
        go : (b : Bool) → plain (cond b (send_end (fine x.number x.message)) (receive_end (fine x.number x.message))) ≡ cond b (events.Send x.message.receiver []) (events.Receive x.message.sender [] 0)
        go true = refl
        go false = refl

    -- the order is that of the moments
    later : (a i f j : ℕ) (ms : List Message) → i < j → j + length ms ≤ W → 2 * (a * W + i) ≤ f → f ≤ 2 * (a * W + i) + 1 → Each (λ y. nat_lt (moment y) a ≡ nat_lt (fine_turn y) f) (sources j ms)
    later a i f j [] less within low high = tt
    later a i f j (m ∷ ms) less within low high = go m.is_lost (later a i f (j + 1) ms (omega arith) (omega (arith, within)) low high)
      where
        first : nat_lt (2 * m.begins) a ≡ nat_lt (2 * (2 * m.begins * W + j)) f
        first = finer a (2 * m.begins) i j W f (2 * (2 * m.begins * W + j)) less (omega (arith, within)) low high (omega arith) (omega arith)

        second : nat_lt (2 * m.ends + after m.ends m.receiver) a ≡ nat_lt (2 * ((2 * m.ends + after m.ends m.receiver) * W + j) + 1) f
        second = finer a (2 * m.ends + after m.ends m.receiver) i j W f (2 * ((2 * m.ends + after m.ends m.receiver) * W + j) + 1) less (omega (arith, within)) low high (omega arith) (omega arith)

        go : (lost : Bool) → Each (λ y. nat_lt (moment y) a ≡ nat_lt (fine_turn y) f) (sources (j + 1) ms)
            → Each (λ y. nat_lt (moment y) a ≡ nat_lt (fine_turn y) f) (cond lost (send_of j m ∷ []) (send_of j m ∷ receive_of j m ∷ []) ++ sources (j + 1) ms)
        go true rest = (first, rest)
        go false rest = (first, (second, rest))

    pub in_moments : (k : ℕ) (ms : List Message) → k + length ms ≤ W → Each (λ (m : Message). m.is_lost ≡ false → m.begins ≤ m.ends) ms → Pairs (Agree moment fine_turn) (sources k ms)
    in_moments k [] within down = tt
    in_moments k (m ∷ ms) within down = go m.is_lost refl (in_moments (k + 1) ms (omega (arith, within)) down.1)
      where
        first : Each (λ y. nat_lt (moment y) (2 * m.begins) ≡ nat_lt (fine_turn y) (2 * (2 * m.begins * W + k))) (sources (k + 1) ms)
        first = later (2 * m.begins) k (2 * (2 * m.begins * W + k)) (k + 1) ms (omega arith) (omega (arith, within)) (omega arith) (omega arith)

        second : Each (λ y. nat_lt (moment y) (2 * m.ends + after m.ends m.receiver) ≡ nat_lt (fine_turn y) (2 * ((2 * m.ends + after m.ends m.receiver) * W + k) + 1)) (sources (k + 1) ms)
        second = later (2 * m.ends + after m.ends m.receiver) k (2 * ((2 * m.ends + after m.ends m.receiver) * W + k) + 1) (k + 1) ms (omega arith) (omega (arith, within)) (omega arith) (omega arith)

        go : (lost : Bool) → m.is_lost ≡ lost → Pairs (Agree moment fine_turn) (sources (k + 1) ms)
            → Pairs (Agree moment fine_turn) (cond lost (send_of k m ∷ []) (send_of k m ∷ receive_of k m ∷ []) ++ sources (k + 1) ms)
        go true e rest = (first, rest)
        go false e rest = ((finer_own (2 * m.begins) (2 * m.ends + after m.ends m.receiver) k W (let le = down.0 e in omega (arith, le)), first), (second, rest))
