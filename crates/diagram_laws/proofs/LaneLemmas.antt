-- The lanes of the lines that are made of messages: the sends are those of the lane's messages, in order, and so are the
-- receives.
use Rattle.std.proofs.Common.{◌≡◌, ℕ, zero, suc, ◌+◌, ◌*◌, ◌<◌, ◌≤◌, ◌==◌, ◌&&◌, not, Bool, true, false, cond, List, [], ◌∷◌, ◌++◌, map, filter, Option, None, Some, refl, sym, ap, ◌∙◌, subst, arith, append_assoc, eqb-true}
use Rattle.std.specs.Prelude.{slice_index_or}
use Rattle.std.proofs.lemmas.Bool.{and_parts}
use Rattle.std.proofs.lemmas.List.{append-nil, map-append}
use Rattle.std.proofs.lemmas.List.Elements.{filter-append}
use Rattle.chart.specs.declared.event.Event.{Event}
use Rattle.chart.specs.declared.event.Event.TheVariants.{Send, Receive}
use Rattle.chart.specs.Charts.{LineView, chart_lines}
use Rattle.chart.specs.Events.{greatest_region, is_send_to, is_receive_from, name_of}
use Rattle.chart.proofs.StableOrderLemmas.OrderLemmas.{Least, Rising, rising_filter, order_rises, order_kept, same_by_key}
use Rattle.diagrams.specs.Messages.Each.{Each, Pairs}
use Rattle.diagrams.specs.Messages.Following.{Follows, AreBuildable}
use Rattle.diagrams.specs.Messages.Lines.{lines_from}
use Rattle.diagrams.specs.Messages.Regions.{region_of, event_of, with_ends, line_of}
use Rattle.diagrams.specs.Messages.Turns.{send_end, receive_end, all_ends, own_ends, in_turn}
use Rattle.diagrams.specs.declared.messages.end.End.{End}
use Rattle.diagrams.specs.declared.messages.message.Named.{Named}
use Rattle.diagrams.proofs.MessagesLemmas.EachLemmas.{each_weaker, pairs_filter, pairs_passing, pairs_weaker, filter_swap}
use Rattle.diagram_laws.specs.Lanes.{names_sent, names_received}

-- the line of each instance
lines_at : (ends : List End) (p n i : ℕ) (d : LineView) → i < n → slice_index_or (lines_from ends p n) i d ≡ line_of (p + i) ends
unfolding lines_from
lines_at ends p zero i d within = absurd (omega (arith, within))
lines_at ends p (suc n) zero d within = ap (λ q. line_of q ends) (omega arith)
lines_at ends p (suc n) (suc i) d within = lines_at ends (suc p) n i d (omega (arith, within)) ∙ ap (λ q. line_of q ends) (omega arith)

-- the events of a line's instance
pub line_events : (ends : List End) (n p : ℕ) → 1 ≤ p → p ≤ n → chart_lines (lines_from ends 1 n) p ≡ with_ends None [] (in_turn (own_ends p ends))
unfolding line_of
line_events ends n zero low high = absurd (omega (arith, low))
line_events ends n (suc i) low high = ap (λ (l : LineView). l.events) (lines_at ends 1 n i (record { instance = suc i; events = [] }) (omega (arith, high)))
    ∙ ap (λ p. with_ends None [] (in_turn (own_ends p ends))) (omega arith)

-- The events of ends, by the partner.

abbrev pub sends_to : ℕ → End → Bool
sends_to p e = e.sends && e.partner == p

abbrev pub receives_from : ℕ → End → Bool
receives_from q e = not e.sends && e.partner == q

abbrev pub named : End → List ℕ
named e = e.name

module _ (test : Event → Bool) (own : End → Bool) (same : (e : End) (region : ℕ) → test (event_of e region) ≡ own e) (name_same : (e : End) (region : ℕ) → name_of (event_of e region) ≡ e.name) where
  names_of_ends : (last : Option End) (line : List Event) (ends : List End)
      → map name_of (filter test (with_ends last line ends)) ≡ map name_of (filter test line) ++ map named (filter own ends)
  unfolding with_ends
  names_of_ends last line [] = sym (append-nil (map name_of (filter test line)))
  names_of_ends last line (e ∷ ends) =
      names_of_ends (Some e) (line ++ event_of e region ∷ []) ends
      ∙ ap (λ l. map name_of l ++ map named (filter own ends)) (filter-append test line (event_of e region ∷ []))
      ∙ ap (λ l. l ++ map named (filter own ends)) (map-append name_of (filter test line) (filter test (event_of e region ∷ [])))
      ∙ append_assoc (map name_of (filter test line)) (map name_of (filter test (event_of e region ∷ []))) (map named (filter own ends))
      ∙ ap (λ l. map name_of (filter test line) ++ l) (go (own e) refl)
    where
      region : ℕ
      region = region_of last (greatest_region line) e ends

      go : (its : Bool) → own e ≡ its → map name_of (filter test (event_of e region ∷ [])) ++ map named (filter own ends) ≡ map named (cond its (e ∷ filter own ends) (filter own ends))
      go true is = rw (same e region, is) (ap (λ n. n ∷ map named (filter own ends)) (name_same e region))
      go false is = rw (same e region, is) refl

send_same : (p : ℕ) (e : End) (region : ℕ) → is_send_to p (event_of e region) ≡ sends_to p e
send_same p e region = go e.sends
  where
    go : (sends : Bool) → is_send_to p (cond sends (Send e.partner e.name) (Receive e.partner e.name region)) ≡ (sends && e.partner == p)
    go true = refl
    go false = refl

receive_same : (q : ℕ) (e : End) (region : ℕ) → is_receive_from q (event_of e region) ≡ receives_from q e
receive_same q e region = go e.sends
  where
    go : (sends : Bool) → is_receive_from q (cond sends (Send e.partner e.name) (Receive e.partner e.name region)) ≡ (not sends && e.partner == q)
    go true = refl
    go false = refl

name_same : (e : End) (region : ℕ) → name_of (event_of e region) ≡ e.name
name_same e region = go e.sends
  where
    go : (sends : Bool) → name_of (cond sends (Send e.partner e.name) (Receive e.partner e.name region)) ≡ e.name
    go true = refl
    go false = refl

-- The ends of messages, by the lane.

-- the message goes from q to p
abbrev pub goes : ℕ → ℕ → Named → Bool
goes q p m = m.sender == q && m.receiver == p

-- and it is received
abbrev pub arrives : ℕ → ℕ → Named → Bool
arrives q p m = goes q p m && not m.is_lost

abbrev turn_of : End → ℕ
turn_of e = e.turn

send_ends : (q p : ℕ) (messages : List Named) → filter (sends_to p) (own_ends q (all_ends messages)) ≡ map send_end (filter (goes q p) messages)
unfolding all_ends
send_ends q p [] = refl
send_ends q p (m ∷ messages) = go m.is_lost (m.sender == q) refl (m.receiver == p) refl (m.receiver == q) refl (send_ends q p messages)
  where
    go : (lost from : Bool) → (m.sender == q) ≡ from → (to : Bool) → (m.receiver == p) ≡ to → (back : Bool) → (m.receiver == q) ≡ back
        → filter (sends_to p) (own_ends q (all_ends messages)) ≡ map send_end (filter (goes q p) messages)
        → filter (sends_to p) (own_ends q (cond lost (send_end m ∷ []) (send_end m ∷ receive_end m ∷ []) ++ all_ends messages)) ≡ map send_end (cond (from && to) (m ∷ filter (goes q p) messages) (filter (goes q p) messages))
    go true true e true f back g rest = rw (e, f) (ap (λ l. send_end m ∷ l) rest)
    go true true e false f back g rest = rw (e, f) rest
    go true false e to f back g rest = rw e rest
    go false true e true f true g rest = rw (e, f, g) (ap (λ l. send_end m ∷ l) rest)
    go false true e true f false g rest = rw (e, f, g) (ap (λ l. send_end m ∷ l) rest)
    go false true e false f true g rest = rw (e, f, g) rest
    go false true e false f false g rest = rw (e, f, g) rest
    go false false e to f true g rest = rw (e, g) rest
    go false false e to f false g rest = rw (e, g) rest

receive_ends : (q p : ℕ) (messages : List Named) → filter (receives_from q) (own_ends p (all_ends messages)) ≡ map receive_end (filter (arrives q p) messages)
unfolding all_ends
receive_ends q p [] = refl
receive_ends q p (m ∷ messages) = go m.is_lost (m.sender == q) refl (m.receiver == p) refl (m.sender == p) refl (receive_ends q p messages)
  where
    lost : (from to : Bool) → {xs : List End} → xs ≡ map receive_end (filter (arrives q p) messages) → xs ≡ map receive_end (cond ((from && to) && false) (m ∷ filter (arrives q p) messages) (filter (arrives q p) messages))
    lost true true is = is
    lost true false is = is
    lost false to is = is

    go : (lost from : Bool) → (m.sender == q) ≡ from → (to : Bool) → (m.receiver == p) ≡ to → (back : Bool) → (m.sender == p) ≡ back
        → filter (receives_from q) (own_ends p (all_ends messages)) ≡ map receive_end (filter (arrives q p) messages)
        → filter (receives_from q) (own_ends p (cond lost (send_end m ∷ []) (send_end m ∷ receive_end m ∷ []) ++ all_ends messages))
        ≡ map receive_end (cond ((from && to) && not lost) (m ∷ filter (arrives q p) messages) (filter (arrives q p) messages))
    go true from e to f true g rest = lost from to (rw g rest)
    go true from e to f false g rest = lost from to (rw g rest)
    go false true e true f true g rest = rw (g, f, e) (ap (λ x. receive_end m ∷ x) rest)
    go false true e true f false g rest = rw (g, f, e) (ap (λ x. receive_end m ∷ x) rest)
    go false true e false f true g rest = rw (g, f) rest
    go false true e false f false g rest = rw (g, f) rest
    go false false e true f true g rest = rw (g, f, e) rest
    go false false e true f false g rest = rw (g, f, e) rest
    go false false e false f true g rest = rw (g, f) rest
    go false false e false f false g rest = rw (g, f) rest

-- in the order of their turns
least_sends : (t : ℕ) (messages : List Named) → Each (λ m. t ≤ 2 * m.begins) messages → Least turn_of t (map send_end messages)
unfolding Least
least_sends t [] all = tt
least_sends t (m ∷ messages) all = (all.0, least_sends t messages all.1)

sends_rise : (messages : List Named) → Pairs (λ m n. m.begins ≤ n.begins) messages → Rising turn_of (map send_end messages)
unfolding Rising
sends_rise [] all = tt
sends_rise (m ∷ messages) all =
    (least_sends (2 * m.begins) messages (each_weaker (λ n. m.begins ≤ n.begins) (λ n. 2 * m.begins ≤ 2 * n.begins) (λ n le. omega (arith, le)) messages all.0), sends_rise messages all.1)

least_receives : (t : ℕ) (messages : List Named) → Each (λ m. t ≤ 2 * m.ends + 1) messages → Least turn_of t (map receive_end messages)
unfolding Least
least_receives t [] all = tt
least_receives t (m ∷ messages) all = (all.0, least_receives t messages all.1)

receives_rise : (messages : List Named) → Pairs (λ m n. m.ends ≤ n.ends) messages → Rising turn_of (map receive_end messages)
unfolding Rising
receives_rise [] all = tt
receives_rise (m ∷ messages) all =
    (least_receives (2 * m.ends + 1) messages (each_weaker (λ n. m.ends ≤ n.ends) (λ n. 2 * m.ends + 1 ≤ 2 * n.ends + 1) (λ n le. omega (arith, le)) messages all.0), receives_rise messages all.1)

-- some of the ends, if they rise, are the same after sorting
kept_in_turn : (test : End → Bool) (ends : List End) → Rising turn_of (filter test ends) → filter test (in_turn ends) ≡ filter test ends
kept_in_turn test ends rising = same_by_key turn_of (filter test (in_turn ends)) (filter test ends) (rising_filter turn_of test (in_turn ends) (order_rises turn_of ends)) rising
    (λ t. filter_swap (λ (e : End). e.turn == t) test (in_turn ends) ∙ ap (filter test) (order_kept turn_of t ends) ∙ sym (filter_swap (λ (e : End). e.turn == t) test ends))

is_false : (b : Bool) → not b ≡ true → b ≡ false
is_false true e = absurd (cc e)
is_false false e = refl

-- a lane's received messages
record Arrives (q p : ℕ) (m : Named) : Type 0 where
  pub from : m.sender ≡ q
  pub to : m.receiver ≡ p
  pub here : m.is_lost ≡ false

arrived : (q p : ℕ) (m : Named) → arrives q p m ≡ true → Arrives q p m
arrived q p m is =
    let parts = and_parts (goes q p m) (not m.is_lost) is in
    let ends = and_parts (m.sender == q) (m.receiver == p) parts.0 in
    record { from = eqb-true m.sender q ends.0; to = eqb-true m.receiver p ends.1; here = is_false m.is_lost parts.1 }

module _ (n : ℕ) (messages : List Named) (are : AreBuildable n messages) where
  sends_so : (q p : ℕ) → Rising turn_of (filter (sends_to p) (own_ends q (all_ends messages)))
  sends_so q p = subst (Rising turn_of) (sym (send_ends q p messages))
      (sends_rise (filter (goes q p) messages) (pairs_filter (λ m k. m.begins ≤ k.begins) (goes q p) messages
      (pairs_weaker Follows (λ m k. m.begins ≤ k.begins) (λ m k f. f.order) messages are.follow)))

  receives_so : (q p : ℕ) → Rising turn_of (filter (receives_from q) (own_ends p (all_ends messages)))
  receives_so q p = subst (Rising turn_of) (sym (receive_ends q p messages))
      (receives_rise (filter (arrives q p) messages) (pairs_passing (λ m k. m.ends ≤ k.ends) (arrives q p) messages
      (pairs_weaker Follows (λ m k. arrives q p m ≡ true → arrives q p k ≡ true → m.ends ≤ k.ends) (λ m k f e d. in_order m k f (arrived q p m e) (arrived q p k d)) messages are.follow)))
    where
      in_order : (m k : Named) → Follows m k → Arrives q p m → Arrives q p k → m.ends ≤ k.ends
      in_order m k f one other = f.taken (one.from ∙ sym other.from) (one.to ∙ sym other.to) one.here other.here

  -- the sends of a lane
  pub lane_sent : (q p : ℕ) → 1 ≤ q → q ≤ n → names_sent p (chart_lines (lines_from (all_ends messages) 1 n) q) ≡ map (λ (m : Named). m.name) (filter (goes q p) messages)
  lane_sent q p low high =
      ap (names_sent p) (line_events (all_ends messages) n q low high)
      ∙ names_of_ends (is_send_to p) (sends_to p) (send_same p) name_same None [] (in_turn (own_ends q (all_ends messages)))
      ∙ ap (map named) (kept_in_turn (sends_to p) (own_ends q (all_ends messages)) (sends_so q p) ∙ send_ends q p messages)
      ∙ names (filter (goes q p) messages)
    where
      names : (ms : List Named) → map named (map send_end ms) ≡ map (λ (m : Named). m.name) ms
      names [] = refl
      names (m ∷ ms) = ap (λ l. m.name ∷ l) (names ms)

  -- the receives of a lane
  pub lane_received : (q p : ℕ) → 1 ≤ p → p ≤ n → names_received q (chart_lines (lines_from (all_ends messages) 1 n) p) ≡ map (λ (m : Named). m.name) (filter (arrives q p) messages)
  lane_received q p low high =
      ap (names_received q) (line_events (all_ends messages) n p low high)
      ∙ names_of_ends (is_receive_from q) (receives_from q) (receive_same q) name_same None [] (in_turn (own_ends p (all_ends messages)))
      ∙ ap (map named) (kept_in_turn (receives_from q) (own_ends p (all_ends messages)) (receives_so q p) ∙ receive_ends q p messages)
      ∙ names (filter (arrives q p) messages)
    where
      names : (ms : List Named) → map named (map receive_end ms) ≡ map (λ (m : Named). m.name) ms
      names [] = refl
      names (m ∷ ms) = ap (λ l. m.name ∷ l) (names ms)
