-- Each receive of a log's chart has its send, with its name.
use Rattle.std.proofs.Common.{◌≡◌, ◌≢◌, ℕ, ◌≤◌, ◌==◌, not, List, Some, count_by, sym, ap, ◌∙◌, subst, arith, eqb-true}
use Rattle.std.specs.Prelude.{Contains}
use Rattle.std.proofs.lemmas.Bool.{and_parts}
use Rattle.std.proofs.lemmas.Option.{same_Some}
use Rattle.std.proofs.lemmas.List.Elements.{All-contains}
use Rattle.chart.specs.Charts.{Place, chart_event, HasNoSend, HasOtherName, BelongsTo}
use Rattle.chart.specs.Events.{is_send_to, is_receive_from, name_of, ith, tally}
use Rattle.chart.specs.Histories.{AreTwo}
use Rattle.chart.specs.declared.event.Event.{Event}
use Rattle.log_chart.specs.Begun.{begun}
use Rattle.log_chart.specs.HostLines.{kept}
use Rattle.log_chart.specs.Laws.{AreOfLanes, line_of}
use Rattle.log_chart.specs.declared.entry.Entry.{Entry}
use Rattle.log_chart.specs.declared.item.Item.{Item}
use Rattle.log_chart.specs.declared.matching.LogLine.{LogLine}
use Rattle.log_chart.specs.Items.{naming_line}
use Rattle.log_chart.specs.Cycles.Freeing.{AreAmong}
use Rattle.log_chart.proofs.CyclesLemmas.SettleLemmas.{kept_all}
use Rattle.log_chart.specs.NameOrder.{by_name}
use Rattle.log_chart.specs.Charts.ChartLines.{name_at, message_name, event_of}
use Rattle.log_chart.proofs.NameOrderLemmas.{are_up_to}
use Rattle.log_chart.proofs.ChartsLemmas.CycleLemmas.{message_is}
use Rattle.log_chart.proofs.ChartsLemmas.LineLemmas.{chart_of_log, line_is, host_of_event, item_of_event}
use Rattle.log_chart.proofs.ChartsLemmas.OriginLemmas.{head_is}
use Rattle.log_chart.proofs.ChartsLemmas.PlacedLemmas.{Placed, placed, items_placed, IsOf, placed_are}
use Rattle.log_chart.proofs.ChartsLemmas.PlacedLemmas.IsOf.{head, own, after}
use Rattle.log_chart.proofs.ChartsLemmas.TurnLemmas.{ith_of, event_receives, event_name, sent_enough}

module _ (n : ℕ) (from to : ℕ → ℕ) (log : List Entry) (lanes : AreOfLanes from to log) (among : AreAmong n log) where
  line_two : (x : LogLine) → Contains (kept log) x → AreTwo n x.entry.host x.entry.peer
  line_two x x_in = All-contains (λ (z : LogLine). AreTwo n z.entry.host z.entry.peer) (kept log) x (kept_all (λ e. AreTwo n e.host e.peer) log among) x_in

  -- the host at the other end of a message
  pub partner_in : (p i : ℕ) (x : Item) → ith (line_of n log p) i ≡ Some x → (1 ≤ x.partner) × (x.partner ≤ n) × (x.partner ≢ p)
  partner_in p i x is = go w.0 w.2 (placed_are n (by_name n log) (are_up_to n log) (kept log) (begun (kept log)) p i w.0 w.1)
    where
      w : (w : Placed) × (ith (placed (by_name n log) (kept log) (begun (kept log)) p) i ≡ Some w) × (w.item ≡ x)
      w = ith_of (λ (v : Placed). v.item) (placed (by_name n log) (kept log) (begun (kept log)) p) i x (subst (λ l. ith l i ≡ Some x) (sym (items_placed (by_name n log) (kept log) (begun (kept log)) p)) is)

      by_peer : (y : LogLine) → Contains (kept log) y → y.entry.host ≡ p → y.entry.peer ≡ x.partner → (1 ≤ x.partner) × (x.partner ≤ n) × (x.partner ≢ p)
      by_peer y y_in y_host its =
          let two = line_two y y_in in
          subst (λ q. (1 ≤ q) × (q ≤ n) × (q ≢ p)) its (two.2, two.3, λ e. two.4 (y_host ∙ sym e))

      go : (v : Placed) → v.item ≡ x → IsOf n (kept log) (begun (kept log)) p v → (1 ≤ x.partner) × (x.partner ≤ n) × (x.partner ≢ p)
      go v same (head q r low high there item none) =
          let y = head_is (kept log) p q r there in
          let two = line_two y.0 y.1 in
          subst (λ s. (1 ≤ s) × (s ≤ n) × (s ≢ p)) (ap (λ (i : Item). i.partner) (sym item ∙ same)) (low, high, λ e. two.4 (y.3 ∙ e ∙ sym y.2))
      go v same (after y r y_in y_host there item stands) = by_peer y y_in y_host (ap (λ (i : Item). i.partner) (sym item ∙ same))
      go v same (own y y_in y_host item stands) = by_peer y y_in y_host (ap (λ (i : Item). i.partner) (sym item ∙ same))

  pub never_unsent : (r : Place) → HasNoSend (chart_of_log n log) r → ⊥
  never_unsent r (q, (m, m_is, receives), fewer) = go (item_of_event n log r m m_is)
    where
      p_in : (1 ≤ r.instance) × (r.instance ≤ n)
      p_in = host_of_event n log r m m_is

      go : (x : Item) × (ith (line_of n log r.instance) r.index ≡ Some x) × (event_of log x ≡ m) → ⊥
      go (x, x_is, same) =
          let passes = and_parts (not x.sends) (x.partner == q) (sym (event_receives log q x) ∙ ap (is_receive_from q) same ∙ receives) in
          let inside = subst (λ s. (1 ≤ s) × (s ≤ n)) (eqb-true x.partner q passes.1) (let own = partner_in r.instance r.index x x_is in (own.0, own.1)) in
          let enough = sent_enough n from to log lanes q r.instance p_in.0 p_in.1 r.index in
          let sent = ap (count_by (is_send_to r.instance)) (line_is n log q inside.0 inside.1) in
          let received = ap (λ l. tally (is_receive_from q) l r.index) (line_is n log r.instance p_in.0 p_in.1) in
          omega (arith, enough, sent, received, fewer)

  -- a message has the same name at both ends
  pub same_names : (s r : Place) (a b : Event) → BelongsTo (chart_of_log n log) s r → chart_event (chart_of_log n log) s ≡ Some a → chart_event (chart_of_log n log) r ≡ Some b → name_of a ≡ name_of b
  same_names s r a b belongs a_is b_is =
      let it = message_is n from to log lanes s r belongs in
      named s a it.send a_is it.send_is ∙ ap (λ k. name_at log (naming_line k)) it.message ∙ sym (named r b it.receive b_is it.receive_is)
    where
      named : (e : Place) (m : Event) (x : Item) → chart_event (chart_of_log n log) e ≡ Some m → ith (line_of n log e.instance) e.index ≡ Some x → name_of m ≡ message_name log x
      named e m x m_is x_is =
          let y = item_of_event n log e m m_is in
          ap name_of (sym y.2) ∙ event_name log y.0 ∙ ap (message_name log) (same_Some y.0 x (sym y.1 ∙ x_is))

  pub never_misnamed : (r : Place) → HasOtherName (chart_of_log n log) r → ⊥
  never_misnamed r (s, a, b, belongs, a_is, b_is, differ) = differ (same_names s r a b belongs a_is b_is)
