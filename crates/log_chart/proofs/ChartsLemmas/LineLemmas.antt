-- The chart of a log, event by event.
use Rattle.std.proofs.Common.{◌≡◌, ℕ, zero, suc, ◌+◌, ◌<◌, ◌≤◌, ◌⊎◌, inl, inr, List, [], ◌∷◌, Some, length, get_or, map, refl, sym, ap, ap₂, ◌∙◌, subst, arith}
use Rattle.std.proofs.lemmas.Bool.{cases_lt}
use Rattle.std.proofs.lemmas.Option.{none-some}
use Rattle.chart.specs.Charts.{Place, LineView, chart_event, chart_lines}
use Rattle.chart.specs.Events.{ith}
use Rattle.chart.specs.declared.event.Event.{Event}
use Rattle.closure.proofs.ReadLemmas.{empty_line}
use Rattle.log_chart.specs.Begun.{begun}
use Rattle.log_chart.specs.HostLines.{lines_from, kept, host_lines}
use Rattle.log_chart.specs.Items.{items_of}
use Rattle.log_chart.specs.Laws.{line_of}
use Rattle.log_chart.specs.NameOrder.{by_name}
use Rattle.log_chart.specs.declared.begun.Begun.{Begun}
use Rattle.log_chart.specs.declared.entry.Entry.{Entry}
use Rattle.log_chart.specs.declared.item.Item.{Item}
use Rattle.log_chart.specs.declared.matching.LogLine.{LogLine}
use Rattle.log_chart.specs.declared.name_order.HostName.{HostName}
use Rattle.log_chart.specs.Charts.ChartLines.{event_of, chart_from}
use Rattle.log_chart.proofs.ChartsLemmas.ItemLemmas.{hosts_count}
use Rattle.log_chart.proofs.ChartsLemmas.TurnLemmas.{ith_of}

-- the chart's lines are the lines of the hosts
pub chart_at : (log : List Entry) (k : ℕ) (lines : List (List Item)) (p : ℕ) (x : List Item) (d : LineView) → p < length lines → x ≡ get_or lines p x
    → get_or (chart_from log k lines) p d ≡ record { instance = k + p; events = map (event_of log) x }
unfolding chart_from
chart_at log k [] p x d less is = absurd (omega (arith, less))
chart_at log k (items ∷ lines) zero x d less is =
    let same : k ≡ k + zero = omega arith in
    ap₂ (λ (i : ℕ) (l : List Item). record { instance = i; events = map (event_of log) l }) same (sym is)
chart_at log k (items ∷ lines) (suc p) x d less is =
    let same : suc k + p ≡ k + suc p = omega arith in
    chart_at log (suc k) lines p x d (omega (arith, less)) is ∙ ap (λ i. record { instance = i; events = map (event_of log) x }) same

host_at : (hosts : List HostName) (lines : List LogLine) (given : List Begun) (k m p : ℕ) (d : List Item) → p < m → get_or (lines_from hosts lines given k m) p d ≡ items_of hosts lines given (k + p)
unfolding lines_from
host_at hosts lines given k zero p d less = absurd (omega (arith, less))
host_at hosts lines given k (suc m) zero d less = let same : k ≡ k + zero = omega arith in ap (items_of hosts lines given) same
host_at hosts lines given k (suc m) (suc p) d less = let same : suc k + p ≡ k + suc p = omega arith in host_at hosts lines given (suc k) m p d (omega (arith, less)) ∙ ap (items_of hosts lines given) same

pub chart_count : (log : List Entry) (p : ℕ) (lines : List (List Item)) → length (chart_from log p lines) ≡ length lines
unfolding chart_from
chart_count log p [] = refl
chart_count log p (items ∷ lines) = ap suc (chart_count log (suc p) lines)

module _ (n : ℕ) (log : List Entry) where
  abbrev pub chart_of_log : ℕ → List Event
  chart_of_log = chart_lines (chart_from log 1 (host_lines n log))

  pub host_is : (p : ℕ) (d : List Item) → p < n → get_or (host_lines n log) p d ≡ line_of n log (suc p)
  host_is p d less = let same : 1 + p ≡ suc p = omega arith in host_at (by_name n log) (kept log) (begun (kept log)) 1 n p d less ∙ ap (line_of n log) same

  pub view_is : (p : ℕ) (d : LineView) → p < n → get_or (chart_from log 1 (host_lines n log)) p d ≡ record { instance = suc p; events = map (event_of log) (line_of n log (suc p)) }
  view_is p d less =
      let same : 1 + p ≡ suc p = omega arith in
      let whole = hosts_count n log in
      chart_at log 1 (host_lines n log) p (line_of n log (suc p)) d (omega (arith, less, whole)) (sym (host_is p (line_of n log (suc p)) less))
      ∙ ap (λ i. record { instance = i; events = map (event_of log) (line_of n log (suc p)) }) same

  pub line_is : (q : ℕ) → 1 ≤ q → q ≤ n → chart_of_log q ≡ map (event_of log) (line_of n log q)
  line_is zero low high = absurd (omega (arith, low))
  line_is (suc p) low high = ap (λ (l : LineView). l.events) (view_is p (record { instance = suc p; events = [] }) (omega (arith, high)))

  no_event : (i : ℕ) (m : Event) → ith {X = Event} [] i ≡ Some m → ⊥
  no_event zero m is = none-some m is
  no_event (suc i) m is = none-some m is

  -- an event of the chart is an event of a host
  pub host_of_event : (e : Place) (m : Event) → chart_event chart_of_log e ≡ Some m → (1 ≤ e.instance) × (e.instance ≤ n)
  host_of_event e m is = go e.instance is
    where
      go : (q : ℕ) → ith (chart_of_log q) e.index ≡ Some m → (1 ≤ q) × (q ≤ n)
      go zero here = absurd (no_event e.index m here)
      go (suc p) here = by_count (cases_lt p n)
        where
          by_count : (p < n) ⊎ (n ≤ p) → (1 ≤ suc p) × (suc p ≤ n)
          by_count (inl less) = (omega arith, omega (arith, less))
          by_count (inr past) =
              let whole = chart_count log 1 (host_lines n log) ∙ hosts_count n log in
              absurd (no_event e.index m (subst (λ l. ith l e.index ≡ Some m) (empty_line (chart_from log 1 (host_lines n log)) p (omega (arith, past, whole))) here))

  pub item_of_event : (e : Place) (m : Event) → chart_event chart_of_log e ≡ Some m → (x : Item) × (ith (line_of n log e.instance) e.index ≡ Some x) × (event_of log x ≡ m)
  item_of_event e m is =
      let own = host_of_event e m is in
      ith_of (event_of log) (line_of n log e.instance) e.index m (subst (λ l. ith l e.index ≡ Some m) (line_is e.instance own.0 own.1) is)
