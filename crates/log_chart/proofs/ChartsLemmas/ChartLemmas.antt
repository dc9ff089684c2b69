-- The lines of a log's hosts are lines of a chart, and the chart is possible.
use Rattle.std.proofs.Common.{◌≡◌, ◌≢◌, ℕ, suc, ◌<◌, ◌≤◌, inl, Bool, true, false, cond, List, None, Some, length, get_or, map, take, refl, sym, ap, ◌∙◌, subst, arith}
use Rattle.std.specs.Prelude.{All, slice_get}
use Rattle.std.proofs.lemmas.List.{length-map}
use Rattle.std.proofs.lemmas.List.Elements.{All-map, All-get_or}
use Rattle.std.proofs.lemmas.Option.{slice_get-get_or}
use Rattle.chart.specs.Charts.{LineView, Place, IsLine, IsChart, HasPartners, IsPossible, chart_event, chart_lines}
use Rattle.chart.specs.Events.{partner_of, region_of, send_event, receive_event, MayHaveRegion}
use Rattle.chart.specs.declared.event.Event.{Event}
use Rattle.chart.specs.declared.instance.TheConstants.{MAX_INSTANCES}
use Rattle.chart.specs.declared.line.TheConstants.{MAX_EVENTS}
use Rattle.log_chart.specs.HostLines.{kept, host_lines}
use Rattle.log_chart.specs.Laws.{AreOfLanes, line_of}
use Rattle.log_chart.specs.declared.entry.Entry.{Entry}
use Rattle.log_chart.specs.declared.item.Item.{Item}
use Rattle.log_chart.specs.Cycles.Freeing.{HasNone, AreAmong, HaveLanes}
use Rattle.log_chart.specs.Charts.ChartLines.{message_name, event_of, chart_from, first_full}
use Rattle.log_chart.proofs.ChartsLemmas.CycleLemmas.{never_cyclic}
use Rattle.log_chart.proofs.ChartsLemmas.FaultLemmas.{partner_in, never_unsent, same_names}
use Rattle.log_chart.proofs.ChartsLemmas.ItemLemmas.{hosts_count}
use Rattle.log_chart.proofs.ChartsLemmas.LineLemmas.{chart_count, host_is, view_is, item_of_event}
use Rattle.log_chart.proofs.ChartsLemmas.PossibleLemmas.{possible}
use Rattle.log_chart.proofs.ChartsLemmas.TurnLemmas.{ith_of}
use Rattle.log_chart.proofs.ChartsLemmas.WalkLemmas.{chart_is_numbered, short_all}

event_partner : (log : List Entry) (x : Item) → partner_of (event_of log x) ≡ x.partner
event_partner log x = go x.sends
  where
    go : (b : Bool) → partner_of (cond b (send_event x.partner (message_name log x)) (receive_event x.partner (message_name log x) 0)) ≡ x.partner
    go true = refl
    go false = refl

event_region : (log : List Entry) (x : Item) → region_of (event_of log x) ≡ 0
event_region log x = go x.sends
  where
    go : (b : Bool) → region_of (cond b (send_event x.partner (message_name log x)) (receive_event x.partner (message_name log x) 0)) ≡ 0
    go true = refl
    go false = refl

module _ (n : ℕ) (log : List Entry) (among : AreAmong n log) where
  whole : length (chart_from log 1 (host_lines n log)) ≡ n
  whole = chart_count log 1 (host_lines n log) ∙ hosts_count n log

  module _ (from to : ℕ → ℕ) (lanes : AreOfLanes from to log) where
    partners_are : HasPartners (length (chart_from log 1 (host_lines n log))) (chart_from log 1 (host_lines n log))
    partners_are p d less =
        subst (λ (l : LineView). All (λ m. partner_of m ≤ length (chart_from log 1 (host_lines n log))) l.events) (sym (view_is n log p d (omega (arith, less, whole))))
        (All-map (λ m. partner_of m ≤ length (chart_from log 1 (host_lines n log))) (event_of log) (line_of n log (suc p)) one)
      where
        one : All (λ x. partner_of (event_of log x) ≤ length (chart_from log 1 (host_lines n log))) (line_of n log (suc p))
        one i x within =
            let own = partner_in n from to log lanes among (suc p) (suc i) (get_or (line_of n log (suc p)) i x) (slice_get-get_or (line_of n log (suc p)) i x within) in
            let its = event_partner log (get_or (line_of n log (suc p)) i x) in
            let most = own.1 in
            omega (arith, its, most, whole)

    lines_are : first_full 1 (host_lines n log) ≡ None → All IsLine (chart_from log 1 (host_lines n log))
    lines_are none p d less = subst IsLine (sym (view_is n log p d inside)) (record { short = short; partners = partners; regions = regions })
      where
        inside : p < n
        inside = omega (arith, less, whole)

        short : length (map (event_of log) (line_of n log (suc p))) ≤ MAX_EVENTS
        short =
            let same = length-map (line_of n log (suc p)) (event_of log) in
            let few : length (line_of n log (suc p)) ≤ MAX_EVENTS =
            subst (λ (items : List Item). length items ≤ MAX_EVENTS) (host_is n log p (line_of n log (suc p)) inside)
            (All-get_or (λ (items : List Item). length items ≤ MAX_EVENTS) (host_lines n log) p (line_of n log (suc p)) (let all = hosts_count n log in omega (arith, less, whole, all)) (short_all 1 (host_lines n log) none)) in
            omega (arith, same, few)

        partners : (i : ℕ) (m : Event) → slice_get (map (event_of log) (line_of n log (suc p))) i ≡ Some m → partner_of m ≢ suc p
        partners i m is =
            let x = ith_of (event_of log) (line_of n log (suc p)) (suc i) m is in
            let own = partner_in n from to log lanes among (suc p) (suc i) x.0 x.1 in
            λ e. own.2 (sym (event_partner log x.0) ∙ ap partner_of x.2 ∙ e)

        regions : (i : ℕ) (m : Event) → slice_get (map (event_of log) (line_of n log (suc p))) i ≡ Some m → MayHaveRegion (take i (map (event_of log) (line_of n log (suc p)))) (region_of m)
        regions i m is =
            let x = ith_of (event_of log) (line_of n log (suc p)) (suc i) m is in
            inl (sym (ap region_of x.2) ∙ event_region log x.0)

    chart_is : 2 ≤ n → n ≤ MAX_INSTANCES → first_full 1 (host_lines n log) ≡ None → IsChart (chart_from log 1 (host_lines n log))
    chart_is several limit none = record {
      several = omega (arith, several, whole);
      limit = omega (arith, limit, whole);
      numbered = chart_is_numbered log (host_lines n log);
      partners = partners_are;
      each = lines_are none;
    }

    partner_begun : (e : Place) (m : Event) → chart_event (chart_lines (chart_from log 1 (host_lines n log))) e ≡ Some m → 1 ≤ partner_of m
    partner_begun e m is =
        let x = item_of_event n log e m is in
        let own = partner_in n from to log lanes among e.instance e.index x.0 x.1 in
        subst (λ q. 1 ≤ q) (sym (event_partner log x.0) ∙ ap partner_of x.2) own.0

  -- the chart of a log whose streams are on one lane each
  pub is_chart : HaveLanes log → 2 ≤ n → n ≤ MAX_INSTANCES → first_full 1 (host_lines n log) ≡ None → IsChart (chart_from log 1 (host_lines n log))
  is_chart (from, to, lanes) several limit none = chart_is from to lanes several limit none

  -- and none of whose receives is on a cycle
  pub is_possible : HaveLanes log → HasNone (kept log) → 2 ≤ n → n ≤ MAX_INSTANCES → first_full 1 (host_lines n log) ≡ None
      → IsPossible (length (chart_from log 1 (host_lines n log))) (chart_lines (chart_from log 1 (host_lines n log)))
  is_possible (from, to, lanes) settled several limit none =
      possible (chart_from log 1 (host_lines n log)) (chart_is from to lanes several limit none) (never_unsent n from to log lanes among) (λ s r belongs a b. same_names n from to log lanes among s r a b belongs)
      (partner_begun from to lanes) (never_cyclic n from to log lanes settled)
