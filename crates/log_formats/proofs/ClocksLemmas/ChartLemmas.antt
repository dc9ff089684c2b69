-- In the chart of a log that is read by clocks, an event of the log is before another one only if the clocks say so.
use Rattle.std.proofs.Common.{◌≡◌, ℕ, Bool, true, false, cond, List, Some, Contains, refl, sym, ap, ◌∙◌, subst}
use Rattle.std.specs.Prelude.{slice_get}
use Rattle.std.proofs.lemmas.Bool.{false≢true}
use Rattle.std.proofs.lemmas.List.Elements.{All-contains}
use Rattle.std.proofs.lemmas.Option.{slice_get_within, get_or_from_slice_get}
use Rattle.chart.specs.Charts.{chart_lines}
use Rattle.chart.specs.Order.{Before}
use Rattle.log_chart.proofs.ChartsLemmas.CycleLemmas.{logged_before}
use Rattle.log_chart.proofs.ChartsLemmas.TakenSendLemmas.{kept_taken}
use Rattle.log_chart.proofs.CyclesLemmas.SettleLemmas.{kept_takes, kept_entry}
use Rattle.log_chart.specs.Cycles.Order.{Follows, Comes}
use Rattle.log_chart.specs.Cycles.Order.Follows.{host, message}
use Rattle.log_chart.specs.Cycles.Order.Comes.{direct, through}
use Rattle.log_chart.specs.Entries.{is_send}
use Rattle.log_chart.specs.Fates.{sender_of, receiver_of}
use Rattle.log_chart.specs.HostLines.{kept}
use Rattle.log_chart.specs.Laws.{AreOfLanes}
use Rattle.log_chart.specs.declared.entry.Entry.{Entry}
use Rattle.log_chart.specs.declared.matching.LogLine.{LogLine}
use Rattle.log_lines.specs.Events.{LoggedEventView}
use Rattle.log_lines.specs.Names.Naming.{sends}
use Rattle.log_lines.specs.declared.event.Act.{Act}
use Rattle.log_lines.specs.declared.event.Act.TheVariants.{Send, Receive}
use Rattle.log_formats.specs.Clocks.ChartOrder.{IsEntryOf, AreEntriesOf, ClockChartLaw}
use Rattle.log_formats.specs.Clocks.ReadOrder.{IsReadBefore, above, taken, step}
use Rattle.log_formats.specs.Clocks.Saying.{by_clocks}
use Rattle.log_formats.proofs.ClocksLemmas.ReadLemmas.{read_law}

act_send : (act : Act) → sends act ≡ true → act ≡ Send
act_send Send e = refl
act_send Receive e = absurd (false≢true e)

act_receive : (act : Act) → sends act ≡ false → act ≡ Receive
act_receive Send e = absurd (false≢true (sym e))
act_receive Receive e = refl

-- the two ends of a lane, by the kind of the line
ends_of : (sends : Bool) (own other q p : ℕ) → (cond sends own other ≡ q) × (cond sends other own ≡ p) → (is : sends ≡ true) → (own ≡ q) × (other ≡ p)
ends_of true own other q p its is = its
ends_of false own other q p its is = absurd (false≢true is)

ends_back : (sends : Bool) (own other q p : ℕ) → (cond sends own other ≡ q) × (cond sends other own ≡ p) → (is : sends ≡ false) → (other ≡ q) × (own ≡ p)
ends_back true own other q p its is = absurd (false≢true (sym is))
ends_back false own other q p its is = its

module _ (read : List LoggedEventView) (log : List Entry) (are : AreEntriesOf read log) (from to : ℕ → ℕ) (lanes : AreOfLanes from to log) where
  -- a read event of a line that stays
  read_of : (x : LogLine) → Contains (kept log) x → (y : LoggedEventView) × (slice_get read (are.origin x.number) ≡ Some y) × IsEntryOf are.word are.id x.entry y
  read_of x x_in = are.each x.number x.entry (kept_entry log x x_in)

  -- the lane of a line that stays
  lane_of : (k : ℕ) (e : Entry) → slice_get log k ≡ Some e → (sender_of e ≡ from e.stream) × (receiver_of e ≡ to e.stream)
  lane_of k e is = All-contains (λ (e : Entry). (sender_of e ≡ from e.stream) × (receiver_of e ≡ to e.stream)) log e lanes (there log k e is)
    where
      there : (log : List Entry) (k : ℕ) (e : Entry) → slice_get log k ≡ Some e → Contains log e
      there log k e is = (k, slice_get_within log k e is, get_or_from_slice_get log k e e is)

  follows : (a b : ℕ) → Follows (kept log) a b → IsReadBefore read (are.origin a) (are.origin b)
  follows a b (host x y x_in y_in x_is y_is same less) =
      let u = read_of x x_in in
      let v = read_of y y_in in
      above (record {
        x = u.0;
        y = v.0;
        x_at = ap (λ k. slice_get read (are.origin k)) (sym x_is) ∙ u.1;
        y_at = ap (λ k. slice_get read (are.origin k)) (sym y_is) ∙ v.1;
        less = are.order a b less;
        host = u.2.host ∙ ap are.word same ∙ sym v.2.host;
      })
  follows a b (message y y_in y_is takes) =
      let v = read_of y y_in in
      let sent = kept_taken log y a y_in takes in
      let e : Entry = sent.0 in
      let u = are.each a e sent.1 in
      let receives : is_send y.entry.kind ≡ false = kept_takes log y a y_in takes in
      let one = ends_of (is_send e.kind) e.host e.peer (from e.stream) (to e.stream) (lane_of a e sent.1) sent.2 in
      let two = ends_back (is_send y.entry.kind) y.entry.host y.entry.peer (from y.entry.stream) (to y.entry.stream) (lane_of y.number y.entry (kept_entry log y y_in)) receives in
      let peers : y.entry.host ≡ e.peer = two.1 ∙ ap to (sym sent.3) ∙ sym one.1 in
      let hosts : y.entry.peer ≡ e.host = two.0 ∙ ap from (sym sent.3) ∙ sym one.0 in
      taken (record {
        x = u.0;
        y = v.0;
        x_at = u.1;
        y_at = ap (λ k. slice_get read (are.origin k)) (sym y_is) ∙ v.1;
        takes = record {
          sends = act_send u.0.event.act (sym u.2.sends ∙ sent.2);
          receives = act_receive v.0.event.act (sym v.2.sends ∙ receives);
          host = v.2.host ∙ ap are.word peers ∙ sym u.2.peer;
          peer = v.2.peer ∙ ap are.word hosts ∙ sym u.2.host;
          id = v.2.id_is ∙ ap are.id (sym sent.3) ∙ sym u.2.id_is;
        };
      })

  comes : (a b : ℕ) → Comes (kept log) a b → IsReadBefore read (are.origin a) (are.origin b)
  comes a b (direct its) = follows a b its
  comes a b (through {d = d} first rest) = step (are.origin d) (comes a d first) (comes d b rest)

pub clock_chart_law : ClockChartLaw
clock_chart_law log by time entries are lanes hosts d its e f a b one other way =
    read_law log by time (are.origin a) (are.origin b)
    (comes (by_clocks log).logged entries are lanes.0 lanes.1 lanes.2 a b
    (logged_before hosts lanes.0 lanes.1 entries lanes.2 e f one.0 other.0 a b one.1 other.1 one.2 other.2 (subst (λ chart. Before (chart_lines chart) e f) its.chart way)))
