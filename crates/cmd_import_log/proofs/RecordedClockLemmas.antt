-- The order of the chart of a log that is read by clocks, by the law of such charts for the entries of its lines.
use Rattle.std.proofs.Common.{◌≡◌, ℕ, ◌≤◌, Bool, true, false, cond, List, [], Option, None, Some, length, map, refl, sym, ap, ◌∙◌, subst, arith}
use Rattle.std.specs.Prelude.{fold, nat_lt, slice_get}
use Rattle.std.proofs.lemmas.Bool.{ltb-false}
use Rattle.std.proofs.lemmas.Option.{none-some, same_Some}
use Rattle.chart.specs.Charts.{chart_lines}
use Rattle.chart.specs.Order.{Before}
use Rattle.chart.specs.declared.instance.TheConstants.{MAX_INSTANCES}
use Rattle.diagram_labels.specs.Labels.{Labelling, name_of, labelled}
use Rattle.log_chart.specs.Cycles.Order.{Follows, Comes}
use Rattle.log_chart.specs.Cycles.Order.Follows.{host, message}
use Rattle.log_chart.specs.Cycles.Order.Comes.{direct, through}
use Rattle.log_chart.specs.HostLines.{kept}
use Rattle.log_chart.specs.Named.Entering.{with_word}
use Rattle.log_chart.specs.Named.Faults.{first_fault}
use Rattle.log_chart.specs.Named.Logs.{begun}
use Rattle.log_chart.specs.declared.entry.Entry.{Entry}
use Rattle.log_chart.specs.declared.named.entering.LogError.{LogError}
use Rattle.log_chart.specs.declared.named.entering.LogError.TheVariants.{Instances}
use Rattle.log_chart.proofs.ChartsLemmas.CycleLemmas.{logged_before}
use Rattle.log_chart.proofs.ChartsLemmas.TakenSendLemmas.{kept_taken}
use Rattle.log_chart.proofs.CyclesLemmas.SettleLemmas.{kept_entry, settled_lanes}
use Rattle.log_chart.proofs.NamedLemmas.StreamLemmas.{have_lanes}
use Rattle.log_lines.specs.Events.{LoggedEventView}
use Rattle.log_lines.specs.Names.Hosts.{PeerView, host_of}
use Rattle.log_lines.specs.Names.Naming.{NamedView, named}
use Rattle.log_lines.specs.Reading.{ReadView}
use Rattle.log_formats.specs.Clocks.ChartOrder.{AreEntriesOf}
use Rattle.log_formats.specs.Clocks.Moments.{MomentView}
use Rattle.log_formats.specs.Clocks.ReadOrder.{IsOf, AreReadInOrder}
use Rattle.log_formats.specs.Clocks.Saying.{moments_in, by_clocks}
use Rattle.log_formats.proofs.ClocksLemmas.ChartLemmas.{clock_chart_law}
use Rattle.cmd_import_log.specs.Entries.{entry_place, host_event_of, entries_in, names_in}
use Rattle.cmd_import_log.specs.Imported.{beside, beside_with, named_in, IsImportedNamed}
use Rattle.cmd_import_log.specs.Options.{OptionsView}
use Rattle.cmd_import_log.specs.Reading.{LogView}
use Rattle.cmd_import_log.specs.RecordedClocks.{host_words, AreApart, IsOfMoment, AreInTime, FollowsClocks, ImportedClockLaw, RecordedClockLaw}
use Rattle.cmd_import_log.specs.declared.imported.Beside.{Beside}
use Rattle.cmd_import_log.specs.declared.imported.ImportedLog.{ImportedLog}
use Rattle.cmd_import_log.proofs.HostNameLemmas.{names_differ}
use Rattle.cmd_import_log.proofs.PeerEntryLemmas.{renamed, all_renamed, words_with, entries_read, settled_read}
use Rattle.cmd_import_log.proofs.ReadEntryLemmas.{AreRead, start, hosts_of_read}

-- the first and the last of lines that come one before the other have entries
module _ (log : List Entry) where
  abbrev IsThere : ℕ → Type 0
  IsThere k = (e : Entry) × (slice_get log k ≡ Some e)

  first_follows : (a b : ℕ) → Follows (kept log) a b → IsThere a
  first_follows a b (host x y x_in y_in x_is y_is same less) = (x.entry, ap (slice_get log) (sym x_is) ∙ kept_entry log x x_in)
  first_follows a b (message y y_in y_is takes) = let sent = kept_taken log y a y_in takes in (sent.0, sent.1)

  last_follows : (a b : ℕ) → Follows (kept log) a b → IsThere b
  last_follows a b (host x y x_in y_in x_is y_is same less) = (y.entry, ap (slice_get log) (sym y_is) ∙ kept_entry log y y_in)
  last_follows a b (message y y_in y_is takes) = (y.entry, ap (slice_get log) (sym y_is) ∙ kept_entry log y y_in)

  first_comes : (a b : ℕ) → Comes (kept log) a b → IsThere a
  first_comes a b (direct its) = first_follows a b its
  first_comes a b (through {d = d} first rest) = first_comes a d first

  last_comes : (a b : ℕ) → Comes (kept log) a b → IsThere b
  last_comes a b (direct its) = last_follows a b its
  last_comes a b (through {d = d} first rest) = last_comes d b rest

few_names : (names : List (List ℕ)) (fault : Option LogError) → cond (nat_lt MAX_INSTANCES (length (fold with_word [] names))) (Some Instances) fault ≡ None → length (fold with_word [] names) ≤ MAX_INSTANCES
few_names names fault none = go (nat_lt MAX_INSTANCES (length (fold with_word [] names))) refl none
  where
    go : (its : Bool) → nat_lt MAX_INSTANCES (length (fold with_word [] names)) ≡ its → cond its (Some Instances) fault ≡ None → length (fold with_word [] names) ≤ MAX_INSTANCES
    go true e is = absurd (none-some Instances (sym is))
    go false e is = ltb-false MAX_INSTANCES (length (fold with_word [] names)) e

module _ (o : OptionsView) (log : LogView) where
  abbrev Names : NamedView
  Names = named_in o log

  abbrev NameFor : List ℕ → List ℕ
  NameFor w = name_of Names.hosts (host_of o.peers w)

  labels_are : Names.hosts ≡ labelled (words_with o.peers o.hosts log.read.logged)
  unfolding named
  labels_are = ap (λ (n : NamedView). n.hosts) (all_renamed o.peers log.read.logged (start o.hosts)) ∙ hosts_of_read o.hosts (map (renamed o.peers) log.read.logged)

  are_read : AreApart o.peers (host_words log.read.logged) → length (fold with_word [] Names.hosts.names) ≤ MAX_INSTANCES → AreRead NameFor log.read.logged (entries_in Names)
  unfolding named
  are_read apart few =
      let words = words_with o.peers o.hosts log.read.logged in
      let differ = names_differ MAX_INSTANCES (omega arith) words (subst (λ (l : Labelling). length (fold with_word [] l.names) ≤ MAX_INSTANCES) labels_are few) in
      subst (λ (l : Labelling). AreRead (λ w. name_of l (host_of o.peers w)) log.read.logged (entries_in Names)) (sym labels_are)
      (entries_read o.peers o.hosts log.read.logged apart differ (begun Names.hosts.names) host_event_of (λ l. record { host = refl; peer = refl; sends_so = refl; id = refl; place = refl }))

module _ (peers : List PeerView) (n : NamedView) (read : List LoggedEventView) (settled : List Entry) (are : AreRead (λ w. name_of n.hosts (host_of peers w)) read settled) where
  as_entries : AreEntriesOf read settled
  as_entries = record {
    origin = are.origin;
    word = are.word;
    id = are.id;
    order = are.order;
    each = λ k e is. let x = are.each k e is in let its = x.2 in (x.0, x.1, its.entry);
  }

  of_moment : (k : ℕ) (e : Entry) → slice_get settled k ≡ Some e → (x : LoggedEventView) → slice_get read (are.origin k) ≡ Some x → (m : MomentView) → IsOf m x → IsOfMoment peers n settled k m
  of_moment k e here x there m of =
      let y = are.each k e here in
      let its = y.2 in
      let same : y.0 ≡ x = same_Some y.0 x (sym y.1 ∙ there) in
      record {
        entry = e;
        here = here;
        place = its.place ∙ ap (λ (z : LoggedEventView). entry_place z.place) same ∙ ap entry_place of.place;
        host = its.name ∙ ap (λ (z : LoggedEventView). name_of n.hosts (host_of peers z.event.host)) same ∙ ap (λ w. name_of n.hosts (host_of peers w)) of.host;
      }

  in_time : (events : List MomentView) (a b : ℕ) → IsThere settled a → IsThere settled b → AreReadInOrder events read (are.origin a) (are.origin b) → AreInTime peers n settled events a b
  in_time events a b (e, e_at) (f, f_at) its = record {
    i = its.i;
    j = its.j;
    from = its.from;
    to = its.to;
    at = its.at;
    one = of_moment a e e_at its.x its.x_at its.from its.x_of;
    other = of_moment b f f_at its.y its.y_at its.to its.y_of;
    order = its.order;
  }

follows_clocks : (o : OptionsView) (log : LogView) (b : Beside) (d : ImportedLog) (its : IsImportedNamed b (named_in o log) d) → FollowsClocks o log b d its
unfolding as_entries
follows_clocks o log b d its apart source timed e f k l one other way =
    let n = named_in o log in
    let hosts = length (names_in n) in
    let settled = its.settled in
    let few = few_names n.hosts.names (first_fault (begun n.hosts.names) (map host_event_of n.lines)) its.faultless in
    let name_for : List ℕ → List ℕ = λ w. name_of n.hosts (host_of o.peers w) in
    let read = settled_read name_for log.read.logged (entries_in n) settled its.settles (are_read o log apart few) in
    let are : AreRead name_for (by_clocks source).logged settled = subst (λ (r : ReadView). AreRead name_for r.logged settled) timed.read read in
    let lanes = settled_lanes (entries_in n) settled its.settles (have_lanes n.hosts.names (map host_event_of n.lines)) in
    let comes = logged_before hosts lanes.0 lanes.1 settled lanes.2 e f one.0 other.0 k l one.1 other.1 one.2 other.2
    (subst (λ c. Before (chart_lines c) e f) (its.chart ∙ its.is_built.chart) way) in
    let order = clock_chart_law source timed.alone timed.time settled (as_entries o.peers n (by_clocks source).logged settled are) lanes hosts its.built its.is_built e f k l one other
    (subst (λ c. Before (chart_lines c) e f) its.chart way) in
    in_time o.peers n (by_clocks source).logged settled are (moments_in source) k l (first_comes settled k l comes) (last_comes settled k l comes) order

pub imported_clocks : ImportedClockLaw
imported_clocks o texts d its = follows_clocks o its.log (beside its.log) d its.imported

pub recorded_clocks : RecordedClockLaw
recorded_clocks o texts rec its = follows_clocks o its.log (beside_with its.observed.misspelled its.log) rec.imported its.recording.imported
