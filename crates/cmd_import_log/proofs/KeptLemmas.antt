-- The facts about a log's recording that its judge needs, with the lines of its chart.
use Rattle.std.proofs.Common.{◌≡◌, ℕ, zero, suc, ◌<◌, ◌≤◌, ◌⊎◌, inl, inr, Bool, true, false, cond, List, [], Option, None, Some, length, map, get_or, refl, sym, ap, ◌∙◌, subst, arith}
use Rattle.std.specs.Prelude.{Result, Ok, Err, All, AllPairs, Contains, IfOk, slice_get, option_map, nat_lt}
use Rattle.std.proofs.lemmas.Bool.{cases_lt, eq-eqb, false≢true}
use Rattle.std.proofs.lemmas.List.{length-map, get_or_past}
use Rattle.std.proofs.lemmas.List.Elements.{All-filter, All-weaker}
use Rattle.std.proofs.lemmas.Option.{none-some, slice_get-map, slice_get-get_or, slice_get_read, slice_get_within, get_or_from_slice_get}
use Rattle.chart.specs.Charts.{Place, LineView, IsNumbered, IsPossible, chart_lines, IsSendTo}
use Rattle.chart.specs.Events.{ith, is_send_to, send_event, receive_event}
use Rattle.log_chart.specs.Entries.{is_send, HaveStreams}
use Rattle.log_chart.specs.Fates.{fate_of, stays}
use Rattle.log_chart.specs.HostLines.{host_lines}
use Rattle.log_chart.specs.Items.{received_message, item_of, invented}
use Rattle.log_chart.specs.Matching.{matched}
use Rattle.log_chart.specs.declared.entry.Entry.{Entry}
use Rattle.log_chart.specs.declared.item.Item.{Item}
use Rattle.log_chart.specs.declared.item.MessageNo.TheVariants.{Sent}
use Rattle.log_chart.specs.declared.matching.LogLine.{LogLine}
use Rattle.log_chart.proofs.OrderLemmas.{matched_length}
use Rattle.log_chart.specs.Charts.ChartLines.{event_of, message_name, chart_from}
use Rattle.log_chart.proofs.ChartsLemmas.ItemLemmas.{hosts_count}
use Rattle.log_chart.proofs.ChartsLemmas.LineLemmas.{chart_count, host_is, line_is, view_is}
use Rattle.closure.proofs.ReadLemmas.{empty_line}
use Rattle.chart.specs.Histories.{AreTwo}
use Rattle.chart.specs.declared.instance.TheConstants.{MAX_INSTANCES}
use Rattle.std.specs.List.{fold}
use Rattle.log_chart.specs.Cycles.Freeing.{AreAmong}
use Rattle.log_chart.specs.Named.Entering.{with_word}
use Rattle.log_chart.specs.Named.Faults.{first_fault}
use Rattle.log_chart.specs.Named.Logs.{begun}
use Rattle.log_chart.specs.declared.named.entering.LogError.{LogError}
use Rattle.log_chart.specs.declared.named.entering.LogError.TheVariants.{Instances}
use Rattle.log_chart.proofs.CyclesLemmas.SettleLemmas.{settled_streams, settled_among}
use Rattle.log_chart.proofs.NamedLemmas.EntryLemmas.{have_streams, are_among}
use Rattle.cmd_import_log.specs.Imported.{named_in}
use Rattle.cmd_import_log.specs.Entries.{host_event_of, entries_in, names_in}
use Rattle.cmd_import_log.specs.Options.{OptionsView}
use Rattle.cmd_import_log.specs.Recording.{lent_of, IsRecordingOf, Records}
use Rattle.cmd_import_log.specs.declared.error.LogImportError.{LogImportError}
use Rattle.cmd_import_log.specs.declared.recording.LogRecording.{LogRecording}
use Rattle.cmd_import_log.proofs.RecordingLemmas.{words_for_all, taken_rises}
use Rattle.race_verdicts.specs.Luck.Places.{items_of, item_at}
use Rattle.race_verdicts.specs.Luck.Recorded.{IsSendLine, IsNamed, IsOfLog, IsLog, IsRecording}
use Rattle.race_verdicts.specs.Recordings.{TakenView, WordsView, RecordingView, words_view}
use Rattle.race_verdicts.specs.declared.recording.Arrival.{Arrival}
use Rattle.log_chart.proofs.ChartsLemmas.NumberLemmas.{numbered, of_entries, streams, sent_by}
use Rattle.log_chart.proofs.ChartsLemmas.HostItemLemmas.{all_items}

module _ (log : List Entry) where
  -- a line's event is one of the log
  of_line : (k : ℕ) (x : LogLine) → k < length (matched log) → slice_get (matched log) k ≡ Some x → IsOfLog (matched log) (item_of x)
  of_line k x within here = record { line = inside; message = named (is_send x.entry.kind) refl x.send refl; unlogged = λ none. absurd (cc none) }
    where
      number : x.number ≡ k
      number = numbered log k x here

      inside : x.number < length (matched log)
      inside = omega (arith, number, within)

      named : (sends : Bool) → is_send x.entry.kind ≡ sends → (send : Option ℕ) → x.send ≡ send → IsNamed (matched log) (cond sends (Sent x.number) (received_message x.number send))
      named true is send its = record { line = x; is = subst (λ i. slice_get (matched log) i ≡ Some x) (sym number) here; sends = is }
      named false is None its = inside
      named false is (Some s) its = let w = sent_by log k x s here its in record { line = w.0; is = w.1; sends = w.2 }

  all_of_lines : All (λ x. IsOfLog (matched log) (item_of x)) (matched log)
  all_of_lines k d within = of_line k (get_or (matched log) k d) within (slice_get-get_or (matched log) k d within)

  made_of_log : (p r : ℕ) → r < length log → IsOfLog (matched log) (invented p r)
  made_of_log p r within = record { line = tt; message = omega (arith, within, matched_length log); unlogged = λ none. refl }

  items_are : (hosts : ℕ) → All (All (IsOfLog (matched log))) (host_lines hosts log)
  items_are hosts =
      all_items (IsOfLog (matched log)) hosts log made_of_log
      (All-filter (λ x. stays (fate_of (matched log) x)) (λ x. IsOfLog (matched log) (item_of x)) (matched log) all_of_lines)

  is_log : HaveStreams log → IsLog (matched log)
  is_log have = record { numbered = numbered log; streams = streams log have; sends = sends }
    where
      sends : (x : LogLine) (s : ℕ) → Contains (matched log) x → x.send ≡ Some s → IsSendLine (matched log) s
      sends x s (k, within, is) its =
          let w = sent_by log k x s (slice_get_read (matched log) (length (matched log)) k x refl within (sym is)) its in
          record { line = w.0; is = w.1; sends = w.2 }

ith_map : {A B : Type 0} (f : A → B) (xs : List A) (i : ℕ) (x : A) → ith xs i ≡ Some x → ith (map f xs) i ≡ Some (f x)
ith_map f xs zero x is = absurd (none-some x is)
ith_map f xs (suc i) x is = slice_get-map f xs i ∙ ap (option_map f) is

module _ (n : ℕ) (log : List Entry) (words : List WordsView) (taken : List TakenView) (arrivals : List Arrival) where
  abbrev chart : List LineView
  chart = chart_from log 1 (host_lines n log)

  abbrev kept : RecordingView
  kept = record { lines = matched log; hosts = host_lines n log; words = words; taken = taken; arrivals = arrivals }

  chart_length : length chart ≡ n
  chart_length = chart_count log 1 (host_lines n log) ∙ hosts_count n log

  -- each host's line is that of its instance
  same_lines : (p : ℕ) → chart_lines chart p ≡ map (event_of log) (items_of kept p)
  same_lines zero = refl
  same_lines (suc p) = go (cases_lt p n)
    where
      go : (p < n) ⊎ (n ≤ p) → chart_lines chart (suc p) ≡ map (event_of log) (items_of kept (suc p))
      go (inl less) = line_is n log (suc p) (omega arith) (omega (arith, less)) ∙ ap (map (event_of log)) (sym (host_is n log p [] less))
      go (inr past) =
          empty_line chart p (omega (arith, past, chart_length)) ∙ ap (map (event_of log)) (sym (get_or_past (host_lines n log) p [] (omega (arith, past, hosts_count n log))))

  same_sends : (e : Place) (i : Item) → item_at kept e ≡ Some i → i.sends ≡ true → (q : ℕ) × IsSendTo (chart_lines chart) q e
  same_sends e i is sends =
      let event = ith_map (event_of log) (items_of kept e.instance) e.index i is in
      (i.partner, (event_of log i, subst (λ l. ith l e.index ≡ Some (event_of log i)) (sym (same_lines e.instance)) event, go i.sends sends))
    where
      go : (b : Bool) → b ≡ true → is_send_to i.partner (cond b (send_event i.partner (message_name log i)) (receive_event i.partner (message_name log i) 0)) ≡ true
      go true same = eq-eqb i.partner i.partner refl
      go false same = absurd (false≢true same)

  recording_of : HaveStreams log → AreAmong n log → length words ≡ length (matched log) → AllPairs (λ a b. a.line ≤ b.line) taken → IsRecording chart kept
  recording_of have two whole rises = record {
    log = is_log log have;
    words = whole;
    taken = rises;
    items = items_are log n;
    hosts = hosts_count n log ∙ sym chart_length;
    among = subst (λ k. All (λ (x : LogLine). x.entry.host ≤ k) (matched log)) (sym (hosts_count n log))
        (of_entries (λ (e : Entry). e.host ≤ n) log (All-weaker (λ (e : Entry). AreTwo n e.host e.peer) (λ (e : Entry). e.host ≤ n) (λ e ends. ends.1) log two));
    events = λ p. sym (ap length (same_lines p) ∙ length-map (items_of kept p) (event_of log));
    same = same_sends;
  }

no_fault : (b : Bool) (fault : Option LogError) → cond b (Some Instances) fault ≡ None → fault ≡ None
no_fault true fault is = absurd (none-some Instances (sym is))
no_fault false fault is = is

numbered_chart : (n : ℕ) (log : List Entry) → IsNumbered (chart_from log 1 (host_lines n log))
numbered_chart n log i l is =
    let lines = chart_from log 1 (host_lines n log) in
    let within : i < length lines = slice_get_within lines i l is in
    let whole : length lines ≡ n = chart_count log 1 (host_lines n log) ∙ hosts_count n log in
    ap (λ (x : LineView). x.instance) (sym (get_or_from_slice_get lines i l l is) ∙ view_is n log i l (omega (arith, within, whole)))

-- the lines of a recording's chart are numbered
is_numbered : (o : OptionsView) (texts : List (List ℕ)) (r : LogRecording) → IsRecordingOf o texts r → IsNumbered r.imported.chart
is_numbered o texts r its =
    let imported = its.recording.imported in
    subst IsNumbered (sym (imported.chart ∙ imported.is_built.chart)) (numbered_chart (length (names_in (named_in o its.log))) imported.settled)

-- a log's recording satisfies what its judge needs
is_recording : (o : OptionsView) (texts : List (List ℕ)) (r : LogRecording) → IsRecordingOf o texts r → length r.words.items ≡ length r.lines.items → AllPairs (λ a b. a.line ≤ b.line) (lent_of r).taken
    → IsRecording r.imported.chart (lent_of r)
is_recording o texts r its whole rises =
    let imported = its.recording.imported in
    let recorded = its.recording.recorded in
    let n = named_in o its.log in
    let settled = imported.settled in
    let hosts = length r.imported.diagnostics.names in
    let rec : RecordingView = lent_of r in
    let have = settled_streams (entries_in n) settled imported.settles (have_streams n.hosts.names (map host_event_of n.lines)) in
    let words : length rec.words ≡ length (matched settled) = length-map r.words.items words_view ∙ whole ∙ ap length recorded.lines in
    let names : length (names_in n) ≡ hosts = ap length (sym imported.diagnostics.names) in
    let none = no_fault (nat_lt MAX_INSTANCES (length (fold with_word [] n.hosts.names))) (first_fault (begun n.hosts.names) (map host_event_of n.lines)) imported.faultless in
    let two = subst (λ (k : ℕ). AreAmong k settled) names (settled_among (length (names_in n)) (entries_in n) settled imported.settles (are_among n.hosts.names (map host_event_of n.lines) none)) in
    let of_log = recording_of hosts settled rec.words rec.taken rec.arrivals have two words rises in
    let chart : r.imported.chart ≡ chart_from settled 1 (host_lines hosts settled) =
    imported.chart ∙ imported.is_built.chart ∙ ap (λ k. chart_from settled 1 (host_lines k settled)) names in
    subst (λ (ls : List LineView). IsRecording ls rec) (sym chart)
    (subst (λ (ls : List LogLine). IsRecording (chart_from settled 1 (host_lines hosts settled)) (record rec { lines = ls })) (sym recorded.lines)
    (subst (λ (hs : List (List Item)). IsRecording (chart_from settled 1 (host_lines hosts settled)) (record rec { lines = matched settled; hosts = hs })) (sym recorded.hosts) of_log))

-- the same for a result
pub records_keep : (o : OptionsView) (texts : List (List ℕ)) (result : Result LogRecording LogImportError) → Records result o texts → IfOk result (λ r. IsRecording r.imported.chart (lent_of r))
records_keep o texts (Ok r) its = is_recording o texts r its (words_for_all o texts r its) (taken_rises o texts r its)
records_keep o texts (Err e) its = tt

pub records_numbered : (o : OptionsView) (texts : List (List ℕ)) (result : Result LogRecording LogImportError) → Records result o texts → IfOk result (λ r. IsNumbered r.imported.chart)
records_numbered o texts (Ok r) its = is_numbered o texts r its
records_numbered o texts (Err e) its = tt

pub records_possible : (o : OptionsView) (texts : List (List ℕ)) (result : Result LogRecording LogImportError) → Records result o texts → IfOk result (λ r. IsPossible (length r.imported.chart) (chart_lines r.imported.chart))
records_possible o texts (Ok r) its = its.recording.imported.possible
records_possible o texts (Err e) its = tt
