-- The recording of texts, from the recording of their lines, and facts about it.
use Rattle.std.proofs.Common.{◌≡◌, ℕ, ◌≤◌, List, Option, Some, length, map, refl, sym, ap, ◌∙◌, subst, subst₂, arith, Ok, Err}
use Rattle.std.specs.Prelude.{Result, AllPairs, IfOk}
use Rattle.std.proofs.lemmas.List.{length-map}
use Rattle.log_chart.specs.Cycles.Freeing.{Settles, done, turn, freed}
use Rattle.log_chart.proofs.CyclesLemmas.SettleLemmas.{freed_length}
use Rattle.log_chart.proofs.NamedLemmas.EntryLemmas.{entries_whole}
use Rattle.log_chart.specs.Named.Logs.{begun}
use Rattle.regex.specs.Bytes.{regex_pattern}
use Rattle.log_formats.proofs.PatternsLemmas.ObservingLemmas as patterns
use Rattle.log_formats.specs.Patterns.Observing.{pattern_observed}
use Rattle.log_formats.specs.declared.patterns.expression.Expression.{Expression}
use Rattle.log_lines.specs.Events.{LoggedEventView}
use Rattle.log_lines.specs.Names.Naming.{NamedView}
use Rattle.log_lines.proofs.TakesLemmas.CountLemmas.{words_whole}
use Rattle.log_lines.proofs.TakesLemmas.ObservationLemmas.{observed_pairs}
use Rattle.log_lines.specs.Takes.Observations.{ObservationsView, observations_view}
use Rattle.log_lines.specs.declared.takes.observations.Observations.{Observations}
use Rattle.log_chart.proofs.OrderLemmas.{matched_length}
use Rattle.log_chart.specs.declared.entry.Entry.{Entry}
use Rattle.race_verdicts.specs.Recordings.{TakenView, words_view}
use Rattle.cmd_import_log.specs.Imported.{beside_with, named_in, IsImportedNamed, IsLog, IsRefused}
use Rattle.cmd_import_log.specs.Entries.{host_event_of, entries_in}
use Rattle.cmd_import_log.specs.Options.{FormView, Plain, Pattern, ShiViz, OptionsView}
use Rattle.cmd_import_log.specs.Reading.{LogView, IsKept}
use Rattle.cmd_import_log.specs.Recording.{is_known, Observes, lent_of, IsRecorded, IsNamedRecording, RecordsNamed, IsRecordingOf, Records}
use Rattle.cmd_import_log.specs.declared.imported.Beside.{Beside}
use Rattle.cmd_import_log.specs.declared.imported.ImportedLog.{ImportedLog}
use Rattle.cmd_import_log.specs.declared.error.LogImportError.{LogImportError}
use Rattle.cmd_import_log.specs.declared.error.LogImportError.TheVariants.{Memory, BadPattern, NotALog, NoReceive, Instances, ToItself, LineFull}
use Rattle.cmd_import_log.specs.declared.recording.LogRecording.{LogRecording}

-- a chart, and the entries that it was made from
abbrev IsOfEntries : List Entry → Beside → NamedView → ImportedLog → Type 0
IsOfEntries settled b n d = (its : IsImportedNamed b n d) × (its.settled ≡ settled)

-- the recording of the entries of a chart
pub named_as : (b : Beside) (n : NamedView) (o : OptionsView) (logged : List LoggedEventView) (observed : ObservationsView) (r : LogRecording) (settled : List Entry) (d : ImportedLog) → r.imported ≡ d → IsOfEntries settled b n d
    → IsRecorded o logged settled observed r → r.is_known ≡ is_known o.form b → IsNamedRecording b n o logged observed r
named_as b n o logged observed r settled d same its recorded known =
    let built = subst (IsOfEntries settled b n) (sym same) its in
    record { imported = built.0; recorded = subst (λ (e : List Entry). IsRecorded o logged e observed r) (sym built.1) recorded; known = known }

module _ (o : OptionsView) (texts : List (List ℕ)) (log : LogView) (is_log : IsLog o texts log) (observed : ObservationsView) (observes : Observes o.form o texts observed) where
  pub records_as : (result : Result LogRecording LogImportError) (b : Beside) (n : NamedView) (logged : List LoggedEventView) → b ≡ beside_with observed.misspelled log → n ≡ named_in o log → logged ≡ log.read.logged
      → RecordsNamed result b n o logged observed → Records result o texts
  records_as (Ok r) b n logged be ne se recording = record {
    log = log;
    is_log = is_log;
    observed = observed;
    observes = observes;
    recording =
        subst (λ (l : List LoggedEventView). IsNamedRecording (beside_with observed.misspelled log) (named_in o log) o l observed r) se
        (subst₂ (λ (x : Beside) (y : NamedView). IsNamedRecording x y o logged observed r) be ne recording);
  }
  records_as (Err Memory) b n logged be ne se refused = tt
  records_as (Err (BadPattern place fault)) b n logged be ne se refused = absurd refused
  records_as (Err (NotALog lines others unread)) b n logged be ne se refused = absurd refused
  records_as (Err (NoReceive sends lines others unread)) b n logged be ne se refused = absurd refused
  records_as (Err Instances) b n logged be ne se refused = record { log = log; is_log = is_log; refused = subst (λ (y : NamedView). IsRefused y Instances) ne refused }
  records_as (Err (ToItself place)) b n logged be ne se refused = record { log = log; is_log = is_log; refused = subst (λ (y : NamedView). IsRefused y (ToItself place)) ne refused }
  records_as (Err (LineFull name)) b n logged be ne se refused = record { log = log; is_log = is_log; refused = subst (λ (y : NamedView). IsRefused y (LineFull name)) ne refused }

-- the declarations in the matches of the kept expression are those of the texts
pub observes_as : {E : Type 0} (text : List ℕ) (o : OptionsView) (texts : List (List ℕ)) (kept : Option Expression) (e : Expression) (result : Result Observations E) → kept ≡ Some e → IsKept (Pattern text) kept
    → IfOk result (λ observed. observations_view observed ≡ pattern_observed e.groups e.more (regex_pattern e.regex) o.peers o.range texts)
    → IfOk result (λ observed. Observes (Pattern text) o texts (observations_view observed))
observes_as text o texts kept e (Ok observed) is its same = (e, subst (IsKept (Pattern text)) is its, same)
observes_as text o texts kept e (Err failed) is its same = tt

-- each line has words
settled_length : (log out : List Entry) → Settles log out → length out ≡ length log
settled_length log out (done none) = refl
settled_length log out (turn k first rest) = settled_length (freed k log) out rest ∙ freed_length k log

pub words_for_all : (o : OptionsView) (texts : List (List ℕ)) (r : LogRecording) → IsRecordingOf o texts r → length r.words.items ≡ length r.lines.items
words_for_all o texts r its =
    let logged = its.log.read.logged in
    let n = named_in o its.log in
    let imported = its.recording.imported in
    let recorded = its.recording.recorded in
    sym (length-map r.words.items words_view)
    ∙ ap length recorded.words
    ∙ words_whole o.hosts o.peers logged
    ∙ sym (length-map n.lines host_event_of)
    ∙ sym (entries_whole (begun n.hosts.names) (map host_event_of n.lines))
    ∙ sym (settled_length (entries_in n) imported.settled imported.settles)
    ∙ sym (matched_length imported.settled)
    ∙ sym (ap length recorded.lines)

-- what receives would have taken is in the order of their lines
abbrev AreRising : ObservationsView → Type 0
AreRising t = AllPairs (λ a b. a.line ≤ b.line) t.taken

observed_rises : (form : FormView) (o : OptionsView) (texts : List (List ℕ)) (observed : ObservationsView) → Observes form o texts observed → AreRising observed
observed_rises Plain o texts observed is = subst AreRising (sym is) (observed_pairs o.peers o.range texts)
observed_rises (Pattern text) o texts observed (e, its, is) = subst AreRising (sym is) (patterns.observed_pairs e.groups e.more (regex_pattern e.regex) o.peers o.range texts)
observed_rises ShiViz o texts observed is = subst AreRising (sym is) (λ i j d before within. absurd (omega (arith, within)))

pub taken_rises : (o : OptionsView) (texts : List (List ℕ)) (r : LogRecording) → IsRecordingOf o texts r → AllPairs (λ a b. a.line ≤ b.line) (lent_of r).taken
taken_rises o texts r its =
    subst (λ (l : List TakenView). AllPairs (λ a b. a.line ≤ b.line) l) (sym its.recording.recorded.taken) (observed_rises o.form o texts its.observed its.observes)
