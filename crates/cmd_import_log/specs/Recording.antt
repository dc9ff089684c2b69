-- The recording of a log: its lines as the chart has them, and what it declares about choices and arrivals (this
-- project's profile of logs).
use Rattle.std.specs.Prelude.{◌≡◌, ℕ, ◌&&◌, Bool, false, not, List, length, map, Result, Ok, Err}
use Rattle.regex.specs.Bytes.{regex_pattern}
use Rattle.log_formats.specs.Patterns.Expressions.{IsExpression}
use Rattle.log_formats.specs.Patterns.Observing.{pattern_observed}
use Rattle.log_formats.specs.declared.patterns.expression.Expression.{Expression}
use Rattle.log_lines.specs.Events.{LoggedEventView}
use Rattle.log_lines.specs.Names.Naming.{NamedView}
use Rattle.log_lines.specs.Takes.Arrivals.{arrivals_in}
use Rattle.log_lines.specs.Takes.Messages.{words_in, keys_in}
use Rattle.log_lines.specs.Takes.Observations.{ObservationsView, no_observations, observed_in}
use Rattle.log_chart.specs.HostLines.{host_lines}
use Rattle.log_chart.specs.Matching.{matched}
use Rattle.log_chart.specs.declared.entry.Entry.{Entry}
use Rattle.race_verdicts.specs.Recordings.{RecordingView, words_view, taken_view}
use Rattle.race_verdicts.specs.declared.recording.Arrival.{Arrival}
use Rattle.cmd_import_log.specs.Imported.{beside_with, named_in, IsImportedNamed, IsLog, IsRefused, IsRefusalOf}
use Rattle.cmd_import_log.specs.Options.{FormView, Plain, Pattern, ShiViz, OptionsView}
use Rattle.cmd_import_log.specs.Reading.{LogView}
use Rattle.cmd_import_log.specs.declared.imported.Beside.{Beside}
use Rattle.cmd_import_log.specs.declared.error.LogImportError.{LogImportError}
use Rattle.cmd_import_log.specs.declared.recording.LogRecording.{LogRecording}

-- a recording, as its judge borrows it
abbrev pub lent_of : LogRecording → RecordingView
lent_of r = record {
  lines = r.lines.items;
  hosts = r.hosts.items;
  words = map words_view r.words.items;
  taken = map taken_view r.taken.items;
  arrivals = r.arrivals.items;
}

-- its lines are in the order in which their hosts had the events: no message was captured, and clocks imply none
abbrev pub is_known : FormView → Beside → Bool
is_known ShiViz b = false
is_known form b = not b.is_captured && not b.is_timed

-- what the texts declare beside messages, in plain words or by an expression
abbrev pub Observes : FormView → OptionsView → List (List ℕ) → ObservationsView → Type 0
Observes Plain o texts observed = observed ≡ observed_in o.peers o.range texts
Observes (Pattern text) o texts observed =
    (e : Expression) × IsExpression text e × (observed ≡ pattern_observed e.groups e.more (regex_pattern e.regex) o.peers o.range texts)
Observes ShiViz o texts observed = observed ≡ no_observations

-- the arrivals of a log with these entries
abbrev pub arrivals_of : OptionsView → List LoggedEventView → List Entry → ObservationsView → List Arrival
arrivals_of o logged entries observed = arrivals_in (keys_in o.peers logged) (map (λ e. e.stream) entries) observed.arrived

-- what the recording has beside its chart, for a log with these events and, once receives are freed, these entries
pub record IsRecorded (o : OptionsView) (logged : List LoggedEventView) (settled : List Entry) (observed : ObservationsView) (r : LogRecording) : Type 0 where
  pub lines : r.lines.items ≡ matched settled
  pub hosts : r.hosts.items ≡ host_lines (length r.imported.diagnostics.names) settled
  pub words : map words_view r.words.items ≡ words_in o.peers logged
  pub taken : map taken_view r.taken.items ≡ observed.taken
  pub arrivals : r.arrivals.items ≡ arrivals_of o logged settled observed

-- the recording is that of these lines, of what else was read, and of these declarations
pub record IsNamedRecording (b : Beside) (n : NamedView) (o : OptionsView) (logged : List LoggedEventView) (observed : ObservationsView) (r : LogRecording) : Type 0 where
  pub imported : IsImportedNamed b n r.imported
  pub recorded : IsRecorded o logged imported.settled observed r
  pub known : r.is_known ≡ is_known o.form b

abbrev pub RecordsNamed : Result LogRecording LogImportError → Beside → NamedView → OptionsView → List LoggedEventView → ObservationsView → Type 0
RecordsNamed (Ok r) b n o logged observed = IsNamedRecording b n o logged observed r
RecordsNamed (Err e) b n o logged observed = IsRefused n e

-- the recording is that of the texts
pub record IsRecordingOf (o : OptionsView) (texts : List (List ℕ)) (r : LogRecording) : Type 0 where
  pub log : LogView
  pub is_log : IsLog o texts log
  pub observed : ObservationsView
  pub observes : Observes o.form o texts observed
  pub recording : IsNamedRecording (beside_with observed.misspelled log) (named_in o log) o log.read.logged observed r

-- the texts have no recording exactly if they have no chart
abbrev pub Records : Result LogRecording LogImportError → OptionsView → List (List ℕ) → Type 0
Records (Ok r) o texts = IsRecordingOf o texts r
Records (Err e) o texts = IsRefusalOf o texts e
