-- The clocks of a log, and the enforced order of its chart (Lamport 1978, Fidge 1988, Mattern 1989). The log is read by its
-- clocks alone, and they are vector time: then its chart puts one event of the log before another only if the clocks say so.
use Rattle.std.specs.Prelude.{◌≡◌, ℕ, ◌⊎◌, List, [], ◌∷◌, Some, Contains, length, slice_get}
use Rattle.chart.specs.Charts.{Place, chart_lines}
use Rattle.chart.specs.Order.{Before}
use Rattle.diagram_labels.specs.Labels.{name_of}
use Rattle.log_chart.specs.Charts.ChartOrder.{IsLogged}
use Rattle.log_chart.specs.declared.entry.Entry.{Entry}
use Rattle.log_lines.specs.Events.{LoggedEventView}
use Rattle.log_lines.specs.Names.Hosts.{PeerView, host_of}
use Rattle.log_lines.specs.Names.Naming.{NamedView}
use Rattle.log_lines.specs.Reading.{ReadView}
use Rattle.log_formats.specs.Clocks.Moments.{MomentView}
use Rattle.log_formats.specs.Clocks.ReadOrder.{IsByClocks}
use Rattle.log_formats.specs.Clocks.Saying.{moments_in, by_clocks}
use Rattle.log_formats.specs.Clocks.VectorTime.{AreAt, IsVectorTime, IsLess}
use Rattle.cmd_import_log.specs.Entries.{entry_place, names_in}
use Rattle.cmd_import_log.specs.Imported.{beside, beside_with, named_in, IsImportedNamed, IsImportedLog}
use Rattle.cmd_import_log.specs.Options.{OptionsView}
use Rattle.cmd_import_log.specs.Reading.{LogView}
use Rattle.cmd_import_log.specs.Recording.{IsRecordingOf}
use Rattle.cmd_import_log.specs.declared.imported.Beside.{Beside}
use Rattle.cmd_import_log.specs.declared.imported.ImportedLog.{ImportedLog}
use Rattle.cmd_import_log.specs.declared.recording.LogRecording.{LogRecording}

-- the words that a log has for hosts
abbrev pub host_words : List LoggedEventView → List (List ℕ)
host_words [] = []
host_words (x ∷ read) = x.event.host ∷ x.event.peer ∷ host_words read

-- no two of these words are for one host; without `--peer` this holds of all words
abbrev pub AreApart : List PeerView → List (List ℕ) → Type 0
AreApart peers words = (v w : List ℕ) → Contains words v → Contains words w → host_of peers v ≡ host_of peers w → v ≡ w

-- the log is what clocks alone give of these contents of its lines, and the clocks are vector time
pub record HasVectorTime (log : LogView) (source : ReadView) : Type 0 where
  pub read : log.read ≡ by_clocks source
  pub alone : IsByClocks source
  pub time : IsVectorTime (moments_in source)

-- the entry with this number is of an event of the log, with its clock: it has this event's line and the name of its host
pub record IsOfMoment (peers : List PeerView) (n : NamedView) (entries : List Entry) (k : ℕ) (m : MomentView) : Type 0 where
  pub entry : Entry
  pub here : slice_get entries k ≡ Some entry
  pub place : entry.place ≡ entry_place m.place
  pub host : entry.host_name ≡ name_of n.hosts (host_of peers m.clocked.host)

-- the entries with these numbers are of one event of the log, or of two whose clocks are in this order
pub record AreInTime (peers : List PeerView) (n : NamedView) (entries : List Entry) (events : List MomentView) (a b : ℕ) : Type 0 where
  pub i : ℕ
  pub j : ℕ
  pub from : MomentView
  pub to : MomentView
  pub at : AreAt events i j from to
  pub one : IsOfMoment peers n entries a from
  pub other : IsOfMoment peers n entries b to
  pub order : (i ≡ j) ⊎ IsLess from.stamps to.stamps

-- if a log has vector time, one of its events is before another in its chart only if their clocks are in this order
abbrev pub FollowsClocks : (o : OptionsView) (log : LogView) (b : Beside) (d : ImportedLog) → IsImportedNamed b (named_in o log) d → Type 0
FollowsClocks o log b d its = AreApart o.peers (host_words log.read.logged) → (source : ReadView) → HasVectorTime log source → (e f : Place) (k l : ℕ)
    → IsLogged (length (names_in (named_in o log))) its.settled e k → IsLogged (length (names_in (named_in o log))) its.settled f l
    → Before (chart_lines d.chart) e f → AreInTime o.peers (named_in o log) its.settled (moments_in source) k l

-- so it is for the chart of texts that are imported
abbrev pub ImportedClockLaw : Type 0
ImportedClockLaw = (o : OptionsView) (texts : List (List ℕ)) (d : ImportedLog) (its : IsImportedLog o texts d)
    → FollowsClocks o its.log (beside its.log) d its.imported

-- and for the chart of their recording
abbrev pub RecordedClockLaw : Type 0
RecordedClockLaw = (o : OptionsView) (texts : List (List ℕ)) (rec : LogRecording) (its : IsRecordingOf o texts rec)
    → FollowsClocks o its.log (beside_with its.observed.misspelled its.log) rec.imported its.recording.imported
