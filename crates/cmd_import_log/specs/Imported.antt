-- The chart of a log, and its warnings.
use Rattle.std.specs.Prelude.{◌≡◌, ℕ, true, false, ◌<◌, ◌≤◌, ◌⊎◌, List, [], ◌∷◌, ◌++◌, length, map, Option, None, Some, option_map, Result, Ok, Err, if◌then◌else◌}
use Rattle.chart.specs.Charts.{chart_lines, IsPossible}
use Rattle.diagram_labels.specs.Renaming.{renamed_view, renamed_from}
use Rattle.diagram_labels.specs.Labels.{Labelling}
use Rattle.cmd_import_log.specs.declared.answers.overtaking.Overtaking.{Overtaking}
use Rattle.cmd_import_log.specs.declared.answers.diagnostics.Diagnostics.{Diagnostics}
use Rattle.log_chart.specs.Charts.ChartLines.{first_full}
use Rattle.log_chart.specs.Charts.Building.{IsLogChart}
use Rattle.log_chart.specs.declared.charts.building.BuildError.{BuildError}
use Rattle.log_chart.specs.declared.charts.building.BuildError.TheVariants as builds
use Rattle.log_chart.specs.declared.charts.building.LogChart.{LogChart}
use Rattle.log_chart.specs.declared.charts.listing.Overtaking.{Overtaking as ChartOvertaking}
use Rattle.log_chart.specs.Cycles.Freeing.{Settles}
use Rattle.log_chart.specs.declared.named.entering.LogError.TheVariants as faults
use Rattle.log_lines.specs.declared.event.Place.{Place}
use Rattle.log_lines.specs.declared.read.Others.{Others}
use Rattle.log_formats.specs.Patterns.Unread.{UnreadLineView}
use Rattle.log_lines.specs.Names.Naming.{NamedView, named}
use Rattle.log_lines.specs.declared.names.line.NamedLine.{NamedLine}
use Rattle.log_chart.specs.HostLines.{host_lines}
use Rattle.log_chart.specs.declared.entry.Entry.{Entry}
use Rattle.log_chart.specs.declared.entry.Place.{Place as EntryPlace}
use Rattle.texts.specs.Instances.{name_at}
use Rattle.cmd_import_log.specs.Alike.{has_line, with_alike}
use Rattle.cmd_import_log.specs.Entries.{entries_in, names_in, fault_in}
use Rattle.cmd_import_log.specs.Options.{OptionsView}
use Rattle.cmd_import_log.specs.Reading.{LogView, has_receive, Says, IsBadForm}
use Rattle.log_text.specs.Unread.{line_of}
use Rattle.cmd_import_log.specs.Unread.{IsFirstUnread}
use Rattle.cmd_import_log.specs.declared.imported.Beside.{Beside}
use Rattle.cmd_import_log.specs.declared.imported.ImportedLog.{ImportedLog}
use Rattle.cmd_import_log.specs.declared.imported.Settled.{Settled}
use Rattle.cmd_import_log.specs.declared.error.LogImportError.{LogImportError}
use Rattle.cmd_import_log.specs.declared.error.LogImportError.TheVariants as errors

-- a line of a file, as warnings name it
abbrev pub log_place : EntryPlace → Place
log_place p = record { text = p.file; line = p.line }

abbrev pub log_overtaking : ChartOvertaking → Overtaking
log_overtaking o = record { line = log_place o.line; overtaken = log_place o.overtaken }

-- the labels whose names need a warning, each with its name
abbrev pub renames_of : Labelling → List (List ℕ × List ℕ)
renames_of l = renamed_from [] l.labels l.names

-- what was read from a log, apart from its events, with these receives that have misspelled words `takes=`
abbrev pub beside_with : Option Others → LogView → Beside
beside_with misspelled log = record {
  lines = log.lines;
  others = log.read.others;
  is_captured = log.is_captured;
  is_timed = log.is_timed;
  misspelled = misspelled;
}

-- the same, if such words don't matter
abbrev pub beside : LogView → Beside
beside log = beside_with None log

-- the list with these hosts, without those that have a line of their own
abbrev pub with_lineless : List NamedLine → List (List ℕ) → List (List ℕ) → List (List ℕ)
with_lineless lines found [] = found
with_lineless lines found (name ∷ names) =
    with_lineless lines (if has_line lines name then found else found ++ name ∷ []) names

-- the list with these hosts, without those that have none
abbrev pub with_lined : List NamedLine → List (List ℕ) → List (List ℕ) → List (List ℕ)
with_lined lines found [] = found
with_lined lines found (name ∷ names) =
    with_lined lines (if has_line lines name then found ++ name ∷ [] else found) names

-- the warnings about what was read, about the lines, about the names of instances, and about the chart
pub record AreDiagnosticsOf (b : Beside) (n : NamedView) (called : List (List ℕ)) (built : LogChart) (diagnostics : Diagnostics) : Type 0 where
  pub lines : diagnostics.lines ≡ b.lines
  pub events : diagnostics.events ≡ length n.lines
  pub lineless : diagnostics.lineless.items ≡ with_lineless n.lines [] n.hosts.names
  pub lined : diagnostics.lined.items ≡ with_lined n.lines [] n.hosts.names
  pub alike : diagnostics.alike.items ≡ with_alike n.lines n.hosts.names [] (with_lineless n.lines [] n.hosts.names)
  pub others : diagnostics.others ≡ b.others
  pub own : diagnostics.own ≡ n.own
  pub misspelled : diagnostics.misspelled ≡ b.misspelled
  pub captured : diagnostics.is_captured ≡ b.is_captured
  pub timed : diagnostics.is_timed ≡ b.is_timed
  pub lost : diagnostics.lost.items ≡ map log_place built.lost.items
  pub overtaking : diagnostics.overtaking.items ≡ map log_overtaking built.overtaking.items
  pub one_ended : diagnostics.is_one_ended ≡ built.is_one_ended
  pub freed : diagnostics.freed.items ≡ map log_place built.freed.items
  pub names : diagnostics.names ≡ called
  pub invented : diagnostics.invented ≡ built.invented
  pub hosts : map renamed_view diagnostics.hosts.items ≡ renames_of n.hosts
  pub messages : map renamed_view diagnostics.messages.items ≡ renames_of n.messages

-- the chart is that of the entries of lines, with some receives freed. Some run has it, and the warnings are about it
pub record IsImportedNamed (b : Beside) (n : NamedView) (d : ImportedLog) : Type 0 where
  pub settled : List Entry
  pub faultless : fault_in n ≡ None
  pub settles : Settles (entries_in n) settled
  pub short : first_full 1 (host_lines (length (names_in n)) settled) ≡ None
  pub built : LogChart
  pub is_built : IsLogChart (length (names_in n)) settled built
  pub chart : d.chart ≡ built.chart
  pub possible : IsPossible (length d.chart) (chart_lines d.chart)
  pub diagnostics : AreDiagnosticsOf b n (names_in n) built d.diagnostics

-- the chart is that of lines, whose entries these are once receives are freed
abbrev pub IsSettled : Beside → NamedView → Settled → Type 0
IsSettled b n s = (d : IsImportedNamed b n s.imported) × (d.settled ≡ s.entries.items)

-- the refusal of lines whose chart can't be made for this reason
abbrev pub refusal_of : List (List ℕ) → BuildError → LogImportError
refusal_of names builds.Memory = errors.Memory
refusal_of names builds.Instances = errors.Instances
refusal_of names (builds.LineFull p) = errors.LineFull (name_at names p)

-- the instance that the refusal names is at most the n-th
abbrev pub IsOfAmong : ℕ → BuildError → Type 0
IsOfAmong n builds.Memory = Unit {0}
IsOfAmong n builds.Instances = Unit {0}
IsOfAmong n (builds.LineFull p) = p ≤ n

-- a line has one host too many; or no line has a fault, and there are too few hosts
abbrev pub AreUnfit : NamedView → Type 0
AreUnfit n = (fault_in n ≡ Some faults.Instances) ⊎ ((fault_in n ≡ None) × (length (names_in n) < 2))

-- the first instance with too many events has this name, for these entries with some receives freed, and instances
-- with these names
pub record IsFull (names : List (List ℕ)) (entries : List Entry) (name : List ℕ) : Type 0 where
  pub settled : List Entry
  pub settles : Settles entries settled
  pub instance : ℕ
  pub is_first : first_full 1 (host_lines (length names) settled) ≡ Some instance
  pub named : name ≡ name_at names instance

-- the lines have no chart, for this reason
abbrev pub IsRefused : NamedView → LogImportError → Type 0
IsRefused n errors.Memory = Unit {0}
IsRefused n (errors.BadPattern place fault) = ⊥
IsRefused n (errors.NotALog lines others unread) = ⊥
IsRefused n (errors.NoReceive sends lines others unread) = ⊥
IsRefused n errors.Instances = AreUnfit n
IsRefused n (errors.ToItself place) = (p : EntryPlace) × (fault_in n ≡ Some (faults.ToItself p)) × (place ≡ log_place p)
IsRefused n (errors.LineFull name) = (fault_in n ≡ None) × IsFull (names_in n) (entries_in n) name

abbrev pub ReadsNamed : Result ImportedLog LogImportError → Beside → NamedView → Type 0
ReadsNamed (Ok d) b n = IsImportedNamed b n d
ReadsNamed (Err e) b n = IsRefused n e

-- the lines of a log, whose hosts and messages have names
abbrev pub named_in : OptionsView → LogView → NamedView
named_in o log = named o.hosts o.peers log.read.logged

-- the texts have these contents, and some line is a receive
pub record IsLog (o : OptionsView) (texts : List (List ℕ)) (log : LogView) : Type 0 where
  pub says : Says o.form o.range texts log
  pub received : has_receive log.read.logged ≡ true

-- the chart is that of the texts, and the warnings are about it
pub record IsImportedLog (o : OptionsView) (texts : List (List ℕ)) (d : ImportedLog) : Type 0 where
  pub log : LogView
  pub is_log : IsLog o texts log
  pub imported : IsImportedNamed (beside log) (named_in o log) d

-- the texts are a log that has no chart
pub record IsRefusedLog (o : OptionsView) (texts : List (List ℕ)) (error : LogImportError) : Type 0 where
  pub log : LogView
  pub is_log : IsLog o texts log
  pub refused : IsRefused (named_in o log) error

-- the texts have no message in this number of lines, these lines don't match, and this is the first of them with a match
-- that isn't read
pub record IsNoLog (o : OptionsView) (texts : List (List ℕ)) (lines : ℕ) (others : Option Others) (unread : Option UnreadLineView) : Type 0 where
  pub log : LogView
  pub says : Says o.form o.range texts log
  pub none : log.read.logged ≡ []
  pub counted : lines ≡ log.lines
  pub unmatched : others ≡ log.read.others
  pub first : IsFirstUnread o.form o.range texts unread

-- the texts have these numbers of events and of lines, these lines don't match, and this is the first of them with a
-- match that isn't read; no event is a receive
pub record IsWithoutReceive (o : OptionsView) (texts : List (List ℕ)) (sends lines : ℕ) (others : Option Others) (unread : Option UnreadLineView) : Type 0 where
  pub log : LogView
  pub says : Says o.form o.range texts log
  pub some : log.read.logged ≡ [] → ⊥
  pub none : has_receive log.read.logged ≡ false
  pub sent : sends ≡ length log.read.logged
  pub counted : lines ≡ log.lines
  pub unmatched : others ≡ log.read.others
  pub first : IsFirstUnread o.form o.range texts unread

-- the texts have no chart, or memory ran out
abbrev pub IsRefusalOf : OptionsView → List (List ℕ) → LogImportError → Type 0
IsRefusalOf o texts errors.Memory = Unit {0}
IsRefusalOf o texts (errors.BadPattern place fault) = IsBadForm o.form (errors.BadPattern place fault)
IsRefusalOf o texts (errors.NotALog lines others unread) = IsNoLog o texts lines others (option_map line_of unread)
IsRefusalOf o texts (errors.NoReceive sends lines others unread) = IsWithoutReceive o texts sends lines others (option_map line_of unread)
IsRefusalOf o texts errors.Instances = IsRefusedLog o texts errors.Instances
IsRefusalOf o texts (errors.ToItself place) = IsRefusedLog o texts (errors.ToItself place)
IsRefusalOf o texts (errors.LineFull name) = IsRefusedLog o texts (errors.LineFull name)

abbrev pub ReadsLog : Result ImportedLog LogImportError → OptionsView → List (List ℕ) → Type 0
ReadsLog (Ok d) o texts = IsImportedLog o texts d
ReadsLog (Err e) o texts = IsRefusalOf o texts e
