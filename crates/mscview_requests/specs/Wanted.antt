-- The options of each command, by the words of its command line (this project's profile).
use Rattle.std.specs.Prelude.{◌≡◌, ℕ, ◌≤◌, List, [], ◌∷◌, map, bytes_eq, codes, Bool, true, false, Option, None, Some, option_map, if◌then◌else◌}
use Rattle.cmd_compare.specs.declared.comparison_text.Form as comparison
use Rattle.cmd_compare.specs.declared.comparison_text.Form.TheVariants as comparisons
use Rattle.diagram_import.specs.Importing as diagrams
use Rattle.diagram_import.specs.declared.skipping.Skip.{Skip}
use Rattle.cmd_base.specs.Numbers.{IsNumber, number_of}
use Rattle.cmd_draw.specs.Spans.{AreEvents}
use Rattle.cmd_draw.specs.Targets.{tool_named}
use Rattle.cmd_draw.specs.Titles.{IsFileName}
use Rattle.cmd_draw.specs.declared.drawing.Wanted as pictures
use Rattle.cmd_draw.specs.declared.events.Events.{Events}
use Rattle.cmd_draw.specs.declared.windows.Rows as picture_rows
use Rattle.cmd_draw.specs.declared.windows.Rows.TheVariants as row_kinds
use Rattle.cmd_import_log.specs.Options as logs
use Rattle.cmd_import_log.specs.Options.FormView.{Plain, Pattern, ShiViz}
use Rattle.log_lines.specs.declared.range.LineRange.{LineRange}
use Rattle.cmd_mend.specs.declared.showing.Detail as mend_detail
use Rattle.cmd_mend.specs.declared.showing.Detail.TheVariants as mend_details
use Rattle.cmd_mend.specs.declared.showing.Wanted as mends
use Rattle.cmd_mend.specs.declared.showing_all.WantedAll as all_mends
use Rattle.mscview_requests.specs.Words.Hosts.{AreFirst, IsPeer}
use Rattle.mscview_requests.specs.Words.Joins.{IsJoin}
use Rattle.mscview_requests.specs.Words.Words.{AreRead}
use Rattle.cmd_races.specs.declared.judging.LuckWanted as judged
use Rattle.cmd_races.specs.declared.showing.Wanted as races
use Rattle.races_text.specs.declared.named.listing.Form as listing
use Rattle.races_text.specs.declared.named.listing.Form.TheVariants as listings
use Rattle.diagram_tool.specs.declared.Tool.{Tool}
use Rattle.cli.specs.declared.view.request.Draw.{Draw}
use Rattle.cli.specs.declared.view.request.DrawWitness.{DrawWitness}
use Rattle.cli.specs.declared.view.request.ImportLog.{ImportLog}
use Rattle.cli.specs.declared.view.request.LogForm.{LogForm}
use Rattle.cli.specs.declared.view.request.LogForm.TheVariants as forms
use Rattle.cli.specs.declared.view.request.MendLuck.{MendLuck}
use Rattle.cli.specs.declared.view.request.Reading.{Reading}
use Rattle.cli.specs.declared.view.request.Rows as lines
use Rattle.cli.specs.declared.view.request.Rows.TheVariants as row_words
use Rattle.cli.specs.declared.view.showing.Showing.{Showing}
use Rattle.cmd_base.specs.declared.pairs.pair.Asked.{Asked}
use Rattle.cmd_draw.specs.declared.witness.drawing.Wanted as witnesses

-- the number in a word of decimal digits only
abbrev pub IsNumberIn : List ℕ → ℕ → Type 0
IsNumberIn word number = IsNumber word × (number ≡ number_of word)

-- the two events that the words name: an instance's name, and their numbers on its line
pub record IsAsked (instance earlier receive : List ℕ) (asked : Asked) : Type 0 where
  pub of : asked.instance.now ≡ instance
  pub first : IsNumberIn earlier asked.earlier
  pub last : IsNumberIn receive asked.receive

-- the detail of the races that go, stay and come: each range, or counts and the first ranges
abbrev pub detail_of : Bool → mend_detail.Detail
detail_of true = mend_details.Full
detail_of false = mend_details.Brief

-- the options of `mend`: the two events, the name of the added message if a word gives it, and the detail
pub record IsMend (name : Option (List ℕ)) (verbose : Bool) (instance earlier receive : List ℕ) (wanted : mends.Wanted)
    : Type 0 where
  pub asked : IsAsked instance earlier receive wanted.asked
  pub called : option_map (λ bytes. bytes.now) wanted.name ≡ name
  pub detail : wanted.detail ≡ detail_of verbose

-- the number of race pairs to try, if a word gives it
abbrev pub IsLimit : Option (List ℕ) → Option ℕ → Type 0
IsLimit None limit = limit ≡ None
IsLimit (Some word) limit = (number : ℕ) × IsNumberIn word number × (limit ≡ Some number)

-- the options of `mend --all`: which races are mended and counted, and the number of race pairs to try
pub record IsMendAll (receives completed : Bool) (limit : Option (List ℕ)) (wanted : all_mends.WantedAll) : Type 0 where
  pub receives_so : wanted.showing.receives ≡ receives
  pub completed_so : wanted.showing.run_to_completion ≡ completed
  pub limit_so : IsLimit limit wanted.limit

-- the events, or the rows, to draw: those in a word, or all
abbrev pub AreChosen : Option (List ℕ) → Events → Type 0
AreChosen None events = events ≡ record { first = 1; last = 4294967295 }
AreChosen (Some word) events = AreEvents word events

-- the rows to draw: all, those in a word, or those around an event
abbrev pub AreRows : lines.Rows → picture_rows.Rows → Type 0
AreRows row_words.All (row_kinds.Between rows) = AreChosen None rows
AreRows row_words.All (row_kinds.Around around) = ⊥
AreRows (row_words.Between word) (row_kinds.Between rows) = AreChosen (Some word.now) rows
AreRows (row_words.Between word) (row_kinds.Around around) = ⊥
AreRows (row_words.Around instance event) (row_kinds.Between rows) = ⊥
AreRows (row_words.Around instance event) (row_kinds.Around around) =
    (around.instance.now ≡ instance.now) × IsNumberIn event.now around.event

-- the path for the title; standard input has none
abbrev pub titled_path : Option (List ℕ) → Option (List ℕ)
titled_path None = None
titled_path (Some path) =
    if bytes_eq path (codes "-") then None else if bytes_eq path (codes "/dev/stdin") then None else Some path

-- the path of the first file, if one is named
abbrev pub first_path : List (List ℕ) → Option (List ℕ)
first_path [] = None
first_path (file ∷ files) = Some file

-- the title for a path: the name of the file, without its folder
abbrev pub IsNameOf : Option (List ℕ) → List ℕ → Type 0
IsNameOf None title = title ≡ []
IsNameOf (Some path) title = IsFileName path title

-- the title: the given words, or the name of the file without its folder
abbrev pub TitleBy : Option (List ℕ) → Option (List ℕ) → List ℕ → Type 0
TitleBy None path title = IsNameOf path title
TitleBy (Some words) path title = title ≡ words

-- the options of a picture
pub record IsPicture (draw : Draw) (wanted : pictures.Wanted) : Type 0 where
  pub title : TitleBy (option_map (λ word. word.now) draw.title) (titled_path (option_map (λ word. word.now) draw.file))
      wanted.title.now
  pub only : option_map (λ bytes. bytes.now) wanted.only ≡ option_map (λ word. word.now) draw.only
  pub events : AreChosen (option_map (λ word. word.now) draw.events) wanted.events
  pub rows : AreRows draw.rows wanted.rows
  pub numbers : wanted.numbers ≡ draw.numbers

-- the two events, and the options of the pictures of the chart and its witness
pub record IsBeside (draw : DrawWitness) (wanted : Asked × witnesses.Wanted) : Type 0 where
  pub asked : IsAsked draw.instance.now draw.earlier.now draw.receive.now wanted.0
  pub title : TitleBy (option_map (λ word. word.now) draw.title) (titled_path (option_map (λ word. word.now) draw.file))
      wanted.1.title.now
  pub only : option_map (λ bytes. bytes.now) wanted.1.only ≡ option_map (λ word. word.now) draw.only
  pub numbers : wanted.1.numbers ≡ draw.numbers

-- the form of a comparison, and the form of races
abbrev pub comparison_form : Bool → comparison.Form
comparison_form true = comparisons.Json
comparison_form false = comparisons.Plain

abbrev pub races_form : Bool → listing.Form
races_form true = listings.Json
races_form false = listings.Plain

-- the options for showing races
pub record AreRaces (showing : Showing) (wanted : races.Wanted) : Type 0 where
  pub only : option_map (λ bytes. bytes.now) wanted.only ≡ option_map (λ word. word.now) showing.only
  pub receives : wanted.receives ≡ showing.receives
  pub completed : wanted.run_to_completion ≡ showing.run_to_completion
  pub form : wanted.form ≡ races_form showing.json

-- the same, and whether only races that were luck are shown
pub record AreJudged (showing : Showing) (wanted : judged.LuckWanted) : Type 0 where
  pub races : AreRaces showing wanted.races
  pub luck : wanted.luck ≡ showing.luck

-- the tool that a word names, if there is a word
abbrev pub IsTool : Option (List ℕ) → Option Tool → Type 0
IsTool None tool = tool ≡ None
IsTool (Some word) None = ⊥
IsTool (Some word) (Some tool) = tool_named word ≡ Some tool

-- the lines to skip, by a word
pub record IsSkip (word : List ℕ) (skip : Skip) : Type 0 where
  pub events : Events
  pub says : AreEvents word events
  pub first : skip.first ≡ events.first
  pub last : skip.last ≡ events.last

-- how another tool's text is read: the tool, and the options
pub record IsReading (reading : Reading) (wanted : Option Tool × diagrams.OptionsView) : Type 0 where
  pub tool : IsTool (option_map (λ word. word.now) reading.from) wanted.0
  pub skipped : AreRead IsSkip (map (λ word. word.now) reading.skipped.items) wanted.1.skipped
  pub joined : AreRead IsJoin (map (λ word. word.now) reading.joined.items) wanted.1.joins
  pub strict : wanted.1.is_strict ≡ reading.strict

-- the form of a log's lines
abbrev pub form_of : LogForm → logs.FormView
form_of forms.Plain = Plain
form_of (forms.Pattern text) = Pattern text.now
form_of forms.ShiViz = ShiViz

-- the line number in a word, at least 1, or the default without a word
abbrev pub IsLine : ℕ → Option (List ℕ) → ℕ → Type 0
IsLine default None line = line ≡ default
IsLine default (Some word) line = IsNumberIn word line × (1 ≤ line)

-- the range of lines that are read, with a first and a last line from the words; without words it has all lines
pub record AreLines (first last : Option (List ℕ)) (range : LineRange) : Type 0 where
  pub first_is : IsLine 1 first range.first
  pub last_is : IsLine 18446744073709551615 last range.last
  pub some : range.first ≤ range.last

-- how a log is read
pub record IsLog (log : ImportLog) (options : logs.OptionsView) : Type 0 where
  pub form : options.form ≡ form_of log.form
  pub range : AreLines (option_map (λ word. word.now) log.from_line) (option_map (λ word. word.now) log.to_line) options.range
  pub hosts : AreFirst (option_map (λ word. word.now) log.hosts) options.hosts
  pub peers : AreRead IsPeer (map (λ word. word.now) log.peers.items) options.peers

-- the options of `mend --all --luck`, and how the log is read
abbrev pub IsMendLuck : MendLuck → all_mends.WantedAll × logs.OptionsView → Type 0
IsMendLuck wanted asked = IsMendAll wanted.receives wanted.run_to_completion (option_map (λ word. word.now) wanted.limit) asked.0
    × IsLog wanted.log asked.1

-- the options of a picture of another tool's text, and how the text is read
abbrev pub IsPictureOf : Draw → Reading → pictures.Wanted × (Option Tool × diagrams.OptionsView) → Type 0
IsPictureOf draw reading asked = IsPicture draw asked.0 × IsReading reading asked.1
