-- The effect of each command line of `mscview` (this project's profile).
use Rattle.std.specs.Prelude.{◌≡◌, ◌⊎◌, ℕ, Bool, true, false, List, [], ◌∷◌, map, Option, None, Some, option_map, Result, Ok, Err}
use Rattle.cmd_compare.specs.Answers.{compare_exit}
use Rattle.cmd_compare.specs.Comparisons.{ComparesFiles}
use Rattle.diagram_import.specs.Importing as diagrams
use Rattle.cmd_explain_file.specs.Explaining.{Explains, explained_exit}
use Rattle.cmd_base.specs.Answers.{Answers, Exit, Prints}
use Rattle.cmd_base.specs.Refusals.{refusal_text, Tried}
use Rattle.cmd_base.specs.Strict.{Refuses}
use Rattle.cmd_base.specs.declared.error.ProgramError.{ProgramError}
use Rattle.cmd_base.specs.declared.error.ProgramError.TheVariants.{Usage}
use Rattle.cmd_draw.specs.Answers.{draw_exit}
use Rattle.cmd_draw.specs.Drawing.{DrawsText}
use Rattle.cmd_draw.specs.Exporting.{ExportsText, export_exit}
use Rattle.cmd_draw.specs.Targets.{target_named}
use Rattle.cmd_draw.specs.declared.drawing.Wanted as pictures
use Rattle.cmd_import_diagram.specs.Importing as diagram_answers
use Rattle.cmd_page.specs.Imports.DiagramPages as diagram_pages
use Rattle.cmd_draw.specs.Imports.Drawing as diagram_pictures
use Rattle.cmd_races.specs.Imports.Showing as diagram_races
use Rattle.cmd_import_log.specs.Importing as log_answers
use Rattle.cmd_import_log.specs.Options as logs
use Rattle.cmd_page.specs.Logs.Showing as log_pages
use Rattle.cmd_races.specs.Logs.Showing as log_races
use Rattle.cmd_mend.specs.Answers.{mend_exit, mend_all_exit}
use Rattle.cmd_mend.specs.Luck.{MendsLog}
use Rattle.cmd_mend.specs.Showing as mends
use Rattle.cmd_mend.specs.declared.showing_all.WantedAll.{WantedAll}
use Rattle.cmd_mend.specs.declared.showing.Wanted as mend_wanted
use Rattle.texts.specs.Outs.{Sink}
use Rattle.mscview_requests.specs.Words.Words.{SayNothing, AreNotRead}
use Rattle.cmd_page.specs.Showing as pages
use Rattle.cmd_page.specs.Showing.{page_exit}
use Rattle.cmd_races.specs.Showing as races
use Rattle.cmd_races.specs.Statuses.{shown_exit}
use Rattle.cmd_races.specs.declared.judging.LuckWanted.{LuckWanted}
use Rattle.cmd_races.specs.declared.showing.Wanted.{Wanted}
use Rattle.cmd_races.specs.Schedules.Showing.{ShowsLuck}
use Rattle.cmd_tidy.specs.Tidying.{Tidies, tidy_exit}
use Rattle.diagram_tool.specs.declared.Tool.{Tool}
use Rattle.cli.specs.declared.view.request.Compare.{Compare}
use Rattle.cli.specs.declared.view.request.Draw.{Draw}
use Rattle.cli.specs.declared.view.request.DrawWitness.{DrawWitness}
use Rattle.cli.specs.declared.view.request.Export.{Export}
use Rattle.cli.specs.declared.view.request.Import.{Import}
use Rattle.cli.specs.declared.view.request.ImportLog.{ImportLog}
use Rattle.cli.specs.declared.view.request.LogQuestion.{LogQuestion}
use Rattle.cli.specs.declared.view.request.LogRaces.{LogRaces}
use Rattle.cli.specs.declared.view.request.Mend as mend
use Rattle.cli.specs.declared.view.request.Mend.TheVariants.{One, All}
use Rattle.cli.specs.declared.view.request.MendLuck.{MendLuck}
use Rattle.cli.specs.declared.view.request.Page.{Page}
use Rattle.cli.specs.declared.view.request.Pair.{Pair}
use Rattle.cli.specs.declared.view.request.Question as question
use Rattle.cli.specs.declared.view.request.Question.TheVariants.{Witness, Why}
use Rattle.cli.specs.declared.view.request.Races.{Races}
use Rattle.cli.specs.declared.view.request.Reading.{Reading}
use Rattle.cli.specs.declared.view.request.Request.{Request}
use Rattle.cli.specs.declared.view.request.Request.TheVariants as requests
use Rattle.cli.specs.declared.view.request.ToolQuestion.{ToolQuestion}
use Rattle.cmd_explain_race.specs.Answers.{why_file_exit, witness_exit}
use Rattle.cmd_explain_race.specs.FilePairs.{WhysFile}
use Rattle.cmd_explain_race.specs.Witnessing.{Witnesses}
use Rattle.cmd_base.specs.declared.pairs.pair.Asked.{Asked}
use Rattle.cmd_draw.specs.Witness.Answers.{picture_exit}
use Rattle.cmd_draw.specs.Witness.Drawing.{DrawsWitnessText}
use Rattle.mscview_requests.specs.Given.{named_so, file_named, files_named, diagnostic_files, AreGiven, IsNotGiven}
use Rattle.mscview_requests.specs.Lines.{RefusesWords}
use Rattle.mscview_requests.specs.Questions.{IsToolQuestion, IsLogQuestion, LeavesDiagram, LeavesLog}
use Rattle.mscview_requests.specs.declared.questions.ReadQuestion.{ReadQuestion}
use Rattle.mscview_requests.specs.declared.questions.ReadQuestion.TheVariants as questions
use Rattle.mscview_requests.specs.Wanted.{IsAsked, IsMend, IsMendAll, IsMendLuck, IsPicture, IsPictureOf, IsBeside, IsNameOf, titled_path, first_path, comparison_form, AreRaces, AreJudged, IsReading, IsLog}

-- The effects of commands. Standard output is known by `sink` before (`old`) and after (`new`), and standard error by
-- `diagnostics`.
module _ {S V : Type 0} (sink : S → Sink) (old new : S) (diagnostics : V → Sink) (before after : V) where
  -- a file was refused with this status; or the command has this effect, from the state of standard error that is given
  abbrev pub DoesUnless : Option ℕ → (V → List ℕ → ℕ → Type 0) → V → List ℕ → ℕ → Type 0
  DoesUnless None Does between text status = Does between text status
  DoesUnless (Some refused) Does between text status = (status ≡ refused) × (after ≡ between) × (new ≡ old)

  -- with `--strict`, a file that it refuses was refused, and nothing was written; for any other file the command has
  -- this effect
  abbrev pub DoesStrictly : Bool → (V → List ℕ → ℕ → Type 0) → List ℕ → ℕ → Type 0
  DoesStrictly strict Does text status = (between : V) × (refused : Option ℕ) × Refuses strict text diagnostics before between refused
      × DoesUnless refused Does between text status

  -- a pair of events was explained, or its witness was written
  abbrev pub DoesPair : question.Question → Asked → List ℕ → ℕ → Type 0
  DoesPair Witness asked text status = Answers (Witnesses sink old new text asked) witness_exit diagnostics before after status
  DoesPair Why asked text status = Answers (WhysFile sink old new text asked) why_file_exit diagnostics before after status

  -- the races of a chart or of a schedule were shown, or only those that were luck or may have been, if the words ask for these
  abbrev pub DoesRaces : Bool → Wanted → List ℕ → ℕ → Type 0
  DoesRaces true wanted text status = Answers (ShowsLuck sink old new wanted text) shown_exit diagnostics before after status
  DoesRaces false wanted text status = Answers (races.ShowsText sink old new wanted text) shown_exit diagnostics before after status

  -- the races of another tool's text were shown
  abbrev pub DoesToolRaces : Races → Option Tool × diagrams.OptionsView → List ℕ → ℕ → Type 0
  DoesToolRaces asked reading text status = (wanted : Wanted) × AreRaces asked.showing wanted
      × Answers (diagram_races.ShowsDiagram sink old new reading.0 text reading.1 wanted) diagram_races.races_exit diagnostics before after status

  -- a log was imported; diagnostics name the files, if there are several
  abbrev pub DoesLog : ImportLog → logs.OptionsView → List (List ℕ) → ℕ → Type 0
  DoesLog log options texts status = (names : List (List ℕ)) × (names ≡ diagnostic_files (map (λ word. word.now) log.files.items))
      × Answers (λ done. log_answers.Imports sink old new done options texts) (log_answers.imported_exit names) diagnostics before after status

  -- the races of a log were shown
  abbrev pub DoesLogRaces : LogRaces → logs.OptionsView → List (List ℕ) → ℕ → Type 0
  DoesLogRaces asked options texts status = (wanted : LuckWanted) × (names : List (List ℕ)) × AreJudged asked.showing wanted
      × (names ≡ diagnostic_files (map (λ word. word.now) asked.log.files.items))
      × Answers (log_races.ShowsLog sink old new options texts wanted) (log_races.races_exit names) diagnostics before after status

  -- a chart or a schedule was drawn
  abbrev pub DoesPicture : pictures.Wanted → List ℕ → ℕ → Type 0
  DoesPicture wanted text status = Answers (DrawsText sink old new wanted text) draw_exit diagnostics before after status

  -- the page of a file was written, with this title
  abbrev pub WritesPage : List ℕ → List ℕ → ℕ → Type 0
  WritesPage title text status = Answers (pages.ShowsFile sink old new (pages.titled title) text) page_exit diagnostics before after status

  -- the page of another tool's text was written, with the title that a picture of the file has
  abbrev pub DoesToolPage : Option (List ℕ) → Option Tool × diagrams.OptionsView → List ℕ → ℕ → Type 0
  DoesToolPage file reading text status = (title : List ℕ) × IsNameOf (titled_path file) title
      × Answers (diagram_pages.ShowsDiagram sink old new reading.0 text reading.1 title) diagram_pages.page_exit diagnostics before after status

  -- the page of a log was written, with the title that a picture of its first file has
  abbrev pub DoesLogPage : ImportLog → logs.OptionsView → List (List ℕ) → ℕ → Type 0
  DoesLogPage log options texts status = (title : List ℕ) × (names : List (List ℕ))
      × IsNameOf (titled_path (first_path (map (λ word. word.now) log.files.items))) title
      × (names ≡ diagnostic_files (map (λ word. word.now) log.files.items))
      × Answers (log_pages.ShowsLog sink old new options texts title) (log_pages.page_exit names) diagnostics before after status

  -- a message that removes a race was added
  abbrev pub DoesMend : mend_wanted.Wanted → List ℕ → ℕ → Type 0
  DoesMend wanted text status = Answers (mends.ShowsText sink old new wanted text) mend_exit diagnostics before after status

  -- messages were added, as long as each reduces the number of races, within the limit on the pairs that are tried
  abbrev pub DoesMendAll : WantedAll → List ℕ → ℕ → Type 0
  DoesMendAll wanted text status = Answers (mends.ShowsAllText sink wanted old new text) mend_all_exit diagnostics before after status

  -- a question about the races of a chart was answered
  abbrev pub DoesQuestion : ReadQuestion → List ℕ → ℕ → Type 0
  DoesQuestion (questions.Pair question asked) text status = DoesPair question asked text status
  DoesQuestion (questions.Mend wanted) text status = DoesMend wanted text status
  DoesQuestion (questions.MendAll wanted) text status = DoesMendAll wanted text status

-- The same effects if the text is imported first.
module _ {S V : Type 0} (sink : S → Sink) (old new : S) (diagnostics : V → Sink) (before after : V) where
  -- with the result of an import: its warnings were printed, and then the command answered for the text; or the
  -- import's refusal was printed, and nothing was written
  abbrev pub DoesAfter : Option (List ℕ) → Exit → ReadQuestion → ℕ → Type 0
  DoesAfter (Some text) exit question status = (between : V) × Prints diagnostics before between exit.diagnostics
      × DoesQuestion sink old new diagnostics between after question text status
  DoesAfter None exit question status = (status ≡ exit.status) × Prints diagnostics before after exit.diagnostics × (new ≡ old)

  -- for another tool's text
  abbrev pub DoesOverDiagram : ReadQuestion × (Option Tool × diagrams.OptionsView) → List ℕ → ℕ → Type 0
  DoesOverDiagram asked bytes status = (text : Option (List ℕ)) × (exit : Exit) × LeavesDiagram asked.1.0 bytes asked.1.1 text exit
      × DoesAfter text exit asked.0 status

  -- for a log; diagnostics have these names of its files, if there are several
  abbrev pub DoesOverLog : List (List ℕ) → ReadQuestion × logs.OptionsView → List (List ℕ) → ℕ → Type 0
  DoesOverLog names asked texts status = (text : Option (List ℕ)) × (exit : Exit) × LeavesLog asked.1 texts names text exit
      × DoesAfter text exit asked.0 status

-- `gives` has the possible results for the files of a command line, by their index and name. Standard output and
-- standard error are known as above, before and after.
module _ {S V : Type 0} (gives : ℕ → Option (List ℕ) → Result (List ℕ) ProgramError → Type 0) (sink : S → Sink) (old new : S) (diagnostics : V → Sink) (before after : V) where
  -- nothing was written
  abbrev pub IsSilent : Type 0
  IsSilent = (new ≡ old) × (after ≡ before)

  -- The result of a command that reads one file. The words are read first: they are valid, or they are refused. Then
  -- the file is read, and the command answers; or the file can't be read. A refusal has written nothing.
  abbrev pub OfFile : {A : Type 0} → (A → Type 0) → (ProgramError → Type 0) → Option (List ℕ) → (A → List ℕ → ℕ → Type 0) → Result ℕ ProgramError → Type 0
  OfFile {A = A} IsWanted IsRefused file Does (Ok status) = (wanted : A) × (text : List ℕ) × IsWanted wanted × gives 0 file (Ok text) × Does wanted text status
  OfFile {A = A} IsWanted IsRefused file Does (Err error) = IsSilent × (IsRefused error ⊎ ((wanted : A) × IsWanted wanted × gives 0 file (Err error)))

  -- the same if no word has to be read
  abbrev pub OfFileAlone : Option (List ℕ) → (List ℕ → ℕ → Type 0) → Result ℕ ProgramError → Type 0
  OfFileAlone file Does (Ok status) = (text : List ℕ) × gives 0 file (Ok text) × Does text status
  OfFileAlone file Does (Err error) = IsSilent × gives 0 file (Err error)

  -- the same for any number of files, which are read one after another
  abbrev pub OfFiles : {A : Type 0} → (A → Type 0) → List (Option (List ℕ)) → (A → List (List ℕ) → ℕ → Type 0) → Result ℕ ProgramError → Type 0
  OfFiles {A = A} IsWanted files Does (Ok status) = (wanted : A) × (texts : List (List ℕ)) × IsWanted wanted × AreGiven gives 0 files texts × Does wanted texts status
  OfFiles {A = A} IsWanted files Does (Err error) = IsSilent × (AreNotRead IsWanted error ⊎ ((wanted : A) × IsWanted wanted × IsNotGiven gives 0 files error))

  -- a pair of events was explained, or its witness was written
  abbrev pub ViewsPair : Pair → Result ℕ ProgramError → Type 0
  ViewsPair pair = OfFile (IsAsked pair.instance.now pair.earlier.now pair.receive.now)
      (SayNothing (IsAsked pair.instance.now pair.earlier.now pair.receive.now)) (named_so pair.file.now)
      (λ asked. DoesStrictly sink old new diagnostics before after pair.strict (λ between. DoesPair sink old new diagnostics between after pair.question asked))

  -- a chart or a schedule was drawn
  abbrev pub ViewsFilePicture : Draw → Result ℕ ProgramError → Type 0
  ViewsFilePicture draw = OfFile (IsPicture draw) (SayNothing (IsPicture draw)) (file_named (option_map (λ word. word.now) draw.file))
      (λ wanted. DoesStrictly sink old new diagnostics before after draw.strict (λ between. DoesPicture sink old new diagnostics between after wanted))

  -- another tool's text was drawn
  abbrev pub ViewsPictureOf : Draw → Reading → Result ℕ ProgramError → Type 0
  ViewsPictureOf draw reading = OfFile (IsPictureOf draw reading) (AreNotRead (IsPictureOf draw reading))
      (file_named (option_map (λ word. word.now) draw.file))
      (λ asked text status. Answers (diagram_pictures.DrawsDiagram sink old new asked.1.0 text asked.1.1 asked.0)
      diagram_pictures.picture_exit diagnostics before after status)

  -- a chart was drawn beside its witness
  abbrev pub ViewsWitnessPicture : DrawWitness → Result ℕ ProgramError → Type 0
  ViewsWitnessPicture draw = OfFile (IsBeside draw) (SayNothing (IsBeside draw)) (file_named (option_map (λ word. word.now) draw.file))
      (λ wanted text status. Answers (DrawsWitnessText sink old new wanted.0 wanted.1 text) picture_exit diagnostics before after status)

  -- the same, whether or not the file is another tool's text
  abbrev pub ViewsPictureBy : Option Reading → Draw → Result ℕ ProgramError → Type 0
  ViewsPictureBy None draw result = ViewsFilePicture draw result
  ViewsPictureBy (Some reading) draw result = ViewsPictureOf draw reading result

  abbrev pub ViewsPicture : Draw → Result ℕ ProgramError → Type 0
  ViewsPicture draw result = ViewsPictureBy draw.reading draw result

  -- a file was written for another tool
  abbrev pub ViewsExport : Export → Result ℕ ProgramError → Type 0
  ViewsExport export = OfFile (λ target. target_named export.to.now ≡ Some target) (SayNothing (λ target. target_named export.to.now ≡ Some target))
      (file_named (option_map (λ word. word.now) export.file))
      (λ target text status. Answers (ExportsText sink old new target text) export_exit diagnostics before after status)

  -- another tool's text was imported
  abbrev pub ViewsImport : Import → Result ℕ ProgramError → Type 0
  ViewsImport wanted = OfFile (IsReading wanted.reading) (AreNotRead (IsReading wanted.reading)) (file_named (option_map (λ word. word.now) wanted.file))
      (λ reading text status. Answers (λ done. diagram_answers.Imports sink old new done reading.0 text reading.1) diagram_answers.imported_exit diagnostics before after status)

  -- a log was imported
  abbrev pub ViewsLog : ImportLog → Result ℕ ProgramError → Type 0
  ViewsLog log = OfFiles (IsLog log) (files_named (map (λ word. word.now) log.files.items)) (DoesLog sink old new diagnostics before after log)

  -- two files were compared; the first is read before the second, and `-` is a file's name
  abbrev pub ViewsComparison : Compare → Result ℕ ProgramError → Type 0
  ViewsComparison wanted (Ok status) = (first : List ℕ) × (second : List ℕ)
      × gives 0 (Some wanted.first.now) (Ok first) × gives 1 (Some wanted.second.now) (Ok second)
      × Answers (ComparesFiles sink old new (comparison_form wanted.json) first second) compare_exit diagnostics before after status
  ViewsComparison wanted (Err error) = IsSilent × IsNotGiven gives 0 (Some wanted.first.now ∷ Some wanted.second.now ∷ []) error

  -- the races of a chart or of a schedule were shown
  abbrev pub ViewsFileRaces : Races → Result ℕ ProgramError → Type 0
  ViewsFileRaces asked = OfFileAlone (file_named (option_map (λ word. word.now) asked.file))
      (λ text status. (wanted : Wanted) × AreRaces asked.showing wanted × DoesStrictly sink old new diagnostics before after asked.strict
      (λ between. DoesRaces sink old new diagnostics between after asked.showing.luck wanted) text status)

  -- the text couldn't be read; or it was, but the words ask for luck, which such a text doesn't show (G1)
  abbrev pub HasNoLuck : Bool → Option (List ℕ) → ProgramError → Type 0
  HasNoLuck luck file error = gives 0 file (Err error) ⊎ ((text : List ℕ) × gives 0 file (Ok text) × (luck ≡ true) × (error ≡ Usage))

  abbrev pub ViewsRacesOf : Races → Reading → Result ℕ ProgramError → Type 0
  ViewsRacesOf asked reading (Ok status) = (asked.showing.luck ≡ false) × OfFile (IsReading reading) (AreNotRead (IsReading reading))
      (file_named (option_map (λ word. word.now) asked.file)) (DoesToolRaces sink old new diagnostics before after asked) (Ok status)
  ViewsRacesOf asked reading (Err error) = IsSilent × (AreNotRead (IsReading reading) error
      ⊎ ((wanted : Option Tool × diagrams.OptionsView) × IsReading reading wanted
      × HasNoLuck asked.showing.luck (file_named (option_map (λ word. word.now) asked.file)) error))

  -- the same, whether or not the file is another tool's text
  abbrev pub ViewsRacesBy : Option Reading → Races → Result ℕ ProgramError → Type 0
  ViewsRacesBy None asked result = ViewsFileRaces asked result
  ViewsRacesBy (Some reading) asked result = ViewsRacesOf asked reading result

  abbrev pub ViewsRaces : Races → Result ℕ ProgramError → Type 0
  ViewsRaces asked result = ViewsRacesBy asked.reading asked result

  -- the races of a log were shown
  abbrev pub ViewsLogRaces : LogRaces → Result ℕ ProgramError → Type 0
  ViewsLogRaces asked = OfFiles (IsLog asked.log) (files_named (map (λ word. word.now) asked.log.files.items)) (DoesLogRaces sink old new diagnostics before after asked)

  -- a message that removes a race was added; or messages were, as long as each reduces the number of races
  abbrev pub ViewsMend : mend.Mend → Result ℕ ProgramError → Type 0
  ViewsMend (One name verbose file instance earlier receive) result =
      OfFile (IsMend (option_map (λ word. word.now) name) verbose instance.now earlier.now receive.now)
      (SayNothing (IsMend (option_map (λ word. word.now) name) verbose instance.now earlier.now receive.now)) (named_so file.now)
      (DoesMend sink old new diagnostics before after) result
  ViewsMend (All receives completed limit file) result =
      OfFile (IsMendAll receives completed (option_map (λ word. word.now) limit))
      (SayNothing (IsMendAll receives completed (option_map (λ word. word.now) limit)))
      (file_named (option_map (λ word. word.now) file)) (DoesMendAll sink old new diagnostics before after) result

  -- the page of a file was written, with the title that a picture of the file has
  abbrev pub ViewsPage : Page → Result ℕ ProgramError → Type 0
  ViewsPage page = OfFileAlone (file_named (option_map (λ word. word.now) page.file))
      (λ text status. (title : List ℕ) × IsNameOf (titled_path (option_map (λ word. word.now) page.file)) title
      × DoesStrictly sink old new diagnostics before after page.strict (λ between. WritesPage sink old new diagnostics between after title) text status)

  -- the page of another tool's text was written
  abbrev pub ViewsToolPage : Import → Result ℕ ProgramError → Type 0
  ViewsToolPage wanted = OfFile (IsReading wanted.reading) (AreNotRead (IsReading wanted.reading)) (file_named (option_map (λ word. word.now) wanted.file))
      (DoesToolPage sink old new diagnostics before after (option_map (λ word. word.now) wanted.file))

  -- the page of a log was written
  abbrev pub ViewsLogPage : ImportLog → Result ℕ ProgramError → Type 0
  ViewsLogPage log = OfFiles (IsLog log) (files_named (map (λ word. word.now) log.files.items)) (DoesLogPage sink old new diagnostics before after log)

  -- a question about another tool's text was answered
  abbrev pub ViewsToolQuestion : ToolQuestion → Result ℕ ProgramError → Type 0
  ViewsToolQuestion wanted = OfFile (IsToolQuestion wanted) (AreNotRead (IsToolQuestion wanted))
      (file_named (option_map (λ word. word.now) wanted.import.file)) (DoesOverDiagram sink old new diagnostics before after)

  -- a question about a log was answered
  abbrev pub ViewsLogQuestion : LogQuestion → Result ℕ ProgramError → Type 0
  ViewsLogQuestion wanted = OfFiles (IsLogQuestion wanted) (files_named (map (λ word. word.now) wanted.log.files.items))
      (λ asked texts status. (names : List (List ℕ)) × (names ≡ diagnostic_files (map (λ word. word.now) wanted.log.files.items))
      × DoesOverLog sink old new diagnostics before after names asked texts status)

  -- messages were added for those races of a log that were luck
  abbrev pub ViewsMendLuck : MendLuck → Result ℕ ProgramError → Type 0
  ViewsMendLuck wanted = OfFiles (IsMendLuck wanted) (files_named (map (λ word. word.now) wanted.log.files.items))
      (λ asked texts status. (names : List (List ℕ)) × (names ≡ diagnostic_files (map (λ word. word.now) wanted.log.files.items))
      × MendsLog sink old new diagnostics before after names asked.1 texts asked.0 status)

  -- the exact text of a typed file was written
  abbrev pub ViewsTidy : Option (List ℕ) → Result ℕ ProgramError → Type 0
  ViewsTidy file = OfFileAlone (file_named file) (λ text status. Answers (Tidies sink old new text) tidy_exit diagnostics before after status)

  -- the report on a file was written
  abbrev pub ViewsExplanation : Option (List ℕ) → Result ℕ ProgramError → Type 0
  ViewsExplanation file = OfFileAlone (file_named file) (λ text status. Answers (Explains sink old new text) explained_exit diagnostics before after status)

  -- the effect of each request
  abbrev pub Comes : Request → Result ℕ ProgramError → Type 0
  Comes (requests.Pair pair) result = ViewsPair pair result
  Comes (requests.Draw draw) result = ViewsPicture draw result
  Comes (requests.DrawWitness draw) result = ViewsWitnessPicture draw result
  Comes (requests.Page page) result = ViewsPage page result
  Comes (requests.ToolPage wanted) result = ViewsToolPage wanted result
  Comes (requests.LogPage log) result = ViewsLogPage log result
  Comes (requests.Export wanted) result = ViewsExport wanted result
  Comes (requests.Import wanted) result = ViewsImport wanted result
  Comes (requests.ImportLog log) result = ViewsLog log result
  Comes (requests.Compare wanted) result = ViewsComparison wanted result
  Comes (requests.Races asked) result = ViewsRaces asked result
  Comes (requests.LogRaces asked) result = ViewsLogRaces asked result
  Comes (requests.Mend wanted) result = ViewsMend wanted result
  Comes (requests.ToolQuestion wanted) result = ViewsToolQuestion wanted result
  Comes (requests.LogQuestion wanted) result = ViewsLogQuestion wanted result
  Comes (requests.MendLuck wanted) result = ViewsMendLuck wanted result
  Comes (requests.Tidy file) result = ViewsTidy (option_map (λ word. word.now) file) result
  Comes (requests.Explain file) result = ViewsExplanation (option_map (λ word. word.now) file) result

-- a refusal's line was written to standard error, or a beginning of it if that failed, and the status is 2
abbrev pub IsRefusedBy : {V : Type 0} → ProgramError → (V → Sink) → V → V → ℕ → Type 0
IsRefusedBy error diagnostics before after status = (status ≡ 2) × Tried diagnostics before after (refusal_text error)

-- the exit status of a request; a refusal is printed
abbrev pub Ends : {V : Type 0} → Result ℕ ProgramError → (V → Sink) → V → V → ℕ → Type 0
Ends (Ok status') diagnostics before after status = (status ≡ status') × (after ≡ before)
Ends (Err error) diagnostics before after status = IsRefusedBy error diagnostics before after status

-- an output: its sink, which is known by its kind, before and after
pub record Stream (S : Type 0) : Type 0 where
  pub sink : S → Sink
  pub old : S
  pub new : S

abbrev pub stream : {S : Type 0} → (S → Sink) → S → S → Stream S
stream sink old new = record { sink = sink; old = old; new = new }

-- the request was carried out, or it was refused, and the refusal is printed
abbrev pub Views : {S V : Type 0} → (ℕ → Option (List ℕ) → Result (List ℕ) ProgramError → Type 0) → Stream S → Stream V → Request → ℕ → Type 0
Views {V = V} gives out err request status = (result : Result ℕ ProgramError) × (between : V)
    × Comes gives out.sink out.old out.new err.sink err.old between request result × Ends result err.sink between err.new status

-- some request was carried out; or the words form none, and this is printed
abbrev pub ViewsSome : {S V : Type 0} → (ℕ → Option (List ℕ) → Result (List ℕ) ProgramError → Type 0) → Stream S → Stream V → ℕ → Type 0
ViewsSome gives out err status =
    ((request : Request) × Views gives out err request status)
    ⊎ ((error : ProgramError) × RefusesWords error × (out.new ≡ out.old) × IsRefusedBy error err.sink err.old err.new status)
