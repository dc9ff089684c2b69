-- The opening of a log before a command answers: the words are read, and then the files (this project's profile).
use Rattle.std.specs.Prelude.{◌≡◌, ◌⊎◌, ℕ, List, map, Option, Result, Ok, Err}
use Rattle.cmd_base.specs.declared.error.ProgramError.{ProgramError}
use Rattle.cmd_import_log.specs.Options as logs
use Rattle.mscview_requests.specs.Words.Words.{AreNotRead}
use Rattle.cli.specs.declared.view.request.ImportLog.{ImportLog}
use Rattle.mscview_requests.specs.FileBytes.{bytes_of}
use Rattle.mscview_requests.specs.Given.{files_named, diagnostic_files, AreGiven, IsNotGiven}
use Rattle.mscview_requests.specs.Readings.{log_words_view}
use Rattle.mscview_requests.specs.Wanted.{IsLog}
use Rattle.mscview_requests.specs.declared.recorded.OpenLog.{OpenLog}

-- the words give the options of the log, and its files were read; for several files their names are kept
pub record IsOpened (gives : ℕ → Option (List ℕ) → Result (List ℕ) ProgramError → Type 0) (log : ImportLog) (opened : OpenLog) : Type 0 where
  pub words : IsLog log (log_words_view opened.words)
  pub texts : AreGiven gives 0 (files_named (map (λ word. word.now) log.files.items)) (map bytes_of opened.texts.items)
  pub names : map (λ name. name.now) opened.names.items ≡ diagnostic_files (map (λ word. word.now) log.files.items)

-- a log is opened; or its words aren't valid, or one of its files can't be read, or memory runs out
abbrev pub OpensLog : (ℕ → Option (List ℕ) → Result (List ℕ) ProgramError → Type 0) → ImportLog → Result OpenLog ProgramError → Type 0
OpensLog gives log (Ok opened) = IsOpened gives log opened
OpensLog gives log (Err error) = AreNotRead (IsLog log) error
    ⊎ ((wanted : logs.OptionsView) × IsLog log wanted × IsNotGiven gives 0 (files_named (map (λ word. word.now) log.files.items)) error)
