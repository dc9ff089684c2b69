-- The answer to the import of a log.
use Rattle.std.specs.Prelude.{◌≡◌, ℕ, List, codes, Some, None, Result, Ok, Err}
use Rattle.cmd_base.specs.Answers.{Exit, refusal, exit_of}
use Rattle.cmd_base.specs.Refusals.{labelled_text}
use Rattle.cmd_import_log.specs.Answers.Diagnostics.{diagnostics_text}
use Rattle.cmd_import_log.specs.declared.answers.diagnostics.Diagnostics.{Diagnostics}
use Rattle.msc_text.specs.ChartText.{chart_text}
use Rattle.texts.specs.Outs.{Sink}
use Rattle.texts.specs.Writing.{Puts, Breaks}
use Rattle.cmd_import_log.specs.Imported.{IsImportedLog, IsRefusalOf}
use Rattle.cmd_import_log.specs.Options.{OptionsView}
use Rattle.cmd_import_log.specs.Refusals.{log_refusal_text}
use Rattle.cmd_import_log.specs.declared.imported.ImportedLog.{ImportedLog}
use Rattle.cmd_import_log.specs.declared.importing.LogWriteError.{LogWriteError}
use Rattle.cmd_import_log.specs.declared.importing.LogWriteError.TheVariants.{Log, Write}

module _ {S : Type 0} (sink : S → Sink) where
  -- the text of the texts' chart was written, or the beginning of it if a put failed. Nothing was written if the
  -- texts are refused or memory ran out
  abbrev pub Imports : S → S → Result Diagnostics LogWriteError → OptionsView → List (List ℕ) → Type 0
  Imports old new (Ok diagnostics) o texts = (d : ImportedLog) × IsImportedLog o texts d × (diagnostics ≡ d.diagnostics)
      × Puts sink old new (chart_text d.diagnostics.names d.chart)
  Imports old new (Err (Log error)) o texts = IsRefusalOf o texts error × (new ≡ old)
  Imports old new (Err Write) o texts = (d : ImportedLog) × IsImportedLog o texts d
      × Breaks sink old new (chart_text d.diagnostics.names d.chart)

-- the warnings about a chart that was written. `files` has the names of several files, and is empty for one
abbrev pub diagnostics_exit : List (List ℕ) → Diagnostics → Exit
diagnostics_exit files diagnostics = record { status = 0; diagnostics = Some (diagnostics_text files diagnostics) }

-- the text of a refusal
abbrev pub log_write_error_text : List (List ℕ) → LogWriteError → List ℕ
log_write_error_text files Write = labelled_text (codes "F24 Write") None
log_write_error_text files (Log error) = log_refusal_text files error

-- the status of an import, and its text on standard error
abbrev pub imported_exit : List (List ℕ) → Result Diagnostics LogWriteError → Exit
imported_exit files = exit_of (diagnostics_exit files) (λ error. refusal (log_write_error_text files error))
