-- The chart of texts, from the chart of their lines.
use Rattle.std.proofs.Common.{◌≡◌, ℕ, List, subst, subst₂, Ok, Err}
use Rattle.std.specs.Prelude.{Result}
use Rattle.log_lines.specs.Names.Naming.{NamedView}
use Rattle.cmd_import_log.specs.Imported.{beside, named_in, IsImportedNamed, IsLog, IsRefused, ReadsNamed, ReadsLog}
use Rattle.cmd_import_log.specs.Options.{OptionsView}
use Rattle.cmd_import_log.specs.Reading.{LogView}
use Rattle.cmd_import_log.specs.declared.imported.Beside.{Beside}
use Rattle.cmd_import_log.specs.declared.imported.ImportedLog.{ImportedLog}
use Rattle.cmd_import_log.specs.declared.error.LogImportError.{LogImportError}
use Rattle.cmd_import_log.specs.declared.error.LogImportError.TheVariants.{Memory, BadPattern, NotALog, NoReceive, Instances, ToItself, LineFull}

module _ (o : OptionsView) (texts : List (List ℕ)) (log : LogView) (is_log : IsLog o texts log) where
  pub reads_as : (r : Result ImportedLog LogImportError) (b : Beside) (n : NamedView) → b ≡ beside log → n ≡ named_in o log → ReadsNamed r b n → ReadsLog r o texts
  reads_as (Ok d) b n be ne imported = record { log = log; is_log = is_log; imported = subst₂ (λ (x : Beside) (y : NamedView). IsImportedNamed x y d) be ne imported }
  reads_as (Err Memory) b n be ne refused = tt
  reads_as (Err (BadPattern place fault)) b n be ne refused = absurd refused
  reads_as (Err (NotALog lines others unread)) b n be ne refused = absurd refused
  reads_as (Err (NoReceive sends lines others unread)) b n be ne refused = absurd refused
  reads_as (Err Instances) b n be ne refused = record { log = log; is_log = is_log; refused = subst (λ (y : NamedView). IsRefused y Instances) ne refused }
  reads_as (Err (ToItself place)) b n be ne refused = record { log = log; is_log = is_log; refused = subst (λ (y : NamedView). IsRefused y (ToItself place)) ne refused }
  reads_as (Err (LineFull name)) b n be ne refused = record { log = log; is_log = is_log; refused = subst (λ (y : NamedView). IsRefused y (LineFull name)) ne refused }
