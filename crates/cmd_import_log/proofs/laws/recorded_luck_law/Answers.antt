use Rattle.cmd_import_log.proofs.RecordedLuckLemmas.{recorded_luck}
use Rattle.cmd_import_log.proofs.laws.recorded_luck_law.Goals as goal

pub returns : goal.returns
returns c = recorded_luck
