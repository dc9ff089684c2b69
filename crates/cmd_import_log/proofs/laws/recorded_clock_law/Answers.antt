use Rattle.cmd_import_log.proofs.RecordedClockLemmas.{imported_clocks, recorded_clocks}
use Rattle.cmd_import_log.proofs.laws.recorded_clock_law.Goals as goal

pub returns-clause-imported : goal.returns-clause-imported
returns-clause-imported c = imported_clocks

pub returns-clause-recorded : goal.returns-clause-recorded
returns-clause-recorded c = recorded_clocks
