use Rattle.std.proofs.Common.{map, ◌∙◌}
use Rattle.log_lines.specs.Events.{logged_event_view}
use Rattle.log_lines.specs.Names.Naming.{named_view}
use Rattle.log_lines.specs.Takes.Observations.{observations_view}
use Rattle.cmd_import_log.specs.Options.{options_view}
use Rattle.cmd_import_log.proofs.RecordingLemmas.{named_as}
use Rattle.cmd_import_log.proofs.recording.recording_of.Goals as goal

pub returns-clause-records : goal.returns-clause-records
returns-clause-records c =
    let o = options_view c.args.options.now in
    let logged = map logged_event_view c.args.logged.now in
    let settled = c.in_ok-settled.settled in
    let r = c.in_ok-recorded.field-0 in
    named_as c.args.beside (named_view c.args.named.now) o logged (observations_view c.args.observed) r settled.entries.items settled.imported c.in_ok-recorded.ensures.imported
    c.in_ok-settled.ensures.settled c.in_ok-recorded.ensures.recorded (c.in_ok-recorded.ensures.known ∙ c.is_known-is_known.ensures)
