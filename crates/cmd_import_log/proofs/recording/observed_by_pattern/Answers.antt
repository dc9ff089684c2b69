use Rattle.std.proofs.Common.{map}
use Rattle.cmd_import_log.specs.Options.{options_view}
use Rattle.cmd_import_log.proofs.RecordingLemmas.{observes_as}
use Rattle.cmd_import_log.proofs.recording.observed_by_pattern.Goals as goal

pub returns-in-Some : goal.returns-in-Some
returns-in-Some c =
    observes_as c.args.pattern.now (options_view c.args.options.now) (map (λ text. text.now) c.args.texts.now) c.args.expression.now c.in-Some.expression c.observed_by.result c.in-Some.is c.requires
    c.observed_by.ensures.observed
