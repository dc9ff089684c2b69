use Rattle.std.proofs.Common.{◌∙◌, not, ap}
use Rattle.cmd_run.proofs.FoundRaces.{has_events_is}
use Rattle.cmd_run.proofs.checking.has_events.Goals as goal

pub returns : goal.returns
returns c = ap not c.is_empty.ensures ∙ has_events_is c.args.ranges.now c.requires
