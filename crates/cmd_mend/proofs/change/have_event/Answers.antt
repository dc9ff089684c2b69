use Rattle.std.proofs.Common.{◌∙◌, sym}
use Rattle.chart.specs.Ranges.{events_of}
use Rattle.repair.proofs.NameLemmas.{any_flat}
use Rattle.repair.specs.Marks.{is_at}
use Rattle.cmd_mend.proofs.change.have_event.Goals as goal

pub returns : goal.returns
returns c = c.one_has_event.ensures ∙ sym (any_flat (is_at c.args.instance c.args.index) events_of c.args.ranges.now)
