use Rattle.std.proofs.Common.{ap, ◌∙◌}
use Rattle.cmd_page.specs.Marks.Pairing.{pairs_of}
use Rattle.cmd_page.proofs.marks.pairs.reported_races.Goals as goal

pub returns-clause-races : goal.returns-clause-races
returns-clause-races c = (c.in_ok-reports.reports.items, c.in_ok-reports.ensures, c.in_ok-races.ensures.pairs ∙ ap pairs_of c.as_slice.ensures.value)
