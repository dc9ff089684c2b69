use Rattle.shown_races.proofs.ShownLemmas.{shown_unless}
use Rattle.shown_races.proofs.reports.kept_reports.Goals as goal

pub returns-then-not-only : goal.returns-then-not-only
returns-then-not-only c = shown_unless c.args.only c.args.lines.now c.args.reports.items c.if-not-only.true c.requires.reports
