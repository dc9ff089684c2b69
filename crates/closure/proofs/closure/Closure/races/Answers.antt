use Rattle.closure.proofs.closure.Closure.races.Goals as goal

pub returns : goal.returns
returns c = rw (← c.linked.ensures.lines) c.reports_of.ensures
