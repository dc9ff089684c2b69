use Rattle.std.proofs.Common.{sym, ◌∙◌}
use Rattle.fault_places.proofs.StandingLemmas.{want_next, lines_next, none_left}
use Rattle.fault_places.proofs.lines.standing_at.Goals as goal

pub lines-preserved : goal.lines-preserved
lines-preserved c = record {
  want = want_next _ c.lines.left _ _ _ _ c.lines-test.true c.in-Some.ensures.line c.want_behind-want.ensures ∙ c.lines.invariant.want;
  lines = lines_next c.lines.left _ _ _ c.lines-test.true c.in-Some.ensures.line ∙ c.lines.invariant.lines;
  end = sym c.in-Some.ensures.end ∙ c.lines.invariant.end;
}

pub returns-clause-want : goal.returns-clause-want
returns-clause-want c = sym (none_left c.lines.want c.lines.left _ c.lines-test.false) ∙ c.lines.invariant.want
