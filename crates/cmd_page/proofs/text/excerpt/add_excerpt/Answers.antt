use Rattle.std.proofs.Common.{refl}
use Rattle.texts.specs.Lines.{lines_of}
use Rattle.texts.specs.Outs.{one_more}
use Rattle.texts.proofs.PiecesLemmas.Coming.{come_as, come_more, come_stops}
use Rattle.cmd_page.specs.Text.Excerpts.{is_shown}
use Rattle.cmd_page.proofs.TextLemmas.ExcerptLemmas.{lines_step}
use Rattle.cmd_page.proofs.text.excerpt.add_excerpt.Goals as goal

pub lines-preserved : goal.lines-preserved
lines-preserved g c =
    let step = lines_step c.args.excerpt.now c.lines.number c.saturating_add-number.result c.lines.follows_gap c.is_shown-follows_gap.result c.in-Some.line.now (lines_of c.lines.rest.now) (lines_of c.in-Some.others.now) c.in-Some.ensures.line c.is_shown-follows_gap.ensures c.saturating_add-number.ensures in
    come_more _ _ (come_as step c.lines.invariant) c.in_ok-add_next.ensures

pub returns-in_err-add_next : goal.returns-in_err-add_next
returns-in_err-add_next g c =
    let x = c.args.excerpt.now in
    let n = c.lines.number in
    let step = lines_step x n (one_more n) c.lines.follows_gap (is_shown x n) c.in-Some.line.now (lines_of c.lines.rest.now) (lines_of c.in-Some.others.now) c.in-Some.ensures.line refl refl in
    come_stops _ _ c.from_residual.result c.from_residual.ensures.0 (come_as step c.lines.invariant) c.in_err-add_next.ensures
