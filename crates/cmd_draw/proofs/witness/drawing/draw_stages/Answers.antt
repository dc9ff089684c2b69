use Rattle.std.proofs.Common.{List, ap₂, ◌∙◌, subst}
use Rattle.chart.specs.Charts.{LineView}
use Rattle.cmd_base.specs.Columns.Columns.{only_of}
use Rattle.cmd_draw.specs.Witness.Counterparts.{counterpart}
use Rattle.cmd_draw.specs.Witness.Stages.{IsWhole}
use Rattle.cmd_draw.proofs.WitnessLemmas.PicturedLemmas.{marked_as}
use Rattle.cmd_draw.proofs.witness.drawing.draw_stages.Goals as goal

pub returns-in-Ok-write_beside : goal.returns-in-Ok-write_beside
returns-in-Ok-write_beside g c = (
  _,
  record {
    wanted_here = c.whole-chart.result;
    wanted_there = c.whole-witness.result;
    here = c.in-Ok.left;
    there = c.in-Ok-picture_of.right;
    whole_here = c.whole-chart.ensures;
    whole_there = subst (λ title. IsWhole title (only_of c.args.subject.now.wanted.now.only) c.args.subject.now.wanted.now.numbers c.whole-witness.result) c.other_title-title.ensures c.whole-witness.ensures;
    left = c.in-Ok.ensures;
    right = c.in-Ok-picture_of.ensures;
    is = marked_as _ _ _ _ _ _ _ _ _
        (c.counterpart.ensures ∙ ap₂ (λ (a b : List LineView). counterpart a b c.args.subject.now.pair.earlier) c.lines.ensures c.lines-2.ensures)
        (c.counterpart-2.ensures ∙ ap₂ (λ (a b : List LineView). counterpart a b c.args.subject.now.pair.receive) c.lines-3.ensures c.lines-4.ensures);
  },
  c.in-Ok-write_beside.ensures,
)

pub returns : goal.returns
returns g c = (
  _,
  record {
    wanted_here = c.whole-chart.result;
    wanted_there = c.whole-witness.result;
    here = c.in-Ok.left;
    there = c.in-Ok-picture_of.right;
    whole_here = c.whole-chart.ensures;
    whole_there = subst (λ title. IsWhole title (only_of c.args.subject.now.wanted.now.only) c.args.subject.now.wanted.now.numbers c.whole-witness.result) c.other_title-title.ensures c.whole-witness.ensures;
    left = c.in-Ok.ensures;
    right = c.in-Ok-picture_of.ensures;
    is = marked_as _ _ _ _ _ _ _ _ _
        (c.counterpart.ensures ∙ ap₂ (λ (a b : List LineView). counterpart a b c.args.subject.now.pair.earlier) c.lines.ensures c.lines-2.ensures)
        (c.counterpart-2.ensures ∙ ap₂ (λ (a b : List LineView). counterpart a b c.args.subject.now.pair.receive) c.lines-3.ensures c.lines-4.ensures);
  },
  c.in-Err-write_beside.ensures,
)
