use Rattle.std.proofs.Common.{refl, subst}
use Rattle.texts.specs.Writing.{Wrote}
use Rattle.cmd_compare.proofs.ComparedLemmas.{text_so}
use Rattle.cmd_compare.proofs.showing.write_both.Goals as goal

pub returns : goal.returns
returns g c =
    let both = c.args.both.now in
    subst (Wrote g.W.Out.sink c.args.out.now c.write_lines.new.out c.write_lines.result)
    (text_so both.form both.names.now both.other_names.now both.chart.now both.other_chart.now c.lines.result.now c.lines-2.result.now c.args.lines.now c.args.lines.now c.lines.ensures.value c.lines-2.ensures.value refl) c.write_lines.ensures
