use Rattle.std.proofs.Common.{List, ◌∙◌, refl, subst}
use Rattle.std.proofs.lemmas.Result.{err_from_is_err_and}
use Rattle.std.specs.List.{flat_map, list_any}
use Rattle.texts.specs.Writing.{Puts, Breaks}
use Rattle.cmd_base.specs.Contents.{Named}
use Rattle.cmd_compare.specs.declared.comparison.LineComparison.{LineComparison}
use Rattle.cmd_compare.specs.Comparisons.{line_text, has_difference, found_in}
use Rattle.cmd_compare.proofs.NamingLemmas.{none_forth, none_back, refused_first, refused_second}
use Rattle.cmd_compare.proofs.ComparedLemmas.{compared_so}
use Rattle.cmd_compare.proofs.showing.compare_charts.Goals as goal

pub returns-in_err-others : goal.returns-in_err-others
returns-in_err-others g c =
    let both = c.args.both.now in
    let p = err_from_is_err_and c.from_residual.result c.from_residual.ensures.1 in
    rw (p.1, p.2) (none_forth g.W.Out.sink c.args.out.now both.form (both.names.now, both.chart.now) (both.other_names.now, both.other_chart.now) c.in_err-others.field-0.0 c.in_err-others.ensures)

pub returns-in_err-back : goal.returns-in_err-back
returns-in_err-back g c =
    let both = c.args.both.now in
    let p = err_from_is_err_and c.from_residual-in_err-back.result c.from_residual-in_err-back.ensures.1 in
    rw (p.1, p.2) (none_back g.W.Out.sink c.args.out.now both.form (both.names.now, both.chart.now) (both.other_names.now, both.other_chart.now) c.in_ok-others.others.items c.in_err-back.field-0.0 c.in_ok-others.ensures c.in_err-back.ensures)

pub returns-in_err-here : goal.returns-in_err-here
returns-in_err-here g c =
    let both = c.args.both.now in
    let p = err_from_is_err_and c.from_residual-in_err-here.result c.from_residual-in_err-here.ensures.1 in
    rw (p.1, p.2) (refused_first g.W.Out.sink c.args.out.now both.form (both.names.now, both.chart.now) (both.other_names.now, both.other_chart.now) c.in_ok-others.others.items c.in_ok-back.back.items c.in_err-here.field-0.0 c.in_ok-others.ensures c.in_ok-back.ensures c.in_err-here.ensures.refused)

pub returns-in_err-there : goal.returns-in_err-there
returns-in_err-there g c =
    let both = c.args.both.now in
    let p = err_from_is_err_and c.from_residual-in_err-there.result c.from_residual-in_err-there.ensures.1 in
    rw (p.1, p.2) (refused_second g.W.Out.sink c.args.out.now both.form (both.names.now, both.chart.now) (both.other_names.now, both.other_chart.now) c.in_ok-others.others.items c.in_ok-back.back.items c.in_err-there.field-0.0 c.in_ok-others.ensures c.in_ok-back.ensures c.in_ok-here.ensures.possible c.in_err-there.ensures.refused)

pub returns-in-Ok-write_both : goal.returns-in-Ok-write_both
returns-in-Ok-write_both g c =
    let both = c.args.both.now in
    let a : Named = (both.names.now, both.chart.now) in
    let b : Named = (both.other_names.now, both.other_chart.now) in
    let lines = c.in-Ok.lines.items in
    let compared = compared_so both.form a b c.in_ok-others.others.items c.in_ok-back.back.items c.as_slice.result.now c.as_slice-2.result.now c.in_ok-first.first c.in_ok-second.second lines c.as_slice-in-Ok-write_both.result.now c.found_on.result c.in_ok-others.ensures c.in_ok-back.ensures c.as_slice.ensures.value c.as_slice-2.ensures.value (c.in_ok-first.ensures.lines ∙ c.in_ok-here.ensures.closure) (c.in_ok-second.ensures.lines ∙ c.in_ok-there.ensures.closure) c.in-Ok.ensures c.as_slice-in-Ok-write_both.ensures.value c.found_on.ensures in (
      c.in_ok-here.ensures.possible,
      c.in_ok-there.ensures.possible,
      (flat_map (line_text both.form a b) lines, compared, subst (λ (l : List LineComparison). Puts g.W.Out.sink c.args.out.now c.write_both.new.out (flat_map (line_text both.form a b) l)) c.as_slice-3.ensures.value c.in-Ok-write_both.ensures),
    )

pub returns : goal.returns
returns g c =
    let both = c.args.both.now in
    let a : Named = (both.names.now, both.chart.now) in
    let b : Named = (both.other_names.now, both.other_chart.now) in
    let lines = c.in-Ok.lines.items in
    let found = found_in (list_any has_difference lines) in
    let compared = compared_so both.form a b c.in_ok-others.others.items c.in_ok-back.back.items c.as_slice.result.now c.as_slice-2.result.now c.in_ok-first.first c.in_ok-second.second lines lines found c.in_ok-others.ensures c.in_ok-back.ensures c.as_slice.ensures.value c.as_slice-2.ensures.value (c.in_ok-first.ensures.lines ∙ c.in_ok-here.ensures.closure) (c.in_ok-second.ensures.lines ∙ c.in_ok-there.ensures.closure) c.in-Ok.ensures refl refl in (
      c.in_ok-here.ensures.possible,
      c.in_ok-there.ensures.possible,
      (flat_map (line_text both.form a b) lines, found, compared, subst (λ (l : List LineComparison). Breaks g.W.Out.sink c.args.out.now c.write_both.new.out (flat_map (line_text both.form a b) l)) c.as_slice-3.ensures.value c.in-Err-write_both.ensures),
    )
