use Rattle.std.proofs.Common.{ℕ, List, subst}
use Rattle.std.proofs.lemmas.Result.{err_from_is_err_and}
use Rattle.chart.specs.Charts.{LineView}
use Rattle.cmd_draw.specs.Drawing.{Draws}
use Rattle.cmd_draw.proofs.RefusedLemmas.{no_columns, not_pictured}
use Rattle.cmd_draw.proofs.drawing.draw_chart.Goals as goal

pub returns-in_err-columns : goal.returns-in_err-columns
returns-in_err-columns g c =
    let p = err_from_is_err_and c.from_residual.result c.from_residual.ensures.1 in
    rw (p.1, p.2) (no_columns g.W.Out.sink c.args.out.now c.args.turns.now c.args.notes.now (c.args.names.now, c.args.chart.now) c.args.wanted.now c.in_err-columns.field-0.0 c.in_err-columns.ensures.err)

pub returns-in_err-closure : goal.returns-in_err-closure
returns-in_err-closure g c =
    let p = err_from_is_err_and c.from_residual-in_err-closure.result c.from_residual-in_err-closure.ensures.1 in
    rw (p.1, p.2) (not_pictured g.W.Out.sink c.args.out.now c.args.turns.now c.args.notes.now (c.args.names.now, c.args.chart.now) c.args.wanted.now c.in_ok-columns.columns.items c.in_ok-columns.ensures.ok c.in_err-closure.field-0.0 c.in_err-closure.ensures.refused)

pub returns : goal.returns
returns g c = subst (λ (ls : List LineView). Draws g.W.Out.sink c.args.out.now c.draw_columns.new.out c.draw_columns.result c.args.wanted.now c.args.turns.now c.args.notes.now (c.args.names.now, ls)) c.in_ok-closure.ensures.closure c.draw_columns.ensures
