use Rattle.std.proofs.Common.{List, ℕ, subst₂}
use Rattle.std.proofs.lemmas.Result.{err_from_is_err_and}
use Rattle.chart.specs.Charts.{LineView}
use Rattle.cmd_base.proofs.TextLemmas.{not_read, not_replayed, was_done}
use Rattle.cmd_base.specs.Texts.{named_of}
use Rattle.cmd_page.specs.Showing.{Shows, ShowsText, heading_view}
use Rattle.cmd_page.proofs.showing.show_text.Goals as goal

pub returns-in_err-text : goal.returns-in_err-text
unfolding ShowsText
returns-in_err-text g c =
    let p = err_from_is_err_and c.from_residual.result c.from_residual.ensures.1 in
    rw (p.1, p.2) (not_read (λ e. e) (λ source done. Shows g.W.Out.sink c.args.out.now c.args.out.now done c.args.bytes.now (heading_view c.args.heading.now) (named_of source)) c.args.out.now c.args.bytes.now c.in_err-text.field-0.0 c.in_err-text.ensures)

pub returns-in_err-source : goal.returns-in_err-source
unfolding ShowsText
returns-in_err-source g c =
    let p = err_from_is_err_and c.from_residual-in_err-source.result c.from_residual-in_err-source.ensures.1 in
    rw (p.1, p.2) (not_replayed (λ e. e) (λ source done. Shows g.W.Out.sink c.args.out.now c.args.out.now done c.args.bytes.now (heading_view c.args.heading.now) (named_of source)) c.args.out.now c.args.bytes.now c.in_err-source.field-0.0 c.in_err-source.ensures.memory)

pub show_chart-requires-clause-read_as : goal.show_chart-requires-clause-read_as
show_chart-requires-clause-read_as g c = (c.in_ok-text.text, c.in_ok-text.ensures, c.in_ok-source.ensures.source)

pub returns : goal.returns
unfolding ShowsText
returns g c =
    let source = c.in_ok-source.source in
    was_done (λ e. e) (λ source done. Shows g.W.Out.sink c.args.out.now c.show_chart.new.out done c.args.bytes.now (heading_view c.args.heading.now) (named_of source)) c.args.out.now c.args.bytes.now c.show_chart.new.out c.in_ok-text.text source c.show_chart.result c.in_ok-text.ensures c.in_ok-source.ensures.source
    (subst₂ (λ (ns : List (List ℕ)) (ls : List LineView). Shows g.W.Out.sink c.args.out.now c.show_chart.new.out c.show_chart.result c.args.bytes.now (heading_view c.args.heading.now) (ns, ls)) c.names.ensures c.chart.ensures.value c.show_chart.ensures)
