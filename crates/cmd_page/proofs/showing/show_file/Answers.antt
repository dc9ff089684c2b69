use Rattle.std.proofs.Common.{List, ℕ, Option, Ok, Err, subst₂}
use Rattle.std.proofs.lemmas.Result.{err_from_is_err_and}
use Rattle.chart.specs.Charts.{LineView}
use Rattle.cmd_base.proofs.TextLemmas.{not_read, not_replayed, was_done}
use Rattle.cmd_base.specs.NotDone.{IsNoted}
use Rattle.cmd_base.specs.Texts.{named_of}
use Rattle.cmd_base.specs.declared.not_done.NotDone.{NotDone}
use Rattle.cmd_page.specs.Showing.{Shows, ShowsFile, heading_view}
use Rattle.cmd_page.proofs.showing.show_file.Goals as goal

pub returns-in_err-text : goal.returns-in_err-text
unfolding ShowsFile
returns-in_err-text g c =
    let p = err_from_is_err_and c.from_residual.result c.from_residual.ensures.1 in
    rw (p.1, p.2) (not_read (λ e. e) (IsNoted (λ (them : Option NotDone). tt) (λ them. them) (λ source done. Shows g.W.Out.sink c.args.out.now c.args.out.now done c.args.bytes.now (heading_view c.args.heading.now) (named_of source))) c.args.out.now c.args.bytes.now c.in_err-text.field-0.0 c.in_err-text.ensures)

pub returns-in_err-source : goal.returns-in_err-source
unfolding ShowsFile
returns-in_err-source g c =
    let p = err_from_is_err_and c.from_residual-in_err-source.result c.from_residual-in_err-source.ensures.1 in
    rw (p.1, p.2) (not_replayed (λ e. e) (IsNoted (λ (them : Option NotDone). tt) (λ them. them) (λ source done. Shows g.W.Out.sink c.args.out.now c.args.out.now done c.args.bytes.now (heading_view c.args.heading.now) (named_of source))) c.args.out.now c.args.bytes.now c.in_err-source.field-0.0 c.in_err-source.ensures.memory)

pub show_chart-requires-clause-read_as : goal.show_chart-requires-clause-read_as
show_chart-requires-clause-read_as g c = (c.in_ok-text.text, c.in_ok-text.ensures, c.in_ok-source.ensures.source)

pub returns-in_err-show_chart : goal.returns-in_err-show_chart
unfolding ShowsFile
returns-in_err-show_chart g c =
    let p = err_from_is_err_and c.from_residual-in_err-show_chart.result c.from_residual-in_err-show_chart.ensures.1 in
    let error = c.in_err-show_chart.field-0.0 in
    rw (p.1, p.2) (was_done (λ e. e) (IsNoted (λ (them : Option NotDone). tt) (λ them. them) (λ source done. Shows g.W.Out.sink c.args.out.now c.show_chart.new.out done c.args.bytes.now (heading_view c.args.heading.now) (named_of source))) c.args.out.now c.args.bytes.now c.show_chart.new.out c.in_ok-text.text c.in_ok-source.source (Err error) c.in_ok-text.ensures c.in_ok-source.ensures.source
    (subst₂ (λ (ns : List (List ℕ)) (ls : List LineView). Shows g.W.Out.sink c.args.out.now c.show_chart.new.out (Err error) c.args.bytes.now (heading_view c.args.heading.now) (ns, ls)) c.names.ensures c.chart.ensures.value c.in_err-show_chart.ensures))

pub returns : goal.returns
unfolding ShowsFile
returns g c =
    was_done (λ e. e) (IsNoted (λ (them : Option NotDone). tt) (λ them. them) (λ source done. Shows g.W.Out.sink c.args.out.now c.show_chart.new.out done c.args.bytes.now (heading_view c.args.heading.now) (named_of source))) c.args.out.now c.args.bytes.now c.show_chart.new.out c.in_ok-text.text c.in_ok-source.source (Ok c.not_done.result) c.in_ok-text.ensures c.in_ok-source.ensures.source
    (subst₂ (λ (ns : List (List ℕ)) (ls : List LineView). Shows g.W.Out.sink c.args.out.now c.show_chart.new.out (Ok tt) c.args.bytes.now (heading_view c.args.heading.now) (ns, ls)) c.names.ensures c.chart.ensures.value c.in_ok-show_chart.ensures, c.not_done.ensures)
