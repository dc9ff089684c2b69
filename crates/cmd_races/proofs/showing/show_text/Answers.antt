use Rattle.std.proofs.Common.{List, ℕ, Ok, Err, subst₂}
use Rattle.std.proofs.lemmas.Result.{err_from_is_err_and}
use Rattle.chart.specs.Charts.{LineView}
use Rattle.cmd_base.proofs.TextLemmas.{not_read, not_replayed, was_done}
use Rattle.cmd_base.specs.Texts.{named_of}
use Rattle.cmd_base.specs.declared.columns.error.ColumnError.TheVariants.{Program}
use Rattle.cmd_races.specs.Showing.{Shows, IsShownOf}
use Rattle.cmd_races.proofs.showing.show_text.Goals as goal

pub returns-in_err-text : goal.returns-in_err-text
returns-in_err-text g c =
    let p = err_from_is_err_and c.from_residual.result c.from_residual.ensures.1 in
    rw (p.1, p.2) (not_read Program (IsShownOf (λ source done. Shows g.W.Out.sink c.args.out.now c.args.out.now done c.args.wanted.now (named_of source))) c.args.out.now c.args.bytes.now c.in_err-text.field-0.0 c.in_err-text.ensures)

pub returns-in_err-source : goal.returns-in_err-source
returns-in_err-source g c =
    let p = err_from_is_err_and c.from_residual-in_err-source.result c.from_residual-in_err-source.ensures.1 in
    rw (p.1, p.2) (not_replayed Program (IsShownOf (λ source done. Shows g.W.Out.sink c.args.out.now c.args.out.now done c.args.wanted.now (named_of source))) c.args.out.now c.args.bytes.now c.in_err-source.field-0.0 c.in_err-source.ensures.memory)

pub returns-in_err-status : goal.returns-in_err-status
returns-in_err-status g c =
    let p = err_from_is_err_and c.from_residual-in_err-status.result c.from_residual-in_err-status.ensures.1 in
    let error = c.in_err-status.field-0.0 in
    rw (p.1, p.2) (was_done Program (IsShownOf (λ source done. Shows g.W.Out.sink c.args.out.now c.show_chart.new.out done c.args.wanted.now (named_of source))) c.args.out.now c.args.bytes.now c.show_chart.new.out c.in_ok-text.text c.in_ok-source.source (Err error) c.in_ok-text.ensures c.in_ok-source.ensures.source
    (subst₂ (λ (ns : List (List ℕ)) (ls : List LineView). Shows g.W.Out.sink c.args.out.now c.show_chart.new.out (Err error) c.args.wanted.now (ns, ls)) c.names.ensures c.chart.ensures.value c.in_err-status.ensures))

pub returns : goal.returns
returns g c =
    let status = c.in_ok-status.status in
    was_done Program (IsShownOf (λ source done. Shows g.W.Out.sink c.args.out.now c.show_chart.new.out done c.args.wanted.now (named_of source))) c.args.out.now c.args.bytes.now c.show_chart.new.out c.in_ok-text.text c.in_ok-source.source (Ok (record { status = status; not_done = c.not_done.result })) c.in_ok-text.ensures c.in_ok-source.ensures.source
    (subst₂ (λ (ns : List (List ℕ)) (ls : List LineView). Shows g.W.Out.sink c.args.out.now c.show_chart.new.out (Ok status) c.args.wanted.now (ns, ls)) c.names.ensures c.chart.ensures.value c.in_ok-status.ensures, c.not_done.ensures)
