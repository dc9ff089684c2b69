use Rattle.std.proofs.Common.{List, ℕ, subst, subst₂}
use Rattle.std.proofs.lemmas.Result.{err_from_is_err_and}
use Rattle.chart.specs.Charts.{LineView}
use Rattle.cmd_base.proofs.TextLemmas.{not_read, not_replayed, was_done}
use Rattle.cmd_base.specs.Texts.{named_of}
use Rattle.repair.specs.Counted.{CountedView}
use Rattle.cmd_mend.specs.Showing.{shown_of, ShowsAll}
use Rattle.cmd_mend.proofs.showing_all.mend_all_text.Goals as goal

pub returns-in_err-text : goal.returns-in_err-text
returns-in_err-text g c =
    let p = err_from_is_err_and c.from_residual.result c.from_residual.ensures.1 in
    rw (p.1, p.2) (not_read (λ e. e) (λ source done. ShowsAll g.W.Out.sink (shown_of c.args.wanted.now.showing) c.args.wanted.now.limit c.args.out.now c.args.out.now done (named_of source)) c.args.out.now c.args.bytes.now c.in_err-text.field-0.0 c.in_err-text.ensures)

pub returns-in_err-source : goal.returns-in_err-source
returns-in_err-source g c =
    let p = err_from_is_err_and c.from_residual-in_err-source.result c.from_residual-in_err-source.ensures.1 in
    rw (p.1, p.2) (not_replayed (λ e. e) (λ source done. ShowsAll g.W.Out.sink (shown_of c.args.wanted.now.showing) c.args.wanted.now.limit c.args.out.now c.args.out.now done (named_of source)) c.args.out.now c.args.bytes.now c.in_err-source.field-0.0 c.in_err-source.ensures.memory)

pub returns : goal.returns
returns g c =
    let source = c.in_ok-source.source in
    was_done (λ e. e) (λ source done. ShowsAll g.W.Out.sink (shown_of c.args.wanted.now.showing) c.args.wanted.now.limit c.args.out.now c.mend_all_in.new.out done (named_of source)) c.args.out.now c.args.bytes.now c.mend_all_in.new.out c.in_ok-text.text source c.mend_all_in.result c.in_ok-text.ensures c.in_ok-source.ensures.source
    (subst₂ (λ (ns : List (List ℕ)) (ls : List LineView). ShowsAll g.W.Out.sink (shown_of c.args.wanted.now.showing) c.args.wanted.now.limit c.args.out.now c.mend_all_in.new.out c.mend_all_in.result (ns, ls)) c.names.ensures c.chart.ensures.value
    (subst (λ (counted : CountedView). ShowsAll g.W.Out.sink counted c.args.wanted.now.limit c.args.out.now c.mend_all_in.new.out c.mend_all_in.result (c.names.result.now, c.chart.result.now)) c.shown-counted.ensures c.mend_all_in.ensures))
