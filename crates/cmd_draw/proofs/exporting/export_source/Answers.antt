use Rattle.std.proofs.Common.{◌≡◌, ◌⊎◌, ℕ, List, ◌∙◌, subst₂}
use Rattle.std.proofs.lemmas.Result.{err_from_is_err_and}
use Rattle.chart.specs.Charts.{LineView}
use Rattle.cmd_base.specs.declared.error.ProgramError.TheVariants.{Memory}
use Rattle.cmd_base.specs.Contents.{IsRefused}
use Rattle.cmd_base.specs.Texts.{named_of}
use Rattle.cmd_draw.specs.Preparing.{turns_in}
use Rattle.cmd_draw.specs.Exporting.{Exports}
use Rattle.cmd_draw.proofs.RefusedLemmas.{not_exported}
use Rattle.cmd_draw.proofs.exporting.export_source.Goals as goal

pub returns-in_err-closure : goal.returns-in_err-closure
returns-in_err-closure g c =
    let p = err_from_is_err_and c.from_residual.result c.from_residual.ensures.1 in
    let error = c.in_err-closure.field-0.0 in
    let named = named_of c.args.source.now in
    rw (p.1, p.2) (not_exported g.W.Out.sink c.args.out.now (turns_in c.args.source.now) named c.args.target error
    (subst₂ (λ (ns : List (List ℕ)) (ls : List LineView). (error ≡ Memory) ⊎ IsRefused error (ns, ls)) c.names-names.ensures c.chart.ensures.value c.in_err-closure.ensures.refused))

pub returns : goal.returns
returns g c =
    subst₂ (λ (ns : List (List ℕ)) (ls : List LineView). Exports g.W.Out.sink c.args.out.now c.export_closure.new.out c.export_closure.result c.args.target (turns_in c.args.source.now) (ns, ls)) c.names-names.ensures (c.in_ok-closure.ensures.closure ∙ c.chart.ensures.value) c.export_closure.ensures
