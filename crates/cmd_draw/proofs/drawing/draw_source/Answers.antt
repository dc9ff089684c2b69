use Rattle.std.proofs.Common.{◌≡◌, ◌⊎◌, ℕ, List, [], ◌∙◌, subst, subst₂}
use Rattle.std.proofs.lemmas.Result.{err_from_is_err_and}
use Rattle.chart.specs.Charts.{LineView}
use Rattle.cmd_base.specs.declared.error.ProgramError.TheVariants.{Memory}
use Rattle.cmd_base.specs.Contents.{IsRefused}
use Rattle.cmd_base.specs.Texts.{named_of}
use Rattle.cmd_draw.specs.Preparing.{turns_in}
use Rattle.cmd_base.specs.Columns.Columns.{AreColumns, RefusesColumns, only_of}
use Rattle.cmd_draw.specs.Drawing.{Draws}
use Rattle.cmd_draw.proofs.RefusedLemmas.{no_columns, not_pictured}
use Rattle.cmd_draw.proofs.drawing.draw_source.Goals as goal

pub returns-in_err-columns : goal.returns-in_err-columns
returns-in_err-columns g c =
    let p = err_from_is_err_and c.from_residual.result c.from_residual.ensures.1 in
    let error = c.in_err-columns.field-0.0 in
    rw (p.1, p.2) (no_columns g.W.Out.sink c.args.out.now (turns_in c.args.source.now) [] (named_of c.args.source.now) c.args.wanted.now error
    (subst (λ (ns : List (List ℕ)). RefusesColumns ns (only_of c.args.wanted.now.only) error) c.names-names.ensures c.in_err-columns.ensures.err))

pub returns-in_err-closure : goal.returns-in_err-closure
returns-in_err-closure g c =
    let p = err_from_is_err_and c.from_residual-in_err-closure.result c.from_residual-in_err-closure.ensures.1 in
    let error = c.in_err-closure.field-0.0 in
    let named = named_of c.args.source.now in
    rw (p.1, p.2) (not_pictured g.W.Out.sink c.args.out.now (turns_in c.args.source.now) [] named c.args.wanted.now c.in_ok-columns.columns.items
    (subst (λ (ns : List (List ℕ)). AreColumns ns (only_of c.args.wanted.now.only) c.in_ok-columns.columns.items) c.names-names.ensures c.in_ok-columns.ensures.ok)
    error
    (subst₂ (λ (ns : List (List ℕ)) (ls : List LineView). (error ≡ Memory) ⊎ IsRefused error (ns, ls)) c.names-names.ensures c.chart.ensures.value c.in_err-closure.ensures.refused))

pub returns : goal.returns
returns g c =
    let draws = λ (turns : List ℕ) (ns : List (List ℕ)) (ls : List LineView). Draws g.W.Out.sink c.args.out.now c.draw_columns.new.out c.draw_columns.result c.args.wanted.now turns [] (ns, ls) in
    let by_turns = subst (λ (turns : List ℕ). draws turns c.names-names.result.now c.in_ok-closure.closure) (c.as_slice.ensures.value ∙ c.in-Ok-turns_in.ensures) c.draw_columns.ensures in
    subst₂ (λ (ns : List (List ℕ)) (ls : List LineView). draws (turns_in c.args.source.now) ns ls) c.names-names.ensures (c.in_ok-closure.ensures.closure ∙ c.chart.ensures.value) by_turns
