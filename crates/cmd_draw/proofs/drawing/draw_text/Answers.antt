use Rattle.std.proofs.Common.{[], Option, Ok, Err}
use Rattle.std.proofs.lemmas.Result.{err_from_is_err_and}
use Rattle.cmd_base.proofs.TextLemmas.{not_read, not_replayed, was_done}
use Rattle.cmd_base.specs.NotDone.{IsNoted}
use Rattle.cmd_base.specs.Texts.{named_of}
use Rattle.cmd_base.specs.declared.not_done.NotDone.{NotDone}
use Rattle.cmd_draw.specs.Preparing.{turns_in}
use Rattle.cmd_draw.specs.declared.error.DrawError.TheVariants.{Columns}
use Rattle.cmd_base.specs.declared.columns.error.ColumnError.TheVariants.{Program}
use Rattle.cmd_draw.specs.Drawing.{Draws}
use Rattle.cmd_draw.proofs.drawing.draw_text.Goals as goal

pub returns-in_err-text : goal.returns-in_err-text
returns-in_err-text g c =
    let p = err_from_is_err_and c.from_residual.result c.from_residual.ensures.1 in
    rw (p.1, p.2) (not_read (λ error. Columns (Program error)) (IsNoted (λ (them : Option NotDone). tt) (λ them. them) (λ source done. Draws g.W.Out.sink c.args.out.now c.args.out.now done c.args.wanted.now (turns_in source) [] (named_of source))) c.args.out.now c.args.bytes.now c.in_err-text.field-0.0 c.in_err-text.ensures)

pub returns-in_err-source : goal.returns-in_err-source
returns-in_err-source g c =
    let p = err_from_is_err_and c.from_residual-in_err-source.result c.from_residual-in_err-source.ensures.1 in
    rw (p.1, p.2) (not_replayed (λ error. Columns (Program error)) (IsNoted (λ (them : Option NotDone). tt) (λ them. them) (λ source done. Draws g.W.Out.sink c.args.out.now c.args.out.now done c.args.wanted.now (turns_in source) [] (named_of source))) c.args.out.now c.args.bytes.now c.in_err-source.field-0.0 c.in_err-source.ensures.memory)

pub returns-in_err-draw_source : goal.returns-in_err-draw_source
returns-in_err-draw_source g c =
    let p = err_from_is_err_and c.from_residual-in_err-draw_source.result c.from_residual-in_err-draw_source.ensures.1 in
    rw (p.1, p.2) (was_done (λ error. Columns (Program error)) (IsNoted (λ (them : Option NotDone). tt) (λ them. them) (λ source done. Draws g.W.Out.sink c.args.out.now c.draw_source.new.out done c.args.wanted.now (turns_in source) [] (named_of source))) c.args.out.now c.args.bytes.now c.draw_source.new.out c.in_ok-text.text c.in_ok-source.source (Err c.in_err-draw_source.field-0.0) c.in_ok-text.ensures c.in_ok-source.ensures.source c.in_err-draw_source.ensures)

pub returns : goal.returns
returns g c =
    was_done (λ error. Columns (Program error)) (IsNoted (λ (them : Option NotDone). tt) (λ them. them) (λ source done. Draws g.W.Out.sink c.args.out.now c.draw_source.new.out done c.args.wanted.now (turns_in source) [] (named_of source))) c.args.out.now c.args.bytes.now c.draw_source.new.out c.in_ok-text.text c.in_ok-source.source (Ok c.not_done.result) c.in_ok-text.ensures c.in_ok-source.ensures.source (c.in_ok-draw_source.ensures, c.not_done.ensures)
