use Rattle.std.proofs.Common.{ℕ, List, Ok, Err, refl, ◌∙◌, subst₂}
use Rattle.cmd_draw.specs.Drawing.{Draws}
use Rattle.chart_layout.specs.declared.margin.MarginNote.{MarginNote}
use Rattle.cmd_draw.proofs.imports.drawing.draw_text.Goals as goal

pub returns-in-Ok-draw_chart : goal.returns-in-Ok-draw_chart
returns-in-Ok-draw_chart g c =
    let built = c.in-Ok.imported.built in
    let draws = λ (turns : List ℕ) (notes : List MarginNote). Draws g.W.Out.sink c.args.out.now c.draw_chart.new.out (Ok tt) c.args.wanted.now turns notes (built.names, built.chart) in (
      c.in-Ok.imported,
      c.in-Ok-notes_of_text.notes.items,
      (c.in-Ok.ensures.reads, c.in-Ok.ensures.possible),
      (rw c.deref.ensures.value at c.in-Ok-picture_left_out.ensures, refl, refl),
      c.in-Ok-notes_of_text.ensures,
      subst₂ draws (c.as_slice.ensures.value ∙ c.in-Ok-turns_of_text.ensures) c.as_slice-2.ensures.value c.in-Ok-draw_chart.ensures,
    )

pub returns : goal.returns
returns g c =
    let built = c.in-Ok.imported.built in
    let draws = λ (turns : List ℕ) (notes : List MarginNote). Draws g.W.Out.sink c.args.out.now c.draw_chart.new.out (Err c.in-Err-draw_chart.error) c.args.wanted.now turns notes (built.names, built.chart) in (
      c.in-Ok.imported,
      c.in-Ok-notes_of_text.notes.items,
      (c.in-Ok.ensures.reads, c.in-Ok.ensures.possible),
      c.in-Ok-notes_of_text.ensures,
      subst₂ draws (c.as_slice.ensures.value ∙ c.in-Ok-turns_of_text.ensures) c.as_slice-2.ensures.value c.in-Err-draw_chart.ensures,
    )
