use Rattle.std.proofs.Common.{ℕ, List, refl, subst}
use Rattle.std.specs.Prelude.{None, Some, Ok, Err}
use Rattle.cmd_import_diagram.specs.Importing.{imported_exit}
use Rattle.cmd_import_diagram.specs.declared.importing.ImportWriteError.TheVariants.{Diagram}
use Rattle.diagram_import.specs.declared.error.ImportError.TheVariants.{Memory}
use Rattle.mscview_requests.specs.Effects.{DoesQuestion}
use Rattle.mscview_requests.proofs.QuestionLemmas.{puts_into_memory}
use Rattle.mscview_requests.proofs.questions.answer_of_diagram.Goals as goal

pub returns-in-Err : goal.returns-in-Err
returns-in-Err g c = (None, imported_exit (Err (Diagram c.in-Err.error)), (c.in-Err.error, (c.in-Err.ensures.reads, refl), refl), (c.refused_diagram.ensures.status, c.refused_diagram.ensures.line, refl))

pub returns-in-Err-text_of : goal.returns-in-Err-text_of
returns-in-Err-text_of g c = (None, imported_exit (Err (Diagram Memory)), (Memory, (tt, refl), refl), (c.refused_diagram-in-Err-text_of.ensures.status, c.refused_diagram-in-Err-text_of.ensures.line, refl))

pub returns : goal.returns
returns g c = let its = c.in-Ok.ensures.reads in (
  Some c.in-Ok-text_of.text.items,
  imported_exit (Ok c.in-Ok.imported.diagnostics),
  (
    record { bytes = c.in-Ok-text_of.text.items; failures = 0 },
    c.in-Ok.imported.diagnostics,
    (its.0, its.1, its.2, puts_into_memory c.in-Ok-text_of.text.items _ _ _ _ c.in-Ok-text_of.ensures its.3 its.4),
    refl,
    refl,
  ),
  (
    c.print_diagnostics.new.err,
    c.print_diagnostics.ensures,
    subst (λ (text : List ℕ). DoesQuestion g.W.Out.sink c.args.out.now c.answer.new.out g.V.Out.sink c.print_diagnostics.new.err c.answer.new.err c.args.question.now text c.answer.result) c.deref.ensures.value c.answer.ensures,
  ),
)
