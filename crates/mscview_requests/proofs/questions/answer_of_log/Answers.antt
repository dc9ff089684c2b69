use Rattle.std.proofs.Common.{refl, subst, inl, inr, List, ℕ, map}
use Rattle.std.specs.Prelude.{None, Some, Ok, Err}
use Rattle.cmd_base.specs.Answers.{refusal}
use Rattle.cmd_import_log.specs.Importing.{imported_exit}
use Rattle.cmd_import_log.specs.Refusals.{one_end_text}
use Rattle.cmd_import_log.specs.declared.error.LogImportError.TheVariants.{Memory}
use Rattle.cmd_import_log.specs.declared.importing.LogWriteError.TheVariants.{Log}
use Rattle.msc_text.specs.ChartText.{chart_text}
use Rattle.mscview_requests.specs.Effects.{DoesQuestion}
use Rattle.mscview_requests.proofs.QuestionLemmas.{puts_into_memory}
use Rattle.mscview_requests.proofs.questions.answer_of_log.Goals as goal

pub returns-in-Err : goal.returns-in-Err
returns-in-Err g c = (
  None,
  imported_exit (map (λ file. file.now) c.args.files.now) (Err (Log c.in-Err.error)),
  inl (c.in-Err.error, (c.in-Err.ensures.reads, refl), refl),
  (c.refused_log.ensures.status, c.refused_log.ensures.line, refl),
)

pub returns-then-imported : goal.returns-then-imported
returns-then-imported g c = let d = c.in-Ok.imported in (
  None,
  refusal (one_end_text d.diagnostics),
  inr (
    record { bytes = chart_text d.diagnostics.names d.chart; failures = 0 },
    d.diagnostics,
    (d, c.in-Ok.ensures.reads, refl, puts_into_memory _ _ _ _ _ refl refl refl),
    c.if-imported.true,
    refl,
  ),
  (c.refused_one_end.ensures.status, c.refused_one_end.ensures.line, refl),
)

pub returns-in-Err-text_of : goal.returns-in-Err-text_of
returns-in-Err-text_of g c = (
  None,
  imported_exit (map (λ file. file.now) c.args.files.now) (Err (Log Memory)),
  inl (Memory, (tt, refl), refl),
  (c.refused_log-in-Err-text_of.ensures.status, c.refused_log-in-Err-text_of.ensures.line, refl),
)

pub returns : goal.returns
returns g c = let d = c.in-Ok.imported in (
  Some c.in-Ok-text_of.text.items,
  imported_exit (map (λ file. file.now) c.args.files.now) (Ok d.diagnostics),
  (
    record { bytes = c.in-Ok-text_of.text.items; failures = 0 },
    d.diagnostics,
    (d, c.in-Ok.ensures.reads, refl, puts_into_memory c.in-Ok-text_of.text.items _ _ _ _ c.in-Ok-text_of.ensures refl refl),
    c.if-imported.false,
    refl,
    refl,
  ),
  (
    c.print_log_diagnostics.new.err,
    c.print_log_diagnostics.ensures,
    subst (λ (text : List ℕ). DoesQuestion g.W.Out.sink c.args.out.now c.answer.new.out g.V.Out.sink c.print_log_diagnostics.new.err c.answer.new.err c.args.question.now text c.answer.result) c.deref.ensures.value c.answer.ensures,
  ),
)
