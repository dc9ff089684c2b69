use Rattle.std.proofs.Common.{◌≡◌, ◌+◌, ◌++◌, [], ◌∷◌, Some, length, refl, sym, ap, ap₂, ◌∙◌, arith}
use Rattle.std.specs.Prelude.{slice_get}
use Rattle.std.proofs.lemmas.Option.{slice_get_read}
use Rattle.schedule_replay.specs.declared.reordered_runs.scheduling.TheConstants.{FIRST_LINE}
use Rattle.schedule_replay.specs.ReorderedRuns.Schedules.{command_of}
use Rattle.schedule_replay.proofs.ReorderedRunsLemmas.Commands.{commands-more}
use Rattle.schedule_replay.proofs.reordered_runs.scheduling.commands_of.Goals as goal

pub loop-place-preserved : goal.loop-place-preserved
loop-place-preserved c =
    let steps = c.args.steps.now in
    let i = c.loop-place.place in
    let x = c.index-steps-place.result in
    let is : slice_get steps i ≡ Some x = slice_get_read steps (length steps) i x refl c.loop-place-test.true c.index-steps-place.is in
    let line : i + 3 ≡ FIRST_LINE + i = omega arith in
    c.in_ok-push.ensures.items ∙ ap₂ (λ commands y. commands ++ y ∷ []) c.loop-place.invariant (c.command_of-line.ensures ∙ ap (λ l. command_of l x) line) ∙ sym (commands-more FIRST_LINE steps i x is)
