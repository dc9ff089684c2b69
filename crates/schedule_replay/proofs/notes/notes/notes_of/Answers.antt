use Rattle.std.proofs.Common.{length, sym, ap, ◌∙◌}
use Rattle.schedule.specs.Meaning.{start}
use Rattle.schedule_replay.proofs.NoteLemmas.{length-words_from}
use Rattle.schedule_replay.proofs.notes.notes.notes_of.Goals as goal

pub noted_all-requires : goal.noted_all-requires
noted_all-requires c =
    let plan = c.args.schedule.now in
    ap length (c.as_slice.ensures.value ∙ c.in-Ok.ensures) ∙ length-words_from (length plan.names) plan.capacity start plan.commands ∙ ap length (sym c.commands.ensures.value)
