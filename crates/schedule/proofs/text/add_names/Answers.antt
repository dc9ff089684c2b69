use Rattle.std.proofs.Common.{[], ap, ◌∙◌}
use Rattle.std.proofs.lemmas.Option.{unwrap_or-slice_get}
use Rattle.texts.proofs.Writes.{buffers_more, adds_in}
use Rattle.texts.specs.Instances.{name_at}
use Rattle.schedule.specs.WrittenLines.{behind_space}
use Rattle.schedule.proofs.text.add_names.Goals as goal

pub loop-place-preserved : goal.loop-place-preserved
loop-place-preserved g c =
    buffers_more behind_space c.args.names.now c.loop-place.place [] (rw (← c.len-place-end.ensures.value) c.loop-place-test.true) c.loop-place.invariant
    (rw (← (c.as_bytes.ensures.value ∙ c.named-name.ensures ∙ ap (name_at c.args.names.now) c.at_place.ensures ∙ unwrap_or-slice_get c.args.names.now c.loop-place.place [])) c.in_ok-add_word.ensures)

pub returns-in_err-add_word : goal.returns-in_err-add_word
returns-in_err-add_word g c =
    adds_in behind_space c.from_residual.result c.args.names.now c.loop-place.place [] c.from_residual.ensures.0 (rw (← c.len-place-end.ensures.value) c.loop-place-test.true) c.loop-place.invariant
    (rw (← (c.as_bytes.ensures.value ∙ c.named-name.ensures ∙ ap (name_at c.args.names.now) c.at_place.ensures ∙ unwrap_or-slice_get c.args.names.now c.loop-place.place [])) c.in_err-add_word.ensures)
