use Rattle.std.proofs.Common.{sym, ◌∙◌, ap, map}
use Rattle.diagrams.specs.declared.diagram.Participant.{Participant}
use Rattle.diagram_labels.specs.Renaming.{renamed_view, with_renamed}
use Rattle.diagram_labels.proofs.RenamingLemmas.{renamed_more, renamed_stop, renamed_end}
use Rattle.diagrams.proofs.renaming.add_renamed_participants.Goals as goal

pub loop-place-preserved : goal.loop-place-preserved
loop-place-preserved c =
    renamed_more (λ (p : Participant). p.label.items) (map renamed_view c.loop-place.renames.items) (map renamed_view c.add_if_renamed.new.renames.items) c.loop-place.place c.args.participants.now c.index-participants-place.result c.args.names.now c.in-Some.name
    c.loop-place-test.true c.index-participants-place.is (sym c.in-Some.ensures)
    (c.in_ok-add_if_renamed.ensures ∙ ap (λ label. with_renamed (map renamed_view c.loop-place.renames.items) label c.in-Some.name) c.as_slice.ensures.value)
    ∙ c.loop-place.invariant

pub returns-in_default : goal.returns-in_default
returns-in_default c = sym (renamed_stop (λ (p : Participant). p.label.items) _ c.loop-place.place c.args.participants.now c.args.names.now (sym c.in_default.ensures)) ∙ c.loop-place.invariant

pub returns : goal.returns
returns c = sym (renamed_end (λ (p : Participant). p.label.items) _ c.loop-place.place c.args.participants.now c.args.names.now c.loop-place-test.false) ∙ c.loop-place.invariant
