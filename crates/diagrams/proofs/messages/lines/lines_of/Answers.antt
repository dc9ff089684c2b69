use Rattle.std.proofs.Common.{suc, sym, ◌∙◌, ap, add-one}
use Rattle.diagrams.specs.Messages.Regions.{line_of}
use Rattle.diagrams.proofs.MessagesLemmas.LinesLemmas.{lines_more, lines_end}
use Rattle.diagrams.proofs.messages.lines.lines_of.Goals as goal

pub loop-place-preserved : goal.loop-place-preserved
loop-place-preserved c =
    lines_more c.args.ends.now c.loop-place.place c.args.count _ _ c.in_ok-line_of.field-0 c.loop-place-test.true
    (c.in_ok-line_of.ensures ∙ ap (λ p. line_of p c.args.ends.now) (c.at_place.ensures ∙ sym (add-one c.loop-place.place))) c.in_ok-push.ensures.items
    ∙ c.loop-place.invariant

pub returns : goal.returns
returns c = sym (lines_end c.args.ends.now c.loop-place.place c.args.count _ c.loop-place.lines.items c.loop-place-test.false) ∙ c.loop-place.invariant
