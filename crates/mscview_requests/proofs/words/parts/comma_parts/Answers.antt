use Rattle.std.proofs.Common.{map, ap, ◌∙◌, rules}
use Rattle.std.proofs.lemmas.Iterator.Splits.{YieldsList-from_slice_split}
use Rattle.std.proofs.lemmas.Iterator.Consumers.{YieldsList-end}
use Rattle.texts.specs.Words.{is_comma}
use Rattle.mscview_requests.proofs.words.parts.comma_parts.Goals as goal

pub returns : goal.returns
returns c =
    let parts = YieldsList-from_slice_split _ (λ b. is_comma b) c.args.word.now (search rules) (search rules) (search rules) (λ x b q k. search rules) in
    let t = YieldsList-end parts c.loop-part.yielded _ c.loop-part.yielded_by _ _ c.in-None.is c.next.ensures.steps in
    ap (map (λ w. w.now)) c.loop-part.invariant ∙ t.0
