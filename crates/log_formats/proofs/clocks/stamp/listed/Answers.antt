use Rattle.std.proofs.Common.{List, [], ◌∷◌, map, ap, sym, ◌∙◌, rules}
use Rattle.std.proofs.lemmas.List.{map-append}
use Rattle.std.proofs.lemmas.Iterator.Splits.{YieldsList-from_slice_split}
use Rattle.std.proofs.lemmas.Iterator.Consumers.{YieldsList-end}
use Rattle.texts.specs.Words.{is_comma}
use Rattle.log_formats.specs.Clocks.Stamps.{StampView, stamp_in, with_stamp, with_parts, listed}
use Rattle.log_formats.proofs.ClocksLemmas.StampLemmas.{parts_more}
use Rattle.log_formats.proofs.clocks.stamp.listed.Goals as goal

pub loop-part-preserved : goal.loop-part-preserved
loop-part-preserved c =
    let given = c.loop-part.yielded in
    c.in_ok-add_part.ensures
    ∙ ap (λ (stamps : List StampView). with_stamp stamps (stamp_in c.in-Some.part.now)) c.loop-part.invariant
    ∙ sym (parts_more [] (map (λ w. w.now) given) c.in-Some.part.now)
    ∙ ap (with_parts []) (sym (map-append (λ w. w.now) given (c.in-Some.part ∷ [])))

pub returns : goal.returns
unfolding listed
returns c =
    let parts = YieldsList-from_slice_split _ (λ b. is_comma b) c.args.list.now (search rules) (search rules) (search rules) (λ x b q k. search rules) in
    let t = YieldsList-end parts c.loop-part.yielded _ c.loop-part.yielded_by _ _ c.in-None.is c.next.ensures.steps in
    c.loop-part.invariant ∙ ap (with_parts []) t.0
