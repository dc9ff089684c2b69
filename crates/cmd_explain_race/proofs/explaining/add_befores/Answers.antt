use Rattle.std.proofs.Common.{suc, ◌+◌, ◌++◌, ◌∷◌, [], ap, ap₂, ◌∙◌}
use Rattle.std.specs.Prelude.{slice_index}
use Rattle.cmd_base.specs.declared.pairs.saying.Saying.TheVariants.{Before}
use Rattle.cmd_base.specs.Pairs.Sayings.{befores}
use Rattle.cmd_base.proofs.PairsLemmas.Growing.{grown, grown_none, befores-next}
use Rattle.cmd_explain_race.proofs.explaining.add_befores.Goals as goal

pub loop-place-init : goal.loop-place-init
loop-place-init c = grown_none c.args.sayings.now.items

pub loop-place-preserved : goal.loop-place-preserved
loop-place-preserved c =
    let counts = c.args.counts.now in
    let n = c.loop-place.place in
    let same = ap₂ (λ p k. Before p k) c.at_place.ensures c.at.ensures in
    grown c.args.sayings.now.items (befores counts n) (befores counts (n + 1)) c.loop-place.sayings.items c.push.new.self.items (Before (suc n) (slice_index counts n)) c.loop-place.invariant
    (c.in_ok-push.ensures.items ∙ ap (λ x. c.loop-place.sayings.items ++ x ∷ []) same) (befores-next counts n)
