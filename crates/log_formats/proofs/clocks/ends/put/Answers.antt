use Rattle.std.proofs.Common.{◌∷◌, [], map, ap, ◌∙◌, arith}
use Rattle.std.proofs.lemmas.List.{map-append}
use Rattle.log_formats.specs.Clocks.Hearing.{heard_view}
use Rattle.log_formats.proofs.ClocksLemmas.EndLemmas.{put_is}
use Rattle.log_formats.proofs.clocks.ends.put.Goals as goal

pub returns-in_ok-push : goal.returns-in_ok-push
returns-in_ok-push c =
    put_is (λ list. map heard_view list.items) c.args.lists.now.items c.in-Some.place c.index_mut.result.now c.push.new.self (heard_view c.args.heard) c.args.place c.in-Some.is (omega arith) c.index_mut.ensures.value
    (ap (map heard_view) c.in_ok-push.ensures.items ∙ map-append heard_view c.index_mut.result.now.items (c.args.heard ∷ []))
