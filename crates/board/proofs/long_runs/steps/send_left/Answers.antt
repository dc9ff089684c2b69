use Rattle.std.proofs.Common.{◌≡◌, ◌∷◌, [], ◌++◌, List, length, map, sym, ap, ◌∙◌, subst, append_assoc, append-nil, arith}
use Rattle.std.specs.Vec.Iter.{into_iter_items}
use Rattle.std.proofs.lemmas.List.{map-append}
use Rattle.chart.specs.declared.history.Occurrence.{Occurrence}
use Rattle.board.specs.declared.gathering.Left.{Left}
use Rattle.board.specs.Gathering.{left_view}
use Rattle.board.specs.LongRuns.CarriedHistories.{sends_again, all_again}
use Rattle.board.specs.LongRuns.CarryingSteps.{AreOn, MayGoOn}
use Rattle.board.proofs.LongRunsLemmas.CarryingLoops.{may_next, nothing_left}
use Rattle.board.proofs.LongRunsLemmas.PostedSends.{again_split}
use Rattle.board.proofs.long_runs.steps.send_left.Goals as goal

-- the messages of the lanes before one lane, of this lane, and of those after it
left_split : (xs rest : List Left) (lane : Left) (h : List Occurrence) → all_again (map left_view (xs ++ lane ∷ rest)) ++ h ≡ all_again (map left_view rest) ++ (sends_again (left_view lane) ++ (all_again (map left_view xs) ++ h))
left_split xs rest lane h = ap (λ ls. all_again ls ++ h) (map-append left_view xs (lane ∷ rest)) ∙ again_split (map left_view xs) (map left_view rest) (left_view lane) h

pub send_all_again-requires : goal.send_all_again-requires
send_all_again-requires c =
    let (n, k, h, old, may) = c.requires.may in
    let lane = c.in-Some.lane in
    let at = c.loop-lane in
    let rest = into_iter_items c.next.new.self in
    let gives = c.into_iter-lane-iterator.ensures.into_iter_gives.0 in
    let g = all_again (map left_view at.yielded) ++ h in
    let on = at.invariant.on n k h old (subst (λ (ls : List Left). MayGoOn n k h (all_again (map left_view ls) ++ h) old c.args.posts.now) (sym gives) may) in
    let whole : at.yielded ++ lane ∷ rest ≡ c.args.left.items = ap (λ ls. at.yielded ++ ls) (sym c.in-Some.ensures.steps.0) ∙ at.invariant.all ∙ gives in
    record { may = (n, k, g, old, may_next n k h g (sends_again (left_view lane) ++ g) (all_again (map left_view c.args.left.items) ++ h) old c.args.posts.now at.posts may on (all_again (map left_view rest), ap (λ (ls : List Left). all_again (map left_view ls) ++ h) (sym whole) ∙ left_split at.yielded rest lane h)) }

pub loop-lane-preserved : goal.loop-lane-preserved
loop-lane-preserved c =
    let lane = c.in-Some.lane in
    let at = c.loop-lane in
    let inv = at.invariant in
    let rest = into_iter_items c.next.new.self in
    let steps : into_iter_items at.lane-iterator ≡ lane ∷ rest = c.in-Some.ensures.steps.0 in
    record {
      all = append_assoc at.yielded (lane ∷ []) _ ∙ rw (← steps) inv.all;
      rest =
          let was = inv.rest in
          let gone = c.in-Some.ensures.steps.1 in
          let short = ap length steps in
          omega (arith, was, gone, short);
      on = λ n k h old go.
          let g = all_again (map left_view at.yielded) ++ h in
          let on = inv.on n k h old go in
          let whole = ap (λ ls. at.yielded ++ ls) (sym steps) ∙ inv.all in
          let next = may_next n k h g (sends_again (left_view lane) ++ g) _ old _ at.posts go on (all_again (map left_view rest), ap (λ (ls : List Left). all_again (map left_view ls) ++ h) (sym whole) ∙ left_split at.yielded rest lane h) in
          subst (λ (f : List Occurrence). AreOn n k f old c.send_all_again.new.posts) (sym (left_split at.yielded [] lane h)) (c.send_all_again.ensures n k g old next);
    }

pub returns : goal.returns
returns c = λ n k h old may.
    let at = c.loop-lane in
    let none = c.in-None.ensures.steps in
    let gives = c.into_iter-lane-iterator.ensures.into_iter_gives.0 in
    let empty : into_iter_items at.lane-iterator ≡ [] = nothing_left _ (sym at.invariant.rest ∙ none.0) in
    let whole : at.yielded ≡ c.args.left.items = sym (append-nil at.yielded) ∙ rw empty at at.invariant.all ∙ gives in
    let on = at.invariant.on n k h old (subst (λ (ls : List Left). MayGoOn n k h (all_again (map left_view ls) ++ h) old c.args.posts.now) (sym gives) may) in
    subst (λ (ls : List Left). AreOn n k (all_again (map left_view ls) ++ h) old at.posts) whole on
