use Rattle.std.proofs.Common.{◌≡◌, ◌∷◌, [], ◌++◌, List, length, sym, ap, ◌∙◌, subst, append_assoc, append-nil, arith}
use Rattle.std.specs.Vec.Iter.{into_iter_items}
use Rattle.chart.specs.declared.history.Occurrence.{Occurrence}
use Rattle.chart.specs.declared.history.Occurrence.TheVariants.{Send}
use Rattle.chart.specs.Messages.{Content}
use Rattle.board.specs.Sending.{sends_of}
use Rattle.board.specs.LongRuns.CarryingSteps.{AreOn, MayGoOn}
use Rattle.board.proofs.LongRunsLemmas.CarryingLoops.{may_next, nothing_left}
use Rattle.board.proofs.LongRunsLemmas.PostedSends.{sends_split}
use Rattle.board.proofs.long_runs.steps.send_all_again.Goals as goal

pub send_again-requires : goal.send_again-requires
send_again-requires c =
    let (n, k, h, old, may) = c.requires.may in
    let s = c.args.sender in
    let r = c.args.receiver in
    let m = c.in-Some.message in
    let at = c.loop-message in
    let rest = into_iter_items c.next.new.self in
    let gives = c.into_iter-message-iterator.ensures.into_iter_gives.0 in
    let on = at.invariant.on n k h old (subst (λ (ms : List Content). MayGoOn n k h (sends_of s r ms ++ h) old c.args.posts.now) (sym gives) may) in
    let whole : at.yielded ++ m ∷ rest ≡ c.args.messages.items = ap (λ ms. at.yielded ++ ms) (sym c.in-Some.ensures.steps.0) ∙ at.invariant.all ∙ gives in
    record { may = (n, k, sends_of s r at.yielded ++ h, old, may_next n k h (sends_of s r at.yielded ++ h) (Send s r m ∷ (sends_of s r at.yielded ++ h)) (sends_of s r c.args.messages.items ++ h) old c.args.posts.now at.posts may on (sends_of s r rest, ap (λ ms. sends_of s r ms ++ h) (sym whole) ∙ sends_split s r at.yielded rest m h)) }

pub loop-message-preserved : goal.loop-message-preserved
loop-message-preserved c =
    let s = c.args.sender in
    let r = c.args.receiver in
    let m = c.in-Some.message in
    let at = c.loop-message in
    let inv = at.invariant in
    let rest = into_iter_items c.next.new.self in
    let steps : into_iter_items at.message-iterator ≡ m ∷ rest = c.in-Some.ensures.steps.0 in
    record {
      all = append_assoc at.yielded (m ∷ []) _ ∙ rw (← steps) inv.all;
      rest =
          let was = inv.rest in
          let gone = c.in-Some.ensures.steps.1 in
          let short = ap length steps in
          omega (arith, was, gone, short);
      on = λ n k h old go.
          let on = inv.on n k h old go in
          let whole = ap (λ ms. at.yielded ++ ms) (sym steps) ∙ inv.all in
          let next = may_next n k h (sends_of s r at.yielded ++ h) (Send s r m ∷ (sends_of s r at.yielded ++ h)) _ old _ at.posts go on (sends_of s r rest, ap (λ ms. sends_of s r ms ++ h) (sym whole) ∙ sends_split s r at.yielded rest m h) in
          subst (λ (g : List Occurrence). AreOn n k g old c.send_again.new.posts) (sym (sends_split s r at.yielded [] m h)) (c.send_again.ensures n k (sends_of s r at.yielded ++ h) old next);
    }

pub returns : goal.returns
returns c = λ n k h old may.
    let s = c.args.sender in
    let r = c.args.receiver in
    let at = c.loop-message in
    let none = c.in-None.ensures.steps in
    let gives = c.into_iter-message-iterator.ensures.into_iter_gives.0 in
    let empty : into_iter_items at.message-iterator ≡ [] = nothing_left _ (sym at.invariant.rest ∙ none.0) in
    let whole : at.yielded ≡ c.args.messages.items = sym (append-nil at.yielded) ∙ rw empty at at.invariant.all ∙ gives in
    let on = at.invariant.on n k h old (subst (λ (ms : List Content). MayGoOn n k h (sends_of s r ms ++ h) old c.args.posts.now) (sym gives) may) in
    subst (λ (ms : List Content). AreOn n k (sends_of s r ms ++ h) old at.posts) whole on
