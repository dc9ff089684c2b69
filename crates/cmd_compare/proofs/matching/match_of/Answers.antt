use Rattle.std.proofs.Common.{◌≡◌, suc, length, count_by, Some, refl, sym, ap, ◌∙◌, subst}
use Rattle.std.proofs.lemmas.Bool.{false≢true}
use Rattle.std.proofs.lemmas.Option.{slice_get_read}
use Rattle.chart.specs.Events.{ith, tally, name_of}
use Rattle.closure.proofs.ReadLemmas.{ith_read}
use Rattle.cmd_compare.specs.Ends.{is_at, end_of, end_there}
use Rattle.cmd_compare.specs.Matches.{IsNext}
use Rattle.cmd_compare.proofs.MatchLemmas.{unmatched_here, matched_here, passes_here, none_next, other_name, same_name}
use Rattle.cmd_compare.proofs.matching.match_of.Goals as goal

pub returns-in_default : goal.returns-in_default
returns-in_default c =
    let both = c.args.both.now in
    let n = length c.args.found.now in
    let m = c.index-both-found.result in
    let at_m : ith both.here.now (suc n) ≡ Some m = slice_get_read both.here.now (length both.here.now) n m refl c.requires.short c.index-both-found.is in
    unmatched_here both.others.now both.here.now both.there.now n m c.of-end.result at_m (c.of-end.ensures ∙ ap end_of (sym c.index-both-found.is)) c.in_default.ensures

pub returns-in_default-next_at : goal.returns-in_default-next_at
returns-in_default-next_at c =
    let both = c.args.both.now in
    let n = length c.args.found.now in
    let m = c.index-both-found.result in
    let end = c.of-end.result in
    let passed = c.in-Some.passed in
    let at_m : ith both.here.now (suc n) ≡ Some m = slice_get_read both.here.now (length both.here.now) n m refl c.requires.short c.index-both-found.is in
    let none = subst (λ e. count_by (is_at e) both.there.now ≡ tally (is_at e) both.there.now passed) c.there.ensures c.in_default-next_at.ensures in
    unmatched_here both.others.now both.here.now both.there.now n m end at_m (c.of-end.ensures ∙ ap end_of (sym c.index-both-found.is))
    (λ j one. none_next (is_at end) (is_at (end_there both.others.now end)) both.here.now both.there.now n passed c.in-Some.ensures none j one.0)

pub returns-then-are_same : goal.returns-then-are_same
returns-then-are_same c =
    let both = c.args.both.now in
    let n = length c.args.found.now in
    let m = c.index-both-found.result in
    let o = c.index-both-index.result in
    let end = c.of-end.result in
    let j = c.in-Some-next_at.index in
    let at_m : ith both.here.now (suc n) ≡ Some m = slice_get_read both.here.now (length both.here.now) n m refl c.requires.short c.index-both-found.is in
    let next = subst (λ e. IsNext (is_at e) both.there.now c.in-Some.passed j) c.there.ensures c.in-Some-next_at.ensures in
    let at_o = ith_read both.there.now j o next.begun next.within c.index-both-index.is in
    matched_here both.others.now both.here.now both.there.now n m end at_m (c.of-end.ensures ∙ ap end_of (sym c.index-both-found.is)) j
    (same_name (is_at end) (is_at (end_there both.others.now end)) both.here.now both.there.now n c.in-Some.passed c.in-Some.ensures j m o next at_m
    (passes_here both.others.now both.here.now both.there.now n m end at_m (c.of-end.ensures ∙ ap end_of (sym c.index-both-found.is))) at_o (ap name_of c.index-both-found.is ∙ sym c.name.ensures ∙ c.are_same.ensures.0 c.if-are_same.true ∙ c.name-2.ensures ∙ ap name_of (sym c.index-both-index.is)))

pub returns-else-are_same : goal.returns-else-are_same
returns-else-are_same c =
    let both = c.args.both.now in
    let n = length c.args.found.now in
    let m = c.index-both-found.result in
    let o = c.index-both-index.result in
    let end = c.of-end.result in
    let j = c.in-Some-next_at.index in
    let at_m : ith both.here.now (suc n) ≡ Some m = slice_get_read both.here.now (length both.here.now) n m refl c.requires.short c.index-both-found.is in
    let next = subst (λ e. IsNext (is_at e) both.there.now c.in-Some.passed j) c.there.ensures c.in-Some-next_at.ensures in
    let at_o = ith_read both.there.now j o next.begun next.within c.index-both-index.is in
    unmatched_here both.others.now both.here.now both.there.now n m end at_m (c.of-end.ensures ∙ ap end_of (sym c.index-both-found.is))
    (λ k one. other_name (is_at end) (is_at (end_there both.others.now end)) both.here.now both.there.now n c.in-Some.passed c.in-Some.ensures j m o next at_m at_o
    (λ same. false≢true (sym c.if-are_same.false ∙ c.are_same.ensures.1 (c.name.ensures ∙ ap name_of (sym c.index-both-found.is) ∙ same ∙ ap name_of c.index-both-index.is ∙ sym c.name-2.ensures))) k one.0 one.1)
