use Rattle.std.proofs.Common.{◌≡◌, None, subst, sym}
use Rattle.std.specs.Prelude.{slice_index_or, slice_set, Some}
use Rattle.log_chart.specs.Chains.{AreChains, with_first}
use Rattle.log_chart.proofs.ChainLemmas.{put_chains}
use Rattle.std.proofs.lemmas.List.{get_or_read}
use Rattle.log_chart.proofs.chains.Chains.put_first.Goals as goal

pub returns-clause-put : goal.returns-clause-put
returns-clause-put c = λ lists are below.
    let first = c.args.self.now.first.items in
    let next = c.args.self.now.next.items in
    let read : c.index.result.now ≡ slice_index_or first c.args.list None = get_or_read first c.args.list c.index.result.now c.requires.list c.index.ensures None in
    subst (λ k. AreChains (slice_set first c.args.list (Some c.args.number)) (slice_set next c.args.number k) (with_first lists c.args.list c.args.number)) (sym read)
    (put_chains first next lists c.args.list c.args.number c.requires.list c.requires.number are below)
