use Rattle.std.proofs.Common.{refl, inr}
use Rattle.mscview_requests.proofs.WordsLemmas.HostLemmas.{hosts_refused, hosts_read}
use Rattle.mscview_requests.proofs.words.hosts.words_by.Goals as goal

pub returns-then-has_empty : goal.returns-then-has_empty
returns-then-has_empty c = inr (refl, hosts_refused (λ w. w.now) c.in-Ok.words.items c.as_slice.result.now c.args.word.now c.has_empty.result c.in-Ok.ensures c.as_slice.ensures.value c.has_empty.ensures c.if-has_empty.true)

pub returns : goal.returns
returns c = hosts_read (λ w. w.now) c.in-Ok.words.items c.as_slice.result.now c.args.word.now c.has_empty.result c.in-Ok.ensures c.as_slice.ensures.value c.has_empty.ensures c.if-has_empty.false
