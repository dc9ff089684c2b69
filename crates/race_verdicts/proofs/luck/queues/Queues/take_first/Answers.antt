use Rattle.std.proofs.Common.{drop, set, ap, sym, ◌∙◌, subst}
use Rattle.race_verdicts.specs.Luck.QueueTables.{AreQueues, with_list}
use Rattle.race_verdicts.proofs.LuckLemmas.QueueLemmas.{taken_some}
use Rattle.race_verdicts.proofs.luck.queues.Queues.take_first.Goals as goal

pub returns-in-Some-clause-taken : goal.returns-in-Some-clause-taken
returns-in-Some-clause-taken c = λ lines sends lists are.
    let first = c.args.self.now.first in
    let next = c.args.self.now.next in
    let stream = c.args.stream in
    let number = c.in-Some.number in
    subst (λ f. AreQueues lines sends f next 0 (with_list lists stream (drop 1 (lists stream)))) (sym (c.put.ensures ∙ ap (set first stream) c.at-behind.ensures))
    (taken_some lines sends first next lists are stream number (sym c.at.ensures ∙ c.in-Some.is))
