use Rattle.std.proofs.Common.{false, ap, sym, subst}
use Rattle.std.specs.Prelude.{filter}
use Rattle.race_verdicts.specs.Luck.Arrivals.{is_open}
use Rattle.race_verdicts.specs.Luck.QueueTables.{AreQueues, with_list}
use Rattle.race_verdicts.proofs.LuckLemmas.QueueLemmas.{queues_with, list_past}
use Rattle.race_verdicts.proofs.luck.queues.Queues.leave_above.Goals as goal

pub returns : goal.returns
returns c = λ lines lists are.
    let first = c.args.self.now.first in
    let next = c.args.self.now.next in
    let stream = c.args.stream in
    let at = c.args.at in
    subst (λ f. AreQueues lines false f next 0 (with_list lists stream (filter (is_open at) (lists stream)))) (sym c.put.ensures)
    (queues_with lines false first next lists are stream c.first_from-first.result (filter (is_open at) (lists stream)) (c.first_from-first.ensures lines (lists stream) (are.each stream))
    (λ low. ap (filter (is_open at)) (list_past lines false first next lists are stream low)))
