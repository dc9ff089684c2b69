use Rattle.std.proofs.Common.{◌≡◌, ◌+◌, ◌-◌, ◌<◌, not, false, None, length, get_or, drop, sym, ap, ◌∙◌, subst, subst₂, arith}
use Rattle.log_chart.specs.Entries.{is_send}
use Rattle.race_verdicts.specs.Luck.Arrivals.{receives, of_stream}
use Rattle.race_verdicts.specs.Luck.QueueTables.{AreQueues}
use Rattle.race_verdicts.proofs.LuckLemmas.LineLemmas.{there}
use Rattle.race_verdicts.proofs.LuckLemmas.QueueLemmas.{queues_begin, queues_put, queues_pass, stream_in}
use Rattle.race_verdicts.proofs.LuckLemmas.TableLemmas.{none_at, none_whole}
use Rattle.race_verdicts.proofs.luck.queues.received_of.Goals as goal

pub lines-init : goal.lines-init
lines-init c =
    let lines = c.args.lines.now in
    record {
      within = omega arith;
      queues =
          queues_begin lines c.requires false receives _ _ (length lines) (omega arith) (none_whole (length lines) _ c.in_ok-queues.ensures.first) (none_whole (length lines) _ c.in_ok-queues.ensures.next)
          (λ d. ap (λ t. get_or t d None) c.in_ok-queues.ensures.first ∙ none_at (length lines) d);
    }

pub put_first-requires : goal.put_first-requires
put_first-requires c =
    let lines = c.args.lines.now in
    let log = c.requires in
    let n = c.lines.number - 1 in
    let x = c.index-lines-number.result in
    let back : c.lines.number ≡ n + 1 = omega arith in
    let less : n < length lines = omega (arith, c.lines.invariant.within) in
    let here = there lines n x less c.index-lines-number.is in
    let first = c.lines.queues.first in
    let next = c.lines.queues.next in
    let are : AreQueues lines false first next (n + 1) (of_stream receives (drop (n + 1) lines)) = subst (λ k. AreQueues lines false first next k (of_stream receives (drop k lines))) back c.lines.invariant.queues in
    let whole = are.first_whole in
    let next_whole = are.next_whole in
    let fits = stream_in lines log n x here in
    record { stream = omega (arith, fits, whole); number = omega (arith, less, next_whole) }

pub lines-preserved-then-not-is_send : goal.lines-preserved-then-not-is_send
lines-preserved-then-not-is_send c =
    let lines = c.args.lines.now in
    let log = c.requires in
    let n = c.lines.number - 1 in
    let x = c.index-lines-number.result in
    let back : c.lines.number ≡ n + 1 = omega arith in
    let less : n < length lines = omega (arith, c.lines.invariant.within) in
    let here = there lines n x less c.index-lines-number.is in
    let first = c.lines.queues.first in
    let next = c.lines.queues.next in
    let are : AreQueues lines false first next (n + 1) (of_stream receives (drop (n + 1) lines)) = subst (λ k. AreQueues lines false first next k (of_stream receives (drop k lines))) back c.lines.invariant.queues in
    let its : is_send x.entry.kind ≡ false = sym c.is_send.ensures ∙ c.if-not-is_send.true in
    let whole = are.first_whole in
    let fits = stream_in lines log n x here in
    record {
      within = omega (arith, less);
      queues =
          subst₂ (λ f g. AreQueues lines false f g n (of_stream receives (drop n lines))) (sym c.put_first.ensures.first) (sym c.put_first.ensures.next)
          (queues_put lines log false receives first next n x here are (ap not its) its (omega (arith, fits, whole)));
    }

pub lines-preserved : goal.lines-preserved
lines-preserved c =
    let lines = c.args.lines.now in
    let log = c.requires in
    let n = c.lines.number - 1 in
    let x = c.index-lines-number.result in
    let back : c.lines.number ≡ n + 1 = omega arith in
    let less : n < length lines = omega (arith, c.lines.invariant.within) in
    let here = there lines n x less c.index-lines-number.is in
    let first = c.lines.queues.first in
    let next = c.lines.queues.next in
    let are : AreQueues lines false first next (n + 1) (of_stream receives (drop (n + 1) lines)) = subst (λ k. AreQueues lines false first next k (of_stream receives (drop k lines))) back c.lines.invariant.queues in
    record { within = omega (arith, less); queues = queues_pass lines log false receives first next n x here are (ap not (sym c.is_send.ensures ∙ c.if-not-is_send.false)) }

pub returns : goal.returns
returns c =
    let lines = c.args.lines.now in
    let none : c.lines.number ≡ 0 = omega arith in
    subst (λ k. AreQueues lines false c.lines.queues.first c.lines.queues.next k (of_stream receives (drop k lines))) none c.lines.invariant.queues
