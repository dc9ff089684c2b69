use Rattle.std.proofs.Common.{◌≡◌, ◌+◌, ◌-◌, ◌<◌, ◌&&◌, true, None, length, get_or, drop, sym, ap, ◌∙◌, subst, subst₂, arith}
use Rattle.std.specs.Prelude.{is_none}
use Rattle.std.proofs.lemmas.Bool.{and_parts}
use Rattle.log_chart.specs.Entries.{is_send}
use Rattle.race_verdicts.specs.Luck.Arrivals.{is_left, of_stream}
use Rattle.race_verdicts.specs.Luck.QueueTables.{AreQueues}
use Rattle.race_verdicts.proofs.LuckLemmas.LineLemmas.{there}
use Rattle.race_verdicts.proofs.LuckLemmas.QueueLemmas.{queues_begin, queues_put, queues_pass, stream_in, left_same}
use Rattle.race_verdicts.proofs.LuckLemmas.TableLemmas.{none_at, none_whole}
use Rattle.race_verdicts.proofs.luck.queues.left_of.Goals as goal

pub lines-init : goal.lines-init
lines-init c =
    let lines = c.args.lines.now in
    record {
      within = omega arith;
      queues =
          queues_begin lines c.requires.log true (is_left lines) _ _ (length lines) (omega arith) (none_whole (length lines) _ c.in_ok-queues.ensures.first) (none_whole (length lines) _ c.in_ok-queues.ensures.next)
          (λ d. ap (λ t. get_or t d None) c.in_ok-queues.ensures.first ∙ none_at (length lines) d);
    }

pub put_first-requires : goal.put_first-requires
put_first-requires c =
    let lines = c.args.lines.now in
    let log = c.requires.log in
    let n = c.lines.number - 1 in
    let x = c.index-lines-number.result in
    let back : c.lines.number ≡ n + 1 = omega arith in
    let less : n < length lines = omega (arith, c.lines.invariant.within) in
    let here = there lines n x less c.index-lines-number.is in
    let first = c.lines.queues.first in
    let next = c.lines.queues.next in
    let are : AreQueues lines true first next (n + 1) (of_stream (is_left lines) (drop (n + 1) lines)) = subst (λ k. AreQueues lines true first next k (of_stream (is_left lines) (drop k lines))) back c.lines.invariant.queues in
    let whole = are.first_whole in
    let next_whole = are.next_whole in
    let fits = stream_in lines log n x here in
    record { stream = omega (arith, fits, whole); number = omega (arith, less, next_whole) }

pub lines-preserved-then-is_left : goal.lines-preserved-then-is_left
lines-preserved-then-is_left c =
    let lines = c.args.lines.now in
    let log = c.requires.log in
    let n = c.lines.number - 1 in
    let x = c.index-lines-number.result in
    let back : c.lines.number ≡ n + 1 = omega arith in
    let less : n < length lines = omega (arith, c.lines.invariant.within) in
    let here = there lines n x less c.index-lines-number.is in
    let first = c.lines.queues.first in
    let next = c.lines.queues.next in
    let are : AreQueues lines true first next (n + 1) (of_stream (is_left lines) (drop (n + 1) lines)) = subst (λ k. AreQueues lines true first next k (of_stream (is_left lines) (drop k lines))) back c.lines.invariant.queues in
    let stated : c.is_left.result ≡ is_left lines x = c.is_left.ensures ∙ ap (λ t. is_send x.entry.kind && is_none t) c.at.ensures ∙ left_same lines c.args.takers.now c.requires.takers n x here (log.numbered n x here) in
    let its = and_parts (is_send x.entry.kind) (is_none c.at.result) (sym c.is_left.ensures ∙ c.if-is_left.true) in
    let whole = are.first_whole in
    let fits = stream_in lines log n x here in
    record {
      within = omega (arith, less);
      queues =
          subst₂ (λ f g. AreQueues lines true f g n (of_stream (is_left lines) (drop n lines))) (sym c.put_first.ensures.first) (sym c.put_first.ensures.next)
          (queues_put lines log true (is_left lines) first next n x here are (sym stated ∙ c.if-is_left.true) its.0 (omega (arith, fits, whole)));
    }

pub lines-preserved : goal.lines-preserved
lines-preserved c =
    let lines = c.args.lines.now in
    let log = c.requires.log in
    let n = c.lines.number - 1 in
    let x = c.index-lines-number.result in
    let back : c.lines.number ≡ n + 1 = omega arith in
    let less : n < length lines = omega (arith, c.lines.invariant.within) in
    let here = there lines n x less c.index-lines-number.is in
    let first = c.lines.queues.first in
    let next = c.lines.queues.next in
    let are : AreQueues lines true first next (n + 1) (of_stream (is_left lines) (drop (n + 1) lines)) = subst (λ k. AreQueues lines true first next k (of_stream (is_left lines) (drop k lines))) back c.lines.invariant.queues in
    let stated : c.is_left.result ≡ is_left lines x = c.is_left.ensures ∙ ap (λ t. is_send x.entry.kind && is_none t) c.at.ensures ∙ left_same lines c.args.takers.now c.requires.takers n x here (log.numbered n x here) in
    record { within = omega (arith, less); queues = queues_pass lines log true (is_left lines) first next n x here are (sym stated ∙ c.if-is_left.false) }

pub returns : goal.returns
returns c =
    let lines = c.args.lines.now in
    let none : c.lines.number ≡ 0 = omega arith in
    subst (λ k. AreQueues lines true c.lines.queues.first c.lines.queues.next k (of_stream (is_left lines) (drop k lines))) none c.lines.invariant.queues
