use Rattle.std.proofs.Common.{◌<◌, None, false, get_or, sym, subst}
use Rattle.std.specs.Prelude.{filter}
use Rattle.race_verdicts.specs.Luck.Arrivals.{is_open}
use Rattle.race_verdicts.specs.Luck.QueueTables.{IsQueue, IsSomeQueue}
use Rattle.race_verdicts.proofs.LuckLemmas.QueueLemmas.{HasLeft, left_after, left_begins, left_goes, left_stops, left_ends, some_less, some_goes}
use Rattle.race_verdicts.proofs.luck.queues.Queues.first_from.Goals as goal

pub lines-init : goal.lines-init
lines-init c =
    let first = c.args.self.now.first in
    let next = c.args.self.now.next in
    record {
      queue = subst (IsSomeQueue next) (sym c.at-next.ensures) c.requires;
      left = λ lines list q. subst (HasLeft lines next c.args.at list) (sym c.at-next.ensures) (left_begins lines next c.args.at (get_or first c.args.stream None) list q);
    }

pub returns-then-at-number : goal.returns-then-at-number
returns-then-at-number c = λ lines list q. subst (λ e. IsQueue lines false c.args.self.now.next 0 e (filter (is_open c.args.at) list)) c.in-Some.is
    (left_stops lines c.args.self.now.next c.args.at c.in-Some.number c.lines.next list c.in-Some.is c.if-at-number.true (c.lines.invariant.left lines list q))

pub lines-smaller : goal.lines-smaller
lines-smaller c =
    subst (λ e. left_after c.args.self.now.next e < left_after c.args.self.now.next c.lines.next) (sym c.at-next-in-Some.ensures)
    (some_less c.args.self.now.next c.in-Some.number c.lines.next c.in-Some.is c.lines.invariant.queue)

pub lines-preserved : goal.lines-preserved
lines-preserved c =
    let next = c.args.self.now.next in
    record {
      queue = subst (IsSomeQueue next) (sym c.at-next-in-Some.ensures) (some_goes next c.in-Some.number c.lines.next c.in-Some.is c.lines.invariant.queue);
      left = λ lines list q. subst (HasLeft lines next c.args.at list) (sym c.at-next-in-Some.ensures)
          (left_goes lines next c.args.at c.in-Some.number c.lines.next list c.in-Some.is c.if-at-number.false (c.lines.invariant.left lines list q));
    }

pub returns : goal.returns
returns c = λ lines list q. left_ends lines c.args.self.now.next c.args.at c.lines.next list c.in_default.is (c.lines.invariant.left lines list q)
