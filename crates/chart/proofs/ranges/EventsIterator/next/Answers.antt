use Rattle.std.proofs.Common.{rules, ◌∷◌, ◌∙◌, ◌+◌, drop, length, All, ◌<◌, ap, ap₂, sym, subst, arith}
use Rattle.std.proofs.lemmas.List.Elements.{All-tail}
use Rattle.chart.specs.Ranges.{IsRange, IsWithinFirst, events_in}
use Rattle.chart.proofs.RangeLists.{next_event, last_event, none_passed}
use Rattle.chart.proofs.ranges.EventsIterator.next.Goals as goal
use Rattle.chart.proofs.ranges.EventsIterator.next.Goals.{then-self-range, else-self-range}

pub invariant_of-self-else-self-range : goal.invariant_of-self-else-self-range
invariant_of-self-else-self-range c =
    let each = All-tail IsRange c.in_ok-range.range.now c.in_ok-range.others.now (subst (All IsRange) c.in_ok-range.ensures.cases.0 c.self.invariant.0) in
    (each, none_passed c.in_ok-range.others.now each)

pub returns-clause-steps : goal.returns-clause-steps
returns-clause-steps c =
    let range = c.in_ok-range.range.now in
    let others = c.in_ok-range.others.now in
    let passed = c.self.inside.passed in
    let are = c.in_ok-range.ensures.cases.0 in
    let was = sym c.self.view_is ∙ ap (λ ranges. drop passed (events_in ranges)) are in
    let within : passed < range.count = subst (IsWithinFirst passed) are c.self.invariant.1 in
    elim c.if-self-range.branch [
      | then-self-range w ↦
          was ∙ next_event range others passed within
          ∙ ap₂ (λ e es. e ∷ es) (sym c.event-event.ensures) (sym (w.self-is ∙ ap (λ ranges. drop (passed + 1) (events_in ranges)) are))
      | else-self-range w ↦
          was ∙ last_event range others passed (omega (arith, within, w.if-self-range.false))
          ∙ ap₂ (λ e es. e ∷ es) (sym c.event-event.ensures) (sym w.self-is)
    ]

pub returns-clause-goes : goal.returns-clause-goes
returns-clause-goes c =
    let step = returns-clause-steps c in
    let shorter = ap length step in search rules
