use Rattle.std.proofs.Common.{◌≡◌, ◌<◌, ◌∙◌, ◌+◌, All, drop, ap, sym, subst, arith}
use Rattle.std.proofs.lemmas.List.Elements.{All-tail}
use Rattle.chart.specs.Ranges.{IsRange, IsWithinFirst, events_in}
use Rattle.chart.proofs.RangeLists.{next_event, last_event, none_passed}
use Rattle.races_text.proofs.named.kept.Coming.pass.Goals as goal

pub invariant_of-self-else-self-range : goal.invariant_of-self-else-self-range
invariant_of-self-else-self-range c =
    let each = All-tail IsRange c.in-Some.range.now c.in-Some.others.now (subst (All IsRange) c.in-Some.ensures.cases.0 c.self.invariant.0) in
    (each, none_passed c.in-Some.others.now each)

pub returns-then-self-range : goal.returns-then-self-range
returns-then-self-range c =
    let range = c.in-Some.range.now in
    let others = c.in-Some.others.now in
    let passed = c.self.inside.passed in
    let are = c.in-Some.ensures.cases.0 in
    let within : passed < range.count = subst (IsWithinFirst passed) are c.self.invariant.1 in
    ap (λ ranges. drop (passed + 1) (events_in ranges)) are
    ∙ sym (ap (drop 1) (sym c.self.view_is ∙ ap (λ ranges. drop passed (events_in ranges)) are ∙ next_event range others passed within))

pub returns-else-self-range : goal.returns-else-self-range
returns-else-self-range c =
    let range = c.in-Some.range.now in
    let others = c.in-Some.others.now in
    let passed = c.self.inside.passed in
    let are = c.in-Some.ensures.cases.0 in
    let within : passed < range.count = subst (IsWithinFirst passed) are c.self.invariant.1 in
    let last : passed + 1 ≡ range.count = omega (arith, within, c.if-self-range.false) in
    sym (ap (drop 1) (sym c.self.view_is ∙ ap (λ ranges. drop passed (events_in ranges)) are ∙ last_event range others passed last))
