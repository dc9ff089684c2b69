use Rattle.std.proofs.Common.{◌<◌, ◌∷◌, ◌∙◌, ◌+◌, drop, ap, sym, subst}
use Rattle.chart.specs.Ranges.{IsWithinFirst, events_in}
use Rattle.chart.proofs.RangeLists.{next_event}
use Rattle.races_text.proofs.NamedLemmas.Joined.{first_of}
use Rattle.races_text.proofs.named.kept.Coming.first.Goals as goal

pub returns : goal.returns
returns c =
    let range = c.in_ok-range.range.now in
    let others = c.in_ok-range.field-0-1.now in
    let passed = c.self.inside.passed in
    let are = c.in_ok-range.ensures.cases.0 in
    let within : passed < range.count = subst (IsWithinFirst passed) are c.self.invariant.1 in
    let rest = drop (passed + 1) (events_in (range ∷ others)) in
    first_of c.args.self.now rest c.event.result
    (sym c.self.view_is ∙ ap (λ ranges. drop passed (events_in ranges)) are ∙ next_event range others passed within ∙ ap (λ e. e ∷ rest) (sym c.event.ensures))
