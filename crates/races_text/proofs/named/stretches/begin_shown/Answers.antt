use Rattle.std.proofs.Common.{List, ◌++◌, All, filter, sym, ap, ◌∙◌, subst}
use Rattle.std.proofs.lemmas.List.Elements.{All-tail}
use Rattle.chart.specs.declared.ranges.EventRange.{EventRange}
use Rattle.chart.specs.Ranges.{IsRange, events_of, events_in}
use Rattle.shown_races.specs.Kept.{is_kept_after}
use Rattle.races_text.proofs.NamedLemmas.StretchLemmas.{next_begins}
use Rattle.races_text.proofs.named.stretches.begin_shown.Goals as goal

pub begin-preserved : goal.begin-preserved
begin-preserved c =
    let test = is_kept_after c.args.events.now c.args.only c.args.passed in
    let rest = c.begin.left.rest in
    let range = c.in-Some.range.now in
    let others = c.in-Some.others.now in
    let are = c.in-Some.ensures.cases.0 in
    let new = c.from_shown-left-in-begin.result in
    record {
      short = (c.from_shown-left-in-begin.ensures.short, All-tail IsRange range others (subst (All IsRange) are c.begin.invariant.short.1));
      same = next_begins test rest range new others c.begin-test.true c.from_shown-left-in-begin.ensures.same ∙ ap (λ (rs : List EventRange). filter test (events_of rest ++ events_in rs)) (sym are) ∙ c.begin.invariant.same;
      first = c.from_shown-left-in-begin.ensures.first;
    }
