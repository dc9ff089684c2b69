use Rattle.std.proofs.Common.{◌≡◌, List, length, Ok, sym, ap, ◌∙◌, subst}
use Rattle.std.specs.List.{flat_map}
use Rattle.chart.specs.declared.event.Event.{Event}
use Rattle.chart.specs.Charts.{LineView, chart_lines}
use Rattle.texts.specs.Writing.{Puts, Breaks}
use Rattle.cmd_base.specs.declared.pairs.saying.Saying.{Saying}
use Rattle.cmd_base.specs.Pairs.Pairs.{pair_of, IsPair}
use Rattle.cmd_base.specs.Pairs.SayingText.{saying_text}
use Rattle.cmd_explain_race.specs.Explaining.{IsExplained}
use Rattle.cmd_base.proofs.PairsLemmas.PairLemmas.{IsPair-from_words}
use Rattle.cmd_explain_race.proofs.explained.why_in.Goals as goal

pub explain-requires-clause-pair : goal.explain-requires-clause-pair
explain-requires-clause-pair g c =
    let asked = c.args.asked.now in
    let is : pair_of c.args.names.now c.args.chart.now asked ≡ Ok c.in_ok-pair.pair = subst (λ (l : List LineView). pair_of c.args.names.now l asked ≡ Ok c.in_ok-pair.pair) c.lines-lines.ensures.value (sym c.in_ok-pair.ensures) in
    subst (λ (l : List LineView). IsPair (chart_lines l) c.in_ok-pair.pair) (sym c.in_ok-closure.ensures.closure) (IsPair-from_words c.args.names.now c.args.chart.now asked c.in_ok-pair.pair is)

pub returns-in-Ok-write_sayings : goal.returns-in-Ok-write_sayings
returns-in-Ok-write_sayings g c =
    let asked = c.args.asked.now in
    let names = c.args.names.now in
    let pair = c.in_ok-pair.pair in
    let is : pair_of names c.args.chart.now asked ≡ Ok pair = subst (λ (l : List LineView). pair_of names l asked ≡ Ok pair) c.lines-lines.ensures.value (sym c.in_ok-pair.ensures) in
    let events = c.events_of-events.ensures.events ∙ ap (λ (l : List LineView). chart_lines l pair.receive.instance) c.lines-lines.ensures.value in (
      pair,
      c.in-Ok.sayings.items,
      is,
      c.in_ok-closure.ensures.possible,
      subst (λ (l : List LineView). IsExplained (length l) (chart_lines l) pair c.in-Ok.verdict c.in-Ok.sayings.items) c.in_ok-closure.ensures.closure c.in-Ok.ensures,
      subst (λ (l : List Event). Puts g.W.Out.sink c.args.out.now c.write_sayings.new.out (flat_map (saying_text names l) c.in-Ok.sayings.items)) events
          (subst (λ (l : List Saying). Puts g.W.Out.sink c.args.out.now c.write_sayings.new.out (flat_map (saying_text names c.events_of-events.result.now) l)) c.as_slice.ensures.value c.in-Ok-write_sayings.ensures),
    )

pub returns : goal.returns
returns g c =
    let asked = c.args.asked.now in
    let names = c.args.names.now in
    let pair = c.in_ok-pair.pair in
    let is : pair_of names c.args.chart.now asked ≡ Ok pair = subst (λ (l : List LineView). pair_of names l asked ≡ Ok pair) c.lines-lines.ensures.value (sym c.in_ok-pair.ensures) in
    let events = c.events_of-events.ensures.events ∙ ap (λ (l : List LineView). chart_lines l pair.receive.instance) c.lines-lines.ensures.value in (
      pair,
      c.in-Ok.verdict,
      c.in-Ok.sayings.items,
      is,
      c.in_ok-closure.ensures.possible,
      subst (λ (l : List LineView). IsExplained (length l) (chart_lines l) pair c.in-Ok.verdict c.in-Ok.sayings.items) c.in_ok-closure.ensures.closure c.in-Ok.ensures,
      subst (λ (l : List Event). Breaks g.W.Out.sink c.args.out.now c.write_sayings.new.out (flat_map (saying_text names l) c.in-Ok.sayings.items)) events
          (subst (λ (l : List Saying). Breaks g.W.Out.sink c.args.out.now c.write_sayings.new.out (flat_map (saying_text names c.events_of-events.result.now) l)) c.as_slice.ensures.value c.in-Err-write_sayings.ensures),
    )
