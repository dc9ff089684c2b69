use Rattle.std.proofs.Common.{◌≡◌, List, length, Some, ap, ◌∙◌, subst, arith}
use Rattle.std.proofs.lemmas.Result.{IfOk-weaker}
use Rattle.chart.specs.declared.event.Event.{Event}
use Rattle.chart.specs.Events.{ith, is_receive_from}
use Rattle.chart.specs.Charts.{LineView, chart_lines}
use Rattle.chart.proofs.Belongs.{IsEvent-from_passes}
use Rattle.closure.specs.Faults.{place_of}
use Rattle.closure.proofs.ReadLemmas.{ith_read}
use Rattle.cmd_explain_race.specs.Explaining.{AreRaceSayings}
use Rattle.cmd_base.specs.Pairs.Sayings.{race_sayings}
use Rattle.cmd_explain_race.proofs.RaceLemmas.{explained_by}
use Rattle.cmd_explain_race.proofs.explained.explain_race.Goals as goal

pub race_sayings-requires-clause-lines : goal.race_sayings-requires-clause-lines
race_sayings-requires-clause-lines c = omega (arith, c.in_ok-counts.ensures.whole, c.requires.limit)

pub returns : goal.returns
returns c =
    let d = chart_lines c.args.closure.now in
    let p = c.args.pair.now.receive.instance in
    let events = c.events_of-events.result.now in
    let same : events ≡ d p = c.events_of-events.ensures.events ∙ ap (λ (l : List LineView). chart_lines l p) c.lines.ensures in
    let event = IsEvent-from_passes d (is_receive_from c.requires.pair.receive.0) (place_of c.args.pair.now.receive) c.requires.pair.receive.1 in
    let m = c.index-events-receive.result in
    let here : ith (d p) c.args.pair.now.receive.index ≡ Some m = subst (λ (l : List Event). ith l c.args.pair.now.receive.index ≡ Some m) same (ith_read events c.args.pair.now.receive.index m event.0 (let e = ap (λ (l : List Event). length l) same in omega (arith, e, event.1)) c.index-events-receive.is) in
    IfOk-weaker c.race_sayings.result _ (λ sayings. AreRaceSayings (length c.args.closure.now) d c.args.pair.now sayings.items)
    (λ sayings made. explained_by (length c.args.closure.now) d c.args.pair.now m c.in_ok-counts.counts sayings.items c.partner.result c.requires.pair.receive here c.partner.ensures c.in_ok-counts.ensures
    (subst (λ (l : List Event). sayings.items ≡ race_sayings l p c.args.pair.now.receive.index c.partner.result c.in_ok-counts.counts) same made)) c.race_sayings.ensures
