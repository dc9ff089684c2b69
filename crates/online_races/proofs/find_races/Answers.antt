use Rattle.std.proofs.Common.{◌∙◌, arith}
use Rattle.std.proofs.lemmas.List.Elements.{All-push}
use Rattle.chart.specs.Ranges.{IsRange}
use Rattle.online_races.proofs.PassingLemmas.{events_in-pushed}
use Rattle.online_races.proofs.find_races.Goals as goal

pub loop-races-preserved : goal.loop-races-preserved
loop-races-preserved c =
    let ranges = c.loop-races.found.items in
    let races = c.in-Some.races in (
      rw (events_in-pushed ranges c.push_reserved.new.self.items races c.push_reserved.ensures.items) (c.in-Some.ensures.found c.args.end _ c.loop-races.invariant.0),
      rw c.push_reserved.ensures.items (All-push IsRange ranges races c.loop-races.invariant.1 c.in-Some.ensures.range),
      omega (arith, c.push_reserved.ensures.len, c.loop-races.invariant.2, c.in-Some.ensures.within, c.in-Some.ensures.later),
      c.push_reserved.ensures.capacity ∙ c.loop-races.invariant.3,
    )
