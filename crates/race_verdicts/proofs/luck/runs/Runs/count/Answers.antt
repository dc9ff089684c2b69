use Rattle.std.proofs.Common.{◌-◌, ◌≤◌, ◌∙◌, List, length, sym, subst, arith}
use Rattle.log_chart.specs.declared.item.Item.{Item}
use Rattle.race_verdicts.specs.Luck.Places.{host_items}
use Rattle.race_verdicts.specs.Luck.Runs.{IsRun}
use Rattle.race_verdicts.proofs.LuckLemmas.RunLemmas.{run_read, run_there, runs_there}
use Rattle.race_verdicts.proofs.luck.runs.Runs.count.Goals as goal

pub unreachable-requires : goal.unreachable-requires
unreachable-requires c =
    let hosts = c.self.inside.hosts.now in
    let event = c.args.event.now in
    let begun = c.requires.begun in
    let within = subst (λ (hs : List (List Item)). event.index ≤ length (host_items hs event.instance)) (sym c.self.view_is) c.requires.within in
    let have = runs_there hosts c.self.inside.runs.items c.self.invariant event.instance c.place.result event.index c.place.ensures.value begun within c.index.result.now c.index.ensures in
    run_there (host_items hosts event.instance) c.index.result.now (event.index - 1) have (omega (arith, begun, within)) (sym c.at.ensures ∙ c.in_default.is)

pub returns : goal.returns
returns c =
    let hosts = c.self.inside.hosts.now in
    let event = c.args.event.now in
    let begun = c.requires.begun in
    let within = subst (λ (hs : List (List Item)). event.index ≤ length (host_items hs event.instance)) (sym c.self.view_is) c.requires.within in
    let have = runs_there hosts c.self.inside.runs.items c.self.invariant event.instance c.place.result event.index c.place.ensures.value begun within c.index.result.now c.index.ensures in
    subst (λ (hs : List (List Item)). IsRun (host_items hs event.instance) (event.index - 1) c.in-Some.run') c.self.view_is
    (run_read (host_items hosts event.instance) c.index.result.now (event.index - 1) c.in-Some.run' have (omega (arith, begun, within)) (sym c.at.ensures ∙ c.in-Some.is))
