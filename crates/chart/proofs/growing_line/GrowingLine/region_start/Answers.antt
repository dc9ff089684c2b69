use Rattle.std.proofs.Common.{◌≡◌, ◌≤◌, length, subst, sym, ap, ◌∙◌, arith}
use Rattle.std.proofs.lemmas.List.{length-map}
use Rattle.chart.specs.Charts.{GrowingView}
use Rattle.chart.specs.Events.{is_in}
use Rattle.chart.specs.Runs.{IsStartOfRun}
use Rattle.chart.specs.LineLayout.{event_of}
use Rattle.chart.proofs.Entries.{starts_read}
use Rattle.chart.proofs.growing_line.GrowingLine.region_start.Goals as goal

pub returns : goal.returns
returns c =
    let line = c.self.inside in
    let entries = line.entries.items in
    let names = line.names.names.items in
    let entry = c.index.result.now in
    let long : length entries ≡ length c.args.self.now.line.events = sym (length-map entries (event_of names)) ∙ ap (λ (v : GrowingView). length v.line.events) c.self.view_is in
    let starts = starts_read line.instance names entries line.greatest c.args.index entry c.self.invariant c.requires.begun (omega (arith, long, c.requires.within)) c.index.ensures in
    subst (λ (v : GrowingView). IsStartOfRun is_in v.line.events c.args.index entry.starts.region) c.self.view_is starts.region
