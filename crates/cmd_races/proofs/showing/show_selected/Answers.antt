use Rattle.std.proofs.Common.{Bool, List, ap, ◌∙◌, subst}
use Rattle.chart.specs.Charts.{LineView}
use Rattle.chart.specs.Reports.{ReportView}
use Rattle.cmd_base.specs.Statuses.{status_in}
use Rattle.texts.specs.Writing.{Puts, Breaks}
use Rattle.races_text.specs.Named.Listing.{races_text, shows_races}
use Rattle.shown_races.specs.Selected.{AreSelected, is_there}
use Rattle.cmd_races.specs.Showing.{manner_of}
use Rattle.cmd_races.proofs.showing.show_selected.Goals as goal

pub returns-in-Ok-write_races : goal.returns-in-Ok-write_races
returns-in-Ok-write_races g c =
    let manner = manner_of c.args.wanted.now c.args.instances.now in
    let closure = c.args.closure.now in
    let w = c.in-Ok-write_races.ensures in
    let reports : List ReportView = w.0 in
    let query = subst (λ (ls : List LineView). AreSelected (is_there c.args.completion) ls reports) c.lines.ensures w.1 in (
      c.args.instances.now,
      reports,
      record { named_so = c.requires.instances; possible = c.requires.possible; races = subst (λ (b : Bool). AreSelected b closure reports) c.requires.asked query },
      subst (λ (ls : List LineView). Puts g.W.Out.sink c.args.out.now c.write_races.new.out (races_text manner c.args.names.now ls reports)) c.lines.ensures w.2,
      c.of.ensures ∙ ap status_in (w.3 ∙ ap (λ (ls : List LineView). shows_races manner ls reports) c.lines.ensures),
    )

pub returns-in-Err-write_races : goal.returns-in-Err-write_races
returns-in-Err-write_races g c =
    let manner = manner_of c.args.wanted.now c.args.instances.now in
    let closure = c.args.closure.now in
    let w = c.in-Err-write_races.ensures in
    let reports : List ReportView = w.0 in
    let query = subst (λ (ls : List LineView). AreSelected (is_there c.args.completion) ls reports) c.lines.ensures w.1 in (
      c.args.instances.now,
      reports,
      record { named_so = c.requires.instances; possible = c.requires.possible; races = subst (λ (b : Bool). AreSelected b closure reports) c.requires.asked query },
      subst (λ (ls : List LineView). Breaks g.W.Out.sink c.args.out.now c.write_races.new.out (races_text manner c.args.names.now ls reports)) c.lines.ensures w.2,
    )
