use Rattle.std.proofs.Common.{Bool, List, subst}
use Rattle.chart.specs.Charts.{LineView}
use Rattle.chart.specs.declared.instance.EventNo.{EventNo}
use Rattle.chart.specs.Reports.{ReportView}
use Rattle.texts.specs.Writing.{Puts}
use Rattle.races_text.specs.Named.Listing.{Manner}
use Rattle.shown_races.specs.Selected.{AreSelected, is_there}
use Rattle.races_text.specs.Judged.Listing.{IsRaceIn, PartedReport, AreParted, luck_text}
use Rattle.cmd_races.specs.Judging.{luck_manner_of}
use Rattle.cmd_races.proofs.judging.show_selected.Goals as goal

pub write_luck-requires-clause-races : goal.write_luck-requires-clause-races
write_luck-requires-clause-races g c =
    λ (r e : EventNo) race. c.requires.races r e (subst (λ (ls : List LineView). IsRaceIn ls r e) c.lines.ensures race)

pub returns-in-Ok-write_luck : goal.returns-in-Ok-write_luck
returns-in-Ok-write_luck g c =
    let wanted = c.args.wanted.now in
    let is = g.V.Verdicts.is_verdict c.args.verdicts.now in
    let instances = c.args.instances.now in
    let manner = luck_manner_of wanted instances in
    let closure = c.args.closure.now in
    let manner_as : Bool → Manner = λ b. record { form = wanted.races.form; receives = wanted.races.receives; only = instances; completed = b } in
    let w = c.in-Ok-write_luck.ensures in
    let reports : List ReportView = w.0 in
    let parted : List PartedReport = w.1 in
    let query = subst (λ (ls : List LineView). AreSelected (is_there c.args.completion) ls reports) c.lines.ensures w.2 in
    let are = subst (λ (ls : List LineView). AreParted is (manner_as (is_there c.args.completion)) ls reports parted) c.lines.ensures w.3 in (
      instances,
      reports,
      parted,
      record {
        wanted_so = record { named_so = c.requires.instances; possible = c.requires.possible; races = subst (λ (b : Bool). AreSelected b closure reports) c.requires.asked query };
        parted_so = subst (λ (b : Bool). AreParted is (manner_as b) closure reports parted) c.requires.asked are;
      },
      subst (λ (ls : List LineView). Puts g.W.Out.sink c.args.out.now c.write_luck.new.out (luck_text manner c.args.names.now ls parted)) c.lines.ensures w.4,
      w.5,
    )
