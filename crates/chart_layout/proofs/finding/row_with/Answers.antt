use Rattle.std.proofs.Common.{◌∙◌, sym, subst}
use Rattle.chart.specs.Charts.{chart_lines}
use Rattle.closure.specs.Faults.{place_of}
use Rattle.chart_layout.specs.declared.finding.Way.{Way}
use Rattle.chart_layout.specs.declared.row.Row.TheVariants.{Message, Event}
use Rattle.chart_layout.specs.Ways.{IsWay, HasNoWay}
use Rattle.chart_layout.proofs.FindLemmas.{is_send, not_level, send_next, not_level_there, not_else}
use Rattle.chart_layout.proofs.finding.row_with.Goals as goal
use Rattle.chart_layout.proofs.finding.row_with.Goals.{in_default-way-via-in-Level-way+else-send-laid_out, in_default-way-via-in_default-way}

pub returns-in-Early : goal.returns-in-Early
returns-in-Early c =
    λ line its. (
      subst (λ (way : Way). IsWay (chart_lines c.args.closure.now) c.args.layout.now way (Event c.args.event.now)) (sym c.in-Early.is)
          (c.requires, is_send (chart_lines c.args.closure.now) c.args.layout.now (place_of c.args.event.now) line its c.requires c.in_default.ensures),
      its,
    )

pub returns-in-Level : goal.returns-in-Level
returns-in-Level c =
    λ line its. subst (λ (way : Way). HasNoWay (chart_lines c.args.closure.now) c.args.layout.now way line) (sym c.in-Level.is)
    (not_level (chart_lines c.args.closure.now) c.args.layout.now (place_of c.args.event.now) line its c.requires c.in_default.ensures)

pub returns-in-Level-way : goal.returns-in-Level-way
returns-in-Level-way c =
    λ line its. (
      subst (λ (way : Way). IsWay (chart_lines c.args.closure.now) c.args.layout.now way (Message c.in-Some.send c.args.event.now)) (sym c.in-Level-way.is)
          (c.in-Some.ensures, send_next (chart_lines c.args.closure.now) c.args.layout.now (place_of c.args.event.now) line its c.requires (place_of c.in-Some.send) c.in-Some.ensures (c.if-send-laid_out.true ∙ c.laid_out-laid_out.ensures), c.requires),
      its,
    )

pub returns-in_default-way : goal.returns-in_default-way
returns-in_default-way c =
    λ line its. elim c.in_default-way.branch [
      | in_default-way-via-in-Level-way+else-send-laid_out w ↦ subst (λ (way : Way). HasNoWay (chart_lines c.args.closure.now) c.args.layout.now way line) (sym w.in-Level-way.is)
          (not_level_there (chart_lines c.args.closure.now) c.args.layout.now (place_of c.args.event.now) line its c.requires (place_of c.in-Some.send) c.in-Some.ensures (λ same. w.if-send-laid_out.false (same ∙ sym c.laid_out-laid_out.ensures)))
      | in_default-way-via-in_default-way w ↦ not_else (chart_lines c.args.closure.now) c.args.layout.now (place_of c.args.event.now) line its c.requires (place_of c.in-Some.send) c.in-Some.ensures c.args.way w.in_default-way.not-Level
    ]
