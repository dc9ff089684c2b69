use Rattle.std.proofs.Common.{List, All, sym, subst}
use Rattle.chart.specs.declared.event.Event.{Event}
use Rattle.chart.specs.declared.instance.EventNo.{EventNo}
use Rattle.chart.specs.Ranges.{events_in}
use Rattle.chart.specs.Reports.{ReportView}
use Rattle.texts.specs.Writing.{Adds}
use Rattle.shown_races.specs.Kept.{later_than}
use Rattle.races_text.specs.Named.Listing.{manner_of}
use Rattle.races_text.specs.Judged.Parts.{Judges, shown_parts}
use Rattle.races_text.specs.Judged.Listing.{parts_text}
use Rattle.races_text.proofs.JudgedLemmas.FoundParts.{all_selected, parted_so}
use Rattle.races_text.proofs.judged.listing.add_selected.Goals as goal

pub add_parts-requires : goal.add_parts-requires
add_parts-requires g c =
    let query = c.args.query.now in
    let race = g.V.Verdicts.is_race query.verdicts.now c.args.receive.now in
    subst (All race) (sym c.selected_events-kept.ensures) (all_selected race (manner_of query.query) query.query.lines.now c.args.receive.now c.args.passed (events_in c.args.earlier.now) c.requires.races)

pub returns : goal.returns
returns g c =
    let query = c.args.query.now in
    let is = g.V.Verdicts.is_verdict query.verdicts.now in
    let receive = c.args.receive.now in
    let report : ReportView = record { receive = receive; earlier = later_than c.args.passed (events_in c.args.earlier.now) } in
    let added = c.add_parts.ensures in
    let judged = subst (λ (es : List EventNo). Judges (is receive) es c.add_parts.result added.0) c.selected_events-kept.ensures added.1 in (
      record { receive = receive; parts = added.0 },
      parted_so is (manner_of query.query) query.query.lines.now report c.add_parts.result added.0 judged,
      subst (λ (line : List Event). Adds g.W.Out.sink c.args.text.now c.add_parts.new.text c.add_parts.result (parts_text query.query.form query.query.names.now line receive (shown_parts query.luck added.0)))
          c.events_of-events.ensures.events added.2,
      added.3,
    )
