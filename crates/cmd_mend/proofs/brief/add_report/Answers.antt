use Rattle.std.proofs.Common.{◌≡◌, List, map, ap, ◌∙◌, subst}
use Rattle.std.specs.Prelude.{OnOk}
use Rattle.chart.specs.Ranges.{ranges_of}
use Rattle.cmd_mend.specs.declared.brief.Shown.{Shown}
use Rattle.cmd_mend.specs.Brief.{shown_as, shown_of, Shows}
use Rattle.cmd_mend.proofs.brief.add_report.Goals as goal

pub returns : goal.returns
returns c =
    let fate = c.args.fate in
    let report = c.args.report.now in
    let same : map (shown_as fate c.receive.result) c.as_slice.result.now ≡ shown_of fate report =
    ap (λ r. map (shown_as fate r) c.as_slice.result.now) c.receive.ensures
    ∙ ap (map (shown_as fate report.receive)) (c.as_slice.ensures.fewest ∙ ap ranges_of c.earlier-earlier.ensures) in
    subst (λ (l : List Shown). OnOk c.add_ranges.result (Shows c.args.shown.now.items c.add_ranges.new.shown.items l)) same c.add_ranges.ensures
