use Rattle.std.proofs.Common.{◌≡◌, ◌≤◌, sym, ap, ◌∙◌, subst}
use Rattle.std.proofs.lemmas.Bool.{leb-true, le-leb}
use Rattle.chart.specs.Events.{is_send_to}
use Rattle.chart.specs.Charts.{Place, chart_lines}
use Rattle.chart.specs.Knowing.{IsUpTo}
use Rattle.chart.proofs.Belongs.{same_send, IsEvent-from_passes}
use Rattle.closure.specs.Faults.{place_of}
use Rattle.closure.specs.Rows.{entry}
use Rattle.repair.proofs.asking.is_heard_at.Goals as goal

pub returns : goal.returns
returns c =
    let d = chart_lines c.args.closure.now in
    let s = place_of c.args.send.now in
    let its = place_of c.in-Some.its in
    let belongs = c.in-Some.ensures in
    let low = (IsEvent-from_passes d (is_send_to c.requires.send.0) s c.requires.send.1).0 in
    let number : entry c.in_ok-fronts.fronts c.args.send.now.instance ≡ c.at.result = ap (entry c.in_ok-fronts.fronts) c.place.ensures.value ∙ sym c.at.ensures in
    let reached = c.in_ok-fronts.ensures.reached s low in (
      (its, belongs),
      (
        λ yes'. (its, belongs, reached.1 (subst (λ k. c.args.send.now.index ≤ k) (sym number) (leb-true _ _ yes'))),
        λ heard.
            let same = same_send d heard.0 its (place_of c.args.receive.now) heard.1 belongs in
            le-leb _ _ (subst (λ k. c.args.send.now.index ≤ k) number (reached.0 (subst (λ (t : Place). IsUpTo d t s) same heard.2))),
      ),
    )
