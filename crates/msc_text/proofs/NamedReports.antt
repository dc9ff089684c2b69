-- The instances of a chart's receives have names, if there are as many names as lines.
use Rattle.std.proofs.Common.{◌≡◌, ℕ, ◌+◌, ◌<◌, ◌≤◌, List, [], ◌∷◌, length, map, get_or, sym, ap, ◌∙◌, subst, arith}
use Rattle.std.specs.Prelude.{All}
use Rattle.std.specs.List.{flat_map}
use Rattle.std.proofs.lemmas.Option.{slice_get-get_or}
use Rattle.std.proofs.lemmas.List.{length-map, get_or-map}
use Rattle.std.proofs.lemmas.List.Concat.{flat_map-cons}
use Rattle.std.proofs.lemmas.List.Elements.{All-nil, All-append, All-head, All-tail, All-weaker}
use Rattle.chart.specs.declared.instance.EventNo.{EventNo}
use Rattle.chart.specs.Charts.{LineView, IsNumbered}
use Rattle.chart.specs.Reports.{ReportView, AreReports, receives_of}
use Rattle.chart.proofs.ReportLists.{receives-within}
use Rattle.msc_text.specs.RaceText.{AreNamed}

-- if lines are among n instances, so are their receives
receives-among : (n : ℕ) (lines : List LineView) → All (λ (l : LineView). l.instance ≤ n) lines → All (λ (e : EventNo). e.instance ≤ n) (flat_map receives_of lines)
receives-among n [] among = All-nil (λ (e : EventNo). e.instance ≤ n)
receives-among n (l ∷ lines) among =
    let first = All-head (λ (l : LineView). l.instance ≤ n) l lines among in
    let own = All-weaker (λ (e : EventNo). (e.instance ≡ l.instance) × (1 ≤ e.index) × (e.index < 1 + length l.events)) (λ (e : EventNo). e.instance ≤ n)
    (λ e w. omega (arith, w.0, first)) (receives_of l) (receives-within l.instance 1 l.events) in
    subst (All (λ (e : EventNo). e.instance ≤ n)) (sym (flat_map-cons receives_of l lines))
    (All-append (λ (e : EventNo). e.instance ≤ n) (receives_of l) (flat_map receives_of lines) own (receives-among n lines (All-tail (λ (l : LineView). l.instance ≤ n) l lines among)))

-- the lines of a chart are among its instances
lines-among : (lines : List LineView) → IsNumbered lines → All (λ (l : LineView). l.instance ≤ length lines) lines
lines-among lines numbered i d within = let its = numbered i (get_or lines i d) (slice_get-get_or lines i d within) in omega (arith, its, within)

pub are_named : (names : List (List ℕ)) (lines : List LineView) (reports : List ReportView) → length names ≡ length lines → IsNumbered lines → AreReports lines reports → AreNamed names reports
are_named names lines reports same numbered are i d inside =
    let long = length-map reports (λ (r : ReportView). r.receive) in
    let at_i : get_or (map (λ (r : ReportView). r.receive) reports) i d.receive ≡ (get_or reports i d).receive = get_or-map (λ (r : ReportView). r.receive) reports i d d.receive inside in
    let there : get_or (flat_map receives_of lines) i d.receive ≡ (get_or reports i d).receive = ap (λ es. get_or es i d.receive) (sym are.are.receives) ∙ at_i in
    let within = receives-among (length lines) lines (lines-among lines numbered) i d.receive (omega (arith, inside, long, ap length are.are.receives)) in
    subst (λ (e : EventNo). e.instance ≤ length names) there (omega (arith, within, same))
