use Rattle.std.proofs.Common.{◌≡◌, length, ap, arith}
use Rattle.msc_text.proofs.NamedReports.{are_named}
use Rattle.example_timed_requests.proofs.showing.show.Goals as goal

pub add_races-requires : goal.add_races-requires
add_races-requires g c =
    let lines = c.args.gathered.now.chart in
    let same : length c.in_ok-names.names ≡ length lines = omega (arith, c.if-len-lines.false, c.len.ensures.value, ap length c.lines.ensures.value) in
    rw c.as_slice.ensures.value (are_named c.in_ok-names.names lines c.args.gathered.now.reports.items same c.lines.ensures.chart.numbered c.requires.reports)
