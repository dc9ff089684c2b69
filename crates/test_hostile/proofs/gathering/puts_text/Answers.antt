use Rattle.std.proofs.Common.{◌≡◌, length, ap, arith}
use Rattle.msc_text.proofs.NamedReports.{are_named}
use Rattle.test_hostile.proofs.gathering.puts_text.Goals as goal

pub add_races-races-requires : goal.add_races-races-requires
add_races-races-requires g c =
    let lines = c.args.gathered.now.chart in
    let same : length c.args.names.now ≡ length lines = omega (arith, c.if-assert.false, c.len.ensures.value, ap length c.lines.ensures.value) in
    rw c.as_slice.ensures.value (are_named c.args.names.now lines c.args.gathered.now.reports.items same c.lines.ensures.chart.numbered c.requires)
