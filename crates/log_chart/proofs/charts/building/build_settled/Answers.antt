use Rattle.std.proofs.Common.{◌≡◌, None, sym, ap, ap₂, length, subst, ◌∙◌, arith}
use Rattle.std.specs.Prelude.{All}
use Rattle.chart.specs.Charts.{chart_lines, IsChart, IsPossible}
use Rattle.log_chart.specs.HostLines.{host_lines}
use Rattle.log_chart.specs.Charts.ChartLines.{AreNamed, chart_from, first_full}
use Rattle.log_chart.specs.Charts.Listing.{is_one_ended, lost_of, overtakings_of, all_invented}
use Rattle.log_chart.proofs.ChartsLemmas.ChartLemmas.{is_chart, is_possible}
use Rattle.log_chart.proofs.ChartsLemmas.ItemLemmas.{hosts_named, hosts_count}
use Rattle.log_chart.proofs.ChartsLemmas.WalkLemmas.{short_all}
use Rattle.log_chart.proofs.charts.building.build_settled.Goals as goal

pub first_full-requires : goal.first_full-requires
first_full-requires c =
    let whole = ap length (c.as_slice-lines.ensures.value ∙ c.in_ok-built.ensures.lines) ∙ hosts_count c.args.hosts c.args.log.now in
    omega (arith, whole, c.requires.hosts)

pub chart_of-requires-clause-count : goal.chart_of-requires-clause-count
chart_of-requires-clause-count c =
    let whole = ap length (c.as_slice-lines.ensures.value ∙ c.in_ok-built.ensures.lines) ∙ hosts_count c.args.hosts c.args.log.now in
    omega (arith, whole, c.requires.hosts)

pub chart_of-requires-clause-named : goal.chart_of-requires-clause-named
chart_of-requires-clause-named c = subst (All (AreNamed (length c.args.log.now))) (sym (c.as_slice-lines.ensures.value ∙ c.in_ok-built.ensures.lines)) (hosts_named c.args.hosts c.args.log.now)

pub chart_of-requires-clause-chart : goal.chart_of-requires-clause-chart
chart_of-requires-clause-chart c =
    let lines = c.as_slice-lines.ensures.value ∙ c.in_ok-built.ensures.lines in
    let none : first_full 1 (host_lines c.args.hosts c.args.log.now) ≡ None = sym (ap (first_full 1) lines) ∙ sym c.first_full.ensures ∙ c.in_default.is in
    subst (λ l. IsChart (chart_from c.args.log.now 1 l)) (sym lines) (is_chart c.args.hosts c.args.log.now c.requires.among c.requires.lanes c.requires.several c.requires.hosts none)

pub invented_sends-requires-clause-count : goal.invented_sends-requires-clause-count
invented_sends-requires-clause-count c =
    let whole = ap length (c.as_slice-lines.ensures.value ∙ c.in_ok-built.ensures.lines) ∙ hosts_count c.args.hosts c.args.log.now in
    omega (arith, whole, c.requires.hosts)

pub invented_sends-requires-clause-short : goal.invented_sends-requires-clause-short
invented_sends-requires-clause-short c = short_all 1 c.as_slice-lines.result.now (sym c.first_full.ensures ∙ c.in_default.is)

pub returns : goal.returns
returns c =
    let lines = c.as_slice-lines.ensures.value ∙ c.in_ok-built.ensures.lines in
    let none : first_full 1 (host_lines c.args.hosts c.args.log.now) ≡ None = sym (ap (first_full 1) lines) ∙ sym c.first_full.ensures ∙ c.in_default.is in
    let chart = c.in_ok-chart_of.ensures ∙ ap (chart_from c.args.log.now 1) lines in
    record {
      built = record {
        chart = chart;
        lost = c.in_ok-lost_places.ensures ∙ ap₂ lost_of (c.deref.ensures.value ∙ c.in_ok-built.ensures.matched) (c.deref-2.ensures.value ∙ c.in_ok-built.ensures.fates);
        overtaking = c.in_ok-overtakings.ensures ∙ ap₂ (overtakings_of c.args.log.now) (c.deref-3.ensures.value ∙ c.in_ok-built.ensures.matched) (c.deref-4.ensures.value ∙ c.in_ok-built.ensures.fates);
        invented = c.in_ok-invented_sends.ensures ∙ ap (all_invented 1) lines;
        freed = c.in_ok-freed_places.ensures;
        one_ended = c.is_one_ended.ensures ∙ ap (λ lines. is_one_ended lines c.args.log.now) (c.deref-5.ensures.value ∙ c.in_ok-built.ensures.matched);
      };
      possible =
          subst (λ l. IsPossible (length l) (chart_lines l)) (sym chart)
          (is_possible c.args.hosts c.args.log.now c.requires.among c.requires.lanes c.requires.settled c.requires.several c.requires.hosts none);
      short = none;
      refused = tt;
    }
