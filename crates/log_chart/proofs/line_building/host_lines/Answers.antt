use Rattle.std.proofs.Common.{◌≡◌, List, length, ap, ap₂, sym, ◌∙◌, subst, arith}
use Rattle.log_chart.specs.Begun.{begun}
use Rattle.log_chart.specs.BegunTables.{AreGiven, AreNumberedBelow}
use Rattle.log_chart.specs.Fates.{staying}
use Rattle.log_chart.specs.FateTables.{AreWithin, AreNumbered}
use Rattle.log_chart.specs.HostLines.{lines_from, kept}
use Rattle.log_chart.specs.NameOrder.{by_name}
use Rattle.log_chart.specs.declared.begun.Begun.{Begun}
use Rattle.log_chart.specs.declared.matching.LogLine.{LogLine}
use Rattle.log_chart.proofs.NameOrderLemmas.{by_name_count}
use Rattle.log_chart.proofs.OrderLemmas.{are_within, are_numbered, are_given, kept_numbered}
use Rattle.log_chart.proofs.line_building.host_lines.Goals as goal

pub sift-requires-clause-sends : goal.sift-requires-clause-sends
sift-requires-clause-sends c = subst AreWithin (sym (c.deref.ensures.value ∙ c.in_ok-matched.ensures)) (are_within c.args.log.now)

pub sift-requires-clause-numbers : goal.sift-requires-clause-numbers
sift-requires-clause-numbers c = subst AreNumbered (sym (c.deref.ensures.value ∙ c.in_ok-matched.ensures)) (are_numbered c.args.log.now)

pub behind_of-requires : goal.behind_of-requires
behind_of-requires c =
    let lines = c.deref.ensures.value ∙ c.in_ok-matched.ensures in
    let stay : c.deref-2.result.now ≡ kept c.args.log.now = c.deref-2.ensures.value ∙ c.in_ok-sifted.ensures.staying ∙ ap staying lines in
    subst (AreGiven (length c.args.log.now)) (sym (c.deref-3.ensures.value ∙ c.in_ok-given.ensures ∙ ap begun stay)) (are_given c.args.log.now)

pub lines_of-requires-clause-within : goal.lines_of-requires-clause-within
lines_of-requires-clause-within c =
    let lines = c.deref.ensures.value ∙ c.in_ok-matched.ensures in
    let stay : c.deref-5.result.now ≡ kept c.args.log.now = c.deref-5.ensures.value ∙ c.in_ok-sifted.ensures.staying ∙ ap staying lines in
    subst (AreNumberedBelow (length c.in_ok-behind_sends.behind_sends.first.items)) (sym stay)
    (subst (λ n. AreNumberedBelow n (kept c.args.log.now)) (sym c.in_ok-behind_sends.ensures.lists) (kept_numbered c.args.log.now))

pub lines_of-requires-clause-count : goal.lines_of-requires-clause-count
lines_of-requires-clause-count c =
    let same = ap length (c.deref-4.ensures.value ∙ c.in_ok-hosts.ensures) in
    let whole = by_name_count c.args.count c.args.log.now in
    omega (arith, same, whole, c.requires.count)

pub returns-clause-lines : goal.returns-clause-lines
returns-clause-lines c =
    let lines = c.deref.ensures.value ∙ c.in_ok-matched.ensures in
    let hosts : c.deref-4.result.now ≡ by_name c.args.count c.args.log.now = c.deref-4.ensures.value ∙ c.in_ok-hosts.ensures in
    let first : c.deref-2.result.now ≡ kept c.args.log.now = c.deref-2.ensures.value ∙ c.in_ok-sifted.ensures.staying ∙ ap staying lines in
    let stay : c.deref-5.result.now ≡ kept c.args.log.now = c.deref-5.ensures.value ∙ c.in_ok-sifted.ensures.staying ∙ ap staying lines in
    let given : c.deref-6.result.now ≡ begun (kept c.args.log.now) = c.deref-6.ensures.value ∙ c.in_ok-given.ensures ∙ ap begun first in
    c.in_ok-lines.ensures
    ∙ ap (λ h. lines_from h c.deref-5.result.now c.deref-6.result.now 1 (length h)) hosts
    ∙ ap (λ n. lines_from (by_name c.args.count c.args.log.now) c.deref-5.result.now c.deref-6.result.now 1 n) (by_name_count c.args.count c.args.log.now)
    ∙ ap₂ (λ (s : List LogLine) (g : List Begun). lines_from (by_name c.args.count c.args.log.now) s g 1 c.args.count) stay given
