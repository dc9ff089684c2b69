use Rattle.std.proofs.Common.{◌≡◌, length, sym, ◌∙◌, subst}
use Rattle.std.specs.Prelude.{IfOk, MatchOption}
use Rattle.log_chart.specs.HostLines.{kept}
use Rattle.log_chart.specs.Cycles.Freeing.{HasNone, IsFirst}
use Rattle.log_chart.specs.Cycles.Sources.{AreLines, HaveHosts}
use Rattle.log_chart.proofs.CyclesLemmas.SettleLemmas.{kept_are, kept_among}
use Rattle.log_chart.proofs.cycles.settling.next_freed.Goals as goal

pub first_on_cycle-requires-clause-lines : goal.first_on_cycle-requires-clause-lines
first_on_cycle-requires-clause-lines c = subst (AreLines (length c.args.log.now)) (sym (c.deref.ensures.value ∙ c.in_ok-lines.ensures)) (kept_are c.args.log.now)

pub first_on_cycle-requires-clause-among : goal.first_on_cycle-requires-clause-among
first_on_cycle-requires-clause-among c = subst (HaveHosts c.args.hosts) (sym (c.deref.ensures.value ∙ c.in_ok-lines.ensures)) (kept_among c.args.hosts c.args.log.now c.requires.among)

pub returns : goal.returns
returns c =
    let same : c.deref.result.now ≡ kept c.args.log.now = c.deref.ensures.value ∙ c.in_ok-lines.ensures in
    subst (λ lines. IfOk c.first_on_cycle.result (λ found. MatchOption found (HasNone lines) (IsFirst lines))) same c.first_on_cycle.ensures
