use Rattle.std.proofs.Common.{◌<◌, ◌^◌, refl, sym, subst, arith}
use Rattle.chart.specs.Charts.{chart_lines}
use Rattle.chart.specs.Places.{IsEvent}
use Rattle.chart.specs.declared.instance.EventNo.{EventNo}
use Rattle.closure.specs.Faults.{place_of}
use Rattle.race_verdicts.specs.declared.verdict.Verdict.{Verdict}
use Rattle.races_text.specs.Judged.PartsLeft.{IsFirstPart}
use Rattle.races_text.proofs.JudgedLemmas.NextParts.{first_of_range}
use Rattle.races_text.proofs.JudgedLemmas.PartLemmas.{one_is}
use Rattle.cmd_races.specs.Schedules.Verdicts.{IsVerdict}
use Rattle.cmd_races.proofs.schedules.verdicts.MakersVerdicts.verdict_of_first.Goals as goal

pub verdict_of-verdict-requires : goal.verdict_of-verdict-requires
verdict_of-verdict-requires c =
    let race : EventNo → Type 0 = λ e. IsEvent (chart_lines c.args.self.now.lines) (place_of e) in
    first_of_range race c.args.earlier.now c.requires.range.some c.requires.races

pub returns : goal.returns
returns c =
    let is : EventNo → Verdict → Type 0 = λ e verdict. IsVerdict c.args.self.now (place_of c.args.receive.now) (place_of e) verdict in
    let earlier = c.args.earlier.now in
    let some = c.requires.range.some in
    let short = c.requires.range.within in
    let within : earlier.first.index < 2 ^ 32 = omega (arith, some, short) in
    subst (IsFirstPart is earlier) (sym c.of.ensures) (record { holds = one_is is earlier.first c.verdict_of-verdict.result c.verdict_of-verdict.ensures within; begins = refl; within = omega (arith, some) })
