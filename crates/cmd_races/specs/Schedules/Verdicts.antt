-- The verdicts on the races of a schedule (this project's profile of schedules). A race is by `any` if its earlier
-- receive is of a command `any`, and no other message of the later one's sender comes between. Whether some run of the
-- schedule's commands has the other order isn't decided, so no race of a schedule is luck. Any other race has the first
-- reason that applies.
use Rattle.std.specs.Prelude.{ℕ, ◌<◌}
use Rattle.chart.specs.Charts.{Chart, Place, at, chart_lines, IsSendTo, IsReceiveFrom}
use Rattle.race_verdicts.specs.declared.verdict.Verdict.{Verdict}
use Rattle.race_verdicts.specs.declared.verdict.Verdict.TheVariants.{Luck, EarlierIsSend, BegunInTheMiddle, OrderedByLeftOut, WouldNotTake, PassedOver, BehindAnother, Any}
use Rattle.cmd_races.specs.Schedules.Makers.{RunView, IsReceive, NamesSender}

-- another receive from the sender of the receive r is between e and r on their line: its message was sent before r's
pub record IsBehind (c : Chart) (r e : Place) : Type 0 where
  pub sender : ℕ
  pub receive : IsReceiveFrom c sender r
  pub index : ℕ
  pub other : IsReceiveFrom c sender (at r.instance index)
  pub behind_earlier : e.index < index
  pub before_receive : index < r.index

-- the receive e is of a command that receives from any instance
abbrev pub TakesAny : RunView → Place → Type 0
TakesAny run e = IsReceive (chart_lines run.lines e.instance) e.index × (NamesSender run e → ⊥)

-- the verdict on the receive r and an earlier event e of its line. In a schedule nothing is begun in the middle,
-- skipped or passed over, and luck isn't decided
abbrev pub IsVerdict : RunView → Place → Place → Verdict → Type 0
IsVerdict run r e EarlierIsSend = (q : ℕ) × IsSendTo (chart_lines run.lines) q e
IsVerdict run r e BegunInTheMiddle = ⊥
IsVerdict run r e OrderedByLeftOut = ⊥
IsVerdict run r e WouldNotTake = NamesSender run e
IsVerdict run r e PassedOver = ⊥
IsVerdict run r e BehindAnother = TakesAny run e × IsBehind (chart_lines run.lines) r e
IsVerdict run r e Luck = ⊥
IsVerdict run r e Any = TakesAny run e × (IsBehind (chart_lines run.lines) r e → ⊥)
