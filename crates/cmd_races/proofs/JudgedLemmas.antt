-- Nothing is written if races with words are refused.
use Rattle.std.proofs.Common.{◌≡◌, ℕ, ◌⊎◌, inl, inr, List, Err, refl}
use Rattle.chart.specs.declared.instance.EventNo.{EventNo}
use Rattle.cmd_base.specs.declared.error.ProgramError.{ProgramError}
use Rattle.cmd_base.specs.declared.error.ProgramError.TheVariants.{Usage, File, Memory, Text, ReceiveWithoutSend, NameMismatch, Cyclic, Write}
use Rattle.cmd_base.specs.Contents.{Named, IsRefused}
use Rattle.texts.specs.Outs.{Sink}
use Rattle.cmd_base.specs.declared.columns.error.ColumnError.{ColumnError}
use Rattle.cmd_base.specs.declared.columns.error.ColumnError.TheVariants.{Program, NoSuchName}
use Rattle.cmd_base.specs.Columns.Columns.{AreColumns, RefusesColumns, only_of}
use Rattle.cmd_races.specs.declared.judging.LuckWanted.{LuckWanted}
use Rattle.cmd_races.specs.Judging.{ShowsJudged}
use Rattle.cmd_races.proofs.RefusedLemmas.{not_shown}
use Rattle.race_verdicts.specs.declared.verdict.Verdict.{Verdict}

module _ {S : Type 0} (sink : S → Sink) (is : EventNo → EventNo → Verdict → Type 0) (old : S) (named : Named) (wanted : LuckWanted) where
  -- no such instances
  pub unnamed : (error : ColumnError) → RefusesColumns named.0 (only_of wanted.races.only) error → ShowsJudged sink is old old (Err error) wanted named
  unnamed NoSuchName none = (none, refl)
  unnamed (Program Memory) why = refl
  unnamed (Program Usage) why = absurd why
  unnamed (Program File) why = absurd why
  unnamed (Program (Text fault)) why = absurd why
  unnamed (Program (ReceiveWithoutSend p index)) why = absurd why
  unnamed (Program (NameMismatch p index)) why = absurd why
  unnamed (Program Cyclic) why = absurd why
  unnamed (Program Write) why = absurd why

  -- a chart that no run has
  pub not_judged : (instances : List ℕ) → AreColumns named.0 (only_of wanted.races.only) instances → (error : ProgramError) → (error ≡ Memory) ⊎ IsRefused error named
      → ShowsJudged sink is old old (Err (Program error)) wanted named
  not_judged instances are Memory why = not_shown sink old named wanted.races instances are Memory why
  not_judged instances are Usage why = not_shown sink old named wanted.races instances are Usage why
  not_judged instances are File why = not_shown sink old named wanted.races instances are File why
  not_judged instances are (Text fault) why = not_shown sink old named wanted.races instances are (Text fault) why
  not_judged instances are (ReceiveWithoutSend p index) why = not_shown sink old named wanted.races instances are (ReceiveWithoutSend p index) why
  not_judged instances are (NameMismatch p index) why = not_shown sink old named wanted.races instances are (NameMismatch p index) why
  not_judged instances are Cyclic why = not_shown sink old named wanted.races instances are Cyclic why
  not_judged instances are Write (inl is_memory) = cc
  not_judged instances are Write (inr refused) = absurd refused
