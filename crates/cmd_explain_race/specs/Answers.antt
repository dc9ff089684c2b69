-- The text on standard error.
use Rattle.std.specs.Prelude.{ℕ, Bool, true, false, List, ◌++◌, Option, None, Some, codes, Result}
use Rattle.cmd_base.specs.Answers.{Exit, exit_of}
use Rattle.cmd_base.specs.NotDone.{not_done_diagnostic, not_done_text}
use Rattle.cmd_base.specs.Refusals as refusals
use Rattle.cmd_base.specs.declared.not_done.NotDone.{NotDone}
use Rattle.cmd_base.specs.declared.pairs.error.PairError.{PairError}
use Rattle.cmd_base.specs.Pairs.Answers.{error_exit}
use Rattle.cmd_base.specs.Pairs.SayingText.{hidden_text}
use Rattle.cmd_explain_race.specs.declared.verdict.Verdict.{Verdict}
use Rattle.cmd_explain_race.specs.declared.verdict.Verdict.TheVariants.{Enforced, Race, Hidden}
use Rattle.cmd_explain_race.specs.declared.verdict.Explained.{Explained}
use Rattle.cmd_explain_race.specs.declared.verdict.Witnessed.{Witnessed}
use Rattle.cmd_explain_race.specs.Verdicts.{code_of}

-- the line about a coregion that hides an explained pair
abbrev pub diagnostics_of : Verdict → Option (List ℕ)
diagnostics_of Enforced = None
diagnostics_of Race = None
diagnostics_of Hidden = Some hidden_text

unfoldable pub closes_text : List ℕ
closes_text = codes "closes are left out\n"

unfoldable pub enforced_text : List ℕ
enforced_text = codes "enforced: each run has the two in this order\n"

-- the line about a schedule's closes, if it has some
abbrev pub closes_diagnostics : Bool → Option (List ℕ)
closes_diagnostics true = Some closes_text
closes_diagnostics false = None

-- the same, and the line about a coregion that hides the pair
abbrev pub hidden_diagnostics : Bool → Option (List ℕ)
hidden_diagnostics true = Some (closes_text ++ hidden_text)
hidden_diagnostics false = Some hidden_text

-- the lines that come with a witness, or replace it
abbrev pub witness_diagnostics : Bool → Verdict → Option (List ℕ)
witness_diagnostics has_closes Enforced = Some enforced_text
witness_diagnostics has_closes Race = closes_diagnostics has_closes
witness_diagnostics has_closes Hidden = hidden_diagnostics has_closes

-- the exit status and text of a pair that was explained
abbrev pub verdict_exit : Verdict → Exit
verdict_exit verdict = record { status = code_of verdict; diagnostics = diagnostics_of verdict }

-- the exit status and text of a search for a witness
abbrev pub witnessed_exit : Witnessed → Exit
witnessed_exit witnessed =
    record { status = code_of witnessed.verdict; diagnostics = witness_diagnostics witnessed.has_closes witnessed.verdict }

-- the lines about a coregion that hides the pair, and about a schedule's commands that did nothing
abbrev pub explained_diagnostics : Verdict → Option NotDone → Option (List ℕ)
explained_diagnostics Enforced them = not_done_diagnostic them
explained_diagnostics Race them = not_done_diagnostic them
explained_diagnostics Hidden None = Some hidden_text
explained_diagnostics Hidden (Some them) = Some (hidden_text ++ not_done_text them)

-- the exit status and text of a pair of a file that was explained
abbrev pub explained_exit : Explained → Exit
explained_exit explained =
    record { status = code_of explained.verdict; diagnostics = explained_diagnostics explained.verdict explained.not_done }

abbrev pub why_file_exit : Result Explained PairError → Exit
why_file_exit = exit_of explained_exit error_exit

abbrev pub why_exit : Result Verdict PairError → Exit
why_exit = exit_of verdict_exit error_exit

abbrev pub witness_exit : Result Witnessed PairError → Exit
witness_exit = exit_of witnessed_exit error_exit
