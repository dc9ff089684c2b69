-- The diagnostics of a comparison.
use Rattle.std.specs.Prelude.{ℕ, List, None, codes, Result}
use Rattle.cmd_base.specs.Answers.{Exit, refusal, exit_of}
use Rattle.cmd_base.specs.Refusals as refusals
use Rattle.cmd_base.specs.Named.NamedRefusals.{named_text}
use Rattle.cmd_compare.specs.declared.error.CompareError.{CompareError}
use Rattle.cmd_compare.specs.declared.error.CompareError.TheVariants.{Program, OtherInstances}
use Rattle.cmd_compare.specs.declared.showing.Found.{Found}
use Rattle.cmd_compare.specs.declared.showing.Found.TheVariants.{Same, Reordered}

-- the line of a refusal
abbrev pub refusal_text : CompareError → List ℕ
refusal_text (Program cause) = refusals.refusal_text cause
refusal_text (OtherInstances name) = named_text (codes "F40 OtherInstances") name None

abbrev pub error_exit : CompareError → Exit
error_exit error = refusal (refusal_text error)

-- 1 if a pair is in opposite orders, and otherwise 0
abbrev pub status_of : Found → ℕ
status_of Same = 0
status_of Reordered = 1

abbrev pub found_exit : Found → Exit
found_exit found = record { status = status_of found; diagnostics = None }

abbrev pub compare_exit : Result Found CompareError → Exit
compare_exit = exit_of found_exit error_exit
