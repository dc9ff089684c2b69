-- The text on standard error.
use Rattle.std.specs.Prelude.{ℕ, List, None, Some, codes}
use Rattle.cmd_base.specs.Answers.{Exit, refusal}
use Rattle.cmd_base.specs.Refusals as refusals
use Rattle.cmd_base.specs.Named.NamedRefusals.{missing_text}
use Rattle.cmd_base.specs.declared.pairs.error.PairError.{PairError}
use Rattle.cmd_base.specs.declared.pairs.error.PairError.TheVariants.{Program, NoSuchEvent, NotEarlier, NotAReceive, ManySlots}

-- the line of a refusal
abbrev pub refusal_text : PairError → List ℕ
refusal_text (Program cause) = refusals.refusal_text cause
refusal_text (NoSuchEvent missing) = missing_text missing
refusal_text NotEarlier = refusals.labelled_text (codes "F32 NotAPair") None
refusal_text (NotAReceive receive) = refusals.labelled_text (codes "F32 NotAPair") (Some receive)
refusal_text (ManySlots slots) = refusals.labelled_text (codes "F33 ManySlots") (Some slots)

-- the exit status and text of a refusal
abbrev pub error_exit : PairError → Exit
error_exit error = refusal (refusal_text error)
