-- Files that aren't schedules.
use Rattle.std.proofs.Common.{◌≡◌, ◌≢◌, ℕ, Bool, true, false, ◌||◌, cond, List, refl}
use Rattle.diagram_import.specs.Importing.{behind_mark}
use Rattle.cmd_explain_file.specs.Kinds.{begins_chart, detected_kind, kind_by}
use Rattle.cmd_explain_file.specs.declared.kind.Kind.{Kind}
use Rattle.cmd_explain_file.specs.declared.kind.Kind.TheVariants.{Schedule}
use Rattle.cmd_base.specs.Contents.{is_schedule}
use Rattle.diagram_tool.specs.Detection.Detection.{detected_tool}

first_is_not : (a b : Bool) (k : Kind) → (cond (a || b) Schedule k ≢ Schedule) → a ≡ false
first_is_not true b k h = absurd (h refl)
first_is_not false b k h = refl

-- a text of another kind doesn't begin with a schedule's first word
pub no_schedule : (text exact : List ℕ) → kind_by text exact ≢ Schedule → is_schedule text ≡ false
unfolding kind_by
no_schedule text exact h = first_is_not (is_schedule text) (is_schedule exact) (detected_kind (begins_chart text) (detected_tool (behind_mark text))) h
