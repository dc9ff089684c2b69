-- The exit status for the verdict on a pair of events.
use Rattle.std.specs.Prelude.{ℕ, Bool, if◌then◌else◌}
use Rattle.cmd_explain_race.specs.declared.verdict.Verdict.{Verdict}
use Rattle.cmd_explain_race.specs.declared.verdict.Verdict.TheVariants.{Enforced, Race, Hidden}

-- the verdict on a pair that isn't enforced, by whether both events are in one coregion
abbrev pub verdict_in : Bool → Verdict
verdict_in hidden = if hidden then Hidden else Race

-- 0 if the pair is enforced, and 1 if it isn't
abbrev pub code_of : Verdict → ℕ
code_of Enforced = 0
code_of Race = 1
code_of Hidden = 1
