-- The warnings about a log's chart, and whether no race is claimed.
use Rattle.std.specs.Prelude.{ℕ, Bool, List, [], ◌++◌, codes, if◌then◌else◌}
use Rattle.cmd_import_log.specs.Answers.Diagnostics.{diagnostics_text}
use Rattle.cmd_import_log.specs.declared.answers.diagnostics.Diagnostics.{Diagnostics}

unfoldable pub unclaimed_note : List ℕ
unclaimed_note = codes "no race is claimed: each is begun in the middle\n"

-- the note, if there are races and none is claimed
abbrev pub unclaimed_text : Bool → List ℕ
unclaimed_text is_unclaimed = if is_unclaimed then unclaimed_note else []

-- all warnings, and then the note. `files` has the names of several files, and is empty for one
unfoldable pub claims_text : List (List ℕ) → Diagnostics → Bool → List ℕ
claims_text files t is_unclaimed = diagnostics_text files t ++ unclaimed_text is_unclaimed
