-- The results of `mscview why`, `mscview witness` and `mscview mend` that are written into memory.
use Rattle.std.specs.Prelude.{◌≡◌, ◌≢◌, ℕ, List, [], codes, Some, None}
use Rattle.cmd_base.specs.Answers.{Answers}
use Rattle.cmd_mend.specs.Answers.{mend_exit}
use Rattle.cmd_mend.specs.Showing.{ShowsText}
use Rattle.cmd_mend.specs.declared.showing.Detail.TheVariants.{Full}
use Rattle.texts.specs.Outs.{Sink, Stored}
use Rattle.cmd_explain_race.specs.Answers.{why_exit, witness_exit}
use Rattle.cmd_explain_race.specs.FilePairs.{Whys}
use Rattle.cmd_explain_race.specs.Witnessing.{Witnesses}
use Rattle.cmd_base.specs.declared.pairs.pair.Asked.{Asked}
use Rattle.cmd_page.specs.declared.answers.left.Left.{Left}

-- a text in memory as an output
abbrev pub memory : Stored → Sink
memory out = record { contents = Some out.bytes; failures = out.failures }

-- no text yet
abbrev pub none : Stored
none = record { bytes = []; failures = 0 }

-- the line of a command that ran out of memory
abbrev pub out_of_memory : List ℕ
out_of_memory = codes "refused: F6 Memory\n"

-- no put failed, and the command didn't report that memory ran out
pub record IsWhole (left : Left) : Type 0 where
  pub out : left.out.failures ≡ 0
  pub err : left.err.failures ≡ 0
  pub told : left.err.bytes ≢ out_of_memory

-- this is the result of `why` for two events
pub record IsWhy (bytes : List ℕ) (asked : Asked) (left : Left) : Type 0 where
  pub answers : Answers (Whys memory none left.out bytes asked) why_exit memory none left.err left.status
  pub whole : IsWhole left

-- this is the result of `witness`
pub record IsWitness (bytes : List ℕ) (asked : Asked) (left : Left) : Type 0 where
  pub answers : Answers (Witnesses memory none left.out bytes asked) witness_exit memory none left.err left.status
  pub whole : IsWhole left

-- this is the result of `mend`, without a given name and for each range of races that goes, stays or comes
pub record IsMend (bytes : List ℕ) (asked : Asked) (left : Left) : Type 0 where
  pub answers : Answers (ShowsText memory none left.out (record { asked = asked; name = None; detail = Full }) bytes) mend_exit memory none left.err left.status
  pub whole : IsWhole left
