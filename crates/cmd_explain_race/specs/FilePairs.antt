-- The explanations of pairs in the bytes of a file.
use Rattle.std.specs.Prelude.{List, ℕ, Result}
use Rattle.texts.specs.Outs.{Sink}
use Rattle.cmd_base.specs.NotDone.{IsNoted}
use Rattle.cmd_base.specs.Texts.{OfFile, named_of}
use Rattle.cmd_base.specs.declared.pairs.error.PairError.{PairError}
use Rattle.cmd_base.specs.declared.pairs.error.PairError.TheVariants.{Program}
use Rattle.cmd_base.specs.declared.pairs.pair.Asked.{Asked}
use Rattle.cmd_explain_race.specs.declared.verdict.Explained.{Explained}
use Rattle.cmd_explain_race.specs.declared.verdict.Verdict.{Verdict}
use Rattle.cmd_explain_race.specs.Explaining.{Explains}

-- the two events of the chart in the bytes were explained; or nothing was written, if the bytes have a fault or memory
-- ran out
abbrev pub Whys : {S : Type 0} → (S → Sink) → S → S → List ℕ → Asked → Result Verdict PairError → Type 0
Whys sink old new bytes asked =
    OfFile Program (λ source done. Explains sink old new done (named_of source) asked) old new bytes

-- the same, with the commands of a schedule that did nothing
abbrev pub WhysFile : {S : Type 0} → (S → Sink) → S → S → List ℕ → Asked → Result Explained PairError → Type 0
WhysFile sink old new bytes asked = OfFile Program
    (IsNoted (λ explained. explained.verdict) (λ explained. explained.not_done) (λ source done. Explains sink old new done (named_of source) asked)) old new bytes
