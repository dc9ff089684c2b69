use Rattle.std.proofs.Common.{map}
use Rattle.race_verdicts.proofs.LuckLemmas.TakingLemmas.{AreUnfit}
use Rattle.race_verdicts.specs.Recordings.{taken_view, words_view}
use Rattle.race_verdicts.proofs.luck.taking.any_fits.Given as goal

abbrev pub invariant-loop-place : goal.invariant-loop-place
invariant-loop-place l = AreUnfit (map taken_view l.taken) l.line (words_view l.words) l.place
