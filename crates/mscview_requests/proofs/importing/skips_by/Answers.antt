use Rattle.std.proofs.Common.{map, inr}
use Rattle.std.proofs.lemmas.Option.{slice_get-get_or}
use Rattle.mscview_requests.proofs.WordsLemmas.ReadLemmas.{read_next, never_read, refused_so}
use Rattle.mscview_requests.specs.Words.Words.{AreRead}
use Rattle.mscview_requests.specs.Readings.{skips_of}
use Rattle.mscview_requests.specs.Wanted.{IsSkip}
use Rattle.mscview_requests.proofs.importing.skips_by.Goals as goal

pub loop-word-preserved : goal.loop-word-preserved
loop-word-preserved c = read_next (λ w. w.now) IsSkip c.args.words.now c.loop-word.skips.items c.push.new.self.items c.loop-word.word-index _ c.in_ok-skip.skip c.loop-word.invariant
    (slice_get-get_or c.args.words.now c.loop-word.word-index _ c.loop-word-test.true) c.in_ok-skip.ensures c.in-Ok.ensures.items

pub returns-in_err-skip : goal.returns-in_err-skip
returns-in_err-skip c = refused_so c.from_residual.result skips_of (AreRead IsSkip (map (λ w. w.now) c.args.words.now)) _ c.from_residual.ensures.1
    (inr (c.in_err-skip.ensures.0, never_read (λ w. w.now) IsSkip c.args.words.now c.loop-word.word-index _ (slice_get-get_or c.args.words.now c.loop-word.word-index _ c.loop-word-test.true) c.in_err-skip.ensures.1))
