use Rattle.std.proofs.Common.{map, inr}
use Rattle.std.proofs.lemmas.Option.{slice_get-get_or}
use Rattle.mscview_requests.specs.Words.Joins.{IsName}
use Rattle.mscview_requests.specs.Words.Words.{AreRead}
use Rattle.mscview_requests.proofs.WordsLemmas.ReadLemmas.{read_next, never_read, refused_so}
use Rattle.mscview_requests.proofs.words.joins.names_in.Goals as goal

pub returns-in_err-name : goal.returns-in_err-name
returns-in_err-name c = refused_so c.from_residual.result (λ names. names.items) (AreRead IsName (map (λ w. w.now) c.args.words.now)) _ c.from_residual.ensures.1
    (inr (c.in_err-name.ensures.0, never_read (λ w. w.now) IsName c.args.words.now c.loop-word.word-index _ (slice_get-get_or c.args.words.now c.loop-word.word-index _ c.loop-word-test.true) c.in_err-name.ensures.1))

pub loop-word-preserved : goal.loop-word-preserved
loop-word-preserved c = read_next (λ w. w.now) IsName c.args.words.now c.loop-word.names.items c.push.new.self.items c.loop-word.word-index _ c.in_ok-name.name c.loop-word.invariant
    (slice_get-get_or c.args.words.now c.loop-word.word-index _ c.loop-word-test.true) c.in_ok-name.ensures c.in-Ok.ensures.items
