use Rattle.std.proofs.Common.{[], ◌∷◌, map, sym, ap, ◌∙◌, subst, inl, inr}
use Rattle.std.proofs.lemmas.List.{map-append}
use Rattle.std.proofs.lemmas.Option.{slice_get-get_or}
use Rattle.mscview_requests.specs.Words.Joins.{IsJoin, join_word_view}
use Rattle.mscview_requests.specs.Words.Words.{AreRead}
use Rattle.mscview_requests.proofs.WordsLemmas.ReadLemmas.{read_next, never_read, refused_so}
use Rattle.mscview_requests.proofs.words.joins.join_words.Goals as goal

pub returns-in_err-join : goal.returns-in_err-join
returns-in_err-join c = refused_so c.from_residual.result (λ joins. map join_word_view joins.items) (AreRead IsJoin (map (λ w. w.now) c.args.words.now)) _ c.from_residual.ensures.1
    (elim c.in_err-join.ensures [
      | inl memory ↦ inl memory
      | inr none ↦ inr (
        none.0,
        never_read (λ w. w.now) IsJoin c.args.words.now c.loop-word.word-index _ (slice_get-get_or c.args.words.now c.loop-word.word-index _ c.loop-word-test.true)
            (λ value its. none.1 value (subst (λ w. IsJoin w value) (sym c.as_bytes.ensures.value) its)),
      )
    ])

pub loop-word-preserved : goal.loop-word-preserved
loop-word-preserved c = read_next (λ w. w.now) IsJoin c.args.words.now (map join_word_view c.loop-word.joins.items) (map join_word_view c.push.new.self.items) c.loop-word.word-index _ (join_word_view c.in_ok-join.join) c.loop-word.invariant
    (slice_get-get_or c.args.words.now c.loop-word.word-index _ c.loop-word-test.true) (subst (λ w. IsJoin w (join_word_view c.in_ok-join.join)) c.as_bytes.ensures.value c.in_ok-join.ensures)
    (ap (map join_word_view) c.in-Ok.ensures.items ∙ map-append join_word_view c.loop-word.joins.items (c.in_ok-join.join ∷ []))
