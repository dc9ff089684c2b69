use Rattle.std.proofs.Common.{[], ◌∷◌, map, sym, ap, ◌∙◌, subst, inl, inr}
use Rattle.std.proofs.lemmas.List.{map-append}
use Rattle.std.proofs.lemmas.Option.{slice_get-get_or}
use Rattle.mscview_requests.specs.Words.Hosts.{IsPeer, peer_word_view}
use Rattle.mscview_requests.specs.Words.Words.{AreRead}
use Rattle.mscview_requests.proofs.WordsLemmas.ReadLemmas.{read_next, never_read, refused_so}
use Rattle.mscview_requests.proofs.words.hosts.peer_words.Goals as goal

pub returns-in_err-peer : goal.returns-in_err-peer
returns-in_err-peer c = refused_so c.from_residual.result (λ peers. map peer_word_view peers.items) (AreRead IsPeer (map (λ w. w.now) c.args.words.now)) _ c.from_residual.ensures.1
    (elim c.in_err-peer.ensures [
      | inl memory ↦ inl memory
      | inr none ↦ inr (
        none.0,
        never_read (λ w. w.now) IsPeer c.args.words.now c.loop-word.word-index _ (slice_get-get_or c.args.words.now c.loop-word.word-index _ c.loop-word-test.true)
            (λ value its. none.1 value (subst (λ w. IsPeer w value) (sym c.as_bytes.ensures.value) its)),
      )
    ])

pub loop-word-preserved : goal.loop-word-preserved
loop-word-preserved c = read_next (λ w. w.now) IsPeer c.args.words.now (map peer_word_view c.loop-word.peers.items) (map peer_word_view c.push.new.self.items) c.loop-word.word-index _ (peer_word_view c.in_ok-peer.peer) c.loop-word.invariant
    (slice_get-get_or c.args.words.now c.loop-word.word-index _ c.loop-word-test.true) (subst (λ w. IsPeer w (peer_word_view c.in_ok-peer.peer)) c.as_bytes.ensures.value c.in_ok-peer.ensures)
    (ap (map peer_word_view) c.in-Ok.ensures.items ∙ map-append peer_word_view c.loop-word.peers.items (c.in_ok-peer.peer ∷ []))
