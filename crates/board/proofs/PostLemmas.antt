-- A post before and after a call.
use Rattle.std.proofs.Common.{◌≡◌, ◌≢◌, ℕ, suc, ◌<◌, inl, inr, ◌⊎◌, zero, List, [], ◌∷◌, length, set, refl, sym, ap, ◌∙◌, subst, arith}
use Rattle.std.proofs.lemmas.List.{length-set}
use Rattle.std.specs.Prelude.{slice_get, None, Some}
use Rattle.chart.specs.declared.history.Occurrence.{Occurrence}
use Rattle.chart.specs.Messages.{Content}
use Rattle.chart.specs.Events.{MayHaveRegion}
use Rattle.chart.specs.Histories.{own}
use Rattle.line_recorder.specs.Recorders.{RecorderView}
use Rattle.line_recorder.specs.Recording.{IsRecorder}
use Rattle.board_table.specs.Knowing.{Mine, held, Rests}
use Rattle.board.specs.declared.ends.Outgoing.{Outgoing}
use Rattle.board.specs.declared.ends.Incoming.{Incoming}
use Rattle.board.specs.Known.{IsOutgoing, AreEndsBut, AreEnds, Knowledge, IsPost, Did}
use Rattle.board.specs.Sending.{sends_of}
use Rattle.board.proofs.EndLemmas.{ends_later, ends_but}
use Rattle.board.proofs.OneSend.{saw_same, line_saw}
use Rattle.board.proofs.SeveralSends.{sends_after, sends_are, ends_sends}

abbrev pub knowledge : RecorderView → ℕ → List Outgoing → List Incoming → Knowledge
knowledge recorder region outgoing incoming = record { recorder = recorder; region = region; outgoing = outgoing; incoming = incoming }

-- an element of a list after one was put into it is this one, or another that was there before
pub at_set : {X : Type 0} (xs : List X) (j i : ℕ) (e o : X) → slice_get (set xs j e) i ≡ Some o → ((i ≡ j) × (e ≡ o)) ⊎ ((i ≢ j) × (slice_get xs i ≡ Some o))
at_set [] j i e o at_i = absurd (none_there at_i)
  where
    none_there : None ≡ Some o → ⊥
    none_there never = cc
at_set (x ∷ xs) zero zero e o at_i = inl (refl, cc)
at_set (x ∷ xs) zero (suc i) e o at_i = inr ((λ same. cc), at_i)
at_set (x ∷ xs) (suc j) zero e o at_i = inr ((λ same. cc), at_i)
at_set (x ∷ xs) (suc j) (suc i) e o at_i = go (at_set xs j i e o at_i)
  where
    go : ((i ≡ j) × (e ≡ o)) ⊎ ((i ≢ j) × (slice_get xs i ≡ Some o)) → ((suc i ≡ suc j) × (e ≡ o)) ⊎ ((suc i ≢ suc j) × (slice_get xs i ≡ Some o))
    go (inl (here, same)) = inl (ap suc here, same)
    go (inr (ne, there)) = inr ((λ same. ne (omega arith)), there)

-- an end is put at its place
pub with_outgoing : (n : ℕ) (h : List Occurrence) (p j : ℕ) (e : Outgoing) (outgoing : List Outgoing) (incoming : List Incoming) → j < length outgoing → AreEndsBut n h p (suc j) 0 outgoing incoming → IsOutgoing n h p (suc j) e → AreEnds n h p (set outgoing j e) incoming
with_outgoing n h p j e outgoing incoming within old its = record {
  as_many = length-set outgoing j e ∙ old.as_many;
  of_each = old.of_each;
  sends = λ i o ne other at_i. go i o ne (at_set outgoing j i e o at_i);
  takes = old.takes;
}
  where
    go : (i : ℕ) (o : Outgoing) → suc i ≢ p → ((i ≡ j) × (e ≡ o)) ⊎ ((i ≢ j) × (slice_get outgoing i ≡ Some o)) → IsOutgoing n h p (suc i) o
    go i o ne (inl (here, same)) = subst (λ (x : ℕ). IsOutgoing n h p (suc x) o) (sym here) (subst (λ (x : Outgoing). IsOutgoing n h p (suc j) x) same its)
    go i o ne (inr (other, there)) = old.sends i o ne (λ same. other (omega arith)) there

module _ (m w : Mine) (n k p : ℕ) (r u : RecorderView) (region : ℕ) (outgoing : List Outgoing) (incoming : List Incoming) (post : IsPost m n k p (knowledge r region outgoing incoming)) (rests : Rests n k p w) (recorder : IsRecorder n (held w).seen p u) (j : ℕ) (e : Outgoing) (within : j < length outgoing) (end : IsOutgoing n (held w).seen p (suc j) e) where
  -- the call that changed this end only saw, and made nothing
  pub post_saw : Did n k p (held m) (held w) (held w).seen [] → IsPost w n k p (knowledge u region (set outgoing j e) incoming)
  post_saw did =
      let same = saw_same n k p (held m) (held w) post.knows.legal post.made did in
      let line = line_saw n k p (held m) (held w) post.knows.legal post.made did in
      let others = ends_later n k (held m).seen (held w).seen p (suc j) 0 outgoing incoming post.knows.legal did.later same (ends_but n (held m).seen p (suc j) 0 outgoing incoming post.knows.ends) in
      record {
        sized = post.sized;
        least = post.least;
        most = post.most;
        rests = rests;
        knows = record {
          legal = did.legal;
          own = record { recorder = recorder; region_fits = subst (λ l. MayHaveRegion l region) (sym line) post.knows.own.region_fits };
          ends = with_outgoing n (held w).seen p j e outgoing incoming within others end;
        };
        made = did.own;
      }

  -- the call sent these messages
  pub post_sends : (before : List Occurrence) (ms : List Content) → region ≡ 0 → Did n k p (held m) (held w) before (sends_of p (suc j) ms) → IsPost w n k p (knowledge u region (set outgoing j e) incoming)
  post_sends before ms outside did =
      let same : own before p ≡ own (held m).seen p = did.own_before ∙ sym post.made in
      let seen : (held w).seen ≡ sends_after p (suc j) ms before = did.seen ∙ sym (sends_are p (suc j) ms before) in
      let others = ends_later n k (held m).seen before p (suc j) 0 outgoing incoming post.knows.legal did.later same (ends_but n (held m).seen p (suc j) 0 outgoing incoming post.knows.ends) in
      let now : AreEndsBut n (held w).seen p (suc j) 0 outgoing incoming = subst (λ h. AreEndsBut n h p (suc j) 0 outgoing incoming) (sym seen) (ends_sends n p (suc j) 0 ms before outgoing incoming others) in
      record {
        sized = post.sized;
        least = post.least;
        most = post.most;
        rests = rests;
        knows = record {
          legal = did.legal;
          own = record { recorder = recorder; region_fits = inl outside };
          ends = with_outgoing n (held w).seen p j e outgoing incoming within now end;
        };
        made = did.own;
      }
