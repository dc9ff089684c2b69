-- A lane, closed.
use Rattle.std.proofs.Common.{◌≡◌, ℕ, suc, ◌<◌, ◌≤◌, ◌==◌, Bool, true, false, cond, List, [], ◌∷◌, ◌++◌, length, drop, set, refl, sym, ap, ◌∙◌, subst, arith, append-nil}
use Rattle.std.proofs.lemmas.Bool.{eqb-true}
use Rattle.std.proofs.lemmas.List.{length_push}
use Rattle.chart.specs.declared.history.Occurrence.{Occurrence}
use Rattle.chart.specs.declared.history.Occurrence.TheVariants.{Send, Receive, Close}
use Rattle.chart.specs.declared.line.TheConstants.{MAX_EVENTS}
use Rattle.chart.specs.Messages.{Content}
use Rattle.chart.specs.Events.{send_event, receive_event, MayHaveRegion}
use Rattle.chart.specs.Histories.{own, waiting, receive_of, chart_of, IsLegal}
use Rattle.chart.proofs.Histories.{is_closed-close}
use Rattle.line_recorder.specs.Recorders.{RecorderView}
use Rattle.line_recorder.specs.Recording.{IsRecorder}
use Rattle.line_recorder.proofs.Recording.{IsRecorder-idle}
use Rattle.board_core.proofs.OwnEvents.{same_line, same_recorder}
use Rattle.board_table.specs.Layout.{LaneView}
use Rattle.board_table.specs.Knowing.{Mine, held}
use Rattle.board_table.specs.Plays as play
use Rattle.board.specs.declared.ends.Outgoing.{Outgoing}
use Rattle.board.specs.declared.ends.Incoming.{Incoming}
use Rattle.board.specs.Known.{IsOutgoing, AreEndsBut, IsPost, Did}
use Rattle.board.proofs.EndLemmas.{ends_later, ends_closed, ends_but, outgoing_later}
use Rattle.board.proofs.DidLemmas.{did_nothing, did_move}
use Rattle.board.proofs.Claiming.{sent_within}
use Rattle.board.proofs.PostLemmas.{knowledge, with_outgoing}

-- a line has at most MAX_EVENTS events
pub line_short : (n k : ℕ) (h : List Occurrence) → IsLegal n k h → (p : ℕ) → length (chart_of h p) ≤ MAX_EVENTS
line_short n k [] legal p = omega arith
line_short n k (Send a b m ∷ h) legal p = go (a == p) refl (line_short n k h legal.1 p)
  where
    go : (mine : Bool) → (a == p) ≡ mine → length (chart_of h p) ≤ MAX_EVENTS → length (chart_of h p ++ cond mine (send_event b m.name ∷ []) []) ≤ MAX_EVENTS
    go true e before =
        let room : length (chart_of h p) < MAX_EVENTS = subst (λ x. length (chart_of h x) < MAX_EVENTS) (eqb-true a p e) legal.0.3 in
        omega (arith, length_push (chart_of h p) (send_event b m.name))
    go false e before = simp append-nil before
line_short n k (Receive a b c ∷ h) legal p = go (a == p) refl (waiting h b a) (line_short n k h legal.1 p)
  where
    go : (mine : Bool) → (a == p) ≡ mine → (ms : List Content) → length (chart_of h p) ≤ MAX_EVENTS → length (chart_of h p ++ cond mine (receive_of ms b c) []) ≤ MAX_EVENTS
    go true e [] before = simp append-nil before
    go true e (m ∷ ms) before =
        let room : length (chart_of h p) < MAX_EVENTS = subst (λ x. length (chart_of h x) < MAX_EVENTS) (eqb-true a p e) legal.0.2 in
        omega (arith, length_push (chart_of h p) (receive_event b m.name c))
    go false e ms before = simp append-nil before
line_short n k (Close a b ∷ h) legal p = simp append-nil (line_short n k h legal.1 p)

-- no more messages were put on a lane than a line may have events
pub put_few : (n k : ℕ) (h : List Occurrence) (p q : ℕ) (o : Outgoing) → IsLegal n k h → IsOutgoing n h p q o → o.put ≤ MAX_EVENTS
put_few n k h p q o legal end = let within = sent_within h p q in let short = line_short n k h legal p in omega (arith, end.put)

module _ (m w : Mine) (n k p : ℕ) (r : RecorderView) (region : ℕ) (outgoing : List Outgoing) (incoming : List Incoming) (post : IsPost m n k p (knowledge r region outgoing incoming)) (l : LaneView) (j : ℕ) (lane : l ≡ record { instances = n; capacity = k; sender = p; receiver = suc j }) (closes : play.Closes l m w) where
  abbrev before : List Occurrence
  before = drop 1 (held w).seen

  makes : play.Closes (record { instances = n; capacity = k; sender = p; receiver = suc j }) m w
  makes = subst (λ (x : LaneView). play.Closes x m w) lane closes

  pub close_did : Did n k p (held m) (held w) (drop 1 (held w).seen) (Close p (suc j) ∷ [])
  close_did = did_move n k p (held m) (held m) (held w) before (Close p (suc j) ∷ []) (λ h. Close p (suc j) ∷ h) (did_nothing n k p (held m) post.knows.legal post.made) post.rests.post.number (λ h. refl) makes.moves

  pub post_closed : (o : Outgoing) → j < length outgoing → IsOutgoing n (held m).seen p (suc j) o → IsPost w n k p (knowledge r region (set outgoing j (record o { closed = true })) incoming)
  post_closed o within end =
      let did = close_did in
      let same : own before p ≡ own (held m).seen p = did.own_before ∙ sym post.made in
      let line : chart_of (held w).seen p ≡ chart_of (held m).seen p = ap (λ h. chart_of h p) did.seen ∙ append-nil (chart_of before p) ∙ same_line n (held m).seen before did.later p same in
      let others = ends_later n k (held m).seen before p (suc j) 0 outgoing incoming post.knows.legal did.later same (ends_but n (held m).seen p (suc j) 0 outgoing incoming post.knows.ends) in
      let now : AreEndsBut n (held w).seen p (suc j) 0 outgoing incoming = subst (λ h. AreEndsBut n h p (suc j) 0 outgoing incoming) (sym did.seen) (ends_closed n before p (suc j) 0 outgoing incoming others) in
      let there = outgoing_later n (held m).seen before p (suc j) o did.later same end in
      let its : IsOutgoing n (Close p (suc j) ∷ before) p (suc j) (record o { closed = true }) = record { put = there.put; known = there.known; unsent = sym (is_closed-close before p (suc j)); base = there.base; long = there.long } in
      let recorder = same_recorder n (held m).seen before did.later k p r post.knows.legal same post.knows.own.recorder in
      let recorder_now : IsRecorder n (Close p (suc j) ∷ before) p r = IsRecorder-idle n k before (Close p (suc j) ∷ before) p r did.legal_before (Close p (suc j) ∷ [], refl) (append-nil (chart_of before p)) refl recorder in
      record {
        sized = post.sized;
        least = post.least;
        most = post.most;
        rests = makes.rests;
        knows = record {
          legal = did.legal;
          own = record { recorder = subst (λ h. IsRecorder n h p r) (sym did.seen) recorder_now; region_fits = subst (λ x. MayHaveRegion x region) (sym line) post.knows.own.region_fits };
          ends = with_outgoing n (held w).seen p j (record o { closed = true }) outgoing incoming within now (subst (λ h. IsOutgoing n h p (suc j) (record o { closed = true })) (sym did.seen) its);
        };
        made = did.own;
      }
