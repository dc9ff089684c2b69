-- Slots of a lane, claimed by its sender.
use Rattle.std.proofs.Common.{◌≡◌, ℕ, ◌+◌, ◌-◌, ◌<◌, ◌≤◌, ◌==◌, ◌&&◌, Bool, true, false, cond, List, [], ◌∷◌, ◌++◌, length, refl, sym, ap, ◌∙◌, subst, arith, length-append, append-nil}
use Rattle.std.proofs.lemmas.List.{length_push}
use Rattle.chart.specs.declared.history.Occurrence.{Occurrence}
use Rattle.chart.specs.declared.history.Occurrence.TheVariants.{Send, Receive, Close}
use Rattle.chart.specs.Events.{send_event}
use Rattle.chart.specs.Messages.{Content}
use Rattle.chart.specs.Histories.{own, sent, waiting, receive_of, chart_of, IsLegal}
use Rattle.chart.proofs.Histories.{is_lane-same, received-le, received_begins}
use Rattle.board_core.specs.Parcels.{Parcel, next_clock, goods}
use Rattle.board_core.specs.Differences.{zeros}
use Rattle.board_table.specs.Layout.{LaneView}
use Rattle.board_table.specs.Carrying.{last_clock}
use Rattle.board_table.specs.Knowing.{Mine, held, Rests, IsPost, Sees}
use Rattle.board_table.specs.Plays.{PutsBack, Claims, ClaimsAnew}
use Rattle.board.specs.declared.ends.Outgoing.{Outgoing}
use Rattle.board.specs.Known.{IsOutgoing}
use Rattle.board.specs.Parts.{HasSlots, HasNoSlots}
use Rattle.board.proofs.EndLemmas.{outgoing_later}
use Rattle.board.proofs.DidLemmas.{waiting_many}

-- no more messages are known to be taken than were put
pub known_least : (n k : ℕ) (h : List Occurrence) (p q : ℕ) (o : Outgoing) → IsLegal n k h → IsOutgoing n h p q o → o.known_taken ≤ o.put
known_least n k h p q o legal end = let few = received-le n k h legal p q in omega (arith, end.known, end.put)

-- the slots are back, so the post rests
pub rests_back : (n k p : ℕ) (m w : Mine) → IsPost n k p m → PutsBack m w → Rests n k p w
rests_back n k p m w post back = subst (λ x. Rests n k p x) (sym back) (record {
  post = record { alone = refl; instances = post.instances; capacity = post.capacity; number = post.number };
  hold = refl;
  slots = refl;
})

module _ (l : LaneView) (m w : Mine) (o : Outgoing) (many : ℕ) (legal : IsLegal l.instances l.capacity (held m).seen) (its : own (held m).seen l.sender ≡ (held m).made) (rests : Rests l.instances l.capacity l.sender m) (end : IsOutgoing l.instances (held m).seen l.sender l.receiver o) where
  same : Sees l.instances l.capacity (held m) (held w) → own (held w).seen l.sender ≡ own (held m).seen l.sender
  same sees = subst (λ x. own (held w).seen x ≡ (held w).made) (sees.same.number ∙ rests.post.number) sees.own ∙ sees.made ∙ sym its

  pub kept_end : Claims l m w → IsOutgoing l.instances (held w).seen l.sender l.receiver o
  kept_end claims = outgoing_later l.instances (held m).seen (held w).seen l.sender l.receiver o claims.sees.later (same claims.sees) end

  pub slots_again : Claims l m w → o.put - o.known_taken + many ≤ l.capacity → HasSlots l many w
  slots_again claims few =
      let kept = kept_end claims in
      let waits = waiting_many l.instances l.capacity (held w).seen l.sender l.receiver claims.sees.legal in
      record {
        filling = claims.filling;
        unfilled = claims.nothing_filled;
        enough = omega (arith, claims.all_free, kept.put, kept.known);
        fit = omega (arith, waits, kept.put, kept.known);
      }

  pub fresh_end : (word : ℕ) → ClaimsAnew l m word w → IsOutgoing l.instances (held w).seen l.sender l.receiver (record o { known_taken = word })
  fresh_end word anew =
      let kept = kept_end anew.claims in
      record { put = kept.put; known = omega (arith, anew.found); unsent = kept.unsent; base = kept.base; long = kept.long }

  pub slots_anew : (word : ℕ) → ClaimsAnew l m word w → o.put - word + many ≤ l.capacity → HasSlots l many w
  slots_anew word anew few =
      let kept = kept_end anew.claims in
      let waits = waiting_many l.instances l.capacity (held w).seen l.sender l.receiver anew.claims.sees.legal in
      record {
        filling = anew.claims.filling;
        unfilled = anew.claims.nothing_filled;
        enough = omega (arith, anew.claims.all_free, kept.put, anew.found);
        fit = omega (arith, waits, kept.put, anew.found);
      }

  pub no_slots : (v : Mine) (word : ℕ) → ClaimsAnew l m word w → PutsBack w v → l.capacity < o.put - word + many → HasNoSlots l many m v
  no_slots v word anew back less =
      let kept = kept_end anew.claims in
      let now = waiting_many l.instances l.capacity (held w).seen l.sender l.receiver anew.claims.sees.legal in
      let then_ = waiting_many l.instances l.capacity (held m).seen l.sender l.receiver legal in
      let more = received_begins (held m).seen (held w).seen anew.claims.sees.later l.sender l.receiver in
      record {
        rests = rests_back l.instances l.capacity l.sender w v anew.claims.filling.post back;
        waits = subst (λ (x : Mine). l.capacity < length (waiting (held x).seen l.sender l.receiver) + many) (sym back) (omega (arith, now, kept.put, anew.found));
        before = omega (arith, now, then_, kept.put, end.put, anew.found, more);
        looked = subst (λ (x : Mine). (held m).looks < (held x).looks) (sym back) (omega (arith, anew.looks));
      }

  -- the end stays the same when the slots are back
  pub back_end : (v : Mine) (u : Outgoing) → PutsBack w v → IsOutgoing l.instances (held w).seen l.sender l.receiver u → IsOutgoing l.instances (held v).seen l.sender l.receiver u
  back_end v u back old = subst (λ (x : Mine). IsOutgoing l.instances (held x).seen l.sender l.receiver u) (sym back) old

-- the clock of the last parcel, with one more
pub last_clock-push : (base : List ℕ) (xs : List Parcel) (x : Parcel) → last_clock base (xs ++ x ∷ []) ≡ x.clock
last_clock-push base [] x = refl
last_clock-push base (y ∷ ys) x = last_clock-push y.clock ys x

-- the lane's end after a send on it
pub outgoing_sent : (n : ℕ) (h : List Occurrence) (p q : ℕ) (m : Content) (clock : List ℕ) (o : Outgoing) → IsOutgoing n h p q o → clock ≡ next_clock n h p → length clock ≡ n → IsOutgoing n (Send p q m ∷ h) p q (record o { put = o.put + 1; base = clock })
outgoing_sent n h p q m clock o old its long =
    let lane = is_lane-same p q in
    record {
      put = rw lane (ap (λ i. i + 1) old.put ∙ sym (length_push (sent h p q) m));
      known = old.known;
      unsent = old.unsent;
      base = rw lane (its ∙ sym (last_clock-push (zeros n) (goods n h p q) (record { message = m; clock = next_clock n h p })));
      long = long;
    }

-- at most as many were sent on a lane as the sender's line has events
pub sent_within : (h : List Occurrence) (p q : ℕ) → length (sent h p q) ≤ length (chart_of h p)
sent_within [] p q = omega arith
sent_within (Send a b m ∷ h) p q = go (a == p) (b == q) (sent_within h p q)
  where
    go : (mine its : Bool) → length (sent h p q) ≤ length (chart_of h p) → length (cond (mine && its) (sent h p q ++ m ∷ []) (sent h p q)) ≤ length (chart_of h p ++ cond mine (send_event b m.name ∷ []) [])
    go true true before = omega (arith, length_push (sent h p q) m, length_push (chart_of h p) (send_event b m.name))
    go true false before = omega (arith, length_push (chart_of h p) (send_event b m.name))
    go false its before = simp append-nil before
sent_within (Receive a b c ∷ h) p q = go (a == p) (sent_within h p q)
  where
    go : (mine : Bool) → length (sent h p q) ≤ length (chart_of h p) → length (sent h p q) ≤ length (chart_of h p ++ cond mine (receive_of (waiting h b a) b c) [])
    go mine before = omega (arith, length-append (chart_of h p) (cond mine (receive_of (waiting h b a) b c) []))
sent_within (Close a b ∷ h) p q = simp append-nil (sent_within h p q)
