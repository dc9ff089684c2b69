-- A post that has met a note.
use Rattle.std.proofs.Common.{◌≡◌, ℕ, List, [], ◌∷◌, sym, ap, ◌∙◌, subst}
use Rattle.atomic_table.specs.Seated.{TableId}
use Rattle.chart.specs.Histories.{own, IsLegal}
use Rattle.line_recorder.specs.Recorders.{RecorderView}
use Rattle.board_core.proofs.OwnEvents.{same_line, same_instance}
use Rattle.board_table.specs.declared.held.Held.{Held}
use Rattle.board_table.specs.Knowing.{Mine, held, many_out, Rests}
use Rattle.board_table.specs.Knowing as knowing
use Rattle.board_table.specs.Plays.{Meets}
use Rattle.board.specs.declared.ends.Outgoing.{Outgoing}
use Rattle.board.specs.declared.ends.Incoming.{Incoming}
use Rattle.board.specs.Known.{IsPost, view_of}
use Rattle.board.specs.Meeting.{Hears}
use Rattle.board.proofs.EndLemmas.{ends_later}
use Rattle.board.proofs.PostLemmas.{knowledge}

module _ (m w : Mine) (n k p : ℕ) (r : RecorderView) (region : ℕ) (outgoing : List Outgoing) (incoming : List Incoming) (post : IsPost m n k p (knowledge r region outgoing incoming)) (note : Held) (same : knowing.IsPost (held m).instances (held m).capacity (held m).number w) (meets : Meets (held m).instances (held m).capacity (held m) note (held w)) where
  met_legal : IsLegal n k (held w).seen
  met_legal = subst (λ z. IsLegal z k (held w).seen) post.rests.post.instances (subst (λ z. IsLegal (held m).instances z (held w).seen) post.rests.post.capacity meets.legal)

  met_own : own (held w).seen p ≡ (held m).made
  met_own = subst (λ z. own (held w).seen z ≡ (held m).made) post.rests.post.number meets.own

  pub post_met : w.1 ≡ m.1 → IsPost w n k p (knowledge r region outgoing incoming)
  post_met slots =
      let its : own (held w).seen p ≡ own (held m).seen p = met_own ∙ sym post.made in
      let line = same_line n (held m).seen (held w).seen meets.later p its in
      record {
        sized = post.sized;
        least = post.least;
        most = post.most;
        rests = record {
          post = record {
            alone = same.alone;
            instances = same.instances ∙ post.rests.post.instances;
            capacity = same.capacity ∙ post.rests.post.capacity;
            number = same.number ∙ post.rests.post.number;
          };
          hold = ap (λ (e : Held). many_out e.hold) meets.rest ∙ post.rests.hold;
          slots = slots ∙ post.rests.slots;
        };
        knows = record {
          legal = met_legal;
          own = same_instance n (held m).seen (held w).seen meets.later k p r region post.knows.legal its post.knows.own;
          ends = ends_later n k (held m).seen (held w).seen p 0 0 outgoing incoming post.knows.legal meets.later its post.knows.ends;
        };
        made = met_own ∙ sym (ap (λ (e : Held). e.made) meets.rest);
      }

  pub post_hears : (table : TableId) → Hears note.seen (view_of table m n k p region r.room) (view_of table w n k p region r.room)
  post_hears table = record {
    rest = ap (λ (e : Held). view_of table (e ∷ [], []) n k p region r.room) meets.rest;
    seen = meets.seen;
    later = meets.later;
    later_known = meets.later_note;
    legal = met_legal;
    own = met_own;
  }
