use Rattle.std.proofs.Common.{◌≡◌, ◌<◌, ℕ, suc, ◌+◌, length, sym, ◌∙◌, subst, arith, set, get_or}
use Rattle.std.specs.Prelude.{slice_get, Some}
use Rattle.std.proofs.lemmas.Option.{slice_get-get_or}
use Rattle.board_table.specs.Knowing.{held}
use Rattle.board.specs.Views.{PostView}
use Rattle.board.specs.Meeting.{HaveHeard}
use Rattle.board.proofs.Meetings.{heard_next, note_for}
use Rattle.board.proofs.meeting.hear_each.Goals as goal

-- the next post is as it was at first
pub hear-note-requires : goal.hear-note-requires
hear-note-requires c =
    let its = c.loop-post.invariant in
    let i = c.loop-post.post-index in
    let lt : i < length c.loop-post.posts = omega arith in
    let at = slice_get-get_or c.loop-post.posts i c.post-item.result lt in
    record { note = its.note i _ (sym (its.heard.others i (omega arith)) ∙ at) }

pub loop-post-preserved : goal.loop-post-preserved
loop-post-preserved c =
    let its = c.loop-post.invariant in
    let i = c.loop-post.post-index in
    let lt : i < length c.loop-post.posts = omega arith in
    let x : PostView = get_or c.loop-post.posts i c.post-item.result in
    let at : slice_get c.loop-post.posts i ≡ Some x = slice_get-get_or c.loop-post.posts i c.post-item.result lt in
    let was : slice_get c.args.posts.now i ≡ Some x = sym (its.heard.others i (omega arith)) ∙ at in
    let next : suc i ≡ i + 1 = omega arith in
    record {
      heard = subst (λ (z : ℕ). HaveHeard z c.args.posts.now (held c.args.note.me).seen (set c.loop-post.posts i c.hear-note.new.self) (held c.hear-note.result.me).seen) next
          (heard_next i c.args.posts.now c.loop-post.posts (held c.args.note.me).seen (held c.loop-post.note.me).seen (held c.hear-note.result.me).seen x c.hear-note.new.self its.heard at c.hear-note.ensures.hears c.hear-note.ensures.seen);
      note = λ j post there. note_for c.loop-post.note.table_id c.hear-note.result.table_id c.loop-post.note.me c.hear-note.result.me x post (its.note i x was) (its.note j post there) c.hear-note.ensures.note;
    }
