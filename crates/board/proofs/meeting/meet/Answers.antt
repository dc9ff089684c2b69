use Rattle.std.proofs.Common.{◌≡◌, List, ap, ◌∙◌, subst, set}
use Rattle.std.proofs.lemmas.List.{set-get_or}
use Rattle.board.specs.Views.{PostView}
use Rattle.board.specs.Meeting.{HaveMet}
use Rattle.board.proofs.Meetings.{have_met, still_notes}
use Rattle.board.proofs.meeting.meet.Goals as goal

pub hear_each-requires : goal.hear_each-requires
hear_each-requires c = record { note = still_notes _ _ _ _ _ _ c.hear_each-note.ensures.heard c.hear_each-note.ensures.note }

pub returns : goal.returns
returns c =
    let same : set c.args.posts.now 0 c.note-note.new.self ≡ c.args.posts.now = ap (λ (post : PostView). set c.args.posts.now 0 post) c.note-note.ensures.same ∙ set-get_or c.args.posts.now 0 c.index-posts-0.result in
    record { met = subst (λ (posts : List PostView). HaveMet posts c.hear_each.new.posts) same (have_met _ c.hear_each-note.new.posts c.hear_each.new.posts _ _ _ c.hear_each-note.ensures.heard c.hear_each.ensures.heard) }
