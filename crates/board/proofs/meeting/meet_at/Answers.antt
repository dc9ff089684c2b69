use Rattle.std.proofs.Common.{◌≡◌, List, length, set, sym, ap, ◌∙◌, subst, arith}
use Rattle.std.proofs.lemmas.List.{set-get_or}
use Rattle.chart.specs.declared.history.Occurrence.{Occurrence}
use Rattle.board_table.specs.Knowing.{held}
use Rattle.board.specs.Views.{PostView}
use Rattle.board.specs.Meeting.{HaveSeen, HaveHeard}
use Rattle.board.proofs.Meetings.{at_within, one_post, one_ahead, met_once, all_seen}
use Rattle.board.proofs.meeting.meet_at.Goals as goal

pub bounds-posts-place : goal.bounds-posts-place
bounds-posts-place c = let within = at_within c.args.posts.now c.args.place c.requires.ahead.0 c.requires.ahead.1 in omega (arith, within)

pub returns : goal.returns
returns c =
    let old = c.args.posts.now in
    let here : c.index-posts-place.result ≡ c.requires.ahead.0 = one_post old c.args.place c.index-posts-place.result c.requires.ahead.0 c.index-posts-place.is c.requires.ahead.1 in
    let known : (held c.note-note.result.me).seen ≡ c.requires.ahead.0.seen = c.note-note.ensures.seen ∙ ap (λ (post : PostView). post.seen) (sym c.index-posts-place.is ∙ here) in
    let same : set old c.args.place c.note-note.new.self ≡ old = ap (λ (post : PostView). set old c.args.place post) c.note-note.ensures.same ∙ set-get_or old c.args.place c.index-posts-place.result in
    let heard : HaveHeard (length old) old c.requires.ahead.0.seen c.hear_each.new.posts (held c.hear_each.result.me).seen =
    subst (λ (h : List Occurrence). HaveHeard (length old) old h c.hear_each.new.posts (held c.hear_each.result.me).seen) known (subst (λ (posts : List PostView). HaveHeard (length posts) posts (held c.note-note.result.me).seen c.hear_each.new.posts (held c.hear_each.result.me).seen) same c.hear_each.ensures.heard) in
    record {
      met = met_once old c.hear_each.new.posts c.requires.ahead.0.seen (held c.hear_each.result.me).seen heard c.requires.ahead.2;
      seen = λ ahead at. subst (λ (post : PostView). HaveSeen post.seen old c.hear_each.new.posts) (one_ahead old c.args.place c.requires.ahead.0 ahead c.requires.ahead.1 at) (all_seen old c.hear_each.new.posts c.requires.ahead.0.seen (held c.hear_each.result.me).seen heard c.requires.ahead.2);
    }
