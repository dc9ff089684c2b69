-- The effect of a meeting of posts that were taken out of handles.
use Rattle.std.proofs.Common.{◌≡◌, zero, suc, List, [], ◌∷◌, map, length, refl, sym, ap, ◌∙◌, subst}
use Rattle.std.specs.Prelude.{slice_get, true, IsErrAnd, Option, None, Some, Ok, Err, Result}
use Rattle.chart.specs.declared.history.Occurrence.{Occurrence}
use Rattle.board.specs.Views.{PostView}
use Rattle.board.specs.Meeting.{AreAll, AreNotAll}
use Rattle.c_board.specs.declared.chair.Chair.{Chair}
use Rattle.c_board.specs.declared.kept.Kept.{Kept}
use Rattle.c_board.specs.declared.kept.Kept.TheVariants.{Post}
use Rattle.board.specs.declared.error.GatherCause.{GatherCause}
use Rattle.board.specs.declared.error.GatherCause.TheVariants as cause
use Rattle.c_board.specs.declared.meeting.MeetRefusal.{MeetRefusal}
use Rattle.c_board.specs.declared.taking.TakingError.{TakingError}
use Rattle.c_board.specs.declared.taking.TakingError.TheVariants as taking
use Rattle.c_board.specs.Chairs.{Fits, AreFit, seat_with, seats_with, kept_seats, is_post, KeepPosts, HaveOneNumber, TakesPosts}
use Rattle.c_board.specs.Meeting.{Meets, MeetsParked, seat_seen, refusal_of_taking, refusal_of_cause}
use Rattle.c_board.specs.PostStates.{PostStateView}
use Rattle.c_board.proofs.ChairLemmas.{posts-same}
use Rattle.c_board.proofs.GatherLemmas.{none_one, none_lack}

abbrev post_seen : List Occurrence → PostView → PostView
post_seen h post = record post { seen = h }

fits-seen : (chair : Chair) (post : PostView) (h : List Occurrence) → Fits chair post → Fits chair (post_seen h post)
fits-seen chair post h fits = record { at = record { table_is = fits.at.table_is; board = fits.at.board }; known = fits.known }

-- the posts still fit their seats
fit-seen : (chairs : List Chair) (posts : List PostView) (h : List Occurrence) → AreFit chairs posts → AreFit chairs (map (post_seen h) posts)
fit-seen [] [] h all = all
fit-seen [] (p ∷ posts) h all = absurd all
fit-seen (c ∷ chairs) [] h all = absurd all
fit-seen (c ∷ chairs) (p ∷ posts) h all = (fits-seen c p h all.0, fit-seen chairs posts h all.1)

seats-seen : (chairs : List Chair) (posts : List PostView) (h : List Occurrence) → AreFit chairs posts → seats_with chairs (map (post_seen h) posts) ≡ map (seat_seen h) (seats_with chairs posts)
seats-seen [] [] h all = refl
seats-seen [] (p ∷ posts) h all = absurd all
seats-seen (c ∷ chairs) [] h all = absurd all
seats-seen (c ∷ chairs) (p ∷ posts) h all = ap (λ (xs : List PostStateView). seat_seen h (seat_with c p) ∷ xs) (seats-seen chairs posts h all.1)

-- whatever the meeting answered
pub fit-met : (chairs : List Chair) (posts new : List PostView) (answer : Result (Unit {0}) GatherCause) → AreFit chairs posts → MeetsParked posts answer new → AreFit chairs new
fit-met chairs posts new (Ok done) fit its = subst (λ (ps : List PostView). AreFit chairs ps) (sym its.1.seen) (fit-seen chairs posts its.1.history fit)
fit-met chairs posts new (Err cause.NotAllPosts) fit its = subst (λ (ps : List PostView). AreFit chairs ps) (sym its.0) fit
fit-met chairs posts new (Err cause.Memory) fit its = subst (λ (ps : List PostView). AreFit chairs ps) (sym its) fit

-- handles that keep seats keep posts
pub seats_kept : (seats : List PostStateView) → KeepPosts (kept_seats seats)
seats_kept [] i kept there = absurd (never there)
  where
    never : {X : Type 0} {x : X} → None ≡ Some x → ⊥
    never e = cc
seats_kept (state ∷ seats) zero kept there = subst (λ (it : Option Kept). is_post it ≡ true) (same (Some (Post state)) kept there) refl
  where
    same : (a b : Option Kept) → Some a ≡ Some b → a ≡ b
    same a b e = cc
seats_kept (state ∷ seats) (suc i) kept there = seats_kept seats i kept there

-- the posts weren't taken out
untaken : (error : TakingError) (olds news : List (Option Kept)) → TakesPosts olds (Err error) news → Meets olds (Err (refusal_of_taking error)) news
untaken taking.NoHandles olds news its = (its.0, (none_lack olds its.1, none_one olds its.1))
untaken taking.NoPost olds news its = its
untaken taking.Memory olds news its = its
untaken taking.OtherBoard olds news its = its

pub meet_refused : (olds news : List (Option Kept)) (result : Result (Unit {0}) MeetRefusal) (error : TakingError) → IsErrAnd result (λ e. e ≡ refusal_of_taking error) → TakesPosts olds (Err error) news → Meets olds result news
meet_refused olds news (Ok done) error never its = absurd never
meet_refused olds news (Err e) error same its = subst (λ (x : MeetRefusal). Meets olds (Err x) news) (sym same) (untaken error olds news its)

-- the posts are put back
pub met_again : (chairs : List Chair) (posts new : List PostView) (olds news : List (Option Kept)) → AreFit chairs posts → olds ≡ kept_seats (seats_with chairs posts)
    → HaveOneNumber olds → MeetsParked posts (Ok tt) new → news ≡ kept_seats (seats_with chairs new) → Meets olds (Ok tt) news
met_again chairs posts new olds news fit kept one its put = (
  record {
    seats = seats_with chairs posts;
    kept = kept;
    all = subst AreAll (sym (posts-same chairs posts fit)) its.0;
    history = its.1.history;
    joint = λ i post there. its.1.joint i post (subst (λ (ps : List PostView). slice_get ps i ≡ Some post) (posts-same chairs posts fit) there);
    seen = put ∙ ap (λ (ps : List PostView). kept_seats (seats_with chairs ps)) its.1.seen ∙ ap kept_seats (seats-seen chairs posts its.1.history fit);
  },
  one,
)

pub met_not : (why_not : GatherCause) (chairs : List Chair) (posts new : List PostView) (olds news : List (Option Kept)) → AreFit chairs posts → olds ≡ kept_seats (seats_with chairs posts)
    → KeepPosts olds → (length olds ≡ 0 → ⊥) → HaveOneNumber olds → MeetsParked posts (Err why_not) new → news ≡ kept_seats (seats_with chairs new) → Meets olds (Err (refusal_of_cause why_not)) news
met_not cause.NotAllPosts chairs posts new olds news fit kept keep some one its put = (
  put ∙ ap (λ (ps : List PostView). kept_seats (seats_with chairs ps)) its.0 ∙ sym kept,
  (record { seats = seats_with chairs posts; kept = kept; lacking = subst AreNotAll (sym (posts-same chairs posts fit)) its.1 }, one),
)
met_not cause.Memory chairs posts new olds news fit kept keep some one its put = (put ∙ ap (λ (ps : List PostView). kept_seats (seats_with chairs ps)) its ∙ sym kept, (keep, some))
