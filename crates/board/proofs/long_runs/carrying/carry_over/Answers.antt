use Rattle.std.proofs.Common.{◌≡◌, ◌+◌, ◌≤◌, ◌∙◌, [], ℕ, List, length, map, get_or, sym, ap, subst, arith}
use Rattle.std.specs.Prelude.{slice_get, Some}
use Rattle.std.specs.List.{range_with_len}
use Rattle.std.proofs.lemmas.List.{length-map}
use Rattle.std.proofs.lemmas.List.FromFn.{length-range_with_len}
use Rattle.std.proofs.lemmas.Option.{slice_get-get_or}
use Rattle.chart.specs.declared.line.TheConstants.{MAX_EVENTS}
use Rattle.board.specs.declared.gathering.Left.{Left}
use Rattle.board.specs.Views.{PostView}
use Rattle.board.specs.Meeting.{AreAll}
use Rattle.board.specs.Gathering.{left_view, closed_view}
use Rattle.board.proofs.WholeBoards.{some_posts, size_is}
use Rattle.board.specs.LongRuns.CarriedHistories.{all_again, sent_again_by}
use Rattle.board.specs.LongRuns.CarryingSteps.{HaveReserved}
use Rattle.board.proofs.LongRunsLemmas.CarriedOver.{were_few, at_number, now_one, may_send, may_close, have_carried, keep_lanes}
use Rattle.board.proofs.long_runs.carrying.carry_over.Goals as goal

-- what each instance sends again, from the counts
sends_are : (left : List Left) (slice : List Left) (many size : ℕ) (sends : List ℕ) → slice ≡ left → many ≡ size → sends ≡ map (λ p. sent_again_by p (map left_view slice)) (range_with_len 1 many)
    → sends ≡ map (λ p. sent_again_by p (map left_view left)) (range_with_len 1 size)
sends_are left slice many size sends same sized counted =
    counted ∙ ap (λ (ls : List Left). map (λ p. sent_again_by p (map left_view ls)) (range_with_len 1 many)) same
    ∙ ap (λ m. map (λ p. sent_again_by p (map left_view left)) (range_with_len 1 m)) sized

few_sends : (f : ℕ → ℕ) (size i many : ℕ) (slice sends : List ℕ) → slice ≡ sends → sends ≡ map f (range_with_len 1 size) → ((p : ℕ) → f p ≤ MAX_EVENTS) → slice_get slice i ≡ Some many → many ≤ MAX_EVENTS
few_sends f size i many slice sends same counted few at =
    let its = at_number f 1 size i many (ap (λ xs. slice_get xs i) (sym (same ∙ counted)) ∙ at) in
    let less = few (1 + i) in
    omega (arith, its, less)

many_sends : (f : ℕ → ℕ) (size : ℕ) (slice sends : List ℕ) → slice ≡ sends → sends ≡ map f (range_with_len 1 size) → length slice ≡ size
many_sends f size slice sends same counted = ap length (same ∙ counted) ∙ length-map (range_with_len 1 size) f ∙ length-range_with_len 1 size

pub count_all_sends-requires : goal.count_all_sends-requires
count_all_sends-requires c p =
    let posts = c.args.posts.now in
    let all : AreAll posts = c.are_all.ensures.yes c.if-not-are_all.false in
    let x : PostView = get_or posts 0 c.index-posts-0.result in
    let at : slice_get posts 0 ≡ Some x = slice_get-get_or posts 0 c.index-posts-0.result (some_posts posts all) in
    subst (λ (ls : List Left). sent_again_by p (map left_view ls) ≤ MAX_EVENTS) (sym c.as_slice.ensures.value)
    (were_few x.board.size x.board.capacity (map left_view c.args.left.items) (map closed_view c.args.closed.now) (c.requires.may 0 x at).were p)

pub reserve_sends-requires-clause-sized : goal.reserve_sends-requires-clause-sized
reserve_sends-requires-clause-sized c i post there =
    let posts = c.args.posts.now in
    let all : AreAll posts = c.are_all.ensures.yes c.if-not-are_all.false in
    let x : PostView = get_or posts 0 c.index-posts-0.result in
    let at : slice_get posts 0 ≡ Some x = slice_get-get_or posts 0 c.index-posts-0.result (some_posts posts all) in
    let counted = sends_are c.args.left.items c.as_slice.result.now c.board_size-instances.result x.board.size c.in-Ok.sends.items c.as_slice.ensures.value c.board_size-instances.ensures.value c.in-Ok.ensures in
    ap (λ b. b.size) (c.requires.board i 0 post x there at)
    ∙ sym (many_sends (λ p. sent_again_by p (map left_view c.args.left.items)) x.board.size c.as_slice-2.result.now c.in-Ok.sends.items c.as_slice-2.ensures.value counted)

pub reserve_sends-requires-clause-within_limit : goal.reserve_sends-requires-clause-within_limit
reserve_sends-requires-clause-within_limit c i many there =
    let posts = c.args.posts.now in
    let all : AreAll posts = c.are_all.ensures.yes c.if-not-are_all.false in
    let x : PostView = get_or posts 0 c.index-posts-0.result in
    let at : slice_get posts 0 ≡ Some x = slice_get-get_or posts 0 c.index-posts-0.result (some_posts posts all) in
    let counted = sends_are c.args.left.items c.as_slice.result.now c.board_size-instances.result x.board.size c.in-Ok.sends.items c.as_slice.ensures.value c.board_size-instances.ensures.value c.in-Ok.ensures in
    few_sends (λ p. sent_again_by p (map left_view c.args.left.items)) x.board.size i many c.as_slice-2.result.now c.in-Ok.sends.items c.as_slice-2.ensures.value counted
    (were_few x.board.size x.board.capacity (map left_view c.args.left.items) (map closed_view c.args.closed.now) (c.requires.may 0 x at).were) there

pub meet-requires : goal.meet-requires
meet-requires c =
    let posts = c.args.posts.now in
    let left = map left_view c.args.left.items in
    let closed = map closed_view c.args.closed.now in
    let now = c.reserve_sends.new.posts in
    let sends = c.in-Ok.sends.items in
    let all : AreAll posts = c.are_all.ensures.yes c.if-not-are_all.false in
    let x : PostView = get_or posts 0 c.index-posts-0.result in
    let at : slice_get posts 0 ≡ Some x = slice_get-get_or posts 0 c.index-posts-0.result (some_posts posts all) in
    let counted = sends_are c.args.left.items c.as_slice.result.now c.board_size-instances.result x.board.size sends c.as_slice.ensures.value c.board_size-instances.ensures.value c.in-Ok.ensures in
    let reserved : HaveReserved sends posts now = subst (λ (xs : List ℕ). HaveReserved xs posts now) c.as_slice-2.ensures.value c.in-Ok-reserve_sends.ensures.ok in
    record { board = now_one posts now now now x left closed sends at c.requires.board all c.requires.may counted reserved }

pub send_left-requires : goal.send_left-requires
send_left-requires c =
    let posts = c.args.posts.now in
    let left = map left_view c.args.left.items in
    let closed = map closed_view c.args.closed.now in
    let now = c.reserve_sends.new.posts in
    let sends = c.in-Ok.sends.items in
    let all : AreAll posts = c.are_all.ensures.yes c.if-not-are_all.false in
    let x : PostView = get_or posts 0 c.index-posts-0.result in
    let at : slice_get posts 0 ≡ Some x = slice_get-get_or posts 0 c.index-posts-0.result (some_posts posts all) in
    let counted = sends_are c.args.left.items c.as_slice.result.now c.board_size-instances.result x.board.size sends c.as_slice.ensures.value c.board_size-instances.ensures.value c.in-Ok.ensures in
    let reserved : HaveReserved sends posts now = subst (λ (xs : List ℕ). HaveReserved xs posts now) c.as_slice-2.ensures.value c.in-Ok-reserve_sends.ensures.ok in
    record { may = (x.board.size, x.board.capacity, [], now, may_send posts now c.meet.new.posts now x left closed sends at c.requires.board all c.requires.may counted reserved c.meet.ensures.met) }

pub close_lanes-requires : goal.close_lanes-requires
close_lanes-requires c =
    let posts = c.args.posts.now in
    let left = map left_view c.args.left.items in
    let closed = map closed_view c.args.closed.now in
    let now = c.reserve_sends.new.posts in
    let sends = c.in-Ok.sends.items in
    let all : AreAll posts = c.are_all.ensures.yes c.if-not-are_all.false in
    let x : PostView = get_or posts 0 c.index-posts-0.result in
    let at : slice_get posts 0 ≡ Some x = slice_get-get_or posts 0 c.index-posts-0.result (some_posts posts all) in
    let counted = sends_are c.args.left.items c.as_slice.result.now c.board_size-instances.result x.board.size sends c.as_slice.ensures.value c.board_size-instances.ensures.value c.in-Ok.ensures in
    let reserved : HaveReserved sends posts now = subst (λ (xs : List ℕ). HaveReserved xs posts now) c.as_slice-2.ensures.value c.in-Ok-reserve_sends.ensures.ok in
    let met = c.meet.new.posts in
    let on = c.send_left.ensures x.board.size x.board.capacity [] now (may_send posts now met now x left closed sends at c.requires.board all c.requires.may counted reserved c.meet.ensures.met) in
    record { may = (x.board.size, x.board.capacity, all_again left, now, may_close posts now met now x left closed sends at c.requires.board all c.requires.may counted reserved c.meet.ensures.met c.send_left.new.posts on) }

pub returns-clause-carries : goal.returns-clause-carries
returns-clause-carries c =
    let posts = c.args.posts.now in
    let left = map left_view c.args.left.items in
    let closed = map closed_view c.args.closed.now in
    let now = c.reserve_sends.new.posts in
    let sends = c.in-Ok.sends.items in
    let all : AreAll posts = c.are_all.ensures.yes c.if-not-are_all.false in
    let x : PostView = get_or posts 0 c.index-posts-0.result in
    let at : slice_get posts 0 ≡ Some x = slice_get-get_or posts 0 c.index-posts-0.result (some_posts posts all) in
    let counted = sends_are c.args.left.items c.as_slice.result.now c.board_size-instances.result x.board.size sends c.as_slice.ensures.value c.board_size-instances.ensures.value c.in-Ok.ensures in
    let reserved : HaveReserved sends posts now = subst (λ (xs : List ℕ). HaveReserved xs posts now) c.as_slice-2.ensures.value c.in-Ok-reserve_sends.ensures.ok in
    let met = c.meet.new.posts in
    let new = c.close_lanes.new.posts in
    let sent = c.send_left.ensures x.board.size x.board.capacity [] now (may_send posts now met now x left closed sends at c.requires.board all c.requires.may counted reserved c.meet.ensures.met) in
    let on = c.close_lanes.ensures x.board.size x.board.capacity (all_again left) now (may_close posts now met now x left closed sends at c.requires.board all c.requires.may counted reserved c.meet.ensures.met c.send_left.new.posts sent) in
    record {
      all = all;
      carried = have_carried posts now met new x left closed sends at c.requires.board all c.requires.may counted reserved c.meet.ensures.met on;
      sends = counted ∙ ap (λ m. map (λ p. sent_again_by p left) (range_with_len 1 m)) (sym (size_is posts x at));
    }

pub returns-clause-lanes : goal.returns-clause-lanes
returns-clause-lanes c =
    let posts = c.args.posts.now in
    let left = map left_view c.args.left.items in
    let closed = map closed_view c.args.closed.now in
    let now = c.reserve_sends.new.posts in
    let sends = c.in-Ok.sends.items in
    let all : AreAll posts = c.are_all.ensures.yes c.if-not-are_all.false in
    let x : PostView = get_or posts 0 c.index-posts-0.result in
    let at : slice_get posts 0 ≡ Some x = slice_get-get_or posts 0 c.index-posts-0.result (some_posts posts all) in
    let counted = sends_are c.args.left.items c.as_slice.result.now c.board_size-instances.result x.board.size sends c.as_slice.ensures.value c.board_size-instances.ensures.value c.in-Ok.ensures in
    let reserved : HaveReserved sends posts now = subst (λ (xs : List ℕ). HaveReserved xs posts now) c.as_slice-2.ensures.value c.in-Ok-reserve_sends.ensures.ok in
    let met = c.meet.new.posts in
    let new = c.close_lanes.new.posts in
    let sent = c.send_left.ensures x.board.size x.board.capacity [] now (may_send posts now met now x left closed sends at c.requires.board all c.requires.may counted reserved c.meet.ensures.met) in
    let on = c.close_lanes.ensures x.board.size x.board.capacity (all_again left) now (may_close posts now met now x left closed sends at c.requires.board all c.requires.may counted reserved c.meet.ensures.met c.send_left.new.posts sent) in
    keep_lanes posts now met new x left closed sends at c.requires.board all c.requires.may counted reserved c.meet.ensures.met on
