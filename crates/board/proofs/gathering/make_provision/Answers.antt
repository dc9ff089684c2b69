use Rattle.std.proofs.Common.{◌≡◌, ℕ, sym, ap, ◌∙◌, subst, arith}
use Rattle.std.specs.Prelude.{Some, slice_get}
use Rattle.std.proofs.lemmas.Option.{slice_get-get_or}
use Rattle.board.specs.declared.gathering.Provision.{Provision}
use Rattle.board.specs.Views.{PostView}
use Rattle.board.specs.Gathering.{size_of}
use Rattle.board.specs.Provisions.{IsProvision}
use Rattle.board.proofs.WholeBoards.{some_posts, size_is, are_of}
use Rattle.board.proofs.gathering.make_provision.Goals as goal

pub make_reports-requires : goal.make_reports-requires
make_reports-requires c =
    let posts = c.args.posts.now in
    let x = c.index-posts-0.result in
    let at : slice_get posts 0 ≡ Some x = slice_get-get_or posts 0 x (some_posts posts c.requires.all) ∙ ap (λ (post : PostView). Some post) (sym c.index-posts-0.is) in
    record { posts = (x.board.capacity, are_of posts x at c.requires.board c.requires.all c.board_size-instances.result c.board_size-instances.ensures.value) }

pub make_rooms-requires : goal.make_rooms-requires
make_rooms-requires c =
    let posts = c.args.posts.now in
    let x = c.index-posts-0.result in
    let at : slice_get posts 0 ≡ Some x = slice_get-get_or posts 0 x (some_posts posts c.requires.all) ∙ ap (λ (post : PostView). Some post) (sym c.index-posts-0.is) in
    record { posts = (x.board.capacity, are_of posts x at c.requires.board c.requires.all c.board_size-instances.result c.board_size-instances.ensures.value) }

pub find_closed-requires-clause-posts : goal.find_closed-requires-clause-posts
find_closed-requires-clause-posts c =
    let posts = c.args.posts.now in
    let x = c.index-posts-0.result in
    let at : slice_get posts 0 ≡ Some x = slice_get-get_or posts 0 x (some_posts posts c.requires.all) ∙ ap (λ (post : PostView). Some post) (sym c.index-posts-0.is) in
    (x.board.capacity, are_of posts x at c.requires.board c.requires.all c.board_size-instances.result c.board_size-instances.ensures.value)

pub make_own_events-requires : goal.make_own_events-requires
make_own_events-requires c =
    let posts = c.args.posts.now in
    let x = c.index-posts-0.result in
    let at : slice_get posts 0 ≡ Some x = slice_get-get_or posts 0 x (some_posts posts c.requires.all) ∙ ap (λ (post : PostView). Some post) (sym c.index-posts-0.is) in
    record { posts = (x.board.capacity, are_of posts x at c.requires.board c.requires.all c.board_size-instances.result c.board_size-instances.ensures.value) }

pub returns : goal.returns
returns c =
    let posts = c.args.posts.now in
    let x = c.index-posts-0.result in
    let at : slice_get posts 0 ≡ Some x = slice_get-get_or posts 0 x (some_posts posts c.requires.all) ∙ ap (λ (post : PostView). Some post) (sym c.index-posts-0.is) in
    let size : c.board_size-instances.result ≡ size_of posts = c.board_size-instances.ensures.value ∙ sym (size_is posts x at) in
    let it : Provision = record { own_events = c.in_ok-own_events.own_events; lines = c.in_ok-with_capacity.field-0; reports = c.in_ok-reports.reports; leavers = c.in_ok-with_capacity-2.field-0; rooms = c.in_ok-rooms.rooms; left = c.in_ok-with_capacity-3.field-0; closed = c.in_ok-closed.closed } in
    subst (λ (n : ℕ). IsProvision n posts it) size (record {
      own_events = c.in_ok-own_events.ensures;
      lines = c.in_ok-with_capacity.ensures.items;
      reports = c.in_ok-reports.ensures;
      leavers = c.in_ok-with_capacity-2.ensures.items;
      left = c.in_ok-with_capacity-3.ensures.items;
      rooms = c.in_ok-rooms.ensures;
      closed = c.in_ok-closed.ensures;
      for_lines = c.in_ok-with_capacity.ensures.capacity;
      for_leavers = c.in_ok-with_capacity-2.ensures.capacity;
      for_left = omega (arith, c.in_ok-with_capacity-3.ensures.capacity, c.len.ensures);
    })
