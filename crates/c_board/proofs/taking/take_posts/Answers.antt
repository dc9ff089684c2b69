use Rattle.std.proofs.Common.{length, sym, ap, ◌∙◌, subst, arith}
use Rattle.std.proofs.lemmas.Bool.{eqb-false}
use Rattle.c_board.specs.Opening.{kept_by}
use Rattle.c_board.specs.Chairs.{AreOfOneNumber, IsOneOfAnother}
use Rattle.c_board.proofs.KeptLists.{length-kept_by}
use Rattle.c_board.proofs.ChairLemmas.{length-seats, one_number, two_boards}
use Rattle.c_board.proofs.taking.take_posts.Goals as goal

pub put_posts-requires-clause-as_many : goal.put_posts-requires-clause-as_many
put_posts-requires-clause-as_many c = omega (
  arith,
  length-seats c.take_each.new.chairs.items c.take_each.new.posts.items c.take_each.ensures.fit,
  ap length c.take_each.ensures.seats,
  length-kept_by c.have_posts.new.handles,
  c.take_each.auto.handles,
)

pub returns-then-not-have_one_number : goal.returns-then-not-have_one_number
returns-then-not-have_one_number c =
    let olds = kept_by c.args.handles.now in
    let chairs = c.take_each.new.chairs.items in
    let posts = c.take_each.new.posts.items in
    let seats = sym c.have_posts.ensures.same ∙ c.take_each.ensures.seats in (
      c.put_posts.ensures ∙ sym seats,
      (
        c.have_posts.ensures.yes c.if-not-have_posts.false,
        two_boards olds chairs posts seats c.take_each.ensures.fit (subst IsOneOfAnother c.as_slice.ensures.value (c.have_one_number.ensures.no c.if-not-have_one_number.true)),
      ),
    )

pub returns : goal.returns
returns c =
    let olds = kept_by c.args.handles.now in
    let chairs = c.take_each.new.chairs.items in
    let posts = c.take_each.new.posts.items in
    let seats = sym c.have_posts.ensures.same ∙ c.take_each.ensures.seats in (
      record { seats = seats; fit = c.take_each.ensures.fit; empty = c.take_each.ensures.empty },
      λ none. eqb-false (length c.args.handles.now) 0 (sym c.is_empty.ensures ∙ c.if-is_empty.false) (sym (length-kept_by c.args.handles.now) ∙ none),
      one_number olds chairs posts seats c.take_each.ensures.fit (subst AreOfOneNumber c.as_slice.ensures.value (c.have_one_number.ensures.yes c.if-not-have_one_number.false)),
    )
