use Rattle.std.proofs.Common.{◌<◌, ◌∙◌, length, List, get_or, sym, ap, arith}
use Rattle.std.specs.Prelude.{slice_get, Option}
use Rattle.c_board.specs.declared.kept.Kept.{Kept}
use Rattle.c_board.specs.Opening.{kept_by}
use Rattle.c_board.proofs.KeptLists.{kept_at, at_kept}
use Rattle.c_board.proofs.ChairLemmas.{kept_same, post_next}
use Rattle.c_board.proofs.taking.have_posts.Goals as goal

pub returns-then-not-has_post-clause-same : goal.returns-then-not-has_post-clause-same
returns-then-not-has_post-clause-same c =
    let less : c.loop-place.place < length c.loop-place.handles = omega (arith, c.loop-place-test.true, c.loop-place.auto.handles) in
    kept_same c.loop-place.handles c.loop-place.place c.index-handles-place.result c.has_post.new.self less c.has_post.ensures.same ∙ c.loop-place.invariant.same

pub returns-then-not-has_post-clause-no : goal.returns-then-not-has_post-clause-no
returns-then-not-has_post-clause-no c = λ _.
    let less : c.loop-place.place < length c.loop-place.handles = omega (arith, c.loop-place-test.true, c.loop-place.auto.handles) in
    let here = kept_at c.loop-place.handles c.loop-place.place c.index-handles-place.result less in (
      c.loop-place.place,
      (get_or c.loop-place.handles c.loop-place.place c.index-handles-place.result).slot.value,
      ap (λ (xs : List (Option Kept)). slice_get xs c.loop-place.place) (sym c.loop-place.invariant.same) ∙ here,
      sym c.has_post.ensures.answer ∙ c.if-not-has_post.true,
    )

pub loop-place-preserved : goal.loop-place-preserved
loop-place-preserved c =
    let less : c.loop-place.place < length c.loop-place.handles = omega (arith, c.loop-place-test.true, c.loop-place.auto.handles) in
    let here = kept_at c.loop-place.handles c.loop-place.place c.index-handles-place.result less in
    record {
      same = kept_same c.loop-place.handles c.loop-place.place c.index-handles-place.result c.has_post.new.self less c.has_post.ensures.same ∙ c.loop-place.invariant.same;
      posts = post_next (kept_by c.args.handles.now) c.loop-place.place (get_or c.loop-place.handles c.loop-place.place c.index-handles-place.result).slot.value
          (ap (λ (xs : List (Option Kept)). slice_get xs c.loop-place.place) (sym c.loop-place.invariant.same) ∙ here) (sym c.has_post.ensures.answer ∙ c.if-not-has_post.false) c.loop-place.invariant.posts;
    }

pub returns-clause-yes : goal.returns-clause-yes
returns-clause-yes c = λ _ i kept there. c.loop-place.invariant.posts i kept (omega (arith, at_kept c.args.handles.now i kept there, c.loop-place-test.false)) there
