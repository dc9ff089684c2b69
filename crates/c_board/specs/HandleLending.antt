-- What a handle ends as, where its post is lent.
use Rattle.std.specs.Prelude.{◌≡◌, Option, Some, OnSome}
use Rattle.std.specs.Borrow.{LendsSo, MutBor, Fml}
use Rattle.c_board.specs.declared.handle.Handle.{Handle}
use Rattle.c_board.specs.declared.kept.Kept.TheVariants.{Post}
use Rattle.c_board.specs.contracts.handle.Handle as handle
use Rattle.c_board.specs.contracts.post_state.PostState as post_state
use Rattle.c_board.specs.PostStates.{PostStateView}

-- the handle ends with the last post behind the reference, or as it was
abbrev pub LendsItsPost : MutBor Handle → Option (MutBor PostStateView) → Fml
LendsItsPost it post = LendsSo handle.the_row post_state.the_row it post
    (λ now state. OnSome post (now.slot.value ≡ Some (Post state))) (λ now. now.slot.value ≡ it.now.slot.value)
