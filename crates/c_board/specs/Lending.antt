-- What a slot, and what it keeps, end as, where a part of it is lent.
use Rattle.std.specs.Prelude.{Option, Some}
use Rattle.std.specs.Borrow.{Lends, LendsIf, MutBor, Fml}
use Rattle.c_board.specs.declared.kept.Kept.{Kept}
use Rattle.c_board.specs.declared.kept.Kept.TheVariants.{Post}
use Rattle.c_board.specs.declared.slot.Slot.{Slot}
use Rattle.c_board.specs.contracts.kept.Kept as kept
use Rattle.c_board.specs.contracts.post_state.PostState as post_state
use Rattle.c_board.specs.contracts.slot.Slot as slot
use Rattle.c_board.specs.PostStates.{PostStateView}

-- the slot with this content
abbrev pub with_kept : Slot → Kept → Slot
with_kept it content = record it { value = Some content }

-- the slot ends with the last content behind the reference
abbrev pub LendsKept : MutBor Slot → MutBor Kept → Fml
LendsKept it content = Lends slot.the_row kept.the_row it content (with_kept it.now)

-- what is kept ends as the last post behind the reference
abbrev pub LendsPost : MutBor Kept → Option (MutBor PostStateView) → Fml
LendsPost it post = LendsIf kept.the_row post_state.the_row it post Post it.now
