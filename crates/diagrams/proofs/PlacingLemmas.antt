-- Items one after the other, up to the first misplaced one.
use Rattle.std.proofs.Common.{◌≡◌, ℕ, ◌+◌, ◌<◌, ◌≤◌, true, false, List, None, Some, length, map, drop, get_or, refl}
use Rattle.std.proofs.lemmas.List.{drop_all}
use Rattle.diagrams.specs.Diagrams.{item_view}
use Rattle.diagrams.specs.Placing.{row_of, place_of, may_stand, first_misplaced}
use Rattle.diagrams.specs.declared.diagram.Item.{Item}
use Rattle.diagrams.proofs.MessagesLemmas.ListLemmas.{from_here}

-- an item that may follow, and a misplaced one
pub placed_more : (count row next n : ℕ) (items : List Item) (i : Item) → n < length items → i ≡ get_or items n i → may_stand count row (item_view i) ≡ true → next ≡ row_of (item_view i)
    → first_misplaced count next (map item_view (drop (n + 1) items)) ≡ first_misplaced count row (map item_view (drop n items))
unfolding first_misplaced
placed_more count row next n items i within is may e = rw (from_here items n i within is, may, e) refl

pub misplaced_here : (count row n : ℕ) (items : List Item) (i : Item) → n < length items → i ≡ get_or items n i → may_stand count row (item_view i) ≡ false
    → first_misplaced count row (map item_view (drop n items)) ≡ Some (place_of (item_view i))
unfolding first_misplaced
misplaced_here count row n items i within is may = rw (from_here items n i within is, may) refl

-- all items
pub placed_end : (count row n : ℕ) (items : List Item) → length items ≤ n → first_misplaced count row (map item_view (drop n items)) ≡ None
unfolding first_misplaced
placed_end count row n items past = rw (drop_all n items past) refl
