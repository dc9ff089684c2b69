-- A diagram's items, one after the other.
use Rattle.std.proofs.Common.{◌≡◌, ℕ, ◌+◌, ◌<◌, ◌≤◌, List, length, map, drop, get_or, refl}
use Rattle.std.proofs.lemmas.List.{drop_all}
use Rattle.diagrams.proofs.MessagesLemmas.ListLemmas.{from_here}
use Rattle.diagrams.specs.declared.diagram.Item.{Item}
use Rattle.diagrams.specs.Collecting.{CollectedView, with_item, with_items}
use Rattle.diagrams.specs.Diagrams.{item_view}

-- one more item
pub item_more : (names : List (List ℕ)) (n : ℕ) (items : List Item) (c more : CollectedView) (x : Item) → n < length items → x ≡ get_or items n x
    → more ≡ with_item names n (item_view x) c
    → with_items names (n + 1) (map item_view (drop (n + 1) items)) more ≡ with_items names n (map item_view (drop n items)) c
unfolding with_items
item_more names n items c more x within is e = rw (from_here items n x within is, e) refl

-- all items
pub items_end : (names : List (List ℕ)) (n : ℕ) (items : List Item) (c : CollectedView) → length items ≤ n → with_items names n (map item_view (drop n items)) c ≡ c
unfolding with_items
items_end names n items c past = rw (drop_all n items past) refl
