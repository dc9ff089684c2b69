-- The messages of arrows that stay: those between instances, those in order, and those that none passes.
use Rattle.std.proofs.Common.{◌≡◌, ℕ, ◌&&◌, ◌||◌, not, Bool, true, false, cond, List, [], ◌∷◌, ◌++◌, map, filter, None, refl, sym, ap, ◌∙◌}
use Rattle.std.specs.List.{list_any}
use Rattle.std.proofs.lemmas.List.{map-append}
use Rattle.diagrams.specs.Crossing.{crosses, fault_with, fault_from}
use Rattle.diagrams.specs.Crossing as crossing
use Rattle.diagrams.specs.Losing.{is_received_later, kept}
use Rattle.diagrams.specs.Diagrams.{ArrowView}
use Rattle.diagrams.specs.declared.message.Message.{Message}
use Rattle.diagrams.specs.Messages.Each.{Each}
use Rattle.diagrams.proofs.MessagesLemmas.EachLemmas.{each_filter}
use Rattle.diagrams.proofs.StayingLemmas.{none_overtakes}
use Rattle.diagram_laws.specs.Arrows.{arrives, is_within, overtakes, across, in_order, not_passed, kept_arrows}
use Rattle.diagram_laws.proofs.Lists.{any_map, filter_map}
use Rattle.diagram_laws.proofs.NumberedLemmas.{Numbered, arrow, message}

module _ (at : ℕ → ℕ) where
  -- the message between the arrow's instances
  abbrev pub to : Numbered → Message
  to x = record (message x) { sender = at x.1.sender; receiver = at x.1.receiver }

  -- the same lists, of arrows with numbers
  abbrev pub between : List Numbered → List Numbered
  between xs = filter (λ x. not (is_within at x.1)) xs

  abbrev pub ordered : List Numbered → List Numbered → List Numbered
  ordered earlier [] = []
  ordered earlier (x ∷ xs) = cond (list_any (λ y. overtakes at x.1 y.1) earlier) (ordered (earlier ++ x ∷ []) xs) (x ∷ ordered (earlier ++ x ∷ []) xs)

  abbrev pub firsts : List Numbered → List Numbered
  firsts [] = []
  firsts (x ∷ xs) = cond (x.1.is_lost && list_any (λ y. arrives at (at x.1.sender) (at x.1.receiver) y.1) xs) (firsts xs) (x ∷ firsts xs)

  abbrev pub stay : List Numbered → List Numbered
  stay xs = firsts (ordered [] (between xs))

  -- the arrows
  any_arrow : (x : Numbered) (earlier : List Numbered) → list_any (overtakes at x.1) (map arrow earlier) ≡ list_any (λ y. overtakes at x.1 y.1) earlier
  any_arrow x earlier = any_map arrow (overtakes at x.1) earlier

  more : {B : Type 0} (f : Numbered → B) (earlier : List Numbered) (x : Numbered) → map f earlier ++ f x ∷ [] ≡ map f (earlier ++ x ∷ [])
  more f earlier x = sym (map-append f earlier (x ∷ []))

  ordered_arrows : (earlier xs : List Numbered) → in_order at (map arrow earlier) (map arrow xs) ≡ map arrow (ordered earlier xs)
  unfolding in_order
  ordered_arrows earlier [] = refl
  ordered_arrows earlier (x ∷ xs) =
      ap (λ b. cond b (in_order at (map arrow earlier ++ x.1 ∷ []) (map arrow xs)) (x.1 ∷ in_order at (map arrow earlier ++ x.1 ∷ []) (map arrow xs))) (any_arrow x earlier)
      ∙ ap (λ l. cond (list_any (λ y. overtakes at x.1 y.1) earlier) (in_order at l (map arrow xs)) (x.1 ∷ in_order at l (map arrow xs))) (more arrow earlier x)
      ∙ go (list_any (λ y. overtakes at x.1 y.1) earlier) (ordered_arrows (earlier ++ x ∷ []) xs)
    where
      go : (its : Bool) {rows : List ArrowView} → rows ≡ map arrow (ordered (earlier ++ x ∷ []) xs)
          → cond its rows (x.1 ∷ rows) ≡ map arrow (cond its (ordered (earlier ++ x ∷ []) xs) (x ∷ ordered (earlier ++ x ∷ []) xs))
      go true rest = rest
      go false rest = ap (λ l. x.1 ∷ l) rest

  firsts_arrows : (xs : List Numbered) → not_passed at (map arrow xs) ≡ map arrow (firsts xs)
  unfolding not_passed
  firsts_arrows [] = refl
  firsts_arrows (x ∷ xs) =
      ap (λ b. cond (x.1.is_lost && b) (not_passed at (map arrow xs)) (x.1 ∷ not_passed at (map arrow xs))) (any_map arrow (arrives at (at x.1.sender) (at x.1.receiver)) xs)
      ∙ go (x.1.is_lost && list_any (λ y. arrives at (at x.1.sender) (at x.1.receiver) y.1) xs) (firsts_arrows xs)
    where
      go : (its : Bool) {rows : List ArrowView} → rows ≡ map arrow (firsts xs) → cond its rows (x.1 ∷ rows) ≡ map arrow (cond its (firsts xs) (x ∷ firsts xs))
      go true rest = rest
      go false rest = ap (λ l. x.1 ∷ l) rest

  pub order_arrows : (xs : List Numbered) → in_order at [] (across at (map arrow xs)) ≡ map arrow (ordered [] (between xs))
  order_arrows xs = ap (in_order at []) (filter_map arrow (λ a. not (is_within at a)) xs) ∙ ordered_arrows [] (between xs)

  pub stay_arrows : (xs : List Numbered) → kept_arrows at (map arrow xs) ≡ map arrow (stay xs)
  stay_arrows xs = ap (not_passed at) (order_arrows xs) ∙ firsts_arrows (ordered [] (between xs))

  -- what holds of each arrow
  module _ (P : Numbered → Type 0) where
    each_ordered : (earlier xs : List Numbered) → Each P xs → Each P (ordered earlier xs)
    each_ordered earlier [] all = tt
    each_ordered earlier (x ∷ xs) all = go (list_any (λ y. overtakes at x.1 y.1) earlier) (each_ordered (earlier ++ x ∷ []) xs all.1)
      where
        go : (its : Bool) → Each P (ordered (earlier ++ x ∷ []) xs) → Each P (cond its (ordered (earlier ++ x ∷ []) xs) (x ∷ ordered (earlier ++ x ∷ []) xs))
        go true rest = rest
        go false rest = (all.0, rest)

    each_first : (xs : List Numbered) → Each P xs → Each P (firsts xs)
    each_first [] all = tt
    each_first (x ∷ xs) all = go (x.1.is_lost && list_any (λ y. arrives at (at x.1.sender) (at x.1.receiver) y.1) xs) (each_first xs all.1)
      where
        go : (its : Bool) → Each P (firsts xs) → Each P (cond its (firsts xs) (x ∷ firsts xs))
        go true rest = rest
        go false rest = (all.0, rest)

    pub each_stay : (xs : List Numbered) → Each P xs → Each P (stay xs)
    each_stay xs all = each_first (ordered [] (between xs)) (each_ordered [] (between xs) (each_filter P (λ x. not (is_within at x.1)) xs all))

  -- the messages
  pub firsts_messages : (xs : List Numbered) → kept (map to xs) ≡ map to (firsts xs)
  unfolding kept is_received_later
  firsts_messages [] = refl
  firsts_messages (x ∷ xs) =
      ap (λ b. cond (x.1.is_lost && b) (kept (map to xs)) (to x ∷ kept (map to xs))) (any_map to (crossing.is_received (at x.1.sender) (at x.1.receiver)) xs)
      ∙ go (x.1.is_lost && list_any (λ y. arrives at (at x.1.sender) (at x.1.receiver) y.1) xs) (firsts_messages xs)
    where
      go : (its : Bool) {ms : List Message} → ms ≡ map to (firsts xs) → cond its ms (to x ∷ ms) ≡ map to (cond its (firsts xs) (x ∷ firsts xs))
      go true rest = rest
      go false rest = ap (λ l. to x ∷ l) rest

  -- if none overtakes, all are in order
  each_none : (x : Numbered) (earlier : List Numbered) → Each (λ n. crossing.overtakes (to x) n ≡ false) (map to earlier) → list_any (λ y. overtakes at x.1 y.1) earlier ≡ false
  each_none x [] all = refl
  each_none x (y ∷ earlier) all = ap (λ b. b || list_any (λ z. overtakes at x.1 z.1) earlier) all.0 ∙ each_none x earlier all.1

  pub all_ordered : (fault : _) (earlier xs : List Numbered) → fault_from fault (map to earlier) (map to xs) ≡ None → ordered earlier xs ≡ xs
  unfolding fault_from
  all_ordered fault earlier [] none = refl
  all_ordered fault earlier (x ∷ xs) none =
      ap (λ b. cond b (ordered (earlier ++ x ∷ []) xs) (x ∷ ordered (earlier ++ x ∷ []) xs)) (each_none x earlier (none_overtakes fault (map to earlier) (to x ∷ map to xs) none).before.0)
      ∙ ap (λ l. x ∷ l) (all_ordered (fault_with fault (to x) (map to earlier)) (earlier ++ x ∷ []) xs
      (ap (λ l. fault_from (fault_with fault (to x) (map to earlier)) l (map to xs)) (sym (more to earlier x)) ∙ none))
