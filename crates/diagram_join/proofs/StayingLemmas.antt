-- Properties of the messages of joined lines.
use Rattle.std.proofs.Common.{◌≡◌, ℕ, ◌≤◌, Bool, true, false, not, ◌||◌, ◌==◌, cond, List, [], ◌∷◌, ◌++◌, None, length, map, filter, refl, sym, ap, ◌∙◌, subst}
use Rattle.std.specs.List.{list_any}
use Rattle.std.proofs.lemmas.Bool.{or_parts, eqb-false}
use Rattle.std.proofs.lemmas.List.Folds.{list_any-append}
use Rattle.diagrams.specs.Messages.Each.{Each, Pairs}
use Rattle.diagrams.proofs.MessagesLemmas.EachLemmas.{each_weaker, each_passing, pairs_filter}
use Rattle.diagrams.specs.Crossing.{overtakes, crosses, fault_from}
use Rattle.diagrams.specs.declared.message.Message.{Message}
use Rattle.diagrams.proofs.CrossingLemmas.{fault_stays}
use Rattle.diagrams.proofs.PlacedLemmas.{IsCollected, AreCollected}
use Rattle.diagram_join.specs.Joined.{all_across}
use Rattle.diagram_join.specs.Joins.{names_from}
use Rattle.diagram_join.specs.Moves.{instance_at, moved, is_across, staying, staying_from}
use Rattle.diagram_join.proofs.InstanceLemmas.{instance_within}

module _ {A B : Type 0} (f : A → B) where
  each_map : (P : B → Type 0) (xs : List A) → Each (λ x. P (f x)) xs → Each P (map f xs)
  each_map P [] all = tt
  each_map P (x ∷ xs) all = (all.0, each_map P xs all.1)

  pairs_map : (R : B → B → Type 0) (xs : List A) → Pairs (λ x y. R (f x) (f y)) xs → Pairs R (map f xs)
  pairs_map R [] all = tt
  pairs_map R (x ∷ xs) all = (each_map (R (f x)) xs all.0, pairs_map R xs all.1)

-- the messages that stay are some of the messages
each_staying : (P : Message → Type 0) (earlier messages : List Message) → Each P messages → Each P (staying_from earlier messages)
unfolding staying_from
each_staying P earlier [] all = tt
each_staying P earlier (m ∷ messages) all = go (crosses earlier m) (each_staying P (earlier ++ m ∷ []) messages all.1)
  where
    go : (its : Bool) → Each P (staying_from (earlier ++ m ∷ []) messages) → Each P (cond its [] (m ∷ []) ++ staying_from (earlier ++ m ∷ []) messages)
    go true rest = rest
    go false rest = (all.0, rest)

pairs_staying : (R : Message → Message → Type 0) (earlier messages : List Message) → Pairs R messages → Pairs R (staying_from earlier messages)
unfolding staying_from
pairs_staying R earlier [] all = tt
pairs_staying R earlier (m ∷ messages) all = go (crosses earlier m) (pairs_staying R (earlier ++ m ∷ []) messages all.1)
  where
    go : (its : Bool) → Pairs R (staying_from (earlier ++ m ∷ []) messages) → Pairs R (cond its [] (m ∷ []) ++ staying_from (earlier ++ m ∷ []) messages)
    go true rest = rest
    go false rest = (each_staying (R m) (earlier ++ m ∷ []) messages all.0, rest)

-- none of them overtakes another one
crosses_parts : (earlier : List Message) (m x : Message) → crosses (earlier ++ m ∷ []) x ≡ false → (crosses earlier x ≡ false) × (overtakes x m ≡ false)
unfolding crosses
crosses_parts earlier m x none =
    let parts = or_parts (list_any (λ n. overtakes x n) earlier) (list_any (λ n. overtakes x n) (m ∷ [])) (sym (list_any-append (λ n. overtakes x n) earlier (m ∷ [])) ∙ none) in
    (parts.0, (or_parts (overtakes x m) false parts.1).0)

crosses_both : (earlier : List Message) (m x : Message) → crosses earlier x ≡ false → overtakes x m ≡ false → crosses (earlier ++ m ∷ []) x ≡ false
unfolding crosses
crosses_both earlier m x none beside =
    list_any-append (λ n. overtakes x n) earlier (m ∷ []) ∙ ap (λ b. b || list_any (λ n. overtakes x n) (m ∷ [])) none ∙ ap (λ b. b || false) beside

sound : (earlier stays messages : List Message) → ((x : Message) → crosses earlier x ≡ false → crosses stays x ≡ false) → fault_from None stays (staying_from earlier messages) ≡ None
unfolding staying_from fault_from
sound earlier stays [] some = refl
sound earlier stays (m ∷ messages) some = go (crosses earlier m) refl (λ more. sound (earlier ++ m ∷ []) stays messages more) (λ more. sound (earlier ++ m ∷ []) (stays ++ m ∷ []) messages more)
  where
    go : (its : Bool) → crosses earlier m ≡ its
        → (((x : Message) → crosses (earlier ++ m ∷ []) x ≡ false → crosses stays x ≡ false) → fault_from None stays (staying_from (earlier ++ m ∷ []) messages) ≡ None)
        → (((x : Message) → crosses (earlier ++ m ∷ []) x ≡ false → crosses (stays ++ m ∷ []) x ≡ false) → fault_from None (stays ++ m ∷ []) (staying_from (earlier ++ m ∷ []) messages) ≡ None)
        → fault_from None stays (cond its [] (m ∷ []) ++ staying_from (earlier ++ m ∷ []) messages) ≡ None
    go true e gone stay = gone (λ x none. some x (crosses_parts earlier m x none).0)
    go false e gone stay = subst (λ f. fault_from f (stays ++ m ∷ []) (staying_from (earlier ++ m ∷ []) messages) ≡ None) (sym (fault_stays None m stays (some m e)))
        (stay (λ x none. let parts = crosses_parts earlier m x none in crosses_both stays m x (some x parts.0) parts.1))

pub stays_sound : (messages : List Message) → fault_from None [] (staying_from [] messages) ≡ None
stays_sound messages = sound [] [] messages (λ x none. none)

-- messages between instances
is_false : (b : Bool) → not b ≡ true → b ≡ false
is_false true e = absurd (cc e)
is_false false e = refl

between : (processes : List (List ℕ)) (row : ℕ) (m : Message) → IsCollected (length processes) row m → is_across (moved (names_from [] processes) processes m) ≡ true
    → IsCollected (length (names_from [] processes)) row (moved (names_from [] processes) processes m)
between processes row m is across =
    let from = instance_within processes m.sender is.two.0 is.two.1 in
    let to = instance_within processes m.receiver is.two.2 is.two.3 in
    record {
      two = (from.0, from.1, to.0, to.1, eqb-false (instance_at (names_from [] processes) processes m.sender) (instance_at (names_from [] processes) processes m.receiver) (is_false _ across));
      down = is.down;
      above = is.above;
    }

pub stays_collected : (processes : List (List ℕ)) (row : ℕ) (messages : List Message) → AreCollected (length processes) row messages
    → AreCollected (length (names_from [] processes)) row (staying_from [] (all_across (names_from [] processes) processes messages))
stays_collected processes row messages are = record {
  each = each_staying (IsCollected (length (names_from [] processes)) row) [] (all_across (names_from [] processes) processes messages)
      (each_passing (IsCollected (length (names_from [] processes)) row) is_across (map (moved (names_from [] processes) processes) messages)
      (each_map (moved (names_from [] processes) processes) (λ m. is_across m ≡ true → IsCollected (length (names_from [] processes)) row m) messages
      (each_weaker (IsCollected (length processes) row) (λ m. is_across (moved (names_from [] processes) processes m) ≡ true → IsCollected (length (names_from [] processes)) row (moved (names_from [] processes) processes m))
      (between processes row) messages are.each)));
  order = pairs_staying (λ m k. m.begins ≤ k.begins) [] (all_across (names_from [] processes) processes messages)
      (pairs_filter (λ m k. m.begins ≤ k.begins) is_across (map (moved (names_from [] processes) processes) messages)
      (pairs_map (moved (names_from [] processes) processes) (λ m k. m.begins ≤ k.begins) messages are.order));
}
