-- The instances that send in each row, and the events, one message after the other.
use Rattle.std.proofs.Common.{◌≡◌, ℕ, ◌+◌, ◌<◌, Bool, true, false, ◌&&◌, ◌||◌, ◌==◌, cond, List, [], ◌∷◌, ◌++◌, Option, None, Some, length, take, get_or, refl, sym, ap, ◌∙◌}
use Rattle.std.specs.Prelude.{is_some}
use Rattle.std.specs.List.{flat_map, list_any}
use Rattle.std.specs.Map.{lookup}
use Rattle.std.proofs.lemmas.Grind.{flat_map-append}
use Rattle.std.proofs.lemmas.List.{append-nil, take_more}
use Rattle.std.proofs.lemmas.List.Folds.{list_any_more}
use Rattle.diagrams.specs.declared.message.Message.{Message}
use Rattle.diagram_join.specs.Turns.Sends.{same_spot, AreSends}
use Rattle.diagram_join.specs.Turns.Turns.{is_sent, sends_in}
use Rattle.diagram_join.specs.declared.turns.moments.Moment.{Moment}
use Rattle.diagram_join.specs.declared.turns.sends.Spot.{Spot}

-- a table with one more row
pub sends_more : (old new : List (Spot × Bool)) (messages : List Message) (n : ℕ) (m : Message) → n < length messages → m ≡ get_or messages n m
    → ((q : Spot) → lookup (same_spot q) new ≡ cond (same_spot (record { row = m.begins; instance = m.sender }) q) (Some true) (lookup (same_spot q) old))
    → AreSends old (take n messages) → AreSends new (take (n + 1) messages)
sends_more old new messages n m within is puts are = λ row p.
    ap is_some (puts (record { row = row; instance = p }))
    ∙ either (is_sent row p m) (lookup (same_spot (record { row = row; instance = p })) old)
    ∙ ap (λ b. b || is_sent row p m) (are row p)
    ∙ sym (list_any_more (is_sent row p) messages n m within ∙ ap (λ x. list_any (is_sent row p) (take n messages) || is_sent row p x) (sym is))
  where
    either : (its : Bool) (found : Option Bool) → is_some (cond its (Some true) found) ≡ (is_some found || its)
    either true None = refl
    either true (Some b) = refl
    either false None = refl
    either false (Some b) = refl

-- a list with the results for one more element
pub flat_more : {A B : Type 0} (f : A → List B) (done next : List B) (xs : List A) (n : ℕ) (x : A) → n < length xs → x ≡ get_or xs n x
    → next ≡ done ++ f x → done ≡ flat_map f (take n xs) → next ≡ flat_map f (take (n + 1) xs)
flat_more f done next xs n x within is e so_far =
    e ∙ ap (λ l. l ++ f x) so_far
    ∙ sym (ap (flat_map f) (take_more xs n x within) ∙ flat_map-append f (take n xs) (get_or xs n x ∷ []) ∙ ap (λ l. flat_map f (take n xs) ++ l) (append-nil (f (get_or xs n x))) ∙ ap (λ y. flat_map f (take n xs) ++ f y) (sym is))
