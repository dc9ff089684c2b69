-- The messages of arrows whose participants are joined.
use Rattle.std.proofs.Common.{◌≡◌, ℕ, not, inl, inr, Bool, true, false, cond, List, [], ◌∷◌, ◌++◌, length, map, filter, Some, refl, sym, ap, ◌∙◌, arith, lt-ltb}
use Rattle.std.specs.Prelude.{position, option_map}
use Rattle.std.specs.List.{list_any, position_or_len}
use Rattle.std.proofs.lemmas.List.{map-append}
use Rattle.std.proofs.lemmas.Option.{slice_get_cases}
use Rattle.diagram_labels.proofs.Tables.{any_placed}
use Rattle.diagrams.specs.Crossing.{crosses}
use Rattle.diagrams.specs.Crossing as crossing
use Rattle.diagrams.specs.Diagrams.{ArrowView}
use Rattle.diagrams.specs.LeftOuts.{with_one}
use Rattle.diagrams.specs.declared.left_out.Kind.TheVariants as kinds
use Rattle.diagrams.specs.declared.left_out.LeftOut.{LeftOut}
use Rattle.diagrams.specs.declared.message.Message.{Message}
use Rattle.diagrams.specs.declared.place.Place.{Place}
use Rattle.diagram_join.specs.Moves.{is_across, staying_from, line_at, overtaken_in, overtakings, overtaking_from, with_within}
use Rattle.diagram_join.specs.declared.moves.Overtaking.{Overtaking}
use Rattle.diagram_laws.specs.Arrows.{is_within, overtakes, within, overtaking}
use Rattle.diagram_laws.proofs.Lists.{any_map, filter_map}
use Rattle.diagram_laws.proofs.NumberedLemmas.{Numbered, arrow}
use Rattle.diagram_laws.proofs.KeptLemmas.{to, between, ordered}
use Rattle.diagram_laws.proofs.CountLemmas.{Adds, adds_none, adds_before}

abbrev place_of : Overtaking → Place
place_of o = o.place

abbrev spot : ArrowView → Place
spot a = a.place

-- one of the messages passes the test, and has a line
some_line : (test : Message → Bool) (ms : List Message) → list_any test ms ≡ true → (line : ℕ) × (line_at ms (position test ms) ≡ Some line)
some_line test ms there =
    let found = any_placed test ms there in
    elim (slice_get_cases ms (position_or_len test ms)).1 [
      | inl w ↦ (w.0.place.line, rw (lt-ltb (position_or_len test ms) (length ms) found) (ap (λ o. option_map (λ (n : Message). n.place.line) o) w.2))
      | inr w ↦ absurd (omega (arith, w.0, found))
    ]

module _ (at : ℕ → ℕ) where
  pub between_messages : (xs : List Numbered) → filter is_across (map (to at) xs) ≡ map (to at) (between at xs)
  between_messages xs = filter_map (to at) is_across xs

  more : {B : Type 0} (f : Numbered → B) (earlier : List Numbered) (x : Numbered) → map f earlier ++ f x ∷ [] ≡ map f (earlier ++ x ∷ [])
  more f earlier x = sym (map-append f earlier (x ∷ []))

  pub ordered_messages : (earlier xs : List Numbered) → staying_from (map (to at) earlier) (map (to at) xs) ≡ map (to at) (ordered at earlier xs)
  unfolding staying_from crosses
  ordered_messages earlier [] = refl
  ordered_messages earlier (x ∷ xs) =
      ap (λ b. cond b [] (to at x ∷ []) ++ staying_from (map (to at) earlier ++ to at x ∷ []) (map (to at) xs)) (any_map (to at) (crossing.overtakes (to at x)) earlier)
      ∙ ap (λ l. cond (list_any (λ y. overtakes at x.1 y.1) earlier) [] (to at x ∷ []) ++ staying_from l (map (to at) xs)) (more (to at) earlier x)
      ∙ go (list_any (λ y. overtakes at x.1 y.1) earlier) (ordered_messages (earlier ++ x ∷ []) xs)
    where
      go : (its : Bool) {ms : List Message} → ms ≡ map (to at) (ordered at (earlier ++ x ∷ []) xs)
          → cond its [] (to at x ∷ []) ++ ms ≡ map (to at) (cond its (ordered at (earlier ++ x ∷ []) xs) (x ∷ ordered at (earlier ++ x ∷ []) xs))
      go true rest = rest
      go false rest = ap (λ l. to at x ∷ l) rest

  pub overtaking_places : (earlier xs : List Numbered) → map place_of (overtaking_from (map (to at) earlier) (map (to at) xs)) ≡ map spot (overtaking at (map arrow earlier) (map arrow xs))
  unfolding overtaking_from crosses overtaking
  overtaking_places earlier [] = refl
  overtaking_places earlier (x ∷ xs) =
      map-append place_of (cond (list_any (λ n. crossing.overtakes (to at x) n) (map (to at) earlier)) (overtakings (to at x) (overtaken_in (map (to at) earlier) (to at x))) []) (overtaking_from (map (to at) earlier ++ to at x ∷ []) (map (to at) xs))
      ∙ go (list_any (λ n. crossing.overtakes (to at x) n) (map (to at) earlier)) refl
      (any_map arrow (overtakes at x.1) earlier ∙ sym (any_map (to at) (crossing.overtakes (to at x)) earlier))
      (ap (λ l. map place_of (overtaking_from l (map (to at) xs))) (more (to at) earlier x) ∙ overtaking_places (earlier ++ x ∷ []) xs ∙ ap (λ l. map spot (overtaking at l (map arrow xs))) (sym (more arrow earlier x)))
    where
      go : (its : Bool) → list_any (λ n. crossing.overtakes (to at x) n) (map (to at) earlier) ≡ its
          → list_any (overtakes at x.1) (map arrow earlier) ≡ list_any (λ n. crossing.overtakes (to at x) n) (map (to at) earlier)
          → {places : List Place} → places ≡ map spot (overtaking at (map arrow earlier ++ x.1 ∷ []) (map arrow xs))
          → map place_of (cond its (overtakings (to at x) (overtaken_in (map (to at) earlier) (to at x))) []) ++ places
          ≡ map spot (cond (list_any (overtakes at x.1) (map arrow earlier)) (x.1 ∷ overtaking at (map arrow earlier ++ x.1 ∷ []) (map arrow xs)) (overtaking at (map arrow earlier ++ x.1 ∷ []) (map arrow xs)))
      go true e same rest =
          let line = some_line (crossing.overtakes (to at x)) (map (to at) earlier) e in
          rw (same ∙ e, line.1) (ap (λ l. x.1.place ∷ l) rest)
      go false e same rest = rw (same ∙ e) rest

  pub within_added : (left_out : List LeftOut) (xs : List Numbered) → Adds kinds.MessageWithin (length (within at (map arrow xs))) left_out (with_within left_out (map (to at) xs))
  unfolding with_within
  within_added left_out [] = adds_none kinds.MessageWithin left_out
  within_added left_out (x ∷ xs) = go (is_within at x.1) (λ ls. within_added ls xs)
    where
      go : (its : Bool) → ((ls : List LeftOut) → Adds kinds.MessageWithin (length (within at (map arrow xs))) ls (with_within ls (map (to at) xs)))
          → Adds kinds.MessageWithin (length (cond its (x.1 ∷ within at (map arrow xs)) (within at (map arrow xs)))) left_out
          (with_within (cond (not its) left_out (with_one left_out kinds.MessageWithin x.1.place)) (map (to at) xs))
      go true rest = adds_before kinds.MessageWithin (length (within at (map arrow xs))) x.1.place left_out (with_within (with_one left_out kinds.MessageWithin x.1.place) (map (to at) xs))
          (rest (with_one left_out kinds.MessageWithin x.1.place))
      go false rest = rest left_out
