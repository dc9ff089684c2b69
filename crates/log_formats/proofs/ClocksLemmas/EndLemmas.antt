-- The ends of messages at each event, after one more heard entry.
use Rattle.std.proofs.Common.{◌≡◌, ℕ, ◌<◌, ◌==◌, Bool, true, false, cond, List, [], ◌∷◌, ◌++◌, map, Option, None, Some, length, get_or, set, take, drop, ◌+◌, replicate, refl, sym, ap, ◌∙◌, subst, arith, eqb-true}
use Rattle.std.proofs.lemmas.Bool.{eqb-false}
use Rattle.std.proofs.lemmas.List.{append-nil, length-set, length-replicate, get_or-replicate, get_or-set_same, get_or-set_other, get_or-map, map-set, map_more, drop_more}
use Rattle.std.proofs.lemmas.List.Elements.{filter-append}
use Rattle.log_formats.specs.Clocks.Ends.{place_of, is_from, ends_at, with_end, AreEnds}
use Rattle.log_formats.specs.Clocks.Hearing.{HeardView}
use Rattle.log_formats.specs.declared.clocks.ends.End.{End}
use Rattle.log_formats.specs.declared.clocks.ends.End.TheVariants.{Send, Receive}
use Rattle.log_formats.specs.Clocks.Moments.{MomentView}
use Rattle.log_formats.specs.Clocks.Saying.{with_ends, with_all_moments}
use Rattle.log_lines.specs.Reading.{ReadView}

-- nothing is heard yet
pub ends_none : (end : End) (count : ℕ) (lists : List (List HeardView)) → lists ≡ replicate count [] → AreEnds end count [] lists
ends_none end count lists none = record {
  whole = ap length none ∙ length-replicate count [];
  each = λ at less. ap (λ l. get_or l at []) none ∙ get_or-replicate count at [] [] less;
}

module _ (end : End) (count : ℕ) (all : List HeardView) (h : HeardView) (lists : List (List HeardView)) (are : AreEnds end count all lists) where
  more_at : (at : ℕ) (b : Bool) → is_from at (place_of end h) ≡ b → ends_at end at (all ++ h ∷ []) ≡ ends_at end at all ++ cond b (h ∷ []) []
  more_at at b is =
      filter-append (λ x. is_from at (place_of end x)) all (h ∷ []) ∙ ap (λ t. ends_at end at all ++ cond t (h ∷ []) []) is

  go : (place : Option ℕ) → place_of end h ≡ place → AreEnds end count (all ++ h ∷ []) (with_end lists place h)
  go None is = record {
    whole = are.whole;
    each = λ at less. are.each at less ∙ sym (append-nil (ends_at end at all)) ∙ sym (more_at at false (ap (is_from at) is));
  }
  go (Some place) is = record {
    whole = length-set lists place (get_or lists place [] ++ h ∷ []) ∙ are.whole;
    each = λ at less. by at less (place == at) refl;
  }
    where
      new : List HeardView
      new = get_or lists place [] ++ h ∷ []

      by : (at : ℕ) → at < count → (b : Bool) → (place == at) ≡ b → get_or (set lists place new) at [] ≡ ends_at end at (all ++ h ∷ [])
      by at less true same =
          let here : place ≡ at = eqb-true place at same in
          let whole = are.whole in
          subst (λ k. get_or (set lists place new) k [] ≡ ends_at end k (all ++ h ∷ [])) here
          (get_or-set_same lists place new [] (omega (arith, here, whole)) ∙ ap (λ l. l ++ h ∷ []) (are.each place (omega (arith, here))) ∙ sym (more_at place true (ap (is_from place) is ∙ ap (λ k. place == k) here ∙ same)))
      by at less false other =
          get_or-set_other lists place at new [] (λ e. eqb-false place at other (sym e)) ∙ are.each at less ∙ sym (append-nil (ends_at end at all)) ∙ sym (more_at at false (ap (is_from at) is ∙ other))

  -- one more heard entry
  pub ends_more : AreEnds end count (all ++ h ∷ []) (with_end lists (place_of end h) h)
  ends_more = go (place_of end h) refl

-- one more element in a list of lists, of whatever type
pub put_is : {A : Type 0} (view : A → List HeardView) (lists : List A) (place : ℕ) (old new : A) (h : HeardView) (o : Option ℕ) → o ≡ Some place → place < length lists → old ≡ get_or lists place old
    → view new ≡ view old ++ h ∷ [] → map view (set lists place new) ≡ with_end (map view lists) o h
put_is view lists place old new h o some within read more =
    map-set view lists place new ∙ ap (set (map view lists) place) (more ∙ ap (λ l. l ++ h ∷ []) (ap view read ∙ sym (get_or-map view lists place old [] within)))
    ∙ sym (ap (λ p. with_end (map view lists) p h) some)

-- the next heard entry, in its list
pub ends_next : {A : Type 0} (view : A → HeardView) (end : End) (count : ℕ) (all : List A) (i : ℕ) (d : A) (place : Option ℕ) (old new : List (List HeardView)) → i < length all
    → AreEnds end count (map view (take i all)) old → place ≡ place_of end (view (get_or all i d)) → new ≡ with_end old place (view (get_or all i d)) → AreEnds end count (map view (take (i + 1) all)) new
ends_next view end count all i d place old new within are place_is new_is =
    let h = view (get_or all i d) in
    subst (λ l. AreEnds end count l new) (sym (map_more view all i d within))
    (subst (AreEnds end count (map view (take i all) ++ h ∷ [])) (sym (new_is ∙ ap (λ p. with_end old p h) place_is)) (ends_more end count (map view (take i all)) h old are))

-- the next event gives what its lists have
pub moments_next : {A : Type 0} (view : A → MomentView) (xs : List A) (at : ℕ) (x : A) → at < length xs → x ≡ get_or xs at x → (all : List HeardView) (received sent : List (List HeardView)) (got given : List HeardView)
    (old new : ReadView) → AreEnds Receive (length xs) all received → AreEnds Send (length xs) all sent → got ≡ get_or received at [] → given ≡ get_or sent at []
    → new ≡ with_ends (map view xs) (view x) got given old
    → with_all_moments (map view xs) all (at + 1) (map view (drop (at + 1) xs)) new ≡ with_all_moments (map view xs) all at (map view (drop at xs)) old
moments_next view xs at x within read all received sent got given old new receives sends got_is given_is new_is =
    let ended : new ≡ with_ends (map view xs) (view x) (ends_at Receive at all) (ends_at Send at all) old =
    new_is ∙ ap (λ l. with_ends (map view xs) (view x) l given old) (got_is ∙ receives.each at within)
    ∙ ap (λ l. with_ends (map view xs) (view x) (ends_at Receive at all) l old) (given_is ∙ sends.each at within) in
    let whole : drop at xs ≡ x ∷ drop (at + 1) xs = drop_more xs at x within ∙ ap (λ y. y ∷ drop (at + 1) xs) (sym read) in
    ap (λ r. with_all_moments (map view xs) all (at + 1) (map view (drop (at + 1) xs)) r) ended ∙ sym (ap (λ l. with_all_moments (map view xs) all at (map view l) old) whole)

-- the list of a place
pub list_is : {A : Type 0} (view : A → List HeardView) (lists : List A) (at : ℕ) (x : A) (got : List HeardView) → at < length lists → x ≡ get_or lists at x → got ≡ view x → got ≡ get_or (map view lists) at []
list_is view lists at x got within read got_is = got_is ∙ ap view read ∙ sym (get_or-map view lists at x [] within)

-- equal lists
pub ends_same : (end : End) (n k : ℕ) (some all : List HeardView) (xs ys : List (List HeardView)) → n ≡ k → some ≡ all → xs ≡ ys → AreEnds end n some xs → AreEnds end k all ys
ends_same end n k some all xs ys count heard lists are = record {
  whole = ap length (sym lists) ∙ are.whole ∙ count;
  each = λ at less. ap (λ l. get_or l at []) (sym lists) ∙ are.each at (omega (arith, count)) ∙ ap (ends_at end at) heard;
}
