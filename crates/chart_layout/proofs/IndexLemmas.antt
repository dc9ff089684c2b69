-- The rows that are kept for each instance, when a row is added.
use Rattle.std.proofs.Common.{◌≡◌, ℕ, zero, suc, ◌+◌, ◌==◌, ◌||◌, ◌⊎◌, inl, inr, Bool, true, false, cond, List, [], ◌∷◌, ◌++◌, length, Option, None, Some, refl, sym, ap, ◌∙◌, subst, arith, add-one, length-append, eq-eqb, eqb-true, replicate}
use Rattle.std.proofs.lemmas.Bool.{cases_eq, cases_lt, cases_Bool, and_parts, and_from, both_ways}
use Rattle.std.proofs.lemmas.List.{get_or-set_same, get_or-set_other, get_or-replicate, get_or_past, length-replicate, length-set, length_push}
use Rattle.std.proofs.lemmas.Option.{slice_get_past}
use Rattle.chart.specs.declared.instance.EventNo.{EventNo}
use Rattle.chart.specs.declared.instance.TheConstants.{MAX_INSTANCES}
use Rattle.chart.specs.Charts.{Place}
use Rattle.chart.specs.Events.{ith}
use Rattle.chart.proofs.Tally.{ith_push}
use Rattle.chart.proofs.Belongs.{same_place}
use Rattle.closure.specs.Faults.{place_of}
use Rattle.chart_layout.specs.declared.row.Row.{Row}
use Rattle.chart_layout.specs.declared.row.Row.TheVariants.{Message, Event}
use Rattle.chart_layout.specs.Layouts.{number_on, laid_out, is_at, row_of, IsNext}
use Rattle.chart_layout.specs.Indexes.{line_at, IsIndex, IsPut, ArePut, AreNext}
use Rattle.chart_layout.proofs.LaidOutLemmas.{laid_out-push, length-number_on}
use Rattle.chart_layout.proofs.RowLemmas.{row_of-push_old, row_of-push_new}

-- a list has no element past its end, and other places keep theirs
ith-past : (xs : List ℕ) → ith xs (length xs + 1) ≡ None
ith-past xs = ap (ith xs) (add-one (length xs)) ∙ slice_get_past xs (length xs) (omega arith)

ith-push_other : (xs : List ℕ) (n j : ℕ) → (j ≡ length xs + 1 → ⊥) → ith (xs ++ n ∷ []) j ≡ ith xs j
ith-push_other xs n zero other = refl
ith-push_other [] n (suc zero) other = absurd (other (omega arith))
ith-push_other [] n (suc (suc j)) other = refl
ith-push_other (x ∷ xs) n (suc zero) other = refl
ith-push_other (x ∷ xs) n (suc (suc j)) other = ith-push_other xs n (suc j) (λ e. other (omega (arith, e)))

-- an event that is at a place has this place
pub is_at-true : (e : Place) (x : EventNo) → is_at e x ≡ true → place_of x ≡ e
is_at-true e x its =
    let parts = and_parts (x.instance == e.instance) (x.index == e.index) its in
    same_place (place_of x) e (eqb-true x.instance e.instance parts.0) (eqb-true x.index e.index parts.1)

pub is_at-same : (e : Place) (x : EventNo) → x.instance ≡ e.instance → x.index ≡ e.index → is_at e x ≡ true
is_at-same e x line number = and_from (x.instance == e.instance) (x.index == e.index) (eq-eqb x.instance e.instance line) (eq-eqb x.index e.index number)

module _ (x : EventNo) (n : ℕ) (old new : List (List ℕ)) (whole : length old ≡ MAX_INSTANCES) (added : IsPut x n old new) where
  -- the event's own line has one more number, and each other line is as it was
  line_at-own : line_at new x.instance ≡ line_at old x.instance ++ n ∷ []
  line_at-own =
      subst (λ p. line_at new p ≡ line_at old p ++ n ∷ []) (sym added.instance)
      (ap (λ ls. line_at ls (suc added.place)) added.added ∙ get_or-set_same old added.place (line_at old (suc added.place) ++ n ∷ []) [] (omega (arith, whole, added.within)))

  pub line_at-other : (p : ℕ) → (x.instance ≡ p → ⊥) → line_at new p ≡ line_at old p
  line_at-other zero other = refl
  line_at-other (suc p) other = ap (λ ls. line_at ls (suc p)) added.added ∙ get_or-set_other old added.place p (line_at old (suc added.place) ++ n ∷ []) [] (λ e. other (added.instance ∙ ap suc (sym e)))

  pub put-whole : length new ≡ MAX_INSTANCES
  put-whole = ap length added.added ∙ length-set old added.place (line_at old (suc added.place) ++ n ∷ []) ∙ whole

  pub put-counted : (p : ℕ) → length (line_at new p) ≡ length (line_at old p) + length (number_on p x)
  put-counted p =
      elim (length-number_on p x) [
        | inl own ↦
            let longer = subst (λ q. length (line_at new q) ≡ length (line_at old q) + 1) own.0 (ap length line_at-own ∙ length_push (line_at old x.instance) n) in
            omega (arith, longer, own.1)
        | inr other ↦ let same = ap length (line_at-other p other.0) in omega (arith, same, other.1)
      ]

  -- if the event is the next of its line, its number is new, and all other events keep theirs
  module _ (next : x.index ≡ length (line_at old x.instance) + 1) where
    pub put-here : (e : Place) → is_at e x ≡ true → (ith (line_at new e.instance) e.index ≡ Some n) × (ith (line_at old e.instance) e.index ≡ None)
    put-here e its =
        subst (λ (d : Place). (ith (line_at new d.instance) d.index ≡ Some n) × (ith (line_at old d.instance) d.index ≡ None)) (is_at-true e x its) (
          ap (λ xs. ith xs x.index) line_at-own ∙ ap (ith (line_at old x.instance ++ n ∷ [])) next ∙ ith_push (line_at old x.instance) n,
          ap (ith (line_at old x.instance)) next ∙ ith-past (line_at old x.instance),
        )

    pub put-elsewhere : (e : Place) → is_at e x ≡ false → ith (line_at new e.instance) e.index ≡ ith (line_at old e.instance) e.index
    put-elsewhere e differs =
        elim (cases_eq x.instance e.instance) [
          | inr other ↦ ap (λ xs. ith xs e.index) (line_at-other e.instance other)
          | inl line ↦
              subst (λ p. ith (line_at new p) e.index ≡ ith (line_at old p) e.index) line
              (ap (λ xs. ith xs e.index) line_at-own ∙ ith-push_other (line_at old x.instance) n e.index (λ same. both_ways (is_at e x) differs (is_at-same e x line (next ∙ sym same))))
        ]

-- one more row, with an event
pub IsIndex-event : (rows : List Row) (old new : List (List ℕ)) (x : EventNo) (n : ℕ) → IsIndex rows old → IsNext rows (place_of x) → n ≡ length rows → IsPut x n old new → IsIndex (rows ++ Event x ∷ []) new
IsIndex-event rows old new x n is next number added = record {
  whole = put-whole x n old new is.whole added;
  counted = λ p. let more = put-counted x n old new is.whole added p in
      let all = ap length (laid_out-push rows (Event x) p) ∙ length-append (laid_out rows p) (number_on p x) in
      omega (arith, more, all, is.counted p);
  each = λ e. by_test e (cases_Bool (is_at e x));
}
  where
    own : x.index ≡ length (line_at old x.instance) + 1
    own = next ∙ ap (λ m. m + 1) (sym (is.counted x.instance))

    by_row : (e : Place) → is_at e x ≡ false → (found : Option ℕ) → row_of rows e ≡ found → row_of (rows ++ Event x ∷ []) e ≡ found
    by_row e differs None none = row_of-push_new rows (Event x) e none ∙ ap (λ b. cond b (Some (length rows)) None) differs
    by_row e differs (Some i) at_i = row_of-push_old rows (Event x) e i at_i

    by_test : (e : Place) → (is_at e x ≡ true) ⊎ (is_at e x ≡ false) → ith (line_at new e.instance) e.index ≡ row_of (rows ++ Event x ∷ []) e
    by_test e (inl its) =
        let here = put-here x n old new is.whole added own e its in
        here.0 ∙ ap (λ m. Some m) number ∙ sym (row_of-push_new rows (Event x) e (sym (is.each e) ∙ here.1) ∙ ap (λ b. cond b (Some (length rows)) None) its)
    by_test e (inr differs) = put-elsewhere x n old new is.whole added own e differs ∙ is.each e ∙ sym (by_row e differs (row_of rows e) refl)

-- one more row, with a message
pub IsIndex-message : (rows : List Row) (old half new : List (List ℕ)) (s r : EventNo) (n : ℕ) → IsIndex rows old → AreNext rows (Message s r) → n ≡ length rows → IsPut s n old half → IsPut r n half new → IsIndex (rows ++ Message s r ∷ []) new
IsIndex-message rows old half new s r n is (next_s, next_r, differ) number added_s added_r = record {
  whole = put-whole r n half new whole added_r;
  counted = λ p. let first = put-counted s n old half is.whole added_s p in
      let second = put-counted r n half new whole added_r p in
      let both = length-append (number_on p s) (number_on p r) in
      let all = ap length (laid_out-push rows (Message s r) p) ∙ length-append (laid_out rows p) (number_on p s ++ number_on p r) in
      omega (arith, first, second, both, all, is.counted p);
  each = λ e. by_tests e (is_at e s) refl (is_at e r) refl;
}
  where
    whole : length half ≡ MAX_INSTANCES
    whole = put-whole s n old half is.whole added_s

    own_s : s.index ≡ length (line_at old s.instance) + 1
    own_s = next_s ∙ ap (λ m. m + 1) (sym (is.counted s.instance))

    own_r : r.index ≡ length (line_at half r.instance) + 1
    own_r = next_r ∙ ap (λ m. m + 1) (sym (is.counted r.instance)) ∙ ap (λ xs. length xs + 1) (sym (line_at-other s n old half is.whole added_s r.instance differ))

    here_s : (e : Place) → is_at e s ≡ true → (ith (line_at half e.instance) e.index ≡ Some n) × (ith (line_at old e.instance) e.index ≡ None)
    here_s e its = put-here s n old half is.whole added_s own_s e its

    here_r : (e : Place) → is_at e r ≡ true → (ith (line_at new e.instance) e.index ≡ Some n) × (ith (line_at half e.instance) e.index ≡ None)
    here_r e its = put-here r n half new whole added_r own_r e its

    beside_s : (e : Place) → is_at e s ≡ false → ith (line_at half e.instance) e.index ≡ ith (line_at old e.instance) e.index
    beside_s e differs = put-elsewhere s n old half is.whole added_s own_s e differs

    beside_r : (e : Place) → is_at e r ≡ false → ith (line_at new e.instance) e.index ≡ ith (line_at half e.instance) e.index
    beside_r e differs = put-elsewhere r n half new whole added_r own_r e differs

    fresh : (e : Place) → ith (line_at old e.instance) e.index ≡ None → (is_at e s || is_at e r) ≡ true → row_of (rows ++ Message s r ∷ []) e ≡ Some n
    fresh e none has = row_of-push_new rows (Message s r) e (sym (is.each e) ∙ none) ∙ ap (λ b. cond b (Some (length rows)) None) has ∙ ap (λ m. Some m) (sym number)

    kept : (e : Place) → (is_at e s || is_at e r) ≡ false → (found : Option ℕ) → row_of rows e ≡ found → row_of (rows ++ Message s r ∷ []) e ≡ found
    kept e lacks None none = row_of-push_new rows (Message s r) e none ∙ ap (λ b. cond b (Some (length rows)) None) lacks
    kept e lacks (Some i) at_i = row_of-push_old rows (Message s r) e i at_i

    either : (e : Place) (a b : Bool) → is_at e s ≡ a → is_at e r ≡ b → (is_at e s || is_at e r) ≡ (a || b)
    either e a b at_a at_b = ap (λ z. z || is_at e r) at_a ∙ ap (λ z. a || z) at_b

    both_at : (e : Place) → is_at e s ≡ true → is_at e r ≡ true → ⊥
    both_at e at_s at_r = differ (ap (λ (d : Place). d.instance) (is_at-true e s at_s ∙ sym (is_at-true e r at_r)))

    by_tests : (e : Place) (a : Bool) → is_at e s ≡ a → (b : Bool) → is_at e r ≡ b → ith (line_at new e.instance) e.index ≡ row_of (rows ++ Message s r ∷ []) e
    by_tests e true its true also = absurd (both_at e its also)
    by_tests e true its false differs = beside_r e differs ∙ (here_s e its).0 ∙ sym (fresh e (here_s e its).1 (either e true false its differs))
    by_tests e false differs true its = (here_r e its).0 ∙ sym (fresh e (sym (beside_s e differs) ∙ (here_r e its).1) (either e false true differs its))
    by_tests e false differs_s false differs_r = beside_r e differs_r ∙ beside_s e differs_s ∙ is.each e ∙ sym (kept e (either e false false differs_s differs_r) (row_of rows e) refl)

pub IsIndex-row : (rows : List Row) (old new : List (List ℕ)) (row : Row) (n : ℕ) → IsIndex rows old → AreNext rows row → n ≡ length rows → ArePut row n old new → IsIndex (rows ++ row ∷ []) new
IsIndex-row rows old new (Message s r) n is next number added = IsIndex-message rows old added.0 new s r n is next number added.1 added.2
IsIndex-row rows old new (Event x) n is next number added = IsIndex-event rows old new x n is next number added

pub ArePut-whole : (old new : List (List ℕ)) (row : Row) (n : ℕ) → length old ≡ MAX_INSTANCES → ArePut row n old new → length new ≡ MAX_INSTANCES
ArePut-whole old new (Message s r) n whole added = put-whole r n added.0 new (put-whole s n old added.0 whole added.1) added.2
ArePut-whole old new (Event x) n whole added = put-whole x n old new whole added

-- no rows
line_at-none : (m p : ℕ) → line_at (replicate m []) p ≡ []
line_at-none m zero = refl
line_at-none m (suc p) =
    elim (cases_lt p m) [
      | inl within ↦ get_or-replicate m p [] [] within
      | inr past ↦ get_or_past (replicate m []) p [] (rw length-replicate past)
    ]

ith-none : (k : ℕ) → ith {X = ℕ} [] k ≡ None
ith-none zero = refl
ith-none (suc k) = refl

pub IsIndex-none : IsIndex [] (replicate MAX_INSTANCES [])
IsIndex-none = record {
  whole = length-replicate {A = List ℕ} MAX_INSTANCES [];
  counted = λ p. ap length (line_at-none MAX_INSTANCES p);
  each = λ e. ap (λ xs. ith xs e.index) (line_at-none MAX_INSTANCES e.instance) ∙ ith-none e.index;
}
