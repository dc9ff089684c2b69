-- How often a layout's rows have an event: once, if the chart has it.
use Rattle.std.proofs.Common.{◌≡◌, ℕ, zero, suc, ◌+◌, ◌<◌, ◌≤◌, ◌==◌, ◌&&◌, inl, inr, Bool, true, false, cond, List, [], ◌∷◌, ◌++◌, Option, None, Some, refl, sym, ap, ◌∙◌, subst, arith, append_assoc, length, fold, count_by}
use Rattle.std.specs.Prelude.{option_map}
use Rattle.std.specs.List.{range_with_len, flat_map}
use Rattle.std.proofs.lemmas.Bool.{or_cases, or_left, or_right, ne_eqb, eqb-true}
use Rattle.std.proofs.lemmas.Option.{none-some}
use Rattle.chart.specs.declared.instance.EventNo.{EventNo}
use Rattle.chart.specs.Charts.{Chart, Place, at, chart_lines}
use Rattle.chart.specs.Places.{IsEvent}
use Rattle.closure.specs.Faults.{place_of}
use Rattle.chart_layout.specs.declared.row.Row.{Row}
use Rattle.chart_layout.specs.declared.row.Row.TheVariants.{Message, Event}
use Rattle.chart_layout.specs.Layouts.{number_on, row_on, laid_out, is_at, has_event, row_of}
use Rattle.chart_layout.proofs.IndexLemmas.{is_at-same}
use Rattle.picture_laws.specs.Marks.{and_one, events_in}
use Rattle.pictures.specs.Pictures.{PictureView}
use Rattle.picture_laws.proofs.Standing.{Stands}

-- one more for each event of a row, or of rows, that passes
abbrev pub row_marks : (EventNo → Bool) → Row → ℕ → ℕ
row_marks its (Message s r) n = and_one (its s) (and_one (its r) n)
row_marks its (Event x) n = and_one (its x) n

abbrev pub rows_marks : (EventNo → Bool) → List Row → ℕ → ℕ
rows_marks its [] n = n
rows_marks its (row ∷ rows) n = row_marks its row (rows_marks its rows n)

pub rows_same : (f g : EventNo → Bool) → ((x : EventNo) → f x ≡ g x) → (rows : List Row) (n : ℕ) → rows_marks f rows n ≡ rows_marks g rows n
rows_same f g same [] n = refl
rows_same f g same (Message s r ∷ rows) n =
    ap (λ b. and_one b (and_one (f r) (rows_marks f rows n))) (same s) ∙ ap (λ b. and_one (g s) (and_one b (rows_marks f rows n))) (same r)
    ∙ ap (λ m. and_one (g s) (and_one (g r) m)) (rows_same f g same rows n)
rows_same f g same (Event x ∷ rows) n = ap (λ b. and_one b (rows_marks f rows n)) (same x) ∙ ap (λ m. and_one (g x) m) (rows_same f g same rows n)

pub rows_none : (rows : List Row) (n : ℕ) → rows_marks (λ x. false) rows n ≡ n
rows_none [] n = refl
rows_none (Message s r ∷ rows) n = rows_none rows n
rows_none (Event x ∷ rows) n = rows_none rows n

one_more : (b : Bool) (n : ℕ) → n ≤ and_one b n
one_more true n = omega arith
one_more false n = omega arith

row_more : (its : EventNo → Bool) (row : Row) (n : ℕ) → n ≤ row_marks its row n
row_more its (Message s r) n = omega (arith, one_more (its r) n, one_more (its s) (and_one (its r) n))
row_more its (Event x) n = one_more (its x) n

-- how often a number is in a list
abbrev pub occurs : ℕ → List ℕ → ℕ
occurs k [] = 0
occurs k (x ∷ xs) = and_one (x == k) (occurs k xs)

number_marked : (p k : ℕ) (x : EventNo) (ys : List ℕ) → occurs k (number_on p x ++ ys) ≡ and_one (is_at (at p k) x) (occurs k ys)
number_marked p k x ys = go (x.instance == p)
  where
    go : (own : Bool) → occurs k (cond own (x.index ∷ []) [] ++ ys) ≡ and_one (own && (x.index == k)) (occurs k ys)
    go true = refl
    go false = refl

row_marked : (p k : ℕ) (row : Row) (ys : List ℕ) → occurs k (row_on p row ++ ys) ≡ row_marks (is_at (at p k)) row (occurs k ys)
row_marked p k (Message s r) ys =
    ap (occurs k) (append_assoc (number_on p s) (number_on p r) ys) ∙ number_marked p k s (number_on p r ++ ys) ∙ ap (λ n. and_one (is_at (at p k) s) n) (number_marked p k r ys)
row_marked p k (Event x) ys = number_marked p k x ys

pub laid_marked : (rows : List Row) (p k : ℕ) → occurs k (laid_out rows p) ≡ rows_marks (is_at (at p k)) rows 0
laid_marked [] p k = refl
laid_marked (row ∷ rows) p k = row_marked p k row (laid_out rows p) ∙ ap (row_marks (is_at (at p k)) row) (laid_marked rows p k)

-- a range has a number once, if it is within
occurs_below : (k a n : ℕ) → k < a → occurs k (range_with_len a n) ≡ 0
occurs_below k a zero low = refl
occurs_below k a (suc n) low =
    ap (λ b. and_one b (occurs k (range_with_len (a + 1) n))) (ne_eqb a k (λ e. omega (arith, e, low))) ∙ occurs_below k (a + 1) n (omega (arith, low))

pub occurs_range : (k a n : ℕ) → occurs k (range_with_len a n) ≤ 1
occurs_range k a zero = omega arith
occurs_range k a (suc n) = go (a == k) refl (occurs_range k (a + 1) n)
  where
    go : (here : Bool) → (a == k) ≡ here → occurs k (range_with_len (a + 1) n) ≤ 1 → and_one here (occurs k (range_with_len (a + 1) n)) ≤ 1
    go true e few = let same = eqb-true a k e in let none = occurs_below k (a + 1) n (omega (arith, same)) in omega (arith, none)
    go false e few = few

pub occurs_within : (k a n : ℕ) → 1 ≤ occurs k (range_with_len a n) → (a ≤ k) × (k < a + n)
occurs_within k a zero some = absurd (omega (arith, some))
occurs_within k a (suc n) some = go (a == k) refl (λ later. occurs_within k (a + 1) n later) some
  where
    go : (here : Bool) → (a == k) ≡ here → (1 ≤ occurs k (range_with_len (a + 1) n) → (a + 1 ≤ k) × (k < a + 1 + n)) → 1 ≤ and_one here (occurs k (range_with_len (a + 1) n)) → (a ≤ k) × (k < a + suc n)
    go true e later found = let same = eqb-true a k e in (omega (arith, same), omega (arith, same))
    go false e later found = let rest = later found in (omega (arith, rest.0), omega (arith, rest.1))

-- a row that has an event has it at least once
row_has : (e : Place) (row : Row) (n : ℕ) → has_event e row ≡ true → 1 ≤ row_marks (is_at e) row n
row_has e (Event x) n its = subst (λ b. 1 ≤ and_one b n) (sym its) (omega arith)
row_has e (Message s r) n its =
    elim (or_cases (is_at e s) (is_at e r) its) [
      | inl first ↦ subst (λ b. 1 ≤ and_one b (and_one (is_at e r) n)) (sym first) (omega arith)
      | inr second ↦ let one : 1 ≤ and_one (is_at e r) n = subst (λ b. 1 ≤ and_one b n) (sym second) (omega arith) in omega (arith, one, one_more (is_at e s) (and_one (is_at e r) n))
    ]

pub rows_have : (rows : List Row) (e : Place) (i : ℕ) → row_of rows e ≡ Some i → 1 ≤ rows_marks (is_at e) rows 0
rows_have [] e i is = absurd (none-some i is)
rows_have (row ∷ rows) e i is = go (has_event e row) refl (row_of rows e) (λ n at_n. rows_have rows e n at_n) is
  where
    go : (here : Bool) → has_event e row ≡ here → (found : Option ℕ) → ((n : ℕ) → found ≡ Some n → 1 ≤ rows_marks (is_at e) rows 0) → cond here (Some 0) (option_map suc found) ≡ Some i
        → 1 ≤ row_marks (is_at e) row (rows_marks (is_at e) rows 0)
    go true its found later at_i = row_has e row (rows_marks (is_at e) rows 0) its
    go false its None later at_i = absurd (none-some i at_i)
    go false its (Some n) later at_i = let some = later n refl in omega (arith, some, row_more (is_at e) row (rows_marks (is_at e) rows 0))

-- the events of rows are the chart's
abbrev pub IsGood : Chart → Row → Type 0
IsGood c (Message s r) = IsEvent c (place_of s) × IsEvent c (place_of r)
IsGood c (Event x) = IsEvent c (place_of x)

abbrev pub AreGood : Chart → List Row → Type 0
AreGood c [] = Unit {0}
AreGood c (row ∷ rows) = IsGood c row × AreGood c rows

pub are_good : (c : Chart) (rows : List Row) → ((p k : ℕ) → 1 ≤ occurs k (laid_out rows p) → IsEvent c (at p k)) → AreGood c rows
are_good c [] all = tt
are_good c (row ∷ rows) all = (go row first, are_good c rows later)
  where
    later : (p k : ℕ) → 1 ≤ occurs k (laid_out rows p) → IsEvent c (at p k)
    later p k some = all p k (omega (arith, some, row_marked p k row (laid_out rows p), row_more (is_at (at p k)) row (occurs k (laid_out rows p))))

    first : (x : EventNo) → has_event (place_of x) row ≡ true → IsEvent c (place_of x)
    first x its = all x.instance x.index (omega (arith, row_marked x.instance x.index row (laid_out rows x.instance), row_has (place_of x) row (occurs x.index (laid_out rows x.instance)) its))

    go : (its : Row) → ((x : EventNo) → has_event (place_of x) its ≡ true → IsEvent c (place_of x)) → IsGood c its
    go (Event x) each = each x (is_at-same (place_of x) x refl refl)
    go (Message s r) each = (each s (or_left (is_at (place_of s) s) (is_at (place_of s) r) (is_at-same (place_of s) s refl refl)), each r (or_right (is_at (place_of r) s) (is_at (place_of r) r) (is_at-same (place_of r) r refl refl)))

-- so are those of a picture's rows
pub rows_good : (v : PictureView) → Stands v → AreGood (chart_lines v.lines) v.choice.rows
rows_good v is =
    are_good (chart_lines v.lines) v.choice.rows
    (λ p k some. let bounds = occurs_within k 1 (length (chart_lines v.lines p)) (subst (λ xs. 1 ≤ occurs k xs) (is.drawing.order p) some) in (bounds.0, omega (arith, bounds.1)))

-- how many pass a test
abbrev pub passing : {X : Type 0} → (X → Bool) → List X → ℕ
passing test [] = 0
passing test (x ∷ xs) = and_one (test x) (passing test xs)

fold_is : {X : Type 0} (test : X → Bool) (n : ℕ) (xs : List X) → fold (λ a x. a + cond {A = ℕ} (test x) 1 0) n xs ≡ n + passing test xs
fold_is test n [] = omega arith
fold_is test n (x ∷ xs) = fold_is test (n + cond {A = ℕ} (test x) 1 0) xs ∙ go (test x)
  where
    go : (b : Bool) → n + cond {A = ℕ} b 1 0 + passing test xs ≡ n + and_one b (passing test xs)
    go true = omega arith
    go false = omega arith

pub count_is : {X : Type 0} (test : X → Bool) (xs : List X) → count_by test xs ≡ passing test xs
count_is test xs = let all = fold_is test 0 xs in omega (arith, all)

pub counted_rows : (test : EventNo → Bool) (rows : List Row) → rows_marks test rows 0 ≡ passing test (flat_map events_in rows)
counted_rows test [] = refl
counted_rows test (Message s r ∷ rows) = ap (λ n. and_one (test s) (and_one (test r) n)) (counted_rows test rows)
counted_rows test (Event x ∷ rows) = ap (λ n. and_one (test x) n) (counted_rows test rows)
