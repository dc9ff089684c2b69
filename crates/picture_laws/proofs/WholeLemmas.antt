-- The picture of a whole chart has all events of the instances that have a column.
use Rattle.std.proofs.Common.{◌≡◌, ℕ, zero, suc, ◌+◌, ◌-◌, ◌*◌, ◌<◌, ◌≤◌, ◌==◌, ◌&&◌, ◌||◌, ◌⊎◌, inl, inr, Bool, true, false, not, cond, List, [], ◌∷◌, ◌++◌, length, map, Option, None, Some, refl, sym, ap, ◌∙◌, subst, arith, length-append}
use Rattle.std.specs.Prelude.{is_some, position}
use Rattle.std.specs.List.{list_any, range_with_len, position_or_len}
use Rattle.std.proofs.lemmas.Bool.{and_from, or_cases, or_left, or_right, false≢true, lt-ltb, le-leb, cases_eq, eq-eqb}
use Rattle.std.proofs.lemmas.List.Folds.{list_any-append}
use Rattle.std.proofs.lemmas.Option.{slice_get-get_or}
use Rattle.chart.specs.declared.instance.EventNo.{EventNo}
use Rattle.chart.specs.declared.instance.TheConstants.{MAX_INSTANCES}
use Rattle.chart.specs.declared.line.TheConstants.{MAX_EVENTS}
use Rattle.chart.specs.Charts.{LineView, IsChart, chart_lines}
use Rattle.chart.specs.Places.{IsEvent}
use Rattle.closure.specs.Faults.{place_of}
use Rattle.closure.proofs.ReadLemmas.{instance_within, line_short}
use Rattle.chart_layout.specs.declared.row.Row.{Row}
use Rattle.chart_layout.specs.declared.row.Row.TheVariants.{Message, Event}
use Rattle.chart_layout.specs.declared.margin.MarginNote.{MarginNote}
use Rattle.chart_layout.specs.Layouts.{number_on, row_on, laid_out, row_of}
use Rattle.chart_layout.proofs.LaidOutLemmas.{number_on-own}
use Rattle.chart_layout.proofs.RowLemmas.{row_of-within}
use Rattle.cmd_base.specs.Columns.Columns.{AreColumns}
use Rattle.cmd_base.specs.Contents.{Named}
use Rattle.cmd_draw.specs.Drawing.{IsWanted}
use Rattle.cmd_draw.specs.Windows.{IsWindow}
use Rattle.cmd_draw.specs.Witness.Stages.{IsWhole}
use Rattle.cmd_draw.specs.declared.drawing.Wanted.{Wanted}
use Rattle.cmd_draw.specs.declared.events.Events.{Events}
use Rattle.cmd_draw.specs.declared.windows.Window.{Window}
use Rattle.picture_parts.specs.declared.columns.columns.Column.{Column}
use Rattle.picture_parts.specs.Columns.Choices.{ChoiceView, column_at, is_chosen, is_chosen_end, is_between, is_row_chosen, end_of, column_of}
use Rattle.picture_parts.specs.Columns.Placing.{PlanView, next_column, columns_from, columns_of}
use Rattle.pictures.specs.Pictures.{PictureView}
use Rattle.pictures.specs.Preparing.{SourceView, PartView, plan_of}
use Rattle.picture_laws.specs.Places.{IsOfChart, IsDrawn}
use Rattle.picture_laws.specs.Witnesses.{is_instance, HasColumn}
use Rattle.picture_laws.proofs.CountLemmas.{IsGood, AreGood, rows_good}
use Rattle.picture_laws.proofs.Standing.{Stands, stands, event_row, many}

-- Columns.

any_some : (p : ℕ) (xs : List ℕ) → list_any (is_instance p) (map (λ q. Some q) xs) ≡ true → list_any (λ q. q == p) xs ≡ true
any_some p [] none = none
any_some p (x ∷ xs) some =
    elim (or_cases (x == p) (list_any (is_instance p) (map (λ q. Some q) xs)) some) [
      | inl first ↦ or_left (x == p) (list_any (λ q. q == p) xs) first
      | inr later ↦ or_right (x == p) (list_any (λ q. q == p) xs) (any_some p xs later)
    ]

any_range : (p a n : ℕ) → a ≤ p → p < a + n → list_any (λ q. q == p) (range_with_len a n) ≡ true
any_range p a zero low high = absurd (omega (arith, low, high))
any_range p a (suc n) low high =
    elim (cases_eq a p) [
      | inl here ↦ or_left (a == p) (list_any (λ q. q == p) (range_with_len (a + 1) n)) (eq-eqb a p here)
      | inr above ↦ or_right (a == p) (list_any (λ q. q == p) (range_with_len (a + 1) n)) (any_range p (a + 1) n (omega (arith, low, above)) (omega (arith, high)))
    ]

-- an instance that has a column is one of the columns' instances
column_named : (names : List (List ℕ)) (only : Option (List ℕ)) (columns : List ℕ) (p : ℕ) → AreColumns names only columns → HasColumn names only p → 1 ≤ p → p ≤ length names → list_any (λ q. q == p) columns ≡ true
column_named names None columns p are has low high = ap (list_any (λ q. q == p)) are ∙ any_range p 1 (length names) low (omega (arith, high))
column_named names (Some bytes) columns p are has low high = any_some p columns (subst (λ l. list_any (is_instance p) l ≡ true) are.each has)

module _ (plan : PlanView) (p : ℕ) where
  abbrev its : Column → Bool
  its c = c.instance == p

  any_columns : (done : List Column) (qs : List ℕ) → (list_any its done || list_any (λ q. q == p) qs) ≡ true → list_any its (columns_from plan done qs) ≡ true
  any_columns done [] some = elim (or_cases (list_any its done) false some) [ inl first ↦ first | inr none ↦ absurd (false≢true none) ]
  any_columns done (q ∷ qs) some =
      any_columns (done ++ next_column plan done q ∷ []) qs
      (elim (or_cases (list_any its done) ((q == p) || list_any (λ x. x == p) qs) some) [
        | inl first ↦ or_left (list_any its (done ++ next_column plan done q ∷ [])) (list_any (λ x. x == p) qs) (whole ∙ or_left (list_any its done) ((q == p) || false) first)
        | inr later ↦
            elim (or_cases (q == p) (list_any (λ x. x == p) qs) later) [
              | inl here ↦ or_left (list_any its (done ++ next_column plan done q ∷ [])) (list_any (λ x. x == p) qs) (whole ∙ or_right (list_any its done) ((q == p) || false) (or_left (q == p) false here))
              | inr rest ↦ or_right (list_any its (done ++ next_column plan done q ∷ [])) (list_any (λ x. x == p) qs) rest
            ]
      ])
    where
      whole : list_any its (done ++ next_column plan done q ∷ []) ≡ (list_any its done || ((q == p) || false))
      whole = list_any-append its done (next_column plan done q ∷ [])

any_within : (test : Column → Bool) (xs : List Column) → list_any test xs ≡ true → position_or_len test xs < length xs
any_within test [] none = absurd (false≢true none)
any_within test (x ∷ xs) some = go (test x) (or_cases (test x) (list_any test xs) some) (λ later. any_within test xs later)
  where
    go : (b : Bool) → (b ≡ true) ⊎ (list_any test xs ≡ true) → (list_any test xs ≡ true → position_or_len test xs < length xs) → cond (not b) (1 + position_or_len test xs) 0 < suc (length xs)
    go true which rest = omega arith
    go false (inl none) rest = absurd (false≢true none)
    go false (inr later) rest = let less = rest later in omega (arith, less)

any_column : (columns : List Column) (p : ℕ) → list_any (λ c. c.instance == p) columns ≡ true → is_some (column_at columns (position (λ c. c.instance == p) columns)) ≡ true
any_column [] p none = absurd (false≢true none)
any_column (first ∷ columns) p some =
    let within = any_within (λ c. c.instance == p) (first ∷ columns) some in
    let at = position_or_len (λ c. c.instance == p) (first ∷ columns) in
    ap (λ b. is_some (column_at (first ∷ columns) (cond b (Some at) None))) (lt-ltb at (length (first ∷ columns)) within)
    ∙ ap is_some (slice_get-get_or (first ∷ columns) at first within)

-- How many rows there are.

abbrev sum_laid : ℕ → List Row → ℕ
sum_laid zero rows = 0
sum_laid (suc n) rows = sum_laid n rows + length (laid_out rows (suc n))

abbrev on_row : ℕ → Row → ℕ
on_row zero row = 0
on_row (suc n) row = on_row n row + length (row_on (suc n) row)

sum_next : (n : ℕ) (row : Row) (rows : List Row) → sum_laid n (row ∷ rows) ≡ on_row n row + sum_laid n rows
sum_next zero row rows = omega arith
sum_next (suc n) row rows = omega (arith, sum_next n row rows, length-append (row_on (suc n) row) (laid_out rows (suc n)))

row_some : (n p : ℕ) (row : Row) → p < n → 1 ≤ length (row_on (suc p) row) → 1 ≤ on_row n row
row_some zero p row inside some = absurd (omega (arith, inside))
row_some (suc n) p row inside some =
    elim (cases_eq p n) [
      | inl last ↦ let there = subst (λ q. 1 ≤ length (row_on (suc q) row)) last some in omega (arith, there)
      | inr before ↦ let rest = row_some n p row (omega (arith, inside, before)) some in omega (arith, rest)
    ]

event_some : (lines : List LineView) (x : EventNo) → IsEvent (chart_lines lines) (place_of x) → (p : ℕ) × (p < length lines) × (length (number_on (suc p) x) ≡ 1)
event_some lines x event = let on = instance_within lines (place_of x) event in (on.0, on.2, ap length (number_on-own (suc on.0) x on.1))

good_some : (lines : List LineView) (row : Row) → IsGood (chart_lines lines) row → 1 ≤ on_row (length lines) row
good_some lines (Message s r) good =
    let found = event_some lines s good.0 in
    row_some (length lines) found.0 (Message s r) found.1 (omega (arith, found.2, length-append (number_on (suc found.0) s) (number_on (suc found.0) r)))
good_some lines (Event x) good = let found = event_some lines x good in row_some (length lines) found.0 (Event x) found.1 (omega (arith, found.2))

rows_few : (lines : List LineView) (rows : List Row) → AreGood (chart_lines lines) rows → length rows ≤ sum_laid (length lines) rows
rows_few lines [] good = omega arith
rows_few lines (row ∷ rows) good = omega (arith, sum_next (length lines) row rows, good_some lines row good.0, rows_few lines rows good.1)

module _ (v : PictureView) (is : Stands v) (chart : IsChart v.lines) where
  sum_small : (n : ℕ) → n ≤ length v.lines → sum_laid n v.choice.rows ≤ n * 4096
  sum_small zero few = omega arith
  sum_small (suc n) few =
      let limit : MAX_EVENTS ≤ 4096 = omega arith in
      omega (arith, sum_small n (omega (arith, few)), many v is (suc n), line_short v.lines n chart (omega (arith, few)), limit)

  pub few_rows : length v.choice.rows ≤ 131072
  few_rows =
      let limit : MAX_INSTANCES ≤ 32 = omega arith in
      omega (arith, rows_few v.lines v.choice.rows (rows_good v is), sum_small (length v.lines) (omega arith), chart.limit, limit)

all_three : (a b d : Bool) → a ≡ true → b ≡ true → d ≡ true → (a && b && d) ≡ true
all_three a b d p q r = rw (p, q, r) refl

-- the picture of a whole chart
module _ (title : List ℕ) (only : Option (List ℕ)) (numbers : Bool) (wanted : Wanted) (turns : List ℕ) (notes : List MarginNote) (named : Named) (v : PictureView)
    (is_whole : IsWhole title only numbers wanted) (is : IsWanted wanted turns notes named v) where
  abbrev source : SourceView
  source = record { title = wanted.title.now; names = named.0; lines = named.1; rows = is.rows; reports = is.reports; ends = is.ends }

  abbrev part : PartView
  part = record {
    instances = is.columns;
    first = wanted.events.first;
    last = wanted.events.last;
    top = is.window.top;
    bottom = is.window.bottom;
    numbers = wanted.numbers;
    notes = notes;
  }

  of_chart : IsOfChart source part v
  of_chart = record { picture = is.is_picture; drawing = is.prepared.layout.drawing; ends = is.prepared.messages }

  pub whole_stands : Stands v
  whole_stands = stands source part v of_chart

  window_is : is.window ≡ record { top = 1 - 1; bottom = 4294967295 - 1 }
  window_is = subst (λ rows. IsWindow named is.rows rows is.window) is_whole.rows_are is.chosen

  module _ (chart : IsChart named.1) (e : EventNo) (event : IsEvent (chart_lines named.1) (place_of e)) (within : e.instance ≤ length named.0) (has : HasColumn named.0 only e.instance) where
    pub whole_drawn : IsDrawn v e
    whole_drawn = and_from (is_some (column_of v.choice e.instance)) (is_chosen v.choice e || is_chosen_end v.choice (end_of v.choice e)) column (or_left (is_chosen v.choice e) (is_chosen_end v.choice (end_of v.choice e)) chosen)
      where
        lines_are : v.lines ≡ named.1
        lines_are = is.is_picture.lines_are

        on : (p : ℕ) × (e.instance ≡ suc p) × (p < length named.1)
        on = instance_within named.1 (place_of e) event

        columns_are : v.choice.columns ≡ columns_of (plan_of named.0 named.1 is.reports is.columns wanted.numbers)
        columns_are = ap (λ (c : ChoiceView). c.columns) is.is_picture.choice_is

        named_so : list_any (λ q. q == e.instance) is.columns ≡ true
        named_so = column_named named.0 only is.columns e.instance (subst (λ o. AreColumns named.0 o is.columns) is_whole.only_is is.named_so) has (omega (arith, on.1)) within

        column : is_some (column_of v.choice e.instance) ≡ true
        column = ap (λ columns. is_some (column_at columns (position (λ c. c.instance == e.instance) columns))) columns_are
            ∙ any_column (columns_of (plan_of named.0 named.1 is.reports is.columns wanted.numbers)) e.instance
            (any_columns (plan_of named.0 named.1 is.reports is.columns wanted.numbers) e.instance [] is.columns named_so)

        first_is : v.choice.first ≡ 1
        first_is = ap (λ (c : ChoiceView). c.first) is.is_picture.choice_is ∙ ap (λ (x : Events). x.first) is_whole.events_are

        last_is : v.choice.last ≡ 4294967295
        last_is = ap (λ (c : ChoiceView). c.last) is.is_picture.choice_is ∙ ap (λ (x : Events). x.last) is_whole.events_are

        top_is : v.choice.top ≡ 0
        top_is = ap (λ (c : ChoiceView). c.top) is.is_picture.choice_is ∙ ap (λ (x : Window). x.top) window_is

        bottom_is : v.choice.bottom ≡ 4294967294
        bottom_is = ap (λ (c : ChoiceView). c.bottom) is.is_picture.choice_is ∙ ap (λ (x : Window). x.bottom) window_is

        short : e.index ≤ 4096
        short =
            let bound = subst (λ p. e.index ≤ length (chart_lines named.1 p)) on.1 event.1 in
            let limit : MAX_EVENTS ≤ 4096 = omega arith in
            omega (arith, bound, line_short named.1 on.0 chart on.2, limit)

        between : is_between v.choice.first v.choice.last e.index ≡ true
        between = and_from _ _ (le-leb v.choice.first e.index (omega (arith, first_is, event.0))) (le-leb e.index v.choice.last (omega (arith, last_is, short)))

        row : (i : ℕ) × (row_of v.choice.rows (place_of e) ≡ Some i)
        row = event_row v whole_stands (place_of e) (subst (λ lines. IsEvent (chart_lines lines) (place_of e)) (sym lines_are) event)

        row_chosen : is_row_chosen v.choice (row_of v.choice.rows (place_of e)) ≡ true
        row_chosen =
            let inside = row_of-within v.choice.rows (place_of e) row.0 row.1 in
            let few = few_rows v whole_stands (subst IsChart (sym lines_are) chart) in
            ap (is_row_chosen v.choice) row.1 ∙ and_from _ _ (le-leb v.choice.top row.0 (omega (arith, top_is))) (le-leb row.0 v.choice.bottom (omega (arith, bottom_is, inside, few)))

        chosen : is_chosen v.choice e ≡ true
        chosen =
            all_three (is_some (column_of v.choice e.instance)) (is_between v.choice.first v.choice.last e.index) (is_row_chosen v.choice (row_of v.choice.rows (place_of e))) column between row_chosen
