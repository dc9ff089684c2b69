-- The cells of a picture's events: each that is drawn has one.
use Rattle.std.proofs.Common.{◌≡◌, ℕ, inl, inr, Bool, true, false, ◌&&◌, cond, length, take, Option, None, Some, refl, sym, ap, ◌∙◌, subst, arith}
use Rattle.std.specs.Prelude.{slice_get, is_some}
use Rattle.std.specs.List.{range_with_len}
use Rattle.std.proofs.lemmas.Bool.{false_from_ne_true, and_parts, or_cases, false≢true}
use Rattle.chart.specs.declared.instance.EventNo.{EventNo}
use Rattle.chart.specs.Charts.{Chart, Place, BelongsTo, chart_lines}
use Rattle.chart.specs.Places.{IsEvent}
use Rattle.chart.specs.Events.{is_send_to, is_receive_from}
use Rattle.chart.proofs.Belongs.{IsEvent-from_passes, not_both, same_receive}
use Rattle.closure.specs.Faults.{place_of}
use Rattle.chart_layout.specs.Ends.{IsEnd, AreEnds}
use Rattle.chart_layout.specs.Layouts.{laid_out, row_of, AreInOrder, IsDrawing}
use Rattle.chart_layout.proofs.BegunLemmas.{row_of_laid_out}
use Rattle.chart_layout.proofs.RowLemmas.{row_of-within}
use Rattle.picture_parts.specs.declared.columns.columns.Column.{Column}
use Rattle.picture_parts.specs.Columns.Choices as choices
use Rattle.picture_parts.specs.Columns.Choices.{ChoiceView, is_in_picture, is_shown, is_chosen, is_chosen_end, is_row_chosen, is_between, places_from, count_from}
use Rattle.pictures.specs.Pictures.{PictureView, column_of, cell_from, place_from, cell_of, row_at}
use Rattle.pictures.specs.Preparing.{SourceView, PartView}
use Rattle.picture_laws.specs.Places.{IsOfChart, IsDrawn}
use Rattle.picture_laws.proofs.RowLemmas.{place_there, length_range}

-- what a picture says of its own rows
pub record Stands (v : PictureView) : Type 0 where
  pub drawing : IsDrawing v.lines v.choice.rows
  pub ends : AreEnds (chart_lines v.lines) v.choice.ends
  pub places : v.places ≡ places_from v.choice 0 v.choice.rows

pub stands : (source : SourceView) (part : PartView) (v : PictureView) → IsOfChart source part v → Stands v
stands source part v is = record {
  drawing = subst (λ rows. IsDrawing v.lines rows) (sym rows_are) (subst (λ lines. IsDrawing lines source.rows) (sym is.picture.lines_are) is.drawing);
  ends = subst (λ ends. AreEnds (chart_lines v.lines) ends) (sym ends_are) (subst (λ lines. AreEnds (chart_lines lines) source.ends) (sym is.picture.lines_are) is.ends);
  places = is.picture.places_are ∙ ap (places_from v.choice 0) (sym rows_are);
}
  where
    rows_are : v.choice.rows ≡ source.rows
    rows_are = ap (λ (c : ChoiceView). c.rows) is.picture.choice_is

    ends_are : v.choice.ends ≡ source.ends
    ends_are = ap (λ (c : ChoiceView). c.ends) is.picture.choice_is

-- two events with the same place are the same
pub one_event : (e f : EventNo) → place_of e ≡ place_of f → e ≡ f
one_event e f same = ap event_at same
  where
    event_at : Place → EventNo
    event_at x = record { instance = x.instance; index = x.index }

is_there : {X : Type 0} (o : Option X) → is_some o ≡ true → (x : X) × (o ≡ Some x)
is_there None none = absurd (false≢true none)
is_there (Some x) some = (x, refl)

last_of : (a b d : Bool) → (a && b && d) ≡ true → d ≡ true
last_of true true d its = its
last_of true false d its = absurd (false≢true its)
last_of false b d its = absurd (false≢true its)

module _ (v : PictureView) (is : Stands v) where
  abbrev c : Chart
  c = chart_lines v.lines

  pub many : (p : ℕ) → length (laid_out v.choice.rows p) ≡ length (c p)
  many p = ap length (is.drawing.order p) ∙ length_range 1 (length (c p))

  pub in_order : AreInOrder v.choice.rows
  in_order p = is.drawing.order p ∙ ap (range_with_len 1) (sym (many p))

  -- each event of the chart has a row
  pub event_row : (e : Place) → IsEvent c e → (i : ℕ) × (row_of v.choice.rows e ≡ Some i)
  event_row e event = let found = row_of_laid_out v.choice.rows in_order e event.0 (omega (arith, event.1, many e.instance)) in (found.0, found.1)

  -- so has each event that is chosen, or whose other end is
  pub shown_row : (e : EventNo) → is_shown v.choice e ≡ true → (i : ℕ) × (row_of v.choice.rows (place_of e) ≡ Some i)
  shown_row e shown =
      elim (or_cases (is_chosen v.choice e) (is_chosen_end v.choice (choices.end_of v.choice e)) shown) [
        | inl chosen ↦
            by_row (row_of v.choice.rows (place_of e))
            (last_of (is_some (choices.column_of v.choice e.instance)) (is_between v.choice.first v.choice.last e.index) (is_row_chosen v.choice (row_of v.choice.rows (place_of e))) chosen)
        | inr other ↦ by_end (choices.end_of v.choice e) (is.ends e) other
      ]
    where
      by_row : (o : Option ℕ) → is_row_chosen v.choice o ≡ true → (i : ℕ) × (o ≡ Some i)
      by_row None none = absurd (false≢true none)
      by_row (Some i) some = (i, refl)

      by_end : (o : Option EventNo) → IsEnd c (place_of e) o → is_chosen_end v.choice o ≡ true → (i : ℕ) × (row_of v.choice.rows (place_of e) ≡ Some i)
      by_end None ends none = absurd (false≢true none)
      by_end (Some x) (inl received) chosen = event_row (place_of e) (IsEvent-from_passes c (is_receive_from x.instance) (place_of e) received.received)
      by_end (Some x) (inr sent) chosen = event_row (place_of e) (IsEvent-from_passes c (is_send_to x.instance) (place_of e) sent.sent)

  -- the other end of a send is its receive
  pub end_is : (s r : EventNo) → BelongsTo c (place_of s) (place_of r) → choices.end_of v.choice s ≡ Some r
  end_is s r belongs = go (choices.end_of v.choice s) (is.ends s)
    where
      go : (o : Option EventNo) → IsEnd c (place_of s) o → o ≡ Some r
      go None none = absurd (none.1 (place_of r) belongs)
      go (Some x) (inl received) = absurd (not_both c r.instance x.instance (place_of s) belongs.sent received.received)
      go (Some x) (inr sent) = ap (λ y. Some y) (one_event x r (same_receive c (place_of s) (place_of x) (place_of r) sent belongs))

  -- the cell of an event that is drawn
  pub record HasCell (e : EventNo) : Type 0 where
    pub column : Column
    pub row : ℕ
    pub of_instance : column_of v e.instance ≡ Some column
    pub of_event : row_of v.choice.rows (place_of e) ≡ Some row
    pub cell : cell_of v e ≡ Some (record { column = column; place = count_from v.choice 0 (take row v.choice.rows) })

  pub cell_there : (e : EventNo) → IsDrawn v e → HasCell e
  cell_there e drawn =
      let parts = and_parts (is_some (choices.column_of v.choice e.instance)) (is_shown v.choice e) drawn in
      let column = is_there (choices.column_of v.choice e.instance) parts.0 in
      let row = shown_row e parts.1 in
      let within = row_of-within v.choice.rows (place_of e) row.0 row.1 in
      let place : slice_get v.places row.0 ≡ Some (count_from v.choice 0 (take row.0 v.choice.rows)) =
      ap (λ l. slice_get l row.0) is.places ∙ place_there v.choice 0 v.choice.rows row.0 within in
      record {
        column = column.0;
        row = row.0;
        of_instance = column.1;
        of_event = row.1;
        cell = ap (λ b. cond b (cell_from (column_of v e.instance) (place_from v (row_at v e))) None) parts.1
            ∙ ap (λ o. cell_from o (place_from v (row_at v e))) column.1 ∙ ap (λ o. cell_from (Some column.0) (place_from v o)) row.1
            ∙ ap (cell_from (Some column.0)) place;
      }

-- an event that isn't drawn has none
pub no_cell : (v : PictureView) (e : EventNo) → (IsDrawn v e → ⊥) → cell_of v e ≡ None
no_cell v e hidden = go (column_of v e.instance) (is_shown v.choice e) (false_from_ne_true (is_in_picture v.choice e) hidden)
  where
    go : (column : Option Column) (shown : Bool) → (is_some column && shown) ≡ false → cond shown (cell_from column (place_from v (row_at v e))) None ≡ None
    go None true none = refl
    go None false none = refl
    go (Some column) true none = absurd (false≢true (sym none))
    go (Some column) false none = refl
