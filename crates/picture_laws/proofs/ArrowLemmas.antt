-- The arrow of a message is in the row of its send.
use Rattle.std.proofs.Common.{◌≡◌, ℕ, inl, inr, true, ◌==◌, List, [], ◌++◌, Some, refl, sym, ap, ◌∙◌, subst, append_assoc, append-nil}
use Rattle.std.specs.Prelude.{slice_get}
use Rattle.std.specs.List.{flat_map}
use Rattle.std.proofs.lemmas.Bool.{or_cases, false≢true}
use Rattle.chart.specs.declared.event.Event.{Event as Occurs}
use Rattle.chart.specs.declared.event.Event.TheVariants as events
use Rattle.chart.specs.declared.instance.EventNo.{EventNo}
use Rattle.chart.specs.Charts.{Chart, BelongsTo, chart_lines}
use Rattle.chart.specs.Events.{is_send_to}
use Rattle.chart.proofs.Belongs.{not_both, same_receive}
use Rattle.closure.specs.Faults.{place_of}
use Rattle.chart_layout.specs.declared.row.Row.{Row}
use Rattle.chart_layout.specs.declared.row.Row.TheVariants.{Message, Event}
use Rattle.chart_layout.specs.Layouts.{is_at, has_event}
use Rattle.chart_layout.proofs.IndexLemmas.{is_at-true}
use Rattle.picture_parts.specs.Elements.Elements.{arrow, point_start, group_end}
use Rattle.pictures.specs.Pictures.{PictureView, cell_of, event_of}
use Rattle.pictures.specs.PictureText.{picture_text, top, ground, remarks, bottom}
use Rattle.pictures.specs.RowText.{message, event_label, point, number_at, both, level, slanted, alone, sent, sent_to, row_text}
use Rattle.pictures.specs.Spots.{on_line}
use Rattle.picture_laws.specs.Arrows.{HasArrow, ArrowLaw}
use Rattle.picture_laws.specs.Places.{IsDrawn}
use Rattle.picture_laws.proofs.RowLemmas.{row_there, split_there}
use Rattle.picture_laws.proofs.Standing.{Stands, stands, one_event, end_is, cell_there}

-- the texts by their parts
pub text_is : (v : PictureView) → picture_text v ≡ top v ++ (ground v ++ (flat_map (row_text v) v.choice.rows ++ (remarks v ++ bottom v)))
unfolding picture_text
text_is v = refl

both_is : (v : PictureView) (s r : EventNo) (a b : _) → both v s r a b ≡ message v s a b ++ (point v s a ++ point v r b)
unfolding both
both_is v s r a b = refl

slanted_is : (v : PictureView) (s : EventNo) (a b : _) → slanted v s a b ≡ message v s a b ++ (point v s a ++ [])
unfolding slanted
slanted_is v s a b = ap (λ t. message v s a b ++ t) (sym (append-nil (point v s a)))

message_is : (v : PictureView) (s : EventNo) (a b : _) → message v s a b ≡ arrow (on_line a) (on_line b) ++ event_label v s (a.place == b.place) a b.column
unfolding message
message_is v s a b = refl

point_is : (v : PictureView) (s : EventNo) (a : _) → point v s a ≡ point_start s.instance s.index (on_line a) ++ (number_at v s a ++ group_end)
unfolding point
point_is v s a = refl

regroup : (t g b m l s n p a r : List ℕ) → t ++ (g ++ ((b ++ (((m ++ l) ++ ((s ++ n) ++ p)) ++ a)) ++ r)) ≡ (t ++ (g ++ b)) ++ ((m ++ (l ++ s)) ++ (n ++ (p ++ (a ++ r))))
regroup t g b m l s n p a r = simp append_assoc

module _ (v : PictureView) (is : Stands v) (s r : EventNo) (belongs : BelongsTo (chart_lines v.lines) (place_of s) (place_of r)) where
  abbrev c : Chart
  c = chart_lines v.lines

  -- the row of a send whose receive is drawn has the message, and then the mark of the send
  row_has : (a b : _) → cell_of v s ≡ Some a → cell_of v r ≡ Some b → (i : ℕ) (row : Row) → slice_get v.choice.rows i ≡ Some row → has_event (place_of s) row ≡ true
      → (rest : List ℕ) × (row_text v row ≡ message v s a b ++ (point v s a ++ rest))
  row_has a b at_a at_b i (Message t q) at_i has =
      elim (or_cases (is_at (place_of s) t) (is_at (place_of s) q) has) [
        | inl first ↦
            let same_t = one_event t s (is_at-true (place_of s) t first) in
            let its = subst (λ x. BelongsTo c (place_of x) (place_of q)) same_t (is.drawing.level i t q at_i) in
            let same_q = one_event q r (same_receive c (place_of s) (place_of q) (place_of r) its belongs) in (
              point v r b,
              ap (λ x. row_text v (Message x q)) same_t ∙ ap (λ x. row_text v (Message s x)) same_q
                  ∙ ap (λ o. level v s r o (cell_of v r)) at_a ∙ ap (λ o. level v s r (Some a) o) at_b ∙ both_is v s r a b,
            )
        | inr second ↦
            let same_q = one_event q s (is_at-true (place_of s) q second) in
            let its = subst (λ x. BelongsTo c (place_of t) (place_of x)) same_q (is.drawing.level i t q at_i) in
            absurd (not_both c r.instance t.instance (place_of s) belongs.sent its.received)
      ]
  row_has a b at_a at_b i (Event t) at_i has = (
    [],
    ap (λ x. row_text v (Event x)) (one_event t s (is_at-true (place_of s) t has)) ∙ ap (λ o. alone v s o (event_of v s)) at_a
        ∙ ap (λ o. alone v s (Some a) o) belongs.sent.1 ∙ by_event belongs.sent.0 belongs.sent.2,
  )
    where
      by_event : (m : Occurs) → is_send_to r.instance m ≡ true → alone v s (Some a) (Some m) ≡ message v s a b ++ (point v s a ++ [])
      by_event (events.Send to name) goes = ap (λ o. sent v s to a o) (end_is v is s r belongs) ∙ ap (λ o. sent_to v s to a o) at_b ∙ slanted_is v s a b
      by_event (events.Receive from name region) goes = absurd (false≢true goes)

  -- so the picture has it
  arrow_in : (a b : _) → cell_of v s ≡ Some a → cell_of v r ≡ Some b → (i : ℕ) (row : Row) → slice_get v.choice.rows i ≡ Some row → has_event (place_of s) row ≡ true
      → (before : List ℕ) × (after : List ℕ) × (picture_text v ≡ before ++ ((arrow (on_line a) (on_line b) ++ (event_label v s (a.place == b.place) a b.column ++ point_start s.instance s.index (on_line a))) ++ after))
  arrow_in a b at_a at_b i row at_i has =
      let found = row_has a b at_a at_b i row at_i has in
      let split = split_there (row_text v) v.choice.rows i row at_i in (
        top v ++ (ground v ++ split.0),
        (number_at v s a ++ group_end) ++ (found.0 ++ (split.1 ++ (remarks v ++ bottom v))),
        text_is v
            ∙ ap (λ t. top v ++ (ground v ++ (t ++ (remarks v ++ bottom v))))
            (split.2 ∙ ap (λ t. split.0 ++ (t ++ split.1)) (found.1 ∙ ap (λ t. t ++ (point v s a ++ found.0)) (message_is v s a b) ∙ ap (λ t. (arrow (on_line a) (on_line b) ++ event_label v s (a.place == b.place) a b.column) ++ (t ++ found.0)) (point_is v s a)))
            ∙ regroup (top v) (ground v) split.0 (arrow (on_line a) (on_line b)) (event_label v s (a.place == b.place) a b.column) (point_start s.instance s.index (on_line a)) (number_at v s a ++ group_end) found.0 split.1 (remarks v ++ bottom v),
      )

  pub arrow_there : IsDrawn v s → IsDrawn v r → HasArrow v s r
  arrow_there drawn_s drawn_r =
      let one = cell_there v is s drawn_s in
      let other = cell_there v is r drawn_r in
      let row = row_there v.choice.rows (place_of s) one.row one.of_event in
      let found = arrow_in _ _ one.cell other.cell one.row row.0 row.1 row.2 in
      record {
        start = _;
        tip = _;
        start_is = record { column = one.column; row = one.row; of_instance = one.of_instance; of_event = one.of_event; x_is = refl; y_is = refl };
        tip_is = record { column = other.column; row = other.row; of_instance = other.of_instance; of_event = other.of_event; x_is = refl; y_is = refl };
        near = _;
        middle = _;
        has = record { before = found.0; after = found.1; is = found.2 };
      }

pub arrow_law : ArrowLaw
arrow_law source part v of_chart s r belongs drawn_s drawn_r =
    arrow_there v (stands source part v of_chart) s r (subst (λ lines. BelongsTo (chart_lines lines) (place_of s) (place_of r)) (sym of_chart.picture.lines_are) belongs) drawn_s drawn_r
