-- The rows of a picture have the marks of their events.
use Rattle.std.proofs.Common.{◌≡◌, ℕ, ◌==◌, ◌&&◌, Bool, true, false, cond, List, [], ◌∷◌, ◌++◌, Option, None, Some, refl, sym, ap, ◌∙◌, subst, append_assoc, decimal}
use Rattle.std.specs.Prelude.{codes, is_some, option_map}
use Rattle.std.specs.List.{flat_map}
use Rattle.chart.specs.declared.event.Event.{Event as Occurs}
use Rattle.chart.specs.declared.event.Event.TheVariants as events
use Rattle.chart.specs.declared.instance.EventNo.{EventNo}
use Rattle.chart.specs.Charts.{chart_lines}
use Rattle.chart.specs.Places.{IsEvent}
use Rattle.chart.proofs.Tally.{ith_at}
use Rattle.closure.specs.Faults.{place_of}
use Rattle.chart_layout.specs.declared.row.Row.{Row}
use Rattle.chart_layout.specs.declared.row.Row.TheVariants.{Message, Event}
use Rattle.texts.specs.Instances.{name_at}
use Rattle.picture_parts.specs.declared.columns.columns.Column.{Column}
use Rattle.picture_parts.specs.declared.elements.spot.Spot.{Spot}
use Rattle.picture_parts.specs.Columns.TextWidths.{name_width}
use Rattle.picture_parts.specs.Elements.Elements.{arrow, ring, label_start, label_end, number_text, point_start, group_end}
use Rattle.pictures.specs.Pictures.{PictureView, column_of, cell_of, spot_of, end_of}
use Rattle.pictures.specs.RowText.{message_name, side_text, number_class, number_at, point, event_label, cut_label, leaving, coming, message, waiting_ends, toward, waiting, both, level, slanted, sent_to, sent_off, sent, has_end, alone, row_text}
use Rattle.pictures.specs.Spots.{on_line, are_near, label_x, height, number_spot, aside, cut_spot}
use Rattle.picture_laws.specs.Marks.{begins, and_one, times_in}
use Rattle.picture_laws.proofs.CountLemmas.{row_marks, rows_marks, IsGood, AreGood}
use Rattle.picture_laws.proofs.QuietLemmas.{word, IsQuiet, quiet-append, quiet-none, quiet-cond, plain, number, arrow-quiet, ring-quiet, label-quiet, label_start-quiet, label_end-quiet, number_text-quiet, group_end-quiet}
use Rattle.picture_laws.proofs.TextLemmas.{Lacks}

-- a mark's circle, and a mark after the beginning of its id
abbrev pub circle : Spot → List ℕ
circle a = codes "<circle class='p' cx='" ++ (decimal a.x ++ (codes "' cy='" ++ (decimal a.y ++ codes "' r='4'/>")))

abbrev pub body : EventNo → Spot → List ℕ
body x a = decimal x.instance ++ (codes "-" ++ (decimal x.index ++ (codes "'>" ++ circle a)))

class-lacks : (b : Bool) → Lacks 60 (cond b (codes "e") (codes "n"))
class-lacks true = refl
class-lacks false = refl

module _ (w : List ℕ) where
  -- as many more, by f, are in the text
  abbrev pub Adds : (ℕ → ℕ) → List ℕ → Type 0
  Adds f t = (rest : List ℕ) → times_in (word w) (t ++ rest) ≡ f (times_in (word w) rest)

  adds_before : (f : ℕ → ℕ) (t u : List ℕ) → IsQuiet w t → Adds f u → Adds f (t ++ u)
  adds_before f t u p q rest = ap (times_in (word w)) (append_assoc t u rest) ∙ p (u ++ rest) ∙ q rest

  adds_after : (f : ℕ → ℕ) (t u : List ℕ) → Adds f t → IsQuiet w u → Adds f (t ++ u)
  adds_after f t u p q rest = ap (times_in (word w)) (append_assoc t u rest) ∙ p (u ++ rest) ∙ ap f (q rest)

  adds_both : (f g : ℕ → ℕ) (t u : List ℕ) → Adds f t → Adds g u → Adds (λ n. f (g n)) (t ++ u)
  adds_both f g t u p q rest = ap (times_in (word w)) (append_assoc t u rest) ∙ p (u ++ rest) ∙ ap f (q rest)

  adds_cond : (f : ℕ → ℕ) (b : Bool) (t u : List ℕ) → Adds f t → Adds f u → Adds f (cond b t u)
  adds_cond f true t u p q = p
  adds_cond f false t u p q = q

  body-quiet : (x : EventNo) (a : Spot) → IsQuiet w (body x a)
  body-quiet x a = number w x.instance _ (number w x.index _ (number w a.x _ (number w a.y _ (λ rest. refl))))

  module _ (hit : EventNo → Bool) (v : PictureView) (names : (p : ℕ) → Lacks 60 (name_at v.names p)) (messages : (e : EventNo) → Lacks 60 (message_name v e))
      (ready : (x : EventNo) (a : Spot) → spot_of v x ≡ Some a → IsEvent (chart_lines v.lines) (place_of x) → (rest : List ℕ) → begins w (body x a ++ rest) ≡ hit x) where
    abbrev IsThere : EventNo → Type 0
    IsThere x = IsEvent (chart_lines v.lines) (place_of x)

    abbrev one : EventNo → ℕ → ℕ
    one x n = and_one (hit x) n

    start-adds : (x : EventNo) (a : Spot) → spot_of v x ≡ Some a → IsThere x → Adds (one x) (point_start x.instance x.index a)
    unfolding point_start
    start-adds x a at_a there rest = ap (λ b. and_one b (times_in (word w) (body x a ++ rest))) (ready x a at_a there rest) ∙ ap (one x) (body-quiet x a rest)

    point-adds : (x : EventNo) (cell : _) → cell_of v x ≡ Some cell → IsThere x → Adds (one x) (point v x cell)
    unfolding point
    point-adds x cell at_cell there =
        adds_after (one x) (point_start x.instance x.index (on_line cell)) (number_at v x cell ++ group_end) (start-adds x (on_line cell) (ap (option_map on_line) at_cell) there)
        (quiet-append w (number_at v x cell) group_end
        (quiet-cond w v.numbers (number_text (number_class cell) (number_spot cell) x.index) [] (number_text-quiet w (number_class cell) (number_spot cell) x.index (class-lacks cell.column.room.mirrored)) (quiet-none w))
        (group_end-quiet w))

    cut-quiet : (words : List ℕ) → Lacks 60 words → (e : EventNo) (other : ℕ) (a : Spot) → IsQuiet w (label_start a ++ (message_name v e ++ (words ++ (name_at v.names other ++ label_end))))
    cut-quiet words clean e other a =
        quiet-append w (label_start a) (message_name v e ++ (words ++ (name_at v.names other ++ label_end))) (label_start-quiet w a)
        (plain w (message_name v e) (words ++ (name_at v.names other ++ label_end)) (messages e)
        (plain w words (name_at v.names other ++ label_end) clean (plain w (name_at v.names other) label_end (names other) (label_end-quiet w))))

    leaving-adds : (x : EventNo) (q : ℕ) (cell : _) → cell_of v x ≡ Some cell → IsThere x → Adds (one x) (leaving v x q cell)
    unfolding leaving cut_label side_text
    leaving-adds x q cell at_cell there =
        adds_before (one x) (arrow (on_line cell) (aside cell)) _ (arrow-quiet w (on_line cell) (aside cell))
        (adds_before (one x) (label_start (cut_spot cell) ++ (message_name v x ++ (codes " to " ++ (name_at v.names q ++ label_end)))) (point v x cell) (cut-quiet (codes " to ") refl x q (cut_spot cell))
        (point-adds x cell at_cell there))

    coming-adds : (x : EventNo) (q : ℕ) (cell : _) → cell_of v x ≡ Some cell → IsThere x → Adds (one x) (coming v x q cell)
    unfolding coming cut_label side_text
    coming-adds x q cell at_cell there =
        adds_before (one x) (arrow (aside cell) (on_line cell)) _ (arrow-quiet w (aside cell) (on_line cell))
        (adds_before (one x) (label_start (cut_spot cell) ++ (message_name v x ++ (codes " from " ++ (name_at v.names q ++ label_end)))) (point v x cell) (cut-quiet (codes " from ") refl x q (cut_spot cell))
        (point-adds x cell at_cell there))

    event_label-quiet : (e : EventNo) (flat : Bool) (a : _) (to : Column) → IsQuiet w (event_label v e flat a to)
    event_label-quiet e flat a to =
        label-quiet w (are_near a.column to) (message_name v e) (label_x flat a.column to (name_width (are_near a.column to) (message_name v e))) (height a.place) (messages e)

    message-quiet : (e : EventNo) (a b : _) → IsQuiet w (message v e a b)
    unfolding message
    message-quiet e a b =
        quiet-append w (arrow (on_line a) (on_line b)) (event_label v e (a.place == b.place) a b.column) (arrow-quiet w (on_line a) (on_line b)) (event_label-quiet e (a.place == b.place) a b.column)

    toward-quiet : (a : _) (to : Column) → IsQuiet w (toward a to)
    unfolding toward
    toward-quiet a to =
        quiet-append w (arrow (on_line a) (waiting_ends a to).0) (ring (waiting_ends a to).1) (arrow-quiet w (on_line a) (waiting_ends a to).0) (ring-quiet w (waiting_ends a to).1)

    waiting-adds : (x : EventNo) (cell : _) (to : Column) → cell_of v x ≡ Some cell → IsThere x → Adds (one x) (waiting v x cell to)
    unfolding waiting
    waiting-adds x cell to at_cell there =
        adds_before (one x) (toward cell to) (event_label v x true cell to ++ point v x cell) (toward-quiet cell to)
        (adds_before (one x) (event_label v x true cell to) (point v x cell) (event_label-quiet x true cell to) (point-adds x cell at_cell there))

    slanted-adds : (x : EventNo) (a b : _) → cell_of v x ≡ Some a → IsThere x → Adds (one x) (slanted v x a b)
    unfolding slanted
    slanted-adds x a b at_a there = adds_before (one x) (message v x a b) (point v x a) (message-quiet x a b) (point-adds x a at_a there)

    both-adds : (s r : EventNo) (a b : _) → cell_of v s ≡ Some a → cell_of v r ≡ Some b → IsThere s → IsThere r → Adds (λ n. one s (one r n)) (both v s r a b)
    unfolding both
    both-adds s r a b at_a at_b there_s there_r =
        adds_before (λ n. one s (one r n)) (message v s a b) (point v s a ++ point v r b) (message-quiet s a b)
        (adds_both (one s) (one r) (point v s a) (point v r b) (point-adds s a at_a there_s) (point-adds r b at_b there_r))

    level-adds : (s r : EventNo) (a b : _) → cell_of v s ≡ a → cell_of v r ≡ b → IsThere s → IsThere r
        → Adds (λ n. and_one (is_some a && hit s) (and_one (is_some b && hit r) n)) (level v s r a b)
    level-adds s r None None at_a at_b there_s there_r = λ rest. refl
    level-adds s r None (Some b) at_a at_b there_s there_r = coming-adds r s.instance b at_b there_r
    level-adds s r (Some a) None at_a at_b there_s there_r = leaving-adds s r.instance a at_a there_s
    level-adds s r (Some a) (Some b) at_a at_b there_s there_r = both-adds s r a b at_a at_b there_s there_r

    off-adds : (x : EventNo) (q : ℕ) (a : _) → cell_of v x ≡ Some a → IsThere x → (column : Option Column) → Adds (one x) (sent_off v x q a column)
    off-adds x q a at_a there None = leaving-adds x q a at_a there
    off-adds x q a at_a there (Some column) = waiting-adds x a column at_a there

    to-adds : (x : EventNo) (q : ℕ) (a : _) → cell_of v x ≡ Some a → IsThere x → (b : _) → Adds (one x) (sent_to v x q a b)
    to-adds x q a at_a there None = leaving-adds x q a at_a there
    to-adds x q a at_a there (Some b) = slanted-adds x a b at_a there

    sent-adds : (x : EventNo) (q : ℕ) (a : _) → cell_of v x ≡ Some a → IsThere x → (other : Option EventNo) → Adds (one x) (sent v x q a other)
    sent-adds x q a at_a there None = off-adds x q a at_a there (column_of v q)
    sent-adds x q a at_a there (Some r) = to-adds x q a at_a there (cell_of v r)

    alone-adds : (x : EventNo) (a : _) → cell_of v x ≡ a → IsThere x → (m : Occurs) → Adds (λ n. and_one (is_some a && hit x) n) (alone v x a (Some m))
    alone-adds x None at_a there m = λ rest. refl
    alone-adds x (Some a) at_a there (events.Send to name) = sent-adds x to a at_a there (end_of v x)
    alone-adds x (Some a) at_a there (events.Receive from name region) =
        adds_cond (one x) (has_end v x) (point v x a) (coming v x from a) (point-adds x a at_a there) (coming-adds x from a at_a there)

    -- an event has its mark if it is drawn
    abbrev pub its : EventNo → Bool
    its x = is_some (cell_of v x) && hit x

    row-adds : (row : Row) → IsGood (chart_lines v.lines) row → Adds (row_marks its row) (row_text v row)
    row-adds (Message s r) good = level-adds s r (cell_of v s) (cell_of v r) refl refl good.0 good.1
    row-adds (Event x) good =
        let m = ith_at (chart_lines v.lines x.instance) x.index good.0 good.1 in
        subst (λ o. Adds (λ n. and_one (its x) n) (alone v x (cell_of v x) o)) (sym m.1) (alone-adds x (cell_of v x) refl good m.0)

    pub rows-adds : (rows : List Row) → AreGood (chart_lines v.lines) rows → Adds (rows_marks its rows) (flat_map (row_text v) rows)
    rows-adds [] good = λ rest. refl
    rows-adds (row ∷ rows) good = adds_both (row_marks its row) (rows_marks its rows) (row_text v row) (flat_map (row_text v) rows) (row-adds row good.0) (rows-adds rows good.1)
