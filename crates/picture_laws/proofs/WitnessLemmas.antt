-- The two events of a witness are marked in both pictures.
use Rattle.std.proofs.Common.{◌≡◌, ℕ, ◌+◌, ◌≤◌, ◌*◌, List, ◌++◌, length, take, Option, Some, refl, sym, ap, ◌∙◌, subst, arith, max, append_assoc}
use Rattle.std.specs.Prelude.{option_map}
use Rattle.chart.specs.declared.instance.EventNo.{EventNo}
use Rattle.chart.specs.Charts.{chart_lines}
use Rattle.chart.specs.Events.{is_receive_from}
use Rattle.chart.specs.HistoryLines.{history_lines}
use Rattle.chart.specs.Histories.{IsLegal, chart_of}
use Rattle.chart.specs.Places.{IsEvent}
use Rattle.chart.proofs.Belongs.{IsEvent-from_passes}
use Rattle.chart.proofs.HistoryLines.{chart-is}
use Rattle.closure.specs.Faults.{place_of}
use Rattle.closure.proofs.ReadLemmas.{instance_within}
use Rattle.cmd_base.specs.Columns.Columns.{only_of}
use Rattle.cmd_base.specs.Texts.{named_of, IsSourceOf}
use Rattle.cmd_base.specs.declared.pairs.pair.Pair.{Pair}
use Rattle.cmd_base.specs.declared.source.Source.{Source}
use Rattle.cmd_base.specs.declared.source.Source.TheVariants.{Run, Written}
use Rattle.cmd_base.specs.declared.text.Text.TheVariants.{Schedule}
use Rattle.cmd_draw.specs.Witness.Beside as beside
use Rattle.cmd_draw.specs.Witness.Beside.{corner, square, ring, group_start, square_at, ring_at, spot_from, marks, side_text, key, beside_text}
use Rattle.cmd_draw.specs.Witness.Counterparts.{counterpart}
use Rattle.picture_parts.specs.Columns.Choices.{count_from}
use Rattle.picture_parts.specs.declared.elements.spot.Spot.{Spot}
use Rattle.picture_parts.specs.Elements.Elements.{group_end}
use Rattle.picture_parts.specs.Elements.Frames.{svg_start, title, svg_end}
use Rattle.pictures.specs.Pictures.{PictureView, spot_of}
use Rattle.pictures.specs.PictureText.{picture_text, tall_of}
use Rattle.pictures.specs.Spots.{on_line}
use Rattle.schedule.specs.Meaning.{meaning}
use Rattle.schedule.specs.Plans.{Plan}
use Rattle.picture_laws.specs.Places.{IsDrawn}
use Rattle.picture_laws.specs.Witnesses.{HasColumn, IsMarked, WitnessLaw}
use Rattle.picture_laws.proofs.CounterpartLemmas.{counterpart_there}
use Rattle.picture_laws.proofs.Standing.{Stands, cell_there}
use Rattle.picture_laws.proofs.WholeLemmas.{whole_stands, whole_drawn}

side_is : (x : ℕ) (v : PictureView) (earlier receive : Option EventNo)
    → side_text x v earlier receive ≡ group_start x ++ (picture_text v ++ ((square_at (spot_from v earlier) ++ ring_at (spot_from v receive)) ++ group_end))
unfolding side_text marks
side_is x v earlier receive = refl

beside_is : (words name : List ℕ) (pair : Pair) (left right : PictureView) (there : _)
    → beside_text words name pair left right there
    ≡ svg_start (left.width + right.width) (max (tall_of left) (tall_of right) + 44)
    ++ (title words ++ (beside.ground ++ (side_text 0 left (Some pair.earlier) (Some pair.receive) ++ (side_text left.width right there.earlier there.receive
    ++ (key (max (tall_of left) (tall_of right)) name pair ++ svg_end)))))
unfolding beside_text
beside_is words name pair left right there = refl

regroup : (b x p q r e z : List ℕ) → b ++ ((x ++ (p ++ ((q ++ r) ++ e))) ++ z) ≡ b ++ ((x ++ (p ++ (q ++ (r ++ e)))) ++ z)
regroup b x p q r e z = simp append_assoc

left_first : (s t g l z : List ℕ) → s ++ (t ++ (g ++ (l ++ z))) ≡ (s ++ (t ++ g)) ++ (l ++ z)
left_first s t g l z = simp append_assoc

right_next : (s t g l r z : List ℕ) → s ++ (t ++ (g ++ (l ++ (r ++ z)))) ≡ (s ++ (t ++ (g ++ l))) ++ (r ++ z)
right_next s t g l r z = simp append_assoc

-- a picture in which both events are drawn has their marks
marked_there : (x : ℕ) (v : PictureView) (e r : EventNo) (text before after : List ℕ) → text ≡ before ++ (side_text x v (Some e) (Some r) ++ after) → Stands v → IsDrawn v e → IsDrawn v r → IsMarked x v e r text
marked_there x v e r text before after is stands drawn_e drawn_r =
    let one = cell_there v stands e drawn_e in
    let other = cell_there v stands r drawn_r in
    let a : Spot = record { x = one.column.x; y = count_from v.choice 0 (take one.row v.choice.rows) * 24 + 84 } in
    let b : Spot = record { x = other.column.x; y = count_from v.choice 0 (take other.row v.choice.rows) * 24 + 84 } in
    let first : spot_of v e ≡ Some a = ap (option_map on_line) one.cell in
    let second : spot_of v r ≡ Some b = ap (option_map on_line) other.cell in
    record {
      drawn_earlier = drawn_e;
      drawn_receive = drawn_r;
      first = a;
      second = b;
      first_is = record { column = one.column; row = one.row; of_instance = one.of_instance; of_event = one.of_event; x_is = refl; y_is = refl };
      second_is = record { column = other.column; row = other.row; of_instance = other.of_instance; of_event = other.of_event; x_is = refl; y_is = refl };
      has = record {
        before = before;
        after = after;
        is = is ∙ ap (λ t. before ++ (t ++ after)) (side_is x v (Some e) (Some r))
            ∙ ap (λ o. before ++ ((group_start x ++ (picture_text v ++ ((square_at o ++ ring_at (spot_of v r)) ++ group_end))) ++ after)) first
            ∙ ap (λ o. before ++ ((group_start x ++ (picture_text v ++ ((square_at (Some a) ++ ring_at o) ++ group_end))) ++ after)) second
            ∙ regroup before (group_start x) (picture_text v) (square (corner a)) (ring b) group_end after;
      };
    }

-- the outcome of a plan
outcome_is : (plan : Plan) (other : Source) → IsSourceOf (Schedule plan) other → ((named_of other).1 ≡ history_lines (length plan.names) (meaning plan).run.history) × ((named_of other).0 ≡ plan.names)
outcome_is plan (Run schedule outcome) (same, comes) = (
  subst (λ (p : Plan). outcome.chart ≡ history_lines (length p.names) (meaning p).run.history) same comes.chart,
  comes.names ∙ ap (λ (p : Plan). p.names) same,
)
outcome_is plan (Written named) (never, comes) = absurd never

pub witness_law : WitnessLaw
witness_law asked wanted source other pair plan text chart chart_there many is_pair witness is_source are has =
    let lines = (named_of source).1 in
    let receive : IsEvent (chart_lines lines) (place_of pair.receive) = IsEvent-from_passes (chart_lines lines) (is_receive_from is_pair.receive.0) (place_of pair.receive) is_pair.receive.1 in
    let earlier : IsEvent (chart_lines lines) (place_of pair.earlier) = (
      is_pair.earlier.begun,
      subst (λ p. pair.earlier.index ≤ length (chart_lines lines p)) (sym is_pair.earlier.line) (omega (arith, is_pair.earlier.less, receive.1)),
    ) in
    let on = instance_within lines (place_of pair.receive) receive in
    let within : pair.receive.instance ≤ length (named_of source).0 = omega (arith, on.1, on.2, many) in
    let within_earlier : pair.earlier.instance ≤ length (named_of source).0 = omega (arith, within, is_pair.earlier.line) in
    let has_earlier = subst (HasColumn (named_of source).0 (only_of wanted.only)) (sym is_pair.earlier.line) has in
    let outcome = outcome_is plan other is_source in
    let names_are : (named_of other).0 ≡ (named_of source).0 = outcome.1 ∙ witness.0 in
    let legal : IsLegal (length plan.names) plan.capacity (meaning plan).run.history = subst (λ k. IsLegal k plan.capacity (meaning plan).run.history) (ap length (sym witness.0)) witness.1.run.legal in
    let same : chart_of (meaning plan).run.history ≡ chart_lines (named_of other).1 = chart-is (length plan.names) plan.capacity (meaning plan).run.history legal ∙ ap chart_lines (sym outcome.0) in
    let e = counterpart_there (length (named_of source).0) plan.capacity lines (named_of other).1 (meaning plan).run.history witness.1.run same pair.earlier earlier in
    let r = counterpart_there (length (named_of source).0) plan.capacity lines (named_of other).1 (meaning plan).run.history witness.1.run same pair.receive receive in
    let opening = svg_start (are.here.width + are.there.width) (max (tall_of are.here) (tall_of are.there) + 44) in
    let left = side_text 0 are.here (Some pair.earlier) (Some pair.receive) in
    let keyed = key (max (tall_of are.here) (tall_of are.there)) asked.instance.now pair ++ svg_end in
    let one = counterpart lines (named_of other).1 pair.earlier in
    let two = counterpart lines (named_of other).1 pair.receive in
    let whole = are.is ∙ beside_is wanted.title.now asked.instance.now pair are.here are.there _ in
    record {
      here = marked_there 0 are.here pair.earlier pair.receive text (opening ++ (title wanted.title.now ++ beside.ground)) (side_text are.here.width are.there one two ++ keyed)
          (whole ∙ left_first opening (title wanted.title.now) beside.ground left (side_text are.here.width are.there one two ++ keyed))
          (whole_stands _ _ _ are.left.all _ _ (named_of source) are.here are.left.is_whole are.left.is_picture)
          (whole_drawn _ _ _ are.left.all _ _ (named_of source) are.here are.left.is_whole are.left.is_picture chart pair.earlier earlier within_earlier has_earlier)
          (whole_drawn _ _ _ are.left.all _ _ (named_of source) are.here are.left.is_whole are.left.is_picture chart pair.receive receive within has);
      earlier = e.0;
      receive = r.0;
      earlier_is = e.1;
      receive_is = r.1;
      there = marked_there are.here.width are.there e.0 r.0 text (opening ++ (title wanted.title.now ++ (beside.ground ++ left))) keyed
          (whole ∙ ap (λ o. opening ++ (title wanted.title.now ++ (beside.ground ++ (left ++ (side_text are.here.width are.there o two ++ keyed))))) e.1
          ∙ ap (λ o. opening ++ (title wanted.title.now ++ (beside.ground ++ (left ++ (side_text are.here.width are.there (Some e.0) o ++ keyed))))) r.1
          ∙ right_next opening (title wanted.title.now) beside.ground left (side_text are.here.width are.there (Some e.0) (Some r.0)) keyed)
          (whole_stands _ _ _ are.right.all _ _ (named_of other) are.there are.right.is_whole are.right.is_picture)
          (whole_drawn _ _ _ are.right.all _ _ (named_of other) are.there are.right.is_whole are.right.is_picture chart_there e.0 e.3 (near e.0 pair.earlier.instance e.2 within_earlier names_are) (moved e.0 pair.earlier.instance e.2 has_earlier names_are))
          (whole_drawn _ _ _ are.right.all _ _ (named_of other) are.there are.right.is_whole are.right.is_picture chart_there r.0 r.3 (near r.0 pair.receive.instance r.2 within names_are) (moved r.0 pair.receive.instance r.2 has names_are));
    }
  where
    near : (f : EventNo) (p : ℕ) → f.instance ≡ p → p ≤ length (named_of source).0 → (named_of other).0 ≡ (named_of source).0 → f.instance ≤ length (named_of other).0
    near f p its within names_are = let as_long = ap length names_are in omega (arith, its, within, as_long)

    moved : (f : EventNo) (p : ℕ) → f.instance ≡ p → HasColumn (named_of source).0 (only_of wanted.only) p → (named_of other).0 ≡ (named_of source).0 → HasColumn (named_of other).0 (only_of wanted.only) f.instance
    moved f p its its_column names_are =
        subst (λ names. HasColumn names (only_of wanted.only) f.instance) (sym names_are) (subst (HasColumn (named_of source).0 (only_of wanted.only)) (sym its) its_column)
