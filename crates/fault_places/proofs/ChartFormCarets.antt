-- The caret of a chart's line that is refused for its form, and what may be there.
use Rattle.std.proofs.Common.{◌≡◌, ℕ, ◌+◌, ◌-◌, ◌≤◌, true, false, List, [], ◌∷◌, ◌++◌, length, take, drop, Err, refl, sym, ap, ◌∙◌, subst, arith, append-nil}
use Rattle.std.specs.Prelude.{Option, Some, codes}
use Rattle.std.proofs.Math.Seq.{take-append_seam}
use Rattle.std.proofs.lemmas.Bool.{false≢true}
use Rattle.chart.specs.declared.instance.TheConstants.{MAX_INSTANCES}
use Rattle.fault_places.proofs.CaretLemmas.{place_is, stops_form}
use Rattle.fault_places.proofs.ChartForms.{chart_form}
use Rattle.fault_places.proofs.ChartReads.{stopped}
use Rattle.fault_places.proofs.ChartWalks.{is_of_chart, goes_further, found_form, filler, fills, own_form, receiver_form, sender_form, sent_name, received_name}
use Rattle.fault_places.specs.Carets.{is_past, has_form}
use Rattle.fault_places.specs.ChartCarets.{want_of, line_fault, MayName, MayBe, may_go_on, IsChartCaret, lines_above, line_in, IsFaultAt}
use Rattle.fault_places.specs.Spots.{spot_of}
use Rattle.fault_places.specs.Standings.{line_at, first_or}
use Rattle.fault_places.specs.Wants.{begins_out, begins_in, named_on, chart_next, next}
use Rattle.fault_places.specs.declared.want.Want.{Want}
use Rattle.fault_places.specs.declared.want.Want.TheVariants as wants
use Rattle.msc_text.specs.Reader.LastWords.{semi}
use Rattle.msc_text.specs.Reader.Reading.{look_from, names_in}
use Rattle.msc_text.specs.Reader.Steps.{name_part, is_plain}
use Rattle.msc_text.specs.declared.reader.state.Region.TheVariants as regions
use Rattle.msc_text.specs.declared.reader.state.State.{State}
use Rattle.msc_text.specs.declared.reader.state.State.TheVariants as states
use Rattle.texts.proofs.Parts.{lacks_if, words_cons}
use Rattle.texts.specs.Lines.{lines_of, end_of, words_of}
use Rattle.texts.specs.declared.fault.Cause.{Cause}
use Rattle.texts.specs.declared.fault.Cause.TheVariants as causes
use Rattle.texts.specs.declared.fault.Fault.TheVariants.{Line}

-- ---- what may be there

takes_chart : (read : List (List ℕ) → Option Cause) (may : List ℕ → Type 0) (before : List (List ℕ)) (want : Want) → is_of_chart want ≡ true → ((more : List (List ℕ)) → is_past 0 (read (before ++ more)) ≡ has_form want more)
    → MayBe read 0 may before want
unfolding next chart_next begins_out begins_in named_on name_part is_plain
takes_chart read may before wants.Msc h l = (codes "run;" ∷ [], (lacks_if 32 (codes "run;") refl, tt), l (codes "msc" ∷ codes "run;" ∷ []))
takes_chart read may before wants.ChartName h l = ([], tt, l (codes "run;" ∷ []))
takes_chart read may before wants.InstanceOrEnd h l =
    ((codes "a;" ∷ [], (lacks_if 32 (codes "a;") refl, tt), l (codes "instance" ∷ codes "a;" ∷ [])), (([], tt, l (codes "endmsc;" ∷ [])), tt))
takes_chart read may before wants.InstanceName h l = λ name is m. ([], tt, l (semi name ∷ []) ∙ own_form name is)
takes_chart read may before wants.Event h l = (
  (codes "a" ∷ codes "to" ∷ codes "a;" ∷ [], (lacks_if 32 (codes "a") refl, (lacks_if 32 (codes "to") refl, (lacks_if 32 (codes "a;") refl, tt))), l (codes "out" ∷ codes "a" ∷ codes "to" ∷ codes "a;" ∷ [])),
  (
    (codes "a" ∷ codes "from" ∷ codes "a;" ∷ [], (lacks_if 32 (codes "a") refl, (lacks_if 32 (codes "from") refl, (lacks_if 32 (codes "a;") refl, tt))), l (codes "in" ∷ codes "a" ∷ codes "from" ∷ codes "a;" ∷ [])),
    (([], tt, l (codes "concurrent;" ∷ [])), (([], tt, l (codes "endinstance;" ∷ [])), tt)),
  ),
)
takes_chart read may before wants.OpenedEvent h l =
    (codes "a" ∷ codes "from" ∷ codes "a;" ∷ [], (lacks_if 32 (codes "a") refl, (lacks_if 32 (codes "from") refl, (lacks_if 32 (codes "a;") refl, tt))), l (codes "in" ∷ codes "a" ∷ codes "from" ∷ codes "a;" ∷ []))
takes_chart read may before wants.HeldEvent h l = (
  (codes "a" ∷ codes "from" ∷ codes "a;" ∷ [], (lacks_if 32 (codes "a") refl, (lacks_if 32 (codes "from") refl, (lacks_if 32 (codes "a;") refl, tt))), l (codes "in" ∷ codes "a" ∷ codes "from" ∷ codes "a;" ∷ [])),
  (([], tt, l (codes "endconcurrent;" ∷ [])), tt),
)
takes_chart read may before wants.Sent h l = λ name is. (codes "to" ∷ codes "a;" ∷ [], (lacks_if 32 (codes "to") refl, (lacks_if 32 (codes "a;") refl, tt)), l (name ∷ codes "to" ∷ codes "a;" ∷ []) ∙ sent_name name is)
takes_chart read may before wants.To h l = (codes "a;" ∷ [], (lacks_if 32 (codes "a;") refl, tt), l (codes "to" ∷ codes "a;" ∷ []))
takes_chart read may before wants.Receiver h l = λ name is m. ([], tt, l (semi name ∷ []) ∙ receiver_form name is)
takes_chart read may before wants.Received h l = λ name is. (codes "from" ∷ codes "a;" ∷ [], (lacks_if 32 (codes "from") refl, (lacks_if 32 (codes "a;") refl, tt)), l (name ∷ codes "from" ∷ codes "a;" ∷ []) ∙ received_name name is)
takes_chart read may before wants.From h l = (codes "a;" ∷ [], (lacks_if 32 (codes "a;") refl, tt), l (codes "from" ∷ codes "a;" ∷ []))
takes_chart read may before wants.Sender h l = λ name is m. ([], tt, l (semi name ∷ []) ∙ sender_form name is)
takes_chart read may before wants.LineEnd h l = ap (λ words. is_past 0 (read words)) (sym (append-nil before)) ∙ l []
takes_chart read may before wants.ChartEnd h l = tt
takes_chart read may before _ h l = absurd (false≢true h)

-- ---- the caret

begins_chart : (state : State) → is_of_chart (want_of state) ≡ true
begins_chart states.Start = refl
begins_chart states.Outside = refl
begins_chart (states.Inside own events regions.Closed) = refl
begins_chart (states.Inside own events regions.Empty) = refl
begins_chart (states.Inside own events regions.Held) = refl
begins_chart states.Done = refl

begins_further : (state : State) → may_go_on causes.Syntax state ≡ true → goes_further (want_of state) ≡ true
begins_further states.Start h = refl
begins_further states.Outside h = refl
begins_further (states.Inside own events regions.Closed) h = refl
begins_further (states.Inside own events regions.Empty) h = refl
begins_further (states.Inside own events regions.Held) h = refl
begins_further states.Done h = absurd (false≢true h)

pub syntax_caret : (first : List ℕ) (names : List (List ℕ)) (state : State) (line : List ℕ) → line_fault names state (words_of line) ≡ Some causes.Syntax
    → IsChartCaret (line_fault names state) (MayName names state causes.Syntax) state causes.Syntax (words_of line) (spot_of causes.Syntax first line (want_of state))
unfolding spot_of
syntax_caret first names state line fault =
    let begin : Want = want_of state in
    let words : List (List ℕ) = words_of line in
    let read : List (List ℕ) → Option Cause = line_fault names state in
    let some = words_cons line in
    let form : has_form begin words ≡ false = sym (chart_form names state words) ∙ ap (is_past 0) fault in
    let f = found_form (words_of first) words begin 0 0 words (begins_chart state) form (omega (arith, ap length some.is)) in
    let spot = spot_of causes.Syntax first line begin in
    let leads : (more : List (List ℕ)) → is_past 0 (read (f.before ++ more)) ≡ has_form spot.want more = λ more. chart_form names state (f.before ++ more) ∙ f.leads more in
    record {
      before = f.before;
      from = f.from;
      are = f.are;
      word = spot.place;
      at_word = place_is spot.place f.before f.from f.place;
      place = omega arith;
      goes_on = λ may.
          (let fill = fills spot.want f.kind (f.further (begins_further state may)) in
          (filler spot.want, fill.1, leads (filler spot.want) ∙ fill.0));
      stops = stops_form read f.before f.from spot.want leads f.faulty;
      may_be = takes_chart read (MayName names state causes.Syntax) f.before spot.want f.kind leads;
    }

-- ---- the text

pub drop_front : (xs ys : List (List ℕ)) → drop (length xs) (xs ++ ys) ≡ ys
drop_front [] ys = refl
drop_front (x ∷ xs) ys = drop_front xs ys

-- a fault of the first look, with the caret of its line
pub fault_at : (first bytes : List ℕ) (number : ℕ) (cause : Cause) → names_in bytes ≡ Err (Line number cause)
    → ((names : List (List ℕ)) (state : State) (line : List ℕ) → length names ≤ MAX_INSTANCES → line_fault names state (words_of line) ≡ Some cause → IsChartCaret (line_fault names state) (MayName names state cause) state cause (words_of line) (spot_of cause first line (want_of state)))
    → IsFaultAt first bytes number cause
unfolding names_in
fault_at first bytes number cause e caret =
    let s = stopped [] states.Start 1 (lines_of bytes) (end_of bytes) number cause (omega arith) e in
    let counted = s.counted in
    let count : number - 1 ≡ length s.above = omega arith in
    let above : lines_above bytes number ≡ s.above = ap (λ k. take k (lines_of bytes)) count ∙ ap (take (length s.above)) s.are ∙ take-append_seam s.above s.below in
    let line : line_in bytes number ≡ first_or (end_of bytes) s.below =
    ap (λ k. first_or (end_of bytes) (drop k (lines_of bytes))) count ∙ ap (λ l. first_or (end_of bytes) (drop (length s.above) l)) s.are ∙ ap (first_or (end_of bytes)) (drop_front s.above s.below) in
    let begin : line_at wants.Msc (lines_above bytes number) ≡ want_of s.reached = ap (line_at wants.Msc) above ∙ s.wanted in
    let long : 1 + length s.above ≡ length (lines_above bytes number) + 1 = omega (arith, ap length above) in
    let fault : line_fault s.after s.reached (words_of (line_in bytes number)) ≡ Some cause = ap (λ l. line_fault s.after s.reached (words_of l)) line ∙ s.fault in
    record {
      names = s.after;
      state = s.reached;
      read = record {
        go_on = λ lines rest. ap (λ l. look_from [] states.Start 1 (l ++ lines) rest) above ∙ s.goes lines rest ∙ ap (λ k. look_from s.after s.reached k lines rest) long;
      };
      begin = begin;
      fault = fault;
      caret = subst (λ want. IsChartCaret (line_fault s.after s.reached) (MayName s.after s.reached cause) s.reached cause (words_of (line_in bytes number)) (spot_of cause first (line_in bytes number) want)) (sym begin)
          (caret s.after s.reached (line_in bytes number) s.few fault);
    }

pub form_caret : (first bytes : List ℕ) (number : ℕ) → names_in bytes ≡ Err (Line number causes.Syntax) → IsFaultAt first bytes number causes.Syntax
form_caret first bytes number e = fault_at first bytes number causes.Syntax e (λ names state line few fault. syntax_caret first names state line fault)
