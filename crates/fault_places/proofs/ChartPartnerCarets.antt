-- The line of an event in a chart whose partner is no instance: its caret, and what may be there.
use Rattle.std.proofs.Common.{◌≡◌, ◌≢◌, ℕ, suc, ◌+◌, ◌-◌, Bool, true, false, cond, eqb, List, [], ◌∷◌, ◌++◌, length, take, drop, Contains, Result, Ok, Err, ◌⊎◌, inl, inr, refl, sym, ap, ◌∙◌, subst, arith}
use Rattle.std.specs.Prelude.{Option, None, Some, codes, nat_le, min}
use Rattle.std.proofs.Math.Seq.{take-append_seam}
use Rattle.std.proofs.lemmas.Bool.{lt-leb}
use Rattle.std.proofs.lemmas.List.Elements.{All-from_recursion}
use Rattle.chart.specs.Charts.{LineView}
use Rattle.chart.specs.Events.{partner_of, region_of}
use Rattle.chart.specs.Keywords.{spelled, is_keyword}
use Rattle.chart.specs.Names.{IsName}
use Rattle.chart.specs.NameSets.{AreNames}
use Rattle.chart.specs.declared.event.Event.{Event}
use Rattle.chart.specs.declared.event.Event.TheVariants as line_events
use Rattle.chart.specs.declared.instance.TheConstants.{MAX_INSTANCES}
use Rattle.chart.specs.declared.line.TheConstants.{MAX_EVENTS}
use Rattle.fault_places.proofs.ChartCarets.{no_unknown}
use Rattle.fault_places.proofs.ChartEventCarets.{spot_fourth}
use Rattle.fault_places.proofs.ChartEventLines.{IsWay, sends, receives, sent, received, may_partner, last_lacks}
use Rattle.fault_places.proofs.ChartFormCarets.{drop_front}
use Rattle.fault_places.proofs.ChartReads.{stopped}
use Rattle.fault_places.proofs.CommandCaretLemmas.{other_name, known_there}
use Rattle.fault_places.proofs.FreshNames.{not_same}
use Rattle.fault_places.specs.Carets.{fault_of, is_past}
use Rattle.fault_places.specs.ChartCarets.{want_of, IsChartCaret, lines_above, line_in, whole_fault, IsOther, IsUnknownAt}
use Rattle.fault_places.specs.Spots.{is_wrong, instead, inner, spot_from, spot_of}
use Rattle.fault_places.specs.Standings.{line_at, first_or}
use Rattle.fault_places.specs.Wants.{on, next}
use Rattle.fault_places.specs.declared.want.Want.{Want}
use Rattle.fault_places.specs.declared.want.Want.TheVariants as wants
use Rattle.msc_text.proofs.ReaderLemmas.Found.{start_state}
use Rattle.msc_text.proofs.ReaderLemmas.Moves.{IsEvent, Moves, saying_words}
use Rattle.msc_text.proofs.ReaderLemmas.Moves.Moves.{begins, heads, ends, sends as sends_one, receives as receives_one, opens, shuts, leaves}
use Rattle.msc_text.proofs.ReaderLemmas.Onward.{Outcome, onward}
use Rattle.msc_text.proofs.ReaderLemmas.Sayings.{Says, step-says}
use Rattle.msc_text.proofs.ReaderLemmas.Semicolons.{before_again, plain_again}
use Rattle.msc_text.proofs.ReaderLemmas.Standing.{SoFar}
use Rattle.msc_text.specs.Reader.Builders.{BuilderView, blank, pushed, with_event, with_head, with_foot, with_coregion, with_send, with_receive, built}
use Rattle.msc_text.specs.Reader.LastWords.{semi}
use Rattle.msc_text.specs.Reader.Reading.{names_after, look_from, build_from, names_in, lines_in, are_read, chart_of}
use Rattle.msc_text.specs.Reader.Steps.{Step, name_part, pair_of, names_of, after_receive, send_of, receive_of, event_of, step_by}
use Rattle.msc_text.specs.declared.reader.state.Region.{Region}
use Rattle.msc_text.specs.declared.reader.state.Region.TheVariants as regions
use Rattle.msc_text.specs.declared.reader.state.Saying.{Saying}
use Rattle.msc_text.specs.declared.reader.state.Saying.TheVariants as sayings
use Rattle.msc_text.specs.declared.reader.state.State.{State}
use Rattle.msc_text.specs.declared.reader.state.State.TheVariants as states
use Rattle.texts.proofs.Results.{bind_err, name_again, ok_is}
use Rattle.texts.specs.Faults.{◌>>=◌}
use Rattle.texts.specs.Instances.{known_of}
use Rattle.texts.specs.Lines.{lines_of, end_of, words_of}
use Rattle.texts.specs.declared.fault.Cause.{Cause}
use Rattle.texts.specs.declared.fault.Cause.TheVariants as causes
use Rattle.texts.specs.declared.fault.Fault.TheVariants.{Line}
use Rattle.fault_places.proofs.ChartSecondLooks.{AreWell, well_read, unknown_stop}

-- ---- an event of a known partner is built

abbrev line_as : LineView → Result LineView Cause
line_as line = Ok line

abbrev built_as : BuilderView → Result BuilderView Cause
built_as d = Ok d

no_push : (line : LineView) (m : Event) → pushed line m ≡ Err causes.UnknownInstance → ⊥
unfolding pushed
no_push line m e = by (eqb (partner_of m) line.instance) (eqb (length line.events) MAX_EVENTS) e
  where
    by : (x y : Bool) → cond x (Err causes.ToItself) (cond y (Err causes.LineFull) (line_as (record line { events = line.events ++ m ∷ [] }))) ≡ Err causes.UnknownInstance → ⊥
    by true y e = absurd cc
    by false true e = absurd cc
    by false false e = absurd cc

no_event : (d : BuilderView) (o : Option LineView) (m : Event) → with_event d o m ≡ Err causes.UnknownInstance → ⊥
no_event d None m e = absurd cc
no_event d (Some line) m e = by (bind_err (pushed line m) (λ more. built_as (record { lines = d.lines; line = Some more; open_region = region_of m })) causes.UnknownInstance e)
  where
    by : (pushed line m ≡ Err causes.UnknownInstance) ⊎ ((more : LineView) × (pushed line m ≡ Ok more) × (built_as (record { lines = d.lines; line = Some more; open_region = region_of m }) ≡ Err causes.UnknownInstance)) → ⊥
    by (inl h) = no_push line m h
    by (inr h) = absurd (let none = h.2 in cc)

known_send : (known_names : List (List ℕ)) (d : BuilderView) (to name : List ℕ) (p : ℕ) → known_of known_names to ≡ Ok p → built known_names d (sayings.Send to name) ≡ Err causes.UnknownInstance → ⊥
unfolding with_send
known_send known_names d to name p is e = no_event d d.line (line_events.Send p name) (sym (ap (λ r. r >>= λ partner. with_event d d.line (line_events.Send partner name)) is) ∙ e)

known_receive : (known_names : List (List ℕ)) (d : BuilderView) (from name : List ℕ) (p : ℕ) → known_of known_names from ≡ Ok p → built known_names d (sayings.Receive from name) ≡ Err causes.UnknownInstance → ⊥
unfolding with_receive
known_receive known_names d from name p is e = no_event d d.line (line_events.Receive p name d.open_region) (sym (ap (λ r. r >>= λ partner. with_event d d.line (line_events.Receive partner name d.open_region)) is) ∙ e)

pair_read : (own : List ℕ) (events : ℕ) (m p : List ℕ) → IsEvent own events p m → names_of own events m (name_part (semi p)) ≡ Ok (m, p)
unfolding names_of pair_of
pair_read own events m p h =
    rw (before_again p h.partner_name, plain_again m h.message_name, name_again m h.message_name, name_again p h.partner_name, not_same p own h.other, lt-leb MAX_EVENTS events h.room) refl

-- the line has no fault
built_none : (known names more : List (List ℕ)) (d : BuilderView) (state next : State) (saying : Saying) → (built known d saying ≡ Err causes.UnknownInstance → ⊥) → Outcome known more state next d saying → fault_of (built known d saying) ≡ None
built_none known names more d state next saying never (inl unknown) = absurd (never unknown)
built_none known names more d state next saying never (inr (e, builds)) = ap fault_of builds.is_built

module _ (known names later : List (List ℕ)) (d : BuilderView) (own : List ℕ) (events : ℕ) (name : List ℕ) (prefix : known ≡ names ++ later) (are : AreNames known) where
  send_read : SoFar known names (states.Inside own events regions.Closed) d → (x : List ℕ) → IsEvent own events x name → Contains known x → whole_fault known names d (states.Inside own events regions.Closed) (codes "out" ∷ name ∷ codes "to" ∷ semi x ∷ []) ≡ None
  unfolding event_of send_of is_keyword spelled
  send_read s x is there =
      let step : (names_of own events name (name_part (semi x)) >>= sent own events) ≡ Ok (sayings.Send x name, states.Inside own (events + 1) regions.Closed) = ap (λ r. r >>= sent own events) (pair_read own events name x is) in
      ap (λ r. fault_of (r >>= λ step. names_after names step.0 >>= λ more. built known d step.0)) step
      ∙ built_none known names names d (states.Inside own events regions.Closed) (states.Inside own (events + 1) regions.Closed) (sayings.Send x name) (known_send known d x name (suc there.0) (known_there known x are there)) (onward later s (sends_one is) refl prefix)

  receive_read : (region : Region) → SoFar known names (states.Inside own events region) d → (x : List ℕ) → IsEvent own events x name → Contains known x → whole_fault known names d (states.Inside own events region) (codes "in" ∷ name ∷ codes "from" ∷ semi x ∷ []) ≡ None
  unfolding event_of receive_of is_keyword spelled
  receive_read region s x is there =
      let step : (names_of own events name (name_part (semi x)) >>= received own events region) ≡ Ok (sayings.Receive x name, states.Inside own (events + 1) (after_receive region)) = ap (λ r. r >>= received own events region) (pair_read own events name x is) in
      ap (λ r. fault_of (r >>= λ step. names_after names step.0 >>= λ more. built known d step.0)) step
      ∙ built_none known names names d (states.Inside own events region) (states.Inside own (events + 1) (after_receive region)) (sayings.Receive x name) (known_receive known d x name (suc there.0) (known_there known x are there)) (onward later s (receives_one is) refl prefix)

-- ---- the caret

abbrev CaretOf : List (List ℕ) → List (List ℕ) → BuilderView → State → List (List ℕ) → List (List ℕ) → Type 0
CaretOf known names d state first words = IsChartCaret (whole_fault known names d state) (IsOther known state) state causes.UnknownInstance words (spot_from causes.UnknownInstance first words (want_of state) 0 0 words)

module _ (first known names : List (List ℕ)) (d : BuilderView) (own : List ℕ) (events : ℕ) {region : Region} {k t : List ℕ} {message side partner : Want} (way : IsWay region k t message side partner) (m to : List ℕ) (is : IsEvent own events to m) (w : AreWell states.Done known) where
  partner_spot : spot_from causes.UnknownInstance first (k ∷ m ∷ t ∷ semi to ∷ []) (want_of (states.Inside own events region)) 0 0 (k ∷ m ∷ t ∷ semi to ∷ [])
      ≡ record { place = (((0 + (length k + 1)) + (length m + 1)) + (length t + 1)) + min (inner causes.UnknownInstance) (length (semi to)); want = partner }
  unfolding is_wrong instead
  partner_spot =
      spot_fourth causes.UnknownInstance first (k ∷ m ∷ t ∷ semi to ∷ []) (want_of (states.Inside own events region)) message side partner k m t (semi to) (way.first own events)
      (way.second m ∙ ap (λ b. on b side) (plain_again m is.message_name)) way.third
      (way.first_known first own events) (way.message_known first m) (way.side_known first) (way.partner_unknown first (semi to)) refl

  whole_stops : whole_fault known names d (states.Inside own events region) (k ∷ m ∷ t ∷ semi to ∷ []) ≡ Some causes.UnknownInstance
      → (more : List (List ℕ)) → is_past 4 (whole_fault known names d (states.Inside own events region) (k ∷ m ∷ t ∷ semi to ∷ more)) ≡ false
  whole_stops e [] = ap (is_past 4) e
  whole_stops e (u ∷ more) = refl

  whole_caret : whole_fault known names d (states.Inside own events region) (k ∷ m ∷ t ∷ semi to ∷ []) ≡ Some causes.UnknownInstance
      → ((x : List ℕ) → IsEvent own events x m → Contains known x → whole_fault known names d (states.Inside own events region) (k ∷ m ∷ t ∷ semi x ∷ []) ≡ None)
      → CaretOf known names d (states.Inside own events region) first (k ∷ m ∷ t ∷ semi to ∷ [])
  whole_caret e reads =
      let x = other_name known own w.several w.are (All-from_recursion IsName known w.each) in
      subst (IsChartCaret (whole_fault known names d (states.Inside own events region)) (IsOther known (states.Inside own events region)) (states.Inside own events region) causes.UnknownInstance (k ∷ m ∷ t ∷ semi to ∷ [])) (sym partner_spot)
      (record {
        before = k ∷ m ∷ t ∷ [];
        from = semi to ∷ [];
        are = refl;
        word = ((length k + 1) + (length m + 1)) + (length t + 1);
        at_word = omega arith;
        place = omega arith;
        goes_on = λ go. (semi x.0 ∷ [], (last_lacks x.0 x.1, tt), ap (is_past 4) (reads x.0 (other_event x.0 x.1 x.3) x.2));
        stops = whole_stops e;
        may_be = may_partner way.places (whole_fault known names d (states.Inside own events region)) 4 (IsOther known (states.Inside own events region)) (k ∷ m ∷ t ∷ [])
            (λ name its may. ([], tt, ap (is_past 4) (reads name (other_event name its may.1) may.0)));
      })
    where
      other_event : (x : List ℕ) → IsName x → x ≢ own → IsEvent own events x m
      other_event x its other = record { partner_name = its; message_name = is.message_name; other = other; room = is.room }

head_known : (d : BuilderView) → with_head d ≡ Err causes.UnknownInstance → ⊥
head_known d e = by (nat_le MAX_INSTANCES (length d.lines)) e
  where
    by : (b : Bool) → cond b (Err causes.Instances) (built_as (record { lines = d.lines; line = Some (record { instance = suc (length d.lines); events = [] }); open_region = 0 })) ≡ Err causes.UnknownInstance → ⊥
    by true e = absurd cc
    by false e = absurd cc

foot_known : (d : BuilderView) (o : Option LineView) → with_foot d o ≡ Err causes.UnknownInstance → ⊥
foot_known d None e = absurd cc
foot_known d (Some line) e = absurd cc

coregion_known : (d : BuilderView) (o : Option LineView) → with_coregion d o ≡ Err causes.UnknownInstance → ⊥
coregion_known d None e = absurd cc
coregion_known d (Some line) e = absurd cc

unknown_words : (first known names more later : List (List ℕ)) (d : BuilderView) {state next : State} {saying : Saying} (words : List (List ℕ)) → Says state words (saying, next) → SoFar known names state d → AreWell states.Done known
    → names_after names saying ≡ Ok more → known ≡ more ++ later → built known d saying ≡ Err causes.UnknownInstance → whole_fault known names d state words ≡ Some causes.UnknownInstance → CaretOf known names d state first words
unfolding spelled
unknown_words first known names more later d words says s w adds prefix unknown fault = by says.moves says.are s adds unknown fault
  where
    by : {state next : State} {saying : Saying} → Moves state saying next → words ≡ saying_words saying → SoFar known names state d → names_after names saying ≡ Ok more → built known d saying ≡ Err causes.UnknownInstance → whole_fault known names d state words ≡ Some causes.UnknownInstance
        → CaretOf known names d state first words
    by begins are s adds unknown fault = absurd cc
    by (heads is) are s adds unknown fault = absurd (head_known d unknown)
    by ends are s adds unknown fault = absurd cc
    by (sends_one {own} {to} {name} {events} is) are s adds unknown fault =
        subst (CaretOf known names d (states.Inside own events regions.Closed) first) (sym are)
        (whole_caret first known names d own events sends name to is w (ap (whole_fault known names d (states.Inside own events regions.Closed)) (sym are) ∙ fault)
        (λ x its there. send_read known names later d own events name (prefix ∙ ap (λ l. l ++ later) (sym (ok_is names more adds))) w.are s x its there))
    by (receives_one {own} {from} {name} {events} {region} is) are s adds unknown fault =
        subst (CaretOf known names d (states.Inside own events region) first) (sym are)
        (whole_caret first known names d own events (receives region) name from is w (ap (whole_fault known names d (states.Inside own events region)) (sym are) ∙ fault)
        (λ x its there. receive_read known names later d own events name (prefix ∙ ap (λ l. l ++ later) (sym (ok_is names more adds))) w.are region s x its there))
    by opens are s adds unknown fault = absurd (coregion_known d d.line unknown)
    by shuts are s adds unknown fault = absurd cc
    by leaves are s adds unknown fault = absurd (foot_known d d.line unknown)

-- ---- the text

no_names : AreWell states.Start []
no_names = record { are = record { limit = omega arith; distinct = λ i j x here there. absurd cc }; each = tt; several = tt }

whole_at : (known names more : List (List ℕ)) (d : BuilderView) (state : State) (words : List (List ℕ)) (step : Step) → step_by state words ≡ Ok step → names_after names step.0 ≡ Ok more → built known d step.0 ≡ Err causes.UnknownInstance
    → whole_fault known names d state words ≡ Some causes.UnknownInstance
whole_at known names more d state words step reads adds unknown =
    ap (λ r. fault_of (r >>= λ s. names_after names s.0 >>= λ m. built known d s.0)) reads ∙ ap (λ r. fault_of (r >>= λ m. built known d step.0)) adds ∙ ap fault_of unknown

unknown_at : (first bytes : List ℕ) (number : ℕ) (known : List (List ℕ)) → names_in bytes ≡ Ok known → lines_in known bytes ≡ Err (Line number causes.UnknownInstance) → IsUnknownAt first bytes number
unfolding names_in lines_in spot_of
unknown_at first bytes number known e f =
    let s = unknown_stop known [] states.Start blank 1 (lines_of bytes) (end_of bytes) number (start_state known) e f in
    let counted = s.counted in
    let count : number - 1 ≡ length s.above = omega arith in
    let above : lines_above bytes number ≡ s.above = ap (λ k. take k (lines_of bytes)) count ∙ ap (take (length s.above)) s.are ∙ take-append_seam s.above s.below in
    let line : line_in bytes number ≡ first_or (end_of bytes) s.below =
    ap (λ k. first_or (end_of bytes) (drop k (lines_of bytes))) count ∙ ap (λ l. first_or (end_of bytes) (drop (length s.above) l)) s.are ∙ ap (first_or (end_of bytes)) (drop_front s.above s.below) in
    let begin : line_at wants.Msc (lines_above bytes number) ≡ want_of s.reached = ap (line_at wants.Msc) above ∙ s.wanted in
    let long : 1 + length s.above ≡ length (lines_above bytes number) + 1 = omega (arith, ap length above) in
    let reads : step_by s.reached (words_of (line_in bytes number)) ≡ Ok s.step = ap (λ l. step_by s.reached (words_of l)) line ∙ s.reads in
    let fault : whole_fault known s.after s.built_d s.reached (words_of (line_in bytes number)) ≡ Some causes.UnknownInstance = whole_at known s.after s.more s.built_d s.reached (words_of (line_in bytes number)) s.step reads s.adds s.unknown in
    let well = well_read [] states.Start 1 (lines_of bytes) (end_of bytes) known no_names e in
    record {
      known = known;
      all = e;
      names = s.after;
      state = s.reached;
      d = s.built_d;
      read = record {
        go_on = λ lines rest. ap (λ l. look_from [] states.Start 1 (l ++ lines) rest) above ∙ s.looks_on lines rest ∙ ap (λ k. look_from s.after s.reached k lines rest) long;
      };
      built_so = record {
        go_on = λ lines. ap (λ l. build_from known states.Start blank 1 (l ++ lines)) above ∙ s.builds_on lines ∙ ap (λ k. build_from known s.reached s.built_d k lines) long;
      };
      begin = begin;
      fault = fault;
      caret = subst (λ want. IsChartCaret (whole_fault known s.after s.built_d s.reached) (IsOther known s.reached) s.reached causes.UnknownInstance (words_of (line_in bytes number)) (spot_of causes.UnknownInstance first (line_in bytes number) want)) (sym begin)
          (unknown_words (words_of first) known s.after s.more s.later s.built_d (words_of (line_in bytes number)) (step-says s.reached (words_of (line_in bytes number)) s.step reads) s.so_far well s.adds s.prefix s.unknown fault);
    }

pub unknown_caret : (first bytes : List ℕ) (number : ℕ) → chart_of bytes ≡ Err (Line number causes.UnknownInstance) → IsUnknownAt first bytes number
unfolding chart_of names_in
unknown_caret first bytes number e =
    elim (bind_err (names_in bytes) (λ names. lines_in names bytes >>= λ lines. are_read names lines) (Line number causes.UnknownInstance) e) [
      | inl fails ↦ (let s = stopped [] states.Start 1 (lines_of bytes) (end_of bytes) number causes.UnknownInstance (omega arith) fails in absurd (no_unknown s.after s.reached (words_of (first_or (end_of bytes) s.below)) s.fault))
      | inr (names, reads, then) ↦
          elim (bind_err (lines_in names bytes) (λ lines. are_read names lines) (Line number causes.UnknownInstance) then) [
            | inl fails ↦ unknown_at first bytes number names reads fails
            | inr (lines, _, none) ↦ absurd (let same = none in cc)
          ]
    ]
