-- The first look at a chart's text up to the line where it finds a fault: its state there, and what may begin the line.
use Rattle.std.proofs.Common.{◌≡◌, ℕ, ◌+◌, ◌≤◌, cond, eqb, ltb, List, [], ◌∷◌, ◌++◌, length, Result, Ok, Err, refl, sym, ap, ◌∙◌, subst, inl, inr, arith, add-zero, length-append}
use Rattle.std.specs.Prelude.{Some, bytes_eq}
use Rattle.std.specs.List.{list_any}
use Rattle.std.proofs.lemmas.Bool.{eqb-false}
use Rattle.fault_places.specs.Carets.{fault_of}
use Rattle.fault_places.specs.ChartCarets.{want_of, line_fault}
use Rattle.fault_places.specs.Spots.{first_of}
use Rattle.fault_places.specs.Standings.{behind, want_behind, line_at, first_or}
use Rattle.chart.specs.Keywords.{spelled}
use Rattle.chart.specs.declared.instance.TheConstants.{MAX_INSTANCES}
use Rattle.chart.specs.declared.keyword.Keyword.TheVariants as keywords
use Rattle.msc_text.proofs.ReaderLemmas.Looks.{look_goes_on}
use Rattle.msc_text.proofs.ReaderLemmas.Moves.{Moves, saying_words}
use Rattle.msc_text.proofs.ReaderLemmas.Moves.Moves.{begins, heads, ends, sends, receives, opens, shuts, leaves}
use Rattle.msc_text.proofs.ReaderLemmas.Sayings.{step-says}
use Rattle.msc_text.specs.Reader.Reading.{names_after, finished, look_from}
use Rattle.msc_text.specs.Reader.Steps.{Step, after_receive, step_by, step_of}
use Rattle.msc_text.specs.declared.reader.state.Region.{Region}
use Rattle.msc_text.specs.declared.reader.state.Region.TheVariants as regions
use Rattle.msc_text.specs.declared.reader.state.Saying.{Saying}
use Rattle.msc_text.specs.declared.reader.state.Saying.TheVariants as sayings
use Rattle.msc_text.specs.declared.reader.state.State.{State}
use Rattle.msc_text.specs.declared.reader.state.State.TheVariants as states
use Rattle.texts.proofs.Results.{bind_err, guard_ok, in_line_ok, ok_is}
use Rattle.texts.specs.Faults.{◌>>=◌, in_line}
use Rattle.texts.specs.Instances.{with_name}
use Rattle.texts.specs.Lines.{words_of}
use Rattle.texts.specs.declared.fault.Cause.{Cause}
use Rattle.texts.specs.declared.fault.Cause.TheVariants as causes
use Rattle.texts.specs.declared.fault.Fault.TheVariants.{Line}

-- ---- what may begin the next line

next_want : {state next : State} {saying : Saying} → Moves state saying next → behind (want_of state) (first_of (saying_words saying)) ≡ want_of next
unfolding behind spelled
next_want begins = refl
next_want (heads {own} is) = refl
next_want ends = refl
next_want (sends {own} {to} {name} {events} is) = refl
next_want (receives {own} {from} {name} {events} {region} is) = by region
  where
    by : (region : Region) → behind (want_of (states.Inside own events region)) (spelled keywords.In) ≡ want_of (states.Inside own (events + 1) (after_receive region))
    by regions.Closed = refl
    by regions.Empty = refl
    by regions.Held = refl
next_want opens = refl
next_want shuts = refl
next_want leaves = refl

pub want_goes : (state : State) (line : List ℕ) (step : Step) → step_of state line ≡ Ok step → want_behind (want_of state) line ≡ want_of step.1
unfolding step_of
want_goes state line step e =
    let says = step-says state (words_of line) step e in
    ap (λ words. behind (want_of state) (first_of words)) says.are ∙ next_want says.moves

-- ---- there are never too many names

few_more : (names more : List (List ℕ)) (own : List ℕ) → length names ≤ MAX_INSTANCES → with_name names own ≡ Ok more → length more ≤ MAX_INSTANCES
few_more names more own few e =
    let a = guard_ok (list_any (bytes_eq own) names) causes.Duplicate (cond (eqb (length names) MAX_INSTANCES) (Err causes.Instances) (Ok (names ++ own ∷ []))) more e in
    let b = guard_ok (eqb (length names) MAX_INSTANCES) causes.Instances (Ok (names ++ own ∷ [])) more a.1 in
    let other : length names ≡ MAX_INSTANCES → ⊥ = eqb-false (length names) MAX_INSTANCES b.0 in
    let same : names ++ own ∷ [] ≡ more = ok_is (names ++ own ∷ []) more b.1 in
    let grown : length (names ++ own ∷ []) ≡ length names + 1 = length-append names (own ∷ []) in
    subst (λ l. length l ≤ MAX_INSTANCES) same (omega arith)

few_same : (names more : List (List ℕ)) → length names ≤ MAX_INSTANCES → names ≡ more → length more ≤ MAX_INSTANCES
few_same names more few e = subst (λ l. length l ≤ MAX_INSTANCES) e few

few_after : (names more : List (List ℕ)) (saying : Saying) → length names ≤ MAX_INSTANCES → names_after names saying ≡ Ok more → length more ≤ MAX_INSTANCES
few_after names more sayings.Begin few e = few_same names more few (ok_is names more e)
few_after names more (sayings.Head own) few e = few_more names more own few e
few_after names more (sayings.Send to name) few e = few_same names more few (ok_is names more e)
few_after names more (sayings.Receive from name) few e = few_same names more few (ok_is names more e)
few_after names more sayings.Open few e = few_same names more few (ok_is names more e)
few_after names more sayings.Shut few e = few_same names more few (ok_is names more e)
few_after names more sayings.Foot few e = few_same names more few (ok_is names more e)
few_after names more sayings.End few e = few_same names more few (ok_is names more (guard_ok (ltb (length names) 2) causes.Instances (Ok names) more e).1)

-- ---- the line with the fault

-- its number is that of the line, and its cause that of what is read
pub line_err : {A : Type 0} (n number : ℕ) (cause : Cause) (r : Result A Cause) → in_line n r ≡ Err (Line number cause) → (n ≡ number) × (r ≡ Err cause)
line_err n number cause (Ok x) e = absurd (cc e)
line_err n number cause (Err found) e = let same : Line n found ≡ Line number cause = cc in (cc same, cc same)

-- the look goes on through these lines, up to the one with the fault
pub record IsStopped (names : List (List ℕ)) (state : State) (n : ℕ) (lines : List (List ℕ)) (rest : List ℕ) (number : ℕ) (cause : Cause) : Type 0 where
  pub above : List (List ℕ)
  pub below : List (List ℕ)
  pub are : lines ≡ above ++ below
  pub counted : number ≡ n + length above
  pub after : List (List ℕ)
  pub reached : State
  pub goes : (more : List (List ℕ)) (end : List ℕ) → look_from names state n (above ++ more) end ≡ look_from after reached (n + length above) more end
  pub wanted : line_at (want_of state) above ≡ want_of reached
  pub fault : line_fault after reached (words_of (first_or rest below)) ≡ Some cause
  pub few : length after ≤ MAX_INSTANCES

here : (names : List (List ℕ)) (state : State) (n : ℕ) (lines : List (List ℕ)) (rest : List ℕ) (number : ℕ) (cause : Cause) → length names ≤ MAX_INSTANCES → n ≡ number → line_fault names state (words_of (first_or rest lines)) ≡ Some cause
    → IsStopped names state n lines rest number cause
here names state n lines rest number cause few same fault = record {
  above = [];
  below = lines;
  are = refl;
  counted = sym same ∙ sym (add-zero n);
  after = names;
  reached = state;
  goes = λ more end. ap (λ k. look_from names state k more end) (sym (add-zero n));
  wanted = refl;
  fault = fault;
  few = few;
}

ended_there : (names : List (List ℕ)) (state : State) (n : ℕ) (rest : List ℕ) (number : ℕ) (cause : Cause) → finished names state n rest ≡ Err (Line number cause)
    → (n ≡ number) × (line_fault names state (words_of rest) ≡ Some cause)
ended_there names states.Start n rest number cause e = absurd (cc e)
ended_there names states.Outside n rest number cause e = absurd (cc e)
ended_there names (states.Inside own events region) n rest number cause e = absurd (cc e)
ended_there names states.Done n rest number cause e = grind arith

further : (names more : List (List ℕ)) (state : State) (n : ℕ) (line : List ℕ) (lines : List (List ℕ)) (rest : List ℕ) (number : ℕ) (cause : Cause) (step : Step) → in_line n (step_of state line) ≡ Ok step
    → in_line n (names_after names step.0) ≡ Ok more → IsStopped more step.1 (n + 1) lines rest number cause → IsStopped names state n (line ∷ lines) rest number cause
further names more state n line lines rest number cause step e f s = record {
  above = line ∷ s.above;
  below = s.below;
  are = ap (λ l. line ∷ l) s.are;
  counted = let counted = s.counted in omega arith;
  after = s.after;
  reached = s.reached;
  goes = λ tail end.
      (let same : (n + 1) + length s.above ≡ n + length (line ∷ s.above) = omega arith in
      look_goes_on names more state n line (s.above ++ tail) end step e f ∙ s.goes tail end ∙ ap (λ k. look_from s.after s.reached k tail end) same);
  wanted = ap (λ want. line_at want s.above) (want_goes state line step (in_line_ok n (step_of state line) step e)) ∙ s.wanted;
  fault = s.fault;
  few = s.few;
}

pub stopped : (names : List (List ℕ)) (state : State) (n : ℕ) (lines : List (List ℕ)) (rest : List ℕ) (number : ℕ) (cause : Cause) → length names ≤ MAX_INSTANCES → look_from names state n lines rest ≡ Err (Line number cause)
    → IsStopped names state n lines rest number cause
unfolding look_from step_of
stopped names state n [] rest number cause few e = let there = ended_there names state n rest number cause e in here names state n [] rest number cause few there.0 there.1
stopped names state n (line ∷ lines) rest number cause few e =
    elim (bind_err (in_line n (step_of state line)) (λ step. in_line n (names_after names step.0) >>= λ more. look_from more step.1 (n + 1) lines rest) (Line number cause) e) [
      | inl fails ↦ (let its = line_err n number cause (step_by state (words_of line)) fails in here names state n (line ∷ lines) rest number cause few its.0 (ap (λ r. fault_of (r >>= λ step. names_after names step.0)) its.1))
      | inr (step, reads, then) ↦
          elim (bind_err (in_line n (names_after names step.0)) (λ more. look_from more step.1 (n + 1) lines rest) (Line number cause) then) [
            | inl fails ↦
                (let its = line_err n number cause (names_after names step.0) fails in
                here names state n (line ∷ lines) rest number cause few its.0
                (ap (λ r. fault_of (r >>= λ s. names_after names s.0)) (in_line_ok n (step_by state (words_of line)) step reads) ∙ ap fault_of its.1))
            | inr (more, adds, on) ↦ further names more state n line lines rest number cause step reads adds (stopped more step.1 (n + 1) lines rest number cause (few_after names more step.0 few (in_line_ok n (names_after names step.0) more adds)) on)
          ]
    ]
