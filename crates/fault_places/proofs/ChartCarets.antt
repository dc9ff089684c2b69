-- A chart's line that is refused for another cause than its form: its caret, and what may be there.
use Rattle.std.proofs.Common.{◌≡◌, ℕ, ◌≤◌, Bool, true, false, cond, ◌&&◌, List, [], ◌∷◌, length, Result, Ok, Err, ◌⊎◌, inl, inr, refl, sym, ap, ◌∙◌, subst}
use Rattle.std.specs.Prelude.{Some, codes}
use Rattle.std.proofs.lemmas.Bool.{false≢true}
use Rattle.chart.specs.Keywords.{is_keyword}
use Rattle.chart.specs.Names.{name_of}
use Rattle.chart.specs.declared.keyword.Keyword.TheVariants as keywords
use Rattle.chart.specs.declared.instance.TheConstants.{MAX_INSTANCES}
use Rattle.chart.specs.declared.name.NameError.{NameError}
use Rattle.fault_places.proofs.ChartEventCarets.{message_caret, partner_caret, itself_caret, full_caret}
use Rattle.fault_places.proofs.ChartEventLines.{CaretAt, step_as, no_form, IsEventLine, event_line, IsPairFault, pair_fault}
use Rattle.fault_places.proofs.ChartEventLines.IsPairFault.{of_message, of_partner, itself, no_room}
use Rattle.fault_places.proofs.ChartFormCarets.{fault_at}
use Rattle.fault_places.proofs.ChartHeadCarets.{IsHeadLine, IsEndLine, outside_line, IsHeadFault, head_fault, name_caret, given_caret, many_caret, few_caret}
use Rattle.fault_places.proofs.ChartHeadCarets.IsHeadFault.{of_name, given, too_many}
use Rattle.fault_places.specs.Carets.{fault_of, is_past}
use Rattle.fault_places.specs.ChartCarets.{line_fault, is_of_event, is_of_instance, IsFaultAt}
use Rattle.fault_places.specs.Spots.{spot_of}
use Rattle.msc_text.specs.ChartText.{chart_name}
use Rattle.msc_text.specs.Reader.LastWords.{is_last_word}
use Rattle.msc_text.specs.Reader.Reading.{names_after, names_in}
use Rattle.msc_text.specs.declared.reader.state.Region.{Region}
use Rattle.msc_text.specs.declared.reader.state.Saying.TheVariants as sayings
use Rattle.msc_text.specs.declared.reader.state.State.{State}
use Rattle.msc_text.specs.declared.reader.state.State.TheVariants as states
use Rattle.texts.specs.Faults.{◌>>=◌}
use Rattle.texts.specs.Lines.{words_of, named, name_or_cause}
use Rattle.texts.specs.declared.fault.Cause.{Cause}
use Rattle.texts.specs.declared.fault.Cause.TheVariants as causes
use Rattle.texts.specs.declared.fault.Fault.TheVariants.{Line}

-- a word that is no name has no other fault
pub only_names : (word : List ℕ) (cause : Cause) → name_or_cause word ≡ Err cause → is_past 1 (Some cause) ≡ true → ⊥
only_names word cause e h = by (name_of word) e
  where
    by : (r : Result (List ℕ) NameError) → named r ≡ Err cause → ⊥
    by (Ok name) e = absurd cc
    by (Err fault) e = (let same : causes.Name fault ≡ cause = cc in false≢true (ap (λ c. is_past 1 (Some c)) same ∙ h))

event_form : (cause : Cause) → is_of_event cause ≡ true → is_past 0 (Some cause) ≡ true
event_form causes.ToItself of = refl
event_form causes.LineFull of = refl
event_form _ of = absurd (false≢true of)

not_outside : (names words : List (List ℕ)) (cause : Cause) → is_of_event cause ≡ true → line_fault names states.Outside words ≡ Some cause → ⊥
not_outside names words causes.ToItself of e = by (outside_line names words causes.ToItself refl e)
  where
    by : IsHeadLine names words causes.ToItself ⊎ IsEndLine names words causes.ToItself → ⊥
    by (inr l) = (let same : causes.Instances ≡ causes.ToItself = l.cause_is in absurd cc)
    by (inl l) = late l (head_fault names l.p causes.ToItself l.fault)
      where
        late : (l : IsHeadLine names words causes.ToItself) → IsHeadFault names l.p causes.ToItself → ⊥
        late l (of_name bad) = only_names l.p causes.ToItself bad refl
        late l (given is there same) = absurd cc
        late l (too_many is long same) = absurd cc
not_outside names words causes.LineFull of e = by (outside_line names words causes.LineFull refl e)
  where
    by : IsHeadLine names words causes.LineFull ⊎ IsEndLine names words causes.LineFull → ⊥
    by (inr l) = (let same : causes.Instances ≡ causes.LineFull = l.cause_is in absurd cc)
    by (inl l) = late l (head_fault names l.p causes.LineFull l.fault)
      where
        late : (l : IsHeadLine names words causes.LineFull) → IsHeadFault names l.p causes.LineFull → ⊥
        late l (of_name bad) = only_names l.p causes.LineFull bad refl
        late l (given is there same) = absurd cc
        late l (too_many is long same) = absurd cc
not_outside names words _ of e = absurd (false≢true of)

-- ---- events

-- the caret of an event's line, by its fault
event_words : (known names : List (List ℕ)) (own : List ℕ) (events : ℕ) (region : Region) (words : List (List ℕ)) (cause : Cause) → is_of_event cause ≡ true → line_fault names (states.Inside own events region) words ≡ Some cause
    → CaretAt names (states.Inside own events region) cause known words
event_words known names own events region words causes.ToItself of e =
    let l = event_line names own events region words causes.ToItself refl e in
    let there : line_fault names (states.Inside own events region) (l.k ∷ l.m ∷ l.t ∷ l.w ∷ []) ≡ Some causes.ToItself = ap (line_fault names (states.Inside own events region)) (sym l.are) ∙ e in
    subst (CaretAt names (states.Inside own events region) causes.ToItself known) (sym l.are) (by l there (pair_fault own events l.m l.p causes.ToItself l.fault))
  where
    by : (l : IsEventLine own events region words causes.ToItself) → line_fault names (states.Inside own events region) (l.k ∷ l.m ∷ l.t ∷ l.w ∷ []) ≡ Some causes.ToItself → IsPairFault own events l.m l.p causes.ToItself
        → CaretAt names (states.Inside own events region) causes.ToItself known (l.k ∷ l.m ∷ l.t ∷ l.w ∷ [])
    by l e (of_message bad) = absurd (only_names l.m causes.ToItself bad refl)
    by l e (of_partner is bad) = absurd (only_names l.p causes.ToItself bad refl)
    by l e (itself is same) = itself_caret known names own events l.way l.m l.w l.p is l.plain e
    by l e (no_room many same) = absurd cc
event_words known names own events region words causes.LineFull of e =
    let l = event_line names own events region words causes.LineFull refl e in
    subst (CaretAt names (states.Inside own events region) causes.LineFull known) (sym l.are) (by l (pair_fault own events l.m l.p causes.LineFull l.fault))
  where
    by : (l : IsEventLine own events region words causes.LineFull) → IsPairFault own events l.m l.p causes.LineFull → CaretAt names (states.Inside own events region) causes.LineFull known (l.k ∷ l.m ∷ l.t ∷ l.w ∷ [])
    by l (of_message bad) = absurd (only_names l.m causes.LineFull bad refl)
    by l (of_partner is bad) = absurd (only_names l.p causes.LineFull bad refl)
    by l (itself is same) = absurd cc
    by l (no_room many same) = full_caret known names own events l.way l.m l.w l.p many
event_words known names own events region words _ of e = absurd (false≢true of)

-- outside of instances no line has such a fault
not_start : (names words : List (List ℕ)) (cause : Cause) → is_past 0 (Some cause) ≡ true → line_fault names states.Start words ≡ Some cause → ⊥
not_start names [] cause h e = no_form cause h e
not_start names (m ∷ []) cause h e = no_form cause h e
not_start names (m ∷ r ∷ []) cause h e = by (is_keyword keywords.Msc m && is_last_word chart_name r) e
  where
    by : (x : Bool) → fault_of {A = List (List ℕ)} (cond x (step_as sayings.Begin states.Outside) (Err causes.Syntax) >>= λ step. names_after names step.0) ≡ Some cause → ⊥
    by true e = absurd cc
    by false e = no_form cause h e
not_start names (m ∷ r ∷ z ∷ words) cause h e = no_form cause h e

event_line_caret : (known names : List (List ℕ)) (state : State) (words : List (List ℕ)) (cause : Cause) → is_of_event cause ≡ true → line_fault names state words ≡ Some cause → CaretAt names state cause known words
event_line_caret known names states.Start words cause of e = absurd (not_start names words cause (event_form cause of) e)
event_line_caret known names states.Outside words cause of e = absurd (not_outside names words cause of e)
event_line_caret known names (states.Inside own events region) words cause of e = event_words known names own events region words cause of e
event_line_caret known names states.Done words cause of e = absurd (no_form cause (event_form cause of) e)

pub event_caret : (first bytes : List ℕ) (number : ℕ) (cause : Cause) → is_of_event cause ≡ true → names_in bytes ≡ Err (Line number cause) → IsFaultAt first bytes number cause
unfolding spot_of
event_caret first bytes number cause of e = fault_at first bytes number cause e (λ names state line few fault. event_line_caret (words_of first) names state (words_of line) cause of fault)

-- ---- names

name_outside : (known names words : List (List ℕ)) (fault : NameError) → line_fault names states.Outside words ≡ Some (causes.Name fault) → CaretAt names states.Outside (causes.Name fault) known words
name_outside known names words fault e = by (outside_line names words (causes.Name fault) refl e)
  where
    by : IsHeadLine names words (causes.Name fault) ⊎ IsEndLine names words (causes.Name fault) → CaretAt names states.Outside (causes.Name fault) known words
    by (inr l) = (let same : causes.Instances ≡ causes.Name fault = l.cause_is in absurd cc)
    by (inl l) = subst (CaretAt names states.Outside (causes.Name fault) known) (sym l.are) (late l (ap (line_fault names states.Outside) (sym l.are) ∙ e) (head_fault names l.p (causes.Name fault) l.fault))
      where
        late : (l : IsHeadLine names words (causes.Name fault)) → line_fault names states.Outside (codes "instance" ∷ l.w ∷ []) ≡ Some (causes.Name fault) → IsHeadFault names l.p (causes.Name fault)
            → CaretAt names states.Outside (causes.Name fault) known (codes "instance" ∷ l.w ∷ [])
        late l f (of_name bad) = name_caret known names l.w l.p fault l.part bad f
        late l f (given is there same) = absurd cc
        late l f (too_many is long same) = absurd cc

name_inside : (known names : List (List ℕ)) (own : List ℕ) (events : ℕ) (region : Region) (words : List (List ℕ)) (fault : NameError) → line_fault names (states.Inside own events region) words ≡ Some (causes.Name fault)
    → CaretAt names (states.Inside own events region) (causes.Name fault) known words
name_inside known names own events region words fault e =
    let l = event_line names own events region words (causes.Name fault) refl e in
    let there : line_fault names (states.Inside own events region) (l.k ∷ l.m ∷ l.t ∷ l.w ∷ []) ≡ Some (causes.Name fault) = ap (line_fault names (states.Inside own events region)) (sym l.are) ∙ e in
    subst (CaretAt names (states.Inside own events region) (causes.Name fault) known) (sym l.are) (by l there (pair_fault own events l.m l.p (causes.Name fault) l.fault))
  where
    by : (l : IsEventLine own events region words (causes.Name fault)) → line_fault names (states.Inside own events region) (l.k ∷ l.m ∷ l.t ∷ l.w ∷ []) ≡ Some (causes.Name fault) → IsPairFault own events l.m l.p (causes.Name fault)
        → CaretAt names (states.Inside own events region) (causes.Name fault) known (l.k ∷ l.m ∷ l.t ∷ l.w ∷ [])
    by l f (of_message bad) = message_caret known names own events l.way l.m l.w l.p fault bad
    by l f (of_partner is bad) = partner_caret known names own events l.way l.m l.w l.p fault is l.plain l.part bad f
    by l f (itself is same) = absurd cc
    by l f (no_room many same) = absurd cc

name_line_caret : (known names : List (List ℕ)) (state : State) (words : List (List ℕ)) (fault : NameError) → line_fault names state words ≡ Some (causes.Name fault) → CaretAt names state (causes.Name fault) known words
name_line_caret known names states.Start words fault e = absurd (not_start names words (causes.Name fault) refl e)
name_line_caret known names states.Outside words fault e = name_outside known names words fault e
name_line_caret known names (states.Inside own events region) words fault e = name_inside known names own events region words fault e
name_line_caret known names states.Done words fault e = absurd (no_form (causes.Name fault) refl e)

pub word_caret : (first bytes : List ℕ) (number : ℕ) (fault : NameError) → names_in bytes ≡ Err (Line number (causes.Name fault)) → IsFaultAt first bytes number (causes.Name fault)
unfolding spot_of
word_caret first bytes number fault e = fault_at first bytes number (causes.Name fault) e (λ names state line few f. name_line_caret (words_of first) names state (words_of line) fault f)

-- ---- instances

instance_form : (cause : Cause) → is_of_instance cause ≡ true → is_past 0 (Some cause) ≡ true
instance_form causes.Duplicate of = refl
instance_form causes.Instances of = refl
instance_form _ of = absurd (false≢true of)

-- the line of an event has no such fault
not_inside : (names : List (List ℕ)) (own : List ℕ) (events : ℕ) (region : Region) (words : List (List ℕ)) (cause : Cause) → is_of_instance cause ≡ true → line_fault names (states.Inside own events region) words ≡ Some cause → ⊥
not_inside names own events region words cause of e =
    let l = event_line names own events region words cause (instance_form cause of) e in
    by cause of l.m l.p (pair_fault own events l.m l.p cause l.fault)
  where
    by : (cause : Cause) → is_of_instance cause ≡ true → (m p : List ℕ) → IsPairFault own events m p cause → ⊥
    by causes.Duplicate of m p (of_message bad) = only_names m causes.Duplicate bad refl
    by causes.Duplicate of m p (of_partner is bad) = only_names p causes.Duplicate bad refl
    by causes.Duplicate of m p (itself is same) = absurd cc
    by causes.Duplicate of m p (no_room many same) = absurd cc
    by causes.Instances of m p (of_message bad) = only_names m causes.Instances bad refl
    by causes.Instances of m p (of_partner is bad) = only_names p causes.Instances bad refl
    by causes.Instances of m p (itself is same) = absurd cc
    by causes.Instances of m p (no_room many same) = absurd cc
    by _ of m p f = false≢true of

given_outside : (known names words : List (List ℕ)) → length names ≤ MAX_INSTANCES → line_fault names states.Outside words ≡ Some causes.Duplicate → CaretAt names states.Outside causes.Duplicate known words
given_outside known names words few e = by (outside_line names words causes.Duplicate refl e)
  where
    by : IsHeadLine names words causes.Duplicate ⊎ IsEndLine names words causes.Duplicate → CaretAt names states.Outside causes.Duplicate known words
    by (inr l) = (let same : causes.Instances ≡ causes.Duplicate = l.cause_is in absurd cc)
    by (inl l) = subst (CaretAt names states.Outside causes.Duplicate known) (sym l.are) (given_caret known names l.w l.p few (ap (line_fault names states.Outside) (sym l.are) ∙ e))

many_outside : (known names words : List (List ℕ)) → line_fault names states.Outside words ≡ Some causes.Instances → CaretAt names states.Outside causes.Instances known words
many_outside known names words e = by (outside_line names words causes.Instances refl e)
  where
    by : IsHeadLine names words causes.Instances ⊎ IsEndLine names words causes.Instances → CaretAt names states.Outside causes.Instances known words
    by (inr l) = subst (CaretAt names states.Outside causes.Instances known) (sym l.are) (few_caret known names l.few)
    by (inl l) = subst (CaretAt names states.Outside causes.Instances known) (sym l.are) (late l (head_fault names l.p causes.Instances l.fault))
      where
        late : (l : IsHeadLine names words causes.Instances) → IsHeadFault names l.p causes.Instances → CaretAt names states.Outside causes.Instances known (codes "instance" ∷ l.w ∷ [])
        late l (of_name bad) = absurd (only_names l.p causes.Instances bad refl)
        late l (given is there same) = absurd cc
        late l (too_many is long same) = many_caret known names l.w l.p long

instance_outside : (known names words : List (List ℕ)) (cause : Cause) → is_of_instance cause ≡ true → length names ≤ MAX_INSTANCES → line_fault names states.Outside words ≡ Some cause → CaretAt names states.Outside cause known words
instance_outside known names words causes.Duplicate of few e = given_outside known names words few e
instance_outside known names words causes.Instances of few e = many_outside known names words e
instance_outside known names words _ of few e = absurd (false≢true of)

instance_line_caret : (known names : List (List ℕ)) (state : State) (words : List (List ℕ)) (cause : Cause) → is_of_instance cause ≡ true → length names ≤ MAX_INSTANCES → line_fault names state words ≡ Some cause → CaretAt names state cause known words
instance_line_caret known names states.Start words cause of few e = absurd (not_start names words cause (instance_form cause of) e)
instance_line_caret known names states.Outside words cause of few e = instance_outside known names words cause of few e
instance_line_caret known names (states.Inside own events region) words cause of few e = absurd (not_inside names own events region words cause of e)
instance_line_caret known names states.Done words cause of few e = absurd (no_form cause (instance_form cause of) e)

pub instance_caret : (first bytes : List ℕ) (number : ℕ) (cause : Cause) → is_of_instance cause ≡ true → names_in bytes ≡ Err (Line number cause) → IsFaultAt first bytes number cause
unfolding spot_of
instance_caret first bytes number cause of e = fault_at first bytes number cause e (λ names state line few fault. instance_line_caret (words_of first) names state (words_of line) cause of few fault)

-- ---- unknown instances

-- the first look finds no unknown instance
pub no_unknown : (names : List (List ℕ)) (state : State) (words : List (List ℕ)) → line_fault names state words ≡ Some causes.UnknownInstance → ⊥
no_unknown names states.Start words e = not_start names words causes.UnknownInstance refl e
no_unknown names states.Outside words e = by (outside_line names words causes.UnknownInstance refl e)
  where
    late : (p : List ℕ) → IsHeadFault names p causes.UnknownInstance → ⊥
    late p (of_name bad) = only_names p causes.UnknownInstance bad refl
    late p (given is there same) = absurd cc
    late p (too_many is long same) = absurd cc

    by : IsHeadLine names words causes.UnknownInstance ⊎ IsEndLine names words causes.UnknownInstance → ⊥
    by (inr l) = (let same : causes.Instances ≡ causes.UnknownInstance = l.cause_is in absurd cc)
    by (inl l) = late l.p (head_fault names l.p causes.UnknownInstance l.fault)
no_unknown names (states.Inside own events region) words e =
    let l = event_line names own events region words causes.UnknownInstance refl e in
    by l.m l.p (pair_fault own events l.m l.p causes.UnknownInstance l.fault)
  where
    by : (m p : List ℕ) → IsPairFault own events m p causes.UnknownInstance → ⊥
    by m p (of_message bad) = only_names m causes.UnknownInstance bad refl
    by m p (of_partner is bad) = only_names p causes.UnknownInstance bad refl
    by m p (itself is same) = absurd cc
    by m p (no_room many same) = absurd cc
no_unknown names states.Done words e = no_form causes.UnknownInstance refl e
