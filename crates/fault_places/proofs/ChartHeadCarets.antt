-- The line of a chart outside of instances that is refused for another cause than its form: its caret, and what may be
-- there.
use Rattle.std.proofs.Common.{◌≡◌, ℕ, ◌+◌, ◌≤◌, Bool, true, false, cond, eqb, ltb, List, [], ◌∷◌, ◌++◌, length, Result, Ok, Err, ◌⊎◌, inl, inr, refl, sym, ap, ◌∙◌, subst, arith}
use Rattle.std.specs.Prelude.{Option, None, Some, codes, bytes_eq, is_err, min, unwrap_or}
use Rattle.std.specs.List.{list_any}
use Rattle.std.proofs.lemmas.Bool.{eqb-true, ltb-true, ne_eqb, le-ltb}
use Rattle.std.proofs.lemmas.Option.{same_Some}
use Rattle.chart.specs.Keywords.{spelled, is_keyword}
use Rattle.chart.specs.Names.{IsName}
use Rattle.chart.specs.declared.instance.TheConstants.{MAX_INSTANCES}
use Rattle.chart.specs.declared.name.NameError.{NameError}
use Rattle.fault_places.proofs.ChartEventLines.{CaretAt, step_as, no_form, all_stop, last_lacks}
use Rattle.fault_places.proofs.FreshNames.{a_named, fresh, not_found}
use Rattle.fault_places.proofs.SpotLemmas.{spot_wrong, spot_same, goes_on}
use Rattle.fault_places.specs.Carets.{fault_of, is_past}
use Rattle.fault_places.specs.ChartCarets.{line_fault, MayName, IsChartCaret}
use Rattle.fault_places.specs.Spots.{name_in, is_again, is_too_many, is_wrong, instead, inner, spot_from}
use Rattle.fault_places.specs.Wants.{named_on, chart_next, next}
use Rattle.fault_places.specs.declared.want.Want.TheVariants as wants
use Rattle.msc_text.proofs.ReaderLemmas.Semicolons.{before_again}
use Rattle.msc_text.specs.Reader.LastWords.{semi, is_last_word}
use Rattle.msc_text.specs.Reader.Reading.{names_after}
use Rattle.msc_text.specs.Reader.Steps.{Step, name_part, head_of}
use Rattle.msc_text.specs.declared.reader.state.Region.TheVariants as regions
use Rattle.msc_text.specs.declared.reader.state.Saying.TheVariants as sayings
use Rattle.msc_text.specs.declared.reader.state.State.TheVariants as states
use Rattle.texts.proofs.Lookups.{same_bytes}
use Rattle.texts.proofs.Parts.{lacks_if}
use Rattle.texts.proofs.Results.{name_is, name_again}
use Rattle.texts.specs.Faults.{◌>>=◌}
use Rattle.texts.specs.Instances.{with_name}
use Rattle.texts.specs.Lines.{name_or_cause}
use Rattle.texts.specs.declared.fault.Cause.{Cause}
use Rattle.texts.specs.declared.fault.Cause.TheVariants as causes

-- ---- such a line begins an instance, or ends the chart

pub record IsHeadLine (names words : List (List ℕ)) (cause : Cause) : Type 0 where
  pub w : List ℕ
  pub p : List ℕ
  pub are : words ≡ codes "instance" ∷ w ∷ []
  pub part : name_part w ≡ Some p
  pub fault : fault_of (name_or_cause p >>= with_name names) ≡ Some cause

pub record IsEndLine (names words : List (List ℕ)) (cause : Cause) : Type 0 where
  pub are : words ≡ codes "endmsc;" ∷ []
  pub few : ltb (length names) 2 ≡ true
  pub cause_is : causes.Instances ≡ cause

abbrev begun : List ℕ → Result Step Cause
begun own = Ok (sayings.Head own, states.Inside own 0 regions.Closed)

begun_fault : (names : List (List ℕ)) (r : Result (List ℕ) Cause) → fault_of ((r >>= begun) >>= λ step. names_after names step.0) ≡ fault_of (r >>= with_name names)
begun_fault names (Ok own) = refl
begun_fault names (Err cause) = refl

lone : (names : List (List ℕ)) (k : List ℕ) (cause : Cause) → is_past 0 (Some cause) ≡ true → line_fault names states.Outside (k ∷ []) ≡ Some cause → IsEndLine names (k ∷ []) cause
unfolding is_last_word spelled
lone names k cause h e = by (bytes_eq k (codes "endmsc;")) refl (ltb (length names) 2) refl e
  where
    by : (x : Bool) → bytes_eq k (codes "endmsc;") ≡ x → (y : Bool) → ltb (length names) 2 ≡ y
        → fault_of {A = List (List ℕ)} (cond x (step_as sayings.End states.Done) (Err causes.Syntax) >>= λ step. names_after names step.0) ≡ Some cause → IsEndLine names (k ∷ []) cause
    by false p y q e = absurd (no_form cause h e)
    by true p true q e = record { are = ap (λ w. w ∷ []) (same_bytes k (codes "endmsc;") p); few = q; cause_is = same_Some causes.Instances cause (sym (ap (λ b. fault_of (cond b (Err causes.Instances) (Ok names))) q) ∙ e) }
    by true p false q e = absurd (let none = sym (ap (λ b. fault_of (cond b (Err causes.Instances) (Ok names))) q) ∙ e in cc)

two : (names : List (List ℕ)) (k w : List ℕ) (cause : Cause) → is_past 0 (Some cause) ≡ true → line_fault names states.Outside (k ∷ w ∷ []) ≡ Some cause → IsHeadLine names (k ∷ w ∷ []) cause
unfolding is_keyword spelled head_of
two names k w cause h e = by (bytes_eq k (codes "instance")) refl (name_part w) refl e
  where
    by : (x : Bool) → bytes_eq k (codes "instance") ≡ x → (o : Option (List ℕ)) → name_part w ≡ o → fault_of (cond x (head_of o) (Err causes.Syntax) >>= λ step. names_after names step.0) ≡ Some cause → IsHeadLine names (k ∷ w ∷ []) cause
    by false p o q e = absurd (no_form cause h e)
    by true p None q e = absurd (no_form cause h e)
    by true p (Some n) q e = record { w = w; p = n; are = ap (λ l. l ∷ w ∷ []) (same_bytes k (codes "instance") p); part = q; fault = sym (begun_fault names (name_or_cause n)) ∙ e }

pub outside_line : (names words : List (List ℕ)) (cause : Cause) → is_past 0 (Some cause) ≡ true → line_fault names states.Outside words ≡ Some cause → IsHeadLine names words cause ⊎ IsEndLine names words cause
outside_line names [] cause h e = absurd (no_form cause h e)
outside_line names (k ∷ []) cause h e = inr (lone names k cause h e)
outside_line names (k ∷ w ∷ []) cause h e = inl (two names k w cause h e)
outside_line names (k ∷ w ∷ z ∷ words) cause h e = absurd (no_form cause h e)

-- ---- the fault of an instance's name

pub data IsHeadFault : List (List ℕ) → List ℕ → Cause → Type 0 where
  of_name : {names : List (List ℕ)} {p : List ℕ} {cause : Cause} → name_or_cause p ≡ Err cause → IsHeadFault names p cause
  given : {names : List (List ℕ)} {p : List ℕ} {cause : Cause} → IsName p → list_any (bytes_eq p) names ≡ true → causes.Duplicate ≡ cause → IsHeadFault names p cause
  too_many : {names : List (List ℕ)} {p : List ℕ} {cause : Cause} → IsName p → eqb (length names) MAX_INSTANCES ≡ true → causes.Instances ≡ cause → IsHeadFault names p cause

-- a name that is given, by whether it was given before, and whether there are as many as may be
abbrev new_fault : Bool → Bool → List (List ℕ) → Option Cause
new_fault x y more = fault_of {A = List (List ℕ)} (cond x (Err causes.Duplicate) (cond y (Err causes.Instances) (Ok more)))

pub head_fault : (names : List (List ℕ)) (p : List ℕ) (cause : Cause) → fault_of (name_or_cause p >>= with_name names) ≡ Some cause → IsHeadFault names p cause
head_fault names p cause e = by (name_or_cause p) refl e
  where
    late : IsName p → (v : List ℕ) → v ≡ p → (x : Bool) → list_any (bytes_eq v) names ≡ x → (y : Bool) → eqb (length names) MAX_INSTANCES ≡ y → new_fault x y (names ++ v ∷ []) ≡ Some cause → IsHeadFault names p cause
    late is v same true a y b e = given is (ap (λ l. list_any (bytes_eq l) names) (sym same) ∙ a) (same_Some causes.Duplicate cause e)
    late is v same false a true b e = too_many is b (same_Some causes.Instances cause e)
    late is v same false a false b e = absurd cc

    by : (r : Result (List ℕ) Cause) → name_or_cause p ≡ r → fault_of (r >>= with_name names) ≡ Some cause → IsHeadFault names p cause
    by (Err c) a e = of_name (a ∙ ap Err (same_Some c cause e))
    by (Ok v) a e = late (name_is p v a).1 v (name_is p v a).0 (list_any (bytes_eq v) names) refl (eqb (length names) MAX_INSTANCES) refl e

-- ---- lines that are read

head_named : (names : List (List ℕ)) (x : List ℕ) → IsName x → line_fault names states.Outside (codes "instance" ∷ semi x ∷ []) ≡ new_fault (list_any (bytes_eq x) names) (eqb (length names) MAX_INSTANCES) (names ++ x ∷ [])
unfolding is_keyword spelled head_of
head_named names x is = rw (before_again x is, name_again x is) refl

takes_1 : (names : List (List ℕ)) (x : List ℕ) → IsName x → is_past 1 (line_fault names states.Outside (codes "instance" ∷ semi x ∷ [])) ≡ true
takes_1 names x is = ap (is_past 1) (head_named names x is) ∙ by (list_any (bytes_eq x) names) (eqb (length names) MAX_INSTANCES)
  where
    by : (a b : Bool) → is_past 1 (new_fault a b (names ++ x ∷ [])) ≡ true
    by true b = refl
    by false true = refl
    by false false = refl

takes_3 : (names : List (List ℕ)) (x : List ℕ) → IsName x → list_any (bytes_eq x) names ≡ false → is_past 3 (line_fault names states.Outside (codes "instance" ∷ semi x ∷ [])) ≡ true
takes_3 names x is new = ap (is_past 3) (head_named names x is) ∙ ap (λ a. is_past 3 (new_fault a (eqb (length names) MAX_INSTANCES) (names ++ x ∷ []))) new ∙ by (eqb (length names) MAX_INSTANCES)
  where
    by : (b : Bool) → is_past 3 (new_fault false b (names ++ x ∷ [])) ≡ true
    by true = refl
    by false = refl

takes_4 : (names : List (List ℕ)) (x : List ℕ) → IsName x → list_any (bytes_eq x) names ≡ false → eqb (length names) MAX_INSTANCES ≡ false → is_past 4 (line_fault names states.Outside (codes "instance" ∷ semi x ∷ [])) ≡ true
takes_4 names x is new room =
    ap (is_past 4) (head_named names x is) ∙ ap (λ a. is_past 4 (new_fault a (eqb (length names) MAX_INSTANCES) (names ++ x ∷ []))) new ∙ ap (λ b. is_past 4 (new_fault false b (names ++ x ∷ []))) room

ends_4 : (names : List (List ℕ)) → ltb (length names) 2 ≡ false → is_past 4 (line_fault names states.Outside (codes "endmsc;" ∷ [])) ≡ true
unfolding is_last_word spelled
ends_4 names some = ap (λ b. is_past 4 (fault_of (cond b (Err causes.Instances) (Ok names)))) some

-- ---- carets

module _ (known names : List (List ℕ)) (w p : List ℕ) where
  last_stops : (n : ℕ) (cause : Cause) → line_fault names states.Outside (codes "instance" ∷ w ∷ []) ≡ Some cause → is_past n (Some cause) ≡ false → is_past n (Some causes.Syntax) ≡ false
      → (more : List (List ℕ)) → is_past n (line_fault names states.Outside (codes "instance" ∷ w ∷ more)) ≡ false
  last_stops n cause e h g [] = ap (is_past n) e ∙ h
  last_stops n cause e h g (u ∷ more) = g

  name_spot : (fault : NameError) → name_part w ≡ Some p → name_or_cause p ≡ Err (causes.Name fault)
      → spot_from (causes.Name fault) known (codes "instance" ∷ w ∷ []) wants.InstanceOrEnd 0 0 (codes "instance" ∷ w ∷ []) ≡ record { place = (0 + (length (codes "instance") + 1)) + min (inner (causes.Name fault)) (length w); want = wants.InstanceName }
  unfolding is_wrong instead next chart_next named_on name_in
  name_spot fault part bad =
      goes_on (causes.Name fault) known (codes "instance" ∷ w ∷ []) wants.InstanceOrEnd wants.InstanceName 0 0 (codes "instance") (codes "instance" ∷ w ∷ []) (w ∷ []) refl (record { first = w; others = []; is = refl }) refl refl
      ∙ spot_same (causes.Name fault) known (codes "instance" ∷ w ∷ []) wants.InstanceName 1 (0 + (length (codes "instance") + 1)) w (w ∷ []) [] refl
      (ap (λ o. is_err (name_or_cause (unwrap_or o w))) part ∙ ap is_err bad) refl

  pub name_caret : (fault : NameError) → name_part w ≡ Some p → name_or_cause p ≡ Err (causes.Name fault) → line_fault names states.Outside (codes "instance" ∷ w ∷ []) ≡ Some (causes.Name fault)
      → CaretAt names states.Outside (causes.Name fault) known (codes "instance" ∷ w ∷ [])
  name_caret fault part bad e =
      subst (IsChartCaret (line_fault names states.Outside) (MayName names states.Outside (causes.Name fault)) states.Outside (causes.Name fault) (codes "instance" ∷ w ∷ [])) (sym (name_spot fault part bad))
      (record {
        before = codes "instance" ∷ [];
        from = w ∷ [];
        are = refl;
        word = length (codes "instance") + 1;
        at_word = omega arith;
        place = omega arith;
        goes_on = λ go. (semi (codes "a") ∷ [], (last_lacks (codes "a") a_named, tt), takes_1 names (codes "a") a_named);
        stops = last_stops 1 (causes.Name fault) e refl refl;
        may_be = λ name is may. ([], tt, takes_1 names name is);
      })

  given_spot : spot_from causes.Duplicate known (codes "instance" ∷ w ∷ []) wants.InstanceOrEnd 0 0 (codes "instance" ∷ w ∷ [])
      ≡ record { place = (0 + (length (codes "instance") + 1)) + min (inner causes.Duplicate) (length w); want = wants.InstanceName }
  unfolding is_wrong is_again instead next chart_next named_on
  given_spot =
      goes_on causes.Duplicate known (codes "instance" ∷ w ∷ []) wants.InstanceOrEnd wants.InstanceName 0 0 (codes "instance") (codes "instance" ∷ w ∷ []) (w ∷ []) refl (record { first = w; others = []; is = refl }) refl refl
      ∙ spot_same causes.Duplicate known (codes "instance" ∷ w ∷ []) wants.InstanceName 1 (0 + (length (codes "instance") + 1)) w (w ∷ []) [] refl refl refl

  pub given_caret : length names ≤ MAX_INSTANCES → line_fault names states.Outside (codes "instance" ∷ w ∷ []) ≡ Some causes.Duplicate → CaretAt names states.Outside causes.Duplicate known (codes "instance" ∷ w ∷ [])
  given_caret few e =
      let f = fresh names few in
      subst (IsChartCaret (line_fault names states.Outside) (MayName names states.Outside causes.Duplicate) states.Outside causes.Duplicate (codes "instance" ∷ w ∷ [])) (sym given_spot)
      (record {
        before = codes "instance" ∷ [];
        from = w ∷ [];
        are = refl;
        word = length (codes "instance") + 1;
        at_word = omega arith;
        place = omega arith;
        goes_on = λ go. (semi f.name ∷ [], (last_lacks f.name f.named, tt), takes_3 names f.name f.named f.new);
        stops = last_stops 3 causes.Duplicate e refl refl;
        may_be = λ name is new. ([], tt, takes_3 names name is (not_found names name new));
      })

  -- one instance too many
  many_spot : spot_from causes.Instances known (codes "instance" ∷ w ∷ []) wants.InstanceOrEnd 0 0 (codes "instance" ∷ w ∷ []) ≡ record { place = 0 + min (inner causes.Instances) (length (codes "instance")); want = wants.End }
  unfolding is_wrong is_too_many instead
  many_spot = spot_wrong causes.Instances known (codes "instance" ∷ w ∷ []) wants.InstanceOrEnd 0 0 (codes "instance") (codes "instance" ∷ w ∷ []) (w ∷ []) refl refl

  many_stops : eqb (length names) MAX_INSTANCES ≡ true → (more : List (List ℕ)) → is_past 4 (line_fault names states.Outside (codes "instance" ∷ more)) ≡ false
  unfolding is_keyword is_last_word spelled head_of
  many_stops full [] = refl
  many_stops full (v ∷ []) = by (name_part v)
    where
      new : (x : Bool) (own : List ℕ) → is_past 4 (new_fault x (eqb (length names) MAX_INSTANCES) (names ++ own ∷ [])) ≡ false
      new true own = refl
      new false own = rw full refl

      late : (r : Result (List ℕ) Cause) → is_past 4 (fault_of (r >>= with_name names)) ≡ false
      late (Err cause) = all_stop cause
      late (Ok own) = new (list_any (bytes_eq own) names) own

      by : (o : Option (List ℕ)) → is_past 4 (fault_of (head_of o >>= λ step. names_after names step.0)) ≡ false
      by None = refl
      by (Some q) = ap (is_past 4) (begun_fault names (name_or_cause q)) ∙ late (name_or_cause q)
  many_stops full (v ∷ z ∷ more) = refl

  pub many_caret : eqb (length names) MAX_INSTANCES ≡ true → CaretAt names states.Outside causes.Instances known (codes "instance" ∷ w ∷ [])
  many_caret full =
      let long : length names ≡ MAX_INSTANCES = eqb-true (length names) MAX_INSTANCES full in
      let ends = ends_4 names (le-ltb (length names) 2 (omega arith)) in
      subst (IsChartCaret (line_fault names states.Outside) (MayName names states.Outside causes.Instances) states.Outside causes.Instances (codes "instance" ∷ w ∷ [])) (sym many_spot)
      (record {
        before = [];
        from = codes "instance" ∷ w ∷ [];
        are = refl;
        word = 0;
        at_word = refl;
        place = refl;
        goes_on = λ go. (codes "endmsc;" ∷ [], (lacks_if 32 (codes "endmsc;") refl, tt), ends);
        stops = many_stops full;
        may_be = ([], tt, ends);
      })

-- the chart ends with too few instances
few_spot : (known : List (List ℕ)) → spot_from causes.Instances known (codes "endmsc;" ∷ []) wants.InstanceOrEnd 0 0 (codes "endmsc;" ∷ []) ≡ record { place = 0 + min (inner causes.Instances) (length (codes "endmsc;")); want = wants.NextInstance }
unfolding is_wrong is_too_many instead
few_spot known = spot_wrong causes.Instances known (codes "endmsc;" ∷ []) wants.InstanceOrEnd 0 0 (codes "endmsc;") (codes "endmsc;" ∷ []) [] refl refl

few_stops : (names : List (List ℕ)) → ltb (length names) 2 ≡ true → (more : List (List ℕ)) → is_past 4 (line_fault names states.Outside (codes "endmsc;" ∷ more)) ≡ false
unfolding is_keyword is_last_word spelled
few_stops names few [] = ap (λ b. is_past 4 (fault_of (cond b (Err causes.Instances) (Ok names)))) few
few_stops names few (v ∷ []) = refl
few_stops names few (v ∷ z ∷ more) = refl

pub few_caret : (known names : List (List ℕ)) → ltb (length names) 2 ≡ true → CaretAt names states.Outside causes.Instances known (codes "endmsc;" ∷ [])
few_caret known names few =
    let less = ltb-true (length names) 2 few in
    let f = fresh names (omega arith) in
    let takes = takes_4 names f.name f.named f.new (ne_eqb (length names) MAX_INSTANCES (λ same. omega arith)) in
    subst (IsChartCaret (line_fault names states.Outside) (MayName names states.Outside causes.Instances) states.Outside causes.Instances (codes "endmsc;" ∷ [])) (sym (few_spot known))
    (record {
      before = [];
      from = codes "endmsc;" ∷ [];
      are = refl;
      word = 0;
      at_word = refl;
      place = refl;
      goes_on = λ go. (codes "instance" ∷ semi f.name ∷ [], (lacks_if 32 (codes "instance") refl, (last_lacks f.name f.named, tt)), takes);
      stops = few_stops names few;
      may_be = (semi f.name ∷ [], (last_lacks f.name f.named, tt), takes);
    })
