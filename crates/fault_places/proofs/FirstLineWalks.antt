-- Along the names of a schedule's first line: which of them can't be given.
use Rattle.std.proofs.Common.{◌≡◌, ℕ, ◌+◌, ◌-◌, Bool, true, false, cond, ◌||◌, eqb, List, [], ◌∷◌, ◌++◌, length, Ok, Err, ◌⊎◌, inl, inr, refl, sym, ap, ◌∙◌, arith, append-nil, append_assoc, length-append}
use Rattle.std.specs.Prelude.{Some, bytes_eq, is_err, min}
use Rattle.std.specs.List.{list_all, list_any}
use Rattle.std.proofs.lemmas.Bool.{false≢true, and_parts, eqb-true, eqb-false, eq-eqb, ne_eqb}
use Rattle.chart.specs.declared.instance.TheConstants.{MAX_INSTANCES}
use Rattle.chart.specs.declared.name.NameError.{NameError}
use Rattle.fault_places.proofs.ChartCarets.{only_names}
use Rattle.fault_places.proofs.ChartHeadCarets.{IsHeadFault, head_fault}
use Rattle.fault_places.proofs.ChartHeadCarets.IsHeadFault.{of_name, given, too_many}
use Rattle.fault_places.proofs.SpotLemmas.{spot_wrong, goes_on}
use Rattle.fault_places.proofs.WalkLemmas.{IsPlaceFrom, place_before}
use Rattle.fault_places.specs.Carets.{fault_of}
use Rattle.fault_places.specs.ScheduleCarets.{is_of_first}
use Rattle.fault_places.specs.Spots.{is_among, is_again, is_too_many, is_wrong, instead, inner, spot_from}
use Rattle.fault_places.specs.Wants.{on, next}
use Rattle.fault_places.specs.declared.spot.Spot.{Spot}
use Rattle.fault_places.specs.declared.want.Want.{Want}
use Rattle.fault_places.specs.declared.want.Want.TheVariants as wants
use Rattle.schedule.specs.FirstLines.{with_word, with_words}
use Rattle.texts.proofs.Results.{bind_ok, bind_err, guard_ok, name_is, ok_is}
use Rattle.texts.specs.Faults.{◌>>=◌}
use Rattle.texts.specs.Instances.{with_name}
use Rattle.texts.specs.Lines.{name_or_cause, is_word}
use Rattle.texts.specs.declared.fault.Cause.{Cause}
use Rattle.texts.specs.declared.fault.Cause.TheVariants as causes

-- ---- which word is the faulty one

-- what may be after these names
abbrev pub want_at : List (List ℕ) → Want
want_at [] = wants.FirstName
want_at (name ∷ names) = wants.OtherName

want_more : (names : List (List ℕ)) (name : List ℕ) → want_at (names ++ name ∷ []) ≡ wants.OtherName
want_more [] name = refl
want_more (x ∷ names) name = refl

pub next_at : (names : List (List ℕ)) (w : List ℕ) → is_word w ≡ true → next (want_at names) w ≡ Some wants.OtherName
unfolding next
next_at [] w is = ap (λ b. on b wants.OtherName) is
next_at (x ∷ names) w is = ap (λ b. on b wants.OtherName) is

among_front : (w : List ℕ) (names rest : List (List ℕ)) → is_among w (length names) (names ++ rest) ≡ list_any (bytes_eq w) names
among_front w [] rest = refl
among_front w (x ∷ names) rest = ap (λ b. bytes_eq w x || b) (among_front w names rest)

name_wrong : (known line names : List (List ℕ)) (index : ℕ) (w : List ℕ) (fault : NameError) → is_wrong (causes.Name fault) known line (want_at names) index w ≡ is_err (name_or_cause w)
unfolding is_wrong
name_wrong known line [] index w fault = refl
name_wrong known line (x ∷ names) index w fault = refl

again_wrong : (known : List (List ℕ)) (k : List ℕ) (names : List (List ℕ)) (w : List ℕ) (ws : List (List ℕ)) → is_wrong causes.Duplicate known (k ∷ (names ++ w ∷ ws)) (want_at names) (1 + length names) w ≡ list_any (bytes_eq w) names
unfolding is_wrong is_again
again_wrong known k [] w ws = refl
again_wrong known k (x ∷ names) w ws =
    let less : (1 + length (x ∷ names)) - 1 ≡ length (x ∷ names) = omega arith in
    ap (λ n. is_among w n ((x ∷ names) ++ w ∷ ws)) less ∙ among_front w (x ∷ names) (w ∷ ws)

same_test : (n : ℕ) → eqb (1 + n) (MAX_INSTANCES + 1) ≡ eqb n MAX_INSTANCES
same_test n = by (eqb n MAX_INSTANCES) refl
  where
    by : (b : Bool) → eqb n MAX_INSTANCES ≡ b → eqb (1 + n) (MAX_INSTANCES + 1) ≡ b
    by true e = let is = eqb-true n MAX_INSTANCES e in eq-eqb (1 + n) (MAX_INSTANCES + 1) (omega arith)
    by false e = let other = eqb-false n MAX_INSTANCES e in ne_eqb (1 + n) (MAX_INSTANCES + 1) (λ same. other (omega arith))

many_wrong : (known line names : List (List ℕ)) (w : List ℕ) → is_wrong causes.Instances known line (want_at names) (1 + length names) w ≡ eqb (length names) MAX_INSTANCES
unfolding is_wrong is_too_many
many_wrong known line [] w = refl
many_wrong known line (x ∷ names) w = same_test (length (x ∷ names))

-- the word has the fault
wrong_is : (known : List (List ℕ)) (k : List ℕ) (names : List (List ℕ)) (w : List ℕ) (ws : List (List ℕ)) (cause : Cause) → is_of_first cause ≡ true → with_word names w ≡ Err cause → is_wrong cause known (k ∷ (names ++ w ∷ ws)) (want_at names) (1 + length names) w ≡ true
unfolding with_word
wrong_is known k names w ws cause of e = by cause of (head_fault names w cause (ap fault_of e))
  where
    by : (cause : Cause) → is_of_first cause ≡ true → IsHeadFault names w cause → is_wrong cause known (k ∷ (names ++ w ∷ ws)) (want_at names) (1 + length names) w ≡ true
    by (causes.Name fault) of (of_name bad) = name_wrong known (k ∷ (names ++ w ∷ ws)) names (1 + length names) w fault ∙ ap is_err bad
    by (causes.Name fault) of (given is there same) = absurd cc
    by (causes.Name fault) of (too_many is long same) = absurd cc
    by causes.Duplicate of (of_name bad) = absurd (only_names w causes.Duplicate bad refl)
    by causes.Duplicate of (given is there same) = again_wrong known k names w ws ∙ there
    by causes.Duplicate of (too_many is long same) = absurd cc
    by causes.Instances of (of_name bad) = absurd (only_names w causes.Instances bad refl)
    by causes.Instances of (given is there same) = absurd cc
    by causes.Instances of (too_many is long same) = many_wrong known (k ∷ (names ++ w ∷ ws)) names w ∙ long
    by _ of f = absurd (false≢true of)

-- a name that is given
pub record IsGiven (names : List (List ℕ)) (w : List ℕ) (more : List (List ℕ)) : Type 0 where
  pub named : name_or_cause w ≡ Ok w
  pub new : list_any (bytes_eq w) names ≡ false
  pub room : eqb (length names) MAX_INSTANCES ≡ false
  pub more_is : more ≡ names ++ w ∷ []

pub is_given : (names : List (List ℕ)) (w : List ℕ) (more : List (List ℕ)) → with_word names w ≡ Ok more → IsGiven names w more
unfolding with_word
is_given names w more e =
    let a = bind_ok (name_or_cause w) (with_name names) more e in
    let same = (name_is w a.0 a.1).0 in
    let b = guard_ok (list_any (bytes_eq a.0) names) causes.Duplicate (cond (eqb (length names) MAX_INSTANCES) (Err causes.Instances) (Ok (names ++ a.0 ∷ []))) more a.2 in
    let c = guard_ok (eqb (length names) MAX_INSTANCES) causes.Instances (Ok (names ++ a.0 ∷ [])) more b.1 in
    record {
      named = a.1 ∙ ap Ok same;
      new = ap (λ v. list_any (bytes_eq v) names) (sym same) ∙ b.0;
      room = c.0;
      more_is = sym (ok_is (names ++ a.0 ∷ []) more c.1) ∙ ap (λ v. names ++ v ∷ []) same;
    }

pub right_is : (known : List (List ℕ)) (k : List ℕ) (names : List (List ℕ)) (w : List ℕ) (ws more : List (List ℕ)) (cause : Cause) → is_of_first cause ≡ true → IsGiven names w more → is_wrong cause known (k ∷ (names ++ w ∷ ws)) (want_at names) (1 + length names) w ≡ false
right_is known k names w ws more (causes.Name fault) of g = name_wrong known (k ∷ (names ++ w ∷ ws)) names (1 + length names) w fault ∙ ap is_err g.named
right_is known k names w ws more causes.Duplicate of g = again_wrong known k names w ws ∙ g.new
right_is known k names w ws more causes.Instances of g = many_wrong known (k ∷ (names ++ w ∷ ws)) names w ∙ g.room
right_is known k names w ws more _ of g = absurd (false≢true of)

-- ---- along the words

pub record IsFirstStop (names : List (List ℕ)) (start : ℕ) (words : List (List ℕ)) (cause : Cause) (spot : Spot) : Type 0 where
  pub good : List (List ℕ)
  pub bad : List ℕ
  pub rest : List (List ℕ)
  pub are : words ≡ good ++ bad ∷ rest
  pub given_names : List (List ℕ)
  pub all : given_names ≡ names ++ good
  pub read : with_words names good ≡ Ok given_names
  pub fault : with_word given_names bad ≡ Err cause
  pub word : ℕ
  pub place : IsPlaceFrom start word good (bad ∷ rest)
  pub at : spot ≡ record { place = word + min (inner cause) (length bad); want = instead cause (want_at given_names) bad }

pub first_stop : (known : List (List ℕ)) (k : List ℕ) (cause : Cause) → is_of_first cause ≡ true → (names words line : List (List ℕ)) (index start : ℕ) → line ≡ k ∷ (names ++ words) → index ≡ 1 + length names → list_all is_word words ≡ true → with_words names words ≡ Err cause
    → IsFirstStop names start words cause (spot_from cause known line (want_at names) index start words)
unfolding with_words
first_stop known k cause of names [] line index start whole count form e = absurd cc
first_stop known k cause of names (w ∷ ws) line index start whole count form e =
    by (bind_err (with_word names w) (λ more. with_words more ws) cause e) (λ more l i s g f. first_stop known k cause of more ws line i s l g f)
  where
    word_form : (is_word w ≡ true) × (list_all is_word ws ≡ true)
    word_form = and_parts (is_word w) (list_all is_word ws) form

    here : with_word names w ≡ Err cause → IsFirstStop names start (w ∷ ws) cause (spot_from cause known line (want_at names) index start (w ∷ ws))
    here fails =
        let wrong : is_wrong cause known line (want_at names) index w ≡ true = ap (λ l. is_wrong cause known l (want_at names) index w) whole ∙ ap (λ i. is_wrong cause known (k ∷ (names ++ w ∷ ws)) (want_at names) i w) count ∙ wrong_is known k names w ws cause of fails in
        record {
          good = [];
          bad = w;
          rest = ws;
          are = refl;
          given_names = names;
          all = sym (append-nil names);
          read = refl;
          fault = fails;
          word = start;
          place = omega arith;
          at = spot_wrong cause known line (want_at names) index start w (w ∷ ws) ws refl wrong;
        }

    later : (ws : List (List ℕ)) (more : List (List ℕ)) → line ≡ k ∷ (names ++ w ∷ ws) → IsGiven names w more → with_word names w ≡ Ok more → with_words more ws ≡ Err cause
        → IsFirstStop more (start + (length w + 1)) ws cause (spot_from cause known line (want_at more) (index + 1) (start + (length w + 1)) ws)
        → IsFirstStop names start (w ∷ ws) cause (spot_from cause known line (want_at names) index start (w ∷ ws))
    later [] more whole g ok then f = absurd cc
    later (x ∷ xs) more whole g ok then f =
        let right : is_wrong cause known line (want_at names) index w ≡ false = ap (λ l. is_wrong cause known l (want_at names) index w) whole ∙ ap (λ i. is_wrong cause known (k ∷ (names ++ w ∷ (x ∷ xs))) (want_at names) i w) count ∙ right_is known k names w (x ∷ xs) more cause of g in
        let wanted : want_at more ≡ wants.OtherName = ap want_at g.more_is ∙ want_more names w in
        record {
          good = w ∷ f.good;
          bad = f.bad;
          rest = f.rest;
          are = ap (λ l. w ∷ l) f.are;
          given_names = f.given_names;
          all = f.all ∙ ap (λ l. l ++ f.good) g.more_is ∙ append_assoc names (w ∷ []) f.good;
          read = ap (λ r. r >>= λ m. with_words m f.good) ok ∙ f.read;
          fault = f.fault;
          word = f.word;
          place = place_before start f.word w f.good (f.bad ∷ f.rest) f.place;
          at = goes_on cause known line (want_at names) wants.OtherName index start w (w ∷ (x ∷ xs)) (x ∷ xs) refl (record { first = x; others = xs; is = refl }) right (next_at names w word_form.0)
              ∙ ap (λ want. spot_from cause known line want (index + 1) (start + (length w + 1)) (x ∷ xs)) (sym wanted) ∙ f.at;
        }

    by : (with_word names w ≡ Err cause) ⊎ ((more : List (List ℕ)) × (with_word names w ≡ Ok more) × (with_words more ws ≡ Err cause))
        → ((more : List (List ℕ)) → line ≡ k ∷ (more ++ ws) → (i s : ℕ) → i ≡ 1 + length more → list_all is_word ws ≡ true → with_words more ws ≡ Err cause → IsFirstStop more s ws cause (spot_from cause known line (want_at more) i s ws))
        → IsFirstStop names start (w ∷ ws) cause (spot_from cause known line (want_at names) index start (w ∷ ws))
    by (inl fails) again = here fails
    by (inr (more, ok, then)) again =
        let g = is_given names w more ok in
        let grown = length-append names (w ∷ []) in
        let long : length more ≡ length (names ++ w ∷ []) = ap length g.more_is in
        later ws more whole g ok then
        (again more (whole ∙ ap (λ l. k ∷ l) (sym (ap (λ l. l ++ ws) g.more_is ∙ append_assoc names (w ∷ []) ws))) (index + 1) (start + (length w + 1)) (omega arith) word_form.1 then)
