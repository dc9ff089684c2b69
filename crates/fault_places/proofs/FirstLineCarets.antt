-- A schedule's first line that is refused for a name, or for the number of its instances: its caret, and what may be there.
use Rattle.std.proofs.Common.{◌≡◌, ℕ, ◌+◌, ◌≤◌, Bool, true, false, cond, not, ◌&&◌, eqb, ltb, List, [], ◌∷◌, ◌++◌, length, Result, Ok, Err, ◌⊎◌, inl, inr, refl, sym, ap, ◌∙◌, subst, arith, append-nil, append_assoc, length-append}
use Rattle.std.specs.Prelude.{Option, Some, codes, bytes_eq}
use Rattle.std.specs.List.{list_all, list_any}
use Rattle.std.proofs.lemmas.Bool.{false≢true, and_parts, and_from, eqb-true, ne_eqb, ltb-true, le-ltb}
use Rattle.std.proofs.lemmas.Option.{same_Some}
use Rattle.chart.specs.Names.{IsName}
use Rattle.chart.specs.declared.instance.TheConstants.{MAX_INSTANCES}
use Rattle.fault_places.proofs.ChartCarets.{only_names}
use Rattle.fault_places.proofs.ChartEventLines.{no_form}
use Rattle.fault_places.proofs.ChartHeadCarets.{IsHeadFault, head_fault}
use Rattle.fault_places.proofs.ChartHeadCarets.IsHeadFault.{of_name, given, too_many}
use Rattle.fault_places.proofs.FreshNames.{a_named, fresh, not_found}
use Rattle.fault_places.proofs.SpotLemmas.{spot_ends, goes_on}
use Rattle.fault_places.specs.Carets.{fault_of, is_past, MayStand, IsCaret}
use Rattle.fault_places.specs.ScheduleCarets.{is_of_first}
use Rattle.fault_places.specs.Spots.{is_again, is_too_many, is_wrong, instead, spot_from, spot_of}
use Rattle.fault_places.specs.Wants.{next}
use Rattle.fault_places.specs.declared.spot.Spot.{Spot}
use Rattle.fault_places.specs.declared.want.Want.TheVariants as wants
use Rattle.schedule.specs.FirstLines.{are_words, with_word, with_words, several, instances_of, instances_by}
use Rattle.schedule.specs.Keywords.{written, is_written}
use Rattle.texts.proofs.Lookups.{same_bytes}
use Rattle.texts.proofs.Parts.{lacks_if}
use Rattle.texts.proofs.Results.{bind_ok, bind_err, name_again, name_some, name_has_no_space, ok_is}
use Rattle.texts.specs.Faults.{◌>>=◌}
use Rattle.texts.specs.Instances.{with_name}
use Rattle.texts.specs.Lines.{words_of, is_word}
use Rattle.texts.specs.declared.fault.Cause.{Cause}
use Rattle.texts.specs.declared.fault.Cause.TheVariants as causes
use Rattle.fault_places.proofs.FirstLineWalks.{want_at, next_at, IsGiven, is_given, right_is, IsFirstStop, first_stop}

-- ---- lines that begin with these names

with_front : (names xs ys more : List (List ℕ)) → with_words names xs ≡ Ok more → with_words names (xs ++ ys) ≡ with_words more ys
unfolding with_words
with_front names [] ys more e = ap (λ l. with_words l ys) (ok_is names more e)
with_front names (x ∷ xs) ys more e =
    let a = bind_ok (with_word names x) (λ m. with_words m xs) more e in
    ap (λ r. r >>= λ m. with_words m (xs ++ ys)) a.1 ∙ with_front a.0 xs ys more a.2

words_front : (xs : List (List ℕ)) (w : List ℕ) (rest : List (List ℕ)) → list_all is_word (xs ++ w ∷ rest) ≡ true → (x : List ℕ) → is_word x ≡ true → list_all is_word (xs ++ x ∷ []) ≡ true
words_front [] w rest e x is = and_from (is_word x) true is refl
words_front (v ∷ xs) w rest e x is =
    let two = and_parts (is_word v) (list_all is_word (xs ++ w ∷ rest)) e in
    and_from (is_word v) (list_all is_word (xs ++ x ∷ [])) two.0 (words_front xs w rest two.1 x is)

front_words : (xs : List (List ℕ)) (w : List ℕ) (rest : List (List ℕ)) → list_all is_word (xs ++ w ∷ rest) ≡ true → list_all is_word xs ≡ true
front_words [] w rest e = refl
front_words (v ∷ xs) w rest e =
    let two = and_parts (is_word v) (list_all is_word (xs ++ w ∷ rest)) e in
    and_from (is_word v) (list_all is_word xs) two.0 (front_words xs w rest two.1)

-- the line is read by its names, if it has one
by_names : (words : List (List ℕ)) → list_all is_word words ≡ true → 1 ≤ length words → fault_of (instances_by (codes "instances" ∷ words)) ≡ fault_of (with_words [] words >>= several)
unfolding is_written written are_words
by_names words form some = rw (ne_eqb (length words) 0 (λ none. omega arith), form) refl

module _ (known_names good : List (List ℕ)) (bad : List ℕ) (rest : List (List ℕ)) (form : list_all is_word (good ++ bad ∷ rest) ≡ true) (read : with_words [] good ≡ Ok good) where
  long_line : (x : List ℕ) (more : List (List ℕ)) → 1 ≤ length (good ++ x ∷ more)
  long_line x more = let long = length-append good (x ∷ more) in omega arith

  -- no line that begins so is read
  stops_there : (n : ℕ) (cause : Cause) → is_past n (Some cause) ≡ false → is_past n (Some causes.Syntax) ≡ false → with_word good bad ≡ Err cause → (more : List (List ℕ)) → is_past n (fault_of (instances_by ((codes "instances" ∷ good) ++ bad ∷ more))) ≡ false
  unfolding is_written written with_words
  stops_there n cause h g fails more = by (are_words (good ++ bad ∷ more))
    where
      by : (b : Bool) → is_past n (fault_of (cond b (instances_of (good ++ bad ∷ more)) (Err causes.Syntax))) ≡ false
      by false = g
      by true = ap (λ r. is_past n (fault_of (r >>= several))) (with_front [] good (bad ∷ more) good read ∙ ap (λ r. r >>= λ m. with_words m more) fails) ∙ h

  -- a line with one name more
  one_more : (x : List ℕ) → IsName x → fault_of (instances_by ((codes "instances" ∷ good) ++ x ∷ [])) ≡ fault_of (with_name good x >>= several)
  unfolding with_words with_word
  one_more x is =
      by_names (good ++ x ∷ []) (words_front good bad rest form x (ap not (name_some x is))) (long_line x [])
      ∙ ap (λ r. fault_of (r >>= several)) (with_front [] good (x ∷ []) good read)
      ∙ ap (λ r. fault_of (((r >>= with_name good) >>= λ m. with_words m []) >>= several)) (name_again x is) ∙ ended (with_name good x)
    where
      ended : (r : Result (List (List ℕ)) Cause) → fault_of ((r >>= λ m. with_words m []) >>= several) ≡ fault_of (r >>= several)
      ended (Ok m) = refl
      ended (Err cause) = refl

  -- the fault of a new name
  abbrev given_fault : Bool → Bool → List ℕ → Option Cause
  given_fault a b x = fault_of ((cond a (Err causes.Duplicate) (cond b (Err causes.Instances) (Ok (good ++ x ∷ [])))) >>= several)

  -- one that was given before, or is one too many, has a later turn
  named_1 : (x : List ℕ) → IsName x → is_past 1 (fault_of (instances_by ((codes "instances" ∷ good) ++ x ∷ []))) ≡ true
  named_1 x is = ap (is_past 1) (one_more x is) ∙ by (list_any (bytes_eq x) good) (eqb (length good) MAX_INSTANCES)
    where
      late : (c : Bool) → is_past 1 (fault_of (cond c (Err causes.Instances) (Ok (good ++ x ∷ [])))) ≡ true
      late true = refl
      late false = refl

      by : (a b : Bool) → is_past 1 (given_fault a b x) ≡ true
      by true b = refl
      by false true = refl
      by false false = late (ltb (length (good ++ x ∷ [])) 2)

  named_3 : (x : List ℕ) → IsName x → list_any (bytes_eq x) good ≡ false → is_past 3 (fault_of (instances_by ((codes "instances" ∷ good) ++ x ∷ []))) ≡ true
  named_3 x is new = ap (is_past 3) (one_more x is) ∙ ap (λ a. is_past 3 (given_fault a (eqb (length good) MAX_INSTANCES) x)) new ∙ by (eqb (length good) MAX_INSTANCES)
    where
      late : (c : Bool) → is_past 3 (fault_of (cond c (Err causes.Instances) (Ok (good ++ x ∷ [])))) ≡ true
      late true = refl
      late false = refl

      by : (b : Bool) → is_past 3 (given_fault false b x) ≡ true
      by true = refl
      by false = late (ltb (length (good ++ x ∷ [])) 2)

  -- the names alone
  alone : 1 ≤ length good → fault_of (instances_by (codes "instances" ∷ good)) ≡ fault_of (several good)
  alone some = by_names good (front_words good bad rest form) some ∙ ap (λ r. fault_of (r >>= several)) read

  alone_3 : 1 ≤ length good → is_past 3 (fault_of (instances_by (codes "instances" ∷ good))) ≡ true
  alone_3 some = ap (is_past 3) (alone some) ∙ by (ltb (length good) 2)
    where
      by : (c : Bool) → is_past 3 (fault_of (cond c (Err causes.Instances) (Ok good))) ≡ true
      by true = refl
      by false = refl

  alone_4 : 2 ≤ length good → is_past 4 (fault_of (instances_by (codes "instances" ∷ good))) ≡ true
  alone_4 some = ap (is_past 4) (alone (omega arith)) ∙ ap (λ c. is_past 4 (fault_of (cond c (Err causes.Instances) (Ok good)))) (le-ltb (length good) 2 some)

-- ---- carets

abbrev CaretOf : List (List ℕ) → List (List ℕ) → Cause → List (List ℕ) → Type 0
CaretOf known known_names cause words = IsCaret (λ w. fault_of (instances_by w)) known_names cause words (spot_from cause known words wants.Instances 0 0 words)

first_right : (known line : List (List ℕ)) (cause : Cause) → is_of_first cause ≡ true → is_wrong cause known line wants.Instances 0 (codes "instances") ≡ false
unfolding is_wrong is_again is_too_many
first_right known line (causes.Name fault) of = refl
first_right known line causes.Duplicate of = refl
first_right known line causes.Instances of = refl
first_right known line _ of = absurd (false≢true of)

first_next : next wants.Instances (codes "instances") ≡ Some wants.FirstName
unfolding next
first_next = refl

first_form : (cause : Cause) → is_of_first cause ≡ true → is_past 0 (Some cause) ≡ true
first_form (causes.Name fault) of = refl
first_form causes.Duplicate of = refl
first_form causes.Instances of = refl
first_form _ of = absurd (false≢true of)

-- the spot is that among the names
spot_names : (known : List (List ℕ)) (cause : Cause) → is_of_first cause ≡ true → (w : List ℕ) (ws : List (List ℕ))
    → spot_from cause known (codes "instances" ∷ w ∷ ws) wants.Instances 0 0 (codes "instances" ∷ w ∷ ws) ≡ spot_from cause known (codes "instances" ∷ w ∷ ws) wants.FirstName 1 (0 + (length (codes "instances") + 1)) (w ∷ ws)
spot_names known cause of w ws =
    goes_on cause known (codes "instances" ∷ w ∷ ws) wants.Instances wants.FirstName 0 0 (codes "instances") (codes "instances" ∷ w ∷ ws) (w ∷ ws) refl (record { first = w; others = ws; is = refl })
    (first_right known (codes "instances" ∷ w ∷ ws) cause of) first_next

some_found : (x : List ℕ) (names : List (List ℕ)) → list_any (bytes_eq x) names ≡ true → 1 ≤ length names
some_found x [] e = absurd (false≢true e)
some_found x (y ∷ names) e = omega arith

-- what may be after these names, and there is a name more
may_name : (known_names good : List (List ℕ)) (bad : List ℕ) (rest : List (List ℕ)) → list_all is_word (good ++ bad ∷ rest) ≡ true → with_words [] good ≡ Ok good → (g : List (List ℕ)) → g ≡ good
    → MayStand (λ w. fault_of (instances_by w)) 1 known_names (codes "instances" ∷ good) (want_at g)
may_name known_names good bad rest form read [] same = λ name is. ([], tt, named_1 known_names good bad rest form read name is)
may_name known_names good bad rest form read (x ∷ g) same = λ name is new. ([], tt, named_1 known_names good bad rest form read name is)

caret_at : (known known_names : List (List ℕ)) (cause : Cause) → is_of_first cause ≡ true → (words : List (List ℕ)) (spot : Spot) → list_all is_word words ≡ true → IsFirstStop [] (0 + (length (codes "instances") + 1)) words cause spot
    → IsCaret (λ w. fault_of (instances_by w)) known_names cause (codes "instances" ∷ words) spot
unfolding instead with_word
caret_at known known_names (causes.Name fault) of words spot form s =
    let read : with_words [] s.good ≡ Ok s.good = s.read ∙ ap Ok s.all in
    let formed : list_all is_word (s.good ++ s.bad ∷ s.rest) ≡ true = ap (list_all is_word) (sym s.are) ∙ form in
    let fails : with_word s.good s.bad ≡ Err (causes.Name fault) = ap (λ l. with_word l s.bad) (sym s.all) ∙ s.fault in
    let there = s.place in
    record {
      before = codes "instances" ∷ s.good;
      from = s.bad ∷ s.rest;
      are = ap (λ l. codes "instances" ∷ l) s.are;
      word = s.word;
      at_word = omega arith;
      place = ap (λ x. x.place) s.at;
      goes_on = (codes "a" ∷ [], (lacks_if 32 (codes "a") refl, tt), named_1 known_names s.good s.bad s.rest formed read (codes "a") a_named);
      stops = stops_there known_names s.good s.bad s.rest formed read 1 (causes.Name fault) refl refl fails;
      may_stand = subst (MayStand (λ w. fault_of (instances_by w)) 1 known_names (codes "instances" ∷ s.good)) (sym (ap (λ x. x.want) s.at)) (may_name known_names s.good s.bad s.rest formed read s.given_names s.all);
    }
caret_at known known_names causes.Duplicate of words spot form s =
    let read : with_words [] s.good ≡ Ok s.good = s.read ∙ ap Ok s.all in
    let formed : list_all is_word (s.good ++ s.bad ∷ s.rest) ≡ true = ap (list_all is_word) (sym s.are) ∙ form in
    let fails : with_word s.good s.bad ≡ Err causes.Duplicate = ap (λ l. with_word l s.bad) (sym s.all) ∙ s.fault in
    let there = s.place in
    let some : 1 ≤ length s.good = by s.good s.bad (head_fault s.good s.bad causes.Duplicate (ap fault_of fails)) in
    record {
      before = codes "instances" ∷ s.good;
      from = s.bad ∷ s.rest;
      are = ap (λ l. codes "instances" ∷ l) s.are;
      word = s.word;
      at_word = omega arith;
      place = ap (λ x. x.place) s.at;
      goes_on = ([], tt, ap (λ l. is_past 3 (fault_of (instances_by (codes "instances" ∷ l)))) (append-nil s.good) ∙ alone_3 known_names s.good s.bad s.rest formed read some);
      stops = stops_there known_names s.good s.bad s.rest formed read 3 causes.Duplicate refl refl fails;
      may_stand = subst (MayStand (λ w. fault_of (instances_by w)) 3 known_names (codes "instances" ∷ s.good)) (sym (ap (λ x. x.want) s.at)) (may s.good s.bad s.rest formed read s.given_names s.all some);
    }
  where
    by : (good : List (List ℕ)) (bad : List ℕ) → IsHeadFault good bad causes.Duplicate → 1 ≤ length good
    by good bad (of_name wrong) = absurd (only_names bad causes.Duplicate wrong refl)
    by good bad (given is found same) = some_found bad good found
    by good bad (too_many is long same) = absurd cc

    may : (good : List (List ℕ)) (bad : List ℕ) (rest : List (List ℕ)) → list_all is_word (good ++ bad ∷ rest) ≡ true → with_words [] good ≡ Ok good → (g : List (List ℕ)) → g ≡ good → 1 ≤ length good
        → MayStand (λ w. fault_of (instances_by w)) 3 known_names (codes "instances" ∷ good) (want_at g)
    may good bad rest form read [] same some = absurd (omega (arith, some, ap length same))
    may good bad rest form read (x ∷ g) same some = λ name is new. ([], tt, named_3 known_names good bad rest form read name is (not_found good name new))
caret_at known known_names causes.Instances of words spot form s =
    let read : with_words [] s.good ≡ Ok s.good = s.read ∙ ap Ok s.all in
    let formed : list_all is_word (s.good ++ s.bad ∷ s.rest) ≡ true = ap (list_all is_word) (sym s.are) ∙ form in
    let fails : with_word s.good s.bad ≡ Err causes.Instances = ap (λ l. with_word l s.bad) (sym s.all) ∙ s.fault in
    let there = s.place in
    let long : eqb (length s.good) MAX_INSTANCES ≡ true = by s.good s.bad (head_fault s.good s.bad causes.Instances (ap fault_of fails)) in
    let count : length s.good ≡ MAX_INSTANCES = eqb-true (length s.good) MAX_INSTANCES long in
    let reads = alone_4 known_names s.good s.bad s.rest formed read (omega arith) in
    record {
      before = codes "instances" ∷ s.good;
      from = s.bad ∷ s.rest;
      are = ap (λ l. codes "instances" ∷ l) s.are;
      word = s.word;
      at_word = omega arith;
      place = ap (λ x. x.place) s.at;
      goes_on = ([], tt, ap (λ l. is_past 4 (fault_of (instances_by (codes "instances" ∷ l)))) (append-nil s.good) ∙ reads);
      stops = stops_there known_names s.good s.bad s.rest formed read 4 causes.Instances refl refl fails;
      may_stand = subst (MayStand (λ w. fault_of (instances_by w)) 4 known_names (codes "instances" ∷ s.good)) (sym (ap (λ x. x.want) s.at)) (may s.bad s.good s.given_names s.all (omega arith) reads);
    }
  where
    by : (good : List (List ℕ)) (bad : List ℕ) → IsHeadFault good bad causes.Instances → eqb (length good) MAX_INSTANCES ≡ true
    by good bad (of_name wrong) = absurd (only_names bad causes.Instances wrong refl)
    by good bad (given is found same) = absurd cc
    by good bad (too_many is long same) = long

    may : (bad : List ℕ) (good g : List (List ℕ)) → g ≡ good → 1 ≤ length good → is_past 4 (fault_of (instances_by (codes "instances" ∷ good))) ≡ true
        → MayStand (λ w. fault_of (instances_by w)) 4 known_names (codes "instances" ∷ good) (instead causes.Instances (want_at g) bad)
    may bad good [] same some reads = absurd (omega (arith, some, ap length same))
    may bad good (x ∷ g) same some reads = reads
caret_at known known_names _ of words spot form s = absurd (false≢true of)

-- ---- too few names

words_all : (names ws more : List (List ℕ)) → with_words names ws ≡ Ok more → more ≡ names ++ ws
unfolding with_words
words_all names [] more e = sym (ok_is names more e) ∙ sym (append-nil names)
words_all names (w ∷ ws) more e =
    let a = bind_ok (with_word names w) (λ m. with_words m ws) more e in
    words_all a.0 ws more a.2 ∙ ap (λ l. l ++ ws) (is_given names w a.0 a.1).more_is ∙ append_assoc names (w ∷ []) ws

few_spot : (known : List (List ℕ)) (w : List ℕ) → IsGiven [] w (w ∷ []) → is_word w ≡ true
    → spot_from causes.Instances known (codes "instances" ∷ w ∷ []) wants.Instances 0 0 (codes "instances" ∷ w ∷ []) ≡ record { place = (0 + (length (codes "instances") + 1)) + length w; want = wants.OtherName }
few_spot known w g is =
    spot_names known causes.Instances refl w []
    ∙ spot_ends causes.Instances known (codes "instances" ∷ w ∷ []) wants.FirstName wants.OtherName 1 (0 + (length (codes "instances") + 1)) w (w ∷ []) refl (right_is known (codes "instances") [] w [] (w ∷ []) causes.Instances refl g) (next_at [] w is)

few_caret : (known known_names : List (List ℕ)) (w : List ℕ) → with_words [] (w ∷ []) ≡ Ok (w ∷ []) → IsGiven [] w (w ∷ []) → is_word w ≡ true → fault_of (instances_by (codes "instances" ∷ w ∷ [])) ≡ Some causes.Instances
    → CaretOf known known_names causes.Instances (codes "instances" ∷ w ∷ [])
few_caret known known_names w read g is e =
    let f = fresh (w ∷ []) (omega arith) in
    subst (IsCaret (λ v. fault_of (instances_by v)) known_names causes.Instances (codes "instances" ∷ w ∷ [])) (sym (few_spot known w g is))
    (record {
      before = codes "instances" ∷ w ∷ [];
      from = [];
      are = refl;
      word = (length (codes "instances") + 1) + length w;
      at_word = omega arith;
      place = omega arith;
      goes_on = (f.name ∷ [], (name_has_no_space f.name f.named, tt), both f.name f.named f.new);
      stops = ap (is_past 4) e;
      may_stand = λ name its new. ([], tt, both name its (not_found (w ∷ []) name new));
    })
  where
    both : (x : List ℕ) → IsName x → list_any (bytes_eq x) (w ∷ []) ≡ false → is_past 4 (fault_of (instances_by (codes "instances" ∷ w ∷ x ∷ []))) ≡ true
    both x its new =
        ap (is_past 4) (one_more known_names (w ∷ []) w [] (and_from (is_word w) (is_word w && true) is (and_from (is_word w) true is refl)) read x its)
        ∙ ap (λ a. is_past 4 (given_fault known_names (w ∷ []) w [] (and_from (is_word w) (is_word w && true) is (and_from (is_word w) true is refl)) read a false x)) new

-- ---- any line

fault_err : {A : Type 0} (r : Result A Cause) (cause : Cause) → fault_of r ≡ Some cause → r ≡ Err cause
fault_err (Ok x) cause e = absurd cc
fault_err (Err c) cause e = ap Err (same_Some c cause e)

-- the names are read, and there is only one
only_one : (known known_names : List (List ℕ)) (ws all : List (List ℕ)) (cause : Cause) → with_words [] ws ≡ Ok all → several all ≡ Err cause → list_all is_word ws ≡ true → 1 ≤ length ws → fault_of (instances_by (codes "instances" ∷ ws)) ≡ Some cause
    → CaretOf known known_names cause (codes "instances" ∷ ws)
unfolding with_words
only_one known known_names ws all cause reads fails form some e = by (ltb (length all) 2) refl fails ws (words_all [] ws all reads) reads form some e
  where
    by : (b : Bool) → ltb (length all) 2 ≡ b → cond b (Err causes.Instances) (Ok all) ≡ Err cause → (ws : List (List ℕ)) → all ≡ ws → with_words [] ws ≡ Ok all → list_all is_word ws ≡ true → 1 ≤ length ws → fault_of (instances_by (codes "instances" ∷ ws)) ≡ Some cause
        → CaretOf known known_names cause (codes "instances" ∷ ws)
    by false few fails ws same reads form some e = absurd cc
    by true few fails [] same reads form some e = absurd (omega arith)
    by true few fails (w ∷ []) same reads form some e =
        let is : causes.Instances ≡ cause = cc in
        let a = bind_ok (with_word [] w) (λ m. with_words m []) all reads in
        let g : IsGiven [] w (w ∷ []) = subst (IsGiven [] w) ((is_given [] w a.0 a.1).more_is) (is_given [] w a.0 a.1) in
        subst (λ c. CaretOf known known_names c (codes "instances" ∷ w ∷ [])) is
        (few_caret known known_names w (reads ∙ ap Ok same) g (and_parts (is_word w) true form).0 (e ∙ ap Some (sym is)))
    by true few fails (w ∷ v ∷ ws) same reads form some e =
        let less = ltb-true (length all) 2 few in
        let long : length all ≡ length (w ∷ v ∷ ws) = ap length same in
        absurd (omega arith)

formed : (ws : List (List ℕ)) → are_words ws ≡ true → (1 ≤ length ws) × (list_all is_word ws ≡ true)
unfolding are_words
formed ws h =
    let two = and_parts (not (eqb (length ws) 0)) (list_all is_word ws) h in
    (some ws two.0, two.1)
  where
    some : (l : List (List ℕ)) → not (eqb (length l) 0) ≡ true → 1 ≤ length l
    some [] h = absurd (false≢true h)
    some (x ∷ xs) h = omega arith

first_words : (known known_names : List (List ℕ)) (cause : Cause) → is_of_first cause ≡ true → (words : List (List ℕ)) → fault_of (instances_by words) ≡ Some cause → CaretOf known known_names cause words
unfolding is_written written
first_words known known_names cause of [] e = absurd (no_form cause (first_form cause of) e)
first_words known known_names cause of (k ∷ ws) e = by (bytes_eq k (codes "instances") && are_words ws) refl e
  where
    there : (ws : List (List ℕ)) → list_all is_word ws ≡ true → 1 ≤ length ws → fault_of (instances_by (codes "instances" ∷ ws)) ≡ Some cause → (with_words [] ws ≡ Err cause) ⊎ ((all : List (List ℕ)) × (with_words [] ws ≡ Ok all) × (several all ≡ Err cause))
        → CaretOf known known_names cause (codes "instances" ∷ ws)
    there [] form some e h = absurd (omega arith)
    there (w ∷ ws) form some e (inl fails) =
        subst (IsCaret (λ v. fault_of (instances_by v)) known_names cause (codes "instances" ∷ w ∷ ws)) (sym (spot_names known cause of w ws))
        (caret_at known known_names cause of (w ∷ ws) (spot_from cause known (codes "instances" ∷ w ∷ ws) wants.FirstName 1 (0 + (length (codes "instances") + 1)) (w ∷ ws)) form
        (first_stop known (codes "instances") cause of [] (w ∷ ws) (codes "instances" ∷ w ∷ ws) 1 (0 + (length (codes "instances") + 1)) refl refl form fails))
    there (w ∷ ws) form some e (inr (all, reads, fails)) = only_one known known_names (w ∷ ws) all cause reads fails form some e

    by : (b : Bool) → (bytes_eq k (codes "instances") && are_words ws) ≡ b → fault_of (cond b (instances_of ws) (Err causes.Syntax)) ≡ Some cause → CaretOf known known_names cause (k ∷ ws)
    by false p f = absurd (no_form cause (first_form cause of) f)
    by true p f =
        let two = and_parts (bytes_eq k (codes "instances")) (are_words ws) p in
        let same : k ≡ codes "instances" = same_bytes k (codes "instances") two.0 in
        let its = formed ws two.1 in
        subst (λ w. CaretOf known known_names cause (w ∷ ws)) (sym same)
        (there ws its.1 its.0 (ap (λ w. fault_of (instances_by (w ∷ ws))) (sym same) ∙ e) (bind_err (with_words [] ws) several cause (fault_err (with_words [] ws >>= several) cause f)))

pub first_line_caret : (first : List ℕ) (names : List (List ℕ)) (line : List ℕ) (cause : Cause) → is_of_first cause ≡ true → fault_of (instances_by (words_of line)) ≡ Some cause
    → IsCaret (λ words. fault_of (instances_by words)) names cause (words_of line) (spot_of cause first line wants.Instances)
unfolding spot_of
first_line_caret first names line cause of e = first_words (words_of first) names cause of (words_of line) e
