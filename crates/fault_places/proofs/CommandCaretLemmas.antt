-- A command that is refused for another cause than its form: its caret, and what may be there.
use Rattle.std.proofs.Common.{◌≡◌, ◌≢◌, ℕ, zero, suc, ◌+◌, ◌<◌, ◌≤◌, Bool, true, false, cond, ◌||◌, ◌&&◌, eqb, List, [], ◌∷◌, ◌++◌, length, Ok, All, Contains, refl, sym, ap, ◌∙◌, subst, arith}
use Rattle.std.specs.Prelude.{Option, None, Some, codes, bytes_eq, min, unwrap_or}
use Rattle.std.specs.Cmp.Lexicographic.{bytes_decides}
use Rattle.std.specs.List.{join_with_byte}
use Rattle.std.proofs.lemmas.Bool.{false≢true, and_from}
use Rattle.std.proofs.lemmas.Option.{slice_get-get_or}
use Rattle.chart.specs.Keywords.{spelled, is_keyword, is_reserved}
use Rattle.chart.specs.Names.{IsName, name_of, instance_of}
use Rattle.chart.specs.NameSets.{AreNames}
use Rattle.chart.specs.declared.instance.TheConstants.{MAX_INSTANCES}
use Rattle.fault_places.proofs.CaretLemmas.{words_split, place_is}
use Rattle.fault_places.proofs.CommandCarets.{is_in_command, IsBad, IsStop, Finds, AreKnown, stop, finds_name, finds_unknown, finds_partner}
use Rattle.fault_places.proofs.CommandWalks.{name_fault, known_fault, same_fault, is_good, passes, IsTurn, line_past}
use Rattle.fault_places.proofs.CommandWalks.IsTurn.{first as turn_1, second as turn_2, third as turn_3}
use Rattle.fault_places.proofs.FormLemmas.{past_word, past_known, command_form}
use Rattle.fault_places.proofs.WalkLemmas.{IsPlaceFrom}
use Rattle.fault_places.specs.Carets.{fault_of, is_past, behind_word, has_form, IsPlace, GoesOn, Stops, MayStand, IsCaret, is_of_command}
use Rattle.fault_places.specs.Spots.{first_of, behind_first, is_among, inner, spot_from, spot_of}
use Rattle.fault_places.specs.Wants.{begins_command, next}
use Rattle.fault_places.specs.declared.spot.Spot.{Spot}
use Rattle.fault_places.specs.declared.want.Want.{Want}
use Rattle.fault_places.specs.declared.want.Want.TheVariants as wants
use Rattle.schedule.proofs.InstanceLine.{names_sound}
use Rattle.schedule.specs.ActionLines.{action_by}
use Rattle.schedule.specs.FirstLines.{names_of}
use Rattle.schedule.specs.Keywords.{written}
use Rattle.schedule.specs.ScheduleText.{instances_line}
use Rattle.texts.proofs.Lookups.{instance_is, instance_again, same_bytes}
use Rattle.texts.proofs.Parts.{lacks_if}
use Rattle.texts.proofs.Results.{name_again, name_some, name_has_no_space}
use Rattle.texts.proofs.Spacing.{plain_names, spaced_again}
use Rattle.texts.specs.Instances.{name_at, known, known_of}
use Rattle.texts.specs.Lines.{words_of}
use Rattle.texts.specs.declared.fault.Cause.{Cause}
use Rattle.texts.specs.declared.fault.Cause.TheVariants as causes

-- ---- names that pass

pub known_there : (names : List (List ℕ)) (name : List ℕ) → AreNames names → (there : Contains names name) → known_of names name ≡ Ok (suc there.0)
unfolding known_of
known_there names name are there =
    let k : ℕ = there.0 in
    let below : k < length names = there.1 in
    let is : name_at names (suc k) ≡ name = ap (λ o. unwrap_or o []) (slice_get-get_or names k name below) ∙ there.2 in
    ap known (ap (instance_of names) (sym is) ∙ instance_again names (suc k) are (omega arith) (omega arith))

name_passes : (n : ℕ) (name : List ℕ) → IsName name → is_past n (name_fault name) ≡ true
name_passes n name is = ap (λ r. is_past n (fault_of r)) (name_again name is)

known_passes : (n : ℕ) (names : List (List ℕ)) (name : List ℕ) → AreNames names → Contains names name → is_past n (known_fault names name) ≡ true
known_passes n names name are there = ap (λ r. is_past n (fault_of r)) (known_there names name are there)

other_passes : (n : ℕ) (actor name : List ℕ) → name ≢ actor → is_past n (same_fault actor name) ≡ true
other_passes n actor name h = by (bytes_eq name actor) refl
  where
    by : (b : Bool) → bytes_eq name actor ≡ b → is_past n (cond b (Some causes.ToItself) None) ≡ true
    by true e = absurd (h (same_bytes name actor e))
    by false e = refl

a_named : IsName (codes "a")
unfolding name_of is_reserved is_keyword spelled
a_named = refl

-- ---- lines that begin with them and pass

actor_line : (n : ℕ) (names before : List (List ℕ)) (name : List ℕ) → eqb (length name) 0 ≡ false → is_past n (name_fault name) ≡ true → is_past n (known_fault names name) ≡ true → passes n names before wants.Actor (name ∷ codes "any" ∷ []) ≡ true
unfolding next begins_command
actor_line n names before name e p q = and_from _ _ (and_from _ _ p q) (rw e refl)

partner_line : (n : ℕ) (names before : List (List ℕ)) (name : List ℕ) → eqb (length name) 0 ≡ false → is_past n (name_fault name) ≡ true → is_past n (known_fault names name) ≡ true → is_past n (same_fault (first_of before) name) ≡ true
    → passes n names before wants.Partner (name ∷ []) ≡ true
unfolding next
partner_line n names before name e p q r = and_from _ _ (and_from _ _ p (and_from _ _ q r)) (rw e refl)

message_line : (n : ℕ) (names before : List (List ℕ)) (name : List ℕ) → eqb (length name) 0 ≡ false → is_past n (name_fault name) ≡ true → passes n names before wants.Message (name ∷ []) ≡ true
unfolding next
message_line n names before name e p = and_from _ _ p (rw e refl)

send_line : (n : ℕ) (names before : List (List ℕ)) (name : List ℕ) → eqb (length name) 0 ≡ false → is_past n (name_fault name) ≡ true → is_past n (known_fault names name) ≡ true → is_past n (same_fault (first_of before) name) ≡ true
    → passes n names before wants.SendTo (name ∷ codes "a" ∷ []) ≡ true
unfolding next
send_line n names before name e p q r =
    let last : passes n names (before ++ name ∷ []) wants.Message (codes "a" ∷ []) ≡ true = message_line n names (before ++ name ∷ []) (codes "a") refl (name_passes n (codes "a") a_named) in
    and_from _ _ (and_from _ _ p (and_from _ _ q r)) (rw e last)

may_stand : (read : List (List ℕ) → Option Cause) (n : ℕ) (names before : List (List ℕ)) (want : Want) (word : List ℕ) → AreNames names → ((more : List (List ℕ)) → is_past n (read (before ++ more)) ≡ passes n names before want more) → is_in_command want ≡ true
    → is_good n names before want word ≡ false → MayStand read n names before want
may_stand read n names before wants.Actor word are l k bad =
    λ name is there. (codes "any" ∷ [], (lacks_if 32 (codes "any") refl, tt), l (name ∷ codes "any" ∷ []) ∙ actor_line n names before name (name_some name is) (name_passes n name is) (known_passes n names name are there))
may_stand read n names before wants.SendTo word are l k bad =
    λ name is there other. (codes "a" ∷ [], (lacks_if 32 (codes "a") refl, tt), l (name ∷ codes "a" ∷ []) ∙ send_line n names before name (name_some name is) (name_passes n name is) (known_passes n names name are there) (other_passes n (first_of before) name other))
may_stand read n names before wants.Partner word are l k bad =
    λ name is there other. ([], tt, l (name ∷ []) ∙ partner_line n names before name (name_some name is) (name_passes n name is) (known_passes n names name are there) (other_passes n (first_of before) name other))
may_stand read n names before wants.Message word are l k bad = λ name is. ([], tt, l (name ∷ []) ∙ message_line n names before name (name_some name is) (name_passes n name is))
may_stand read n names before wants.Action word are l k bad = absurd (false≢true (sym bad))
may_stand read n names before wants.LineEnd word are l k bad = absurd (false≢true (sym bad))
may_stand read n names before _ word are l k bad = absurd (false≢true k)

-- ---- there is another instance

first_name : (names : List (List ℕ)) → 2 ≤ length names → All IsName names → (name : List ℕ) × IsName name × Contains names name
first_name [] some named = absurd (omega arith)
first_name (x ∷ xs) some named = (x, named 0 x (omega arith), (0, omega arith, refl))

pub other_name : (names : List (List ℕ)) (actor : List ℕ) → 2 ≤ length names → AreNames names → All IsName names → (name : List ℕ) × IsName name × Contains names name × (name ≢ actor)
other_name [] actor some are named = absurd (omega arith)
other_name (x ∷ []) actor some are named = absurd (omega arith)
other_name (x ∷ y ∷ xs) actor some are named = by (bytes_eq x actor) refl
  where
    by : (b : Bool) → bytes_eq x actor ≡ b → (name : List ℕ) × IsName name × Contains (x ∷ y ∷ xs) name × (name ≢ actor)
    by false e = (x, named 0 x (omega arith), (0, omega arith, refl), λ same. false≢true (sym e ∙ (bytes_decides x actor).1 same))
    by true e = (y, named 1 y (omega arith), (1, omega arith, refl), λ same. (let one = are.distinct 0 1 x refl (ap Some (same ∙ sym (same_bytes x actor e))) in omega arith))

goes_on : (read : List (List ℕ) → Option Cause) (n : ℕ) (names before : List (List ℕ)) (want : Want) (word : List ℕ) → 2 ≤ length names → AreNames names → All IsName names
    → ((more : List (List ℕ)) → is_past n (read (before ++ more)) ≡ passes n names before want more) → is_in_command want ≡ true → is_good n names before want word ≡ false → GoesOn read n before
goes_on read n names before wants.Actor word some are named l k bad =
    let x = first_name names some named in
    (x.0 ∷ codes "any" ∷ [], (name_has_no_space x.0 x.1, (lacks_if 32 (codes "any") refl, tt)), l (x.0 ∷ codes "any" ∷ []) ∙ actor_line n names before x.0 (name_some x.0 x.1) (name_passes n x.0 x.1) (known_passes n names x.0 are x.2))
goes_on read n names before wants.SendTo word some are named l k bad =
    let x = other_name names (first_of before) some are named in (
      x.0 ∷ codes "a" ∷ [],
      (name_has_no_space x.0 x.1, (lacks_if 32 (codes "a") refl, tt)),
      l (x.0 ∷ codes "a" ∷ []) ∙ send_line n names before x.0 (name_some x.0 x.1) (name_passes n x.0 x.1) (known_passes n names x.0 are x.2) (other_passes n (first_of before) x.0 x.3),
    )
goes_on read n names before wants.Partner word some are named l k bad =
    let x = other_name names (first_of before) some are named in (
      x.0 ∷ [],
      (name_has_no_space x.0 x.1, tt),
      l (x.0 ∷ []) ∙ partner_line n names before x.0 (name_some x.0 x.1) (name_passes n x.0 x.1) (known_passes n names x.0 are x.2) (other_passes n (first_of before) x.0 x.3),
    )
goes_on read n names before wants.Message word some are named l k bad =
    (codes "a" ∷ [], (lacks_if 32 (codes "a") refl, tt), l (codes "a" ∷ []) ∙ message_line n names before (codes "a") refl (name_passes n (codes "a") a_named))
goes_on read n names before wants.Action word some are named l k bad = absurd (false≢true (sym bad))
goes_on read n names before wants.LineEnd word some are named l k bad = absurd (false≢true (sym bad))
goes_on read n names before _ word some are named l k bad = absurd (false≢true k)

-- ---- the names of the first line

line_words : (names : List (List ℕ)) → 2 ≤ length names → All IsName names → behind_first (words_of (instances_line names)) ≡ names
unfolding written
line_words [] some named = absurd (omega arith)
line_words (x ∷ xs) some named = ap behind_first (words_split (codes "instances") (join_with_byte 32 (x ∷ xs)) (lacks_if 32 (codes "instances") refl)) ∙ spaced_again x xs (plain_names (x ∷ xs) named)

or_true : (b : Bool) → (b || true) ≡ true
or_true true = refl
or_true false = refl

among_found : (word : List ℕ) (n : ℕ) (names : List (List ℕ)) → is_among word n names ≡ true → Contains names word
among_found word zero names e = absurd (false≢true e)
among_found word (suc n) [] e = absurd (false≢true e)
among_found word (suc n) (other ∷ names) e = by (bytes_eq word other) refl (λ h. among_found word n names h)
  where
    by : (b : Bool) → bytes_eq word other ≡ b → (is_among word n names ≡ true → Contains names word) → Contains (other ∷ names) word
    by true h go = (0, omega arith, sym (same_bytes word other h))
    by false h go = let there = go (sym (ap (λ b. b || is_among word n names) h) ∙ e) in let inside : there.0 < length names = there.1 in (suc there.0, omega arith, there.2)

among_at : (word : List ℕ) (n : ℕ) (names : List (List ℕ)) (i : ℕ) → i < length names → i < n → name_at names (suc i) ≡ word → is_among word n names ≡ true
among_at word n [] i below few is = absurd (omega arith)
among_at word zero (other ∷ names) i below few is = absurd (omega arith)
among_at word (suc n) (other ∷ names) zero below few is = ap (λ b. b || is_among word n names) ((bytes_decides word other).1 (sym is))
among_at word (suc n) (other ∷ names) (suc i) below few is = ap (λ b. bytes_eq word other || b) (among_at word n names i (omega arith) (omega arith) is) ∙ or_true (bytes_eq word other)

missing_word : (names : List (List ℕ)) (word : List ℕ) → length names ≤ MAX_INSTANCES → is_among word MAX_INSTANCES names ≡ false → is_past 2 (known_fault names word) ≡ false
unfolding known_of
missing_word names word limit e = by (instance_of names word) refl
  where
    at : (p : ℕ) → 1 ≤ p → p ≤ length names → name_at names p ≡ word → ⊥
    at zero low high is = omega arith
    at (suc i) low high is = false≢true (sym e ∙ among_at word MAX_INSTANCES names i (omega arith) (omega arith) is)

    by : (o : Option ℕ) → instance_of names word ≡ o → is_past 2 (fault_of (known o)) ≡ false
    by None h = refl
    by (Some p) h = let is = instance_is names word p h in absurd (at p is.first is.last is.has)

are_known : (names known_words : List (List ℕ)) → AreNames names → behind_first known_words ≡ names → AreKnown names known_words
are_known names known_words are behind = record {
  there = λ word e. known_passes 2 names word are (among_found word MAX_INSTANCES names (sym (ap (is_among word MAX_INSTANCES) behind) ∙ e));
  missing = λ word e. missing_word names word are.limit (sym (ap (is_among word MAX_INSTANCES) behind) ∙ e);
}

-- ---- the caret

-- what the caret of a fault promises, by the number of its turn
record IsCaretOf (read : List (List ℕ) → Option Cause) (known_names : List (List ℕ)) (n : ℕ) (cause : Cause) (words : List (List ℕ)) (spot : Spot) : Type 0 where
  before : List (List ℕ)
  from : List (List ℕ)
  are : words ≡ before ++ from
  word : ℕ
  at_word : IsPlace word before from
  place : spot.place ≡ word + min (inner cause) (length (first_of from))
  goes : GoesOn read n before
  stops : Stops read n before from
  stands : MayStand read n known_names before spot.want

caret_of : {n : ℕ} → IsTurn n → (low : ℕ) (first : List ℕ) (names : List (List ℕ)) (line : List ℕ) (cause : Cause) → names_of first ≡ Ok names → Finds n low names (words_of first) (words_of line) cause → passes low names [] wants.Actor (words_of line) ≡ true
    → passes n names [] wants.Actor (words_of line) ≡ false → IsCaretOf (λ words. fault_of (action_by names words)) names n cause (words_of line) (spot_of cause first line wants.Actor)
unfolding spot_of
caret_of {n} t low first names line cause h finds lower bad =
    let s = names_sound first names h in
    let f = stop n low names [] (words_of first) (words_of line) cause wants.Actor 0 0 (words_of line) finds refl lower bad in
    by f f.from refl s.several s.are s.named
  where
    by : (f : IsStop n names [] wants.Actor 0 (words_of line) cause (spot_from cause (words_of first) (words_of line) wants.Actor 0 0 (words_of line))) (from : List (List ℕ)) → f.from ≡ from → 2 ≤ length names → AreNames names → All IsName names → IsCaretOf (λ words. fault_of (action_by names words)) names n cause (words_of line) (spot_from cause (words_of first) (words_of line) wants.Actor 0 0 (words_of line))
    by f [] is some are named = absurd (subst (IsBad n names f.before (spot_from cause (words_of first) (words_of line) wants.Actor 0 0 (words_of line)).want) is f.bad)
    by f (word ∷ words) is some are named =
        let leads : (more : List (List ℕ)) → is_past n (fault_of (action_by names (f.before ++ more))) ≡ passes n names f.before (spot_from cause (words_of first) (words_of line) wants.Actor 0 0 (words_of line)).want more = λ more. line_past t names (f.before ++ more) ∙ f.leads more in
        let wrong : is_good n names f.before (spot_from cause (words_of first) (words_of line) wants.Actor 0 0 (words_of line)).want word ≡ false = subst (IsBad n names f.before (spot_from cause (words_of first) (words_of line) wants.Actor 0 0 (words_of line)).want) is f.bad in
        record {
          before = f.before;
          from = word ∷ words;
          are = f.are ∙ ap (λ l. f.before ++ l) is;
          word = f.word;
          at_word = place_is f.word f.before (word ∷ words) (subst (IsPlaceFrom 0 f.word f.before) is f.place);
          place = f.at ∙ ap (λ l. f.word + min (inner cause) (length (first_of l))) is;
          goes = goes_on (λ words. fault_of (action_by names words)) n names f.before (spot_from cause (words_of first) (words_of line) wants.Actor 0 0 (words_of line)).want word some are named leads f.kind wrong;
          stops = λ more. leads (word ∷ more) ∙ ap (λ b. b && behind_word (next (spot_from cause (words_of first) (words_of line) wants.Actor 0 0 (words_of line)).want word) (λ behind. passes n names (f.before ++ word ∷ []) behind more)) wrong;
          stands = may_stand (λ words. fault_of (action_by names words)) n names f.before (spot_from cause (words_of first) (words_of line) wants.Actor 0 0 (words_of line)).want word are leads f.kind wrong;
        }

past_same : (a b : List ℕ) → is_past 0 (same_fault a b) ≡ true
past_same a b = by (bytes_eq b a)
  where
    by : (x : Bool) → is_past 0 (cond x (Some causes.ToItself) None) ≡ true
    by true = refl
    by false = refl

-- each word passes the first turn, if the form is right
good_zero : (names front : List (List ℕ)) (want : Want) (word : List ℕ) → is_good 0 names front want word ≡ true
good_zero names front wants.Actor word = and_from _ _ (past_word word) (past_known names word)
good_zero names front wants.SendTo word = and_from _ _ (past_word word) (and_from _ _ (past_known names word) (past_same (first_of front) word))
good_zero names front wants.Partner word = and_from _ _ (past_word word) (and_from _ _ (past_known names word) (past_same (first_of front) word))
good_zero names front wants.Message word = past_word word
good_zero names front _ word = refl

passes_zero : (names front : List (List ℕ)) (want : Want) (words : List (List ℕ)) → has_form want words ≡ true → passes 0 names front want words ≡ true
passes_zero names front want [] h = h
passes_zero names front want (word ∷ words) h = and_from _ _ (good_zero names front want word) (by (next want word) h (λ after k. passes_zero names (front ++ word ∷ []) after words k))
  where
    by : (o : Option Want) → behind_word o (λ behind. has_form behind words) ≡ true → ((after : Want) → has_form after words ≡ true → passes 0 names (front ++ word ∷ []) after words ≡ true) → behind_word o (λ behind. passes 0 names (front ++ word ∷ []) behind words) ≡ true
    by None h go = absurd (false≢true h)
    by (Some after) h go = go after h

pub command_caret : (first : List ℕ) (names : List (List ℕ)) (line : List ℕ) (cause : Cause) → names_of first ≡ Ok names → is_of_command cause ≡ true → fault_of (action_by names (words_of line)) ≡ Some cause
    → IsCaret (λ words. fault_of (action_by names words)) names cause (words_of line) (spot_of cause first line wants.Actor)
command_caret first names line (causes.Name fault) h of e =
    let form : has_form wants.Actor (words_of line) ≡ true = sym (command_form names (words_of line)) ∙ ap (is_past 0) e in
    let c = caret_of turn_1 0 first names line (causes.Name fault) h (finds_name names (words_of first) (words_of line) fault) (passes_zero names [] wants.Actor (words_of line) form) (sym (line_past turn_1 names (words_of line)) ∙ ap (is_past 1) e) in
    record { before = c.before; from = c.from; are = c.are; word = c.word; at_word = c.at_word; place = c.place; goes_on = c.goes; stops = c.stops; may_stand = c.stands }
command_caret first names line causes.UnknownInstance h of e =
    let s = names_sound first names h in
    let behind : behind_first (words_of first) ≡ names = ap (λ l. behind_first (words_of l)) s.is ∙ line_words names s.several s.named in
    let c = caret_of turn_2 1 first names line causes.UnknownInstance h (finds_unknown names (words_of first) (words_of line) (are_known names (words_of first) s.are behind)) (sym (line_past turn_1 names (words_of line)) ∙ ap (is_past 1) e) (sym (line_past turn_2 names (words_of line)) ∙ ap (is_past 2) e) in
    record { before = c.before; from = c.from; are = c.are; word = c.word; at_word = c.at_word; place = c.place; goes_on = c.goes; stops = c.stops; may_stand = c.stands }
command_caret first names line causes.ToItself h of e =
    let c = caret_of turn_3 2 first names line causes.ToItself h (finds_partner names (words_of first) (words_of line)) (sym (line_past turn_2 names (words_of line)) ∙ ap (is_past 2) e) (sym (line_past turn_3 names (words_of line)) ∙ ap (is_past 3) e) in
    record { before = c.before; from = c.from; are = c.are; word = c.word; at_word = c.at_word; place = c.place; goes_on = c.goes; stops = c.stops; may_stand = c.stands }
command_caret first names line _ h of e = absurd (false≢true of)
