-- The form of a schedule's line, as its readers check it.
use Rattle.std.proofs.Common.{◌≡◌, ℕ, Bool, true, false, cond, not, ◌||◌, ◌&&◌, eqb, ltb, List, [], ◌∷◌, ◌++◌, length, Result, Ok, Err, refl, sym, ap, ◌∙◌, subst, arith}
use Rattle.std.specs.Prelude.{Option, None, Some, codes, bytes_eq}
use Rattle.std.specs.List.{list_all, list_any}
use Rattle.std.proofs.lemmas.Bool.{ne_eqb}
use Rattle.chart.specs.Keywords.{spelled}
use Rattle.chart.specs.Names.{name_of, instance_of}
use Rattle.chart.specs.declared.instance.TheConstants.{MAX_INSTANCES}
use Rattle.chart.specs.declared.name.NameError.{NameError}
use Rattle.fault_places.specs.Carets.{fault_of, schedule_fault, schedule_want, is_past, is_end, behind_word, has_form}
use Rattle.fault_places.specs.Wants.{on, begins_command, chart_next, next}
use Rattle.fault_places.specs.declared.want.Want.TheVariants as wants
use Rattle.schedule.specs.ActionLines.{ActorAction, pair_of, partners_of, send_of, receive_of, close_of, alone_of, by_two, by_three, action_by}
use Rattle.schedule.specs.FirstLines.{are_words, with_word, with_words, several, instances_of, instances_by, is_number, slots, slots_of, number_from, capacity_by}
use Rattle.schedule.specs.Keywords.{written, is_written}
use Rattle.schedule.specs.declared.command.Action.{Action}
use Rattle.schedule.specs.declared.command.Action.TheVariants.{Send, Receive, Any, Close, Open, Shut}
use Rattle.texts.proofs.Lookups.{same_bytes}
use Rattle.texts.specs.Faults.{◌>>=◌}
use Rattle.texts.specs.Instances.{with_name, known, known_of}
use Rattle.texts.specs.Lines.{named, name_or_cause, is_word}
use Rattle.texts.specs.declared.fault.Cause.{Cause}
use Rattle.texts.specs.declared.fault.Cause.TheVariants as causes

-- ---- lines that aren't refused for their form

pub past_bind : {A B : Type 0} (r : Result A Cause) (f : A → Result B Cause) → is_past 0 (fault_of r) ≡ true → ((x : A) → is_past 0 (fault_of (f x)) ≡ true) → is_past 0 (fault_of (r >>= f)) ≡ true
past_bind (Ok x) f h g = g x
past_bind (Err cause) f h g = h

pub past_choice : {A : Type 0} (b : Bool) (cause : Cause) (x : A) → is_past 0 (Some cause) ≡ true → is_past 0 (fault_of (cond b (Err cause) (Ok x))) ≡ true
past_choice true cause x h = h
past_choice false cause x h = refl

past_named : (r : Result (List ℕ) NameError) → is_past 0 (fault_of (named r)) ≡ true
past_named (Ok name) = refl
past_named (Err fault) = refl

pub past_word : (word : List ℕ) → is_past 0 (fault_of (name_or_cause word)) ≡ true
past_word word = past_named (name_of word)

pub past_known : (names : List (List ℕ)) (name : List ℕ) → is_past 0 (fault_of (known_of names name)) ≡ true
unfolding known_of
past_known names name = by (instance_of names name)
  where
    by : (o : Option ℕ) → is_past 0 (fault_of (known o)) ≡ true
    by None = refl
    by (Some p) = refl

past_pair : (names : List (List ℕ)) (a b : List ℕ) → is_past 0 (fault_of (pair_of names a b)) ≡ true
unfolding pair_of
past_pair names a b =
    past_bind {B = ℕ × ℕ} (known_of names a) (λ by. known_of names b >>= λ to. cond (eqb by to) (Err causes.ToItself) (Ok (by, to))) (past_known names a)
    (λ p. past_bind {B = ℕ × ℕ} (known_of names b) (λ to. cond (eqb p to) (Err causes.ToItself) (Ok (p, to))) (past_known names b) (λ q. past_choice {A = ℕ × ℕ} (eqb p q) causes.ToItself (p, q) refl))

past_partners : (names : List (List ℕ)) (a b : List ℕ) → is_past 0 (fault_of (partners_of names a b)) ≡ true
unfolding partners_of
past_partners names a b =
    past_bind {B = ℕ × ℕ} (name_or_cause a) (λ actor. name_or_cause b >>= λ partner. pair_of names actor partner) (past_word a)
    (λ x. past_bind {B = ℕ × ℕ} (name_or_cause b) (λ partner. pair_of names x partner) (past_word b) (λ y. past_pair names x y))

past_send : (names : List (List ℕ)) (a b m : List ℕ) → is_past 0 (fault_of (send_of names a b m)) ≡ true
unfolding send_of
past_send names a b m =
    past_bind {B = ActorAction} (name_or_cause a) (λ actor. name_or_cause b >>= λ partner. name_or_cause m >>= λ name. pair_of names actor partner >>= λ pair. Ok (pair.0, Send pair.1 name)) (past_word a)
    (λ x. past_bind {B = ActorAction} (name_or_cause b) (λ partner. name_or_cause m >>= λ name. pair_of names x partner >>= λ pair. Ok (pair.0, Send pair.1 name)) (past_word b)
    (λ y. past_bind {B = ActorAction} (name_or_cause m) (λ name. pair_of names x y >>= λ pair. Ok (pair.0, Send pair.1 name)) (past_word m)
    (λ z. past_bind {B = ActorAction} (pair_of names x y) (λ pair. Ok (pair.0, Send pair.1 z)) (past_pair names x y) (λ pair. refl))))

past_receive : (names : List (List ℕ)) (a b : List ℕ) → is_past 0 (fault_of (receive_of names a b)) ≡ true
unfolding receive_of
past_receive names a b = past_bind {B = ActorAction} (partners_of names a b) (λ pair. Ok (pair.0, Receive pair.1)) (past_partners names a b) (λ pair. refl)

past_close : (names : List (List ℕ)) (a b : List ℕ) → is_past 0 (fault_of (close_of names a b)) ≡ true
unfolding close_of
past_close names a b = past_bind {B = ActorAction} (partners_of names a b) (λ pair. Ok (pair.0, Close pair.1)) (past_partners names a b) (λ pair. refl)

past_alone : (names : List (List ℕ)) (a : List ℕ) (action : Action) → is_past 0 (fault_of (alone_of names a action)) ≡ true
unfolding alone_of
past_alone names a action =
    past_bind {B = ActorAction} (name_or_cause a) (λ actor. known_of names actor >>= λ by. Ok (by, action)) (past_word a)
    (λ x. past_bind {B = ActorAction} (known_of names x) (λ by. Ok (by, action)) (past_known names x) (λ p. refl))

pub past_new : (names : List (List ℕ)) (name : List ℕ) → is_past 0 (fault_of (with_name names name)) ≡ true
past_new names name = by (list_any (bytes_eq name) names) (eqb (length names) MAX_INSTANCES)
  where
    by : (x y : Bool) → is_past 0 (fault_of (cond x (Err causes.Duplicate) (cond y (Err causes.Instances) (Ok (names ++ name ∷ []))))) ≡ true
    by true y = refl
    by false true = refl
    by false false = refl

past_words : (names words : List (List ℕ)) → is_past 0 (fault_of (with_words names words)) ≡ true
unfolding with_words with_word
past_words names [] = refl
past_words names (word ∷ words) =
    past_bind {B = List (List ℕ)} (with_word names word) (λ more. with_words more words)
    (past_bind {B = List (List ℕ)} (name_or_cause word) (with_name names) (past_word word) (λ name. past_new names name))
    (λ more. past_words more words)

past_instances : (words : List (List ℕ)) → is_past 0 (fault_of (instances_of words)) ≡ true
past_instances words = past_bind {B = List (List ℕ)} (with_words [] words) several (past_words [] words) (λ names. past_choice (ltb (length names) 2) causes.Instances names refl)

past_slots : (n : ℕ) → is_past 0 (fault_of (slots n)) ≡ true
past_slots n = by _
  where
    by : (b : Bool) → is_past 0 (fault_of (cond b (Ok n) (Err causes.Capacity))) ≡ true
    by true = refl
    by false = refl

past_digits : (digits : List ℕ) → is_past 0 (fault_of (slots_of digits)) ≡ true
unfolding slots_of
past_digits digits = past_slots (number_from 0 digits)

-- ---- line 1

other_names : (words : List (List ℕ)) → has_form wants.OtherName words ≡ list_all is_word words
unfolding next
other_names [] = refl
other_names (word ∷ words) = by (is_word word) (other_names words)
  where
    by : (b : Bool) → has_form wants.OtherName words ≡ list_all is_word words → behind_word (on b wants.OtherName) (λ behind. has_form behind words) ≡ (b && list_all is_word words)
    by true e = e
    by false e = refl

all_names : (words : List (List ℕ)) → has_form wants.FirstName words ≡ are_words words
unfolding next are_words
all_names [] = refl
all_names (word ∷ words) = by (is_word word) (other_names words) ∙ ap (λ b. not b && list_all is_word (word ∷ words)) (sym (ne_eqb (length (word ∷ words)) 0 (λ none. omega arith)))
  where
    by : (b : Bool) → has_form wants.OtherName words ≡ list_all is_word words → behind_word (on b wants.OtherName) (λ behind. has_form behind words) ≡ (b && list_all is_word words)
    by true e = e
    by false e = refl

instances_form : (words : List (List ℕ)) → is_past 0 (fault_of (instances_by words)) ≡ has_form wants.Instances words
unfolding is_written written next
instances_form [] = refl
instances_form (keyword ∷ words) = by (bytes_eq keyword (codes "instances")) (are_words words) (sym (all_names words))
  where
    by : (x y : Bool) → y ≡ has_form wants.FirstName words → is_past 0 (fault_of (cond (x && y) (instances_of words) (Err causes.Syntax))) ≡ behind_word (on x wants.FirstName) (λ behind. has_form behind words)
    by true true e = past_instances words ∙ e
    by true false e = e
    by false y e = refl

-- ---- line 2

capacity_form : (words : List (List ℕ)) → is_past 0 (fault_of (capacity_by words)) ≡ has_form wants.Capacity words
unfolding is_written written next chart_next
capacity_form [] = refl
capacity_form (keyword ∷ []) = by (bytes_eq keyword (codes "capacity"))
  where
    by : (x : Bool) → false ≡ behind_word (on x wants.Slots) (λ behind. is_end behind)
    by true = refl
    by false = refl
capacity_form (keyword ∷ digits ∷ []) = by (bytes_eq keyword (codes "capacity")) (is_number digits) refl
  where
    by : (x y : Bool) → is_number digits ≡ y → is_past 0 (fault_of (cond (x && y) (slots_of digits) (Err causes.Syntax))) ≡ behind_word (on x wants.Slots) (λ behind. behind_word (next behind digits) (λ last. is_end last))
    by true true e = rw e (past_digits digits)
    by true false e = rw e refl
    by false y e = refl
capacity_form (keyword ∷ digits ∷ word ∷ words) = by (bytes_eq keyword (codes "capacity")) (is_number digits) refl
  where
    by : (x y : Bool) → is_number digits ≡ y → false ≡ behind_word (on x wants.Slots) (λ behind. behind_word (next behind digits) (λ last. behind_word (next last word) (λ more. has_form more words)))
    by true true e = rw e refl
    by true false e = rw e refl
    by false y e = refl

-- ---- commands

-- the action of an instance, by its word
pub data IsVerb : List ℕ → Type 0 where
  sends : IsVerb (codes "send")
  receives : IsVerb (codes "receive")
  closes : IsVerb (codes "close")
  takes : IsVerb (codes "any")
  opens : IsVerb (codes "concurrent")
  shuts : IsVerb (codes "endconcurrent")
  other : {word : List ℕ} → bytes_eq word (codes "send") ≡ false → bytes_eq word (codes "receive") ≡ false → bytes_eq word (codes "close") ≡ false → bytes_eq word (codes "any") ≡ false → bytes_eq word (codes "concurrent") ≡ false
      → bytes_eq word (codes "endconcurrent") ≡ false → IsVerb word

spelled_so : (word known_word : List ℕ) (b : Bool) → bytes_eq word known_word ≡ b → IsVerb known_word → (bytes_eq word known_word ≡ false → IsVerb word) → IsVerb word
spelled_so word known_word true e verb go = subst IsVerb (sym (same_bytes word known_word e)) verb
spelled_so word known_word false e verb go = go e

pub verb : (word : List ℕ) → IsVerb word
verb word =
    spelled_so word (codes "send") _ refl sends (λ a.
    spelled_so word (codes "receive") _ refl receives (λ b.
    spelled_so word (codes "close") _ refl closes (λ c.
    spelled_so word (codes "any") _ refl takes (λ d.
    spelled_so word (codes "concurrent") _ refl opens (λ e.
    spelled_so word (codes "endconcurrent") _ refl shuts (λ f.
    other a b c d e f))))))

two_words : (names : List (List ℕ)) (a : List ℕ) {k : List ℕ} → IsVerb k → is_past 0 (fault_of (by_two names a k)) ≡ behind_word (begins_command k) (λ last. is_end last)
unfolding by_two is_written written spelled begins_command
two_words names a sends = refl
two_words names a receives = refl
two_words names a closes = refl
two_words names a takes = past_alone names a Any
two_words names a opens = past_alone names a Open
two_words names a shuts = past_alone names a Shut
two_words names a (other p q r s t u) = rw (p, q, r, s, t, u) refl

-- the form of three words, after the first one
abbrev form_three : List ℕ → List ℕ → Bool
form_three k b = behind_word (begins_command k) (λ w. behind_word (next w b) (λ last. is_end last))

three_words : (names : List (List ℕ)) (a b : List ℕ) {k : List ℕ} → eqb (length b) 0 ≡ false → IsVerb k → is_past 0 (fault_of (by_three names a k b)) ≡ form_three k b
unfolding by_three is_written written spelled begins_command next chart_next
three_words names a b e sends = rw e refl
three_words names a b e receives = rw e (past_receive names a b)
three_words names a b e closes = rw e (past_close names a b)
three_words names a b e takes = refl
three_words names a b e opens = refl
three_words names a b e shuts = refl
three_words names a b e (other p q r s t u) = rw (p, q, r, s, t, u) refl

three_empty : (b : List ℕ) {k : List ℕ} → eqb (length b) 0 ≡ true → IsVerb k → false ≡ form_three k b
unfolding begins_command next chart_next
three_empty b e sends = rw e refl
three_empty b e receives = rw e refl
three_empty b e closes = rw e refl
three_empty b e takes = refl
three_empty b e opens = refl
three_empty b e shuts = refl
three_empty b e (other p q r s t u) = rw (p, q, r, s, t, u) refl

abbrev form_four : List ℕ → List ℕ → List ℕ → Bool
form_four k b m = behind_word (begins_command k) (λ w. behind_word (next w b) (λ v. behind_word (next v m) (λ last. is_end last)))

four_words : (names : List (List ℕ)) (a b m : List ℕ) {k : List ℕ} → eqb (length b) 0 ≡ false → eqb (length m) 0 ≡ false → IsVerb k
    → is_past 0 (fault_of (cond (not (bytes_eq k (codes "send"))) (Err causes.Syntax) (send_of names a b m))) ≡ form_four k b m
unfolding begins_command next chart_next
four_words names a b m e f sends = rw (e, f) (past_send names a b m)
four_words names a b m e f receives = rw e refl
four_words names a b m e f closes = rw e refl
four_words names a b m e f takes = refl
four_words names a b m e f opens = refl
four_words names a b m e f shuts = refl
four_words names a b m e f (other p q r s t u) = rw (p, q, r, s, t, u) refl

four_no_partner : (b m : List ℕ) {k : List ℕ} → eqb (length b) 0 ≡ true → IsVerb k → false ≡ form_four k b m
unfolding begins_command next chart_next
four_no_partner b m e sends = rw e refl
four_no_partner b m e receives = rw e refl
four_no_partner b m e closes = rw e refl
four_no_partner b m e takes = refl
four_no_partner b m e opens = refl
four_no_partner b m e shuts = refl
four_no_partner b m e (other p q r s t u) = rw (p, q, r, s, t, u) refl

four_no_message : (b m : List ℕ) {k : List ℕ} → eqb (length b) 0 ≡ false → eqb (length m) 0 ≡ true → IsVerb k → false ≡ form_four k b m
unfolding begins_command next chart_next
four_no_message b m e f sends = rw (e, f) refl
four_no_message b m e f receives = rw e refl
four_no_message b m e f closes = rw e refl
four_no_message b m e f takes = refl
four_no_message b m e f opens = refl
four_no_message b m e f shuts = refl
four_no_message b m e f (other p q r s t u) = rw (p, q, r, s, t, u) refl

abbrev form_more : List ℕ → List ℕ → List ℕ → List ℕ → List (List ℕ) → Bool
form_more k b m z words = behind_word (begins_command k) (λ w. behind_word (next w b) (λ v. behind_word (next v m) (λ u. behind_word (next u z) (λ t. has_form t words))))

more_words : (b m z : List ℕ) (words : List (List ℕ)) {k : List ℕ} (x y : Bool) → eqb (length b) 0 ≡ x → eqb (length m) 0 ≡ y → IsVerb k → false ≡ form_more k b m z words
unfolding begins_command next chart_next
more_words b m z words true y e f sends = rw e refl
more_words b m z words true y e f receives = rw e refl
more_words b m z words true y e f closes = rw e refl
more_words b m z words true y e f takes = refl
more_words b m z words true y e f opens = refl
more_words b m z words true y e f shuts = refl
more_words b m z words true y e f (other p q r s t u) = rw (p, q, r, s, t, u) refl
more_words b m z words false true e f sends = rw (e, f) refl
more_words b m z words false true e f receives = rw e refl
more_words b m z words false true e f closes = rw e refl
more_words b m z words false true e f takes = refl
more_words b m z words false true e f opens = refl
more_words b m z words false true e f shuts = refl
more_words b m z words false true e f (other p q r s t u) = rw (p, q, r, s, t, u) refl
more_words b m z words false false e f sends = rw (e, f) refl
more_words b m z words false false e f receives = rw e refl
more_words b m z words false false e f closes = rw e refl
more_words b m z words false false e f takes = refl
more_words b m z words false false e f opens = refl
more_words b m z words false false e f shuts = refl
more_words b m z words false false e f (other p q r s t u) = rw (p, q, r, s, t, u) refl

pub command_form : (names words : List (List ℕ)) → is_past 0 (fault_of (action_by names words)) ≡ has_form wants.Actor words
unfolding is_written written next
command_form names [] = refl
command_form names (a ∷ []) = by (eqb (length a) 0)
  where
    by : (x : Bool) → false ≡ behind_word (on (not x) wants.Action) (λ behind. is_end behind)
    by true = refl
    by false = refl
command_form names (a ∷ k ∷ []) = by (eqb (length a) 0)
  where
    by : (x : Bool) → is_past 0 (fault_of (cond x (Err causes.Syntax) (by_two names a k))) ≡ behind_word (on (not x) wants.Action) (λ v. behind_word (next v k) (λ last. is_end last))
    by true = refl
    by false = two_words names a (verb k)
command_form names (a ∷ k ∷ b ∷ []) = by (eqb (length a) 0) (eqb (length b) 0) refl
  where
    by : (x y : Bool) → eqb (length b) 0 ≡ y → is_past 0 (fault_of (cond (x || y) (Err causes.Syntax) (by_three names a k b))) ≡ behind_word (on (not x) wants.Action) (λ v. behind_word (next v k) (λ w. behind_word (next w b) (λ last. is_end last)))
    by true y e = refl
    by false true e = three_empty b e (verb k)
    by false false e = three_words names a b e (verb k)
command_form names (a ∷ k ∷ b ∷ m ∷ []) = by (eqb (length a) 0) (eqb (length b) 0) (eqb (length m) 0) refl refl
  where
    by : (x y z : Bool) → eqb (length b) 0 ≡ y → eqb (length m) 0 ≡ z → is_past 0 (fault_of (cond (x || y || z || not (bytes_eq k (codes "send"))) (Err causes.Syntax) (send_of names a b m)))
        ≡ behind_word (on (not x) wants.Action) (λ v. behind_word (next v k) (λ w. behind_word (next w b) (λ u. behind_word (next u m) (λ last. is_end last))))
    by true y z e f = refl
    by false true z e f = four_no_partner b m e (verb k)
    by false false true e f = four_no_message b m e f (verb k)
    by false false false e f = four_words names a b m e f (verb k)
command_form names (a ∷ k ∷ b ∷ m ∷ z ∷ words) = by (eqb (length a) 0)
  where
    by : (x : Bool) → false ≡ behind_word (on (not x) wants.Action) (λ v. behind_word (next v k) (λ w. behind_word (next w b) (λ u. behind_word (next u m) (λ t. behind_word (next t z) (λ s. has_form s words)))))
    by true = refl
    by false = more_words b m z words (eqb (length b) 0) (eqb (length m) 0) refl refl (verb k)

-- ---- any line

pub form_law : (names : List (List ℕ)) (number : ℕ) (words : List (List ℕ)) → is_past 0 (schedule_fault names number words) ≡ has_form (schedule_want number) words
form_law names number words = by (eqb number 1) (eqb number 2)
  where
    by : (x y : Bool) → is_past 0 (cond x (fault_of (instances_by words)) (cond y (fault_of (capacity_by words)) (fault_of (action_by names words)))) ≡ has_form (cond x wants.Instances (cond y wants.Capacity wants.Actor)) words
    by true y = instances_form words
    by false true = capacity_form words
    by false false = command_form names words
