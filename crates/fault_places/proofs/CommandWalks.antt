-- A command's line by the turns of its checks: which words pass the checks of one turn.
use Rattle.std.proofs.Common.{◌≡◌, ℕ, Bool, true, false, cond, not, ◌||◌, ◌&&◌, eqb, List, [], ◌∷◌, ◌++◌, length, Result, Ok, Err, refl, sym, ap, ◌∙◌}
use Rattle.std.specs.Prelude.{Option, None, Some, codes, bytes_eq}
use Rattle.std.specs.Cmp.Lexicographic.{bytes_decides}
use Rattle.std.proofs.lemmas.Bool.{false≢true, eqb-true, eq-eqb}
use Rattle.chart.specs.Keywords.{spelled}
use Rattle.chart.specs.Names.{name_of, instance_of}
use Rattle.chart.specs.declared.name.NameError.{NameError}
use Rattle.fault_places.proofs.FormLemmas.{IsVerb, verb, command_form}
use Rattle.fault_places.proofs.FormLemmas.IsVerb.{sends, receives, closes, takes, opens, shuts, other}
use Rattle.fault_places.proofs.CheckOrders.{send_order, receive_order}
use Rattle.fault_places.specs.Carets.{fault_of, is_past, is_end, behind_word, has_form}
use Rattle.fault_places.specs.Spots.{first_of}
use Rattle.fault_places.specs.Wants.{begins_command, chart_next, next}
use Rattle.fault_places.specs.declared.want.Want.{Want}
use Rattle.fault_places.specs.declared.want.Want.TheVariants as wants
use Rattle.schedule.specs.ActionLines.{ActorAction, pair_of, partners_of, send_of, receive_of, close_of, alone_of, by_two, by_three, action_by}
use Rattle.schedule.specs.Keywords.{written, is_written}
use Rattle.schedule.specs.declared.command.Action.{Action}
use Rattle.schedule.specs.declared.command.Action.TheVariants.{Send, Receive, Any, Close, Open, Shut}
use Rattle.texts.proofs.Lookups.{instance_is, same_bytes}
use Rattle.texts.proofs.Results.{name_is, ok_is}
use Rattle.texts.specs.Faults.{◌>>=◌}
use Rattle.texts.specs.Instances.{name_at, known, known_of}
use Rattle.texts.specs.Lines.{named, name_or_cause}
use Rattle.texts.specs.declared.fault.Cause.{Cause}
use Rattle.texts.specs.declared.fault.Cause.TheVariants as causes

-- ---- words that pass

abbrev pub name_fault : List ℕ → Option Cause
name_fault word = fault_of (name_or_cause word)

abbrev pub known_fault : List (List ℕ) → List ℕ → Option Cause
known_fault names word = fault_of (known_of names word)

abbrev pub same_fault : List ℕ → List ℕ → Option Cause
same_fault actor word = cond (bytes_eq word actor) (Some causes.ToItself) None

-- a word after others passes the checks up to this turn
abbrev pub is_good : ℕ → List (List ℕ) → List (List ℕ) → Want → List ℕ → Bool
is_good n names front wants.Actor word = is_past n (name_fault word) && is_past n (known_fault names word)
is_good n names front wants.SendTo word = is_past n (name_fault word) && (is_past n (known_fault names word) && is_past n (same_fault (first_of front) word))
is_good n names front wants.Partner word = is_past n (name_fault word) && (is_past n (known_fault names word) && is_past n (same_fault (first_of front) word))
is_good n names front wants.Message word = is_past n (name_fault word)
is_good n names front _ word = true

-- words after others pass them, and have the right form
abbrev pub passes : ℕ → List (List ℕ) → List (List ℕ) → Want → List (List ℕ) → Bool
passes n names front want [] = is_end want
passes n names front want (word ∷ words) = is_good n names front want word && behind_word (next want word) (λ behind. passes n names (front ++ word ∷ []) behind words)

-- the turns of names, of their instances, and of what these may do
pub data IsTurn : ℕ → Type 0 where
  first : IsTurn 1
  second : IsTurn 2
  third : IsTurn 3

-- ---- one check after another

past_then : {A B : Type 0} (n : ℕ) (r : Result A Cause) (f : A → Result B Cause) (p : Bool) → ((x : A) → r ≡ Ok x → is_past n (fault_of (f x)) ≡ p) → ((cause : Cause) → r ≡ Err cause → is_past n (Some cause) ≡ true → p ≡ true)
    → is_past n (fault_of (r >>= f)) ≡ (is_past n (fault_of r) && p)
past_then n (Ok x) f p h g = h x refl
past_then n (Err cause) f p h g = by (is_past n (Some cause)) refl
  where
    by : (b : Bool) → is_past n (Some cause) ≡ b → is_past n (Some cause) ≡ (is_past n (Some cause) && p)
    by true e = rw e (sym (g cause refl e))
    by false e = rw e refl

pub and_true : (b : Bool) → (b && true) ≡ b
and_true true = refl
and_true false = refl

name_err : (r : Result (List ℕ) NameError) (cause : Cause) → named r ≡ Err cause → (fault : NameError) × (causes.Name fault ≡ cause)
name_err (Ok name) cause e = absurd cc
name_err (Err fault) cause e = (fault, cc)

-- a word that is no name doesn't pass
no_name : {n : ℕ} → IsTurn n → (word : List ℕ) (cause : Cause) → name_or_cause word ≡ Err cause → is_past n (Some cause) ≡ true → ⊥
no_name first word cause e h = let is = name_err (name_of word) cause e in false≢true (ap (λ c. is_past 1 (Some c)) is.1 ∙ h)
no_name second word cause e h = let is = name_err (name_of word) cause e in false≢true (ap (λ c. is_past 2 (Some c)) is.1 ∙ h)
no_name third word cause e h = let is = name_err (name_of word) cause e in false≢true (ap (λ c. is_past 3 (Some c)) is.1 ∙ h)

known_err : (names : List (List ℕ)) (word : List ℕ) (cause : Cause) → known_of names word ≡ Err cause → causes.UnknownInstance ≡ cause
unfolding known_of
known_err names word cause e = by (instance_of names word) e
  where
    by : (o : Option ℕ) → known o ≡ Err cause → causes.UnknownInstance ≡ cause
    by None e = cc
    by (Some p) e = absurd cc

known_ok : (names : List (List ℕ)) (word : List ℕ) (p : ℕ) → known_of names word ≡ Ok p → instance_of names word ≡ Some p
unfolding known_of
known_ok names word p e = by (instance_of names word) e
  where
    by : (o : Option ℕ) → known o ≡ Ok p → o ≡ Some p
    by None e = absurd cc
    by (Some q) e = ap Some (ok_is q p e)

agree : (a b : Bool) → (a ≡ true → b ≡ true) → (b ≡ true → a ≡ true) → a ≡ b
agree true b there back = sym (there refl)
agree false true there back = back refl
agree false false there back = refl

-- two instances are the same if their names are
same_number : (names : List (List ℕ)) (a b : List ℕ) (p q : ℕ) → known_of names a ≡ Ok p → known_of names b ≡ Ok q → eqb p q ≡ bytes_eq b a
same_number names a b p q e f =
    let one = instance_is names a p (known_ok names a p e) in
    let two = instance_is names b q (known_ok names b q f) in
    agree (eqb p q) (bytes_eq b a)
    (λ same. (bytes_decides b a).1 (sym two.has ∙ ap (name_at names) (sym (eqb-true p q same)) ∙ one.has))
    (λ same. eq-eqb p q (ok_is p q (sym e ∙ ap (known_of names) (sym (same_bytes b a same)) ∙ f)))

same_past : (n : ℕ) (names : List (List ℕ)) (a b : List ℕ) (p q : ℕ) → known_of names a ≡ Ok p → known_of names b ≡ Ok q → is_past n (fault_of {A = ℕ × ℕ} (cond (eqb p q) (Err causes.ToItself) (Ok (p, q)))) ≡ is_past n (same_fault a b)
same_past n names a b p q e f = ap (λ x. is_past n (fault_of {A = ℕ × ℕ} (cond x (Err causes.ToItself) (Ok (p, q))))) (same_number names a b p q e f) ∙ by (bytes_eq b a)
  where
    by : (x : Bool) → is_past n (fault_of {A = ℕ × ℕ} (cond x (Err causes.ToItself) (Ok (p, q)))) ≡ is_past n (cond x (Some causes.ToItself) None)
    by true = refl
    by false = refl

pub same_early : (a b : List ℕ) → is_past 1 (same_fault a b) ≡ true
same_early a b = by (bytes_eq b a)
  where
    by : (x : Bool) → is_past 1 (cond x (Some causes.ToItself) None) ≡ true
    by true = refl
    by false = refl

pub same_later : (a b : List ℕ) → is_past 2 (same_fault a b) ≡ true
same_later a b = by (bytes_eq b a)
  where
    by : (x : Bool) → is_past 2 (cond x (Some causes.ToItself) None) ≡ true
    by true = refl
    by false = refl

pub known_early : (names : List (List ℕ)) (word : List ℕ) → is_past 1 (known_fault names word) ≡ true
unfolding known_of
known_early names word = by (instance_of names word)
  where
    by : (o : Option ℕ) → is_past 1 (fault_of (known o)) ≡ true
    by None = refl
    by (Some p) = refl

late_same : {n : ℕ} → IsTurn n → (a b : List ℕ) → is_past n (Some causes.UnknownInstance) ≡ true → is_past n (same_fault a b) ≡ true
late_same first a b h = same_early a b
late_same second a b h = same_later a b
late_same third a b h = absurd (false≢true h)

late_pair : {n : ℕ} → IsTurn n → (names : List (List ℕ)) (a b : List ℕ) → is_past n (Some causes.UnknownInstance) ≡ true → (is_past n (known_fault names b) && is_past n (same_fault a b)) ≡ true
late_pair first names a b h = rw (known_early names b, same_early a b) refl
late_pair second names a b h = absurd (false≢true h)
late_pair third names a b h = absurd (false≢true h)

-- ---- what each form of a command checks

-- two instances
abbrev pair_passes : ℕ → List (List ℕ) → List ℕ → List ℕ → Bool
pair_passes n names a b = is_past n (known_fault names a) && (is_past n (known_fault names b) && is_past n (same_fault a b))

pair_past : {n : ℕ} → IsTurn n → (names : List (List ℕ)) (a b : List ℕ) → is_past n (fault_of (pair_of names a b)) ≡ pair_passes n names a b
unfolding pair_of
pair_past {n} t names a b =
    past_then {B = ℕ × ℕ} n (known_of names a) (λ by. known_of names b >>= λ to. cond (eqb by to) (Err causes.ToItself) (Ok (by, to))) (is_past n (known_fault names b) && is_past n (same_fault a b))
    (λ p e. past_then {B = ℕ × ℕ} n (known_of names b) (λ to. cond (eqb p to) (Err causes.ToItself) (Ok (p, to))) (is_past n (same_fault a b)) (λ q f. same_past n names a b p q e f)
    (λ cause f h. late_same t a b (ap (λ c. is_past n (Some c)) (known_err names b cause f) ∙ h)))
    (λ cause e h. late_pair t names a b (ap (λ c. is_past n (Some c)) (known_err names a cause e) ∙ h))

pair_as : {n : ℕ} → IsTurn n → (names : List (List ℕ)) (a b v w : List ℕ) → v ≡ a → w ≡ b → is_past n (fault_of (pair_of names v w)) ≡ pair_passes n names a b
pair_as {n} t names a b v w p q = ap (λ x. is_past n (fault_of (pair_of names x w))) p ∙ ap (λ y. is_past n (fault_of (pair_of names a y))) q ∙ pair_past t names a b

partners_past : {n : ℕ} → IsTurn n → (names : List (List ℕ)) (a b : List ℕ) → is_past n (fault_of (partners_of names a b)) ≡ (is_past n (name_fault a) && (is_past n (name_fault b) && pair_passes n names a b))
unfolding partners_of
partners_past {n} t names a b =
    past_then {B = ℕ × ℕ} n (name_or_cause a) (λ actor. name_or_cause b >>= λ partner. pair_of names actor partner) (is_past n (name_fault b) && pair_passes n names a b)
    (λ v e. past_then {B = ℕ × ℕ} n (name_or_cause b) (λ partner. pair_of names v partner) (pair_passes n names a b) (λ w f. pair_as t names a b v w (name_is a v e).0 (name_is b w f).0) (λ cause f h. absurd (no_name t b cause f h)))
    (λ cause e h. absurd (no_name t a cause e h))

receive_past : {n : ℕ} → IsTurn n → (names : List (List ℕ)) (a b : List ℕ) → is_past n (fault_of (receive_of names a b)) ≡ (is_past n (name_fault a) && (is_past n (name_fault b) && pair_passes n names a b))
unfolding receive_of
receive_past {n} t names a b =
    past_then {B = ActorAction} n (partners_of names a b) (λ pair. Ok (pair.0, Receive pair.1)) true (λ pair e. refl) (λ cause e h. refl) ∙ and_true (is_past n (fault_of (partners_of names a b))) ∙ partners_past t names a b

close_past : {n : ℕ} → IsTurn n → (names : List (List ℕ)) (a b : List ℕ) → is_past n (fault_of (close_of names a b)) ≡ (is_past n (name_fault a) && (is_past n (name_fault b) && pair_passes n names a b))
unfolding close_of
close_past {n} t names a b =
    past_then {B = ActorAction} n (partners_of names a b) (λ pair. Ok (pair.0, Close pair.1)) true (λ pair e. refl) (λ cause e h. refl) ∙ and_true (is_past n (fault_of (partners_of names a b))) ∙ partners_past t names a b

send_past : {n : ℕ} → IsTurn n → (names : List (List ℕ)) (a b m : List ℕ)
    → is_past n (fault_of (send_of names a b m)) ≡ (is_past n (name_fault a) && (is_past n (name_fault b) && (is_past n (name_fault m) && pair_passes n names a b)))
unfolding send_of
send_past {n} t names a b m =
    past_then {B = ActorAction} n (name_or_cause a) (λ actor. name_or_cause b >>= λ partner. name_or_cause m >>= λ name. pair_of names actor partner >>= λ pair. Ok (pair.0, Send pair.1 name)) (is_past n (name_fault b) && (is_past n (name_fault m) && pair_passes n names a b))
    (λ v e. past_then {B = ActorAction} n (name_or_cause b) (λ partner. name_or_cause m >>= λ name. pair_of names v partner >>= λ pair. Ok (pair.0, Send pair.1 name)) (is_past n (name_fault m) && pair_passes n names a b)
    (λ w f. past_then {B = ActorAction} n (name_or_cause m) (λ name. pair_of names v w >>= λ pair. Ok (pair.0, Send pair.1 name)) (pair_passes n names a b)
    (λ u g. past_then {B = ActorAction} n (pair_of names v w) (λ pair. Ok (pair.0, Send pair.1 u)) true (λ pair e. refl) (λ cause e h. refl) ∙ and_true (is_past n (fault_of (pair_of names v w))) ∙ pair_as t names a b v w (name_is a v e).0 (name_is b w f).0)
    (λ cause g h. absurd (no_name t m cause g h)))
    (λ cause f h. absurd (no_name t b cause f h)))
    (λ cause e h. absurd (no_name t a cause e h))

alone_known : (n : ℕ) (names : List (List ℕ)) (a v : List ℕ) (action : Action) → v ≡ a → is_past n (fault_of {A = ActorAction} (known_of names v >>= λ by. Ok (by, action))) ≡ is_past n (known_fault names a)
alone_known n names a v action same =
    past_then {B = ActorAction} n (known_of names v) (λ by. Ok (by, action)) true (λ p e. refl) (λ cause e h. refl) ∙ and_true (is_past n (known_fault names v)) ∙ ap (λ w. is_past n (known_fault names w)) same

alone_past : {n : ℕ} → IsTurn n → (names : List (List ℕ)) (a : List ℕ) (action : Action) → is_past n (fault_of (alone_of names a action)) ≡ (is_past n (name_fault a) && is_past n (known_fault names a))
unfolding alone_of
alone_past {n} t names a action =
    past_then {B = ActorAction} n (name_or_cause a) (λ actor. known_of names actor >>= λ by. Ok (by, action)) (is_past n (known_fault names a))
    (λ v e. alone_known n names a v action (name_is a v e).0) (λ cause e h. absurd (no_name t a cause e h))

-- ---- the forms of commands

data IsCommand : List (List ℕ) → Type 0 where
  sending : {a b m : List ℕ} → eqb (length a) 0 ≡ false → eqb (length b) 0 ≡ false → eqb (length m) 0 ≡ false → IsCommand (a ∷ codes "send" ∷ b ∷ m ∷ [])
  receiving : {a b : List ℕ} → eqb (length a) 0 ≡ false → eqb (length b) 0 ≡ false → IsCommand (a ∷ codes "receive" ∷ b ∷ [])
  closing : {a b : List ℕ} → eqb (length a) 0 ≡ false → eqb (length b) 0 ≡ false → IsCommand (a ∷ codes "close" ∷ b ∷ [])
  taking : {a : List ℕ} → eqb (length a) 0 ≡ false → IsCommand (a ∷ codes "any" ∷ [])
  opening : {a : List ℕ} → eqb (length a) 0 ≡ false → IsCommand (a ∷ codes "concurrent" ∷ [])
  shutting : {a : List ℕ} → eqb (length a) 0 ≡ false → IsCommand (a ∷ codes "endconcurrent" ∷ [])

two_shape : (a : List ℕ) {k : List ℕ} → IsVerb k → (x : Bool) → eqb (length a) 0 ≡ x → is_past 0 (fault_of (cond x (Err causes.Syntax) (by_two [] a k))) ≡ true → IsCommand (a ∷ k ∷ [])
unfolding by_two is_written written spelled
two_shape a v true e h = absurd (false≢true h)
two_shape a sends false e h = absurd (false≢true h)
two_shape a receives false e h = absurd (false≢true h)
two_shape a closes false e h = absurd (false≢true h)
two_shape a takes false e h = taking e
two_shape a opens false e h = opening e
two_shape a shuts false e h = shutting e
two_shape a (other p q r s t u) false e h = absurd (false≢true (rw (s, t, u) at h))

three_shape : (a b : List ℕ) {k : List ℕ} → IsVerb k → (x y : Bool) → eqb (length a) 0 ≡ x → eqb (length b) 0 ≡ y → is_past 0 (fault_of (cond (x || y) (Err causes.Syntax) (by_three [] a k b))) ≡ true → IsCommand (a ∷ k ∷ b ∷ [])
unfolding by_three is_written written spelled
three_shape a b v true y e f h = absurd (false≢true h)
three_shape a b v false true e f h = absurd (false≢true h)
three_shape a b sends false false e f h = absurd (false≢true h)
three_shape a b receives false false e f h = receiving e f
three_shape a b closes false false e f h = closing e f
three_shape a b takes false false e f h = absurd (false≢true h)
three_shape a b opens false false e f h = absurd (false≢true h)
three_shape a b shuts false false e f h = absurd (false≢true h)
three_shape a b (other p q r s t u) false false e f h = absurd (false≢true (rw (q, r) at h))

four_shape : (a b m : List ℕ) {k : List ℕ} → IsVerb k → (x y z : Bool) → eqb (length a) 0 ≡ x → eqb (length b) 0 ≡ y → eqb (length m) 0 ≡ z
    → is_past 0 (fault_of (cond (x || y || z || not (bytes_eq k (codes "send"))) (Err causes.Syntax) (send_of [] a b m))) ≡ true → IsCommand (a ∷ k ∷ b ∷ m ∷ [])
four_shape a b m v true y z e f g h = absurd (false≢true h)
four_shape a b m v false true z e f g h = absurd (false≢true h)
four_shape a b m v false false true e f g h = absurd (false≢true h)
four_shape a b m sends false false false e f g h = sending e f g
four_shape a b m receives false false false e f g h = absurd (false≢true h)
four_shape a b m closes false false false e f g h = absurd (false≢true h)
four_shape a b m takes false false false e f g h = absurd (false≢true h)
four_shape a b m opens false false false e f g h = absurd (false≢true h)
four_shape a b m shuts false false false e f g h = absurd (false≢true h)
four_shape a b m (other p q r s t u) false false false e f g h = absurd (false≢true (rw p at h))

shape : (words : List (List ℕ)) → has_form wants.Actor words ≡ true → IsCommand words
unfolding is_written written
shape [] h = absurd (false≢true h)
shape (a ∷ []) h = absurd (false≢true (command_form [] (a ∷ []) ∙ h))
shape (a ∷ k ∷ []) h = two_shape a (verb k) (eqb (length a) 0) refl (command_form [] (a ∷ k ∷ []) ∙ h)
shape (a ∷ k ∷ b ∷ []) h = three_shape a b (verb k) (eqb (length a) 0) (eqb (length b) 0) refl refl (command_form [] (a ∷ k ∷ b ∷ []) ∙ h)
shape (a ∷ k ∷ b ∷ m ∷ []) h = four_shape a b m (verb k) (eqb (length a) 0) (eqb (length b) 0) (eqb (length m) 0) refl refl refl (command_form [] (a ∷ k ∷ b ∷ m ∷ []) ∙ h)
shape (a ∷ k ∷ b ∷ m ∷ z ∷ words) h = absurd (false≢true (command_form [] (a ∷ k ∷ b ∷ m ∷ z ∷ words) ∙ h))

-- ---- the line passes exactly if its words do

formed_past : {n : ℕ} → IsTurn n → (names : List (List ℕ)) {words : List (List ℕ)} → IsCommand words → is_past n (fault_of (action_by names words)) ≡ passes n names [] wants.Actor words
unfolding by_two by_three is_written written spelled next chart_next begins_command
formed_past {n} t names (sending {a} {b} {m} e f g) =
    rw (e, f, g) (send_past t names a b m ∙ send_order (is_past n (name_fault a)) (is_past n (known_fault names a)) (is_past n (name_fault b)) (is_past n (known_fault names b)) (is_past n (same_fault a b)) (is_past n (name_fault m)))
formed_past {n} t names (receiving {a} {b} e f) =
    rw (e, f) (receive_past t names a b ∙ receive_order (is_past n (name_fault a)) (is_past n (known_fault names a)) (is_past n (name_fault b)) (is_past n (known_fault names b)) (is_past n (same_fault a b)))
formed_past {n} t names (closing {a} {b} e f) =
    rw (e, f) (close_past t names a b ∙ receive_order (is_past n (name_fault a)) (is_past n (known_fault names a)) (is_past n (name_fault b)) (is_past n (known_fault names b)) (is_past n (same_fault a b)))
formed_past {n} t names (taking {a} e) = rw e (alone_past t names a Any ∙ sym (and_true (is_past n (name_fault a) && is_past n (known_fault names a))))
formed_past {n} t names (opening {a} e) = rw e (alone_past t names a Open ∙ sym (and_true (is_past n (name_fault a) && is_past n (known_fault names a))))
formed_past {n} t names (shutting {a} e) = rw e (alone_past t names a Shut ∙ sym (and_true (is_past n (name_fault a) && is_past n (known_fault names a))))

-- only the form is checked in the first turn
form_fault : (o : Option Cause) → is_past 0 o ≡ false → o ≡ Some causes.Syntax
form_fault None e = absurd cc
form_fault (Some causes.Syntax) e = refl
form_fault (Some (causes.Name fault)) e = absurd cc
form_fault (Some causes.UnknownInstance) e = absurd cc
form_fault (Some causes.ToItself) e = absurd cc
form_fault (Some causes.Duplicate) e = absurd cc
form_fault (Some causes.Instances) e = absurd cc
form_fault (Some causes.Capacity) e = absurd cc
form_fault (Some causes.LineFull) e = absurd cc

no_form : {n : ℕ} → IsTurn n → is_past n (Some causes.Syntax) ≡ false
no_form first = refl
no_form second = refl
no_form third = refl

and_false : (b : Bool) → (b && false) ≡ false
and_false true = refl
and_false false = refl

passes_form : (n : ℕ) (names front : List (List ℕ)) (want : Want) (words : List (List ℕ)) → has_form want words ≡ false → passes n names front want words ≡ false
passes_form n names front want [] h = h
passes_form n names front want (word ∷ words) h = by (next want word) refl (λ after k. passes_form n names (front ++ word ∷ []) after words k)
  where
    by : (o : Option Want) → next want word ≡ o → ((after : Want) → has_form after words ≡ false → passes n names (front ++ word ∷ []) after words ≡ false) → passes n names front want (word ∷ words) ≡ false
    by None e go = ap (λ o. is_good n names front want word && behind_word o (λ behind. passes n names (front ++ word ∷ []) behind words)) e ∙ and_false (is_good n names front want word)
    by (Some after) e go =
        let form : has_form after words ≡ false = sym (ap (λ o. behind_word o (λ behind. has_form behind words)) e) ∙ h in
        ap (λ o. is_good n names front want word && behind_word o (λ behind. passes n names (front ++ word ∷ []) behind words)) e ∙ ap (λ b. is_good n names front want word && b) (go after form) ∙ and_false (is_good n names front want word)

pub line_past : {n : ℕ} → IsTurn n → (names words : List (List ℕ)) → is_past n (fault_of (action_by names words)) ≡ passes n names [] wants.Actor words
line_past {n} t names words = by (has_form wants.Actor words) refl
  where
    by : (b : Bool) → has_form wants.Actor words ≡ b → is_past n (fault_of (action_by names words)) ≡ passes n names [] wants.Actor words
    by true e = formed_past t names (shape words e)
    by false e = ap (is_past n) (form_fault (fault_of (action_by names words)) (command_form names words ∙ e)) ∙ no_form t ∙ sym (passes_form n names [] wants.Actor words e)
