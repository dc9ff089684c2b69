-- The form of a chart's line, as its reader checks it.
use Rattle.std.proofs.Common.{◌≡◌, ℕ, ◌+◌, Bool, true, false, cond, ◌||◌, ◌&&◌, ltb, List, [], ◌∷◌, length, Result, Ok, Err, refl, sym, ap, ◌∙◌, subst}
use Rattle.std.specs.Prelude.{Option, None, Some, codes, bytes_eq, is_some, nat_le}
use Rattle.std.proofs.lemmas.Bool.{false≢true}
use Rattle.chart.specs.Keywords.{spelled, is_keyword}
use Rattle.chart.specs.declared.line.TheConstants.{MAX_EVENTS}
use Rattle.fault_places.proofs.FormLemmas.{past_bind, past_choice, past_word, past_new}
use Rattle.fault_places.specs.Carets.{fault_of, is_past, is_end, behind_word, has_form}
use Rattle.fault_places.specs.ChartCarets.{want_of, line_fault}
use Rattle.fault_places.specs.Wants.{on, begins_out, begins_in, named_on, chart_next, next}
use Rattle.fault_places.specs.declared.want.Want.{Want}
use Rattle.fault_places.specs.declared.want.Want.TheVariants as wants
use Rattle.msc_text.specs.ChartText.{chart_name}
use Rattle.msc_text.specs.Reader.LastWords.{is_last_word}
use Rattle.msc_text.specs.Reader.Reading.{names_after}
use Rattle.msc_text.specs.Reader.Steps.{Step, name_part, is_plain, start_by, head_of, outside_by, pair_of, names_of, after_receive, send_of, receive_of, is_closed, event_of, alone_of, inside_by, step_by}
use Rattle.msc_text.specs.declared.reader.state.Region.{Region}
use Rattle.msc_text.specs.declared.reader.state.Region.TheVariants as regions
use Rattle.msc_text.specs.declared.reader.state.Saying.{Saying}
use Rattle.msc_text.specs.declared.reader.state.Saying.TheVariants as sayings
use Rattle.msc_text.specs.declared.reader.state.State.{State}
use Rattle.msc_text.specs.declared.reader.state.State.TheVariants as states
use Rattle.texts.proofs.Lookups.{same_bytes}
use Rattle.texts.specs.Faults.{◌>>=◌}
use Rattle.texts.specs.Lines.{name_or_cause}
use Rattle.texts.specs.declared.fault.Cause.{Cause}
use Rattle.texts.specs.declared.fault.Cause.TheVariants as causes

-- ---- words that are one of some

-- a word is a known one, or another
pub spelled_as : (P : List ℕ → Type 0) (word known_word : List ℕ) (b : Bool) → bytes_eq word known_word ≡ b → P known_word → (bytes_eq word known_word ≡ false → P word) → P word
spelled_as P word known_word true e is go = subst P (sym (same_bytes word known_word e)) is
spelled_as P word known_word false e is go = go e

-- the first word of a line outside of an instance
pub data IsHead : List ℕ → Type 0 where
  begins : IsHead (codes "instance")
  ends : IsHead (codes "endmsc;")
  other : {word : List ℕ} → bytes_eq word (codes "instance") ≡ false → bytes_eq word (codes "endmsc;") ≡ false → IsHead word

pub head_word : (word : List ℕ) → IsHead word
head_word word =
    spelled_as IsHead word (codes "instance") _ refl begins (λ a.
    spelled_as IsHead word (codes "endmsc;") _ refl ends (λ b.
    other a b))

-- the first word of a line inside an instance
pub data IsInner : List ℕ → Type 0 where
  goes_out : IsInner (codes "out")
  comes_in : IsInner (codes "in")
  opens : IsInner (codes "concurrent;")
  leaves : IsInner (codes "endinstance;")
  shuts : IsInner (codes "endconcurrent;")
  none : {word : List ℕ} → bytes_eq word (codes "out") ≡ false → bytes_eq word (codes "in") ≡ false → bytes_eq word (codes "concurrent;") ≡ false → bytes_eq word (codes "endinstance;") ≡ false
      → bytes_eq word (codes "endconcurrent;") ≡ false → IsInner word

pub inner_word : (word : List ℕ) → IsInner word
inner_word word =
    spelled_as IsInner word (codes "out") _ refl goes_out (λ a.
    spelled_as IsInner word (codes "in") _ refl comes_in (λ b.
    spelled_as IsInner word (codes "concurrent;") _ refl opens (λ c.
    spelled_as IsInner word (codes "endinstance;") _ refl leaves (λ d.
    spelled_as IsInner word (codes "endconcurrent;") _ refl shuts (λ e.
    none a b c d e)))))

-- ---- the checks after the form

past_after : (names : List (List ℕ)) (saying : Saying) → is_past 0 (fault_of (names_after names saying)) ≡ true
past_after names sayings.Begin = refl
past_after names (sayings.Head own) = past_new names own
past_after names (sayings.Send to name) = refl
past_after names (sayings.Receive from name) = refl
past_after names sayings.Open = refl
past_after names sayings.Shut = refl
past_after names sayings.Foot = refl
past_after names sayings.End = past_choice {A = List (List ℕ)} (ltb (length names) 2) causes.Instances names refl

past_step : (names : List (List ℕ)) (r : Result Step Cause) → is_past 0 (fault_of (r >>= λ step. names_after names step.0)) ≡ is_past 0 (fault_of r)
past_step names (Ok step) = past_after names step.0
past_step names (Err cause) = refl

past_ok : {A B : Type 0} (r : Result A Cause) (f : A → B) → is_past 0 (fault_of {A = B} (r >>= λ x. Ok (f x))) ≡ is_past 0 (fault_of r)
past_ok (Ok x) f = refl
past_ok (Err cause) f = refl

past_two : (b c : Bool) (pair : List ℕ × List ℕ) → is_past 0 (fault_of (cond b (Err causes.ToItself) (cond c (Err causes.LineFull) (Ok pair)))) ≡ true
past_two true c pair = refl
past_two false true pair = refl
past_two false false pair = refl

past_pair_of : (own : List ℕ) (events : ℕ) (m p : List ℕ) → is_past 0 (fault_of (pair_of own events m p)) ≡ true
unfolding pair_of
past_pair_of own events m p =
    past_bind {B = List ℕ × List ℕ} (name_or_cause m) (λ name. name_or_cause p >>= λ other. cond (bytes_eq other own) (Err causes.ToItself) (cond (nat_le MAX_EVENTS events) (Err causes.LineFull) (Ok (name, other)))) (past_word m)
    (λ name. past_bind {B = List ℕ × List ℕ} (name_or_cause p) (λ other. cond (bytes_eq other own) (Err causes.ToItself) (cond (nat_le MAX_EVENTS events) (Err causes.LineFull) (Ok (name, other)))) (past_word p)
    (λ other. past_two (bytes_eq other own) (nat_le MAX_EVENTS events) (name, other)))

past_names : (own : List ℕ) (events : ℕ) (m : List ℕ) (o : Option (List ℕ)) → is_past 0 (fault_of (names_of own events m o)) ≡ (is_some o && is_plain m)
unfolding names_of
past_names own events m None = refl
past_names own events m (Some p) = by (is_plain m)
  where
    by : (b : Bool) → is_past 0 (fault_of (cond b (pair_of own events m p) (Err causes.Syntax))) ≡ b
    by true = past_pair_of own events m p
    by false = refl

past_send : (own : List ℕ) (events : ℕ) (m w : List ℕ) → is_past 0 (fault_of (send_of own events m w)) ≡ (is_some (name_part w) && is_plain m)
unfolding send_of
past_send own events m w =
    past_ok {B = Step} (names_of own events m (name_part w)) (λ pair. (sayings.Send pair.1 pair.0, states.Inside own (events + 1) regions.Closed)) ∙ past_names own events m (name_part w)

past_receive : (own : List ℕ) (events : ℕ) (region : Region) (m w : List ℕ) → is_past 0 (fault_of (receive_of own events region m w)) ≡ (is_some (name_part w) && is_plain m)
unfolding receive_of
past_receive own events region m w =
    past_ok {B = Step} (names_of own events m (name_part w)) (λ pair. (sayings.Receive pair.1 pair.0, states.Inside own (events + 1) (after_receive region))) ∙ past_names own events m (name_part w)

-- ---- the first line

start_form : (words : List (List ℕ)) → is_past 0 (fault_of (start_by words)) ≡ has_form wants.Msc words
unfolding next chart_next is_keyword is_last_word spelled chart_name
start_form [] = refl
start_form (m ∷ []) = by (bytes_eq m (codes "msc"))
  where
    by : (x : Bool) → false ≡ behind_word (on x wants.ChartName) (λ behind. is_end behind)
    by true = refl
    by false = refl
start_form (m ∷ r ∷ []) = by (bytes_eq m (codes "msc")) (bytes_eq r (codes "run;")) refl
  where
    by : (x y : Bool) → next wants.ChartName r ≡ on y wants.LineEnd → is_past 0 (fault_of {A = Step} (cond (x && y) (Ok (sayings.Begin, states.Outside)) (Err causes.Syntax))) ≡ behind_word (on x wants.ChartName) (λ behind. has_form behind (r ∷ []))
    by true true e = sym (ap (λ o. behind_word o (λ behind. is_end behind)) e)
    by true false e = sym (ap (λ o. behind_word o (λ behind. is_end behind)) e)
    by false y e = refl
start_form (m ∷ r ∷ z ∷ words) = by (bytes_eq m (codes "msc")) (bytes_eq r (codes "run;")) refl
  where
    by : (x y : Bool) → next wants.ChartName r ≡ on y wants.LineEnd → false ≡ behind_word (on x wants.ChartName) (λ behind. has_form behind (r ∷ z ∷ words))
    by true true e = sym (ap (λ o. behind_word o (λ behind. has_form behind (z ∷ words))) e)
    by true false e = sym (ap (λ o. behind_word o (λ behind. has_form behind (z ∷ words))) e)
    by false y e = refl

-- ---- a line outside of an instance

head_form : (o : Option (List ℕ)) → is_past 0 (fault_of (head_of o)) ≡ is_some o
unfolding head_of
head_form None = refl
head_form (Some name) = past_bind {B = Step} (name_or_cause name) (λ own. Ok (sayings.Head own, states.Inside own 0 regions.Closed)) (past_word name) (λ own. refl)

-- the words after `instance`
abbrev head_rest : List (List ℕ) → Bool
head_rest (w ∷ []) = is_some (name_part w)
head_rest _ = false

named_form : (words : List (List ℕ)) → has_form wants.InstanceName words ≡ head_rest words
unfolding next chart_next
named_form [] = refl
named_form (w ∷ []) = by (is_some (name_part w))
  where
    by : (b : Bool) → behind_word (on b wants.LineEnd) (λ last. is_end last) ≡ b
    by true = refl
    by false = refl
named_form (w ∷ z ∷ words) = by (is_some (name_part w))
  where
    by : (b : Bool) → behind_word (on b wants.LineEnd) (λ behind. has_form behind (z ∷ words)) ≡ false
    by true = refl
    by false = refl

outside_rest : {k : List ℕ} (words : List (List ℕ)) → IsHead k → is_past 0 (fault_of (outside_by (k ∷ words))) ≡ has_form wants.InstanceOrEnd (k ∷ words)
unfolding next chart_next named_on is_keyword is_last_word spelled
outside_rest [] begins = refl
outside_rest (w ∷ []) begins = head_form (name_part w) ∙ sym (named_form (w ∷ []))
outside_rest (w ∷ z ∷ words) begins = sym (named_form (w ∷ z ∷ words))
outside_rest [] ends = refl
outside_rest (w ∷ []) ends = refl
outside_rest (w ∷ z ∷ words) ends = refl
outside_rest {k} [] (other p q) = by (bytes_eq k (codes "instance")) p (bytes_eq k (codes "endmsc;")) q
  where
    by : (x : Bool) → x ≡ false → (y : Bool) → y ≡ false → is_past 0 (fault_of {A = Step} (cond y (Ok (sayings.End, states.Done)) (Err causes.Syntax))) ≡ behind_word (cond x (Some wants.InstanceName) (on y wants.LineEnd)) (λ last. is_end last)
    by true p y q = absurd (false≢true (sym p))
    by false p true q = absurd (false≢true (sym q))
    by false p false q = refl
outside_rest {k} (w ∷ []) (other p q) = by (bytes_eq k (codes "instance")) p (bytes_eq k (codes "endmsc;")) q
  where
    by : (x : Bool) → x ≡ false → (y : Bool) → y ≡ false → is_past 0 (fault_of (cond x (head_of (name_part w)) (Err causes.Syntax))) ≡ behind_word (cond x (Some wants.InstanceName) (on y wants.LineEnd)) (λ behind. has_form behind (w ∷ []))
    by true p y q = absurd (false≢true (sym p))
    by false p true q = absurd (false≢true (sym q))
    by false p false q = refl
outside_rest {k} (w ∷ z ∷ words) (other p q) = by (bytes_eq k (codes "instance")) p (bytes_eq k (codes "endmsc;")) q
  where
    by : (x : Bool) → x ≡ false → (y : Bool) → y ≡ false → false ≡ behind_word (cond x (Some wants.InstanceName) (on y wants.LineEnd)) (λ behind. has_form behind (w ∷ z ∷ words))
    by true p y q = absurd (false≢true (sym p))
    by false p true q = absurd (false≢true (sym q))
    by false p false q = refl

outside_form : (words : List (List ℕ)) → is_past 0 (fault_of (outside_by words)) ≡ has_form wants.InstanceOrEnd words
outside_form [] = refl
outside_form (k ∷ words) = outside_rest words (head_word k)

-- ---- a line inside an instance

-- the words after `out`, and after `in`: a message, this word and a partner
abbrev event_rest : List ℕ → List (List ℕ) → Bool
event_rest side (m ∷ t ∷ w ∷ []) = is_plain m && (bytes_eq t side && is_some (name_part w))
event_rest side _ = false

-- from a message on, if this word and then a partner may follow
message_form : (first second third : Want) (side : List ℕ) → ((m : List ℕ) → next first m ≡ on (is_plain m) second) → ((t : List ℕ) → next second t ≡ on (bytes_eq t side) third) → ((w : List ℕ) → next third w ≡ on (is_some (name_part w)) wants.LineEnd)
    → is_end first ≡ false → is_end second ≡ false → is_end third ≡ false → (words : List (List ℕ)) → has_form first words ≡ event_rest side words
unfolding next chart_next
message_form first second third side a b c p q r [] = p
message_form first second third side a b c p q r (m ∷ []) = ap (λ o. behind_word o (λ behind. is_end behind)) (a m) ∙ by (is_plain m)
  where
    by : (x : Bool) → behind_word (on x second) (λ behind. is_end behind) ≡ false
    by true = q
    by false = refl
message_form first second third side a b c p q r (m ∷ t ∷ []) = ap (λ o. behind_word o (λ behind. has_form behind (t ∷ []))) (a m) ∙ by (is_plain m) (bytes_eq t side) (b t)
  where
    by : (x y : Bool) → next second t ≡ on y third → behind_word (on x second) (λ behind. has_form behind (t ∷ [])) ≡ false
    by true true e = ap (λ o. behind_word o (λ behind. is_end behind)) e ∙ r
    by true false e = ap (λ o. behind_word o (λ behind. is_end behind)) e
    by false y e = refl
message_form first second third side a b c p q r (m ∷ t ∷ w ∷ []) = ap (λ o. behind_word o (λ behind. has_form behind (t ∷ w ∷ []))) (a m) ∙ by (is_plain m) (bytes_eq t side) (is_some (name_part w)) (b t) (c w)
  where
    by : (x y z : Bool) → next second t ≡ on y third → next third w ≡ on z wants.LineEnd → behind_word (on x second) (λ behind. has_form behind (t ∷ w ∷ [])) ≡ (x && (y && z))
    by true true true e f = ap (λ o. behind_word o (λ behind. has_form behind (w ∷ []))) e ∙ ap (λ o. behind_word o (λ behind. is_end behind)) f
    by true true false e f = ap (λ o. behind_word o (λ behind. has_form behind (w ∷ []))) e ∙ ap (λ o. behind_word o (λ behind. is_end behind)) f
    by true false z e f = ap (λ o. behind_word o (λ behind. has_form behind (w ∷ []))) e
    by false y z e f = refl
message_form first second third side a b c p q r (m ∷ t ∷ w ∷ u ∷ words) = ap (λ o. behind_word o (λ behind. has_form behind (t ∷ w ∷ u ∷ words))) (a m) ∙ by (is_plain m) (bytes_eq t side) (is_some (name_part w)) (b t) (c w)
  where
    by : (x y z : Bool) → next second t ≡ on y third → next third w ≡ on z wants.LineEnd → behind_word (on x second) (λ behind. has_form behind (t ∷ w ∷ u ∷ words)) ≡ false
    by true true true e f = ap (λ o. behind_word o (λ behind. has_form behind (w ∷ u ∷ words))) e ∙ ap (λ o. behind_word o (λ behind. has_form behind (u ∷ words))) f
    by true true false e f = ap (λ o. behind_word o (λ behind. has_form behind (w ∷ u ∷ words))) e ∙ ap (λ o. behind_word o (λ behind. has_form behind (u ∷ words))) f
    by true false z e f = ap (λ o. behind_word o (λ behind. has_form behind (w ∷ u ∷ words))) e
    by false y z e f = refl

sent_form : (words : List (List ℕ)) → has_form wants.Sent words ≡ event_rest (codes "to") words
unfolding next chart_next
sent_form words = message_form wants.Sent wants.To wants.Receiver (codes "to") (λ m. refl) (λ t. refl) (λ w. refl) refl refl refl words

received_form : (words : List (List ℕ)) → has_form wants.Received words ≡ event_rest (codes "from") words
unfolding next chart_next
received_form words = message_form wants.Received wants.From wants.Sender (codes "from") (λ m. refl) (λ t. refl) (λ w. refl) refl refl refl words

-- the checks are in another order than the words
turned : (x y z : Bool) → cond y (z && x) false ≡ (x && (y && z))
turned true true true = refl
turned true true false = refl
turned true false z = refl
turned false true true = refl
turned false true false = refl
turned false false z = refl

-- sends are outside of coregions
out_form : (own : List ℕ) (events : ℕ) (region : Region) (words : List (List ℕ)) → is_past 0 (fault_of (inside_by own events region (codes "out" ∷ words))) ≡ (is_closed region && event_rest (codes "to") words)
unfolding alone_of event_of is_keyword is_last_word spelled
out_form own events regions.Closed [] = refl
out_form own events regions.Empty [] = refl
out_form own events regions.Held [] = refl
out_form own events regions.Closed (m ∷ []) = refl
out_form own events regions.Empty (m ∷ []) = refl
out_form own events regions.Held (m ∷ []) = refl
out_form own events regions.Closed (m ∷ t ∷ []) = refl
out_form own events regions.Empty (m ∷ t ∷ []) = refl
out_form own events regions.Held (m ∷ t ∷ []) = refl
out_form own events regions.Closed (m ∷ t ∷ w ∷ []) = by (bytes_eq t (codes "to")) ∙ turned (is_plain m) (bytes_eq t (codes "to")) (is_some (name_part w))
  where
    by : (y : Bool) → is_past 0 (fault_of (cond (y && true) (send_of own events m w) (Err causes.Syntax))) ≡ cond y (is_some (name_part w) && is_plain m) false
    by true = past_send own events m w
    by false = refl
out_form own events regions.Empty (m ∷ t ∷ w ∷ []) = by (bytes_eq t (codes "to"))
  where
    by : (y : Bool) → is_past 0 (fault_of (cond (y && false) (send_of own events m w) (Err causes.Syntax))) ≡ false
    by true = refl
    by false = refl
out_form own events regions.Held (m ∷ t ∷ w ∷ []) = by (bytes_eq t (codes "to"))
  where
    by : (y : Bool) → is_past 0 (fault_of (cond (y && false) (send_of own events m w) (Err causes.Syntax))) ≡ false
    by true = refl
    by false = refl
out_form own events regions.Closed (m ∷ t ∷ w ∷ u ∷ words) = refl
out_form own events regions.Empty (m ∷ t ∷ w ∷ u ∷ words) = refl
out_form own events regions.Held (m ∷ t ∷ w ∷ u ∷ words) = refl

in_form : (own : List ℕ) (events : ℕ) (region : Region) (words : List (List ℕ)) → is_past 0 (fault_of (inside_by own events region (codes "in" ∷ words))) ≡ event_rest (codes "from") words
unfolding alone_of event_of is_keyword is_last_word spelled
in_form own events regions.Closed [] = refl
in_form own events regions.Empty [] = refl
in_form own events regions.Held [] = refl
in_form own events region (m ∷ []) = refl
in_form own events region (m ∷ t ∷ []) = refl
in_form own events region (m ∷ t ∷ w ∷ []) = by (bytes_eq t (codes "from")) ∙ turned (is_plain m) (bytes_eq t (codes "from")) (is_some (name_part w))
  where
    by : (y : Bool) → is_past 0 (fault_of (cond y (receive_of own events region m w) (Err causes.Syntax))) ≡ cond y (is_some (name_part w) && is_plain m) false
    by true = past_receive own events region m w
    by false = refl
in_form own events region (m ∷ t ∷ w ∷ u ∷ words) = refl

-- a line that begins with another word has only this one
alone_form : (own : List ℕ) (events : ℕ) (region : Region) (k : List ℕ) (words : List (List ℕ)) → bytes_eq k (codes "out") ≡ false → bytes_eq k (codes "in") ≡ false
    → (w : List ℕ) → is_past 0 (fault_of (inside_by own events region (k ∷ w ∷ words))) ≡ false
unfolding event_of is_keyword spelled
alone_form own events region k [] p q w = refl
alone_form own events region k (t ∷ []) p q w = refl
alone_form own events region k (t ∷ u ∷ []) p q w = rw (q, p) refl
alone_form own events region k (t ∷ u ∷ v ∷ words) p q w = refl

-- a word that may not begin a line there
closed_none : (own : List ℕ) (events : ℕ) (x y z v : Bool) → x ≡ false → y ≡ false → z ≡ false → v ≡ false
    → is_past 0 (fault_of {A = Step} (cond v (Ok (sayings.Foot, states.Outside)) (cond z (Ok (sayings.Open, states.Inside own events regions.Empty)) (Err causes.Syntax))))
    ≡ behind_word (cond x (Some wants.Sent) (cond y (Some wants.Received) (on (z || v) wants.LineEnd))) (λ last. is_end last)
closed_none own events x y z v p q r s = rw (p, q, r, s) refl

held_none : (own : List ℕ) (events : ℕ) (y u : Bool) → y ≡ false → u ≡ false
    → is_past 0 (fault_of {A = Step} (cond u (Ok (sayings.Shut, states.Inside own events regions.Closed)) (Err causes.Syntax)))
    ≡ behind_word (cond y (Some wants.Received) (on u wants.LineEnd)) (λ last. is_end last)
held_none own events y u p q = rw (p, q) refl

inside_rest : (own : List ℕ) (events : ℕ) (region : Region) {k : List ℕ} (words : List (List ℕ)) → IsInner k → is_past 0 (fault_of (inside_by own events region (k ∷ words))) ≡ has_form (want_of (states.Inside own events region)) (k ∷ words)
unfolding next chart_next begins_out begins_in alone_of is_last_word spelled
inside_rest own events regions.Closed words goes_out = out_form own events regions.Closed words ∙ sym (sent_form words)
inside_rest own events regions.Empty words goes_out = out_form own events regions.Empty words
inside_rest own events regions.Held words goes_out = out_form own events regions.Held words
inside_rest own events regions.Closed words comes_in = in_form own events regions.Closed words ∙ sym (received_form words)
inside_rest own events regions.Empty words comes_in = in_form own events regions.Empty words ∙ sym (received_form words)
inside_rest own events regions.Held words comes_in = in_form own events regions.Held words ∙ sym (received_form words)
inside_rest own events regions.Closed [] opens = refl
inside_rest own events regions.Empty [] opens = refl
inside_rest own events regions.Held [] opens = refl
inside_rest own events regions.Closed (w ∷ words) opens = alone_form own events regions.Closed (codes "concurrent;") words refl refl w
inside_rest own events regions.Empty (w ∷ words) opens = alone_form own events regions.Empty (codes "concurrent;") words refl refl w
inside_rest own events regions.Held (w ∷ words) opens = alone_form own events regions.Held (codes "concurrent;") words refl refl w
inside_rest own events regions.Closed [] leaves = refl
inside_rest own events regions.Empty [] leaves = refl
inside_rest own events regions.Held [] leaves = refl
inside_rest own events regions.Closed (w ∷ words) leaves = alone_form own events regions.Closed (codes "endinstance;") words refl refl w
inside_rest own events regions.Empty (w ∷ words) leaves = alone_form own events regions.Empty (codes "endinstance;") words refl refl w
inside_rest own events regions.Held (w ∷ words) leaves = alone_form own events regions.Held (codes "endinstance;") words refl refl w
inside_rest own events regions.Closed [] shuts = refl
inside_rest own events regions.Empty [] shuts = refl
inside_rest own events regions.Held [] shuts = refl
inside_rest own events regions.Closed (w ∷ words) shuts = alone_form own events regions.Closed (codes "endconcurrent;") words refl refl w
inside_rest own events regions.Empty (w ∷ words) shuts = alone_form own events regions.Empty (codes "endconcurrent;") words refl refl w
inside_rest own events regions.Held (w ∷ words) shuts = alone_form own events regions.Held (codes "endconcurrent;") words refl refl w
inside_rest own events regions.Closed {k} [] (none a b c d e) = closed_none own events (bytes_eq k (codes "out")) (bytes_eq k (codes "in")) (bytes_eq k (codes "concurrent;")) (bytes_eq k (codes "endinstance;")) a b c d
inside_rest own events regions.Empty {k} [] (none a b c d e) = rw b refl
inside_rest own events regions.Held {k} [] (none a b c d e) = held_none own events (bytes_eq k (codes "in")) (bytes_eq k (codes "endconcurrent;")) b e
inside_rest own events regions.Closed {k} (w ∷ words) (none a b c d e) = alone_form own events regions.Closed k words a b w ∙ rw (a, b, c, d) refl
inside_rest own events regions.Empty {k} (w ∷ words) (none a b c d e) = alone_form own events regions.Empty k words a b w ∙ rw b refl
inside_rest own events regions.Held {k} (w ∷ words) (none a b c d e) = alone_form own events regions.Held k words a b w ∙ rw (b, e) refl

inside_form : (own : List ℕ) (events : ℕ) (region : Region) (words : List (List ℕ)) → is_past 0 (fault_of (inside_by own events region words)) ≡ has_form (want_of (states.Inside own events region)) words
inside_form own events regions.Closed [] = refl
inside_form own events regions.Empty [] = refl
inside_form own events regions.Held [] = refl
inside_form own events region (k ∷ words) = inside_rest own events region words (inner_word k)

-- ---- any line

pub step_form : (state : State) (words : List (List ℕ)) → is_past 0 (fault_of (step_by state words)) ≡ has_form (want_of state) words
unfolding next chart_next
step_form states.Start words = start_form words
step_form states.Outside words = outside_form words
step_form (states.Inside own events region) words = inside_form own events region words
step_form states.Done [] = refl
step_form states.Done (word ∷ words) = refl

pub chart_form : (names : List (List ℕ)) (state : State) (words : List (List ℕ)) → is_past 0 (line_fault names state words) ≡ has_form (want_of state) words
chart_form names state words = past_step names (step_by state words) ∙ step_form state words
