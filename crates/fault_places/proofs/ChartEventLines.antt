-- The line of an event in a chart: its words, and the fault that it has by them.
use Rattle.std.proofs.Common.{◌≡◌, ◌≢◌, ℕ, ◌+◌, Bool, true, false, cond, ◌&&◌, List, [], ◌∷◌, Result, Ok, Err, ◌⊎◌, inl, inr, refl, sym, ap, ◌∙◌, subst}
use Rattle.std.specs.Prelude.{Option, None, Some, codes, bytes_eq, nat_le}
use Rattle.std.proofs.lemmas.Bool.{false≢true, and_parts}
use Rattle.std.proofs.lemmas.Option.{same_Some}
use Rattle.chart.specs.Keywords.{spelled, is_keyword}
use Rattle.chart.specs.Names.{IsName}
use Rattle.chart.specs.declared.line.TheConstants.{MAX_EVENTS}
use Rattle.fault_places.proofs.FreshNames.{not_same}
use Rattle.fault_places.specs.Carets.{fault_of, is_past, Takes}
use Rattle.fault_places.specs.ChartCarets.{want_of, line_fault, MayName, MayBe, IsChartCaret}
use Rattle.fault_places.specs.Spots.{name_in, named_by, is_name, is_unknown, is_partner, spot_from}
use Rattle.fault_places.specs.Wants.{on, begins_out, begins_in, chart_next, next}
use Rattle.fault_places.specs.declared.want.Want.{Want}
use Rattle.fault_places.specs.declared.want.Want.TheVariants as wants
use Rattle.msc_text.proofs.ReaderLemmas.Semicolons.{before_again, plain_again}
use Rattle.msc_text.specs.Reader.LastWords.{semi, is_last_word}
use Rattle.msc_text.specs.Reader.Reading.{names_after}
use Rattle.msc_text.specs.Reader.Steps.{Step, name_part, is_plain, pair_of, names_of, after_receive, send_of, receive_of, is_closed, event_of, alone_of}
use Rattle.msc_text.specs.declared.reader.state.Region.{Region}
use Rattle.msc_text.specs.declared.reader.state.Region.TheVariants as regions
use Rattle.msc_text.specs.declared.reader.state.Saying.{Saying}
use Rattle.msc_text.specs.declared.reader.state.Saying.TheVariants as sayings
use Rattle.msc_text.specs.declared.reader.state.State.{State}
use Rattle.msc_text.specs.declared.reader.state.State.TheVariants as states
use Rattle.texts.proofs.Lookups.{same_bytes}
use Rattle.texts.proofs.Parts.{lacks_if, lacks_append}
use Rattle.texts.proofs.Results.{name_is, name_again, name_has_no_space}
use Rattle.texts.specs.Faults.{◌>>=◌}
use Rattle.texts.specs.Lines.{Lacks, name_or_cause}
use Rattle.texts.specs.declared.fault.Cause.{Cause}
use Rattle.texts.specs.declared.fault.Cause.TheVariants as causes

-- the caret of a line with these words
abbrev pub CaretAt : List (List ℕ) → State → Cause → List (List ℕ) → List (List ℕ) → Type 0
CaretAt names state cause known words = IsChartCaret (line_fault names state) (MayName names state cause) state cause words (spot_from cause known words (want_of state) 0 0 words)

-- the form is right
pub no_form : (cause : Cause) → is_past 0 (Some cause) ≡ true → Some causes.Syntax ≡ Some cause → ⊥
no_form cause h e = false≢true (ap (is_past 0) e ∙ h)

-- no fault passes all checks
pub all_stop : (cause : Cause) → is_past 4 (Some cause) ≡ false
all_stop (causes.Name fault) = refl
all_stop causes.LineFull = refl
all_stop causes.Instances = refl
all_stop causes.Capacity = refl
all_stop causes.ToItself = refl
all_stop causes.Syntax = refl
all_stop causes.Duplicate = refl
all_stop causes.UnknownInstance = refl

-- ---- messages go out or come in

-- a line that is read
abbrev pub step_as : Saying → State → Result Step Cause
step_as saying state = Ok (saying, state)

abbrev pub sent : List ℕ → ℕ → List ℕ × List ℕ → Result Step Cause
sent own events pair = Ok (sayings.Send pair.1 pair.0, states.Inside own (events + 1) regions.Closed)

abbrev pub received : List ℕ → ℕ → Region → List ℕ × List ℕ → Result Step Cause
received own events region pair = Ok (sayings.Receive pair.1 pair.0, states.Inside own (events + 1) (after_receive region))

sent_fault : (names : List (List ℕ)) (own : List ℕ) (events : ℕ) (r : Result (List ℕ × List ℕ) Cause) → fault_of ((r >>= sent own events) >>= λ step. names_after names step.0) ≡ fault_of r
sent_fault names own events (Ok pair) = refl
sent_fault names own events (Err cause) = refl

received_fault : (names : List (List ℕ)) (own : List ℕ) (events : ℕ) (region : Region) (r : Result (List ℕ × List ℕ) Cause) → fault_of ((r >>= received own events region) >>= λ step. names_after names step.0) ≡ fault_of r
received_fault names own events region (Ok pair) = refl
received_fault names own events region (Err cause) = refl

-- the fault of a line that begins with this word, has this message and this last word, and any third word
abbrev pub Reads : List ℕ → List ℕ → ℕ → List ℕ → List ℕ → Option Cause → Type 0
Reads k own events m w fault = (fault ≡ Some causes.Syntax) ⊎ (fault ≡ fault_of (names_of own events m (name_part w)))

-- what may be in the place of a message and of a partner
pub data ArePlaces : Want → Want → Type 0 where
  outward : ArePlaces wants.Sent wants.Receiver
  inward : ArePlaces wants.Received wants.Sender

pub may_message : {message partner : Want} → ArePlaces message partner → (read : List (List ℕ) → Option Cause) (n : ℕ) (may : List ℕ → Type 0) (before : List (List ℕ)) → ((name : List ℕ) → IsName name → Takes read n before name) → MayBe read n may before message
may_message outward read n may before f = f
may_message inward read n may before f = f

pub may_partner : {message partner : Want} → ArePlaces message partner → (read : List (List ℕ) → Option Cause) (n : ℕ) (may : List ℕ → Type 0) (before : List (List ℕ)) → ((name : List ℕ) → IsName name → may name → Takes read n before (semi name)) → MayBe read n may before partner
may_partner outward read n may before f = f
may_partner inward read n may before f = f

-- the first and the third word of an event's line, and what may be after the first, the second and the third
pub record IsWay (region : Region) (k t : List ℕ) (message side partner : Want) : Type 0 where
  pub first : (own : List ℕ) (events : ℕ) → next (want_of (states.Inside own events region)) k ≡ Some message
  pub second : (m : List ℕ) → next message m ≡ on (is_plain m) side
  pub third : next side t ≡ Some partner
  pub first_name : (own : List ℕ) (events : ℕ) → is_name (want_of (states.Inside own events region)) ≡ false
  pub first_partner : (own : List ℕ) (events : ℕ) → is_partner (want_of (states.Inside own events region)) ≡ false
  pub message_name : is_name message ≡ true
  pub message_word : (m : List ℕ) → named_by message m ≡ m
  pub message_partner : is_partner message ≡ false
  pub side_name : is_name side ≡ false
  pub side_partner : is_partner side ≡ false
  pub partner_name : is_name partner ≡ true
  pub partner_word : (w : List ℕ) → named_by partner w ≡ name_in w
  pub partner_is : is_partner partner ≡ true
  pub lacks : Lacks 32 t
  pub read : (names : List (List ℕ)) (own : List ℕ) (events : ℕ) (m w : List ℕ) → line_fault names (states.Inside own events region) (k ∷ m ∷ t ∷ w ∷ []) ≡ fault_of (names_of own events m (name_part w))
  pub other : (names : List (List ℕ)) (own : List ℕ) (events : ℕ) (m s w : List ℕ) → Reads k own events m w (line_fault names (states.Inside own events region) (k ∷ m ∷ s ∷ w ∷ []))
  pub alone : (names : List (List ℕ)) (own : List ℕ) (events : ℕ) → line_fault names (states.Inside own events region) (k ∷ []) ≡ Some causes.Syntax
  pub places : ArePlaces message partner
  pub first_known : (known : List (List ℕ)) (own : List ℕ) (events : ℕ) → is_unknown known (want_of (states.Inside own events region)) k ≡ false
  pub message_known : (known : List (List ℕ)) (m : List ℕ) → is_unknown known message m ≡ false
  pub side_known : (known : List (List ℕ)) → is_unknown known side t ≡ false
  pub partner_unknown : (known : List (List ℕ)) (w : List ℕ) → is_unknown known partner w ≡ true

sends_other : (names : List (List ℕ)) (own : List ℕ) (events : ℕ) (m s w : List ℕ) → Reads (codes "out") own events m w (line_fault names (states.Inside own events regions.Closed) (codes "out" ∷ m ∷ s ∷ w ∷ []))
unfolding event_of send_of is_keyword spelled
sends_other names own events m s w = by (bytes_eq s (codes "to"))
  where
    by : (y : Bool) → Reads (codes "out") own events m w (fault_of (cond (y && true) (names_of own events m (name_part w) >>= sent own events) (Err causes.Syntax) >>= λ step. names_after names step.0))
    by true = inr (sent_fault names own events (names_of own events m (name_part w)))
    by false = inl refl

receives_other : (region : Region) (names : List (List ℕ)) (own : List ℕ) (events : ℕ) (m s w : List ℕ) → Reads (codes "in") own events m w (line_fault names (states.Inside own events region) (codes "in" ∷ m ∷ s ∷ w ∷ []))
unfolding event_of receive_of is_keyword spelled
receives_other region names own events m s w = by (bytes_eq s (codes "from"))
  where
    by : (y : Bool) → Reads (codes "in") own events m w (fault_of (cond y (names_of own events m (name_part w) >>= received own events region) (Err causes.Syntax) >>= λ step. names_after names step.0))
    by true = inr (received_fault names own events region (names_of own events m (name_part w)))
    by false = inl refl

receives_read : (region : Region) (names : List (List ℕ)) (own : List ℕ) (events : ℕ) (m w : List ℕ) → line_fault names (states.Inside own events region) (codes "in" ∷ m ∷ codes "from" ∷ w ∷ []) ≡ fault_of (names_of own events m (name_part w))
unfolding event_of receive_of is_keyword spelled
receives_read region names own events m w = received_fault names own events region (names_of own events m (name_part w))

pub sends : IsWay regions.Closed (codes "out") (codes "to") wants.Sent wants.To wants.Receiver
unfolding is_unknown next chart_next begins_out event_of alone_of send_of is_keyword is_last_word spelled
sends = record {
  first = λ own events. refl;
  second = λ m. refl;
  third = refl;
  first_name = λ own events. refl;
  first_partner = λ own events. refl;
  message_name = refl;
  message_word = λ m. refl;
  message_partner = refl;
  side_name = refl;
  side_partner = refl;
  partner_name = refl;
  partner_word = λ w. refl;
  partner_is = refl;
  lacks = lacks_if 32 (codes "to") refl;
  read = λ names own events m w. sent_fault names own events (names_of own events m (name_part w));
  other = sends_other;
  alone = λ names own events. refl;
  places = outward;
  first_known = λ known own events. refl;
  message_known = λ known m. refl;
  side_known = λ known. refl;
  partner_unknown = λ known w. refl;
}

-- what holds of a line that begins with `in`, whether a coregion is open or not
record IsIn (region : Region) : Type 0 where
  first : (own : List ℕ) (events : ℕ) → next (want_of (states.Inside own events region)) (codes "in") ≡ Some wants.Received
  first_name : (own : List ℕ) (events : ℕ) → is_name (want_of (states.Inside own events region)) ≡ false
  first_partner : (own : List ℕ) (events : ℕ) → is_partner (want_of (states.Inside own events region)) ≡ false
  alone : (names : List (List ℕ)) (own : List ℕ) (events : ℕ) → line_fault names (states.Inside own events region) (codes "in" ∷ []) ≡ Some causes.Syntax
  first_known : (known : List (List ℕ)) (own : List ℕ) (events : ℕ) → is_unknown known (want_of (states.Inside own events region)) (codes "in") ≡ false

is_in : (region : Region) → IsIn region
unfolding is_unknown next chart_next begins_out begins_in alone_of is_last_word spelled
is_in regions.Closed = record { first = λ own events. refl; first_name = λ own events. refl; first_partner = λ own events. refl; alone = λ names own events. refl; first_known = λ known own events. refl }
is_in regions.Empty = record { first = λ own events. refl; first_name = λ own events. refl; first_partner = λ own events. refl; alone = λ names own events. refl; first_known = λ known own events. refl }
is_in regions.Held = record { first = λ own events. refl; first_name = λ own events. refl; first_partner = λ own events. refl; alone = λ names own events. refl; first_known = λ known own events. refl }

pub receives : (region : Region) → IsWay region (codes "in") (codes "from") wants.Received wants.From wants.Sender
unfolding is_unknown next chart_next
receives region =
    let its = is_in region in
    record {
      first = its.first;
      second = λ m. refl;
      third = refl;
      first_name = its.first_name;
      first_partner = its.first_partner;
      message_name = refl;
      message_word = λ m. refl;
      message_partner = refl;
      side_name = refl;
      side_partner = refl;
      partner_name = refl;
      partner_word = λ w. refl;
      partner_is = refl;
      lacks = lacks_if 32 (codes "from") refl;
      read = receives_read region;
      other = receives_other region;
      alone = its.alone;
      places = inward;
      first_known = its.first_known;
      message_known = λ known m. refl;
      side_known = λ known. refl;
      partner_unknown = λ known w. refl;
    }

-- ---- a line with a fault of another kind is that of an event

pub record IsEventLine (own : List ℕ) (events : ℕ) (region : Region) (words : List (List ℕ)) (cause : Cause) : Type 0 where
  pub k : List ℕ
  pub m : List ℕ
  pub t : List ℕ
  pub w : List ℕ
  pub p : List ℕ
  pub message : Want
  pub side : Want
  pub partner : Want
  pub way : IsWay region k t message side partner
  pub are : words ≡ k ∷ m ∷ t ∷ w ∷ []
  pub part : name_part w ≡ Some p
  pub plain : is_plain m ≡ true
  pub fault : fault_of (pair_of own events m p) ≡ Some cause

not_alone : (names : List (List ℕ)) (own : List ℕ) (events : ℕ) (region : Region) (k : List ℕ) (cause : Cause) → is_past 0 (Some cause) ≡ true → line_fault names (states.Inside own events region) (k ∷ []) ≡ Some cause → ⊥
unfolding alone_of spelled
not_alone names own events regions.Closed k cause h e = by (is_last_word (codes "endinstance") k) (is_last_word (codes "concurrent") k) e
  where
    by : (x y : Bool) → fault_of {A = List (List ℕ)} (cond x (step_as sayings.Foot states.Outside) (cond y (step_as sayings.Open (states.Inside own events regions.Empty)) (Err causes.Syntax)) >>= λ step. names_after names step.0) ≡ Some cause → ⊥
    by true y e = absurd cc
    by false true e = absurd cc
    by false false e = no_form cause h e
not_alone names own events regions.Empty k cause h e = no_form cause h e
not_alone names own events regions.Held k cause h e = by (is_last_word (codes "endconcurrent") k) e
  where
    by : (x : Bool) → fault_of {A = List (List ℕ)} (cond x (step_as sayings.Shut (states.Inside own events regions.Closed)) (Err causes.Syntax) >>= λ step. names_after names step.0) ≡ Some cause → ⊥
    by true e = absurd cc
    by false e = no_form cause h e

-- the last word has a name's form, and so has the message
record AreNamed (own : List ℕ) (events : ℕ) (m w : List ℕ) (cause : Cause) : Type 0 where
  p : List ℕ
  part : name_part w ≡ Some p
  plain : is_plain m ≡ true
  fault : fault_of (pair_of own events m p) ≡ Some cause

named_words : (own : List ℕ) (events : ℕ) (m w : List ℕ) (cause : Cause) → is_past 0 (Some cause) ≡ true → (o : Option (List ℕ)) → name_part w ≡ o → fault_of (names_of own events m o) ≡ Some cause → AreNamed own events m w cause
unfolding names_of
named_words own events m w cause h None is e = absurd (no_form cause h e)
named_words own events m w cause h (Some p) is e = by (is_plain m) refl e
  where
    by : (b : Bool) → is_plain m ≡ b → fault_of (cond b (pair_of own events m p) (Err causes.Syntax)) ≡ Some cause → AreNamed own events m w cause
    by true plain e = record { p = p; part = is; plain = plain; fault = e }
    by false plain e = absurd (no_form cause h e)

closed_is : (region : Region) → is_closed region ≡ true → region ≡ regions.Closed
closed_is regions.Closed e = refl
closed_is regions.Empty e = absurd (false≢true e)
closed_is regions.Held e = absurd (false≢true e)

two_same : {k k' t t' : List ℕ} (m w : List ℕ) → k ≡ k' → t ≡ t' → k ∷ m ∷ t ∷ w ∷ [] ≡ k' ∷ m ∷ t' ∷ w ∷ []
two_same m w p q = cc

four_words : (names : List (List ℕ)) (own : List ℕ) (events : ℕ) (region : Region) (k m t w : List ℕ) (cause : Cause) → is_past 0 (Some cause) ≡ true → line_fault names (states.Inside own events region) (k ∷ m ∷ t ∷ w ∷ []) ≡ Some cause
    → IsEventLine own events region (k ∷ m ∷ t ∷ w ∷ []) cause
unfolding event_of receive_of send_of is_keyword spelled
four_words names own events region k m t w cause h e = by (bytes_eq k (codes "in") && bytes_eq t (codes "from")) refl ((bytes_eq k (codes "out") && bytes_eq t (codes "to")) && is_closed region) refl e
  where
    pairs : Result (List ℕ × List ℕ) Cause
    pairs = names_of own events m (name_part w)

    by : (x : Bool) → (bytes_eq k (codes "in") && bytes_eq t (codes "from")) ≡ x → (y : Bool) → ((bytes_eq k (codes "out") && bytes_eq t (codes "to")) && is_closed region) ≡ y
        → fault_of {A = List (List ℕ)} (cond x (pairs >>= received own events region) (cond y (pairs >>= sent own events) (Err causes.Syntax)) >>= λ step. names_after names step.0) ≡ Some cause
        → IsEventLine own events region (k ∷ m ∷ t ∷ w ∷ []) cause
    by true p y q e =
        let both = and_parts (bytes_eq k (codes "in")) (bytes_eq t (codes "from")) p in
        let n = named_words own events m w cause h (name_part w) refl (sym (received_fault names own events region pairs) ∙ e) in
        record {
          k = codes "in";
          m = m;
          t = codes "from";
          w = w;
          p = n.p;
          message = wants.Received;
          side = wants.From;
          partner = wants.Sender;
          way = receives region;
          are = two_same m w (same_bytes k (codes "in") both.0) (same_bytes t (codes "from") both.1);
          part = n.part;
          plain = n.plain;
          fault = n.fault;
        }
    by false p true q e =
        let one = and_parts (bytes_eq k (codes "out") && bytes_eq t (codes "to")) (is_closed region) q in
        let two = and_parts (bytes_eq k (codes "out")) (bytes_eq t (codes "to")) one.0 in
        let n = named_words own events m w cause h (name_part w) refl (sym (sent_fault names own events pairs) ∙ e) in
        record {
          k = codes "out";
          m = m;
          t = codes "to";
          w = w;
          p = n.p;
          message = wants.Sent;
          side = wants.To;
          partner = wants.Receiver;
          way = subst (λ r. IsWay r (codes "out") (codes "to") wants.Sent wants.To wants.Receiver) (sym (closed_is region one.1)) sends;
          are = two_same m w (same_bytes k (codes "out") two.0) (same_bytes t (codes "to") two.1);
          part = n.part;
          plain = n.plain;
          fault = n.fault;
        }
    by false p false q e = absurd (no_form cause h e)

pub event_line : (names : List (List ℕ)) (own : List ℕ) (events : ℕ) (region : Region) (words : List (List ℕ)) (cause : Cause) → is_past 0 (Some cause) ≡ true → line_fault names (states.Inside own events region) words ≡ Some cause
    → IsEventLine own events region words cause
event_line names own events region [] cause h e = absurd (no_form cause h e)
event_line names own events region (k ∷ []) cause h e = absurd (not_alone names own events region k cause h e)
event_line names own events region (k ∷ m ∷ []) cause h e = absurd (no_form cause h e)
event_line names own events region (k ∷ m ∷ t ∷ []) cause h e = absurd (no_form cause h e)
event_line names own events region (k ∷ m ∷ t ∷ w ∷ []) cause h e = four_words names own events region k m t w cause h e
event_line names own events region (k ∷ m ∷ t ∷ w ∷ u ∷ words) cause h e = absurd (no_form cause h e)

-- ---- the fault of a message and a partner

pub data IsPairFault : List ℕ → ℕ → List ℕ → List ℕ → Cause → Type 0 where
  of_message : {own : List ℕ} {events : ℕ} {m p : List ℕ} {cause : Cause} → name_or_cause m ≡ Err cause → IsPairFault own events m p cause
  of_partner : {own : List ℕ} {events : ℕ} {m p : List ℕ} {cause : Cause} → IsName m → name_or_cause p ≡ Err cause → IsPairFault own events m p cause
  itself : {own : List ℕ} {events : ℕ} {m p : List ℕ} {cause : Cause} → IsName m → causes.ToItself ≡ cause → IsPairFault own events m p cause
  no_room : {own : List ℕ} {events : ℕ} {m p : List ℕ} {cause : Cause} → nat_le MAX_EVENTS events ≡ true → causes.LineFull ≡ cause → IsPairFault own events m p cause

pub pair_fault : (own : List ℕ) (events : ℕ) (m p : List ℕ) (cause : Cause) → fault_of (pair_of own events m p) ≡ Some cause → IsPairFault own events m p cause
unfolding pair_of
pair_fault own events m p cause e = by (name_or_cause m) refl (name_or_cause p) refl e
  where
    late : IsName m → (v u : List ℕ) (x : Bool) (y : Bool) → nat_le MAX_EVENTS events ≡ y → fault_of {A = List ℕ × List ℕ} (cond x (Err causes.ToItself) (cond y (Err causes.LineFull) (Ok (v, u)))) ≡ Some cause → IsPairFault own events m p cause
    late is v u true y f e = itself is (same_Some causes.ToItself cause e)
    late is v u false true f e = no_room f (same_Some causes.LineFull cause e)
    late is v u false false f e = absurd cc

    by : (r : Result (List ℕ) Cause) → name_or_cause m ≡ r → (s : Result (List ℕ) Cause) → name_or_cause p ≡ s
        → fault_of {A = List ℕ × List ℕ} (r >>= λ name. s >>= λ other. cond (bytes_eq other own) (Err causes.ToItself) (cond (nat_le MAX_EVENTS events) (Err causes.LineFull) (Ok (name, other)))) ≡ Some cause
        → IsPairFault own events m p cause
    by (Err c) a s b e = of_message (a ∙ ap Err (same_Some c cause e))
    by (Ok v) a (Err c) b e = of_partner (name_is m v a).1 (b ∙ ap Err (same_Some c cause e))
    by (Ok v) a (Ok u) b e = late (name_is m v a).1 v u (bytes_eq u own) (nat_le MAX_EVENTS events) refl e

-- names of which both are names
abbrev pub late_fault : Bool → Bool → List ℕ → List ℕ → Option Cause
late_fault x y m p = fault_of {A = List ℕ × List ℕ} (cond x (Err causes.ToItself) (cond y (Err causes.LineFull) (Ok (m, p))))

pub pair_named : (own : List ℕ) (events : ℕ) (m p : List ℕ) → IsName m → IsName p → fault_of (names_of own events m (name_part (semi p))) ≡ late_fault (bytes_eq p own) (nat_le MAX_EVENTS events) m p
unfolding names_of pair_of
pair_named own events m p is its = rw (before_again p its, plain_again m is, name_again m is, name_again p its) refl

early : (x y : Bool) (m p : List ℕ) → is_past 1 (late_fault x y m p) ≡ true
early true y m p = refl
early false true m p = refl
early false false m p = refl

other_early : (y : Bool) (m p : List ℕ) → is_past 3 (late_fault false y m p) ≡ true
other_early true m p = refl
other_early false m p = refl

pub takes_names : (own : List ℕ) (events : ℕ) (m p : List ℕ) → IsName m → IsName p → is_past 1 (fault_of (names_of own events m (name_part (semi p)))) ≡ true
takes_names own events m p is its = ap (is_past 1) (pair_named own events m p is its) ∙ early (bytes_eq p own) (nat_le MAX_EVENTS events) m p

pub takes_other : (own : List ℕ) (events : ℕ) (m p : List ℕ) → IsName m → IsName p → p ≢ own → is_past 3 (fault_of (names_of own events m (name_part (semi p)))) ≡ true
takes_other own events m p is its other =
    ap (is_past 3) (pair_named own events m p is its) ∙ ap (λ b. is_past 3 (late_fault b (nat_le MAX_EVENTS events) m p)) (not_same p own other) ∙ other_early (nat_le MAX_EVENTS events) m p

pub last_lacks : (name : List ℕ) → IsName name → Lacks 32 (semi name)
last_lacks name is = lacks_append 32 name (59 ∷ []) (name_has_no_space name is) (lacks_if 32 (59 ∷ []) refl)
