-- What the line of an event means, and that its event is built.
use Rattle.std.proofs.Common.{◌≡◌, ℕ, ◌+◌, ◌<◌, true, List, ◌∷◌, ◌++◌, Option, Some, None, Result, Ok, Err, inl, inr, ◌⊎◌, refl, sym, ap, ◌∙◌, subst}
use Rattle.std.specs.List.{join_with_byte}
use Rattle.std.specs.Prelude.{codes, IfSome}
use Rattle.chart.specs.Events.{partner_of, region_of}
use Rattle.chart.specs.Keywords.{spelled}
use Rattle.chart.specs.Names.{IsName, instance_of}
use Rattle.chart.specs.declared.event.Event.{Event}
use Rattle.chart.specs.declared.event.Event.TheVariants as line_events
use Rattle.chart.specs.declared.keyword.Keyword.TheVariants as keywords
use Rattle.chart.specs.declared.line.TheConstants.{MAX_EVENTS}
use Rattle.texts.specs.Instances.{name_at, known, known_of}
use Rattle.texts.specs.Lines.{words_of, name_or_cause}
use Rattle.texts.specs.declared.fault.Cause.{Cause}
use Rattle.texts.specs.Reading.NamedWords.{IsNamed as IsNamedWord}
use Rattle.texts.proofs.Lookups.{instance_is}
use Rattle.texts.proofs.Parts.{Cons, words_cons, words_joined}
use Rattle.texts.proofs.Results.{bind_at, name_is}
use Rattle.msc_text.specs.Reader.Builders.{BuilderView, built, with_event, with_send, with_receive}
use Rattle.msc_text.specs.Reader.EventLines.{event_words, AreFound, saying_of, IsInOpen, IsEventLine}
use Rattle.msc_text.specs.Reader.LastWords.{semi}
use Rattle.msc_text.specs.Reader.Steps.{after_receive, is_closed, step_of}
use Rattle.msc_text.specs.declared.reader.state.State.{State}
use Rattle.msc_text.specs.declared.reader.state.State.TheVariants as states
use Rattle.msc_text.specs.declared.reader.state.Region.{Region}
use Rattle.msc_text.specs.declared.reader.state.Region.TheVariants as regions
use Rattle.msc_text.specs.declared.reader.state.Saying.TheVariants as sayings
use Rattle.msc_text.proofs.ReaderLemmas.Moves.{IsEvent}
use Rattle.msc_text.proofs.ReaderLemmas.Moves.Moves.{sends, receives}
use Rattle.msc_text.proofs.ReaderLemmas.SayingsAgain.{line-again}

joined-cons : (word : List ℕ) (words : List (List ℕ)) → Cons words → join_with_byte 32 (word ∷ words) ≡ word ++ 32 ∷ join_with_byte 32 words
joined-cons word words c = ap (λ l. join_with_byte 32 (word ∷ l)) c.is ∙ sym (ap (λ l. word ++ 32 ∷ join_with_byte 32 l) c.is)

-- a word, its space and the rest are the line
pub word_rest : (line word rest : List ℕ) → words_of line ≡ word ∷ words_of rest → line ≡ word ++ 32 ∷ rest
word_rest line word rest e =
    sym (words_joined line) ∙ ap (join_with_byte 32) e ∙ joined-cons word (words_of rest) (words_cons rest) ∙ ap (λ l. word ++ 32 ∷ l) (words_joined rest)

-- the words of an event's line, one after the other
pub out_line : (line rest message side word partner : List ℕ) → line ≡ codes "out " ++ rest → words_of rest ≡ message ∷ words_of side → side ≡ codes "to " ++ word → word ≡ semi partner → line ≡ event_words keywords.Out message keywords.To partner
unfolding spelled
out_line line rest message side word partner a b c d =
    a ∙ ap (λ r. codes "out " ++ r) (word_rest rest message side b) ∙ ap (λ r. codes "out " ++ (message ++ 32 ∷ r)) (c ∙ ap (λ r. codes "to " ++ r) d)

pub in_line_is : (line rest message side word partner : List ℕ) → line ≡ codes "in " ++ rest → words_of rest ≡ message ∷ words_of side → side ≡ codes "from " ++ word → word ≡ semi partner → line ≡ event_words keywords.In message keywords.From partner
unfolding spelled
in_line_is line rest message side word partner a b c d =
    a ∙ ap (λ r. codes "in " ++ r) (word_rest rest message side b) ∙ ap (λ r. codes "in " ++ (message ++ 32 ∷ r)) (c ∙ ap (λ r. codes "from " ++ r) d)

-- two words, of which an instance and a name were found
pub are_found : (names : List (List ℕ)) (own message partner : List ℕ) (found : Result (Result ℕ Cause) Cause) (number : ℕ) (name : List ℕ) → IsNamedWord names partner found → found ≡ Ok (Ok number) → name_or_cause message ≡ Ok name → ((own ≡ partner) → ⊥)
    → AreFound names own message partner number name
are_found names own message partner (Ok (Ok q)) number name h e named other =
    let is = name_is partner h.0 h.1 in
    let same : q ≡ number = cc in
    record { message_named = named; partner_named = h.1 ∙ ap Ok is.0; partner_known = ap (known_of names) (sym is.0) ∙ h.2 ∙ ap Ok same; other = other }
are_found names own message partner (Ok (Err cause)) number name h e named other = cc
are_found names own message partner (Err cause) number name h e named other = cc

found_event : {names : List (List ℕ)} {own message partner name : List ℕ} {number events : ℕ} → AreFound names own message partner number name → events < MAX_EVENTS → IsEvent own events partner name
found_event {message = message} {partner = partner} {name = name} f room =
    let named = name_is message name f.message_named in
    record {
      partner_name = (name_is partner partner f.partner_named).1;
      message_name = subst IsName (sym named.0) named.1;
      other = λ same. f.other (sym same);
      room = room;
    }

known_is : (names : List (List ℕ)) (partner : List ℕ) (number : ℕ) (o : Option ℕ) → instance_of names partner ≡ o → known o ≡ Ok number → instance_of names partner ≡ Some number
known_is names partner number None is e = cc
known_is names partner number (Some other) is e = let same : other ≡ number = cc in is ∙ ap Some same

has_name : (names : List (List ℕ)) (partner : List ℕ) (number : ℕ) → known_of names partner ≡ Ok number → name_at names number ≡ partner
unfolding known_of
has_name names partner number e = (instance_is names partner number (known_is names partner number (instance_of names partner) refl e)).has

closed_is : (region : Region) → is_closed region ≡ true → regions.Closed ≡ region
closed_is regions.Closed e = refl
closed_is regions.Empty e = cc
closed_is regions.Held e = cc

send_closed : {names : List (List ℕ)} {own line message partner name : List ℕ} {number events : ℕ} (open_region : ℕ) → line ≡ event_words keywords.Out message keywords.To partner → AreFound names own message partner number name → events < MAX_EVENTS
    → IsEventLine names open_region (states.Inside own events regions.Closed) line (line_events.Send number name) (states.Inside own (events + 1) regions.Closed)
send_closed {names} {own} {line} {message} {partner} {name} {number} {events} open_region is f room =
    let named = name_is message name f.message_named in
    let has = has_name names partner number f.partner_known in
    let says : line ≡ event_words keywords.Out name keywords.To partner = is ∙ ap (λ m. event_words keywords.Out m keywords.To partner) (sym named.0) in
    record {
      step = ap (step_of (states.Inside own events regions.Closed)) says ∙ line-again (sends (found_event f room)) ∙ ap (λ w. Ok (sayings.Send w name, states.Inside own (events + 1) regions.Closed)) (sym has);
      known = ap (known_of names) has ∙ f.partner_known;
      within = tt;
    }

pub send_line : {names : List (List ℕ)} {own line message partner name : List ℕ} {number events : ℕ} (region : Region) (open_region : ℕ) → is_closed region ≡ true → line ≡ event_words keywords.Out message keywords.To partner
    → AreFound names own message partner number name → events < MAX_EVENTS → IsEventLine names open_region (states.Inside own events region) line (line_events.Send number name) (states.Inside own (events + 1) regions.Closed)
send_line {names} {own} {line} {message} {partner} {name} {number} {events} region open_region closed is f room =
    subst (λ r. IsEventLine names open_region (states.Inside own events r) line (line_events.Send number name) (states.Inside own (events + 1) regions.Closed)) (closed_is region closed) (send_closed open_region is f room)

-- a send is in no coregion, whichever one is open
pub in_any : (names : List (List ℕ)) (state : State) (line : List ℕ) (open_region : ℕ) (r : Option (Event × State)) → IfSome r (λ x. (other : ℕ) → IsEventLine names other state line x.0 x.1)
    → IfSome r (λ x. IsEventLine names open_region state line x.0 x.1)
in_any names state line open_region (Some x) h = h open_region
in_any names state line open_region None h = tt

pub receive_line : {names : List (List ℕ)} {own line message partner name : List ℕ} {number events : ℕ} (region : Region) (open_region : ℕ) → line ≡ event_words keywords.In message keywords.From partner → AreFound names own message partner number name → events < MAX_EVENTS
    → IsEventLine names open_region (states.Inside own events region) line (line_events.Receive number name open_region) (states.Inside own (events + 1) (after_receive region))
receive_line {names} {own} {line} {message} {partner} {name} {number} {events} region open_region is f room =
    let named = name_is message name f.message_named in
    let has = has_name names partner number f.partner_known in
    let says : line ≡ event_words keywords.In name keywords.From partner = is ∙ ap (λ m. event_words keywords.In m keywords.From partner) (sym named.0) in
    record {
      step = ap (step_of (states.Inside own events region)) says ∙ line-again (receives (found_event f room)) ∙ ap (λ w. Ok (sayings.Receive w name, states.Inside own (events + 1) (after_receive region))) (sym has);
      known = ap (known_of names) has ∙ f.partner_known;
      within = refl;
    }

-- ---- the event that is built

pub event_built : (names : List (List ℕ)) (d : BuilderView) (m : Event) → known_of names (name_at names (partner_of m)) ≡ Ok (partner_of m) → IsInOpen d.open_region m → built names d (saying_of names m) ≡ with_event d d.line m
unfolding with_send with_receive
event_built names d (line_events.Send to name) k within = bind_at (known_of names (name_at names to)) (λ partner. with_event d d.line (line_events.Send partner name)) to k
event_built names d (line_events.Receive from name region) k within =
    bind_at (known_of names (name_at names from)) (λ partner. with_event d d.line (line_events.Receive partner name d.open_region)) from k ∙ ap (λ r. with_event d d.line (line_events.Receive from name r)) (sym within)

-- it is in the open coregion or in none
pub event_region : (open_region : ℕ) (m : Event) → IsInOpen open_region m → (region_of m ≡ 0) ⊎ (region_of m ≡ open_region)
event_region open_region (line_events.Send to name) within = inl refl
event_region open_region (line_events.Receive from name region) within = inr within
