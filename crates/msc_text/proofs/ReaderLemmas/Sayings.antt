-- Lines that are read, and their words: laws about lists alone.
use Rattle.std.proofs.Common.{◌≡◌, ◌≢◌, ℕ, ◌+◌, Bool, true, false, cond, ◌&&◌, List, [], ◌∷◌, Option, Some, None, Ok, Err, refl, sym, ap, ◌∙◌, subst, inl, inr}
use Rattle.std.specs.Prelude.{bytes_eq, nat_le}
use Rattle.std.proofs.lemmas.Bool.{false≢true, leb-false}
use Rattle.chart.specs.Keywords.{spelled, is_keyword}
use Rattle.chart.specs.declared.keyword.Keyword.TheVariants as keywords
use Rattle.chart.specs.Names.{IsName}
use Rattle.chart.specs.declared.line.TheConstants.{MAX_EVENTS}
use Rattle.texts.specs.Faults.{◌>>=◌}
use Rattle.texts.specs.Lines.{name_or_cause}
use Rattle.texts.specs.declared.fault.Cause.TheVariants.{Syntax, ToItself, LineFull}
use Rattle.texts.proofs.Lookups.{same_bytes, same_itself}
use Rattle.texts.proofs.Results.{bind_ok, guard_ok, when_ok, chosen, ok_is, name_is}
use Rattle.msc_text.specs.ChartText.{chart_name}
use Rattle.msc_text.specs.Reader.LastWords.{semi, is_last_word}
use Rattle.msc_text.specs.Reader.Steps.{Step, name_part, is_plain, start_by, head_of, outside_by, pair_of, names_of, after_receive, send_of, receive_of, is_closed, event_of, alone_of, inside_by, step_by}
use Rattle.msc_text.specs.declared.reader.state.State.{State}
use Rattle.msc_text.specs.declared.reader.state.State.TheVariants as states
use Rattle.msc_text.specs.declared.reader.state.Region.{Region}
use Rattle.msc_text.specs.declared.reader.state.Region.TheVariants as regions
use Rattle.msc_text.specs.declared.reader.state.Saying.TheVariants as sayings
use Rattle.msc_text.proofs.ReaderLemmas.Moves.{IsEvent, Moves, saying_words}
use Rattle.msc_text.proofs.ReaderLemmas.Moves.Moves.{begins, heads, ends, sends, receives, opens, shuts, leaves}
use Rattle.msc_text.proofs.ReaderLemmas.Semicolons.{before_is}

-- the words are those of a line that may come in this state
pub record Says (state : State) (words : List (List ℕ)) (step : Step) : Type 0 where
  pub moves : Moves state step.0 step.1
  pub are : words ≡ saying_words step.0

both : (a b : Bool) → (a && b) ≡ true → (a ≡ true) × (b ≡ true)
both true b e = (refl, e)
both false b e = cc

-- ---- what is read has these words

start-says : (words : List (List ℕ)) (step : Step) → start_by words ≡ Ok step → Says states.Start words step
unfolding is_keyword is_last_word
start-says [] step e = cc
start-says (m ∷ []) step e = cc
start-says (m ∷ r ∷ []) step e =
    let g = when_ok (is_keyword keywords.Msc m && is_last_word chart_name r) Syntax (Ok (sayings.Begin, states.Outside)) step e in
    let k = both (is_keyword keywords.Msc m) (is_last_word chart_name r) g.0 in
    let one = same_bytes m (spelled keywords.Msc) k.0 in
    let two = same_bytes r (semi chart_name) k.1 in
    subst (Says states.Start (m ∷ r ∷ [])) (ok_is (sayings.Begin, states.Outside) step g.1) (record { moves = begins; are = ap (λ x. x ∷ r ∷ []) one ∙ ap (λ x. spelled keywords.Msc ∷ x ∷ []) two })
start-says (m ∷ r ∷ x ∷ words) step e = cc

head-says : (k w : List ℕ) (o : Option (List ℕ)) (step : Step) → is_keyword keywords.Instance k ≡ true → name_part w ≡ o → head_of o ≡ Ok step → Says states.Outside (k ∷ w ∷ []) step
unfolding head_of is_keyword
head-says k w None step word is e = cc
head-says k w (Some name) step word is e =
    let a = bind_ok (name_or_cause name) (λ own. Ok (sayings.Head own, states.Inside own 0 regions.Closed)) step e in
    let named = name_is name a.0 a.1 in
    let own : IsName a.0 = subst IsName (sym named.0) named.1 in
    let one = same_bytes k (spelled keywords.Instance) word in
    let two : w ≡ semi a.0 = before_is w name is ∙ ap semi (sym named.0) in
    subst (Says states.Outside (k ∷ w ∷ [])) (ok_is (sayings.Head a.0, states.Inside a.0 0 regions.Closed) step a.2) (record { moves = heads own; are = ap (λ x. x ∷ w ∷ []) one ∙ ap (λ x. spelled keywords.Instance ∷ x ∷ []) two })

end-says : (k : List ℕ) (step : Step) → cond (is_last_word (spelled keywords.EndMsc) k) (Ok (sayings.End, states.Done)) (Err Syntax) ≡ Ok step → Says states.Outside (k ∷ []) step
unfolding is_last_word
end-says k step e =
    let g = when_ok (is_last_word (spelled keywords.EndMsc) k) Syntax (Ok (sayings.End, states.Done)) step e in
    subst (Says states.Outside (k ∷ [])) (ok_is (sayings.End, states.Done) step g.1) (record { moves = ends; are = ap (λ x. x ∷ []) (same_bytes k (semi (spelled keywords.EndMsc)) g.0) })

outside-says : (words : List (List ℕ)) (step : Step) → outside_by words ≡ Ok step → Says states.Outside words step
outside-says [] step e = cc
outside-says (k ∷ []) step e = end-says k step e
outside-says (k ∷ w ∷ []) step e =
    let g = when_ok (is_keyword keywords.Instance k) Syntax (head_of (name_part w)) step e in
    head-says k w (name_part w) step g.0 refl g.1
outside-says (k ∷ w ∷ x ∷ words) step e = cc

-- two words are the names of an event
record AreNames (own : List ℕ) (events : ℕ) (m w : List ℕ) (pair : List ℕ × List ℕ) : Type 0 where
  pub message : m ≡ pair.0
  pub partner : w ≡ semi pair.1
  pub event : IsEvent own events pair.1 pair.0

pub differs : (a b : List ℕ) → bytes_eq a b ≡ false → a ≢ b
differs a b e same = false≢true (sym e ∙ ap (λ x. bytes_eq x b) same ∙ same_itself b)

pair-names : (own : List ℕ) (events : ℕ) (m p w : List ℕ) (pair : List ℕ × List ℕ) → w ≡ semi p → pair_of own events m p ≡ Ok pair → AreNames own events m w pair
unfolding pair_of
pair-names own events m p w pair is e =
    let a = bind_ok (name_or_cause m) (λ name. name_or_cause p >>= λ other. cond (bytes_eq other own) (Err ToItself) (cond (nat_le MAX_EVENTS events) (Err LineFull) (Ok (name, other)))) pair e in
    let b = bind_ok (name_or_cause p) (λ other. cond (bytes_eq other own) (Err ToItself) (cond (nat_le MAX_EVENTS events) (Err LineFull) (Ok (a.0, other)))) pair a.2 in
    let g = guard_ok (bytes_eq b.0 own) ToItself (cond (nat_le MAX_EVENTS events) (Err LineFull) (Ok (a.0, b.0))) pair b.2 in
    let h = guard_ok (nat_le MAX_EVENTS events) LineFull (Ok (a.0, b.0)) pair g.1 in
    let message = name_is m a.0 a.1 in
    let partner = name_is p b.0 b.1 in
    subst (AreNames own events m w) (ok_is (a.0, b.0) pair h.1) (record {
      message = sym message.0;
      partner = is ∙ ap semi (sym partner.0);
      event = record {
        partner_name = subst IsName (sym partner.0) partner.1;
        message_name = subst IsName (sym message.0) message.1;
        other = differs b.0 own g.0;
        room = leb-false MAX_EVENTS events h.0;
      };
    })

names-names : (own : List ℕ) (events : ℕ) (m w : List ℕ) (o : Option (List ℕ)) (pair : List ℕ × List ℕ) → name_part w ≡ o → names_of own events m o ≡ Ok pair → AreNames own events m w pair
unfolding names_of
names-names own events m w None pair is e = cc
names-names own events m w (Some p) pair is e =
    let g = when_ok (is_plain m) Syntax (pair_of own events m p) pair e in
    pair-names own events m p w pair (before_is w p is) g.1

four : {a a' b b' c c' d d' : List ℕ} → a ≡ a' → b ≡ b' → c ≡ c' → d ≡ d' → a ∷ b ∷ c ∷ d ∷ [] ≡ a' ∷ b' ∷ c' ∷ d' ∷ []
four p q r s = cc

send-says : (own : List ℕ) (events : ℕ) (k m t w : List ℕ) (step : Step) → is_keyword keywords.Out k ≡ true → is_keyword keywords.To t ≡ true → send_of own events m w ≡ Ok step → Says (states.Inside own events regions.Closed) (k ∷ m ∷ t ∷ w ∷ []) step
unfolding send_of is_keyword
send-says own events k m t w step word other e =
    let a = bind_ok (names_of own events m (name_part w)) (λ pair. Ok (sayings.Send pair.1 pair.0, states.Inside own (events + 1) regions.Closed)) step e in
    let names = names-names own events m w (name_part w) a.0 refl a.1 in
    subst (Says (states.Inside own events regions.Closed) (k ∷ m ∷ t ∷ w ∷ [])) (ok_is (sayings.Send a.0.1 a.0.0, states.Inside own (events + 1) regions.Closed) step a.2)
    (record { moves = sends names.event; are = four (same_bytes k (spelled keywords.Out) word) names.message (same_bytes t (spelled keywords.To) other) names.partner })

receive-says : (own : List ℕ) (events : ℕ) (region : Region) (k m t w : List ℕ) (step : Step) → is_keyword keywords.In k ≡ true → is_keyword keywords.From t ≡ true → receive_of own events region m w ≡ Ok step → Says (states.Inside own events region) (k ∷ m ∷ t ∷ w ∷ []) step
unfolding receive_of is_keyword
receive-says own events region k m t w step word other e =
    let a = bind_ok (names_of own events m (name_part w)) (λ pair. Ok (sayings.Receive pair.1 pair.0, states.Inside own (events + 1) (after_receive region))) step e in
    let names = names-names own events m w (name_part w) a.0 refl a.1 in
    subst (Says (states.Inside own events region) (k ∷ m ∷ t ∷ w ∷ [])) (ok_is (sayings.Receive a.0.1 a.0.0, states.Inside own (events + 1) (after_receive region)) step a.2)
    (record { moves = receives names.event; are = four (same_bytes k (spelled keywords.In) word) names.message (same_bytes t (spelled keywords.From) other) names.partner })

no_send : (b : Bool) → (b && false) ≡ true → ⊥
no_send true e = cc
no_send false e = cc

sends-says : (own : List ℕ) (events : ℕ) (region : Region) (k m t w : List ℕ) (step : Step) → (is_keyword keywords.Out k && is_keyword keywords.To t && is_closed region) ≡ true → send_of own events m w ≡ Ok step → Says (states.Inside own events region) (k ∷ m ∷ t ∷ w ∷ []) step
sends-says own events regions.Closed k m t w step test e =
    let two = both (is_keyword keywords.Out k) (is_keyword keywords.To t) (both (is_keyword keywords.Out k && is_keyword keywords.To t) true test).0 in
    send-says own events k m t w step two.0 two.1 e
sends-says own events regions.Empty k m t w step test e = absurd (no_send (is_keyword keywords.Out k && is_keyword keywords.To t) test)
sends-says own events regions.Held k m t w step test e = absurd (no_send (is_keyword keywords.Out k && is_keyword keywords.To t) test)

event-says : (own : List ℕ) (events : ℕ) (region : Region) (k m t w : List ℕ) (step : Step) → event_of own events region k m t w ≡ Ok step → Says (states.Inside own events region) (k ∷ m ∷ t ∷ w ∷ []) step
unfolding event_of
event-says own events region k m t w step e =
    elim (chosen (is_keyword keywords.In k && is_keyword keywords.From t) (receive_of own events region m w) (cond (is_keyword keywords.Out k && is_keyword keywords.To t && is_closed region) (send_of own events m w) (Err Syntax)) (Ok step) e) [
      | inl a ↦ (let two = both (is_keyword keywords.In k) (is_keyword keywords.From t) a.0 in receive-says own events region k m t w step two.0 two.1 a.1)
      | inr b ↦ (let g = when_ok (is_keyword keywords.Out k && is_keyword keywords.To t && is_closed region) Syntax (send_of own events m w) step b.1 in sends-says own events region k m t w step g.0 g.1)
    ]

alone-says : (own : List ℕ) (events : ℕ) (region : Region) (k : List ℕ) (step : Step) → alone_of own events region k ≡ Ok step → Says (states.Inside own events region) (k ∷ []) step
unfolding alone_of is_last_word
alone-says own events regions.Closed k step e =
    elim (chosen (is_last_word (spelled keywords.EndInstance) k) (Ok (sayings.Foot, states.Outside)) (cond (is_last_word (spelled keywords.Concurrent) k) (Ok (sayings.Open, states.Inside own events regions.Empty)) (Err Syntax)) (Ok step) e) [
      | inl a ↦ subst (Says (states.Inside own events regions.Closed) (k ∷ [])) (ok_is (sayings.Foot, states.Outside) step a.1) (record { moves = leaves; are = ap (λ x. x ∷ []) (same_bytes k (semi (spelled keywords.EndInstance)) a.0) })
      | inr b ↦ (let g = when_ok (is_last_word (spelled keywords.Concurrent) k) Syntax (Ok (sayings.Open, states.Inside own events regions.Empty)) step b.1 in
          subst (Says (states.Inside own events regions.Closed) (k ∷ [])) (ok_is (sayings.Open, states.Inside own events regions.Empty) step g.1) (record { moves = opens; are = ap (λ x. x ∷ []) (same_bytes k (semi (spelled keywords.Concurrent)) g.0) }))
    ]
alone-says own events regions.Empty k step e = cc
alone-says own events regions.Held k step e =
    let g = when_ok (is_last_word (spelled keywords.EndConcurrent) k) Syntax (Ok (sayings.Shut, states.Inside own events regions.Closed)) step e in
    subst (Says (states.Inside own events regions.Held) (k ∷ [])) (ok_is (sayings.Shut, states.Inside own events regions.Closed) step g.1) (record { moves = shuts; are = ap (λ x. x ∷ []) (same_bytes k (semi (spelled keywords.EndConcurrent)) g.0) })

inside-says : (own : List ℕ) (events : ℕ) (region : Region) (words : List (List ℕ)) (step : Step) → inside_by own events region words ≡ Ok step → Says (states.Inside own events region) words step
inside-says own events region [] step e = cc
inside-says own events region (k ∷ []) step e = alone-says own events region k step e
inside-says own events region (k ∷ m ∷ []) step e = cc
inside-says own events region (k ∷ m ∷ t ∷ []) step e = cc
inside-says own events region (k ∷ m ∷ t ∷ w ∷ []) step e = event-says own events region k m t w step e
inside-says own events region (k ∷ m ∷ t ∷ w ∷ x ∷ words) step e = cc

-- a line that is read has the words of its meaning, and may come in its state
pub step-says : (state : State) (words : List (List ℕ)) (step : Step) → step_by state words ≡ Ok step → Says state words step
step-says states.Start words step e = start-says words step e
step-says states.Outside words step e = outside-says words step e
step-says (states.Inside own events region) words step e = inside-says own events region words step e
step-says states.Done words step e = cc
