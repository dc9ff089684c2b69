-- What receives would have taken has the numbers of their lines, which are those of messages from one host to another
-- one.
use Rattle.std.proofs.Common.{◌≡◌, ◌∙◌, ℕ, zero, suc, ◌+◌, ◌-◌, ◌≤◌, ◌==◌, Bool, true, false, cond, List, [], ◌∷◌, None, Some, length, refl, sym, ap, subst, arith}
use Rattle.std.specs.Prelude.{Option, AllPairs, bytes_eq, option_map, unwrap_or}
use Rattle.regex.specs.Patterns.{Re, Match, find, span}
use Rattle.regex.specs.Writes.{group_of}
use Rattle.texts.specs.Words.{behind_blanks}
use Rattle.log_lines.specs.Events.{Nothing, Other}
use Rattle.log_lines.specs.Names.Hosts.{PeerView, host_of}
use Rattle.log_lines.specs.Reading.{ReadView, nothing_read, is_within, with_line, all_lines}
use Rattle.log_lines.specs.Takes.Observations.{ObservationsView, no_observations}
use Rattle.log_lines.specs.Takes.Patterns.{short_patterns}
use Rattle.log_lines.specs.Windows.{StepView, step_at, with_windows, with_window_texts}
use Rattle.log_lines.specs.declared.event.Act.TheVariants.{Send, Receive}
use Rattle.log_lines.specs.declared.event.Place.{Place}
use Rattle.log_lines.specs.declared.plain.Direction.{Direction}
use Rattle.log_lines.specs.declared.plain.Direction.TheVariants.{Sends, Receives, Arrives, Unknown}
use Rattle.log_lines.specs.declared.range.LineRange.{LineRange}
use Rattle.log_lines.proofs.TakesLemmas.ObservationLemmas.{AreObserved, none_observed, message_observed, pairs_observed}
use Rattle.log_formats.specs.Patterns.Found.{located, HostEventView, host_event, by_direction, line_meaning, found_by}
use Rattle.log_formats.specs.Patterns.Observing.{takes_words, with_directed, with_event, with_line_events, with_text_events, pattern_observed}
use Rattle.log_formats.specs.Patterns.PatternReading.{window_of, alone, line_at, read_as, match_step, matched, event_in, event_matched, event_at, pattern_step, pattern_event, pattern_read}
use Rattle.log_formats.specs.declared.patterns.groups.EventGroups.{EventGroups}
use Rattle.log_formats.specs.declared.patterns.groups.Groups.{Groups}
use Rattle.log_formats.specs.declared.patterns.groups.Groups.TheVariants.{Event, Capture, Clock}

module _ (peers : List PeerView) (place : Place) (first : List ℕ) (r : ReadView) (t : ObservationsView) (observed : AreObserved peers r.logged t) where
  -- a line that isn't read changes neither
  alone_observed : AreObserved peers (with_line place (alone first).says r).logged t
  alone_observed = go (length (behind_blanks first) == 0)
    where
      go : (blank : Bool) → AreObserved peers (with_line place (cond blank Nothing Other) r).logged t
      go true = observed
      go false = observed

  directed_observed : (d : Direction) (e : HostEventView) (touched : ℕ)
      → AreObserved peers (with_line place (read_as first (by_direction d (record { host = e.host; act = Send; peer = e.peer; name = e.name; id = e.id })) touched).says r).logged (with_directed peers d e t)
  directed_observed Sends e touched =
      message_observed (bytes_eq (host_of peers e.host) (host_of peers e.peer)) peers r.logged
      (record { event = record { host = e.host; act = Send; peer = e.peer; name = e.name; id = e.id }; place = place }) [] t observed refl
  directed_observed Receives e touched =
      message_observed (bytes_eq (host_of peers e.host) (host_of peers e.peer)) peers r.logged
      (record { event = record { host = e.host; act = Receive; peer = e.peer; name = e.name; id = e.id }; place = place }) (short_patterns peers (takes_words e.takes)) t observed refl
  directed_observed Arrives e touched = record { count = observed.count; rising = observed.rising; below = observed.below }
  directed_observed Unknown e touched = alone_observed

  match_observed : (touched : ℕ) (e : Option HostEventView)
      → AreObserved peers (with_line place (read_as first (unwrap_or (option_map line_meaning e) Other) touched).says r).logged (with_event peers e t)
  match_observed touched None = alone_observed
  match_observed touched (Some e) = directed_observed e.direction e touched

  here_observed : (g : EventGroups) (window : List ℕ) (m : Match)
      → AreObserved peers (with_line place (match_step (Event g) window first (group_of m) (span m).1).says r).logged (with_event peers (host_event (located window (group_of m)) g) t)
  unfolding found_by
  here_observed g window m = match_observed (line_at window ((span m).1 - 1)) (host_event (located window (group_of m)) g)

  event_observed : (g : EventGroups) (window : List ℕ) (m : Option Match)
      → AreObserved peers (with_line place (matched (Event g) window first m).says r).logged (with_event peers (event_matched (Event g) window m) t)
  event_observed g window None = alone_observed
  event_observed g window (Some m) = go (line_at window (span m).0 == 0)
    where
      go : (here : Bool)
          → AreObserved peers (with_line place (cond here (match_step (Event g) window first (group_of m) (span m).1) (alone first)).says r).logged
          (with_event peers (cond here (host_event (located window (group_of m)) g) None) t)
      go true = here_observed g window m
      go false = alone_observed

module _ (peers : List PeerView) (g : EventGroups) (more : ℕ) (pattern : Re) (range : LineRange) where
  abbrev says : List (List ℕ) → StepView
  says = pattern_step (Event g) more pattern

  abbrev events : List (List ℕ) → Option HostEventView
  events = pattern_event (Event g) more pattern

  step_observed : (place : Place) (n taken : ℕ) (lines : List (List ℕ)) (r : ReadView) (t : ObservationsView) → AreObserved peers r.logged t
      → AreObserved peers (with_line place (step_at says range n taken lines).says r).logged (with_event peers (event_at events range n taken lines) t)
  unfolding pattern_step pattern_event
  step_observed place n (suc taken) lines r t observed = observed
  step_observed place n zero lines r t observed = go (is_within range n)
    where
      go : (within : Bool)
          → AreObserved peers (with_line place (cond within (says lines) (record { says = Nothing; takes = 0 })).says r).logged (with_event peers (cond within (events lines) None) t)
      go true = event_observed peers place (window_of 0 lines) r t observed g (window_of more lines) (find pattern (window_of more lines) 0)
      go false = observed

  lines_observed : (text n taken : ℕ) (lines : List (List ℕ)) (r : ReadView) (t : ObservationsView) → AreObserved peers r.logged t
      → AreObserved peers (with_windows says range text n taken lines r).logged (with_line_events peers says events range n taken lines t)
  lines_observed text n taken [] r t observed = observed
  lines_observed text n taken (line ∷ lines) r t observed =
      lines_observed text (n + 1) (step_at says range n taken (line ∷ lines)).takes lines _ _ (step_observed (record { text = text; line = n }) n taken (line ∷ lines) r t observed)

  texts_observed : (n : ℕ) (texts : List (List ℕ)) (r : ReadView) (t : ObservationsView) → AreObserved peers r.logged t
      → AreObserved peers (with_window_texts says range n texts r).logged (with_text_events peers says events range texts t)
  texts_observed n [] r t observed = observed
  texts_observed n (text ∷ texts) r t observed = texts_observed (n + 1) texts _ _ (lines_observed n 1 0 (all_lines text) r t observed)

  pub are_observed : (texts : List (List ℕ)) → AreObserved peers (pattern_read (Event g) more pattern range texts).logged (pattern_observed (Event g) more pattern peers range texts)
  unfolding pattern_read pattern_observed
  are_observed texts = texts_observed 0 texts nothing_read no_observations (none_observed peers)

-- expressions with other groups give nothing
module _ (peers : List PeerView) (says : List (List ℕ) → StepView) (events : List (List ℕ) → Option HostEventView) (none : (lines : List (List ℕ)) → events lines ≡ None) (range : LineRange) where
  none_at : (n taken : ℕ) (lines : List (List ℕ)) → event_at events range n taken lines ≡ None
  none_at n (suc taken) lines = refl
  none_at n zero lines = go (is_within range n)
    where
      go : (within : Bool) → cond within (events lines) None ≡ None
      go true = none lines
      go false = refl

  no_line_events : (n taken : ℕ) (lines : List (List ℕ)) (t : ObservationsView) → with_line_events peers says events range n taken lines t ≡ t
  no_line_events n taken [] t = refl
  no_line_events n taken (line ∷ lines) t =
      ap (λ e. with_line_events peers says events range (n + 1) (step_at says range n taken (line ∷ lines)).takes lines (with_event peers e t)) (none_at n taken (line ∷ lines))
      ∙ no_line_events (n + 1) (step_at says range n taken (line ∷ lines)).takes lines t

  no_text_events : (texts : List (List ℕ)) (t : ObservationsView) → with_text_events peers says events range texts t ≡ t
  no_text_events [] t = refl
  no_text_events (text ∷ texts) t = ap (λ u. with_text_events peers says events range texts u) (no_line_events 1 0 (all_lines text) t) ∙ no_text_events texts t

module _ (groups : Groups) (none : (bytes : ℕ → Option (List ℕ)) → event_in groups bytes ≡ None) (more : ℕ) (pattern : Re) where
  never_matched : (window : List ℕ) (m : Option Match) → event_matched groups window m ≡ None
  never_matched window None = refl
  never_matched window (Some m) = go (line_at window (span m).0 == 0)
    where
      go : (here : Bool) → cond here (event_in groups (located window (group_of m))) None ≡ None
      go true = none (located window (group_of m))
      go false = refl

  no_event : (lines : List (List ℕ)) → pattern_event groups more pattern lines ≡ None
  unfolding pattern_event
  no_event lines = never_matched (window_of more lines) (find pattern (window_of more lines) 0)

  nothing_observed : (peers : List PeerView) (range : LineRange) (texts : List (List ℕ)) → pattern_observed groups more pattern peers range texts ≡ no_observations
  unfolding pattern_observed
  nothing_observed peers range texts = no_text_events peers (pattern_step groups more pattern) (pattern_event groups more pattern) no_event range texts no_observations

  none_pairs : (peers : List PeerView) (range : LineRange) (texts : List (List ℕ)) → AllPairs (λ a b. a.line ≤ b.line) (pattern_observed groups more pattern peers range texts).taken
  none_pairs peers range texts =
      subst (λ (t : ObservationsView). AllPairs (λ a b. a.line ≤ b.line) t.taken) (sym (nothing_observed peers range texts)) (λ i j d before within. absurd (omega (arith, within)))

-- what would have been taken has lines of the log, in their order
pub observed_pairs : (groups : Groups) (more : ℕ) (pattern : Re) (peers : List PeerView) (range : LineRange) (texts : List (List ℕ))
    → AllPairs (λ a b. a.line ≤ b.line) (pattern_observed groups more pattern peers range texts).taken
observed_pairs (Event g) more pattern peers range texts =
    pairs_observed peers (pattern_read (Event g) more pattern range texts).logged (pattern_observed (Event g) more pattern peers range texts) (are_observed peers g more pattern range texts)
observed_pairs (Capture g) more pattern peers range texts = none_pairs (Capture g) (λ bytes. refl) more pattern peers range texts
observed_pairs (Clock g) more pattern peers range texts = none_pairs (Clock g) (λ bytes. refl) more pattern peers range texts
