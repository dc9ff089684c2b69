-- The events of a line, as both looks pass them.
use Rattle.std.proofs.Common.{◌≡◌, ◌≢◌, ℕ, zero, suc, ◌+◌, ◌<◌, ◌≤◌, List, [], ◌∷◌, ◌++◌, length, Some, Ok, inl, inr, refl, sym, ap, ◌∙◌, subst, arith, append_assoc, append-nil, length-append}
use Rattle.std.specs.List.{AllByRecursion}
use Rattle.chart.specs.Charts.{LineView}
use Rattle.chart.specs.Events.{partner_of, name_of, region_of, greatest_region, last_region, MayHaveRegion}
use Rattle.chart.specs.Names.{IsName, instance_of}
use Rattle.chart.specs.declared.event.Event.{Event}
use Rattle.chart.specs.declared.event.Event.TheVariants as line_events
use Rattle.chart.specs.declared.line.TheConstants.{MAX_EVENTS}
use Rattle.texts.specs.Instances.{name_at, known, known_of}
use Rattle.texts.specs.Faults.{◌>>=◌}
use Rattle.texts.proofs.Results.{bind_at}
use Rattle.msc_text.specs.Reader.Builders.{BuilderView, pushed, with_event, with_send, with_receive}
use Rattle.msc_text.specs.Reader.Steps.{after_receive}
use Rattle.msc_text.specs.declared.reader.state.State.TheVariants as states
use Rattle.msc_text.specs.declared.reader.state.Region.{Region}
use Rattle.msc_text.specs.declared.reader.state.Region.TheVariants as regions
use Rattle.msc_text.specs.declared.reader.state.Saying.{Saying}
use Rattle.msc_text.specs.declared.reader.state.Saying.TheVariants as sayings
use Rattle.msc_text.proofs.ReaderLemmas.Coregions.{last_from-is, last_from-push, last-within, closing-none, closing-other, closing-open, opening-none, opening-same, opening-new}
use Rattle.msc_text.proofs.ReaderLemmas.Moves.{IsEvent}
use Rattle.msc_text.proofs.ReaderLemmas.Moves.Moves.{sends, receives, opens, shuts}
use Rattle.msc_text.proofs.ReaderLemmas.Paths.{Spot, Passes, Path, one_pass, path_then}
use Rattle.msc_text.proofs.ReaderLemmas.Paths.Path.{stay, pass}
use Rattle.msc_text.proofs.ReaderLemmas.Standing.{more_line, pushed-more}
use Rattle.msc_text.proofs.ReaderLemmas.TextSayings.{event_saying, event_sayings, body, last_from, closing, opening}

-- an event that has a line, on the line of the instance p, whose name is own
pub record IsSpelled (names : List (List ℕ)) (own : List ℕ) (p : ℕ) (m : Event) : Type 0 where
  pub partner_name : IsName (name_at names (partner_of m))
  pub message_name : IsName (name_of m)
  pub other_name : name_at names (partner_of m) ≢ own
  pub found : instance_of names (name_at names (partner_of m)) ≡ Some (partner_of m)
  pub other : partner_of m ≢ p

-- inside the instance own
abbrev pub spot_in : List (List ℕ) → List ℕ → ℕ → Region → List LineView → LineView → ℕ → Spot
spot_in begun own events region lines line c = record { begun = begun; state = states.Inside own events region; builder = record { lines = lines; line = Some line; open_region = c } }

-- a send is outside of coregions
abbrev MayTake : Region → Event → Type 0
MayTake region (line_events.Send to name) = region ≡ regions.Closed
MayTake region (line_events.Receive from name c) = Unit {0}

event_of : {names : List (List ℕ)} {own : List ℕ} {p : ℕ} (events : ℕ) (m : Event) → IsSpelled names own p m → events < MAX_EVENTS → IsEvent own events (name_at names (partner_of m)) (name_of m)
event_of events m h room = record { partner_name = h.partner_name; message_name = h.message_name; other = h.other_name; room = room }

event-is : (d : BuilderView) (line : LineView) (m : Event) → d.line ≡ Some line → partner_of m ≢ line.instance → length line.events ≢ MAX_EVENTS
    → with_event d d.line m ≡ Ok (record { lines = d.lines; line = Some (more_line line m); open_region = region_of m })
event-is d line m there other room =
    ap (λ o. with_event d o m) there ∙ bind_at (pushed line m) (λ more. Ok (record { lines = d.lines; line = Some more; open_region = region_of m })) (more_line line m) (pushed-more line m other room)

-- an event of the open coregion passes
event_pass : (names begun : List (List ℕ)) (own : List ℕ) (events : ℕ) (region : Region) (lines : List LineView) (line : LineView) (m : Event) → IsSpelled names own line.instance m → events < MAX_EVENTS → length line.events ≡ events → MayTake region m
    → Passes names (spot_in begun own events region lines line (region_of m)) (event_saying names m) (spot_in begun own (events + 1) (after_receive region) lines (more_line line m) (region_of m))
unfolding with_send with_receive known_of
event_pass names begun own events region lines line (line_events.Send to name) h room many may =
    let d : BuilderView = record { lines = lines; line = Some line; open_region = 0 } in
    let adds : Passes names (spot_in begun own events regions.Closed lines line 0) (sayings.Send (name_at names to) name) (spot_in begun own (events + 1) regions.Closed lines (more_line line (line_events.Send to name)) 0) = record {
      moves = sends (event_of events (line_events.Send to name) h room);
      adds = refl;
      builds = ap (λ o. known o >>= λ partner. with_event d d.line (line_events.Send partner name)) h.found ∙ event-is d line (line_events.Send to name) refl h.other (omega arith);
    } in
    let family : Region → Type 0 = λ r. Passes names (spot_in begun own events r lines line 0) (sayings.Send (name_at names to) name) (spot_in begun own (events + 1) (after_receive r) lines (more_line line (line_events.Send to name)) 0) in
    subst family (sym may) adds
event_pass names begun own events region lines line (line_events.Receive from name c) h room many may =
    let d : BuilderView = record { lines = lines; line = Some line; open_region = c } in
    record {
      moves = receives (event_of events (line_events.Receive from name c) h room);
      adds = refl;
      builds = ap (λ o. known o >>= λ partner. with_event d d.line (line_events.Receive partner name c)) h.found ∙ event-is d line (line_events.Receive from name c) refl h.other (omega arith);
    }

shut_pass : (names begun : List (List ℕ)) (own : List ℕ) (events : ℕ) (lines : List LineView) (line : LineView) (c : ℕ) → Passes names (spot_in begun own events regions.Held lines line c) sayings.Shut (spot_in begun own events regions.Closed lines line 0)
shut_pass names begun own events lines line c = record { moves = shuts; adds = refl; builds = refl }

open_pass : (names begun : List (List ℕ)) (own : List ℕ) (events : ℕ) (lines : List LineView) (line : LineView) (c : ℕ) → Passes names (spot_in begun own events regions.Closed lines line c) sayings.Open (spot_in begun own events regions.Empty lines line (greatest_region line.events + 1))
open_pass names begun own events lines line c = record { moves = opens; adds = refl; builds = refl }

-- how far a coregion has come if r is the last event's
abbrev pub region_at : ℕ → Region
region_at zero = regions.Closed
region_at (suc r) = regions.Held

receive_takes : (region : Region) (m : Event) (c : ℕ) → suc c ≡ region_of m → MayTake region m
receive_takes region (line_events.Send to name) c e = cc
receive_takes region (line_events.Receive from name d) c e = tt

closed_takes : (m : Event) → MayTake regions.Closed m
closed_takes (line_events.Send to name) = refl
closed_takes (line_events.Receive from name d) = tt

-- an event, with the lines that end a coregion before it or begin its own
event_path_of : (names begun : List (List ℕ)) (own : List ℕ) (events : ℕ) (lines : List LineView) (line : LineView) (m : Event) → IsSpelled names own line.instance m → events < MAX_EVENTS → length line.events ≡ events → (r : ℕ) → r ≡ last_region line.events
    → (c : ℕ) → c ≡ region_of m → MayHaveRegion line.events c
    → Path names (spot_in begun own events (region_at r) lines line r) (closing r c ++ (opening r c ++ event_saying names m ∷ [])) (spot_in begun own (events + 1) (region_at c) lines (more_line line m) c)
event_path_of names begun own events lines line m h room many r last c is may = by r last c is may
  where
    event : (region : Region) (c : ℕ) → c ≡ region_of m → MayTake region m → Passes names (spot_in begun own events region lines line c) (event_saying names m) (spot_in begun own (events + 1) (after_receive region) lines (more_line line m) c)
    event region c is takes =
        let family : ℕ → Type 0 = λ x. Passes names (spot_in begun own events region lines line x) (event_saying names m) (spot_in begun own (events + 1) (after_receive region) lines (more_line line m) x) in
        subst family (sym is) (event_pass names begun own events region lines line m h room many takes)

    opened : (c : ℕ) → c ≡ greatest_region line.events + 1 → (before : ℕ) → Passes names (spot_in begun own events regions.Closed lines line before) sayings.Open (spot_in begun own events regions.Empty lines line c)
    opened c e before =
        let family : ℕ → Type 0 = λ x. Passes names (spot_in begun own events regions.Closed lines line before) sayings.Open (spot_in begun own events regions.Empty lines line x) in
        subst family (sym e) (open_pass names begun own events lines line before)

    shut : (r : ℕ) → Passes names (spot_in begun own events regions.Held lines line r) sayings.Shut (spot_in begun own events regions.Closed lines line 0)
    shut r = shut_pass names begun own events lines line r

    shape : {a b : Spot} (xs ys : List Saying) → xs ≡ ys → Path names a xs b → Path names a ys b
    shape {a} {b} xs ys e p = subst (λ l. Path names a l b) e p

    by : (r : ℕ) → r ≡ last_region line.events → (c : ℕ) → c ≡ region_of m → MayHaveRegion line.events c
        → Path names (spot_in begun own events (region_at r) lines line r) (closing r c ++ (opening r c ++ event_saying names m ∷ [])) (spot_in begun own (events + 1) (region_at c) lines (more_line line m) c)
    by zero last zero is may = one_pass (event regions.Closed 0 is (closed_takes m))
    by (suc r) last zero is may =
        let words : sayings.Shut ∷ event_saying names m ∷ [] ≡ closing (suc r) 0 ++ (opening (suc r) 0 ++ event_saying names m ∷ []) = rw (closing-open (suc r) (omega arith), opening-none (suc r)) refl in
        shape _ _ words (pass (shut (suc r)) (one_pass (event regions.Closed 0 is (closed_takes m))))
    by zero last (suc c) is (inl none) = absurd (omega arith)
    by zero last (suc c) is (inr (inl next)) =
        let other : 0 ≢ suc c = omega arith in
        let words : sayings.Open ∷ event_saying names m ∷ [] ≡ closing 0 (suc c) ++ (opening 0 (suc c) ++ event_saying names m ∷ []) = rw (closing-other 0 (suc c) other, opening-new 0 (suc c) other (omega arith)) refl in
        shape _ _ words (pass (opened (suc c) next 0) (one_pass (event regions.Empty (suc c) is (receive_takes regions.Empty m c is))))
    by zero last (suc c) is (inr (inr same)) = absurd (omega (arith, same.2))
    by (suc r) last (suc c) is (inl none) = absurd (omega arith)
    by (suc r) last (suc c) is (inr (inl next)) =
        let within = last-within line.events in
        let other : suc r ≢ suc c = omega arith in
        let words : sayings.Shut ∷ sayings.Open ∷ event_saying names m ∷ [] ≡ closing (suc r) (suc c) ++ (opening (suc r) (suc c) ++ event_saying names m ∷ []) =
        rw (closing-other (suc r) (suc c) other, closing-open (suc r) (omega arith), opening-new (suc r) (suc c) other (omega arith)) refl in
        shape _ _ words (pass (shut (suc r)) (pass (opened (suc c) next 0) (one_pass (event regions.Empty (suc c) is (receive_takes regions.Empty m c is)))))
    by (suc r) last (suc c) is (inr (inr same)) =
        let one : suc c ≡ suc r = same.2 ∙ sym last in
        let words : event_saying names m ∷ [] ≡ closing (suc c) (suc c) ++ (opening (suc c) (suc c) ++ event_saying names m ∷ []) = rw (closing-none (suc c), opening-same (suc c)) refl in
        let family : ℕ → Type 0 = λ x. Path names (spot_in begun own events regions.Held lines line x) (closing x (suc c) ++ (opening x (suc c) ++ event_saying names m ∷ [])) (spot_in begun own (events + 1) regions.Held lines (more_line line m) (suc c)) in
        subst family one (shape _ _ words (one_pass (event regions.Held (suc c) is (receive_takes regions.Held m c is))))

-- ---- the events of a line

-- inside the instance own, the p-th, after these events
abbrev pub spot_behind : List (List ℕ) → List ℕ → ℕ → List LineView → List Event → Spot
spot_behind begun own p lines front = spot_in begun own (length front) (region_at (last_from 0 front)) lines (record { instance = p; events = front }) (last_from 0 front)

-- each event's coregion may be at its place
abbrev pub MayFollow : List Event → List Event → Type 0
MayFollow front [] = Unit {0}
MayFollow front (m ∷ rest) = MayHaveRegion front (region_of m) × MayFollow (front ++ m ∷ []) rest

spot-more : (begun : List (List ℕ)) (own : List ℕ) (p : ℕ) (lines : List LineView) (front : List Event) (m : Event)
    → spot_in begun own (length front + 1) (region_at (region_of m)) lines (record { instance = p; events = front ++ m ∷ [] }) (region_of m) ≡ spot_behind begun own p lines (front ++ m ∷ [])
spot-more begun own p lines front m =
    let line : LineView = record { instance = p; events = front ++ m ∷ [] } in
    let many : length front + 1 ≡ length (front ++ m ∷ []) = sym (length-append front (m ∷ [])) in
    let last : region_of m ≡ last_from 0 (front ++ m ∷ []) = sym (last_from-push 0 front m) in
    ap (λ k. spot_in begun own k (region_at (region_of m)) lines line (region_of m)) many
    ∙ ap (λ c. spot_in begun own (length (front ++ m ∷ [])) (region_at c) lines line c) last

pub body_path : (names begun : List (List ℕ)) (own : List ℕ) (p : ℕ) (lines : List LineView) (front rest : List Event) → AllByRecursion (IsSpelled names own p) rest → MayFollow front rest → length front + length rest ≤ MAX_EVENTS
    → Path names (spot_behind begun own p lines front) (body names (last_from 0 front) rest) (spot_behind begun own p lines (front ++ rest))
body_path names begun own p lines front [] h may short = subst (λ l. Path names (spot_behind begun own p lines front) [] (spot_behind begun own p lines l)) (sym (append-nil front)) stay
body_path names begun own p lines front (m ∷ rest) h may short =
    let line : LineView = record { instance = p; events = front } in
    let one = event_path_of names begun own (length front) lines line m h.0 (omega arith) refl (last_from 0 front) (last_from-is front) (region_of m) refl may.0 in
    let first = subst (λ s. Path names (spot_behind begun own p lines front) (event_sayings names (last_from 0 front) m) s) (spot-more begun own p lines front m) one in
    let others = body_path names begun own p lines (front ++ m ∷ []) rest h.1 may.1 (omega (arith, length-append front (m ∷ []))) in
    let rest_is = subst (λ c. Path names (spot_behind begun own p lines (front ++ m ∷ [])) (body names c rest) (spot_behind begun own p lines ((front ++ m ∷ []) ++ rest))) (last_from-push 0 front m) others in
    subst (λ l. Path names (spot_behind begun own p lines front) (event_sayings names (last_from 0 front) m ++ body names (region_of m) rest) (spot_behind begun own p lines l)) (append_assoc front (m ∷ []) rest) (path_then first rest_is)

-- the end of a line, after which no coregion is open
pub close_path : (names begun : List (List ℕ)) (own : List ℕ) (p : ℕ) (lines : List LineView) (events : List Event)
    → Path names (spot_behind begun own p lines events) (closing (last_from 0 events) 0) (spot_in begun own (length events) regions.Closed lines (record { instance = p; events = events }) 0)
close_path names begun own p lines events = by (last_from 0 events)
  where
    by : (r : ℕ) → Path names (spot_in begun own (length events) (region_at r) lines (record { instance = p; events = events }) r) (closing r 0) (spot_in begun own (length events) regions.Closed lines (record { instance = p; events = events }) 0)
    by zero = stay
    by (suc r) =
        let family : List Saying → Type 0 = λ l. Path names (spot_in begun own (length events) regions.Held lines (record { instance = p; events = events }) (suc r)) l (spot_in begun own (length events) regions.Closed lines (record { instance = p; events = events }) 0) in
        subst family (sym (closing-open (suc r) (omega arith))) (one_pass (shut_pass names begun own (length events) lines (record { instance = p; events = events }) (suc r)))
