-- What both looks make of one more line: it is built, or its partner is no instance.
use Rattle.std.proofs.Common.{◌≡◌, ℕ, suc, ◌+◌, ◌<◌, ◌≤◌, cond, nat_lt, List, [], ◌∷◌, ◌++◌, length, Option, Some, None, Ok, Err, ◌⊎◌, inl, inr, refl, sym, ap, ◌∙◌, subst, arith, append_assoc, length-append}
use Rattle.std.specs.List.{flat_map}
use Rattle.std.proofs.lemmas.Bool.{ltb-false, lt-leb}
use Rattle.std.proofs.lemmas.List.{flat_map_more}
use Rattle.chart.proofs.Places.{each-push}
use Rattle.chart.specs.Charts.{LineView}
use Rattle.chart.specs.Events.{partner_of, name_of, region_of}
use Rattle.chart.specs.Names.{IsName, instance_of}
use Rattle.chart.specs.NameSets.{AreNames}
use Rattle.chart.specs.declared.event.Event.{Event}
use Rattle.chart.specs.declared.event.Event.TheVariants as line_events
use Rattle.chart.specs.declared.instance.TheConstants.{MAX_INSTANCES}
use Rattle.texts.specs.Instances.{name_at, known, known_of, with_name}
use Rattle.texts.specs.Faults.{◌>>=◌}
use Rattle.texts.specs.declared.fault.Cause.TheVariants.{Instances, UnknownInstance}
use Rattle.texts.proofs.Lookups.{IsNamed, instance_is}
use Rattle.texts.proofs.NewNames.{with_name-names}
use Rattle.texts.proofs.Results.{guard_ok, ok_is}
use Rattle.msc_text.specs.Reader.Builders.{BuilderView, with_event, with_foot, with_coregion, with_send, with_receive, built, next_region}
use Rattle.msc_text.specs.Reader.Reading.{names_after}
use Rattle.msc_text.specs.Reader.Steps.{after_receive}
use Rattle.msc_text.specs.declared.reader.state.State.{State}
use Rattle.msc_text.specs.declared.reader.state.State.TheVariants as states
use Rattle.msc_text.specs.declared.reader.state.Region.{Region}
use Rattle.msc_text.specs.declared.reader.state.Region.TheVariants as regions
use Rattle.msc_text.specs.declared.reader.state.Saying.{Saying}
use Rattle.msc_text.specs.declared.reader.state.Saying.TheVariants as sayings
use Rattle.msc_text.proofs.ReaderLemmas.Coregions.{HasOpen, tail_of, last_from-is, closing-open}
use Rattle.msc_text.proofs.ReaderLemmas.Moves.{IsEvent, Moves}
use Rattle.msc_text.proofs.ReaderLemmas.Moves.Moves.{begins, heads, ends, sends, receives, opens, shuts, leaves}
use Rattle.msc_text.proofs.ReaderLemmas.Standing.{IsLineAmong, IsInside, SoFar, inside_sayings, so_far, all-push, name_at-there, Pushes, more_line, more_built, event-built, event-inside, event-event_saying}
use Rattle.msc_text.proofs.ReaderLemmas.TextSayings.{event_saying, body, last_from, closing, part}

-- one more line is built
pub record Builds (names more : List (List ℕ)) (state next : State) (d : BuilderView) (saying : Saying) (e : BuilderView) : Type 0 where
  pub is_built : built names d saying ≡ Ok e
  pub made : SoFar names more next e
  pub says : so_far names next e ≡ so_far names state d ++ saying ∷ []

-- it is built or has an unknown instance
abbrev pub Outcome : List (List ℕ) → List (List ℕ) → State → State → BuilderView → Saying → Type 0
Outcome names more state next d saying = (built names d saying ≡ Err UnknownInstance) ⊎ ((e : BuilderView) × Builds names more state next d saying e)

add-one-length : (lines : List LineView) (line : LineView) → length (lines ++ line ∷ []) ≡ suc (length lines)
add-one-length lines line = omega (arith, length-append lines (line ∷ []))

-- ---- line by line

begin-on : (names begun more : List (List ℕ)) (d : BuilderView) → SoFar names begun states.Start d → begun ≡ more → Outcome names more states.Start states.Outside d sayings.Begin
begin-on names begun more d s same =
    let blank_is = s.stands.1 in
    let none : length d.lines ≡ 0 = ap (λ x. length x.lines) blank_is in
    let no_names : length begun ≡ 0 = ap length s.stands.0 in
    let made : SoFar names begun states.Outside d = record { are = s.are; each = s.each; numbered = s.numbered; among = s.among; stands = (ap (λ x. x.line) blank_is, no_names ∙ sym none) } in
    inr (
      d,
      record {
        is_built = refl;
        made = subst (λ b. SoFar names b states.Outside d) same made;
        says = ap (λ x. sayings.Begin ∷ flat_map (part names) x.lines) blank_is;
      },
    )

empty_line : (n p : ℕ) → IsLineAmong n (record { instance = p; events = [] })
empty_line n p = record { line_is = record { short = omega arith; partners = λ i m e. absurd (cc); regions = λ i m e. absurd (cc) }; events_are = tt }

head-on : (names begun more later : List (List ℕ)) (own : List ℕ) (d : BuilderView) → IsName own → SoFar names begun states.Outside d → with_name begun own ≡ Ok more → names ≡ more ++ later
    → Outcome names more states.Outside (states.Inside own 0 regions.Closed) d (sayings.Head own)
head-on names begun more later own d name s e prefix =
    let add = with_name-names begun own more s.are e in
    let is : begun ++ own ∷ [] ≡ more = sym add.1 in
    let are : AreNames (begun ++ own ∷ []) = subst AreNames add.1 add.0 in
    let many : length begun ≡ length d.lines = s.stands.1 in
    let limit : length (begun ++ own ∷ []) ≤ MAX_INSTANCES = are.limit in
    let room : length begun < MAX_INSTANCES = omega (arith, length-append begun (own ∷ [])) in
    let whole : names ≡ (begun ++ own ∷ []) ++ later = prefix ∙ ap (λ l. l ++ later) add.1 in
    let owner : name_at names (suc (length d.lines)) ≡ own = ap (λ k. name_at names (suc k)) (sym many) ∙ ap (λ l. name_at l (suc (length begun))) whole ∙ name_at-there begun own later in
    let line : LineView = record { instance = suc (length d.lines); events = [] } in
    let e : BuilderView = record { lines = d.lines; line = Some line; open_region = 0 } in
    let inside : IsInside names own 0 regions.Closed e line = record { there = refl; next = refl; owner = owner; many = refl; open_is = refl; among = empty_line (length names) (suc (length d.lines)) } in
    let made : SoFar names (begun ++ own ∷ []) (states.Inside own 0 regions.Closed) e = record {
      are = are;
      each = all-push IsName begun own s.each name;
      numbered = s.numbered;
      among = s.among;
      stands = (omega (arith, length-append begun (own ∷ [])), (line, inside));
    } in
    inr (
      e,
      record {
        is_built = ap (λ b. cond b (Err Instances) (Ok e)) (lt-leb MAX_INSTANCES (length d.lines) (omega arith));
        made = subst (λ b. SoFar names b (states.Inside own 0 regions.Closed) e) is made;
        says = refl;
      },
    )

end-on : (names begun more : List (List ℕ)) (d : BuilderView) → SoFar names begun states.Outside d → names_after begun sayings.End ≡ Ok more → Outcome names more states.Outside states.Done d sayings.End
end-on names begun more d s e =
    let g = guard_ok (nat_lt (length begun) 2) Instances (Ok begun) more e in
    let made : SoFar names begun states.Done d = record { are = s.are; each = s.each; numbered = s.numbered; among = s.among; stands = (s.stands.1, ltb-false (length begun) 2 g.0) } in
    inr (d, record { is_built = refl; made = subst (λ b. SoFar names b states.Done d) (ok_is begun more g.1) made; says = refl })

-- an event whose partner is found
pushes-of : {names : List (List ℕ)} {own partner name : List ℕ} {events : ℕ} {region : Region} {d : BuilderView} {line : LineView} {q : ℕ} (m : Event)
    → IsInside names own events region d line → IsEvent own events partner name → IsNamed names partner q → partner_of m ≡ q → name_of m ≡ name → HasOpen region (region_of m) line.events → Pushes names own events region d line m
pushes-of {names} {own} {partner} {name} {events} {region} {d} {line} {q} m i event found is named opened =
    record {
      inside = i;
      open_is = opened;
      other = λ same. event.other (sym found.has ∙ ap (name_at names) (sym is ∙ same) ∙ i.owner);
      room = event.room;
      line_event = record {
        first = subst (λ x. 1 ≤ x) (sym is) found.first;
        last = subst (λ x. x ≤ length names) (sym is) found.last;
        named = subst IsName (sym named) event.message_name;
      };
    }

event-on : {names begun : List (List ℕ)} {own : List ℕ} {events : ℕ} {region : Region} {d : BuilderView} {line : LineView} {m : Event} (saying : Saying)
    → SoFar names begun (states.Inside own events region) d → Pushes names own events region d line m → built names d saying ≡ with_event d d.line m → event_saying names m ≡ saying
    → Outcome names begun (states.Inside own events region) (states.Inside own (events + 1) (after_receive region)) d saying
event-on {names} {begun} {own} {events} {region} {d} {line} {m} saying s p by is =
    inr (
      more_built d line m,
      record {
        is_built = by ∙ event-built p;
        made = record { are = s.are; each = s.each; numbered = s.numbered; among = s.among; stands = (s.stands.0, (more_line line m, event-inside p)) };
        says = event-event_saying p ∙ ap (λ x. so_far names (states.Inside own events region) d ++ x ∷ []) is;
      },
    )

send-on : (names begun : List (List ℕ)) (own to name : List ℕ) (events : ℕ) (d : BuilderView) (o : Option ℕ) → instance_of names to ≡ o → IsEvent own events to name → SoFar names begun (states.Inside own events regions.Closed) d
    → Outcome names begun (states.Inside own events regions.Closed) (states.Inside own (events + 1) regions.Closed) d (sayings.Send to name)
unfolding with_send known_of
send-on names begun own to name events d None is event s = inl (ap (λ o. known o >>= λ partner. with_event d d.line (line_events.Send partner name)) is)
send-on names begun own to name events d (Some q) is event s =
    let inside = s.stands.1 in
    let found = instance_is names to q is in
    let p = pushes-of (line_events.Send q name) inside.1 event found refl refl refl in
    event-on (sayings.Send to name) s p (ap (λ o. known o >>= λ partner. with_event d d.line (line_events.Send partner name)) is) (ap (λ w. sayings.Send w name) found.has)

receive-on : (names begun : List (List ℕ)) (own from name : List ℕ) (events : ℕ) (region : Region) (d : BuilderView) (o : Option ℕ) → instance_of names from ≡ o → IsEvent own events from name → SoFar names begun (states.Inside own events region) d
    → Outcome names begun (states.Inside own events region) (states.Inside own (events + 1) (after_receive region)) d (sayings.Receive from name)
unfolding with_receive known_of
receive-on names begun own from name events region d None is event s = inl (ap (λ o. known o >>= λ partner. with_event d d.line (line_events.Receive partner name d.open_region)) is)
receive-on names begun own from name events region d (Some q) is event s =
    let inside = s.stands.1 in
    let found = instance_is names from q is in
    let i = inside.1 in
    let p = pushes-of (line_events.Receive q name d.open_region) i event found refl refl i.open_is in
    event-on (sayings.Receive from name) s p (ap (λ o. known o >>= λ partner. with_event d d.line (line_events.Receive partner name d.open_region)) is) (ap (λ w. sayings.Receive w name) found.has)

-- the same with another open coregion
region-state : {names begun : List (List ℕ)} {own : List ℕ} {events : ℕ} {region other : Region} {d : BuilderView} (c : ℕ) (line : LineView) → SoFar names begun (states.Inside own events region) d → IsInside names own events region d line → HasOpen other c line.events
    → SoFar names begun (states.Inside own events other) (record d { open_region = c })
region-state c line s i opened = record {
  are = s.are;
  each = s.each;
  numbered = s.numbered;
  among = s.among;
  stands = (s.stands.0, (line, record { there = i.there; next = i.next; owner = i.owner; many = i.many; open_is = opened; among = i.among }));
}

-- what the lines there mean
event_saying-on : (names : List (List ℕ)) (own : List ℕ) (region other : Region) (d : BuilderView) (line : LineView) (saying : Saying) → d.line ≡ Some line
    → tail_of other (last_from 0 line.events) ≡ tail_of region (last_from 0 line.events) ++ saying ∷ []
    → sayings.Begin ∷ (flat_map (part names) d.lines ++ inside_sayings names own other d.line) ≡ (sayings.Begin ∷ (flat_map (part names) d.lines ++ inside_sayings names own region d.line)) ++ saying ∷ []
event_saying-on names own region other d line saying there e =
    let front = flat_map (part names) d.lines in
    let b = body names 0 line.events in
    let r = last_from 0 line.events in
    ap (λ o. sayings.Begin ∷ (front ++ inside_sayings names own other o)) there
    ∙ ap (λ l. sayings.Begin ∷ (front ++ (sayings.Head own ∷ (b ++ l)))) e
    ∙ ap (λ l. sayings.Begin ∷ (front ++ (sayings.Head own ∷ l))) (sym (append_assoc b (tail_of region r) (saying ∷ [])))
    ∙ ap (λ l. sayings.Begin ∷ l) (sym (append_assoc front (sayings.Head own ∷ (b ++ tail_of region r)) (saying ∷ [])))
    ∙ ap (λ o. (sayings.Begin ∷ (front ++ inside_sayings names own region o)) ++ saying ∷ []) (sym there)

open-on : (names begun : List (List ℕ)) (own : List ℕ) (events : ℕ) (d : BuilderView) → SoFar names begun (states.Inside own events regions.Closed) d
    → Outcome names begun (states.Inside own events regions.Closed) (states.Inside own events regions.Empty) d sayings.Open
open-on names begun own events d s =
    let inside = s.stands.1 in
    let line = inside.0 in
    let i = inside.1 in
    inr (
      record d { open_region = next_region line },
      record {
        is_built = ap (with_coregion d) i.there;
        made = region-state (next_region line) line s i refl;
        says = event_saying-on names own regions.Closed regions.Empty d line sayings.Open i.there refl;
      },
    )

shut-on : (names begun : List (List ℕ)) (own : List ℕ) (events : ℕ) (d : BuilderView) → SoFar names begun (states.Inside own events regions.Held) d
    → Outcome names begun (states.Inside own events regions.Held) (states.Inside own events regions.Closed) d sayings.Shut
shut-on names begun own events d s =
    let inside = s.stands.1 in
    let line = inside.0 in
    let i = inside.1 in
    let opened = i.open_is in
    let last : last_from 0 line.events ≡ d.open_region = last_from-is line.events ∙ sym opened.2 in
    let begun_one : 0 < last_from 0 line.events = omega (arith, opened.0) in
    inr (
      record d { open_region = 0 },
      record {
        is_built = refl;
        made = region-state 0 line s i refl;
        says = event_saying-on names own regions.Held regions.Closed d line sayings.Shut i.there (closing-open (last_from 0 line.events) begun_one);
      },
    )

foot-on : (names begun : List (List ℕ)) (own : List ℕ) (events : ℕ) (d : BuilderView) → SoFar names begun (states.Inside own events regions.Closed) d
    → Outcome names begun (states.Inside own events regions.Closed) states.Outside d sayings.Foot
foot-on names begun own events d s =
    let inside = s.stands.1 in
    let line = inside.0 in
    let i = inside.1 in
    let front = flat_map (part names) d.lines in
    let r = last_from 0 line.events in
    let b = body names 0 line.events in
    let e : BuilderView = record { lines = d.lines ++ line ∷ []; line = None; open_region = 0 } in
    let here : part names line ≡ (sayings.Head own ∷ (b ++ closing r 0)) ++ sayings.Foot ∷ [] = ap (λ w. sayings.Head w ∷ (b ++ (closing r 0 ++ sayings.Foot ∷ []))) i.owner ∙ ap (λ l. sayings.Head own ∷ l) (sym (append_assoc b (closing r 0) (sayings.Foot ∷ []))) in
    inr (
      e,
      record {
        is_built = ap (with_foot d) i.there;
        made = record {
          are = s.are;
          each = s.each;
          numbered = each-push (λ k l. l.instance ≡ suc k) d.lines line s.numbered i.next;
          among = all-push (IsLineAmong (length names)) d.lines line s.among i.among;
          stands = (refl, s.stands.0 ∙ sym (add-one-length d.lines line));
        };
        says =
            ap (λ l. sayings.Begin ∷ l) (sym (flat_map_more (part names) [] d.lines line) ∙ ap (λ l. front ++ l) here ∙ sym (append_assoc front (sayings.Head own ∷ (b ++ closing r 0)) (sayings.Foot ∷ [])))
            ∙ ap (λ o. (sayings.Begin ∷ (front ++ inside_sayings names own regions.Closed o)) ++ sayings.Foot ∷ []) (sym i.there);
      },
    )

-- one more line
pub onward : {names begun more : List (List ℕ)} {state next : State} {saying : Saying} {d : BuilderView} (later : List (List ℕ)) → SoFar names begun state d → Moves state saying next → names_after begun saying ≡ Ok more → names ≡ more ++ later
    → Outcome names more state next d saying
onward {names} {begun} {more} {d = d} later s begins e p = begin-on names begun more d s (ok_is begun more e)
onward {names} {begun} {more} {d = d} later s (heads {own} h) e p = head-on names begun more later own d h s e p
onward {names} {begun} {more} {d = d} later s ends e p = end-on names begun more d s e
onward {names} {begun} {more} {d = d} later s (sends {own} {to} {name} {events} h) e p =
    subst (λ b. Outcome names b (states.Inside own events regions.Closed) (states.Inside own (events + 1) regions.Closed) d (sayings.Send to name)) (ok_is begun more e) (send-on names begun own to name events d (instance_of names to) refl h s)
onward {names} {begun} {more} {d = d} later s (receives {own} {from} {name} {events} {region} h) e p =
    subst (λ b. Outcome names b (states.Inside own events region) (states.Inside own (events + 1) (after_receive region)) d (sayings.Receive from name)) (ok_is begun more e) (receive-on names begun own from name events region d (instance_of names from) refl h s)
onward {names} {begun} {more} {d = d} later s (opens {own} {events}) e p =
    subst (λ b. Outcome names b (states.Inside own events regions.Closed) (states.Inside own events regions.Empty) d sayings.Open) (ok_is begun more e) (open-on names begun own events d s)
onward {names} {begun} {more} {d = d} later s (shuts {own} {events}) e p =
    subst (λ b. Outcome names b (states.Inside own events regions.Held) (states.Inside own events regions.Closed) d sayings.Shut) (ok_is begun more e) (shut-on names begun own events d s)
onward {names} {begun} {more} {d = d} later s (leaves {own} {events}) e p =
    subst (λ b. Outcome names b (states.Inside own events regions.Closed) states.Outside d sayings.Foot) (ok_is begun more e) (foot-on names begun own events d s)
