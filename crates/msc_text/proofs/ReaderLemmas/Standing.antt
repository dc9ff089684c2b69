-- The state of the second look at a text: what its lines so far mean, and what is built.
use Rattle.std.proofs.Common.{◌≡◌, ◌≢◌, ℕ, suc, ◌+◌, ◌<◌, ◌≤◌, List, [], ◌∷◌, ◌++◌, length, Option, Some, None, Ok, refl, sym, ap, ◌∙◌, arith, append_assoc, length-append}
use Rattle.std.specs.List.{flat_map, AllByRecursion}
use Rattle.std.proofs.lemmas.Bool.{ne_eqb}
use Rattle.chart.proofs.Layouts.{IsLine-push}
use Rattle.chart.specs.Charts.{LineView, IsLine, IsNumbered}
use Rattle.chart.specs.Events.{partner_of, name_of, region_of}
use Rattle.chart.specs.Names.{IsName}
use Rattle.chart.specs.NameSets.{AreNames}
use Rattle.chart.specs.declared.event.Event.{Event}
use Rattle.chart.specs.declared.line.TheConstants.{MAX_EVENTS}
use Rattle.texts.specs.Instances.{name_at}
use Rattle.texts.proofs.Results.{bind_at}
use Rattle.msc_text.specs.Reader.Builders.{BuilderView, blank, pushed, with_event}
use Rattle.msc_text.specs.Reader.Steps.{after_receive}
use Rattle.msc_text.specs.declared.reader.state.State.{State}
use Rattle.msc_text.specs.declared.reader.state.State.TheVariants as states
use Rattle.msc_text.specs.declared.reader.state.Region.{Region}
use Rattle.msc_text.specs.declared.reader.state.Saying.{Saying}
use Rattle.msc_text.specs.declared.reader.state.Saying.TheVariants as sayings
use Rattle.msc_text.proofs.ReaderLemmas.Coregions.{HasOpen, open-may, open-more, tail_of, last_from-push, body-push, tail-more}
use Rattle.msc_text.proofs.ReaderLemmas.TextSayings.{event_saying, event_sayings, body, last_from, part}

-- ---- what is built

-- an event among n instances
pub record IsInstanceEvent (n : ℕ) (m : Event) : Type 0 where
  pub first : 1 ≤ partner_of m
  pub last : partner_of m ≤ n
  pub named : IsName (name_of m)

-- a line among n instances
pub record IsLineAmong (n : ℕ) (line : LineView) : Type 0 where
  pub line_is : IsLine line
  pub events_are : AllByRecursion (IsInstanceEvent n) line.events

-- the line that is being built is of the instance own, with this number of events
pub record IsInside (names : List (List ℕ)) (own : List ℕ) (events : ℕ) (region : Region) (d : BuilderView) (line : LineView) : Type 0 where
  pub there : d.line ≡ Some line
  pub next : line.instance ≡ suc (length d.lines)
  pub owner : name_at names line.instance ≡ own
  pub many : length line.events ≡ events
  pub open_is : HasOpen region d.open_region line.events
  pub among : IsLineAmong (length names) line

-- what is built in each state
abbrev pub Stands : List (List ℕ) → List (List ℕ) → State → BuilderView → Type 0
Stands names begun states.Start d = (begun ≡ []) × (d ≡ blank)
Stands names begun states.Outside d = (d.line ≡ None) × (length begun ≡ length d.lines)
Stands names begun (states.Inside own events region) d = (length begun ≡ suc (length d.lines)) × ((line : LineView) × IsInside names own events region d line)
Stands names begun states.Done d = (length begun ≡ length d.lines) × (2 ≤ length begun)

-- what both looks have made of the lines so far: the names of the instances that have begun, which are the first of all
-- names, and what is built
pub record SoFar (names begun : List (List ℕ)) (state : State) (d : BuilderView) : Type 0 where
  pub are : AreNames begun
  pub each : AllByRecursion IsName begun
  pub numbered : IsNumbered d.lines
  pub among : AllByRecursion (IsLineAmong (length names)) d.lines
  pub stands : Stands names begun state d

-- ---- what the lines so far mean

abbrev pub inside_sayings : List (List ℕ) → List ℕ → Region → Option LineView → List Saying
inside_sayings names own region None = []
inside_sayings names own region (Some line) = sayings.Head own ∷ (body names 0 line.events ++ tail_of region (last_from 0 line.events))

abbrev pub so_far : List (List ℕ) → State → BuilderView → List Saying
so_far names states.Start d = []
so_far names states.Outside d = sayings.Begin ∷ flat_map (part names) d.lines
so_far names (states.Inside own events region) d = sayings.Begin ∷ (flat_map (part names) d.lines ++ inside_sayings names own region d.line)
so_far names states.Done d = sayings.Begin ∷ (flat_map (part names) d.lines ++ sayings.End ∷ [])

-- ---- lists that grow

pub all-push : {X : Type 0} (P : X → Type 0) (xs : List X) (x : X) → AllByRecursion P xs → P x → AllByRecursion P (xs ++ x ∷ [])
all-push P [] x h p = (p, tt)
all-push P (y ∷ xs) x h p = (h.0, all-push P xs x h.1 p)

pub name_at-there : (xs : List (List ℕ)) (x : List ℕ) (ys : List (List ℕ)) → name_at ((xs ++ x ∷ []) ++ ys) (suc (length xs)) ≡ x
name_at-there [] x ys = refl
name_at-there (y ∷ xs) x ys = name_at-there xs x ys

-- ---- one more event

pub record Pushes (names : List (List ℕ)) (own : List ℕ) (events : ℕ) (region : Region) (d : BuilderView) (line : LineView) (m : Event) : Type 0 where
  pub inside : IsInside names own events region d line
  pub open_is : HasOpen region (region_of m) line.events
  pub other : partner_of m ≢ line.instance
  pub room : events < MAX_EVENTS
  pub line_event : IsInstanceEvent (length names) m

abbrev pub more_line : LineView → Event → LineView
more_line line m = record line { events = line.events ++ m ∷ [] }

abbrev pub more_built : BuilderView → LineView → Event → BuilderView
more_built d line m = record { lines = d.lines; line = Some (more_line line m); open_region = region_of m }

pub pushed-more : (line : LineView) (m : Event) → partner_of m ≢ line.instance → length line.events ≢ MAX_EVENTS → pushed line m ≡ Ok (more_line line m)
unfolding pushed
pushed-more line m other room = rw (ne_eqb (partner_of m) line.instance other, ne_eqb (length line.events) MAX_EVENTS room) refl

pub event-built : {names : List (List ℕ)} {own : List ℕ} {events : ℕ} {region : Region} {d : BuilderView} {line : LineView} {m : Event} → Pushes names own events region d line m → with_event d d.line m ≡ Ok (more_built d line m)
event-built {d = d} {line = line} {m = m} p =
    let many = p.inside.many in
    let room = p.room in
    ap (λ o. with_event d o m) p.inside.there ∙ bind_at (pushed line m) (λ more. Ok (record { lines = d.lines; line = Some more; open_region = region_of m })) (more_line line m) (pushed-more line m p.other (omega arith))

pub event-inside : {names : List (List ℕ)} {own : List ℕ} {events : ℕ} {region : Region} {d : BuilderView} {line : LineView} {m : Event} → Pushes names own events region d line m
    → IsInside names own (events + 1) (after_receive region) (more_built d line m) (more_line line m)
event-inside {names} {own} {events} {region} {d} {line} {m} p =
    let i = p.inside in
    let many = i.many in
    let room : length line.events < MAX_EVENTS = omega (arith, p.room) in
    let may = open-may region (region_of m) line.events p.open_is in
    record {
      there = refl;
      next = i.next;
      owner = i.owner;
      many = omega (arith, length-append line.events (m ∷ []));
      open_is = open-more region line.events m p.open_is;
      among = record {
        line_is = IsLine-push line.instance line.events m i.among.line_is p.other room may;
        events_are = all-push (IsInstanceEvent (length names)) line.events m i.among.events_are p.line_event;
      };
    }

pub event-event_saying : {names : List (List ℕ)} {own : List ℕ} {events : ℕ} {region : Region} {d : BuilderView} {line : LineView} {m : Event} → Pushes names own events region d line m
    → so_far names (states.Inside own (events + 1) (after_receive region)) (more_built d line m) ≡ so_far names (states.Inside own events region) d ++ event_saying names m ∷ []
event-event_saying {names} {own} {events} {region} {d} {line} {m} p =
    let r = last_from 0 line.events in
    let front = flat_map (part names) d.lines in
    let b = body names 0 line.events in
    let grown : body names 0 (line.events ++ m ∷ []) ++ tail_of (after_receive region) (last_from 0 (line.events ++ m ∷ [])) ≡ (b ++ tail_of region r) ++ event_saying names m ∷ [] =
    ap (λ l. l ++ tail_of (after_receive region) (last_from 0 (line.events ++ m ∷ []))) (body-push names 0 line.events m)
    ∙ ap (λ c. (b ++ event_sayings names r m) ++ tail_of (after_receive region) c) (last_from-push 0 line.events m)
    ∙ append_assoc b (event_sayings names r m) (tail_of (after_receive region) (region_of m))
    ∙ ap (λ l. b ++ l) (tail-more names region line.events m p.open_is)
    ∙ sym (append_assoc b (tail_of region r) (event_saying names m ∷ [])) in
    ap (λ l. sayings.Begin ∷ (front ++ (sayings.Head own ∷ l))) grown
    ∙ ap (λ l. sayings.Begin ∷ l) (sym (append_assoc front (sayings.Head own ∷ (b ++ tail_of region r)) (event_saying names m ∷ [])))
    ∙ ap (λ o. (sayings.Begin ∷ (front ++ inside_sayings names own region o)) ++ event_saying names m ∷ []) (sym p.inside.there)
