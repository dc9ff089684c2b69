-- Entries of a growing line, and their events.
use Rattle.std.proofs.Common.{◌≡◌, ◌≢◌, ℕ, suc, ◌+◌, ◌-◌, ◌<◌, ◌≤◌, max, cond, true, false, List, [], ◌∷◌, ◌++◌, length, get_or, map, All, Some, refl, sym, ap, ◌∙◌, subst, arith}
use Rattle.std.specs.Prelude.{slice_get}
use Rattle.std.proofs.lemmas.Option.{slice_get_read}
use Rattle.std.proofs.lemmas.List.{map-append, length-append, length-map, get_or-map}
use Rattle.std.proofs.lemmas.List.Elements.{All-head, All-tail, All-push, All-weaker}
use Rattle.chart.specs.declared.event.Event.{Event}
use Rattle.chart.specs.declared.event.Event.TheVariants.{Send, Receive}
use Rattle.chart.specs.declared.growing_line.Entry.{Entry}
use Rattle.chart.specs.declared.line.TheConstants.{MAX_EVENTS}
use Rattle.chart.specs.Events.{send_event, receive_event, is_receive, partner_of, name_of, region_of, MayHaveRegion}
use Rattle.chart.specs.LineLayout.{AreStartsAt, IsLaidOut, event_of, events_of, starts_of, AreEntries}
use Rattle.chart.proofs.Layouts.{IsLaidOut-push}

-- the event of an entry, by its kind
pub event_receives : (names : List (List ℕ)) (e : Entry) → e.receives ≡ true → event_of names e ≡ receive_event e.partner (get_or names e.name []) e.region
event_receives names e h = ap (λ b. cond b (receive_event e.partner (get_or names e.name []) e.region) (send_event e.partner (get_or names e.name []))) h

pub event_sends : (names : List (List ℕ)) (e : Entry) → e.receives ≡ false → event_of names e ≡ send_event e.partner (get_or names e.name [])
event_sends names e h = ap (λ b. cond b (receive_event e.partner (get_or names e.name []) e.region) (send_event e.partner (get_or names e.name []))) h

-- an entry with the parts of an event has this event
pub event_kept : (names : List (List ℕ)) (e : Entry) (m : Event) → e.partner ≡ partner_of m → e.receives ≡ is_receive m → get_or names e.name [] ≡ name_of m → e.region ≡ region_of m → event_of names e ≡ m
event_kept names e (Send to name) p r n g = event_sends names e r ∙ ap (λ q. send_event q (get_or names e.name [])) p ∙ ap (λ w. send_event to w) n
event_kept names e (Receive from name region) p r n g = event_receives names e r ∙ ap (λ q. receive_event q (get_or names e.name []) e.region) p ∙ ap (λ w. receive_event from w e.region) n ∙ ap (λ k. receive_event from name k) g

-- the event at a place is that of the entry there
pub event_there : (names : List (List ℕ)) (entries : List Entry) (i : ℕ) (e : Entry) (m : Event) → i < length entries → e ≡ get_or entries i e → m ≡ get_or (events_of names entries) i m → m ≡ event_of names e
event_there names entries i e m within read there = there ∙ get_or-map (event_of names) entries i e m within ∙ ap (event_of names) (sym read)

pub event_read : (names : List (List ℕ)) (entries : List Entry) (i : ℕ) (e : Entry) (m : Event) → i < length entries → e ≡ get_or entries i e → m ≡ event_of names e → m ≡ get_or (events_of names entries) i m
event_read names entries i e m within read is = is ∙ sym (get_or-map (event_of names) entries i e m within ∙ ap (event_of names) (sym read))

-- the starts of runs in an entry are right
pub starts_read : (p : ℕ) (names : List (List ℕ)) (entries : List Entry) (greatest index : ℕ) (e : Entry) → AreEntries p names entries greatest → 1 ≤ index → index ≤ length entries → e ≡ get_or entries (index - 1) e
    → AreStartsAt (events_of names entries) index e.starts
starts_read p names entries greatest index e are begun within read =
    let inside : index - 1 < length entries = omega (arith, begun, within) in
    let there : e.starts ≡ get_or (starts_of entries) (index - 1) e.starts = sym (get_or-map (λ (x : Entry). x.starts) entries (index - 1) e e.starts inside ∙ ap (λ (x : Entry). x.starts) (sym read)) in
    let long : length (starts_of entries) ≡ length entries = length-map entries (λ (x : Entry). x.starts) in
    let place : suc (index - 1) ≡ index = omega (arith, begun) in
    subst (λ i. AreStartsAt (events_of names entries) i e.starts) place (are.laid_out.right (index - 1) e.starts (slice_get_read (starts_of entries) (length entries) (index - 1) e.starts (sym long) inside there))

-- events stay the same if names stay at their places
pub same_events : (names more : List (List ℕ)) (entries : List Entry) → All (λ e. e.name < length names) entries → ((k : ℕ) → k < length names → get_or more k [] ≡ get_or names k []) → events_of more entries ≡ events_of names entries
same_events names more [] named kept = refl
same_events names more (e ∷ entries) named kept =
    let name : get_or more e.name [] ≡ get_or names e.name [] = kept e.name (All-head (λ (x : Entry). x.name < length names) e entries named) in
    let one : event_of more e ≡ event_of names e = ap (λ (w : List ℕ). cond e.receives (receive_event e.partner w e.region) (send_event e.partner w)) name in
    let rest : events_of more entries ≡ events_of names entries = same_events names more entries (All-tail (λ (x : Entry). x.name < length names) e entries named) kept in
    ap (λ (m : Event). m ∷ events_of more entries) one ∙ ap (λ (ms : List Event). event_of names e ∷ ms) rest

-- one more entry, whose name was found or added
pub events_of-push : (p : ℕ) (names more : List (List ℕ)) (entries : List Entry) (greatest : ℕ) (m : Event) (e : Entry) → AreEntries p names entries greatest → ((k : ℕ) → k < length names → get_or more k [] ≡ get_or names k [])
    → event_of more e ≡ m → events_of more (entries ++ e ∷ []) ≡ events_of names entries ++ m ∷ []
events_of-push p names more entries greatest m e old kept is =
    map-append (event_of more) entries (e ∷ []) ∙ ap (λ (ms : List Event). ms ++ event_of more e ∷ []) (same_events names more entries old.named kept) ∙ ap (λ (x : Event). events_of names entries ++ x ∷ []) is

pub AreEntries-push : (p : ℕ) (names more : List (List ℕ)) (entries : List Entry) (greatest : ℕ) (m : Event) (e : Entry) → AreEntries p names entries greatest → ((k : ℕ) → k < length names → get_or more k [] ≡ get_or names k [])
    → length names ≤ length more → length more ≤ length names + 1 → e.name < length more → event_of more e ≡ m → partner_of m ≢ p → length entries < MAX_EVENTS → MayHaveRegion (events_of names entries) (region_of m)
    → AreStartsAt (events_of names entries ++ m ∷ []) (length (events_of names entries) + 1) e.starts → AreEntries p more (entries ++ e ∷ []) (max greatest (region_of m))
AreEntries-push p names more entries greatest m e old kept longer few within is other short may next = record {
  named = All-push (λ (x : Entry). x.name < length more) entries e (All-weaker (λ (x : Entry). x.name < length names) (λ (x : Entry). x.name < length more) (λ x h. omega (arith, h, longer)) entries old.named) within;
  few = omega (arith, length-append entries (e ∷ []), old.few, few);
  laid_out =
      let long : length (events_of names entries) ≡ length entries = length-map entries (event_of names) in
      let starts : starts_of (entries ++ e ∷ []) ≡ starts_of entries ++ e.starts ∷ [] = map-append (λ (x : Entry). x.starts) entries (e ∷ []) in
      rw (events_of-push p names more entries greatest m e old kept is, starts)
      (IsLaidOut-push p (events_of names entries) (starts_of entries) greatest m e.starts old.laid_out other (omega (arith, long, short)) may next);
}
