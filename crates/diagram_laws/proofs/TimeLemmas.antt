-- The clocks of a log are vector time, event by event and row by row.
use Rattle.std.proofs.Common.{◌≡◌, ℕ, zero, suc, ◌+◌, ◌<◌, ◌≤◌, ◌⊎◌, inl, inr, List, [], ◌∷◌, ◌++◌, length, replicate, Option, None, Some, refl, sym, ap, ◌∙◌, subst, arith, append_assoc, length-append, eq-eqb}
use Rattle.std.specs.Prelude.{slice_get, slice_set, flat_map}
use Rattle.std.proofs.lemmas.Bool.{cases_eq}
use Rattle.std.proofs.lemmas.Option.{none-some, same_Some}
use Rattle.std.proofs.lemmas.List.{length-set, length-replicate}
use Rattle.chart.specs.declared.event.Event.{Event as Occurs}
use Rattle.chart.specs.declared.event.Event.TheVariants as events
use Rattle.chart.specs.declared.instance.EventNo.{EventNo}
use Rattle.chart.specs.Charts.{Chart, Place, at, chart_event, BelongsTo, IsSendTo, IsReceiveFrom, chart_lines}
use Rattle.chart.specs.Events.{is_send_to}
use Rattle.chart.specs.Places.{IsEvent}
use Rattle.chart.proofs.Belongs.{IsEvent-from_event, IsEvent-from_passes, not_both, same_place, same_send}
use Rattle.chart.proofs.Places.{slice_get-set_same, slice_get-set_other}
use Rattle.chart.proofs.Tally.{ith_at}
use Rattle.closure.specs.Faults.{place_of}
use Rattle.closure.proofs.ReadLemmas.{instance_within}
use Rattle.chart_layout.specs.declared.row.Row.{Row}
use Rattle.chart_layout.specs.declared.row.Row.TheVariants.{Message, Event}
use Rattle.chart_layout.specs.Ends.{IsEnd, AreEnds}
use Rattle.chart_layout.specs.Layouts.{number_on, row_on, laid_out, row_of, IsDrawing}
use Rattle.chart_layout.proofs.LaidOutLemmas.{laid_out-push, number_on-own, length-number_on}
use Rattle.clock.specs.Clocks.{with_entry}
use Rattle.diagram_export.specs.Clocks.{Times, clock_at, with_clock, carried_in, carried_by, taking, heard, stamp, with_carried, sent_with, stamped, ticked, entry, tick, events_of, entries_from, at_first}
use Rattle.diagram_export.specs.Exports.{ExportView, event_of, end_of}
use Rattle.diagram_export.specs.declared.log.Stamped.{Stamped}
use Rattle.diagram_laws.specs.VectorTime.{IsVectorTime, VectorTimeLaw}
use Rattle.diagram_laws.proofs.DrawnLemmas.{above_first, next_in_row, has_row, one_send}
use Rattle.diagram_laws.proofs.Lists.{get_seam}
use Rattle.diagram_laws.proofs.PastLemmas.{IsTime, IsHeard, time_more, time_at_first, heard_alone, heard_message, heard_stamped}

-- Clocks in lists.

clock_set : (clocks : List (List ℕ)) (p : ℕ) (clock : List ℕ) → 1 ≤ p → p ≤ length clocks → clock_at (with_clock clocks p clock) p ≡ Some clock
clock_set clocks zero clock low high = absurd (omega (arith, low))
clock_set clocks (suc p) clock low high = slice_get-set_same clocks p clock (omega (arith, high))

clock_kept : (clocks : List (List ℕ)) (p q : ℕ) (clock : List ℕ) → (p ≡ q → ⊥) → clock_at (with_clock clocks p clock) q ≡ clock_at clocks q
clock_kept clocks zero q clock other = refl
clock_kept clocks (suc p) zero clock other = refl
clock_kept clocks (suc p) (suc q) clock other = slice_get-set_other clocks p q clock (λ same. other (ap suc (sym same)))

length-with_clock : (clocks : List (List ℕ)) (p : ℕ) (clock : List ℕ) → length (with_clock clocks p clock) ≡ length clocks
length-with_clock clocks zero clock = refl
length-with_clock clocks (suc p) clock = length-set clocks p clock

length-with_carried : (carried : List (List ℕ)) (row : Option ℕ) (clock : List ℕ) → length (with_carried carried row clock) ≡ length carried
length-with_carried carried None clock = refl
length-with_carried carried (Some row) clock = length-set carried row clock

get_replicate : (n i : ℕ) (clock : List ℕ) → i < n → slice_get (replicate n clock) i ≡ Some clock
get_replicate zero i clock less = absurd (omega (arith, less))
get_replicate (suc n) zero clock less = refl
get_replicate (suc n) (suc i) clock less = get_replicate n i clock (omega (arith, less))

clock_first : (n p : ℕ) (clock : List ℕ) → 1 ≤ p → p ≤ n → clock_at (replicate n clock) p ≡ Some clock
clock_first n zero clock low high = absurd (omega (arith, low))
clock_first n (suc p) clock low high = get_replicate n p clock (omega (arith, high))

module _ (v : ExportView) (drawing : IsDrawing v.lines v.rows) (ends : AreEnds (chart_lines v.lines) v.ends) where
  abbrev c : Chart
  c = chart_lines v.lines

  abbrev n : ℕ
  n = length v.lines

  -- after `many q` events of each line q, the clock of each line is the time of its last event, and that of each
  -- message the time of its send
  record Stands (many : ℕ → ℕ) (times : Times) : Type 0 where
    pub room : length times.clocks ≡ n
    pub tall : length times.carried ≡ length v.rows
    pub own : (p : ℕ) → 1 ≤ p → p ≤ n → (clock : List ℕ) × (clock_at times.clocks p ≡ Some clock) × IsTime c n many (at p (many p)) clock
    pub sent : (q : ℕ) (s : Place) → IsSendTo c q s → s.index ≤ many s.instance → (clock : List ℕ) × (carried_in times.carried (row_of v.rows s) ≡ Some clock) × IsTime c n many s clock

  -- the event comes next
  record MayTick (many more : ℕ → ℕ) (e : EventNo) : Type 0 where
    pub event : Occurs
    pub there : event_of v e ≡ Some event
    pub number : e.index ≡ suc (many e.instance)
    pub grown : (q : ℕ) → more q ≡ many q + length (number_on q e)
    pub came : (s : Place) → BelongsTo c s (place_of e) → s.index ≤ many s.instance

  -- the log of some events has each of them with its time
  abbrev Logged : Times → List EventNo → Type 0
  Logged times events = (length (entries_from v times events) ≡ length events)
      × ((i : ℕ) (e : EventNo) → slice_get events i ≡ Some e → (x : Stamped) × (slice_get (entries_from v times events) i ≡ Some x) × (x.event ≡ e) × IsVectorTime c (place_of e) x.clock)

  module _ (many more : ℕ → ℕ) (times : Times) (e : EventNo) (stands : Stands many times) (may : MayTick many more e) where
    is_event : IsEvent c (place_of e)
    is_event = IsEvent-from_event c (place_of e) may.event may.there

    low : 1 ≤ e.instance
    low = let on = instance_within v.lines (place_of e) is_event in let line = on.1 in omega (arith, line)

    high : e.instance ≤ n
    high = let on = instance_within v.lines (place_of e) is_event in let line = on.1 in let inside = on.2 in omega (arith, line, inside)

    own : (clock : List ℕ) × (clock_at times.clocks e.instance ≡ Some clock) × IsTime c n many (at e.instance (many e.instance)) clock
    own = stands.own e.instance low high

    placed : place_of e ≡ at e.instance (suc (many e.instance))
    placed = ap (at e.instance) may.number

    abbrev Hears : List ℕ → Type 0
    Hears clock = IsHeard c n many e.instance (many e.instance) clock

    -- the clock is merged with that of the message
    hears : (clock : List ℕ) → IsTime c n many (at e.instance (many e.instance)) clock → Hears (heard v times e may.event clock)
    hears clock time = go may.event may.there
      where
        alone : ((s : Place) → BelongsTo c s (place_of e) → ⊥) → Hears clock
        alone none = heard_alone c n many e.instance (many e.instance) clock time (λ s b. none s (subst (BelongsTo c s) (sym placed) b))

        by_end : (q : ℕ) → IsReceiveFrom c q (place_of e) → (o : Option EventNo) → IsEnd c (place_of e) o → Hears (taking clock (carried_by v times.carried o))
        by_end q receives None is = alone is.0
        by_end q receives (Some x) (inl b) =
            let w = stands.sent e.instance (place_of x) b.sent (may.came (place_of x) b) in
            subst (λ o. Hears (taking clock o)) (sym w.1) (heard_message c n many e.instance (many e.instance) clock time (place_of x) w.0 (subst (BelongsTo c (place_of x)) placed b) w.2)
        by_end q receives (Some x) (inr b) = absurd (not_both c x.instance q (place_of e) b.sent receives)

        go : (m : Occurs) → chart_event c (place_of e) ≡ Some m → Hears (heard v times e m clock)
        go (events.Send to name) is = alone (λ s b. not_both c to s.instance (place_of e) (events.Send to name, is, eq-eqb to to refl) b.received)
        go (events.Receive from name region) is = by_end from (events.Receive from name region, is, eq-eqb from from refl) (end_of v e) (ends e)

    abbrev clock : List ℕ
    clock = stamp v times e may.event own.0

    more_own : more e.instance ≡ suc (many e.instance)
    more_own =
        let more_is = may.grown e.instance in
        elim (length-number_on e.instance e) [
          | inl one ↦ let length_is = one.1 in omega (arith, more_is, length_is)
          | inr none ↦ absurd (none.0 refl)
        ]

    more_other : (q : ℕ) → (e.instance ≡ q → ⊥) → more q ≡ many q
    more_other q other =
        let more_is = may.grown q in
        elim (length-number_on q e) [
          | inl one ↦ absurd (other one.0)
          | inr none ↦ let length_is = none.1 in omega (arith, more_is, length_is)
        ]

    more_all : (q : ℕ) → many q ≤ more q
    more_all q = let more_is = may.grown q in omega (arith, more_is)

    time : IsTime c n more (place_of e) clock
    time =
        let heard_is = hears own.0 own.2 in
        let next = heard_stamped c n many e.instance (many e.instance) (heard v times e may.event own.0) more heard_is refl low high more_own more_all in
        subst (λ i. IsTime c n more (at e.instance i) (with_entry (heard v times e may.event own.0) e.instance i)) (sym may.number) next

    own_next : (p : ℕ) → 1 ≤ p → p ≤ n → (x : List ℕ) × (clock_at (with_clock times.clocks e.instance clock) p ≡ Some x) × IsTime c n more (at p (more p)) x
    own_next p from_one within =
        elim (cases_eq e.instance p) [
          | inl same ↦
              let room = stands.room in
              let last : e.index ≡ more p = may.number ∙ sym more_own ∙ ap more same in (
                clock,
                subst (λ i. clock_at (with_clock times.clocks e.instance clock) i ≡ Some clock) same (clock_set times.clocks e.instance clock low (omega (arith, high, room))),
                subst (λ x. IsTime c n more x clock) (same_place (place_of e) (at p (more p)) same last) time,
              )
          | inr other ↦
              let old = stands.own p from_one within in (
                old.0,
                clock_kept times.clocks e.instance p clock other ∙ old.1,
                subst (λ i. IsTime c n more (at p i) old.0) (sym (more_other p other)) (time_more c n many more (at p (many p)) old.0 more_all old.2),
              )
        ]

    -- an event that has come is this one, or had come before
    this_or_older : (s : Place) → s.index ≤ more s.instance → (place_of e ≡ s) ⊎ ((place_of e ≡ s → ⊥) × (s.index ≤ many s.instance))
    this_or_older s came =
        elim (cases_eq e.instance s.instance) [
          | inr other ↦ let same = more_other s.instance other in inr (λ is. other (ap (λ (x : Place). x.instance) is), omega (arith, came, same))
          | inl line ↦
              elim (cases_eq e.index s.index) [
                | inl number ↦ inl (same_place (place_of e) s line number)
                | inr differs ↦
                    let up = ap more line in
                    let old = ap many line in
                    let own_is = more_own in
                    let index = may.number in
                    inr (λ is. differs (ap (λ (x : Place). x.index) is), omega (arith, came, up, old, own_is, index, differs))
              ]
        ]

    sent_next : (q : ℕ) (s : Place) → IsSendTo c q s → s.index ≤ more s.instance → (x : List ℕ) × (carried_in (sent_with v times.carried e clock may.event) (row_of v.rows s) ≡ Some x) × IsTime c n more s x
    sent_next q s sends came = go may.event may.there (this_or_older s came)
      where
        go : (m : Occurs) → chart_event c (place_of e) ≡ Some m → (place_of e ≡ s) ⊎ ((place_of e ≡ s → ⊥) × (s.index ≤ many s.instance))
            → (x : List ℕ) × (carried_in (sent_with v times.carried e clock m) (row_of v.rows s) ≡ Some x) × IsTime c n more s x
        go (events.Receive from name region) is (inl same) = absurd (not_both c q from s sends (subst (IsReceiveFrom c from) same (events.Receive from name region, is, eq-eqb from from refl)))
        go (events.Receive from name region) is (inr old) =
            let w = stands.sent q s sends old.1 in
            (w.0, w.1, time_more c n many more s w.0 more_all w.2)
        go (events.Send to name) is (inl same) =
            let row = has_row v.lines v.rows drawing (place_of e) is_event in
            let tall = stands.tall in
            let inside = row.2 in (
              clock,
              ap (λ o. carried_in (with_carried times.carried o clock) (row_of v.rows s)) row.1
                  ∙ ap (carried_in (slice_set times.carried row.0 clock)) (sym (ap (row_of v.rows) same) ∙ row.1)
                  ∙ slice_get-set_same times.carried row.0 clock (omega (arith, inside, tall)),
              subst (λ x. IsTime c n more x clock) same time,
            )
        go (events.Send to name) is (inr old) =
            let row = has_row v.lines v.rows drawing (place_of e) is_event in
            let its = has_row v.lines v.rows drawing s (IsEvent-from_passes c (is_send_to q) s sends) in
            let w = stands.sent q s sends old.1 in
            let apart : its.0 ≡ row.0 → ⊥ = λ same. old.0 (one_send v.lines v.rows drawing (place_of e) s to q row.0 (events.Send to name, is, eq-eqb to to refl) sends row.1 (its.1 ∙ ap (λ (i : ℕ). Some i) same)) in (
              w.0,
              ap (λ o. carried_in (with_carried times.carried o clock) (row_of v.rows s)) row.1
                  ∙ ap (carried_in (slice_set times.carried row.0 clock)) its.1
                  ∙ slice_get-set_other times.carried row.0 its.0 clock apart
                  ∙ sym (ap (carried_in times.carried) its.1)
                  ∙ w.1,
              time_more c n many more s w.0 more_all w.2,
            )

    length-sent_with : (m : Occurs) → length (sent_with v times.carried e clock m) ≡ length times.carried
    length-sent_with (events.Send to name) = length-with_carried times.carried (row_of v.rows (place_of e)) clock
    length-sent_with (events.Receive from name region) = refl

    ticked_is : tick v times e ≡ ticked v times e (Some may.event) (Some own.0)
    ticked_is = ap (λ o. ticked v times e o (clock_at times.clocks e.instance)) may.there ∙ ap (λ a. ticked v times e (Some may.event) a) own.1

    stands_next : Stands more (tick v times e)
    stands_next = subst (Stands more) (sym ticked_is) (record {
      room = length-with_clock times.clocks e.instance clock ∙ stands.room;
      tall = length-sent_with may.event ∙ stands.tall;
      own = own_next;
      sent = sent_next;
    })

    entry_is : entry v times e ≡ record { event = e; clock = clock } ∷ []
    entry_is = ap (λ o. stamped v times e o (clock_at times.clocks e.instance)) may.there ∙ ap (λ a. stamped v times e (Some may.event) a) own.1

    logged_next : (later : List EventNo) → Logged (tick v times e) later → Logged times (e ∷ later)
    logged_next later rest = (ap length whole ∙ ap suc rest.0, each)
      where
        whole : entries_from v times (e ∷ later) ≡ record { event = e; clock = clock } ∷ entries_from v (tick v times e) later
        whole = ap (λ l. l ++ entries_from v (tick v times e) later) entry_is

        each : (i : ℕ) (f : EventNo) → slice_get (e ∷ later) i ≡ Some f → (x : Stamped) × (slice_get (entries_from v times (e ∷ later)) i ≡ Some x) × (x.event ≡ f) × IsVectorTime c (place_of f) x.clock
        each zero f is =
            let same = same_Some e f is in
            (record { event = e; clock = clock }, ap (λ l. slice_get l zero) whole, same, subst (λ (x : EventNo). IsVectorTime c (place_of x) clock) same time.exact)
        each (suc i) f is = let w = rest.1 i f is in (w.0, ap (λ l. slice_get l (suc i)) whole ∙ w.1, w.2, w.3)

  -- Row by row.

  abbrev so_far : List Row → ℕ → ℕ
  so_far above q = length (laid_out above q)

  more_rows : (above : List Row) (row : Row) (q : ℕ) → so_far (above ++ row ∷ []) q ≡ so_far above q + length (row_on q row)
  more_rows above row q = ap length (laid_out-push above row q) ∙ length-append (laid_out above q) (row_on q row)

  -- an event comes next if it does in its row
  may_tick : (many more : ℕ → ℕ) (e : EventNo) → (e.index ≡ suc (many e.instance)) × (e.index ≤ length (c e.instance)) → ((q : ℕ) → more q ≡ many q + length (number_on q e))
      → ((s : Place) → BelongsTo c s (place_of e) → s.index ≤ many s.instance) → MayTick many more e
  may_tick many more e next grown came =
      let first = next.0 in
      let m = ith_at (c e.instance) e.index (omega (arith, first)) next.1 in
      record { event = m.0; there = m.1; number = next.0; grown = grown; came = came }

  module _ (above rest : List Row) (e : EventNo) (is : above ++ Event e ∷ rest ≡ v.rows) where
    may_alone : MayTick (so_far above) (so_far (above ++ Event e ∷ [])) e
    may_alone =
        let next = next_in_row v.lines v.rows drawing above (Event e) rest is e [] [] (number_on-own e.instance e refl) in
        let number = next.0 in
        may_tick (so_far above) (so_far (above ++ Event e ∷ [])) e (omega (arith, number), next.1) (more_rows above (Event e))
        (λ s b.
        let up = drawing.lower (length above) e s (ap (λ l. slice_get l (length above)) (sym is) ∙ get_seam above (Event e) rest) b in
        above_first v.lines v.rows drawing above (Event e ∷ rest) is s up.0 up.1 up.2)

  module _ (above rest : List Row) (s r : EventNo) (is : above ++ Message s r ∷ rest ≡ v.rows) where
    abbrev between : ℕ → ℕ
    between q = so_far above q + length (number_on q s)

    level : BelongsTo c (place_of s) (place_of r)
    level = drawing.level (length above) s r (ap (λ l. slice_get l (length above)) (sym is) ∙ get_seam above (Message s r) rest)

    send_number : (s.index ≡ suc (so_far above s.instance)) × (s.index ≤ length (c s.instance))
    send_number =
        let next = next_in_row v.lines v.rows drawing above (Message s r) rest is s [] (number_on s.instance r) (ap (λ l. l ++ number_on s.instance r) (number_on-own s.instance s refl)) in
        let number = next.0 in
        (omega (arith, number), next.1)

    may_send : MayTick (so_far above) between s
    may_send = may_tick (so_far above) between s send_number (λ q. refl) (λ t b. absurd (not_both c r.instance t.instance (place_of s) level.sent b.received))

    may_receive : MayTick between (so_far (above ++ Message s r ∷ [])) r
    may_receive =
        let next = next_in_row v.lines v.rows drawing above (Message s r) rest is r (number_on r.instance s) [] (ap (λ l. number_on r.instance s ++ l) (number_on-own r.instance r refl)) in
        may_tick between (so_far (above ++ Message s r ∷ [])) r next
        (λ q. let all = more_rows above (Message s r) q in let both = length-append (number_on q s) (number_on q r) in omega (arith, all, both))
        (λ t b.
        let same = same_send c (place_of s) t (place_of r) level b in
        let one : length (number_on s.instance s) ≡ 1 = ap length (number_on-own s.instance s refl) in
        let number = send_number.0 in
        subst (λ (x : Place). x.index ≤ so_far above x.instance + length (number_on x.instance s)) same (omega (arith, one, number)))

  rows_logged : (rest above : List Row) (times : Times) → above ++ rest ≡ v.rows → Stands (so_far above) times → Logged times (flat_map events_of rest)
  rows_logged [] above times is stands = (refl, λ i f none. absurd (none-some f none))
  rows_logged (Event e ∷ rest) above times is stands =
      let may = may_alone above rest e is in
      let many = so_far above in
      let more = so_far (above ++ Event e ∷ []) in
      logged_next many more times e stands may (flat_map events_of rest)
      (rows_logged rest (above ++ Event e ∷ []) (tick v times e) (append_assoc above (Event e ∷ []) rest ∙ is) (stands_next many more times e stands may))
  rows_logged (Message s r ∷ rest) above times is stands =
      let sends = may_send above rest s r is in
      let receives = may_receive above rest s r is in
      let many = so_far above in
      let middle = between above rest s r is in
      let more = so_far (above ++ Message s r ∷ []) in
      let sent = stands_next many middle times s stands sends in
      logged_next many middle times s stands sends (r ∷ flat_map events_of rest)
      (logged_next middle more (tick v times s) r sent receives (flat_map events_of rest)
      (rows_logged rest (above ++ Message s r ∷ []) (tick v (tick v times s) r) (append_assoc above (Message s r ∷ []) rest ∙ is) (stands_next middle more (tick v times s) r sent receives)))

  first_stands : Stands (so_far []) (at_first v)
  first_stands = record {
    room = length-replicate n (replicate n 0);
    tall = length-replicate (length v.rows) (replicate n 0);
    own = λ p low high. (replicate n 0, clock_first n p (replicate n 0) low high, time_at_first c n (so_far []) p);
    sent = λ q s sends none. absurd (let event = IsEvent-from_passes c (is_send_to q) s sends in let begun = event.0 in omega (arith, begun, none));
  }

  all_logged : Logged (at_first v) (flat_map events_of v.rows)
  all_logged = rows_logged v.rows [] (at_first v) refl first_stands

pub vector_time : VectorTimeLaw
vector_time v drawing ends = let all = all_logged v drawing ends in record { all = all.0; each = all.1 }
