-- The chart of exported messages, one in each row.
use Rattle.std.proofs.Common.{◌≡◌, ℕ, suc, ◌+◌, ◌*◌, ◌<◌, ◌≤◌, ◌==◌, ◌&&◌, ◌||◌, ◌⊎◌, inl, inr, not, Bool, true, false, cond, List, [], ◌∷◌, ◌++◌, Option, None, Some, length, map, nat_lt, ne_eqb, eq-eqb, refl, sym, ap, ◌∙◌, subst, append_assoc, arith}
use Rattle.std.specs.Prelude.{fold}
use Rattle.std.specs.List.{list_any}
use Rattle.std.proofs.lemmas.Bool.{cases_eq}
use Rattle.std.proofs.lemmas.Bool.Decides.{nat_tests}
use Rattle.std.proofs.lemmas.List.{length-append, append-nil}
use Rattle.chart.specs.Events.{send_event, receive_event, greatest_region}
use Rattle.chart.specs.declared.event.Event.{Event}
use Rattle.chart.specs.declared.line.TheConstants.{MAX_EVENTS}
use Rattle.diagram_labels.specs.Labels.{Labelling, with_label}
use Rattle.diagrams.specs.Collecting.{message_of}
use Rattle.diagrams.specs.Crossing.{fault_with, fault_from, is_received}
use Rattle.diagrams.specs.Diagrams.{ItemView}
use Rattle.diagrams.specs.Full.{load, full_from}
use Rattle.diagrams.specs.Losing.{is_received_later, kept, with_lost}
use Rattle.diagrams.specs.Naming.{label_of, label_at, named_as, named_from}
use Rattle.diagrams.specs.declared.left_out.LeftOut.{LeftOut}
use Rattle.diagrams.specs.declared.message.Message.{Message}
use Rattle.diagrams.specs.Messages.Regions.{goes_on, begins, region_of, event_of, with_ends, line_of}
use Rattle.diagrams.specs.Messages.Turns.{send_end, receive_end, all_ends, own_ends}
use Rattle.diagrams.specs.declared.messages.end.End.{End}
use Rattle.diagrams.specs.declared.messages.message.Named.{Named}
use Rattle.texts.specs.declared.bytes.place.Place.{Place}
use Rattle.diagrams.specs.Messages.Each.{Each}
use Rattle.diagram_round_trip.proofs.DiagramLemmas.{IsExported, arrow_by, item_by, items_from}
use Rattle.diagram_round_trip.proofs.DiagramChartLemmas.{Own, still_own, named_itself, messages_from}
use Rattle.diagram_round_trip.proofs.Lists.{get_seam}
use Rattle.diagram_round_trip.proofs.MscLemmas.{Placed}
use Rattle.diagram_round_trip.proofs.ExportedRows.{ExportedRow, Sent, RaceNote}
use Rattle.chart.specs.StableOrder.Order.{put_by, in_order_by}

-- No message crosses another.

never : (a b : Bool) → (a && (b && false)) ≡ false
never true true = refl
never true false = refl
never false b = refl

-- each of them is above the row
abbrev Above : ℕ → List Message → Type 0
Above k messages = Each (λ (m : Message). m.ends < k) messages

no_fault : (k : ℕ) (m : Message) (earlier : List Message) → m.ends ≡ k → Above k earlier → fault_with None m earlier ≡ None
unfolding fault_with
no_fault k m [] at all = refl
no_fault k m (n ∷ earlier) at all =
    let above = all.0 in
    let below : nat_lt m.ends n.ends ≡ false = grind (arith, nat_tests) in
    rw (below, never (not m.is_lost) (is_received m.sender m.receiver n)) (no_fault k m earlier at all.1)

above_more : (k : ℕ) (earlier : List Message) → Above k earlier → Above (k + 1) earlier
above_more k [] all = tt
above_more k (m ∷ earlier) all = let one = all.0 in (omega arith, above_more k earlier all.1)

above_push : (k : ℕ) (earlier : List Message) (m : Message) → m.ends ≡ k → Above k earlier → Above (k + 1) (earlier ++ m ∷ [])
above_push k [] m at all = (omega arith, tt)
above_push k (n ∷ earlier) m at all = let one = all.0 in (omega arith, above_push k earlier m at all.1)

pub no_faults : (k : ℕ) (earlier : List Message) (placed : List Placed) → Above k earlier → fault_from None earlier (messages_from k placed) ≡ None
unfolding fault_from
no_faults k earlier [] all = refl
no_faults k earlier ((Sent is_lost from to name, place) ∷ placed) all =
    let m = message_of k (arrow_by k is_lost from to name place) in
    ap (λ fault. fault_from fault (earlier ++ m ∷ []) (messages_from (k + 1) placed)) (no_fault k m earlier refl all)
    ∙ no_faults (k + 1) (earlier ++ m ∷ []) placed (above_push k earlier m refl all)
no_faults k earlier ((RaceNote at words, place) ∷ placed) all = no_faults (k + 1) earlier placed (above_more k earlier all)

-- No lost message is skipped.

-- it is a message from one to the other that is received
abbrev pub is_taken : ℕ → ℕ → ExportedRow → Bool
is_taken q p (Sent is_lost from to name) = (suc from == q && suc to == p) && not is_lost
is_taken q p (RaceNote at words) = false

-- after a lost message no other one of its lane is received
abbrev pub StaysLost : ExportedRow → List ExportedRow → Type 0
StaysLost (Sent true from to name) later = list_any (is_taken (suc from) (suc to)) later ≡ false
StaysLost (Sent false from to name) later = Unit {0}
StaysLost (RaceNote at words) later = Unit {0}

abbrev pub StayLost : List ExportedRow → Type 0
StayLost [] = Unit {0}
StayLost (s ∷ exported) = StaysLost s exported × StayLost exported

abbrev pub exported_of : List Placed → List ExportedRow
exported_of placed = map (λ (t : Placed). t.0) placed

same_taken : (q p k : ℕ) (placed : List Placed) → is_received_later (messages_from k placed) q p ≡ list_any (is_taken q p) (exported_of placed)
unfolding is_received_later
same_taken q p k [] = refl
same_taken q p k ((Sent is_lost from to name, place) ∷ placed) = ap (λ b. ((suc from == q && suc to == p) && not is_lost) || b) (same_taken q p (k + 1) placed)
same_taken q p k ((RaceNote at words, place) ∷ placed) = same_taken q p (k + 1) placed

pub all_kept : (k : ℕ) (placed : List Placed) → StayLost (exported_of placed) → kept (messages_from k placed) ≡ messages_from k placed
unfolding kept
all_kept k [] all = refl
all_kept k ((Sent true from to name, place) ∷ placed) all =
    rw (same_taken (suc from) (suc to) (k + 1) placed, all.0) (ap (λ l. message_of k (arrow_by k true from to name place) ∷ l) (all_kept (k + 1) placed all.1))
all_kept k ((Sent false from to name, place) ∷ placed) all = ap (λ l. message_of k (arrow_by k false from to name place) ∷ l) (all_kept (k + 1) placed all.1)
all_kept k ((RaceNote at words, place) ∷ placed) all = all_kept (k + 1) placed all.1

pub none_lost : (k : ℕ) (placed : List Placed) (left_out : List LeftOut) → StayLost (exported_of placed) → with_lost left_out (messages_from k placed) ≡ left_out
unfolding with_lost
none_lost k [] left_out all = refl
none_lost k ((Sent true from to name, place) ∷ placed) left_out all = rw (same_taken (suc from) (suc to) (k + 1) placed, all.0) (none_lost (k + 1) placed left_out all.1)
none_lost k ((Sent false from to name, place) ∷ placed) left_out all = none_lost (k + 1) placed left_out all.1
none_lost k ((RaceNote at words, place) ∷ placed) left_out all = none_lost (k + 1) placed left_out all.1

-- The events of a line.

abbrev sent_on : ℕ → ExportedRow → List Event
sent_on p (Sent is_lost from to name) = cond (suc from == p) (send_event (suc to) name ∷ []) []
sent_on p (RaceNote at words) = []

abbrev taken_on : ℕ → ExportedRow → List Event
taken_on p (Sent is_lost from to name) = cond (suc to == p) (cond is_lost [] (receive_event (suc from) name 0 ∷ [])) []
taken_on p (RaceNote at words) = []

-- the events of p in the rows, from the top
abbrev pub event_on : ℕ → ExportedRow → List Event
event_on p s = sent_on p s ++ taken_on p s

abbrev pub events_on : ℕ → List ExportedRow → List Event
events_on p [] = []
events_on p (s ∷ exported) = event_on p s ++ events_on p exported

-- No line has too many events.

abbrev MayHave : List Message → List ExportedRow → Type 0
MayHave messages exported = (p : ℕ) → load messages p + length (events_on p exported) ≤ MAX_EVENTS

loaded : (k p : ℕ) (is_lost : Bool) (from to : ℕ) (name : List ℕ) (place : Place) (messages : List Message) (exported : List ExportedRow)
    → load (message_of k (arrow_by k is_lost from to name place) ∷ messages) p + length (events_on p exported) ≡ load messages p + length (events_on p (Sent is_lost from to name ∷ exported))
unfolding load
loaded k p is_lost from to name place messages exported = go is_lost (suc from == p) (suc to == p)
  where
    go : (l f t : Bool) → load messages p + cond f 1 0 + cond t (cond l 0 1) 0 + length (events_on p exported)
        ≡ load messages p + length ((cond f (send_event (suc to) name ∷ []) [] ++ cond t (cond l [] (receive_event (suc from) name 0 ∷ [])) []) ++ events_on p exported)
    go l true false = omega arith
    go true true true = omega arith
    go false true true = omega arith
    go l false false = omega arith
    go true false true = omega arith
    go false false true = omega arith

not_above : (n : ℕ) → n ≤ MAX_EVENTS → nat_lt MAX_EVENTS n ≡ false
not_above n le = grind (arith, nat_tests)

pub none_full : (k : ℕ) (messages : List Message) (placed : List Placed) → MayHave messages (exported_of placed) → full_from messages (messages_from k placed) ≡ None
unfolding full_from
none_full k messages [] room = refl
none_full k messages ((Sent is_lost from to name, place) ∷ placed) has =
    let more : MayHave (message_of k (arrow_by k is_lost from to name place) ∷ messages) (exported_of placed) = λ p. subst (λ n. n ≤ MAX_EVENTS) (sym (loaded k p is_lost from to name place messages (exported_of placed))) (has p) in
    let sender = more (suc from) in
    let receiver = more (suc to) in
    let one : nat_lt MAX_EVENTS (load (message_of k (arrow_by k is_lost from to name place) ∷ messages) (suc from)) ≡ false = not_above (load (message_of k (arrow_by k is_lost from to name place) ∷ messages) (suc from)) (omega arith) in
    let two : nat_lt MAX_EVENTS (load (message_of k (arrow_by k is_lost from to name place) ∷ messages) (suc to)) ≡ false = not_above (load (message_of k (arrow_by k is_lost from to name place) ∷ messages) (suc to)) (omega arith) in
    rw (one, two) (none_full (k + 1) (message_of k (arrow_by k is_lost from to name place) ∷ messages) placed more)
none_full k messages ((RaceNote at words, place) ∷ placed) has = none_full (k + 1) messages placed has

-- Messages with their names.

abbrev pub named_by : ℕ → ExportedRow → List Named → List Named
named_by k (Sent is_lost from to name) rest = record { sender = suc from; receiver = suc to; begins = k; ends = k; is_lost = is_lost; name = name } ∷ rest
named_by k (RaceNote at words) rest = rest

abbrev pub named_in : ℕ → List ExportedRow → List Named
named_in k [] = []
named_in k (s ∷ exported) = named_by k s (named_in (k + 1) exported)

pub labelled_here : (items : List ItemView) (k : ℕ) (front rest : List ItemView) (s : ExportedRow) (place : Place) → items ≡ front ++ item_by k s place ∷ rest → length front ≡ k → label_at items k ≡ label_of (item_by k s place)
labelled_here items k front rest s place is long =
    ap (λ l. label_at l k) is ∙ ap (λ n. label_at (front ++ item_by k s place ∷ rest) n) (sym long) ∙ (rw (get_seam front (item_by k s place) rest) refl)

pub names_itself : (n : ℕ) (items : List ItemView) (k : ℕ) (front : List ItemView) (labels : Labelling) (placed : List Placed) → items ≡ front ++ items_from k placed → length front ≡ k → Own labels
    → Each (λ (t : Placed). IsExported n t.0) placed → named_from labels items (messages_from k placed) ≡ named_in k (exported_of placed)
unfolding named_from label_of
names_itself n items k front labels [] is long own all = refl
names_itself n items k front labels ((Sent is_lost from to name, place) ∷ placed) is long own all =
    let label = labelled_here items k front (items_from (k + 1) placed) (Sent is_lost from to name) place is long in
    rw (label, named_itself labels name own all.0.3)
    (ap (λ l. named_as (message_of k (arrow_by k is_lost from to name place)) name ∷ l)
    (names_itself n items (k + 1) (front ++ item_by k (Sent is_lost from to name) place ∷ []) (with_label labels name) placed
    (is ∙ sym (append_assoc front (item_by k (Sent is_lost from to name) place ∷ []) (items_from (k + 1) placed)))
    (omega (arith, long, length-append front (item_by k (Sent is_lost from to name) place ∷ []))) (still_own labels name own all.0.3) all.1))
names_itself n items k front labels ((RaceNote at words, place) ∷ placed) is long own all =
    names_itself n items (k + 1) (front ++ item_by k (RaceNote at words) place ∷ []) labels placed
    (is ∙ sym (append_assoc front (item_by k (RaceNote at words) place ∷ []) (items_from (k + 1) placed)))
    (omega (arith, long, length-append front (item_by k (RaceNote at words) place ∷ []))) own all.1

-- Ends.

-- at most one end of a row is p's
record OneEnd (p k : ℕ) (s : ExportedRow) (e : End) : Type 0 where
  pub own : (rest : List Named) → own_ends p (all_ends (named_by k s rest)) ≡ e ∷ own_ends p (all_ends rest)
  pub low : 2 * k ≤ e.turn
  pub high : e.turn < 2 * (k + 1)
  pub event : event_on p s ≡ event_of e 0 ∷ []

record NoEnd (p k : ℕ) (s : ExportedRow) : Type 0 where
  pub own : (rest : List Named) → own_ends p (all_ends (named_by k s rest)) ≡ own_ends p (all_ends rest)
  pub event : event_on p s ≡ []

abbrev named : ℕ → Bool → ℕ → ℕ → List ℕ → Named
named k is_lost from to name = record { sender = suc from; receiver = suc to; begins = k; ends = k; is_lost = is_lost; name = name }

its_end : (p k n : ℕ) (s : ExportedRow) → IsExported n s → ((e : End) × OneEnd p k s e) ⊎ NoEnd p k s
unfolding all_ends
its_end p k n (RaceNote at words) is = inr (record { own = λ rest. refl; event = refl })
its_end p k n (Sent is_lost from to name) is = elim (cases_eq (suc from) p) [
  | inl from_p ↦ inl (sending (eq-eqb (suc from) p from_p) (ne_eqb (suc to) p (λ to_p. is.2 (omega arith))) is_lost)
  | inr not_from ↦ elim (cases_eq (suc to) p) [
    | inl to_p ↦ taking (ne_eqb (suc from) p not_from) (eq-eqb (suc to) p to_p) is_lost
    | inr not_to ↦ inr (neither (ne_eqb (suc from) p not_from) (ne_eqb (suc to) p not_to) is_lost)
  ]
]
  where
    sending : (suc from == p) ≡ true → (suc to == p) ≡ false → (l : Bool) → (e : End) × OneEnd p k (Sent l from to name) e
    sending f t true = (send_end (named k true from to name), record { own = λ rest. rw f refl; low = omega arith; high = omega arith; event = rw (f, t) refl })
    sending f t false = (send_end (named k false from to name), record { own = λ rest. rw (f, t) refl; low = omega arith; high = omega arith; event = rw (f, t) refl })

    taking : (suc from == p) ≡ false → (suc to == p) ≡ true → (l : Bool) → ((e : End) × OneEnd p k (Sent l from to name) e) ⊎ NoEnd p k (Sent l from to name)
    taking f t true = inr (record { own = λ rest. rw f refl; event = rw (f, t) refl })
    taking f t false = inl (receive_end (named k false from to name), record { own = λ rest. rw (f, t) refl; low = omega arith; high = omega arith; event = rw (f, t) refl })

    neither : (suc from == p) ≡ false → (suc to == p) ≡ false → (l : Bool) → NoEnd p k (Sent l from to name)
    neither f t true = record { own = λ rest. rw f refl; event = rw (f, t) refl }
    neither f t false = record { own = λ rest. rw (f, t) refl; event = rw (f, t) refl }

-- p's ends in these rows
abbrev ends_on : ℕ → ℕ → List ExportedRow → List End
ends_on p k exported = own_ends p (all_ends (named_in k exported))

-- each of them has an earlier turn
abbrev Before : ℕ → List End → Type 0
Before t ends = Each (λ (e : End). e.turn < t) ends

abbrev turn_of : End → ℕ
turn_of e = e.turn

puts_last : (t : ℕ) (ends : List End) (e : End) → Before t ends → t ≤ e.turn → put_by turn_of ends e ≡ ends ++ e ∷ []
unfolding put_by
puts_last t [] e all le = refl
puts_last t (x ∷ ends) e all le =
    let before = all.0 in
    let no_less : nat_lt e.turn x.turn ≡ false = grind (arith, nat_tests) in
    subst (λ less. cond less (e ∷ x ∷ ends) (x ∷ put_by turn_of ends e) ≡ x ∷ ends ++ e ∷ []) (sym no_less) (ap (λ l. x ∷ l) (puts_last t ends e all.1 le))

before_push : (t u : ℕ) (ends : List End) (e : End) → Before t ends → t ≤ u → e.turn < u → Before u (ends ++ e ∷ [])
before_push t u [] e all le lt = (lt, tt)
before_push t u (x ∷ ends) e all le lt = let one = all.0 in (omega arith, before_push t u ends e all.1 le lt)

before_later : (t u : ℕ) (ends : List End) → Before t ends → t ≤ u → Before u ends
before_later t u [] all le = tt
before_later t u (x ∷ ends) all le = let one = all.0 in (omega arith, before_later t u ends all.1 le)

-- they are in the order of their turns
stand_in_turn : (p n k : ℕ) (exported : List ExportedRow) (ends : List End) → Each (IsExported n) exported → Before (2 * k) ends → fold (put_by turn_of) ends (ends_on p k exported) ≡ ends ++ ends_on p k exported
unfolding all_ends
stand_in_turn p n k [] ends all before = sym (append-nil ends)
stand_in_turn p n k (s ∷ exported) ends all before = elim (its_end p k n s all.0) [
  | inl one ↦
      let its = one.1 in
      let low = its.low in
      let high = its.high in
      ap (fold (put_by turn_of) ends) (its.own (named_in (k + 1) exported))
      ∙ ap (λ l. fold (put_by turn_of) l (ends_on p (k + 1) exported)) (puts_last (2 * k) ends one.0 before low)
      ∙ stand_in_turn p n (k + 1) exported (ends ++ one.0 ∷ []) all.1 (before_push (2 * k) (2 * (k + 1)) ends one.0 before (omega arith) high)
      ∙ append_assoc ends (one.0 ∷ []) (ends_on p (k + 1) exported)
      ∙ ap (λ l. ends ++ l) (sym (its.own (named_in (k + 1) exported)))
  | inr its ↦ rw (its.own (named_in (k + 1) exported)) (stand_in_turn p n (k + 1) exported ends all.1 (before_later (2 * k) (2 * (k + 1)) ends before (omega arith)))
]

-- none continues a coregion
goes_no_further : (p n k : ℕ) (exported : List ExportedRow) (e : End) → Each (IsExported n) exported → e.turn < 2 * k → begins e (ends_on p k exported) ≡ false
unfolding all_ends
goes_no_further p n k [] e all lt = refl
goes_no_further p n k (s ∷ exported) e all lt = elim (its_end p k n s all.0) [
  | inl one ↦
      let its = one.1 in
      let low = its.low in
      let apart : (e.turn == one.0.turn) ≡ false = ne_eqb e.turn one.0.turn (λ same. omega arith) in
      rw (its.own (named_in (k + 1) exported), apart, never (not e.sends) (not one.0.sends)) refl
  | inr its ↦ rw (its.own (named_in (k + 1) exported)) (goes_no_further p n (k + 1) exported e all.1 (omega arith))
]

abbrev IsPast : ℕ → Option End → Type 0
IsPast t None = Unit {0}
IsPast t (Some e) = e.turn < t

past_on : (t u : ℕ) (last : Option End) → IsPast t last → t ≤ u → IsPast u last
past_on t u None past le = tt
past_on t u (Some e) past le = omega arith

apart_from : (t : ℕ) (last : Option End) (e : End) → IsPast t last → t ≤ e.turn → goes_on last e ≡ false
apart_from t None e past le = refl
apart_from t (Some x) e past le =
    let apart : (x.turn == e.turn) ≡ false = ne_eqb x.turn e.turn (λ same. omega arith) in
    rw (apart, never (not x.sends) (not e.sends)) refl

-- the events of these ends
events_are : (p n k : ℕ) (exported : List ExportedRow) (last : Option End) (line : List Event) → Each (IsExported n) exported → IsPast (2 * k) last → with_ends last line (ends_on p k exported) ≡ line ++ events_on p exported
unfolding all_ends with_ends
events_are p n k [] last line all past = sym (append-nil line)
events_are p n k (s ∷ exported) last line all past = elim (its_end p k n s all.0) [
  | inl one ↦
      let its = one.1 in
      let high = its.high in
      let first = apart_from (2 * k) last one.0 past its.low in
      let alone = goes_no_further p n (k + 1) exported one.0 all.1 high in
      let none : region_of last (greatest_region line) one.0 (ends_on p (k + 1) exported) ≡ 0 = rw (first, alone) refl in
      ap (with_ends last line) (its.own (named_in (k + 1) exported))
      ∙ ap (λ r. with_ends (Some one.0) (line ++ event_of one.0 r ∷ []) (ends_on p (k + 1) exported)) none
      ∙ events_are p n (k + 1) exported (Some one.0) (line ++ event_of one.0 0 ∷ []) all.1 high
      ∙ append_assoc line (event_of one.0 0 ∷ []) (events_on p exported)
      ∙ ap (λ l. line ++ (l ++ events_on p exported)) (sym its.event)
  | inr its ↦ rw (its.own (named_in (k + 1) exported), its.event) (events_are p n (k + 1) exported last line all.1 (past_on (2 * k) (2 * (k + 1)) last past (omega arith)))
]

-- the line of an instance
pub line_is : (p n : ℕ) (exported : List ExportedRow) → Each (IsExported n) exported → line_of p (all_ends (named_in 0 exported)) ≡ record { instance = p; events = events_on p exported }
unfolding line_of in_order_by
line_is p n exported all =
    ap (λ l. record { instance = p; events = with_ends None [] l }) (stand_in_turn p n 0 exported [] all tt)
    ∙ ap (λ l. record { instance = p; events = l }) (events_are p n 0 exported None [] all tt)
