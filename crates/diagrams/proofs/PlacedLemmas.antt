-- Properties of the messages of a diagram's items, if no item is misplaced.
use Rattle.std.proofs.Common.{◌≡◌, ◌≢◌, ℕ, zero, suc, ◌+◌, ◌<◌, ◌≤◌, ◌==◌, ◌&&◌, not, Bool, true, false, cond, List, [], ◌∷◌, ◌++◌, Option, None, Some, Result, Ok, Err, length, refl, sym, ap, ◌∙◌, arith}
use Rattle.std.specs.Prelude.{nat_lt, slice_get, slice_set, position, bytes_eq, option_map}
use Rattle.std.proofs.lemmas.Bool.{and_parts, ltb-true, ltb-false, eqb-false}
use Rattle.std.proofs.lemmas.List.Quantifiers.{position-Some}
use Rattle.std.proofs.lemmas.Option.{option_and_then_some}
use Rattle.chart.specs.Histories.{AreTwo}
use Rattle.chart.specs.Names.{name_of}
use Rattle.chart.specs.declared.name.NameError.{NameError}
use Rattle.diagrams.specs.Collecting.{CollectedView, first_line, message_of, with_arrow, sent_by, with_send, waits, received_by, received_at, with_received, with_receive_at, with_receive, with_event, with_note, with_item, with_items}
use Rattle.diagrams.specs.Diagrams.{ArrowView, NoteView, ItemView, AnArrow, ANote}
use Rattle.diagrams.specs.NoteEvents.{words_in, known, partner_in, event_with, note_event}
use Rattle.diagrams.specs.Placing.{row_of, place_of, is_arrow, is_placed, may_stand, first_misplaced}
use Rattle.diagrams.specs.declared.message.Message.{Message}
use Rattle.diagrams.specs.declared.message.Waiting.{Waiting}
use Rattle.diagrams.specs.declared.note_event.NoteEvent.{NoteEvent}
use Rattle.diagrams.specs.Messages.Each.{Each, Pairs}
use Rattle.diagrams.proofs.MessagesLemmas.EachLemmas.{each_weaker, each_append, pairs_push, each_get, each_set}

-- a message between two of n instances, sent in this row or above, and not received above its send
pub record IsCollected (n row : ℕ) (m : Message) : Type 0 where
  pub two : AreTwo n m.sender m.receiver
  pub down : m.is_lost ≡ false → m.begins ≤ m.ends
  pub above : m.begins ≤ row

-- such messages, in the order of their sends
pub record AreCollected (n row : ℕ) (messages : List Message) : Type 0 where
  pub each : Each (IsCollected n row) messages
  pub order : Pairs (λ m k. m.begins ≤ k.begins) messages

-- the same for a row further down
lower : (n row next : ℕ) (messages : List Message) → row ≤ next → AreCollected n row messages → AreCollected n next messages
lower n row next messages le are = record {
  each = each_weaker (IsCollected n row) (IsCollected n next) (λ m is. record { two = is.two; down = is.down; above = omega (arith, is.above) }) messages are.each;
  order = are.order;
}

-- one more message
pushed : (n row : ℕ) (messages : List Message) (m : Message) → m.begins ≡ row → IsCollected n row m → AreCollected n row messages → AreCollected n row (messages ++ m ∷ [])
pushed n row messages m e is are = record {
  each = each_append (IsCollected n row) messages (m ∷ []) are.each (is, tt);
  order = pairs_push (λ m k. m.begins ≤ k.begins) messages m are.order (each_weaker (IsCollected n row) (λ k. k.begins ≤ m.begins) (λ k at. omega (arith, at.above, e)) messages are.each);
}

-- the order of the sends stays if another message of the same row takes a message's place
same_order : (messages : List Message) (i : ℕ) (x y : Message) → slice_get messages i ≡ Some x → y.begins ≡ x.begins → Pairs (λ m k. m.begins ≤ k.begins) messages → Pairs (λ m k. m.begins ≤ k.begins) (slice_set messages i y)
same_order [] i x y at_i e all = tt
same_order (m ∷ messages) zero x y at_i e all =
    let first : m.begins ≡ x.begins = ap (λ (o : Option Message). begins_or m o) at_i in
    (each_weaker (λ k. m.begins ≤ k.begins) (λ k. y.begins ≤ k.begins) (λ k le. omega (arith, le, first, e)) messages all.0, all.1)
  where
    begins_or : Message → Option Message → ℕ
    begins_or d None = d.begins
    begins_or d (Some k) = k.begins
same_order (m ∷ messages) (suc i) x y at_i e all =
    let below : m.begins ≤ x.begins = each_get (λ k. m.begins ≤ k.begins) messages i x at_i all.0 in
    (each_set (λ k. m.begins ≤ k.begins) messages i y all.0 (omega (arith, below, e)), same_order messages i x y at_i e all.1)

-- a message that a note receives
taken : (n : ℕ) (note : NoteView) (messages : List Message) (i : ℕ) (o : Option Message) → slice_get messages i ≡ o → AreCollected n note.row messages → AreCollected n note.row (received_at note messages i o)
taken n note messages i None at_i are = are
taken n note messages i (Some m) at_i are =
    let is = each_get (IsCollected n note.row) messages i m at_i are.each in
    record {
      each = each_set (IsCollected n note.row) messages i (received_by note m) are.each (record { two = is.two; down = λ e. is.above; above = is.above });
      order = same_order messages i m (received_by note m) at_i refl are.order;
    }

received : (n : ℕ) (note : NoteView) (at : ℕ) (w : Option Waiting) (c : CollectedView) → AreCollected n note.row c.messages → AreCollected n note.row (with_received note at w c).messages
received n note at None c are = are
received n note at (Some w) c are = taken n note c.messages w.message (slice_get c.messages w.message) refl are

received_or_not : (n : ℕ) (note : NoteView) (at : Option ℕ) (c : CollectedView) → AreCollected n note.row c.messages → AreCollected n note.row (with_receive_at note at c).messages
received_or_not n note None c are = are
received_or_not n note (Some at) c are = received n note at (slice_get c.waiting at) c are

-- the partner in a note is another instance
is_among : (names : List (List ℕ)) (word : List ℕ) (o : Option ℕ) (p : ℕ) → position (bytes_eq word) names ≡ o → option_map suc o ≡ Some p → (1 ≤ p) × (p ≤ length names)
is_among names word None p at_o e = absurd (cc e)
is_among names word (Some k) p at_o e =
    let within = (position-Some (bytes_eq word) names k [] at_o).0 in
    let same : suc k ≡ p = ap (λ (o : Option ℕ). number_or o) e in
    (omega (arith, same), omega (arith, same, within))
  where
    number_or : Option ℕ → ℕ
    number_or None = 0
    number_or (Some i) = i

known_among : (names : List (List ℕ)) (word : Result (List ℕ) NameError) (p : ℕ) → known names word ≡ Some p → (1 ≤ p) × (p ≤ length names)
known_among names (Ok word) p e = is_among names word (position (bytes_eq word) names) p refl e
known_among names (Err error) p e = absurd (cc e)

event_among : (names : List (List ℕ)) (sends : Bool) (own : ℕ) (name : Result (List ℕ) NameError) (partner : Option ℕ) (e : NoteEvent)
    → ((p : ℕ) → partner ≡ Some p → (1 ≤ p) × (p ≤ length names)) → event_with sends own name partner ≡ Some e → (1 ≤ e.partner) × (e.partner ≤ length names) × (own ≢ e.partner)
event_among names sends own (Err error) partner e among is = absurd (cc is)
event_among names sends own (Ok name) None e among is = absurd (cc is)
event_among names sends own (Ok name) (Some p) e among is = go (p == own) refl is
  where
    partner_or : Option NoteEvent → ℕ
    partner_or None = p
    partner_or (Some f) = f.partner

    go : (its : Bool) → (p == own) ≡ its → cond its None (Some (record { sends = sends; partner = p; name = name })) ≡ Some e → (1 ≤ e.partner) × (e.partner ≤ length names) × (own ≢ e.partner)
    go true same found = absurd (cc found)
    go false other found =
        let its : p ≡ e.partner = ap (λ (o : Option NoteEvent). partner_or o) found in
        let found_among = among p refl in
        (omega (arith, found_among.0, its), omega (arith, found_among.1, its), λ same. eqb-false p own other (its ∙ sym same))

note_among : (names : List (List ℕ)) (own : ℕ) (text : List ℕ) (e : NoteEvent) → note_event names own text ≡ Some e → (1 ≤ e.partner) × (e.partner ≤ length names) × (own ≢ e.partner)
unfolding note_event partner_in
note_among names own text e is = option_and_then_some _ (words_in text) e is
    (λ words at_words found. event_among names words.sends own (name_of words.message) (known names (name_of words.partner)) e (λ p. known_among names (name_of words.partner) p) found)

-- an item
arrow_collected : (names : List (List ℕ)) (row item : ℕ) (a : ArrowView) (c : CollectedView) → row ≤ a.begins → is_arrow (length names) a ≡ true → AreCollected (length names) row c.messages
    → AreCollected (length names) a.begins (with_arrow item a c).messages
arrow_collected names row item a c le is are =
    let one = and_parts (nat_lt a.sender (length names)) (nat_lt a.receiver (length names) && (not (a.sender == a.receiver) && not (nat_lt a.ends a.begins))) is in
    let two = and_parts (nat_lt a.receiver (length names)) (not (a.sender == a.receiver) && not (nat_lt a.ends a.begins)) one.1 in
    let three = and_parts (not (a.sender == a.receiver)) (not (nat_lt a.ends a.begins)) two.1 in
    let down : a.begins ≤ a.ends = ltb-false a.ends a.begins (is_false _ three.1) in
    let apart : a.sender ≢ a.receiver = eqb-false a.sender a.receiver (is_false _ three.0) in
    let from = ltb-true a.sender (length names) one.0 in
    let to = ltb-true a.receiver (length names) two.0 in
    pushed (length names) a.begins c.messages (message_of item a) refl
    (record { two = (omega arith, omega (arith, from), omega arith, omega (arith, to), λ same. apart (omega (arith, same))); down = λ e. down; above = omega arith })
    (lower (length names) row a.begins c.messages le are)
  where
    is_false : (b : Bool) → not b ≡ true → b ≡ false
    is_false true e = absurd (cc e)
    is_false false e = refl

note_collected : (names : List (List ℕ)) (row item : ℕ) (note : NoteView) (c : CollectedView) → row ≤ note.row → note.participant < length names → AreCollected (length names) row c.messages
    → AreCollected (length names) note.row (with_note names item note c).messages
note_collected names row item note c le within are = go (note_event names (suc note.participant) note.text) refl
  where
    below : AreCollected (length names) note.row c.messages
    below = lower (length names) row note.row c.messages le are

    sends : (its : Bool) (e : NoteEvent) → note_event names (suc note.participant) note.text ≡ Some e → AreCollected (length names) note.row (cond its (with_send item note e c) (with_receive note e c)).messages
    sends true e is =
        let among = note_among names (suc note.participant) note.text e is in
        pushed (length names) note.row c.messages (sent_by item note e) refl
        (record { two = (omega arith, omega (arith, within), among.0, among.1, among.2); down = λ h. omega arith; above = omega arith }) below
    sends false e is = received_or_not (length names) note (position (waits (suc note.participant) e) c.waiting) c below

    go : (o : Option NoteEvent) → note_event names (suc note.participant) note.text ≡ o → AreCollected (length names) note.row (with_event item note o c).messages
    go None is = below
    go (Some e) is = sends e.sends e is

item_collected : (names : List (List ℕ)) (row item : ℕ) (i : ItemView) (c : CollectedView) → may_stand (length names) row i ≡ true → AreCollected (length names) row c.messages
    → AreCollected (length names) (row_of i) (with_item names item i c).messages
unfolding may_stand row_of is_placed with_item
item_collected names row item (AnArrow a) c may are =
    let parts = and_parts (not (nat_lt a.begins row)) (is_arrow (length names) a) may in
    arrow_collected names row item a c (not_above a.begins row parts.0) parts.1 are
  where
    not_above : (x y : ℕ) → not (nat_lt x y) ≡ true → y ≤ x
    not_above x y e = go (nat_lt x y) refl e
      where
        go : (its : Bool) → nat_lt x y ≡ its → not its ≡ true → y ≤ x
        go true f e = absurd (cc e)
        go false f e = ltb-false x y f
item_collected names row item (ANote note) c may are =
    let parts = and_parts (not (nat_lt note.row row)) (nat_lt note.participant (length names)) may in
    note_collected names row item note c (not_above note.row row parts.0) (ltb-true note.participant (length names) parts.1) are
  where
    not_above : (x y : ℕ) → not (nat_lt x y) ≡ true → y ≤ x
    not_above x y e = go (nat_lt x y) refl e
      where
        go : (its : Bool) → nat_lt x y ≡ its → not its ≡ true → y ≤ x
        go true f e = absurd (cc e)
        go false f e = ltb-false x y f

-- all items
pub items_collected : (names : List (List ℕ)) (row item : ℕ) (items : List ItemView) (c : CollectedView) → first_misplaced (length names) row items ≡ None → AreCollected (length names) row c.messages
    → (last : ℕ) × AreCollected (length names) last (with_items names item items c).messages
unfolding first_misplaced with_items
items_collected names row item [] c placed are = (row, are)
items_collected names row item (i ∷ items) c placed are = go (may_stand (length names) row i) refl placed
    (λ may rest. items_collected names (row_of i) (item + 1) items (with_item names item i c) rest (item_collected names row item i c may are))
  where
    go : (its : Bool) → may_stand (length names) row i ≡ its → cond its (first_misplaced (length names) (row_of i) items) (Some (place_of i)) ≡ None
        → (may_stand (length names) row i ≡ true → first_misplaced (length names) (row_of i) items ≡ None → (last : ℕ) × AreCollected (length names) last (with_items names (item + 1) items (with_item names item i c)).messages)
        → (last : ℕ) × AreCollected (length names) last (with_items names (item + 1) items (with_item names item i c)).messages
    go true may rest next = next may rest
    go false may rest next = absurd (cc rest)

-- A fault stays.

pub still_none : (fault : Option ℕ) (line : ℕ) → first_line fault line ≡ None → fault ≡ None
still_none None line none = refl
still_none (Some k) line none = go (nat_lt line k) none
  where
    go : (its : Bool) → cond its (Some line) (Some k) ≡ None → Some k ≡ None
    go true e = absurd (cc e)
    go false e = e

item_fault : (names : List (List ℕ)) (item : ℕ) (i : ItemView) (c : CollectedView) → (with_item names item i c).fault ≡ None → c.fault ≡ None
unfolding with_item
item_fault names item (AnArrow a) c none = none
item_fault names item (ANote note) c none = go (note_event names (suc note.participant) note.text) none
  where
    found : (at : ℕ) (w : Option Waiting) → (with_received note at w c).fault ≡ None → c.fault ≡ None
    found at None none = none
    found at (Some w) none = none

    receives : (at : Option ℕ) → (with_receive_at note at c).fault ≡ None → c.fault ≡ None
    receives None none = still_none c.fault note.place.line none
    receives (Some at) none = found at (slice_get c.waiting at) none

    sends : (its : Bool) (e : NoteEvent) → (cond its (with_send item note e c) (with_receive note e c)).fault ≡ None → c.fault ≡ None
    sends true e none = none
    sends false e none = receives (position (waits (suc note.participant) e) c.waiting) none

    go : (o : Option NoteEvent) → (with_event item note o c).fault ≡ None → c.fault ≡ None
    go None none = none
    go (Some e) none = sends e.sends e none

pub items_fault : (names : List (List ℕ)) (item : ℕ) (items : List ItemView) (c : CollectedView) → (with_items names item items c).fault ≡ None → c.fault ≡ None
unfolding with_items
items_fault names item [] c none = none
items_fault names item (i ∷ items) c none = item_fault names item i c (items_fault names (item + 1) items (with_item names item i c) none)
