-- Properties of the messages of a chart. None of those that stay overtakes another one of its lane, and after a lost
-- one none of its lane is received. No instance has too many events. So the chart is possible.
use Rattle.std.proofs.Common.{◌≡◌, ℕ, ◌+◌, ◌≤◌, ◌==◌, ◌&&◌, Bool, true, false, cond, List, [], ◌∷◌, ◌++◌, Option, None, Some, length, refl, sym, ◌∙◌, subst, arith}
use Rattle.std.specs.Prelude.{nat_lt, max}
use Rattle.std.specs.List.{list_any}
use Rattle.std.proofs.lemmas.Bool.{or_parts, eq-eqb, eqb-true, ltb-false}
use Rattle.chart.specs.declared.line.TheConstants.{MAX_EVENTS}
use Rattle.diagram_labels.specs.Labels.{Labelling, with_label, name_of}
use Rattle.diagrams.specs.Collecting.{first_line}
use Rattle.diagrams.specs.Crossing.{is_received, overtakes, fault_beside, fault_with, fault_from}
use Rattle.diagrams.specs.Diagrams.{ItemView}
use Rattle.diagrams.specs.Full.{sends_of, receives_of, load, is_full, full_from}
use Rattle.diagrams.specs.Losing.{is_received_later, is_left_out, kept}
use Rattle.diagrams.specs.Naming.{label_at, named_as, named_from}
use Rattle.diagrams.specs.Messages.Turns.{send_end, receive_end, all_ends, own_ends}
use Rattle.diagrams.specs.declared.messages.end.End.{End}
use Rattle.diagrams.specs.declared.message.Message.{Message}
use Rattle.diagrams.specs.declared.messages.message.Named.{Named}
use Rattle.diagrams.specs.Messages.Each.{Each, Pairs}
use Rattle.diagrams.proofs.MessagesLemmas.EachLemmas.{each_front, each_back, each_weaker}
use Rattle.diagrams.specs.Messages.Following.{Follows, IsMessage, AreBuildable}
use Rattle.diagrams.proofs.PlacedLemmas.{IsCollected, AreCollected, still_none}

-- No message overtakes an earlier one.

beside_none : (fault : Option ℕ) (m n : Message) → fault_beside fault m n ≡ None → (fault ≡ None) × (overtakes m n ≡ false)
beside_none fault m n none = go (overtakes m n) none
  where
    some : (f : Option ℕ) (line : ℕ) → first_line f line ≡ None → ⊥
    some None line e = absurd (cc e)
    some (Some k) line e = absurd (cc (sym (still_none (Some k) line e)))

    go : (its : Bool) → cond its (first_line fault (max m.whole n.whole)) fault ≡ None → (fault ≡ None) × (its ≡ false)
    go true e = absurd (some fault (max m.whole n.whole) e)
    go false e = (e, refl)

with_none : (fault : Option ℕ) (m : Message) (earlier : List Message) → fault_with fault m earlier ≡ None → (fault ≡ None) × Each (λ n. overtakes m n ≡ false) earlier
unfolding fault_with
with_none fault m [] none = (none, tt)
with_none fault m (n ∷ earlier) none =
    let rest = with_none (fault_beside fault m n) m earlier none in
    let first = beside_none fault m n rest.0 in
    (first.0, (first.1, rest.1))

-- none of these messages overtakes an earlier one, or one of these before it
pub record NoneOvertakes (fault : Option ℕ) (earlier messages : List Message) : Type 0 where
  pub fault_is : fault ≡ None
  pub before : Each (λ m. Each (λ n. overtakes m n ≡ false) earlier) messages
  pub within : Pairs (λ n m. overtakes m n ≡ false) messages

pub none_overtakes : (fault : Option ℕ) (earlier messages : List Message) → fault_from fault earlier messages ≡ None → NoneOvertakes fault earlier messages
unfolding fault_from
none_overtakes fault earlier [] none = record { fault_is = none; before = tt; within = tt }
none_overtakes fault earlier (m ∷ messages) none =
    let rest = none_overtakes (fault_with fault m earlier) (earlier ++ m ∷ []) messages none in
    let first = with_none fault m earlier rest.fault_is in
    record {
      fault_is = first.0;
      before = (first.1, each_weaker (λ k. Each (λ n. overtakes k n ≡ false) (earlier ++ m ∷ [])) (λ k. Each (λ n. overtakes k n ≡ false) earlier) (λ k all. each_front (λ n. overtakes k n ≡ false) earlier (m ∷ []) all) messages rest.before);
      within = (each_weaker (λ k. Each (λ n. overtakes k n ≡ false) (earlier ++ m ∷ [])) (λ k. overtakes k m ≡ false) (λ k all. (each_back (λ n. overtakes k n ≡ false) earlier (m ∷ []) all).0) messages rest.before, rest.within);
    }

-- Messages that stay.

module _ (P : Message → Type 0) where
  kept_each : (messages : List Message) → Each P messages → Each P (kept messages)
  unfolding kept
  kept_each [] all = tt
  kept_each (m ∷ messages) all = go (is_left_out m messages) (kept_each messages all.1)
    where
      go : (its : Bool) → Each P (kept messages) → Each P (cond its (kept messages) (m ∷ kept messages))
      go true rest = rest
      go false rest = (all.0, rest)

module _ (R : Message → Message → Type 0) where
  kept_pairs : (messages : List Message) → Pairs R messages → Pairs R (kept messages)
  unfolding kept
  kept_pairs [] all = tt
  kept_pairs (m ∷ messages) all = go (is_left_out m messages) (kept_pairs messages all.1)
    where
      go : (its : Bool) → Pairs R (kept messages) → Pairs R (cond its (kept messages) (m ∷ kept messages))
      go true rest = rest
      go false rest = (kept_each (R m) messages all.0, rest)

-- after a lost message that stays, none of its lane is received
none_later : (q p : ℕ) (later : List Message) → is_received_later later q p ≡ false → Each (λ n. is_received q p n ≡ false) later
unfolding is_received_later
none_later q p [] none = tt
none_later q p (n ∷ later) none =
    let parts = or_parts (is_received q p n) (list_any (is_received q p) later) none in
    (parts.0, none_later q p later parts.1)

abbrev pub LostBehind : Message → Message → Type 0
LostBehind m n = m.is_lost ≡ true → is_received m.sender m.receiver n ≡ false

kept_lost : (messages : List Message) → Pairs LostBehind (kept messages)
unfolding kept
kept_lost [] = tt
kept_lost (m ∷ messages) = go (is_left_out m messages) refl (kept_lost messages)
  where
    behind : is_left_out m messages ≡ false → Each (LostBehind m) messages
    behind stays = all m.is_lost refl stays
      where
        all : (lost : Bool) → m.is_lost ≡ lost → (lost && is_received_later messages m.sender m.receiver) ≡ false → Each (LostBehind m) messages
        all true e f = each_weaker (λ n. is_received m.sender m.receiver n ≡ false) (LostBehind m) (λ n not_received lost. not_received) messages (none_later m.sender m.receiver messages f)
        all false e f = everywhere messages
          where
            everywhere : (later : List Message) → Each (LostBehind m) later
            everywhere [] = tt
            everywhere (n ∷ later) = ((λ lost. absurd (cc (sym e ∙ lost))), everywhere later)

    go : (its : Bool) → is_left_out m messages ≡ its → Pairs LostBehind (kept messages) → Pairs LostBehind (cond its (kept messages) (m ∷ kept messages))
    go true e rest = rest
    go false e rest = (kept_each (LostBehind m) messages (behind e), rest)

-- No line has too many events.

load_next : (m : Message) (messages earlier : List Message) (p : ℕ) → is_full (m ∷ earlier) m ≡ false → load earlier p ≤ MAX_EVENTS → load (m ∷ earlier) p ≤ MAX_EVENTS
unfolding load
load_next m messages earlier p room few = go (m.sender == p) refl (m.receiver == p) refl
  where
    both : (nat_lt MAX_EVENTS (load (m ∷ earlier) m.sender) ≡ false) × (nat_lt MAX_EVENTS (load (m ∷ earlier) m.receiver) ≡ false)
    both = or_parts (nat_lt MAX_EVENTS (load (m ∷ earlier) m.sender)) (nat_lt MAX_EVENTS (load (m ∷ earlier) m.receiver)) room

    go : (sends : Bool) → (m.sender == p) ≡ sends → (gets : Bool) → (m.receiver == p) ≡ gets → load (m ∷ earlier) p ≤ MAX_EVENTS
    go true e gets f = subst (λ x. load (m ∷ earlier) x ≤ MAX_EVENTS) (eqb-true m.sender p e) (ltb-false MAX_EVENTS (load (m ∷ earlier) m.sender) both.0)
    go false e true f = subst (λ x. load (m ∷ earlier) x ≤ MAX_EVENTS) (eqb-true m.receiver p f) (ltb-false MAX_EVENTS (load (m ∷ earlier) m.receiver) both.1)
    go false e false f = rw (e, f) (omega (arith, few))

load_whole : (earlier messages : List Message) (p : ℕ) → full_from earlier messages ≡ None → load earlier p ≤ MAX_EVENTS → load earlier p + load messages p ≤ MAX_EVENTS
unfolding full_from load
load_whole earlier [] p none few = omega (arith, few)
load_whole earlier (m ∷ messages) p none few = go (is_full (m ∷ earlier) m) refl none (λ fits rest. load_whole (m ∷ earlier) messages p rest (load_next m messages earlier p fits few))
  where
    go : (its : Bool) → is_full (m ∷ earlier) m ≡ its → cond its (Some m.place.line) (full_from (m ∷ earlier) messages) ≡ None
        → (is_full (m ∷ earlier) m ≡ false → full_from (m ∷ earlier) messages ≡ None → load (m ∷ earlier) p + load messages p ≤ MAX_EVENTS)
        → load earlier p + (load messages p + sends_of p m + receives_of p m) ≤ MAX_EVENTS
    go true e f next = absurd (cc f)
    go false e f next = omega (arith, next e f)

-- Messages with names.

module _ (P : Message → Type 0) (Q : Named → Type 0) (named : (m : Message) (name : List ℕ) → P m → Q (named_as m name)) where
  named_each : (labels : Labelling) (items : List ItemView) (messages : List Message) → Each P messages → Each Q (named_from labels items messages)
  unfolding named_from
  named_each labels items [] all = tt
  named_each labels items (m ∷ messages) all = (named m _ all.0, named_each (with_label labels (label_at items m.item)) items messages all.1)

module _ (R : Message → Message → Type 0) (S : Named → Named → Type 0) (named : (m k : Message) (one other : List ℕ) → R m k → S (named_as m one) (named_as k other)) where
  named_pairs : (labels : Labelling) (items : List ItemView) (messages : List Message) → Pairs R messages → Pairs S (named_from labels items messages)
  unfolding named_from
  named_pairs labels items [] all = tt
  named_pairs labels items (m ∷ messages) all =
      (named_each (R m) (S (named_as m _)) (λ k other r. named m k _ other r) (with_label labels (label_at items m.item)) items messages all.0, named_pairs (with_label labels (label_at items m.item)) items messages all.1)

named_load : (labels : Labelling) (items : List ItemView) (messages : List Message) (p : ℕ) → length (own_ends p (all_ends (named_from labels items messages))) ≡ load messages p
unfolding named_from all_ends load
named_load labels items [] p = refl
named_load labels items (m ∷ messages) p =
    let more : Labelling = with_label labels (label_at items m.item) in
    go m.is_lost (m.sender == p) (m.receiver == p) refl refl refl (name_of more (label_at items m.item)) (all_ends (named_from more items messages)) (named_load more items messages p)
  where
    go : (lost sends gets : Bool) → m.is_lost ≡ lost → (m.sender == p) ≡ sends → (m.receiver == p) ≡ gets → (name : List ℕ) (rest : List End) → length (own_ends p rest) ≡ load messages p
        → length (own_ends p (cond lost (send_end (named_as m name) ∷ []) (send_end (named_as m name) ∷ receive_end (named_as m name) ∷ []) ++ rest)) ≡ load messages p + sends_of p m + receives_of p m
    go true true true e f g name rest is = rw (e, f, g) (omega (arith, is))
    go true true false e f g name rest is = rw (e, f, g) (omega (arith, is))
    go true false true e f g name rest is = rw (e, f, g) (omega (arith, is))
    go true false false e f g name rest is = rw (e, f, g) (omega (arith, is))
    go false true true e f g name rest is = rw (e, f, g) (omega (arith, is))
    go false true false e f g name rest is = rw (e, f, g) (omega (arith, is))
    go false false true e f g name rest is = rw (e, f, g) (omega (arith, is))
    go false false false e f g name rest is = rw (e, f, g) (omega (arith, is))

-- Two messages that stay, of one lane or of two.

pub record Stay (m n : Message) : Type 0 where
  pub order : m.begins ≤ n.begins
  pub beside : overtakes n m ≡ false
  pub lost : LostBehind m n

pairs_stay : (messages : List Message) → Pairs (λ m n. m.begins ≤ n.begins) messages → Pairs (λ m n. overtakes n m ≡ false) messages → Pairs LostBehind messages → Pairs Stay messages
pairs_stay [] one two three = tt
pairs_stay (m ∷ messages) one two three = (each_stay messages one.0 two.0 three.0, pairs_stay messages one.1 two.1 three.1)
  where
    each_stay : (later : List Message) → Each (λ n. m.begins ≤ n.begins) later → Each (λ n. overtakes n m ≡ false) later → Each (LostBehind m) later → Each (Stay m) later
    each_stay [] a b c = tt
    each_stay (n ∷ later) a b c = (record { order = a.0; beside = b.0; lost = c.0 }, each_stay later a.1 b.1 c.1)

follows : (m n : Message) (one other : List ℕ) → Stay m n → Follows (named_as m one) (named_as n other)
follows m n one other stay = record { order = stay.order; taken = λ from to mine its. not_above from to mine its; lost = λ from to gone. is_gone n.is_lost refl from to gone }
  where
    not_above : m.sender ≡ n.sender → m.receiver ≡ n.receiver → m.is_lost ≡ false → n.is_lost ≡ false → m.ends ≤ n.ends
    not_above from to mine its = ltb-false n.ends m.ends (rw (mine, its, eq-eqb m.sender n.sender from, eq-eqb m.receiver n.receiver to) at stay.beside)

    is_gone : (lost : Bool) → n.is_lost ≡ lost → m.sender ≡ n.sender → m.receiver ≡ n.receiver → m.is_lost ≡ true → lost ≡ true
    is_gone true e from to gone = refl
    is_gone false e from to gone = absurd (cc (rw (e, eq-eqb n.sender m.sender (sym from), eq-eqb n.receiver m.receiver (sym to)) at (stay.lost gone)))

-- The chart of the collected messages.

pub stay_built : (n row : ℕ) (labels : Labelling) (items : List ItemView) (messages : List Message) → AreCollected n row messages → fault_from None [] messages ≡ None → full_from [] (kept messages) ≡ None
    → AreBuildable n (named_from labels items (kept messages))
unfolding load
stay_built n row labels items messages are none few = record {
  each = named_each (IsCollected n row) (IsMessage n) (λ m name is. record { two = is.two; down = is.down }) labels items (kept messages) (kept_each (IsCollected n row) messages are.each);
  follow = named_pairs Stay Follows follows labels items (kept messages)
      (pairs_stay (kept messages) (kept_pairs (λ m k. m.begins ≤ k.begins) messages are.order) (kept_pairs (λ m k. overtakes k m ≡ false) messages (none_overtakes None [] messages none).within) (kept_lost messages));
  room = λ p. omega (arith, named_load labels items (kept messages) p, load_whole [] (kept messages) p few (omega arith));
}
