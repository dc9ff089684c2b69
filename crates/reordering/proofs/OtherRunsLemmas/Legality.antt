-- A legal history in two parts is legal, if no receive is wanted without its send, and no more sends than slots.
use Rattle.std.proofs.Common.{◌≡◌, ℕ, ◌+◌, ◌<◌, ◌≤◌, eq-eqb, ◌==◌, nat_lt, Bool, true, false, cond, List, [], ◌∷◌, ◌++◌, length, inl, refl, arith, length-drop}
use Rattle.std.proofs.lemmas.Bool.{ltb-true, ltb-false}
use Rattle.chart.specs.declared.history.Occurrence.{Occurrence}
use Rattle.chart.specs.declared.history.Occurrence.TheVariants.{Send, Receive, Close}
use Rattle.chart.specs.declared.line.TheConstants.{MAX_EVENTS}
use Rattle.chart.specs.Histories.{sent, received, is_closed, AreTwo, IsLegal, Begins}
use Rattle.chart.proofs.Histories.{received-le, begins_same, begins_onward, sent_begins-le, received_begins}
use Rattle.reordering.specs.OtherRuns.Walks.{Turns, inner, outer, parted}
use Rattle.reordering.proofs.OtherRunsLemmas.Parts.{inner_sends, inner_received, parted_sends, parted_receives}
use Rattle.reordering.proofs.OtherRunsLemmas.Counted.{acts, line_short, acts_legal}

-- sends and receives of n instances, outside of coregions: each send has one of k slots, and each receive its message
abbrev pub IsPlain : ℕ → ℕ → List Occurrence → Type 0
IsPlain n k [] = Unit {0}
IsPlain n k (Send a b m ∷ h) = AreTwo n a b × (length (sent h a b) < received h a b + k) × IsPlain n k h
IsPlain n k (Receive a b c ∷ h) = AreTwo n a b × (received h b a < length (sent h b a)) × (c ≡ 0) × IsPlain n k h
IsPlain n k (Close a b ∷ h) = ⊥

-- none of their lanes is closed
open_plain : (n k : ℕ) (h : List Occurrence) → IsPlain n k h → (q p : ℕ) → is_closed h q p ≡ false
open_plain n k [] plain q p = refl
open_plain n k (Send a b m ∷ h) plain q p = open_plain n k h plain.2 q p
open_plain n k (Receive a b c ∷ h) plain q p = open_plain n k h plain.3 q p
open_plain n k (Close a b ∷ h) plain q p = absurd plain

-- an instance that made an event had made fewer before it
acts_less : (a p more : ℕ) (h : ℕ → ℕ) → cond (a == p) (h p + 1) (h p) ≤ more → h p ≤ more
acts_less a p more h le = go (a == p) le
  where
    go : (mine : Bool) → cond mine (h p + 1) (h p) ≤ more → h p ≤ more
    go true le = omega (arith, le)
    go false le = le

acts_own : (a more : ℕ) (h : ℕ → ℕ) → cond (a == a) (h a + 1) (h a) ≤ more → h a < more
acts_own a more h le = let e = eq-eqb a a refl in omega (arith, rw e at le)

-- they are legal, if no line gets too long
legal_plain : (n k : ℕ) (h : List Occurrence) → IsPlain n k h → ((p : ℕ) → acts h p ≤ MAX_EVENTS) → IsLegal n k h
legal_plain n k [] plain short = tt
legal_plain n k (Send a b m ∷ h) plain short =
    let rest = legal_plain n k h plain.2 (λ p. acts_less a p MAX_EVENTS (acts h) (short p)) in
    let within = received-le n k h rest a b in
    let room = acts_own a MAX_EVENTS (acts h) (short a) in (
      (plain.0, open_plain n k h plain.2 a b, omega (arith, plain.1, within, length-drop (received h a b) (sent h a b)), omega (arith, room, line_short h a)),
      rest,
    )
legal_plain n k (Receive a b c ∷ h) plain short =
    let rest = legal_plain n k h plain.3 (λ p. acts_less a p MAX_EVENTS (acts h) (short p)) in
    let room = acts_own a MAX_EVENTS (acts h) (short a) in (
      (plain.0, omega (arith, plain.1, length-drop (received h b a) (sent h b a)), omega (arith, room, line_short h a), inl plain.2),
      rest,
    )
legal_plain n k (Close a b ∷ h) plain short = absurd plain

module _ (n k l : ℕ) (s r : Turns) (no_more : k ≤ l) (has_sends : (q p : ℕ) → r q p ≤ s q p) (has_slots : (q p : ℕ) → s q p ≤ r q p + l) where
  -- the first part
  plain_inner : (h : List Occurrence) → IsLegal n k h → IsPlain n l (inner s r h)
  plain_inner [] legal = tt
  plain_inner (Send a b m ∷ h) legal = go (nat_lt (length (sent h a b)) (s a b)) refl (plain_inner h legal.1)
    where
      go : (few : Bool) → nat_lt (length (sent h a b)) (s a b) ≡ few → IsPlain n l (inner s r h) → IsPlain n l (cond few (Send a b m ∷ inner s r h) (inner s r h))
      go true few before = (
        legal.0.0,
        omega (arith, ltb-true (length (sent h a b)) (s a b) few, legal.0.2, length-drop (received h a b) (sent h a b), inner_sends s r h a b, inner_received s r h a b, has_slots a b, no_more),
        before,
      )
      go false few before = before
  plain_inner (Receive a b c ∷ h) legal = go (nat_lt (received h b a) (r b a)) refl (plain_inner h legal.1)
    where
      go : (few : Bool) → nat_lt (received h b a) (r b a) ≡ few → IsPlain n l (inner s r h) → IsPlain n l (cond few (Receive a b 0 ∷ inner s r h) (inner s r h))
      go true few before = (
        legal.0.0,
        omega (arith, ltb-true (received h b a) (r b a) few, legal.0.1, length-drop (received h b a) (sent h b a), inner_sends s r h b a, inner_received s r h b a, has_sends b a),
        refl,
        before,
      )
      go false few before = before
  plain_inner (Close a b ∷ h) legal = plain_inner h legal.1

  -- the second part after it, of a history that begins the whole
  plain_parted : (g h : List Occurrence) → IsLegal n k g → IsLegal n k h → Begins h g → IsPlain n l (parted s r h g)
  plain_parted g [] whole legal begins = plain_inner g whole
  plain_parted g (Send a b m ∷ h) whole legal begins =
      let sends = sent_begins-le (Send a b m ∷ h) g begins a b in
      go (nat_lt (length (sent h a b)) (s a b)) refl (plain_parted g h whole legal.1 (begins_onward h (Send a b m ∷ h) g (Send a b m ∷ [], refl) begins))
    where
      behind : Begins h g
      behind = begins_onward h (Send a b m ∷ h) g (Send a b m ∷ [], refl) begins

      go : (few : Bool) → nat_lt (length (sent h a b)) (s a b) ≡ few → IsPlain n l (parted s r h g) → IsPlain n l (cond few (outer s r h) (Send a b m ∷ outer s r h) ++ inner s r g)
      go true few before = before
      go false few before = (
        legal.0.0,
        omega (arith, ltb-false (length (sent h a b)) (s a b) few, legal.0.2, length-drop (received h a b) (sent h a b), parted_sends s r h g a b, parted_receives s r h g a b, sent_begins-le h g behind a b, received_begins h g behind a b, no_more),
        before,
      )
  plain_parted g (Receive a b c ∷ h) whole legal begins = go (nat_lt (received h b a) (r b a)) refl (plain_parted g h whole legal.1 behind)
    where
      behind : Begins h g
      behind = begins_onward h (Receive a b c ∷ h) g (Receive a b c ∷ [], refl) begins

      go : (few : Bool) → nat_lt (received h b a) (r b a) ≡ few → IsPlain n l (parted s r h g) → IsPlain n l (cond few (outer s r h) (Receive a b 0 ∷ outer s r h) ++ inner s r g)
      go true few before = before
      go false few before = (
        legal.0.0,
        omega (arith, ltb-false (received h b a) (r b a) few, legal.0.1, length-drop (received h b a) (sent h b a), parted_sends s r h g b a, parted_receives s r h g b a, sent_begins-le h g behind b a, received_begins h g behind b a),
        refl,
        before,
      )
  plain_parted g (Close a b ∷ h) whole legal begins = plain_parted g h whole legal.1 (begins_onward h (Close a b ∷ h) g (Close a b ∷ [], refl) begins)

-- each event of a history is in one of the parts
acts_parted : (s r : Turns) (g h : List Occurrence) (p : ℕ) → acts (outer s r h ++ g) p + acts (inner s r h) p ≡ acts g p + acts h p
acts_parted s r g [] p = refl
acts_parted s r g (Send a b m ∷ h) p = go (nat_lt (length (sent h a b)) (s a b)) (a == p) refl (acts_parted s r g h p)
  where
    go : (few mine : Bool) → (a == p) ≡ mine → acts (outer s r h ++ g) p + acts (inner s r h) p ≡ acts g p + acts h p → acts (cond few (outer s r h) (Send a b m ∷ outer s r h) ++ g) p + acts (cond few (Send a b m ∷ inner s r h) (inner s r h)) p ≡ acts g p + cond mine (acts h p + 1) (acts h p)
    go true true e before = rw e (omega (arith, before))
    go true false e before = rw e before
    go false true e before = rw e (omega (arith, before))
    go false false e before = rw e before
acts_parted s r g (Receive a b c ∷ h) p = go (nat_lt (received h b a) (r b a)) (a == p) refl (acts_parted s r g h p)
  where
    go : (few mine : Bool) → (a == p) ≡ mine → acts (outer s r h ++ g) p + acts (inner s r h) p ≡ acts g p + acts h p → acts (cond few (outer s r h) (Receive a b 0 ∷ outer s r h) ++ g) p + acts (cond few (Receive a b 0 ∷ inner s r h) (inner s r h)) p ≡ acts g p + cond mine (acts h p + 1) (acts h p)
    go true true e before = rw e (omega (arith, before))
    go true false e before = rw e before
    go false true e before = rw e (omega (arith, before))
    go false false e before = rw e before
acts_parted s r g (Close a b ∷ h) p = acts_parted s r g h p

-- so the whole, in its two parts, is legal
pub legal_parted : (n k l : ℕ) (s r : Turns) → k ≤ l → ((q p : ℕ) → r q p ≤ s q p) → ((q p : ℕ) → s q p ≤ r q p + l) → (h : List Occurrence) → IsLegal n k h → IsLegal n l (parted s r h h)
legal_parted n k l s r no_more has_sends has_slots h legal =
    legal_plain n l (parted s r h h) (plain_parted n k l s r no_more has_sends has_slots h h legal legal (begins_same h))
    (λ p. omega (arith, acts_parted s r (inner s r h) h p, (acts_legal n k h legal p).1))
