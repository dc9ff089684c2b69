-- A history in two parts: for each lane a number of first sends and of first receives, and the rest. Neither has closes
-- or coregions.
use Rattle.std.proofs.Common.{◌≡◌, ℕ, ◌+◌, ◌-◌, ◌==◌, min, nat_lt, Bool, true, false, cond, List, [], ◌∷◌, ◌++◌, length, take, drop, refl, sym, ap, ap₂, ◌∙◌, subst₂, arith, append-nil, append_assoc, take_all}
use Rattle.std.proofs.lemmas.Bool.{ltb-true, ltb-false, eqb-true, and_parts}
use Rattle.std.proofs.lemmas.List.{length_push, drop_all, take-append-le, drop-append-le, length-take, length-drop, length-append}
use Rattle.chart.specs.declared.history.Occurrence.{Occurrence}
use Rattle.chart.specs.declared.history.Occurrence.TheVariants.{Send, Receive, Close}
use Rattle.chart.specs.Messages.{Content}
use Rattle.chart.specs.Histories.{is_lane, sent, received}
use Rattle.reordering.specs.OtherRuns.Walks.{Turns, inner, outer, parted, sends_in}

-- a test of one lane's number is that of the same lane
few_on : (f : Turns) (s : Turns) (a b q p : ℕ) (few : Bool) → nat_lt (f a b) (s a b) ≡ few → is_lane a b q p ≡ true → nat_lt (f q p) (s q p) ≡ few
few_on f s a b q p few e lane =
    let ends = and_parts (a == q) (b == p) lane in
    subst₂ (λ x y. nat_lt (f x y) (s x y) ≡ few) (eqb-true a q ends.0) (eqb-true b p ends.1) e

-- the first messages
pub inner_sent : (s r : Turns) (h : List Occurrence) (q p : ℕ) → sent (inner s r h) q p ≡ take (s q p) (sent h q p)
inner_sent s r [] q p = sym (take_all (s q p) [] (omega arith))
inner_sent s r (Send a b m ∷ h) q p = go (nat_lt (length (sent h a b)) (s a b)) refl (is_lane a b q p) refl (inner_sent s r h q p)
  where
    old : List Content
    old = sent h q p

    go : (few : Bool) → nat_lt (length (sent h a b)) (s a b) ≡ few → (its : Bool) → is_lane a b q p ≡ its → sent (inner s r h) q p ≡ take (s q p) (sent h q p) → sent (cond few (Send a b m ∷ inner s r h) (inner s r h)) q p ≡ take (s q p) (cond its (sent h q p ++ m ∷ []) (sent h q p))
    go true few true lane before =
        let less = ltb-true (length (sent h q p)) (s q p) (few_on (sends_in h) s a b q p true few lane) in
        rw lane (ap (λ ms. ms ++ m ∷ []) (before ∙ take_all (s q p) (sent h q p) (omega (arith, less))) ∙ sym (take_all (s q p) (sent h q p ++ m ∷ []) (omega (arith, less, length_push (sent h q p) m))))
    go true few false lane before = rw lane before
    go false few true lane before =
        let full = ltb-false (length (sent h q p)) (s q p) (few_on (sends_in h) s a b q p false few lane) in
        before ∙ sym (take-append-le (s q p) (sent h q p) (m ∷ []) full)
    go false few false lane before = before
inner_sent s r (Receive a b c ∷ h) q p = go (nat_lt (received h b a) (r b a)) (inner_sent s r h q p)
  where
    go : (few : Bool) → sent (inner s r h) q p ≡ take (s q p) (sent h q p) → sent (cond few (Receive a b 0 ∷ inner s r h) (inner s r h)) q p ≡ take (s q p) (sent h q p)
    go true before = before
    go false before = before
inner_sent s r (Close a b ∷ h) q p = inner_sent s r h q p

-- the first receives
pub inner_received : (s r : Turns) (h : List Occurrence) (q p : ℕ) → received (inner s r h) q p ≡ min (r q p) (received h q p)
inner_received s r [] q p = omega arith
inner_received s r (Send a b m ∷ h) q p = go (nat_lt (length (sent h a b)) (s a b)) (inner_received s r h q p)
  where
    go : (few : Bool) → received (inner s r h) q p ≡ min (r q p) (received h q p) → received (cond few (Send a b m ∷ inner s r h) (inner s r h)) q p ≡ min (r q p) (received h q p)
    go true before = before
    go false before = before
inner_received s r (Receive a b c ∷ h) q p = go (nat_lt (received h b a) (r b a)) refl (is_lane b a q p) refl (inner_received s r h q p)
  where
    go : (few : Bool) → nat_lt (received h b a) (r b a) ≡ few → (its : Bool) → is_lane b a q p ≡ its → received (inner s r h) q p ≡ min (r q p) (received h q p) → received (cond few (Receive a b 0 ∷ inner s r h) (inner s r h)) q p ≡ min (r q p) (cond its (received h q p + 1) (received h q p))
    go true few true lane before =
        let less = ltb-true (received h q p) (r q p) (few_on (received h) r b a q p true few lane) in
        rw lane (omega (arith, before, less))
    go true few false lane before = rw lane before
    go false few true lane before =
        let full = ltb-false (received h q p) (r q p) (few_on (received h) r b a q p false few lane) in
        omega (arith, before, full)
    go false few false lane before = before
inner_received s r (Close a b ∷ h) q p = inner_received s r h q p

-- after a history: the messages that it lacks
pub outer_sent : (s r : Turns) (h g : List Occurrence) (q p : ℕ) → sent (outer s r h ++ g) q p ≡ sent g q p ++ drop (s q p) (sent h q p)
outer_sent s r [] g q p = sym (ap (λ ms. sent g q p ++ ms) (drop_all (s q p) [] (omega arith)) ∙ append-nil (sent g q p))
outer_sent s r (Send a b m ∷ h) g q p = go (nat_lt (length (sent h a b)) (s a b)) refl (is_lane a b q p) refl (outer_sent s r h g q p)
  where
    go : (few : Bool) → nat_lt (length (sent h a b)) (s a b) ≡ few → (its : Bool) → is_lane a b q p ≡ its → sent (outer s r h ++ g) q p ≡ sent g q p ++ drop (s q p) (sent h q p) → sent (cond few (outer s r h) (Send a b m ∷ outer s r h) ++ g) q p ≡ sent g q p ++ drop (s q p) (cond its (sent h q p ++ m ∷ []) (sent h q p))
    go true few true lane before =
        let less = ltb-true (length (sent h q p)) (s q p) (few_on (sends_in h) s a b q p true few lane) in
        let none : drop (s q p) (sent h q p) ≡ [] = drop_all (s q p) (sent h q p) (omega (arith, less)) in
        let still : drop (s q p) (sent h q p ++ m ∷ []) ≡ [] = drop_all (s q p) (sent h q p ++ m ∷ []) (omega (arith, less, length_push (sent h q p) m)) in
        before ∙ ap (λ ms. sent g q p ++ ms) (none ∙ sym still)
    go true few false lane before = before
    go false few true lane before =
        let full = ltb-false (length (sent h q p)) (s q p) (few_on (sends_in h) s a b q p false few lane) in
        rw lane (ap (λ ms. ms ++ m ∷ []) before ∙ append_assoc (sent g q p) (drop (s q p) (sent h q p)) (m ∷ []) ∙ ap (λ ms. sent g q p ++ ms) (sym (drop-append-le (s q p) (sent h q p) (m ∷ []) full)))
    go false few false lane before = rw lane before
outer_sent s r (Receive a b c ∷ h) g q p = go (nat_lt (received h b a) (r b a)) (outer_sent s r h g q p)
  where
    go : (few : Bool) → sent (outer s r h ++ g) q p ≡ sent g q p ++ drop (s q p) (sent h q p) → sent (cond few (outer s r h) (Receive a b 0 ∷ outer s r h) ++ g) q p ≡ sent g q p ++ drop (s q p) (sent h q p)
    go true before = before
    go false before = before
outer_sent s r (Close a b ∷ h) g q p = outer_sent s r h g q p

-- and the receives that it lacks
pub outer_received : (s r : Turns) (h g : List Occurrence) (q p : ℕ) → received (outer s r h ++ g) q p ≡ received g q p + (received h q p - r q p)
outer_received s r [] g q p = omega arith
outer_received s r (Send a b m ∷ h) g q p = go (nat_lt (length (sent h a b)) (s a b)) (outer_received s r h g q p)
  where
    go : (few : Bool) → received (outer s r h ++ g) q p ≡ received g q p + (received h q p - r q p) → received (cond few (outer s r h) (Send a b m ∷ outer s r h) ++ g) q p ≡ received g q p + (received h q p - r q p)
    go true before = before
    go false before = before
outer_received s r (Receive a b c ∷ h) g q p = go (nat_lt (received h b a) (r b a)) refl (is_lane b a q p) refl (outer_received s r h g q p)
  where
    go : (few : Bool) → nat_lt (received h b a) (r b a) ≡ few → (its : Bool) → is_lane b a q p ≡ its → received (outer s r h ++ g) q p ≡ received g q p + (received h q p - r q p) → received (cond few (outer s r h) (Receive a b 0 ∷ outer s r h) ++ g) q p ≡ received g q p + (cond its (received h q p + 1) (received h q p) - r q p)
    go true few true lane before =
        let less = ltb-true (received h q p) (r q p) (few_on (received h) r b a q p true few lane) in
        omega (arith, before, less)
    go true few false lane before = before
    go false few true lane before =
        let full = ltb-false (received h q p) (r q p) (few_on (received h) r b a q p false few lane) in
        rw lane (omega (arith, before, full))
    go false few false lane before = rw lane before
outer_received s r (Close a b ∷ h) g q p = outer_received s r h g q p

-- The numbers of messages and receives.

pub inner_sends : (s r : Turns) (h : List Occurrence) (q p : ℕ) → length (sent (inner s r h) q p) ≡ min (s q p) (length (sent h q p))
inner_sends s r h q p = ap length (inner_sent s r h q p) ∙ length-take (s q p) (sent h q p)

pub parted_sends : (s r : Turns) (h g : List Occurrence) (q p : ℕ) → length (sent (parted s r h g) q p) ≡ min (s q p) (length (sent g q p)) + (length (sent h q p) - s q p)
parted_sends s r h g q p = ap length (outer_sent s r h (inner s r g) q p) ∙ length-append (sent (inner s r g) q p) (drop (s q p) (sent h q p)) ∙ ap₂ (λ x y. x + y) (inner_sends s r g q p) (length-drop (s q p) (sent h q p))

pub parted_receives : (s r : Turns) (h g : List Occurrence) (q p : ℕ) → received (parted s r h g) q p ≡ min (r q p) (received g q p) + (received h q p - r q p)
parted_receives s r h g q p = outer_received s r h (inner s r g) q p ∙ ap (λ x. x + (received h q p - r q p)) (inner_received s r g q p)
