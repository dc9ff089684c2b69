-- The events that have to come when a receive comes first, found from a history's newest event to its oldest: numbers
-- of sends and receives of each lane, and lines with all their older events.
use Rattle.std.proofs.Common.{◌≡◌, ℕ, ◌+◌, ◌-◌, ◌≤◌, ◌⊎◌, inl, inr, ◌==◌, max, Bool, true, false, cond, List, [], ◌∷◌, length, refl, arith}
use Rattle.std.proofs.lemmas.Bool.{and_parts, cases_lt, eqb-true}
use Rattle.chart.specs.declared.history.Occurrence.{Occurrence}
use Rattle.chart.specs.declared.history.Occurrence.TheVariants.{Send, Receive, Close}
use Rattle.chart.specs.Histories.{is_lane, sent, received}
use Rattle.chart.proofs.Histories.{is_lane-same}
use Rattle.reordering.specs.OtherRuns.Walks.{Turns, Wanted, first_wanted, raise, step, wanted, wants_receive, wants_send, with_receive, with_send}

pub raise-old : (w : Turns) (a b t q p : ℕ) → w q p ≤ raise w a b t q p
raise-old w a b t q p = go (is_lane a b q p)
  where
    go : (its : Bool) → w q p ≤ cond its (max (w q p) t) (w q p)
    go true = omega arith
    go false = omega arith

pub raise-new : (w : Turns) (a b t : ℕ) → t ≤ raise w a b t a b
raise-new w a b t = rw (is_lane-same a b) (omega arith)

pub raise-cases : (w : Turns) (a b t q p i : ℕ) → i ≤ raise w a b t q p → (i ≤ w q p) ⊎ ((a ≡ q) × (b ≡ p) × (i ≤ t))
raise-cases w a b t q p i le = go (is_lane a b q p) refl le
  where
    go : (its : Bool) → is_lane a b q p ≡ its → i ≤ cond its (max (w q p) t) (w q p) → (i ≤ w q p) ⊎ ((a ≡ q) × (b ≡ p) × (i ≤ t))
    go true lane within =
        let ends = and_parts (a == q) (b == p) lane in
        elim (cases_lt (w q p) i) [
          | inl past ↦ inr (eqb-true a q ends.0, eqb-true b p ends.1, omega (arith, past, within))
          | inr old ↦ inl old
        ]
    go false lane within = inl within

-- no receive is wanted without its send, and no more sends than there are slots
abbrev pub IsBalanced : ℕ → Wanted → Type 0
IsBalanced k w = (q p : ℕ) → (w.receives q p ≤ w.sends q p) × (w.sends q p ≤ w.receives q p + k)

balanced-raise : (k : ℕ) (s r : Turns) (a b t u : ℕ) → u ≤ t → t ≤ u + k → (q p : ℕ) → (r q p ≤ s q p) × (s q p ≤ r q p + k) → (raise r a b u q p ≤ raise s a b t q p) × (raise s a b t q p ≤ raise r a b u q p + k)
balanced-raise k s r a b t u low high q p was = go (is_lane a b q p)
  where
    go : (its : Bool) → (cond its (max (r q p) u) (r q p) ≤ cond its (max (s q p) t) (s q p)) × (cond its (max (s q p) t) (s q p) ≤ cond its (max (r q p) u) (r q p) + k)
    go true = (omega (arith, was.0, was.1, low, high), omega (arith, was.0, was.1, low, high))
    go false = was

balanced-step : (k : ℕ) (h : List Occurrence) (x : Occurrence) (w : Wanted) → IsBalanced k w → IsBalanced k (step k h x w)
balanced-step k h (Send a b m) w was = go (wants_send h a b w)
  where
    go : (wants : Bool) → IsBalanced k (cond wants (with_send k h a b w) w)
    go true q p = balanced-raise k w.sends w.receives a b (length (sent h a b) + 1) (length (sent h a b) + 1 - k) (omega arith) (omega arith) q p (was q p)
    go false q p = was q p
balanced-step k h (Receive a b c) w was = go (wants_receive h a b w)
  where
    go : (wants : Bool) → IsBalanced k (cond wants (with_receive h a b w) w)
    go true q p = balanced-raise k w.sends w.receives b a (received h b a + 1) (received h b a + 1) (omega arith) (omega arith) q p (was q p)
    go false q p = was q p
balanced-step k h (Close a b) w was = was

pub balanced : (k : ℕ) (h : List Occurrence) (w : Wanted) → IsBalanced k w → IsBalanced k (wanted k h w)
balanced k [] w was = was
balanced k (x ∷ h) w was = balanced k h (step k h x w) (balanced-step k h x w was)

pub balanced-first : (k q p t : ℕ) → IsBalanced k (first_wanted q p t)
balanced-first k q p t a b = balanced-raise k (λ x y. 0) (λ x y. 0) q p t t (omega arith) (omega arith) a b (omega arith, omega arith)

-- what is wanted stays wanted
abbrev pub IsMore : Wanted → Wanted → Type 0
IsMore w v = ((q p : ℕ) → w.sends q p ≤ v.sends q p) × ((q p : ℕ) → w.receives q p ≤ v.receives q p)

more-step : (k : ℕ) (h : List Occurrence) (x : Occurrence) (w : Wanted) → IsMore w (step k h x w)
more-step k h (Send a b m) w = go (wants_send h a b w)
  where
    go : (wants : Bool) → IsMore w (cond wants (with_send k h a b w) w)
    go true = (raise-old w.sends a b (length (sent h a b) + 1), raise-old w.receives a b (length (sent h a b) + 1 - k))
    go false = (λ q p. omega arith, λ q p. omega arith)
more-step k h (Receive a b c) w = go (wants_receive h a b w)
  where
    go : (wants : Bool) → IsMore w (cond wants (with_receive h a b w) w)
    go true = (raise-old w.sends b a (received h b a + 1), raise-old w.receives b a (received h b a + 1))
    go false = (λ q p. omega arith, λ q p. omega arith)
more-step k h (Close a b) w = (λ q p. omega arith, λ q p. omega arith)

pub more-wanted : (k : ℕ) (h : List Occurrence) (w : Wanted) → IsMore w (wanted k h w)
more-wanted k [] w = (λ q p. omega arith, λ q p. omega arith)
more-wanted k (x ∷ h) w =
    let one = more-step k h x w in
    let rest = more-wanted k h (step k h x w) in
    (λ q p. omega (arith, one.0 q p, rest.0 q p), λ q p. omega (arith, one.1 q p, rest.1 q p))
