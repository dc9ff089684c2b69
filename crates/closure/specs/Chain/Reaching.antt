-- Searching backwards from a receive r: the sends that come before it, each with its way to r (over the order of Alur,
-- Holzmann and Peled 1996, in this project's profile).
use Rattle.std.specs.Prelude.{◌≡◌, ℕ, ◌+◌, ◌*◌, ◌<◌, ◌≤◌, ◌⊎◌, List, [], ◌∷◌, ◌++◌, length, slice_get, Option, None, Some}
use Rattle.chart.specs.Words.{Counts}
use Rattle.chart.specs.Charts.{Chart, Place, IsReceiveFrom, BelongsTo}
use Rattle.chart.specs.Order.{IsEarlier}
use Rattle.chart.specs.declared.instance.EventNo.{EventNo}
use Rattle.closure.specs.Faults.{place_of}
use Rattle.closure.specs.Rows.{entry}
use Rattle.closure.specs.Chain.Chains.{Lead}
use Rattle.closure.specs.declared.chain.link.Link.{Link}
use Rattle.closure.specs.declared.chain.reaching.Reached.{Reached}

-- x is the i-th send that was found, from 0
abbrev pub IsAt : List Reached → ℕ → Reached → Type 0
IsAt found i x = slice_get found i ≡ Some x

-- the way of the i-th send to r: its message is received at r itself, or above a send that was found before it
pub record IsOnTheWay (c : Chart) (r : Place) (found : List Reached) (i : ℕ) (x : Reached) : Type 0 where
  pub belongs : BelongsTo c (place_of x.send) (place_of x.receive)
  pub onward : ((i ≡ 0) × (place_of x.receive ≡ r) × (x.depth ≡ 0))
      ⊎ ((y : Reached) × (x.next < i) × IsAt found x.next y × IsEarlier (place_of x.receive) (place_of y.send)
      × (x.depth ≡ y.depth + 1))
  pub low : x.depth ≤ i

-- each send leads to r, and those with fewer messages on their way were found sooner
pub record IsTrail (c : Chart) (r : Place) (found : List Reached) : Type 0 where
  pub each : (i : ℕ) (x : Reached) → IsAt found i x → IsOnTheWay c r found i x
  pub first : (x : Reached) × IsAt found 0 x
  pub rising : (i j : ℕ) (x y : Reached) → i ≤ j → IsAt found i x → IsAt found j y → x.depth ≤ y.depth

-- they lead to some receive
abbrev pub IsSomeTrail : List Reached → Type 0
IsSomeTrail found = (c : Chart) × (r : Place) × IsTrail c r found

-- the send s was found, with at most d messages on its way
abbrev pub IsFound : List Reached → Place → ℕ → Type 0
IsFound found s d = (i : ℕ) × (x : Reached) × IsAt found i x × (place_of x.send ≡ s) × (x.depth ≤ d)

-- the sends of all receives above this one were found
abbrev pub IsFollowed : Chart → List Reached → Reached → Type 0
IsFollowed c found x = (e s : Place) → BelongsTo c s e → IsEarlier e (place_of x.send) → IsFound found s (x.depth + 1)

-- this many events of each line were seen, and the sends of the receives among them were found; all sends before the
-- head were followed
pub record IsSearching (c : Chart) (r : Place) (found : List Reached) (seen : Counts) (head : ℕ) : Type 0 where
  pub trail : IsTrail c r found
  pub marked : (e s : Place) → BelongsTo c s e → e.index ≤ entry seen e.instance
      → (i : ℕ) × (x : Reached) × IsAt found i x × (place_of x.send ≡ s)
  pub near : (i j : ℕ) (x y : Reached) → head ≤ i → IsAt found i x → IsAt found j y → y.depth ≤ x.depth + 1
  pub done : (i : ℕ) (x : Reached) → i < head → IsAt found i x → IsFollowed c found x

-- all sends that come before r were found
pub record AreAll (c : Chart) (r : Place) (found : List Reached) : Type 0 where
  pub trail : IsTrail c r found
  pub followed : (i : ℕ) (x : Reached) → IsAt found i x → IsFollowed c found x

-- the event is no receive, and nothing was found; or its send was found, by the send of this number
abbrev pub HasFollowed : Chart → EventNo → ℕ → List Reached → List Reached → Type 0
HasFollowed c event number old new = (((q : ℕ) → IsReceiveFrom c q (place_of event) → ⊥) × (new ≡ old))
    ⊎ ((send : EventNo) × (x : Reached) × BelongsTo c (place_of send) (place_of event) × IsAt old number x
    × (new ≡ old ++ record { send = send; receive = event; next = number; depth = x.depth + 1 } ∷ []))

-- e is the send that was reached, or an event above it
pub record IsUnder (x : Reached) (e : Place) : Type 0 where
  pub line : e.instance ≡ x.send.instance
  pub begun : 1 ≤ e.index
  pub within : e.index ≤ x.send.index

-- k direct steps lead from there to r
abbrev pub AreSteps : Reached → Place → ℕ → Type 0
AreSteps x e k = ((e.index ≡ x.send.index) × (k ≡ 2 * x.depth + 1)) ⊎ ((e.index < x.send.index) × (k ≡ 2 * x.depth + 2))

-- the answer for a send that was reached
abbrev pub GivesSteps : Reached → Place → Option ℕ → Type 0
GivesSteps x e None = IsUnder x e → ⊥
GivesSteps x e (Some k) = IsUnder x e × AreSteps x e k

-- among the first `many` sends that were found, none has e above it, or this one has it with the fewest steps
abbrev pub IsNearest : List Reached → Place → ℕ → Option (ℕ × ℕ) → Type 0
IsNearest found e many None = (i : ℕ) (x : Reached) → i < many → IsAt found i x → IsUnder x e → ⊥
IsNearest found e many (Some best) = (x : Reached) × IsAt found best.0 x × IsUnder x e × AreSteps x e best.1
    × ((i : ℕ) (y : Reached) (k : ℕ) → i < many → IsAt found i y → IsUnder y e → AreSteps y e k → best.1 ≤ k)

-- links that lead from e to r by the send of this number, as many as it has steps
pub record IsChainBy (c : Chart) (r : Place) (found : List Reached) (number : ℕ) (e : Place)
    (links : List Link) : Type 0 where
  pub lead : Lead c e r links
  pub steps : (x : Reached) (k : ℕ) → IsAt found number x → AreSteps x e k → length links ≡ k
