-- Messages that lead to each other, and around: a shortest cycle is one of these (over the order of Alur, Holzmann and
-- Peled 1996, in this project's profile).
use Rattle.std.specs.Prelude.{◌≡◌, ℕ, zero, suc, ◌+◌, ◌*◌, ◌<◌, ◌≤◌, List, length, Option, None, Some}
use Rattle.chart.specs.Charts.{Chart, Place, BelongsTo}
use Rattle.chart.specs.Order.{IsEarlier}
use Rattle.closure.specs.Faults.{place_of}
use Rattle.closure.specs.Chain.Chains.{Lead}
use Rattle.closure.specs.declared.chain.link.Link.{Link}
use Rattle.closure.specs.declared.cycle.round.Round.{Round}

-- the message of the send s is received above the event e, on its line
abbrev pub IsReceivedAbove : Chart → Place → Place → Type 0
IsReceivedAbove c e s = (r : Place) × BelongsTo c s r × IsEarlier r e

-- `many` messages lead from the send s to the event e: each is received above the send of the next one, and the last
-- above e
abbrev pub Leads : Chart → Place → ℕ → Place → Type 0
Leads c e zero s = s ≡ e
Leads c e (suc many) s = (t : Place) × Leads c e many t × IsReceivedAbove c t s

-- `many` messages lead from the send s around to itself
abbrev pub IsRound : Chart → ℕ → Place → Type 0
IsRound c many s = (1 ≤ many) × Leads c s many s

-- no number of messages below the bound leads from e around to it
abbrev pub HasNoRound : Chart → Place → ℕ → Type 0
HasNoRound c e bound = (many : ℕ) → 1 ≤ many → many < bound → Leads c e many e → ⊥

-- a round that was found is a round
abbrev pub IsFoundRound : Chart → Option Round → Type 0
IsFoundRound c None = Unit {0}
IsFoundRound c (Some round) = IsRound c round.messages (place_of round.send)

-- the search is for a round with fewer messages than this bound: fewer than the round that was found, or fewer than n +
-- 2, since a shortest round passes each of n lines at most once
abbrev pub bound_of : ℕ → Option Round → ℕ
bound_of n None = n + 2
bound_of n (Some round) = round.messages

-- the round that was just found, or else the one before
abbrev pub better_of : Option Round → Option Round → Option Round
better_of before None = before
better_of before (Some round) = Some round

-- no round through the first k events of the line at p has fewer messages than this
abbrev pub HasNoneOn : Chart → ℕ → ℕ → ℕ → Type 0
HasNoneOn c p k bound = (e : Place) → e.instance ≡ p → 1 ≤ e.index → e.index ≤ k → HasNoRound c e bound

-- a round, such that no round has fewer messages
abbrev pub IsShortestRound : Chart → Round → Type 0
IsShortestRound c round = IsRound c round.messages (place_of round.send)
    × ((many : ℕ) (s : Place) → IsRound c many s → round.messages ≤ many)

-- the links of a round: two for each message
abbrev pub AreLinksOf : Chart → Round → List Link → Type 0
AreLinksOf c round links = Lead c (place_of round.send) (place_of round.send) links × (length links ≡ 2 * round.messages)

-- the links so far lead from the round's send to this one, from which `left` messages lead on
pub record IsOnRound (c : Chart) (root : Place) (messages : ℕ) (send : Place) (left : ℕ) (links : List Link) : Type 0 where
  pub lead : Lead c root send links
  pub count : length links + 2 * left ≡ 2 * messages
  pub leads : Leads c root left send
