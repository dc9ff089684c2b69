-- Events within given numbers of each lane's sends and receives.
use Rattle.std.proofs.Common.{ℕ, ◌≤◌, min, List, subst, arith}
use Rattle.chart.specs.declared.history.Occurrence.{Occurrence}
use Rattle.chart.specs.Events.{is_send_to, is_receive_from, tally}
use Rattle.chart.specs.Histories.{received}
use Rattle.chart.specs.Charts.{Chart, Place, IsSendTo, IsReceiveFrom}
use Rattle.chart.specs.Places.{IsEvent}
use Rattle.chart.proofs.Belongs.{IsEvent-from_passes, not_both, one_sender, one_receiver}
use Rattle.reordering.specs.OtherRuns.Walks.{Turns, sends_in}
use Rattle.reordering.specs.OtherRuns.OtherRuns.{HasCome}
use Rattle.reordering.specs.OtherRuns.OtherRuns.HasCome.{was_sent, was_received}

-- the event at e is within these numbers of sends, or receives, of its lane
pub data IsWithin (c : Chart) (s r : Turns) (e : Place) : Type 0 where
  send : (q : ℕ) → IsSendTo c q e → tally (is_send_to q) (c e.instance) e.index ≤ s e.instance q → IsWithin c s r e
  receive : (q : ℕ) → IsReceiveFrom c q e → tally (is_receive_from q) (c e.instance) e.index ≤ r q e.instance → IsWithin c s r e

-- an event that has come is within the numbers that were sent and received
pub within_come : (c : Chart) (h : List Occurrence) (e : Place) → HasCome c h e → IsWithin c (sends_in h) (received h) e
within_come c h e (was_sent q is le) = send q is le
within_come c h e (was_received q is le) = receive q is le

-- an event within these numbers has come
pub come_within : (c : Chart) (h : List Occurrence) (e : Place) → IsWithin c (sends_in h) (received h) e → HasCome c h e
come_within c h e (send q is le) = was_sent q is le
come_within c h e (receive q is le) = was_received q is le

-- an event that has come is an event of the chart
pub come_event : (c : Chart) (h : List Occurrence) (e : Place) → HasCome c h e → IsEvent c e
come_event c h e (was_sent q is le) = IsEvent-from_passes c (is_send_to q) e is
come_event c h e (was_received q is le) = IsEvent-from_passes c (is_receive_from q) e is

-- an event within some numbers is within greater ones
pub within_weaker : (c : Chart) (s r u v : Turns) → ((q p : ℕ) → s q p ≤ u q p) → ((q p : ℕ) → r q p ≤ v q p) → (e : Place) → IsWithin c s r e → IsWithin c u v e
within_weaker c s r u v sends receives e (send q is le) = send q is (omega (arith, le, sends e.instance q))
within_weaker c s r u v sends receives e (receive q is le) = receive q is (omega (arith, le, receives q e.instance))

-- an event within both of two numbers is within any that is at least the smaller
pub within_both : (c : Chart) (s r u v w x : Turns) → ((q p : ℕ) → min (s q p) (u q p) ≤ w q p) → ((q p : ℕ) → min (r q p) (v q p) ≤ x q p) → (e : Place) → IsWithin c s r e → IsWithin c u v e → IsWithin c w x e
within_both c s r u v w x sends receives e (send q is le) (send a also lower) =
    let same = one_receiver c a q e also is in
    let other = subst (λ y. tally (is_send_to y) (c e.instance) e.index ≤ u e.instance y) same lower in
    send q is (omega (arith, le, other, sends e.instance q))
within_both c s r u v w x sends receives e (send q is le) (receive a also lower) = absurd (not_both c q a e is also)
within_both c s r u v w x sends receives e (receive q is le) (send a also lower) = absurd (not_both c a q e also is)
within_both c s r u v w x sends receives e (receive q is le) (receive a also lower) =
    let same = one_sender c a q e also is in
    let other = subst (λ y. tally (is_receive_from y) (c e.instance) e.index ≤ v y e.instance) same lower in
    receive q is (omega (arith, le, other, receives q e.instance))

-- an event within the numbers is an event of the chart
pub within_event : (c : Chart) (s r : Turns) (e : Place) → IsWithin c s r e → IsEvent c e
within_event c s r e (send q is le) = IsEvent-from_passes c (is_send_to q) e is
within_event c s r e (receive q is le) = IsEvent-from_passes c (is_receive_from q) e is
