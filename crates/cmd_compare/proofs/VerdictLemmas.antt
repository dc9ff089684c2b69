-- The verdicts on an earlier and a later event of a line.
use Rattle.std.proofs.Common.{◌≡◌, ℕ, ◌<◌, ◌≤◌, inl, inr, Bool, true, false, List, length, Some, refl, sym, ap, ◌∙◌, subst, arith, eq-eqb}
use Rattle.std.specs.Prelude.{nat_le}
use Rattle.std.proofs.lemmas.Bool.{leb-true, le-leb, false≢true}
use Rattle.std.proofs.lemmas.Option.{same_Some}
use Rattle.chart.specs.declared.event.Event.{Event}
use Rattle.chart.specs.declared.event.Event.TheVariants.{Send, Receive}
use Rattle.chart.specs.Events.{is_in, ith, is_receive_from}
use Rattle.chart.specs.Charts.{Chart, Place, at, chart_event, IsReceiveFrom}
use Rattle.chart.specs.Order.{IsEarlier, Before, region_of_event}
use Rattle.chart.specs.Order.Before.{direct}
use Rattle.chart.specs.Order.Direct.{to_send, same_sender}
use Rattle.chart.proofs.Belongs.{one_sender}
use Rattle.chart.proofs.Tally.{ith_at}
use Rattle.reordering.proofs.CompletionLemmas.Possible.{IsSound}
use Rattle.cmd_compare.specs.declared.verdict.Verdict.{Verdict}
use Rattle.cmd_compare.specs.declared.verdict.Verdict.TheVariants.{Enforced, Race, Unclaimed}
use Rattle.cmd_compare.specs.Verdicts.{AreInOneRegion, IsVerdict, AreFromOne, IsFront, AreFronts, verdict_by, verdict_of, verdict_at}
use Rattle.cmd_compare.proofs.OneRegionLemmas.{from_one_region}

module _ (c : Chart) (sound : IsSound c) (e f : Place) (earlier : IsEarlier e f) (m : Event) (at_m : chart_event c e ≡ Some m) where
  -- all events above a send come before it
  above_send : (to : ℕ) (name : List ℕ) → chart_event c f ≡ Some (Send to name) → Before c e f
  above_send to name at_f = direct (to_send to earlier (Send to name, at_f, eq-eqb to to refl))

  module _ (from : ℕ) (name : List ℕ) (region : ℕ) (at_f : chart_event c f ≡ Some (Receive from name region)) where
    received : IsReceiveFrom c from f
    received = (Receive from name region, at_f, eq-eqb from from refl)

    -- the result of the test for two receives from one instance
    from_one : AreFromOne c e f → is_receive_from from m ≡ true
    from_one (q, (x, at_x, its), also) =
        subst (λ s. is_receive_from s m ≡ true) (one_sender c q from f also received) (subst (λ z. is_receive_from q z ≡ true) (same_Some x m (sym at_x ∙ at_m)) its)

    in_region : (h : Bool) → is_in region m ≡ h → AreInOneRegion c e f h
    in_region h is = (m, at_m, ap (λ x. is_in (region_of_event x) m) at_f ∙ is)

    -- the verdict on an event before a receive, by the receive's front
    before_receive : (k : ℕ) → IsFront c f k → IsVerdict c e f (verdict_by (is_receive_from from m) (is_in region m) (nat_le e.index k))
    before_receive k front = by_tests (is_receive_from from m) refl (is_in region m) refl (nat_le e.index k) refl
      where
        by_tests : (one : Bool) → is_receive_from from m ≡ one → (h : Bool) → is_in region m ≡ h → (t : Bool) → nat_le e.index k ≡ t → IsVerdict c e f (verdict_by one h t)
        by_tests true its h is t low = direct (same_sender from earlier (m, at_m, its) received)
        by_tests false other true is t low =
            (λ comes. false≢true (sym other ∙ from_one (from_one_region c sound e f m (Receive from name region) at_m at_f from received is earlier comes)), in_region true is)
        by_tests false other false is true low = (front e earlier (in_region false is)).1 (inl (leb-true e.index k low))
        by_tests false other false is false high = (
          λ comes. elim ((front e earlier (in_region false is)).0 comes) [
            | inl low ↦ false≢true (sym high ∙ le-leb e.index k low)
            | inr both ↦ false≢true (sym other ∙ from_one both)
          ],
          in_region false is,
        )

-- the verdict on two events of a line is right
pub verdict_right : (c : Chart) → IsSound c → (p : ℕ) (fronts : List ℕ) (i j : ℕ) → AreFronts c p fronts → 1 ≤ i → i < j → j ≤ length (c p) → IsVerdict c (at p i) (at p j) (verdict_at (c p) fronts i j)
verdict_right c sound p fronts i j are begun less within =
    let a = ith_at (c p) i begun (omega (arith, less, within)) in
    let b = ith_at (c p) j (omega (arith, begun, less)) within in
    subst (λ x. IsVerdict c (at p i) (at p j) (verdict_of x (ith (c p) j) (ith fronts j) i)) (sym a.1)
    (subst (λ x. IsVerdict c (at p i) (at p j) (verdict_of (Some a.0) x (ith fronts j) i)) (sym b.1) (by_event a.0 a.1 b.0 b.1))
  where
    earlier : IsEarlier (at p i) (at p j)
    earlier = record { line = refl; begun = begun; less = less }

    by_event : (m : Event) → ith (c p) i ≡ Some m → (n : Event) → ith (c p) j ≡ Some n → IsVerdict c (at p i) (at p j) (verdict_of (Some m) (Some n) (ith fronts j) i)
    by_event m at_m (Send to name) at_n = above_send c sound (at p i) (at p j) earlier m at_m to name at_n
    by_event m at_m (Receive from name region) at_n =
        let k = are from j (Receive from name region, at_n, eq-eqb from from refl) in
        subst (λ x. IsVerdict c (at p i) (at p j) (verdict_of (Some m) (Some (Receive from name region)) x i)) (sym k.1)
        (before_receive c sound (at p i) (at p j) earlier m at_m from name region at_n k.0 k.2)

-- two events are in one coregion or not
apart : (c : Chart) (e f : Place) → AreInOneRegion c e f false → AreInOneRegion c e f true → ⊥
apart c e f (m, at_m, out) (n, at_n, within) = false≢true (sym out ∙ ap (is_in (region_of_event (chart_event c f))) (same_Some m n (sym at_m ∙ at_n)) ∙ within)

-- the verdict is unique
pub one_verdict : (c : Chart) (e f : Place) (v w : Verdict) → IsVerdict c e f v → IsVerdict c e f w → v ≡ w
one_verdict c e f Enforced Enforced a b = refl
one_verdict c e f Enforced Race a b = absurd (b.0 a)
one_verdict c e f Enforced Unclaimed a b = absurd (b.0 a)
one_verdict c e f Race Enforced a b = absurd (a.0 b)
one_verdict c e f Race Race a b = refl
one_verdict c e f Race Unclaimed a b = absurd (apart c e f a.1 b.1)
one_verdict c e f Unclaimed Enforced a b = absurd (a.0 b)
one_verdict c e f Unclaimed Race a b = absurd (apart c e f b.1 a.1)
one_verdict c e f Unclaimed Unclaimed a b = refl
