-- Receives between two events of a line.
use Rattle.std.proofs.Common.{◌≡◌, ℕ, zero, suc, ◌+◌, ◌<◌, ◌≤◌, ◌↔◌, IsTrue, true, false, List, [], ◌∷◌, Option, None, Some, length, refl, sym, ap, ◌∙◌, subst, arith}
use Rattle.std.specs.Prelude.{slice_get}
use Rattle.std.proofs.lemmas.Bool.{false≢true, eqb-true, eq-eqb}
use Rattle.std.proofs.lemmas.Option.{none-some}
use Rattle.chart.specs.Charts.{Chart, Place, IsSendTo}
use Rattle.chart.specs.Places.{IsEvent}
use Rattle.chart.specs.Events.{ith, is_receive_from, partner_of, is_receive}
use Rattle.chart.specs.declared.event.Event.{Event}
use Rattle.chart.specs.declared.event.Event.TheVariants.{Send, Receive}
use Rattle.cmd_races.specs.Schedules.Verdicts.{IsBehind}
use Rattle.cmd_races.proofs.SchedulesLemmas.TableLemmas.{some_is}

abbrev pub IsFrom : List Event → ℕ → ℕ → Type 0
IsFrom line q i = (m : Event) × (ith line i ≡ Some m) × (is_receive_from q m ≡ true)

abbrev pub IsBetween : List Event → ℕ → ℕ → ℕ → Type 0
IsBetween line q j k = (i : ℕ) × (j < i) × (i < k) × IsFrom line q i

module _ (c : Chart) (r e : Place) where
  behind : (from : ℕ) (name : List ℕ) (region : ℕ) → ith (c r.instance) r.index ≡ Some (Receive from name region)
      → IsBetween (c r.instance) from e.index r.index ↔ IsBehind c r e
  behind from name region here = (to, back)
    where
      to : IsBetween (c r.instance) from e.index r.index → IsBehind c r e
      to (i, after, before, its) = record {
        sender = from;
        receive = (Receive from name region, here, eq-eqb from from refl);
        index = i;
        other = its;
        behind_earlier = after;
        before_receive = before;
      }

      back : IsBehind c r e → IsBetween (c r.instance) from e.index r.index
      back b =
          let event : Receive from name region ≡ b.receive.0 = some_is (Receive from name region) b.receive.0 (sym here ∙ b.receive.1) in
          let same : from ≡ b.sender = eqb-true from b.sender (ap (is_receive_from b.sender) event ∙ b.receive.2) in
          (b.index, b.behind_earlier, b.before_receive, subst (λ q. IsFrom (c r.instance) q b.index) (sym same) b.other)

  pub behind_event : (m : Event) → ith (c r.instance) r.index ≡ Some m → is_receive m ≡ true → IsBetween (c r.instance) (partner_of m) e.index r.index ↔ IsBehind c r e
  behind_event (Send to name) here is = absurd (false≢true is)
  behind_event (Receive from name region) here is = behind from name region here

  no_receive : (q : ℕ) (m : Event) → is_receive m ≡ false → is_receive_from q m ≡ true → ⊥
  no_receive q (Send to name) is receives = false≢true receives
  no_receive q (Receive from name region) is receives = false≢true (sym is)

  pub not_behind : (o : Option Event) → ith (c r.instance) r.index ≡ o → ((m : Event) → o ≡ Some m → is_receive m ≡ false) → IsTrue false ↔ IsBehind c r e
  not_behind o here none = (λ t. absurd (false≢true t), λ b. absurd (no_receive b.sender b.receive.0 (none b.receive.0 (sym here ∙ b.receive.1)) b.receive.2))

module _ (line : List Event) (q earlier later index : ℕ) (none : (i : ℕ) → index ≤ i → i < later → IsFrom line q i → ⊥) where
  pub not_between : index ≤ earlier + 1 → IsTrue false ↔ IsBetween line q earlier later
  not_between low = (λ t. absurd (false≢true t), λ b. absurd (none b.0 (let a = b.1 in omega arith) b.2 b.3))

-- an event that is no receive is a send
pub is_sent : (c : Chart) (e : Place) (m : Event) → ith (c e.instance) e.index ≡ Some m → is_receive m ≡ false → (q : ℕ) × IsSendTo c q e
is_sent c e (Send to name) here none = (to, (Send to name, here, eq-eqb to to refl))
is_sent c e (Receive from name region) here none = absurd (false≢true (sym none))

reads : (line : List Event) (i : ℕ) → i < length line → slice_get line i ≡ None → ⊥
reads [] i within none = omega (arith, within)
reads (m ∷ line) zero within none = none-some m (sym none)
reads (m ∷ line) (suc i) within none = reads line i (omega (arith, within)) none

-- there is an event
pub no_event : (c : Chart) (e : Place) → IsEvent c e → ith (c e.instance) e.index ≡ None → ⊥
no_event c e its none = go e.index its.0 its.1 none
  where
    go : (i : ℕ) → 1 ≤ i → i ≤ length (c e.instance) → ith (c e.instance) i ≡ None → ⊥
    go zero first within none = omega (arith, first)
    go (suc i) first within none = let line = c e.instance in reads line i (omega arith) none
