-- Of two receives of one coregion, the earlier comes before the later only if both are from one instance.
use Rattle.std.proofs.Common.{◌≡◌, ℕ, ◌<◌, ◌≤◌, inl, inr, true, not, ◌==◌, Some, refl, sym, ap, ◌∙◌, subst, arith}
use Rattle.std.specs.Cmp.{second_so}
use Rattle.std.proofs.lemmas.Bool.{cases_lt, cases_eq, eq-eqb, false≢true}
use Rattle.std.proofs.lemmas.Option.{same_Some}
use Rattle.chart.specs.declared.event.Event.{Event}
use Rattle.chart.specs.declared.event.Event.TheVariants.{Send, Receive}
use Rattle.chart.specs.Events.{is_in, region_of, ith, is_send_to}
use Rattle.chart.specs.Charts.{Chart, Place, at, chart_event, IsSendTo, IsReceiveFrom}
use Rattle.chart.specs.Order.{IsEarlier, Direct, Before, IsCyclic}
use Rattle.chart.specs.Order.Direct.{message, to_send, same_sender}
use Rattle.chart.specs.Order.Before.{direct, through}
use Rattle.chart.proofs.Belongs.{same_place, not_both, one_sender}
use Rattle.chart.proofs.InRegions.{region_of-in}
use Rattle.reordering.proofs.CompletionLemmas.HandlingLemmas.{in_one_region}
use Rattle.reordering.proofs.CompletionLemmas.Possible.{IsSound}
use Rattle.cmd_compare.specs.Verdicts.{AreFromOne}

-- e is before f, with the first direct step given
data Led (c : Chart) : Place → Place → Type 0 where
  last : {e f : Place} → Direct c e f → Led c e f
  first : {e d f : Place} → Direct c e d → Led c d f → Led c e f

led_on : {c : Chart} {e d f : Place} → Led c e d → Led c d f → Led c e f
led_on (last s) y = first s y
led_on (first s x) y = first s (led_on x y)

led : {c : Chart} {e f : Place} → Before c e f → Led c e f
led (direct s) = last s
led (through x y) = led_on (led x) (led y)

before : {c : Chart} {e f : Place} → Led c e f → Before c e f
before (last s) = direct s
before (first s x) = through (direct s) (before x)

module _ (c : Chart) (p : ℕ) (f : Place) (line : f.instance ≡ p) (q0 : ℕ) (received : IsReceiveFrom c q0 f) (no_cycle : IsCyclic c → ⊥) where
  -- a send below f isn't before f
  from_below : (q : ℕ) (d : Place) → d.instance ≡ p → 1 ≤ f.index → f.index < d.index → IsSendTo c q d → Before c d f → ⊥
  from_below q d own begun less sends comes =
      no_cycle (f, through (direct (to_send q (record { line = line ∙ sym own; begun = begun; less = less }) sends)) comes)

  no_send : (q : ℕ) (d : Place) → d.instance ≡ p → d.index ≡ f.index → IsSendTo c q d → ⊥
  no_send q d own same sends = not_both c q q0 f (subst (IsSendTo c q) (same_place d f (own ∙ sym line) same) sends) received

  -- neither f nor an event below it is before f
  below : (x : Place) → x.instance ≡ p → 1 ≤ f.index → f.index ≤ x.index → Led c x f → ⊥
  below x own begun past (last (message b)) = elim (cases_eq x.index f.index) [
    | inl same ↦ no_send f.instance x own same b.sent
    | inr differs ↦ from_below f.instance x own begun (omega (arith, differs)) b.sent (direct (message b))
  ]
  below x own begun past (last (to_send q l s)) = not_both c q q0 f s received
  below x own begun past (last (same_sender q l a b)) = omega (arith, l.less)
  below x own begun past (first {d = d} (message b) rest) = elim (cases_eq x.index f.index) [
    | inl same ↦ no_send d.instance x own same b.sent
    | inr differs ↦ from_below d.instance x own begun (omega (arith, differs)) b.sent (through (direct (message b)) (before rest))
  ]
  below x own begun past (first {d = d} (to_send q l s) rest) = from_below q d (sym l.line ∙ own) begun (omega (arith, l.less)) s (before rest)
  below x own begun past (first {d = d} (same_sender q l a b) rest) = below d (sym l.line ∙ own) begun (omega (arith, l.less)) rest

  -- if no send stands above f from `low` on, an event there that is before f is a receive from f's sender
  above : (low : ℕ) → ((j q : ℕ) → low ≤ j → j < f.index → IsSendTo c q (at p j) → ⊥) → (x : Place) → x.instance ≡ p → 1 ≤ f.index → low ≤ x.index → x.index < f.index → Led c x f → AreFromOne c x f
  above low none x own begun within less (last (message b)) = absurd (none x.index f.instance within less (subst (λ i. IsSendTo c f.instance (at i x.index)) own b.sent))
  above low none x own begun within less (last (to_send q l s)) = absurd (not_both c q q0 f s received)
  above low none x own begun within less (last (same_sender q l a b)) = (q, a, b)
  above low none x own begun within less (first {d = d} (message b) rest) = absurd (none x.index d.instance within less (subst (λ i. IsSendTo c d.instance (at i x.index)) own b.sent))
  above low none x own begun within less (first {d = d} (to_send q l s) rest) = elim (cases_lt d.index f.index) [
    | inl over ↦ absurd (none d.index q (omega (arith, l.less)) over (subst (λ i. IsSendTo c q (at i d.index)) (sym l.line ∙ own) s))
    | inr under ↦ absurd (below d (sym l.line ∙ own) begun under rest)
  ]
  above low none x own begun within less (first {d = d} (same_sender q l a b) rest) = elim (cases_lt d.index f.index) [
    | inl over ↦
        let its = above low none d (sym l.line ∙ own) begun (omega (arith, l.less)) over rest in
        (its.0, subst (λ s. IsReceiveFrom c s x) (one_sender c q its.0 d b its.1) a, its.2)
    | inr under ↦ absurd (below d (sym l.line ∙ own) begun under rest)
  ]

-- so two receives of one coregion, of which the earlier is before the later, are from one instance
pub from_one_region : (c : Chart) → IsSound c → (e f : Place) (m n : Event) → chart_event c e ≡ Some m → chart_event c f ≡ Some n → (q : ℕ) → IsReceiveFrom c q f → is_in (region_of n) m ≡ true → IsEarlier e f → Before c e f → AreFromOne c e f
from_one_region c sound e f m n at_m at_n q received together earlier comes =
    let p = e.instance in
    let same : region_of m ≡ region_of n = region_of-in (region_of n) m together in
    let some : 0 < region_of m = in_some (region_of n) m together in
    let at_f : ith (c p) f.index ≡ Some n = ap (λ i. ith (c i) f.index) earlier.line ∙ at_n in
    above c p f (sym earlier.line) q received sound.no_cycle e.index
    (λ j to low high sends. by_place j to low high sends same some at_f)
    e refl (omega (arith, earlier.begun, earlier.less)) (omega arith) earlier.less (led comes)
  where
    in_some : (k : ℕ) (x : Event) → is_in k x ≡ true → 0 < region_of x
    in_some k x is = elim (cases_eq (region_of x) 0) [
      | inl zero_x ↦
          let zero_k : k ≡ 0 = sym (region_of-in k x is) ∙ zero_x in
          absurd (false≢true (sym (ap not (eq-eqb k 0 zero_k)) ∙ second_so (region_of x == k) (not (k == 0)) is))
      | inr differs ↦ omega (arith, differs)
    ]

    region_of_one : (x : Event) (to : ℕ) → is_send_to to x ≡ true → region_of x ≡ 0
    region_of_one (Send a b) to sends = refl
    region_of_one (Receive a b k) to fails = absurd (false≢true fails)

    by_place : (j to : ℕ) → e.index ≤ j → j < f.index → IsSendTo c to (at e.instance j) → region_of m ≡ region_of n → 0 < region_of m → ith (c e.instance) f.index ≡ Some n → ⊥
    by_place j to low high (x, at_x, sends) same some at_f = elim (cases_eq e.index j) [
      | inl at_e ↦ let one = same_Some x m (sym at_x ∙ ap (ith (c e.instance)) (sym at_e) ∙ at_m) in omega (arith, some, region_of_one x to sends, ap region_of one)
      | inr differs ↦
          let its = in_one_region (c e.instance) (sound.regions e.instance) e.index m at_m some f.index n at_f (sym same) j x (omega (arith, differs)) high at_x in
          omega (arith, some, region_of_one x to sends, its)
    ]
