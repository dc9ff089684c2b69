-- What loops over the events of a line have found at their end.
use Rattle.std.proofs.Common.{◌≡◌, ℕ, ◌+◌, ◌-◌, ◌<◌, ◌≤◌, true, false, List, length, get_or, Some, sym, ap, ◌∙◌, subst, arith, add-one}
use Rattle.std.proofs.lemmas.Option.{same_Some}
use Rattle.chart.specs.declared.event.Event.{Event}
use Rattle.chart.specs.Events.{ith, tally, is_send_to, is_in, region_of}
use Rattle.chart.specs.Order.{region_of_event}
use Rattle.chart.specs.Places.{IsSendAfter}
use Rattle.chart.proofs.Tally.{ith_within}
use Rattle.closure.proofs.ReadLemmas.{ith_read}
use Rattle.closure.proofs.LinkLemmas.{tally_pass}
use Rattle.repair.specs.Messages.{EndsBehind}

-- the event that was read behind the first k ones
pub ith_next : (line : List Event) (k : ℕ) (x : Event) → k < length line → x ≡ get_or line k x → ith line (k + 1) ≡ Some x
ith_next line k x within is = ith_read line (k + 1) x (omega arith) (omega arith) (subst (λ i. x ≡ get_or line i x) (let e : k ≡ k + 1 - 1 = omega arith in e) is)

-- a coregion ends where the next event isn't in it
pub ends_behind : (line : List Event) (index k region : ℕ) (x : Event) → 1 ≤ index → index ≤ length line → x ≡ get_or line (index - 1) x → region ≡ region_of x → index ≤ k → k ≤ length line
    → ((i : ℕ) (m : Event) → index < i → i ≤ k → ith line i ≡ Some m → is_in region m ≡ true) → ((m : Event) → ith line (k + 1) ≡ Some m → is_in region m ≡ false) → EndsBehind line index k
ends_behind line index k region x low high read its has within inside ends =
    let here = ap region_of_event (ith_read line index x low high read) in
    let same : region_of_event (ith line index) ≡ region = here ∙ sym its in
    record {
      has = has;
      within = within;
      inside = λ i m above up at_i. subst (λ r. is_in r m ≡ true) (sym same) (inside i m above up at_i);
      ends = λ m at_k. subst (λ r. is_in r m ≡ false) (sym same) (ends m at_k);
    }

-- the next event isn't there, or isn't in it
pub ends_full : (line : List Event) (k region : ℕ) → length line ≤ k → (m : Event) → ith line (k + 1) ≡ Some m → is_in region m ≡ false
ends_full line k region full m here = let w = ith_within line (k + 1) m here in absurd (omega (arith, w.1))

pub ends_other : (line : List Event) (k region : ℕ) (x : Event) → k < length line → x ≡ get_or line k x → is_in region x ≡ false → (m : Event) → ith line (k + 1) ≡ Some m → is_in region m ≡ false
ends_other line k region x within read out m here =
    let same = same_Some x m (sym (ith_next line k x within read) ∙ here) in
    subst (λ y. is_in region y ≡ false) same out

-- the next send has as many earlier ones as were passed
pub send_next : (line : List Event) (q k : ℕ) (x : Event) → k < length line → x ≡ get_or line k x → is_send_to q x ≡ true → IsSendAfter line q (tally (is_send_to q) line k) (k + 1)
send_next line q k x within read sends =
    let here = ith_next line k x within read in
    ((x, here, sends), ap (tally (is_send_to q) line) (add-one k) ∙ tally_pass (is_send_to q) line k (x, sym (ap (ith line) (add-one k)) ∙ here, sends))
