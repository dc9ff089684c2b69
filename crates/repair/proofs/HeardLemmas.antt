-- What a send is before on another line, by the receives there.
use Rattle.std.proofs.Common.{◌≡◌, ◌≢◌, ℕ, ◌<◌, ◌≤◌, inl, inr, ◌↔◌, Bool, IsTrue, Result, Ok, Err, refl, sym, ◌∙◌, subst, arith}
use Rattle.std.specs.Prelude.{IfOk}
use Rattle.std.proofs.lemmas.Bool.{cases_lt, false≢true}
use Rattle.chart.specs.Events.{is_receive_from}
use Rattle.chart.specs.Charts.{Chart, Place, at, IsReceiveFrom, BelongsTo}
use Rattle.chart.specs.Order.{IsEarlier, Before}
use Rattle.chart.proofs.Belongs.{one_sender, same_send, earlier_send, IsEvent-from_passes}
use Rattle.chart.proofs.Chains.{chain_of, heard_from, before_its_receive, before_later_send}
use Rattle.repair.specs.Crossings.{HasNoneIn, IsLastIn, IsHeardAt, InformsHeard, IsHeardFrom, IsBeforeNone}

-- where no receive from q is among them, none is heard
pub none_heard : (c : Chart) (s : Place) (p low high q : ℕ) → HasNoneIn (is_receive_from q) (c p) low high → IsHeardFrom c s p low high q → ⊥
none_heard c s p low high q none (i, t, above, up, on, b, informed) =
    let from = subst (λ x. IsReceiveFrom c x (at p i)) on b.received in
    false≢true (sym (none i from.0 above up from.1) ∙ from.2)

-- what is heard at the last receive from q is heard, and nothing else
pub heard_last : (c : Chart) (s : Place) (p low high q l : ℕ) → IsLastIn (is_receive_from q) (c p) low high l → IsHeardAt c s (at p l) → IsHeardFrom c s p low high q
heard_last c s p low high q l last (t, b, informed) = (l, t, last.above, last.up_to, sender (b.received) (last.passes), b, informed)
  where
    sender : IsReceiveFrom c t.instance (at p l) → IsReceiveFrom c q (at p l) → t.instance ≡ q
    sender a e = one_sender c t.instance q (at p l) a e

pub last_heard : (c : Chart) (s : Place) (p low high q l : ℕ) (u : Place) → BelongsTo c u (at p l) → IsLastIn (is_receive_from q) (c p) low high l → IsHeardFrom c s p low high q → IsHeardAt c s (at p l)
last_heard c s p low high q l u mine last (i, t, above, up, on, b, informed) = elim (cases_lt i l) [
  | inl less ↦
      let sender = one_sender c u.instance q (at p l) mine.received last.passes in
      let from = subst (λ x. IsReceiveFrom c x (at p i)) (on ∙ sym sender) b.received in
      let begun = (IsEvent-from_passes c (is_receive_from t.instance) (at p i) b.received).0 in
      let sooner = earlier_send c u (at p l) (at p i) mine (record { line = refl; begun = begun; less = less }) from in
      let same = same_send c sooner.0 t (at p i) sooner.1 b in
      let earlier = subst (λ x. IsEarlier x u) same sooner.2 in
      (u, mine, inr (before_later_send c p s t u informed earlier mine.sent))
  | inr le ↦
      elim (cases_lt l i) [
        | inl past ↦
            let from = subst (λ x. IsReceiveFrom c x (at p i)) on b.received in
            absurd (false≢true (sym (last.last i from.0 past up from.1) ∙ from.2))
        | inr ge ↦
            let here : i ≡ l = omega arith in
            (t, subst (λ x. BelongsTo c t (at p x)) here b, informed)
      ]
]

-- a send that is before an event of another line was heard of there
pub heard_before : (c : Chart) (s : Place) (p low high i : ℕ) → p ≢ s.instance → IsBeforeNone c s p low → i ≤ high → Before c s (at p i) → (q : ℕ) × IsHeardFrom c s p low high q
heard_before c s p low high i other none up before =
    let w = heard_from (chain_of before) (λ same. other (sym same)) in
    let t = w.1 in
    let late : low < w.0 = elim (cases_lt low w.0) [ inl less ↦ less | inr le ↦ absurd (none w.0 le (before_its_receive c s t (at p w.0) w.4 w.3)) ] in
    (t.instance, (w.0, t, late, omega (arith, w.2, up), refl, w.3, w.4))

-- and what was heard of comes before
pub before_heard : (c : Chart) (s : Place) (p low high q : ℕ) → IsHeardFrom c s p low high q → (i : ℕ) × (i ≤ high) × Before c s (at p i)
before_heard c s p low high q (i, t, above, up, on, b, informed) = (i, up, before_its_receive c s t (at p i) informed b)

-- what was asked of the last receive from q holds for all of them
pub informs_from : (c : Chart) (s : Place) (p low high q l : ℕ) (heard : Bool) → IsLastIn (is_receive_from q) (c p) low high l → InformsHeard c s (at p l) heard → IsTrue heard ↔ IsHeardFrom c s p low high q
informs_from c s p low high q l heard last informs = (
  λ yes'. heard_last c s p low high q l last (informs.1.0 yes'),
  λ from. informs.1.1 (last_heard c s p low high q l informs.0.0 informs.0.1 last from),
)

-- a fact of what a call answered, of which another follows
pub if_ok : {A E : Type 0} (r : Result A E) (P Q : A → Type 0) → ((x : A) → P x → Q x) → IfOk r P → IfOk r Q
if_ok (Ok x) P Q so holds = so x holds
if_ok (Err e) P Q so holds = holds
