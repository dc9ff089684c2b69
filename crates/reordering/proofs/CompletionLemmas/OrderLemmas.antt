-- The order if instances finish, in its closed form.
use Rattle.std.proofs.Common.{◌≡◌, ℕ, ◌<◌, ◌≤◌, ◌↔◌, ◌⊎◌, inl, inr, refl, sym, ap, ◌∙◌, subst, arith}
use Rattle.std.proofs.lemmas.Bool.{cases_lt, cases_eq}
use Rattle.chart.specs.Events.{is_receive_from}
use Rattle.chart.specs.Charts.{Chart, Place, at, IsSendTo, IsReceiveFrom, BelongsTo}
use Rattle.chart.specs.Order.{IsEarlier, Before}
use Rattle.chart.specs.Order.Direct.{to_send}
use Rattle.chart.specs.Order.Before.{direct, through}
use Rattle.chart.specs.Knowing.{IsUpTo, IsKnown}
use Rattle.chart.proofs.Tally.{ith_within}
use Rattle.chart.proofs.Belongs.{IsEarlier-trans, same_place, not_both}
use Rattle.chart.proofs.Chains.{chain_of, before_events, before_receive, before_its_receive, before_from_above}
use Rattle.chart.proofs.Existence.{send_or_receive}
use Rattle.chart.proofs.Reports.{before_in_line}
use Rattle.reordering.specs.Completion.Handling.{IsReceiveAt, IsSendAt, IsHandled}
use Rattle.reordering.specs.Completion.Orders.{Completed, IsFinished, IsFinishedUpTo}
use Rattle.reordering.specs.Completion.Orders.Completed.{direct as stepped, through as chained, finished as finishing}
use Rattle.reordering.proofs.CompletionLemmas.Deciding.{Decided, sorted, last_or_none}
use Rattle.reordering.proofs.CompletionLemmas.HandlingLemmas.{to_whom, never_both, decide_at, decide_receive, decide_handled, none_between, handled_sooner}
use Rattle.reordering.proofs.CompletionLemmas.Possible.{IsSound}

-- an event that is enforced before another is before it
pub part : {c : Chart} {e f : Place} → Before c e f → Completed c e f
part (direct step) = stepped step
part (through x y) = chained (part x) (part y)

-- a send that is finished before a receive is before it
pub finished_before : {c : Chart} {s r : Place} → IsFinished c s r → Completed c s r
finished_before is = finishing is.receive.0 is.handling.0 is.earlier is.receive.1 is.handling.1 (λ d handled. part (is.before d handled))

-- the closed form
abbrev pub Ends : Chart → Place → Place → Type 0
Ends c e f = Before c e f ⊎ ((s : Place) × IsFinished c s f × IsUpTo c s e)

pub from_ends : (c : Chart) (e f : Place) → Ends c e f → Completed c e f
from_ends c e f (inl before) = part before
from_ends c e f (inr (s, finished, inl same)) = subst (λ x. Completed c x f) (sym same) (finished_before finished)
from_ends c e f (inr (s, finished, inr before)) = chained (part before) (finished_before finished)

-- a send on a line is a send of the chart
pub sends_at : (c : Chart) (p s : ℕ) → IsSendAt (c p) s → (q : ℕ) × IsSendTo c q (at p s)
sends_at c p s (m, at_s, sends) = let q = to_whom m sends in (q.0, (m, at_s, q.1))

-- a finished send
pub finished_sends : {c : Chart} {s r : Place} → IsFinished c s r → (q : ℕ) × IsSendTo c q s
finished_sends {c = c} {s = s} is = sends_at c s.instance s.index is.handling.1.sent

-- an event that is s or before it is before any event that s is before
up_through : (c : Chart) (e s t : Place) → IsUpTo c s e → Before c s t → Before c e t
up_through c e s t (inl same) before = subst (λ x. Before c x t) (sym same) before
up_through c e s t (inr first) before = through first before

-- The steps of a chain in the closed form.

-- let an event of a line be before f. An earlier event of the line is then before f too, or f is a later receive of the
-- line
from_later : (c : Chart) → IsSound c → (s d f : Place) → IsEarlier s d → Before c d f → Before c s f ⊎ (IsEarlier d f × ((q : ℕ) × IsReceiveFrom c q f))
from_later c sound s d f earlier before = elim (send_or_receive c f (before_events before).1) [
  | inl sends ↦ inl (before_from_above c sends.0 f s d sends.1 earlier (inr before))
  | inr receive ↦
      let w = sound.knows receive.0 f receive.1 in
      elim (before_receive (chain_of before) w.0 w.1) [
        | inl v ↦ inr (v.0, receive)
        | inr up ↦ inl (before_its_receive c s w.0 f (inr (before_from_above c f.instance w.0 s d w.1.sent earlier up)) w.1)
      ]
]

-- an event before d, if d is enforced before f
then_before : (c : Chart) → IsSound c → (e d f : Place) → Ends c e d → Before c d f → Ends c e f
then_before c sound e d f (inl first) before = inl (through first before)
then_before c sound e d f (inr (s, finished, up)) before = elim (from_later c sound s d f finished.earlier before) [
  | inl enforced ↦ inl (up_through c e s f up enforced)
  | inr w ↦ inr (
    s,
    record {
      earlier = IsEarlier-trans s d f finished.earlier w.0;
      receive = w.1;
      handling = finished.handling;
      before = λ i handled. through (finished.before i handled) before;
    },
    up,
  )
]

-- an event before d, if d is a send that is finished before f, or is before such a send
then_finished : (c : Chart) → IsSound c → (e d f s : Place) → Ends c e d → IsFinished c s f → IsUpTo c s d → Ends c e f
then_finished c sound e d f s (inl first) finished up = inr (s, finished, inr (before_up up))
  where
    before_up : IsUpTo c s d → Before c e s
    before_up (inl same) = subst (λ x. Before c e x) same first
    before_up (inr before) = through first before
then_finished c sound e d f s (inr (t, own, up)) finished (inl same) =
    let sends = finished_sends finished in
    absurd (not_both c sends.0 own.receive.0 s sends.1 (subst (λ x. IsReceiveFrom c own.receive.0 x) same own.receive.1))
then_finished c sound e d f s (inr (t, own, up)) finished (inr before) = elim (from_later c sound t d s own.earlier before) [
  | inl enforced ↦ inr (s, finished, inr (up_through c e t s up enforced))
  | inr w ↦ let sends = finished_sends finished in absurd (not_both c sends.0 w.1.0 s sends.1 w.1.1)
]

pub then_ends : (c : Chart) → IsSound c → (e d f : Place) → Ends c e d → Ends c d f → Ends c e f
then_ends c sound e d f first (inl before) = then_before c sound e d f first before
then_ends c sound e d f first (inr (s, finished, up)) = then_finished c sound e d f s first finished up

module _ (c : Chart) (sound : IsSound c) where
  -- let t on the line of s be finished before r, and let a receive that s handles be before t: then s is before r in
  -- the closed form
  by_other : (p s t d q : ℕ) (r : Place) → IsEarlier (at p s) r → IsReceiveFrom c q r → IsHandled (c p) d s → IsFinished c (at p t) r → Before c (at p d) (at p t) → Ends c (at p s) r
  by_other p s t d q r earlier receive handled finished before = elim (cases_eq s t) [
    | inl same ↦ inr (at p t, finished, inl (ap (λ x. at p x) same))
    | inr differs ↦
        elim (cases_lt s t) [
          | inl above ↦ inr (at p t, finished, inr (direct (to_send to_t.0 (record { line = refl; begun = earlier.begun; less = above }) to_t.1)))
          | inr le ↦ inr (at p s, record { earlier = earlier; receive = (q, receive); handling = (d, handled); before = all (omega arith) }, inl refl)
        ]
  ]
    where
      sends : IsSendAt (c p) t
      sends = finished.handling.1.sent

      to_t : (x : ℕ) × IsSendTo c x (at p t)
      to_t = sends_at c p t sends

      begun : 1 ≤ t
      begun = finished.earlier.begun

      below : d < t
      below = elim (cases_lt d t) [
        | inl w ↦ w
        | inr le ↦
            elim (cases_eq d t) [
              | inl same ↦ absurd (never_both (c p) t (subst (λ x. IsReceiveAt (c p) x) same handled.received) sends)
              | inr differs ↦ absurd (sound.no_cycle (at p t, before_from_above c to_t.0 (at p t) (at p t) (at p d) to_t.1 (record { line = refl; begun = begun; less = omega arith }) (inr before)))
            ]
      ]

      all : t < s → (i : ℕ) → IsHandled (c p) i s → Before c (at p i) r
      all less i its = elim (cases_lt i t) [
        | inl w ↦ finished.before i (handled_sooner (c p) i s t its sends w (omega arith))
        | inr le ↦
            elim (cases_eq i t) [
              | inl same ↦ absurd (never_both (c p) t (subst (λ x. IsReceiveAt (c p) x) same its.received) sends)
              | inr differs ↦ absurd (none_between (c p) (sound.regions p) d i s t handled its.received below (omega arith) its.less sends)
            ]
      ]

  -- if all receives that a send handles are before r in the closed form, so is the send
  ends_finished : (p s q d : ℕ) (r : Place) → IsEarlier (at p s) r → IsReceiveFrom c q r → IsHandled (c p) d s → ((i : ℕ) → IsHandled (c p) i s → Ends c (at p i) r) → Ends c (at p s) r
  ends_finished p s q d r earlier receive handled all =
      elim (sorted (λ i. IsHandled (c p) i s) (λ i. Before c (at p i) r) (λ i. (t : Place) × IsFinished c t r × IsUpTo c t (at p i)) (λ i. decide_handled (c p) i s) all s) [
        | inl each ↦ inr (at p s, record { earlier = earlier; receive = (q, receive); handling = (d, handled); before = λ i its. each i its.less its }, inl refl)
        | inr w ↦ other w.0 w.1 w.2.0 w.2.1 w.2.2
      ]
    where
      other : (i : ℕ) → IsHandled (c p) i s → (t : Place) → IsFinished c t r → IsUpTo c t (at p i) → Ends c (at p s) r
      other i its t finished (inl same) =
          let sends = finished_sends finished in
          let w = its.received in
          absurd (not_both c sends.0 w.0 t sends.1 (subst (λ x. IsReceiveFrom c w.0 x) same (w.1, w.2, w.3)))
      other i its t finished (inr before) =
          let line : t ≡ at p t.index = same_place t (at p t.index) (finished.earlier.line ∙ sym earlier.line) refl in
          by_other p s t.index i q r earlier receive its (subst (λ x. IsFinished c x r) line finished) (subst (λ x. Before c (at p i) x) line before)

  pub to_ends : {e f : Place} → Completed c e f → Ends c e f
  to_ends (stepped step) = inl (direct step)
  to_ends (chained {e = e} {d = d} {f = f} x y) = then_ends c sound e d f (to_ends x) (to_ends y)
  to_ends (finishing {s = s} {r = r} q d earlier receive handled all) = ends_finished s.instance s.index q d r earlier receive handled (λ i its. to_ends (all i its))

  -- Along the line of a receive.
  module _ (p i k : ℕ) where
    pub own_line : IsFinishedUpTo c (at p i) k → (j : ℕ) → 1 ≤ j → j < i → Completed c (at p j) (at p i) ↔ (Before c (at p j) (at p i) ⊎ (j ≤ k))
    own_line up_to j begun less = (λ is. left (to_ends is), right)
      where
        within : (s : Place) → IsFinished c s (at p i) → IsUpTo c s (at p j) → j ≤ k
        within s finished up =
            let line : s ≡ at p s.index = same_place s (at p s.index) finished.earlier.line refl in
            let most = up_to.last s.index (subst (λ x. IsFinished c x (at p i)) line finished) in
            elim (cases_lt s.index j) [
              | inr le ↦ omega arith
              | inl above ↦
                  let sends = finished_sends finished in
                  absurd (sound.no_cycle (s, before_from_above c sends.0 s s (at p j) sends.1 (record { line = finished.earlier.line; begun = finished.earlier.begun; less = above }) up))
            ]

        left : Ends c (at p j) (at p i) → Before c (at p j) (at p i) ⊎ (j ≤ k)
        left (inl before) = inl before
        left (inr (s, finished, up)) = inr (within s finished up)

        right : Before c (at p j) (at p i) ⊎ (j ≤ k) → Completed c (at p j) (at p i)
        right (inl before) = part before
        right (inr le) = elim up_to.attained [
          | inl none ↦ absurd (omega arith)
          | inr finished ↦
              elim (cases_eq j k) [
                | inl same ↦ subst (λ x. Completed c (at p x) (at p i)) (sym same) (finished_before finished)
                | inr differs ↦ let sends = finished_sends finished in chained (stepped (to_send sends.0 (record { line = refl; begun = begun; less = omega arith }) sends.1)) (finished_before finished)
              ]
        ]

  -- whether an event is before a receive of its line is decided
  pub decide_before : (p i : ℕ) (s : Place) (k : ℕ) → BelongsTo c s (at p i) → IsKnown c s p k → (j : ℕ) → 1 ≤ j → j < i → Decided (Before c (at p j) (at p i))
  decide_before p i s k belongs known j begun less = let splits = before_in_line c s p i j k belongs known begun less in elim (decide_at (is_receive_from s.instance) (c p) j) [
    | inl from ↦ inl (splits.1 (inl from))
    | inr other ↦
        elim (cases_lt k j) [
          | inr le ↦ inl (splits.1 (inr le))
          | inl above ↦ inr (λ before. elim (splits.0 before) [ inl from ↦ other from | inr le ↦ omega arith ])
        ]
  ]

  -- whether a send is finished before it is decided too
  decide_finished : (p i q : ℕ) → IsReceiveFrom c q (at p i) → (s : ℕ) → Decided (IsFinished c (at p s) (at p i))
  decide_finished p i q receive s = elim (cases_lt s i) [
    | inr past ↦ inr (λ is. let l = is.earlier.less in omega arith)
    | inl less ↦
        elim (last_or_none (λ d. IsHandled (c p) d s) (λ d. decide_handled (c p) d s) s) [
          | inr none ↦ inr (λ is. none is.handling.0 is.handling.1.less is.handling.1)
          | inl w ↦ some less w.0 w.2
        ]
  ]
    where
      some : s < i → (d : ℕ) → IsHandled (c p) d s → Decided (IsFinished c (at p s) (at p i))
      some less d handled =
          let w = sound.knows q (at p i) receive in
          elim (sorted (λ x. IsHandled (c p) x s) (λ x. Before c (at p x) (at p i)) (λ x. Before c (at p x) (at p i) → ⊥) (λ x. decide_handled (c p) x s)
          (λ x its. let m = its.received in let l = its.less in decide_before p i w.0 w.2.0 w.1 w.2.1 x (ith_within (c p) x m.1 m.2).0 (omega arith)) s) [
            | inl all ↦ inl (record { earlier = record { line = refl; begun = omega (arith, handled.less); less = less }; receive = (q, receive); handling = (d, handled); before = λ x its. all x its.less its })
            | inr v ↦ inr (λ is. v.2 (is.before v.0 v.1))
          ]

  pub number_exists : (p i q : ℕ) → IsReceiveFrom c q (at p i) → (k : ℕ) × IsFinishedUpTo c (at p i) k
  number_exists p i q receive = elim (last_or_none (λ s. IsFinished c (at p s) (at p i)) (decide_finished p i q receive) i) [
    | inl w ↦ (w.0, record { attained = inr w.2; last = λ j is. w.3 j is.earlier.less is })
    | inr none ↦ (0, record { attained = inl refl; last = λ j is. absurd (none j is.earlier.less is) })
  ]

  pub number_of : (r : Place) → (k : ℕ) × IsFinishedUpTo c r k
  number_of r = elim (decide_receive (c r.instance) r.index) [
    | inl receive ↦ number_exists r.instance r.index receive.0 (receive.1, receive.2, receive.3)
    | inr none ↦ (0, record { attained = inl refl; last = λ j is. let w = is.receive in absurd (none (w.0, w.1.0, w.1.1, w.1.2)) })
  ]

  -- no event is before itself
  pub no_cycle : (e : Place) → Completed c e e → ⊥
  no_cycle e is = go (to_ends is)
    where
      go : Ends c e e → ⊥
      go (inl before) = sound.no_cycle (e, before)
      go (inr (s, finished, up)) = let sends = finished_sends finished in sound.no_cycle (s, before_from_above c sends.0 s s e sends.1 finished.earlier up)

pub same_number : (c : Chart) (r : Place) (k l : ℕ) → IsFinishedUpTo c r k → IsFinishedUpTo c r l → l ≡ k
same_number c r k l a b = let x = no_less k l a b in let y = no_less l k b a in omega arith
  where
    no_less : (m n : ℕ) → IsFinishedUpTo c r m → IsFinishedUpTo c r n → m ≤ n
    no_less m n u v = elim u.attained [ inl none ↦ omega arith | inr is ↦ v.last m is ]
