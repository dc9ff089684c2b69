-- A message that informs of an event makes no fault and no cycle, and where there is no such message there is none.
use Rattle.std.proofs.Common.{◌≡◌, ℕ, zero, suc, ◌+◌, ◌-◌, ◌<◌, ◌≤◌, ◌⊎◌, inl, inr, true, List, [], ◌∷◌, ◌++◌, length, take, Some, count_by, refl, sym, ap, ◌∙◌, subst, arith, add-one, length-take}
use Rattle.std.specs.Prelude.{slice_get}
use Rattle.std.specs.List.{insert}
use Rattle.std.proofs.lemmas.Bool.{cases_lt}
use Rattle.std.proofs.lemmas.Option.{none-some, same_Some}
use Rattle.chart.specs.declared.event.Event.{Event}
use Rattle.chart.specs.Events.{ith, tally, is_send_to, is_receive_from, name_of, region_of, is_in, send_event, receive_event, greatest_region, MayHaveRegion}
use Rattle.chart.specs.Charts.{Chart, Place, at, chart_event, IsSendTo, IsReceiveFrom, BelongsTo, HasNoSend, HasOtherName, IsPossible}
use Rattle.chart.specs.Order.{IsEarlier, Direct, Before, IsCyclic, region_of_event}
use Rattle.chart.specs.Order.Direct.{message, to_send, same_sender}
use Rattle.chart.specs.Order.Before.{direct, through}
use Rattle.chart.specs.Knowing.{IsUpTo}
use Rattle.chart.proofs.Tally.{Passes, ith_at, ith-take, tally-le, tally_cases, tally_reached, tally-le-count_by}
use Rattle.chart.proofs.Belongs.{same_place, not_both, one_sender, same_send, IsEvent-from_passes, IsEarlier-trans}
use Rattle.chart.proofs.Chains.{Chain, chain_of, before_events, before_receive, before_from_above}
use Rattle.chart.proofs.Chains.Chain.{only, then}
use Rattle.chart.proofs.Regions.{greatest_region-push, last_region-push}
use Rattle.chart.proofs.InRegions.{region_of-in, none_in}
use Rattle.chart.proofs.Growing.{HasSends}
use Rattle.closure.specs.Faults.{IsFaulty}
use Rattle.repair.specs.Messages.{NewMessage, IsWith, new_send, new_receive, keeping, moved, IsRace, EndsBehind, CanInform, informing}
use Rattle.repair.proofs.Lines.{ith-insert_at, ith-insert_above, take-insert_above, moved_below, moved_above}
use Rattle.repair.proofs.Moving.{keeping_sender, keeping_receiver, event_moved, send_moved, moved_receive, IsInTurn, turn_of, belongs_of, kept, before_moved}
use Rattle.repair.proofs.Paths.{IsInformed, IsHeard, up_up, one_of, was_before, no_cycle}
use Rattle.repair.proofs.Possible as possible

-- a step from a later event of a line
step_later : (c : Chart) (d e f : Place) → IsEarlier d e → Direct c e f → Before c d f ⊎ IsEarlier e f
step_later c d e f l (message b) = inl (through (direct (to_send f.instance l b.sent)) (direct (message b)))
step_later c d e f l (to_send q m s) = inl (direct (to_send q (IsEarlier-trans d e f l m) s))
step_later c d e f l (same_sender q m x y) = inr m

-- a receive that belongs to a send doesn't lack one
belongs_has : (d : Chart) (s r : Place) → BelongsTo d s r → HasNoSend d r → ⊥
belongs_has d s r b (q, from, fewer) =
    let on = one_sender d q s.instance r from b.received in
    let turn = b.turn in
    let less = subst (λ p. count_by (is_send_to r.instance) (d p) < tally (is_receive_from p) (d r.instance) r.index) on fewer in
    omega (arith, less, turn, tally-le-count_by (is_send_to r.instance) (d s.instance) s.index)

-- where it has its send's name it has no other
belongs_named : (d : Chart) (s r : Place) (x y : Event) → BelongsTo d s r → chart_event d s ≡ Some x → chart_event d r ≡ Some y → name_of x ≡ name_of y → HasOtherName d r → ⊥
belongs_named d s r x y b at_s at_r same (t, a, z, b2, at_t, at_r2, differs) =
    let one = same_send d t s r b2 b in
    let a_is = same_Some a x (sym at_t ∙ ap (chart_event d) one ∙ at_s) in
    let z_is = same_Some z y (sym at_r2 ∙ at_r) in
    differs (ap name_of a_is ∙ same ∙ sym (ap name_of z_is))

module _ (m : NewMessage) (c d : Chart) (w : IsWith m c d) (turn : IsInTurn m c d w) where
  -- no receive of the new chart lacks its send, or has another name
  faultless : HasSends c → ((r : Place) → HasOtherName c r → ⊥) → (r : Place) → IsFaulty d r → ⊥
  faultless sends names r (inl none) = by (one_of m c d w turn r (IsEvent-from_passes d (is_receive_from none.0) r none.1))
    where
      by : ((y : Place) × (1 ≤ y.index) × (r ≡ moved m c y)) ⊎ (r ≡ new_send m) ⊎ (r ≡ new_receive m) → ⊥
      by (inl (y, low, is)) =
          let from = moved_receive m c d w none.0 y (subst (IsReceiveFrom d none.0) is none.1) in
          let s = sends none.0 y from in
          belongs_has d (moved m c s.0) r (subst (BelongsTo d (moved m c s.0)) (sym is) (kept m c d w turn s.0 y s.1)) none
      by (inr (inl is)) = not_both d m.receiver none.0 r (subst (IsSendTo d m.receiver) (sym is) (belongs_of m c d w turn).sent) none.1
      by (inr (inr is)) = belongs_has d (new_send m) r (subst (BelongsTo d (new_send m)) (sym is) (belongs_of m c d w turn)) none
  faultless sends names r (inr other) = by (one_of m c d w turn r (IsEvent-from_passes d (is_receive_from other.0.instance) r other.3.received))
    where
      by : ((y : Place) × (1 ≤ y.index) × (r ≡ moved m c y)) ⊎ (r ≡ new_send m) ⊎ (r ≡ new_receive m) → ⊥
      by (inl (y, low, is)) =
          let from = moved_receive m c d w other.0.instance y (subst (IsReceiveFrom d other.0.instance) is other.3.received) in
          let s = sends other.0.instance y from in
          let b = subst (BelongsTo d (moved m c s.0)) (sym is) (kept m c d w turn s.0 y s.1) in
          let one = same_send d other.0 (moved m c s.0) r other.3 b in
          names y (
            s.0,
            other.1,
            other.2,
            s.1,
            sym (event_moved m c d w s.0) ∙ ap (chart_event d) (sym one) ∙ other.4,
            sym (event_moved m c d w y) ∙ ap (chart_event d) (sym is) ∙ other.5,
            other.6,
          )
      by (inr (inl is)) = not_both d m.receiver other.0.instance r (subst (IsSendTo d m.receiver) (sym is) (belongs_of m c d w turn).sent) other.3.received
      by (inr (inr is)) =
          belongs_named d (new_send m) r (send_event m.receiver m.name) (receive_event m.sender m.name m.region)
          (subst (BelongsTo d (new_send m)) (sym is) (belongs_of m c d w turn))
          (ap (λ l. ith l (m.sent + 1)) w.send ∙ ith-insert_at (c m.sender) m.sent _ w.sent_within)
          (ap (chart_event d) is ∙ ap (λ l. ith l (m.received + 1)) w.receive ∙ ith-insert_at (c m.receiver) m.received _ w.received_within)
          refl other

  -- the new send is behind each of its line's first events, and the new receive before each later send of its line
  informed_of : (i : ℕ) → 1 ≤ i → i ≤ m.sent → Before d (moved m c (at m.sender i)) (new_send m)
  informed_of i low high =
      let k = moved_below (keeping m c m.sender) i (omega (arith, high, keeping_sender m c)) in
      direct (to_send m.receiver (record { line = refl; begun = omega (arith, k, low); less = omega (arith, k, high) }) (belongs_of m c d w turn).sent)

  heard_by : (q : ℕ) (i : ℕ) → m.received < i → IsSendTo c q (at m.receiver i) → Before d (new_receive m) (moved m c (at m.receiver i))
  heard_by q i high sends =
      let k = moved_above (keeping m c m.receiver) i (omega (arith, high, keeping_receiver m c w.two)) in
      direct (to_send q (record { line = refl; begun = omega arith; less = omega (arith, k, high) }) (send_moved m c d w q (at m.receiver i) sends))

  -- so the first ones are before such a send
  pub informs : (q i j : ℕ) → 1 ≤ i → i ≤ m.sent → m.received < j → IsSendTo c q (at m.receiver j) → Before d (moved m c (at m.sender i)) (moved m c (at m.receiver j))
  informs q i j low high later sends = through (informed_of i low high) (through (direct (message (belongs_of m c d w turn))) (heard_by q j later sends))

-- one element more at the end of a list
insert_end : (xs : List Event) (y : Event) → insert xs (length xs) y ≡ xs ++ y ∷ []
insert_end [] y = refl
insert_end (x ∷ xs) y = ap (λ l. x ∷ l) (insert_end xs y)

-- no event has a greater coregion than the greatest
region_le : (xs : List Event) (i : ℕ) (x : Event) → ith xs i ≡ Some x → region_of x ≤ greatest_region xs
region_le xs zero x here = absurd (none-some x here)
region_le [] (suc i) x here = absurd (none-some x here)
region_le (y ∷ xs) (suc zero) x here = let e = ap region_of (same_Some y x here) in omega (arith, e)
region_le (y ∷ xs) (suc (suc i)) x here = let w = region_le xs (suc i) x here in omega (arith, w)

-- a coregion that goes on behind the first k events is cut by a send there
no_cut : (xs : List Event) (k i : ℕ) (x y : Event) (q : ℕ) (name : List ℕ) → k ≤ length xs → i ≤ k → ith xs i ≡ Some x → is_in (region_of x) y ≡ true
    → MayHaveRegion (take (k + 1) (insert xs k (send_event q name))) (region_of y) → ⊥
no_cut xs k i x y q name within high at_i inside may = by (subst (λ l. MayHaveRegion l (region_of y)) whole may)
  where
    front : List Event
    front = take k xs

    long : length (take k xs) ≡ k
    long = omega (arith, length-take k xs)

    whole : take (k + 1) (insert xs k (send_event q name)) ≡ take k xs ++ send_event q name ∷ []
    whole =
        ap (λ j. take j (insert xs k (send_event q name))) (add-one k)
        ∙ take-insert_above xs k (send_event q name) k within (omega arith)
        ∙ ap (λ j. insert (take k xs) j (send_event q name)) (sym long)
        ∙ insert_end (take k xs) (send_event q name)

    least : region_of x ≤ greatest_region (take k xs)
    least = region_le (take k xs) i x (ith-take k xs i high ∙ at_i)

    same : region_of y ≡ region_of x
    same = region_of-in (region_of x) y inside

    by : MayHaveRegion (take k xs ++ send_event q name ∷ []) (region_of y) → ⊥
    by (inl none) = none_in (region_of x) y none inside
    by (inr (inl next)) = omega (arith, next, greatest_region-push (take k xs) (send_event q name), least, same)
    by (inr (inr again)) = none_in (region_of x) y (again.2 ∙ last_region-push (take k xs) (send_event q name)) inside

-- of an event of a line and a later one, what the later is before: the earlier is before it too, or it is later on the
-- line
later_before : {c : Chart} {e f : Place} → Chain c e f → (d : Place) → IsEarlier d e → Before c d f ⊎ IsEarlier e f
later_before {c = c} {e = e} {f = f} (only s) d l = step_later c d e f l s
later_before {c = c} {e = e} {f = f} (then {d = m} x s) d l =
    elim (later_before x d l) [
      | inl before ↦ inl (through before (direct s))
      | inr later ↦ elim (step_later c d m f (IsEarlier-trans d e m l later) s) [ inl before ↦ inl before | inr more ↦ inr (IsEarlier-trans e m f later more) ]
    ]

-- no message behind the event was received before the send: else the pair would be enforced
pub none_unsent : (n : ℕ) (c : Chart) (e r s : Place) (k : ℕ) → IsPossible n c → IsRace c e r → BelongsTo c s r → EndsBehind (c e.instance) e.index k → tally (is_send_to s.instance) (c e.instance) k < tally (is_receive_from e.instance) (c s.instance) s.index → ⊥
none_unsent n c e r s k old race b ends fewer =
    let to = is_send_to s.instance in
    let from = is_receive_from e.instance in
    let v = tally_reached from (c s.instance) (tally to (c e.instance) k + 1) s.index (omega arith) (omega (arith, fewer)) in
    let received : Place = at s.instance v.0 in
    let other : v.0 ≡ s.index → ⊥ = λ same. not_both c r.instance e.instance s b.sent (subst (λ a. Passes from (c s.instance) a) same v.2) in
    let u = possible.has_sends n c old e.instance received v.2 in
    let on = one_sender c u.0.instance e.instance received u.1.received v.2 in
    let its = subst (λ p. BelongsTo c (at p u.0.index) received) on u.1 in
    let turns = its.turn in
    let later : k < u.0.index = elim (cases_lt k u.0.index) [ inl less ↦ less | inr le ↦ let low = tally-le to (c e.instance) u.0.index k le in absurd (omega (arith, low, turns, v.3)) ] in
    let has = ends.has in
    let begun = (IsEvent-from_passes c from received v.2).0 in
    race.free (
    through (direct (to_send s.instance (record { line = refl; begun = race.earlier.begun; less = omega (arith, later, has) }) its.sent))
    (through (direct (message its)) (through (direct (to_send r.instance (record { line = refl; begun = begun; less = omega (arith, v.1, other) }) b.sent)) (direct (message b))))
    )

-- Of a possible chart, an event of p's line, a later receive of it and its send on q's line, and a message more from p
-- to q with which the new chart is possible and the pair enforced.
module _ (n : ℕ) (c : Chart) (old : IsPossible n c) (m : NewMessage) (d : Chart) (w : IsWith m c d) (new : IsPossible n d) (mine : BelongsTo d (new_send m) (new_receive m)) (k i l j : ℕ)
    (race : IsRace c (at m.sender i) (at m.sender l)) (b : BelongsTo c (at m.receiver j) (at m.sender l)) (ends : EndsBehind (c m.sender) i k) where
  turn : IsInTurn m c d w
  turn = turn_of m c d w mine

  -- what p informs of has the event
  has_informed : IsInformed m c (at m.sender i) → i ≤ m.sent
  has_informed (a, low, high, inl same) = let e = ap (λ x. x.index) same in omega (arith, e, high)
  has_informed (a, low, high, inr before) = elim (cases_lt a i) [
    | inr le ↦ omega (arith, high, le)
    | inl less ↦
        elim (later_before (chain_of before) (at m.sender a) (record { line = refl; begun = low; less = less })) [
          | inl cycle ↦ absurd (possible.no_cycle n c old (at m.sender a, cycle))
          | inr later ↦ let more = later.less in absurd (omega (arith, more, less))
        ]
  ]

  -- and q hears of it before it sends
  has_heard : IsHeard m c (at m.sender l) → m.received < j
  has_heard (a, q, high, sends, inl same) = absurd (w.two (ap (λ x. x.instance) (sym same)))
  has_heard (a, q, high, sends, inr before) = elim (before_receive (chain_of before) (at m.receiver j) b) [
    | inl above ↦ absurd (w.two (sym above.0.line))
    | inr up ↦
        elim (cases_lt j a) [
          | inr le ↦ omega (arith, high, le)
          | inl less ↦ absurd (possible.no_cycle n c old (
            at m.receiver j,
            before_from_above c m.sender (at m.receiver j) (at m.receiver j) (at m.receiver a) b.sent
                (record { line = refl; begun = (IsEvent-from_passes c (is_send_to m.sender) (at m.receiver j) b.sent).0; less = less }) up,
          ))
        ]
  ]

  -- p sends it behind the event's coregion
  has_ended : i ≤ m.sent → k ≤ m.sent
  has_ended informed = elim (cases_lt m.sent k) [
    | inr le ↦ le
    | inl less ↦
        let within = ends.within in
        let x = ith_at (c m.sender) i race.earlier.begun (omega (arith, informed, less, within)) in
        let y = ith_at (c m.sender) (m.sent + 1) (omega arith) (omega (arith, less, within)) in
        let inside = subst (λ o. is_in (region_of_event o) y.0 ≡ true) x.1 (ends.inside (m.sent + 1) y.0 (omega (arith, informed)) (omega (arith, less)) y.1) in
        let there : slice_get (d m.sender) (m.sent + 1) ≡ Some y.0 =
        ap (λ xs. slice_get xs (m.sent + 1)) w.send
        ∙ sym (ap (ith (insert (c m.sender) m.sent (send_event m.receiver m.name))) (add-one (m.sent + 1)))
        ∙ ith-insert_above (c m.sender) m.sent (send_event m.receiver m.name) (m.sent + 1) w.sent_within (omega arith) ∙ y.1 in
        let may = possible.has_regions n d new m.sender (m.sent + 1) y.0 there in
        absurd (no_cut (c m.sender) m.sent i x.0 y.0 m.receiver m.name w.sent_within informed x.1 inside (subst (λ xs. MayHaveRegion (take (m.sent + 1) xs) (region_of y.0)) w.send may))
  ]

  -- the send of the receive is before none of what p informs of
  not_crossed : k ≤ m.sent → m.received < j → (a : ℕ) → a ≤ k → Before c (at m.receiver j) (at m.sender a) → ⊥
  not_crossed informed heard a high before =
      let low = (before_events before).1.0 in
      let back = informs m c d w turn m.sender a j low (omega (arith, high, informed)) heard b.sent in
      possible.no_cycle n d new (moved m c (at m.receiver j), through (before_moved m c d w turn before) back)

  -- and no message from p to q is on its way
  abbrev sends_to : ℕ → ℕ
  sends_to a = tally (is_send_to m.receiver) (c m.sender) a

  abbrev receives_to : ℕ → ℕ
  receives_to a = tally (is_receive_from m.sender) (c m.receiver) a

  none_later : sends_to k < receives_to j → ⊥
  none_later fewer = none_unsent n c (at m.sender i) (at m.sender l) (at m.receiver j) k old race b ends fewer

  can_inform_so : Before d (moved m c (at m.sender i)) (moved m c (at m.sender l)) → CanInform c m.sender k (at m.receiver j)
  can_inform_so before = elim (was_before m c d w turn (possible.has_sends n c old) (at m.sender i) (at m.sender l) before) [
    | inl was ↦ absurd (race.free was)
    | inr v ↦
        let informed = has_ended (has_informed v.0) in
        let heard = has_heard v.1 in
        record {
          uncrossed = not_crossed informed heard;
          in_turn =
              let a = tally-le (is_send_to m.receiver) (c m.sender) k m.sent informed in
              let e = tally-le (is_receive_from m.sender) (c m.receiver) m.received j (omega (arith, heard)) in
              elim (cases_lt (sends_to k) (receives_to j)) [ inl fewer ↦ absurd (none_later fewer) | inr le ↦ omega (arith, a, e, turn, le) ];
        }
  ]

-- so where a message more makes the pair enforced it can be informed of
pub can_inform : (n : ℕ) (c : Chart) (e r s : Place) (k : ℕ) → IsPossible n c → IsRace c e r → BelongsTo c s r → EndsBehind (c e.instance) e.index k → (m : NewMessage) (d : Chart) → m.sender ≡ e.instance → m.receiver ≡ s.instance → IsWith m c d → IsPossible n d
    → BelongsTo d (new_send m) (new_receive m) → Before d (moved m c e) (moved m c r) → CanInform c e.instance k s
can_inform n c e r s k old race b ends m d from to w new mine before =
    subst (λ (p : ℕ). (q : ℕ) → s.instance ≡ q → IsRace c (at p e.index) (at p r.index) → BelongsTo c (at q s.index) (at p r.index) → EndsBehind (c p) e.index k → Before d (moved m c (at p e.index)) (moved m c (at p r.index)) → CanInform c p k (at q s.index)) from at_sender
    s.instance refl
    (subst (λ x. IsRace c e x) r_is race) (subst (BelongsTo c s) r_is b) ends (subst (λ x. Before d (moved m c e) (moved m c x)) r_is before)
  where
    r_is : r ≡ at e.instance r.index
    r_is = same_place r (at e.instance r.index) (sym race.earlier.line) refl

    at_sender : (q : ℕ) → s.instance ≡ q → IsRace c (at m.sender e.index) (at m.sender r.index) → BelongsTo c (at q s.index) (at m.sender r.index) → EndsBehind (c m.sender) e.index k → Before d (moved m c (at m.sender e.index)) (moved m c (at m.sender r.index)) → CanInform c m.sender k (at q s.index)
    at_sender q is =
        subst (λ p. IsRace c (at m.sender e.index) (at m.sender r.index) → BelongsTo c (at p s.index) (at m.sender r.index) → EndsBehind (c m.sender) e.index k → Before d (moved m c (at m.sender e.index)) (moved m c (at m.sender r.index)) → CanInform c m.sender k (at p s.index)) (to ∙ is)
        (λ race b ends before. can_inform_so n c old m d w new mine k e.index r.index s.index race b ends before)

-- a send is no receive: up to it as many are received as before it
pub up_to_send : (c : Chart) (p q : ℕ) (s : Place) → IsSendTo c q s → 1 ≤ s.index → tally (is_receive_from p) (c s.instance) s.index ≡ tally (is_receive_from p) (c s.instance) (s.index - 1)
up_to_send c p q s sends low =
    let last : suc (s.index - 1) ≡ s.index = omega arith in
    elim (tally_cases (is_receive_from p) (c s.instance) (s.index - 1)) [
      | inl same ↦ ap (tally (is_receive_from p) (c s.instance)) (sym last) ∙ same
      | inr more ↦ absurd (not_both c q p s sends (subst (λ i. Passes (is_receive_from p) (c s.instance) i) last more.0))
    ]

-- Of a race of a possible chart of whose earlier event a message can inform, and the chart with this message.
module _ (n : ℕ) (c d : Chart) (e r s : Place) (k : ℕ) (name : List ℕ) (old : IsPossible n c) (race : IsRace c e r) (b : BelongsTo c s r) (ends : EndsBehind (c e.instance) e.index k) (can : CanInform c e.instance k s)
    (w : IsWith (informing e.instance k s name) c d) where
  low_send : 1 ≤ s.index
  low_send = (IsEvent-from_passes c (is_send_to r.instance) s b.sent).0

  pub informed_turn : IsInTurn (informing e.instance k s name) c d w
  informed_turn = can.in_turn ∙ up_to_send c e.instance r.instance s b.sent low_send

  -- what s is up to isn't informed of
  crosses_not : (x : Place) → IsInformed (informing e.instance k s name) c x → IsHeard (informing e.instance k s name) c x → ⊥
  crosses_not x (a, low, high, informed) (i, q, later, sends, heard) =
      let t = at s.instance i in
      let first = low_send in
      let up : IsUpTo c t s = elim (cases_lt s.index i) [
        | inl less ↦ inr (direct (to_send q (record { line = refl; begun = first; less = less }) sends))
        | inr le ↦ inl (same_place s t refl (omega (arith, later, le, first)))
      ] in
      elim (up_up c x (at e.instance a) s informed (up_up c t x s heard up)) [
        | inl same ↦ w.two (ap (λ z. z.instance) (sym same))
        | inr before ↦ can.uncrossed a high before
      ]

  pub no_fault_informed : (x : Place) → IsFaulty d x → ⊥
  no_fault_informed = faultless (informing e.instance k s name) c d w informed_turn (possible.has_sends n c old) (possible.has_names n c old)

  pub no_cycle_informed : IsCyclic d → ⊥
  no_cycle_informed = no_cycle (informing e.instance k s name) c d w informed_turn (possible.has_sends n c old) (possible.no_cycle n c old) crosses_not

  pub belongs_informed : BelongsTo d (new_send (informing e.instance k s name)) (new_receive (informing e.instance k s name))
  belongs_informed = belongs_of (informing e.instance k s name) c d w informed_turn

  pub before_informed : Before d (moved (informing e.instance k s name) c e) (moved (informing e.instance k s name) c r)
  before_informed =
      let first = low_send in
      through (informs (informing e.instance k s name) c d w informed_turn r.instance e.index s.index race.earlier.begun ends.has (omega (arith, first)) b.sent)
      (direct (message (kept (informing e.instance k s name) c d w informed_turn s r b)))
