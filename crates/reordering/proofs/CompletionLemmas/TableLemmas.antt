-- The last send that handles only some receives, along a line.
use Rattle.std.proofs.Common.{◌≡◌, ℕ, suc, ◌<◌, ◌≤◌, ◌↔◌, inl, inr, true, not, ◌==◌, List, length, set, replicate, Some, refl, sym, ap, ◌∙◌, subst, arith}
use Rattle.std.specs.Prelude.{slice_index, All}
use Rattle.std.proofs.lemmas.Bool.{cases_lt, cases_eq, false≢true, or_right, or_left, and_from, not_from_false, false_from_ne_true, eq-eqb, eqb-true}
use Rattle.std.proofs.lemmas.Option.{same_Some, slice_get_within, get_or_from_slice_get}
use Rattle.std.proofs.lemmas.List.{length-set, get_or-set_same, get_or-set_other, get_or-replicate, length-replicate}
use Rattle.chart.specs.declared.event.Event.{Event}
use Rattle.chart.specs.declared.event.Event.TheVariants.{Send, Receive}
use Rattle.chart.specs.Events.{ith, partner_of, is_receive_from, is_in, region_of, HasRegionsInOrder}
use Rattle.chart.specs.Order.{region_of_event}
use Rattle.chart.specs.Runs.{IsRun, IsStartOfRun}
use Rattle.chart.proofs.Tally.{ith_within, ith_at}
use Rattle.chart.proofs.InRegions.{region_of-in, none_in}
use Rattle.reordering.specs.Completion.Handling.{is_send, may_follow, IsReceiveAt, IsSendAt, IsHandled}
use Rattle.reordering.specs.Completion.Tables.{IsRunEnd, IsFrom, HasOneSender, IsSettled, IsLastSettled, IsAmong, IsAmongFrom, HasPassed}
use Rattle.reordering.proofs.CompletionLemmas.HandlingLemmas.{never_both, in_one_region, later_handled, same_region}

-- an event with this coregion's number is in it
in_of : (x : ℕ) (m : Event) → region_of m ≡ x → 0 < x → is_in x m ≡ true
in_of x m is more = and_from (region_of m == x) (not (x == 0)) (eq-eqb (region_of m) x is) (not_from_false (x == 0) (false_from_ne_true (x == 0) (λ e. let z = eqb-true x 0 e in omega arith)))

-- an event in a coregion is a receive
in_receive : (line : List Event) (j x : ℕ) (m : Event) → ith line j ≡ Some m → is_in x m ≡ true → IsReceiveAt line j
in_receive line j x (Send to name) at_j inside = absurd (none_in x (Send to name) refl inside)
in_receive line j x (Receive from name region) at_j inside = (from, Receive from name region, at_j, eq-eqb from from refl)

-- the partner of an event of a line whose partners are among the first n instances
pub partner_short : (line : List Event) (n k : ℕ) (m : Event) → All (λ x. partner_of x ≤ n) line → ith line (suc k) ≡ Some m → partner_of m ≤ n
partner_short line n k m short at_k = subst (λ x. partner_of x ≤ n) (get_or_from_slice_get line k m m at_k) (short k m (slice_get_within line k m at_k))

-- an event that is no send is a receive
pub receive_at : (line : List Event) (j : ℕ) → 1 ≤ j → j ≤ length line → (IsSendAt line j → ⊥) → IsReceiveAt line j
receive_at line j low high other = let w = ith_at line j low high in go w.0 w.1
  where
    go : (m : Event) → ith line j ≡ Some m → IsReceiveAt line j
    go (Send to name) at_j = absurd (other (Send to name, at_j, refl))
    go (Receive from name region) at_j = (from, Receive from name region, at_j, eq-eqb from from refl)

-- a receive has one sender
pub one_sender : (line : List Event) (a b d : ℕ) → IsFrom line a d → IsFrom line b d → a ≡ b
one_sender line a b d (m, at_m, of_a) (n, at_n, of_b) = go n (subst (λ x. is_receive_from a x ≡ true) (same_Some m n (sym at_m ∙ at_n)) of_a) of_b
  where
    go : (x : Event) → is_receive_from a x ≡ true → is_receive_from b x ≡ true → a ≡ b
    go (Send to name) x_a x_b = absurd (false≢true x_a)
    go (Receive from name region) x_a x_b = sym (eqb-true from a x_a) ∙ eqb-true from b x_b

-- a last send is an event of the line, or 0
pub last_within : (P : ℕ → Type 0) (line : List Event) (k : ℕ) → IsLastSettled P line k → k ≤ length line
last_within P line k is = elim is.attained [
  | inl none ↦ omega arith
  | inr settled ↦ let s = settled.some.1.sent in (ith_within line k s.0 s.1).1
]

-- a last send stays the last for another fact, if the sends that are settled by it are settled by the old one
pub still_last : (P Q : ℕ → Type 0) (line : List Event) (k : ℕ) → ((d : ℕ) → P d → Q d) → ((s : ℕ) → IsSettled Q line s → (d : ℕ) → IsHandled line d s → P d) → IsLastSettled P line k → IsLastSettled Q line k
still_last P Q line k weaker back old = record {
  attained = elim old.attained [
    | inl none ↦ inl none
    | inr settled ↦ inr (record { some = settled.some; each = λ d handled. weaker d (settled.each d handled) })
  ];
  last = λ s settled. old.last s (record { some = settled.some; each = back s settled });
}

-- no send is settled by no events
pub none_settled : (P : ℕ → Type 0) (line : List Event) → ((d : ℕ) → P d → d ≤ 0) → IsLastSettled P line 0
none_settled P line none = record {
  attained = inl refl;
  last = λ s settled. let h = settled.some.1 in let m = h.received in let w = (ith_within line settled.some.0 m.1 m.2).0 in absurd (omega (arith, none settled.some.0 (settled.each settled.some.0 h)));
}

pub start_passed : (line : List Event) (n : ℕ) → HasPassed line 0 0 (replicate n 0)
start_passed line n = record {
  all = none_settled (IsAmong 0) line (λ d le. le);
  each = λ q within. subst (λ k. IsLastSettled (IsAmongFrom line (suc q) 0) line k) (sym (get_or-replicate n q 0 0 (omega (arith, within, length-replicate {A = ℕ} n 0)))) (none_settled (IsAmongFrom line (suc q) 0) line (λ d w. w.0));
}

module _ (line : List Event) (regions : HasRegionsInOrder line) where
  -- a send that handles only first events is in the run of sends directly after them, or above
  pub in_run : (n end s : ℕ) → IsRunEnd line n end → (d : ℕ) → IsHandled line d s → ((e : ℕ) → IsHandled line e s → e ≤ n) → s ≤ end
  in_run n end s run d handled among = elim (cases_lt end s) [
    | inr le ↦ le
    | inl above ↦
        let sent = handled.sent in
        let inside = ith_within line s sent.0 sent.1 in
        let le = among d handled in
        let least = run.least in
        let receive = receive_at line (suc end) (omega arith) (omega arith) run.whole in
        elim (cases_eq (suc end) s) [
          | inl same ↦ absurd (run.whole (subst (λ x. IsSendAt line x) (sym same) sent))
          | inr differs ↦ let past = among (suc end) (later_handled line regions d (suc end) s handled receive (omega arith) (omega arith)) in absurd (omega arith)
        ]
  ]

  -- a receive with a run of sends directly after it is handled by the last of these
  pub run_handled : (i end : ℕ) → IsRunEnd line i end → i < end → IsReceiveAt line i → IsHandled line i end
  run_handled i end run less receive = record {
    less = less;
    received = receive;
    sent = run.sends end less (omega arith);
    between = λ j m low high at_j.
        let s = run.sends j low (omega arith) in
        or_left (is_send m) (is_in (region_of_event (ith line i)) m) (subst (λ x. is_send x ≡ true) (same_Some s.0 m (sym s.1 ∙ at_j)) s.2);
  }

  -- this send handles only receives up to this one
  pub run_among : (i end : ℕ) → IsRunEnd line i end → i < end → (d : ℕ) → IsHandled line d end → d ≤ i
  run_among i end run less d handled = elim (cases_lt i d) [
    | inr le ↦ le
    | inl above ↦ absurd (never_both line d handled.received (run.sends d above (let l = handled.less in omega arith)))
  ]

  -- earlier receives of the coregion of a receive that is handled are handled
  pub sooner_handled : (d i s : ℕ) (a b : Event) → IsHandled line i s → ith line d ≡ Some a → ith line i ≡ Some b → IsReceiveAt line d → region_of a ≡ region_of b → 0 < region_of b → d < i → IsHandled line d s
  sooner_handled d i s a b handled at_d at_i receive same some less =
      let mine : region_of_event (ith line d) ≡ region_of_event (ith line i) = ap region_of_event at_d ∙ same ∙ sym (ap region_of_event at_i) in
      let region : region_of_event (ith line d) ≡ region_of b = ap region_of_event at_d ∙ same in
      record {
        less = (let l = handled.less in omega arith);
        received = receive;
        sent = handled.sent;
        between = λ j m low high at_j. elim (cases_lt i j) [
          | inl above ↦ subst (λ x. may_follow x m ≡ true) (sym mine) (handled.between j m above high at_j)
          | inr le ↦
              elim (cases_eq j i) [
                | inl last ↦
                    let this : b ≡ m = same_Some b m (sym at_i ∙ sym (ap (ith line) last) ∙ at_j) in
                    inside m (sym (ap region_of this) ∙ sym region) (omega arith)
                | inr differs ↦ inside m (in_one_region line regions d a at_d (omega arith) i b at_i (sym same) j m low (omega arith) at_j ∙ same ∙ sym region) (omega arith)
              ]
        ];
      }
    where
      inside : (m : Event) → region_of m ≡ region_of_event (ith line d) → 0 < region_of_event (ith line d) → may_follow (region_of_event (ith line d)) m ≡ true
      inside m is more = or_right (is_send m) (is_in (region_of_event (ith line d)) m) (in_of (region_of_event (ith line d)) m is more)

  -- One more event. A send handles no receive.
  pub send_passed : (n within : ℕ) (by_sender : List ℕ) → IsSendAt line (suc n) → HasPassed line n within by_sender → HasPassed line (suc n) within by_sender
  send_passed n within by_sender sent old = record {
    all = still_last (IsAmong n) (IsAmong (suc n)) line within (λ d le. omega arith) (λ s settled d handled. not_last d handled.received (settled.each d handled)) old.all;
    each = λ q less.
        still_last (IsAmongFrom line (suc q) n) (IsAmongFrom line (suc q) (suc n)) line (slice_index by_sender q) (λ d w. (omega (arith, w.0), w.1))
        (λ s settled d handled. let w = settled.each d handled in (not_last d handled.received w.0, w.1)) (old.each q less);
  }
    where
      not_last : (d : ℕ) → IsReceiveAt line d → d ≤ suc n → d ≤ n
      not_last d receive le = elim (cases_eq d (suc n)) [
        | inl same ↦ absurd (never_both line (suc n) (subst (λ x. IsReceiveAt line x) same receive) sent)
        | inr differs ↦ omega arith
      ]

  -- A receive without a send directly after it settles none.
  pub bare_passed : (n within : ℕ) (by_sender : List ℕ) → IsRunEnd line (suc n) (suc n) → HasPassed line n within by_sender → HasPassed line (suc n) within by_sender
  bare_passed n within by_sender run old = record {
    all = still_last (IsAmong n) (IsAmong (suc n)) line within (λ d le. omega arith) (λ s settled d handled. sooner s d handled settled.each) old.all;
    each = λ q less.
        still_last (IsAmongFrom line (suc q) n) (IsAmongFrom line (suc q) (suc n)) line (slice_index by_sender q) (λ d w. (omega (arith, w.0), w.1))
        (λ s settled d handled. (sooner s d handled (λ e its. (settled.each e its).0), (settled.each d handled).1)) (old.each q less);
  }
    where
      sooner : (s d : ℕ) → IsHandled line d s → ((e : ℕ) → IsHandled line e s → e ≤ suc n) → d ≤ n
      sooner s d handled among = let le = in_run (suc n) (suc n) s run d handled among in let l = handled.less in omega arith

  -- A receive with a run of sends settles them among all events.
  run_all : (n end : ℕ) → IsRunEnd line (suc n) end → suc n < end → IsReceiveAt line (suc n) → IsLastSettled (IsAmong (suc n)) line end
  run_all n end run less receive = record {
    attained = inr (record { some = (suc n, run_handled (suc n) end run less receive); each = run_among (suc n) end run less });
    last = λ s settled. in_run (suc n) end s run settled.some.0 settled.some.1 settled.each;
  }

  -- It settles them for its sender too, if its coregion has no other sender.
  run_from : (n q end : ℕ) → IsRunEnd line (suc n) end → suc n < end → IsFrom line q (suc n) → HasOneSender line (suc n) → IsLastSettled (IsAmongFrom line q (suc n)) line end
  run_from n q end run less (b, at_b, from) one = record {
    attained = inr (record { some = (suc n, run_handled (suc n) end run less (q, b, at_b, from)); each = λ d handled. (run_among (suc n) end run less d handled, its_sender d handled) });
    last = λ s settled. in_run (suc n) end s run settled.some.0 settled.some.1 (λ e its. (settled.each e its).0);
  }
    where
      its_sender : (d : ℕ) → IsHandled line d end → IsFrom line q d
      its_sender d handled = elim (cases_eq d (suc n)) [
        | inl same ↦ subst (λ x. IsFrom line q x) (sym same) (b, at_b, from)
        | inr differs ↦
            let le = run_among (suc n) end run less d handled in
            let m = handled.received in
            let w = same_region line regions d (suc n) end m.1 b handled m.2 at_b (q, b, at_b, from) (omega arith) less in
            let region : region_of m.1 ≡ region_of_event (ith line (suc n)) = sym w.0 ∙ sym (ap region_of_event at_b) in
            (m.1, m.2, one q (b, at_b, from) d m.1 (omega arith) m.2 (in_of (region_of_event (ith line (suc n))) m.1 region (omega (arith, region, w.1))))
      ]

  -- For another sender, or if its coregion has another one, it settles none.
  kept_from : (n q k : ℕ) → (IsFrom line q (suc n) → HasOneSender line (suc n) → ⊥) → IsLastSettled (IsAmongFrom line q n) line k → IsLastSettled (IsAmongFrom line q (suc n)) line k
  kept_from n q k other old =
      still_last (IsAmongFrom line q n) (IsAmongFrom line q (suc n)) line k (λ d w. (omega (arith, w.0), w.1)) (λ s settled d handled. let w = settled.each d handled in (sooner s settled d handled w.0, w.1)) old
    where
      sooner : (s : ℕ) → IsSettled (IsAmongFrom line q (suc n)) line s → (d : ℕ) → IsHandled line d s → d ≤ suc n → d ≤ n
      sooner s settled d handled le = elim (cases_eq d (suc n)) [
        | inr differs ↦ omega arith
        | inl same ↦
            let its : IsHandled line (suc n) s = subst (λ x. IsHandled line x s) same handled in
            let from = (settled.each (suc n) its).1 in
            absurd (other from (λ a from_a e m less at_e inside. of_one its settled from a from_a e m less at_e inside))
      ]
        where
          of_one : IsHandled line (suc n) s → IsSettled (IsAmongFrom line q (suc n)) line s → IsFrom line q (suc n) → (a : ℕ) → IsFrom line a (suc n) → (e : ℕ) (m : Event) → e < suc n → ith line e ≡ Some m → is_in (region_of_event (ith line (suc n))) m ≡ true → is_receive_from a m ≡ true
          of_one its settled (b, at_b, from) a from_a e m less at_e inside =
              let region : region_of m ≡ region_of b = region_of-in (region_of_event (ith line (suc n))) m inside ∙ ap region_of_event at_b in
              let some : 0 < region_of b = elim (cases_eq (region_of m) 0) [ inl none ↦ absurd (none_in (region_of_event (ith line (suc n))) m none inside) | inr more ↦ omega arith ] in
              let handled_e = sooner_handled e (suc n) s m b its at_e at_b (in_receive line e (region_of_event (ith line (suc n))) m at_e inside) region some less in
              let w = (settled.each e handled_e).1 in
              let sender = one_sender line q a (suc n) (b, at_b, from) from_a in
              subst (λ x. is_receive_from x m ≡ true) sender (subst (λ x. is_receive_from q x ≡ true) (same_Some w.0 m (sym w.1 ∙ at_e)) w.2)

  -- whether the coregion has another sender, from the starts of both runs that end with the receive
  pub one_sender_is : (i run start : ℕ) → IsReceiveAt line i → IsStartOfRun is_receive_from line i run → IsStartOfRun is_in line i start → (region_of_event (ith line i) ≡ 0 → ⊥) → (run ≤ start) ↔ HasOneSender line i
  one_sender_is i run start (q, b, at_b, from) senders coregion some = (left, right)
    where
      g : ℕ
      g = region_of_event (ith line i)

      its : region_of b ≡ g
      its = sym (ap region_of_event at_b)

      more : 0 < g
      more = elim (cases_eq g 0) [ inl none ↦ absurd (some none) | inr other ↦ omega arith ]

      coregion_run : IsRun (is_in g) line start i
      coregion_run = coregion.run g b at_b (in_of g b its more)

      left : run ≤ start → HasOneSender line i
      left le a from_a d m less at_d inside = elim (cases_lt start d) [
        | inl above ↦ (senders.run a b at_b (subst (λ x. is_receive_from x b ≡ true) (one_sender line q a i (b, at_b, from) from_a) from)).passes d m (omega arith) (omega arith) at_d
        | inr not_above ↦
            let mine : region_of m ≡ g = region_of-in g m inside in
            elim (cases_eq d start) [
              | inl same ↦ absurd (false≢true (sym (coregion_run.whole m (ap (ith line) (sym same) ∙ at_d)) ∙ inside))
              | inr differs ↦
                  let low = (ith_within line d m at_d).0 in
                  let high = (ith_within line i b at_b).1 in
                  let short = coregion.less in
                  let n = ith_at line start (omega arith) (omega arith) in
                  let region = in_one_region line regions d m at_d (omega (arith, mine, more)) i b at_b (its ∙ sym mine) start n.0 (omega arith) short n.1 in
                  absurd (false≢true (sym (coregion_run.whole n.0 n.1) ∙ in_of g n.0 (region ∙ mine) more))
            ]
      ]

      right : HasOneSender line i → run ≤ start
      right one = elim (cases_lt start run) [
        | inr le ↦ le
        | inl above ↦
            let high = (ith_within line i b at_b).1 in
            let short = senders.less in
            let n = ith_at line run (omega arith) (omega arith) in
            let inside = coregion_run.passes run n.0 above (omega arith) n.1 in
            absurd (false≢true (sym ((senders.run q b at_b from).whole n.0 n.1) ∙ one q (b, at_b, from) run n.0 short n.1 inside))
      ]

  pub mixed_passed : (n within end : ℕ) (by_sender : List ℕ) → IsRunEnd line (suc n) end → suc n < end → IsReceiveAt line (suc n) → (HasOneSender line (suc n) → ⊥) → HasPassed line n within by_sender → HasPassed line (suc n) end by_sender
  mixed_passed n within end by_sender run less receive several old = record {
    all = run_all n end run less receive;
    each = λ q inside. kept_from n (suc q) (slice_index by_sender q) (λ from one. several one) (old.each q inside);
  }

  pub run_passed : (n within end p : ℕ) (by_sender : List ℕ) → IsRunEnd line (suc n) end → suc n < end → IsFrom line (suc p) (suc n) → p < length by_sender → HasOneSender line (suc n) → HasPassed line n within by_sender → HasPassed line (suc n) end (set by_sender p end)
  run_passed n within end p by_sender run less from there one old = record {
    all = run_all n end run less (suc p, from.0, from.1, from.2);
    each = λ q inside. elim (cases_eq q p) [
      | inl same ↦
          subst (λ x. IsLastSettled (IsAmongFrom line (suc x) (suc n)) line (slice_index (set by_sender p end) x)) (sym same)
          (subst (λ k. IsLastSettled (IsAmongFrom line (suc p) (suc n)) line k) (sym (get_or-set_same by_sender p end 0 there)) (run_from n (suc p) end run less from one))
      | inr differs ↦
          subst (λ k. IsLastSettled (IsAmongFrom line (suc q) (suc n)) line k) (sym (get_or-set_other by_sender p q end 0 differs))
          (kept_from n (suc q) (slice_index by_sender q) (λ its one. let same = one_sender line (suc q) (suc p) (suc n) its from in differs (omega arith)) (old.each q (omega (arith, inside, length-set by_sender p end))))
    ];
  }
