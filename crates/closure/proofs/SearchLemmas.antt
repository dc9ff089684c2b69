-- What a search keeps, and what it has found when all events were seen.
use Rattle.std.proofs.Common.{◌≡◌, ℕ, zero, suc, ◌+◌, ◌<◌, ◌≤◌, ◌⊎◌, inl, inr, max, List, length, set, replicate, refl, sym, ap, ◌∙◌, subst, arith}
use Rattle.std.specs.Prelude.{slice_index}
use Rattle.std.proofs.lemmas.Bool.{cases_lt, cases_eq}
use Rattle.std.proofs.lemmas.List.{length-set, set-set, set-get_or, get_or-set_same, get_or-replicate, get_or_past, length-replicate}
use Rattle.chart.specs.Events.{is_send_to, is_receive_from}
use Rattle.chart.specs.Charts.{Chart, Place, at, LineView, IsSendTo, BelongsTo, chart_lines}
use Rattle.chart.specs.Order.{IsEarlier, Direct, Before}
use Rattle.chart.specs.Order.Direct.{message, to_send, same_sender}
use Rattle.chart.specs.Order.Before.{direct, through}
use Rattle.chart.specs.Knowing.{IsUpTo}
use Rattle.chart.proofs.Belongs.{IsEvent-from_passes, same_place, not_both, same_send}
use Rattle.chart.proofs.Chains.{before_later_send}
use Rattle.chart.proofs.Knowledge.{up_to_event}
use Rattle.closure.specs.Rows.{entry}
use Rattle.closure.specs.Searches.{IsSend, IsReached, IsSearch, AreSeen, HaveGrown}
use Rattle.closure.proofs.ReadLemmas.{instance_within}
use Rattle.closure.proofs.RunLemmas.{entry-raised}

-- zeros have 0 for each instance
pub entry-zeros : (m p : ℕ) → entry (replicate m 0) p ≡ 0
entry-zeros m zero = refl
entry-zeros m (suc p) =
    elim (cases_lt p m) [
      | inl within ↦ get_or-replicate m p 0 0 within
      | inr past ↦ get_or_past (replicate m 0) p 0 (rw length-replicate past)
    ]

-- an instance past the end has 0
entry-past : (xs : List ℕ) (p : ℕ) → length xs ≤ p → entry xs (suc p) ≡ 0
entry-past xs p past = get_or_past xs p 0 past

-- a search that has reached nothing is one for each send
pub IsSearch-none : (c : Chart) (n : ℕ) (s : Place) → IsSearch c n s (replicate n 0) (replicate n 0)
IsSearch-none c n s = record {
  fronts_whole = length-replicate n 0;
  seen_whole = length-replicate n 0;
  sound = λ p. inl (entry-zeros n p);
  behind = λ p. omega arith;
  followed = λ t r belongs seen. let event = IsEvent-from_passes c (is_receive_from t.instance) r belongs.received in absurd (omega (arith, event.0, seen, entry-zeros n r.instance));
}

-- it can go on for a later send of the line
pub IsSearch-later : (c : Chart) (n : ℕ) (t s : Place) (fronts seen : List ℕ) → IsEarlier t s → IsSend c s → IsSearch c n t fronts seen → IsSearch c n s fronts seen
IsSearch-later c n t s fronts seen earlier sends old = record {
  fronts_whole = old.fronts_whole;
  seen_whole = old.seen_whole;
  sound = λ p. elim (old.sound p) [
    | inl none ↦ inl none
    | inr w ↦ inr (w.0, inr (before_later_send c sends.0 (at p (entry fronts p)) t s w.1 earlier sends.1))
  ];
  behind = old.behind;
  followed = old.followed;
}

-- a line's front after it was raised
pub raised-same : (xs : List ℕ) (q j : ℕ) → q < length xs → entry (set xs q (max (slice_index xs q) j)) (suc q) ≡ max (slice_index xs q) j
raised-same xs q j within = get_or-set_same xs q (max (slice_index xs q) j) 0 within

-- fronts that are raised have grown
pub HaveGrown-raised : (xs : List ℕ) (q j : ℕ) → q < length xs → HaveGrown xs (set xs q (max (slice_index xs q) j))
HaveGrown-raised xs q j within p =
    elim (cases_eq p (suc q)) [
      | inl e ↦ subst (λ x. entry xs x ≤ entry (set xs q (max (slice_index xs q) j)) x) (sym e) (let new = raised-same xs q j within in omega (arith, new))
      | inr differs ↦ let old = entry-raised xs q (max (slice_index xs q) j) p differs in omega (arith, old)
    ]

-- the front of a line is 0, or a send that is s or before it
abbrev IsSound : Chart → Place → List ℕ → ℕ → Type 0
IsSound c s xs p = (entry xs p ≡ 0) ⊎ (IsSend c (at p (entry xs p)) × IsUpTo c s (at p (entry xs p)))

-- a send that is s or before it is reached
pub IsSearch-raised : (c : Chart) (n : ℕ) (s : Place) (fronts seen : List ℕ) (q j : ℕ) → q < n → IsSend c (at (suc q) j) → IsUpTo c s (at (suc q) j) → IsSearch c n s fronts seen → IsSearch c n s (set fronts q (max (slice_index fronts q) j)) seen
IsSearch-raised c n s fronts seen q j q_in sends up old =
    let within : q < length fronts = rw old.fronts_whole q_in in
    let more = HaveGrown-raised fronts q j within in
    record {
      fronts_whole = length-set fronts q (max (slice_index fronts q) j) ∙ old.fronts_whole;
      seen_whole = old.seen_whole;
      sound = λ p. elim (cases_eq p (suc q)) [
        | inl e ↦ subst (λ x. IsSound c s (set fronts q (max (slice_index fronts q) j)) x) (sym e) (at_front within)
        | inr differs ↦ subst (λ k. (k ≡ 0) ⊎ (IsSend c (at p k) × IsUpTo c s (at p k))) (sym (entry-raised fronts q (max (slice_index fronts q) j) p differs)) (old.sound p)
      ];
      behind = λ p. let a = old.behind p in let b = more p in omega arith;
      followed = λ t r belongs seen_r. let a = old.followed t r belongs seen_r in let b = more t.instance in omega arith;
    }
  where
    at_front : q < length fronts → IsSound c s (set fronts q (max (slice_index fronts q) j)) (suc q)
    at_front within =
        elim (cases_lt (slice_index fronts q) j) [
          | inl higher ↦
              let e : j ≡ entry (set fronts q (max (slice_index fronts q) j)) (suc q) = let new = raised-same fronts q j within in omega (arith, new) in
              inr (subst (λ k. IsSend c (at (suc q) k)) e sends, subst (λ k. IsUpTo c s (at (suc q) k)) e up)
          | inr enough ↦
              let e : entry fronts (suc q) ≡ entry (set fronts q (max (slice_index fronts q) j)) (suc q) = let new = raised-same fronts q j within in omega (arith, new) in
              subst (λ k. (k ≡ 0) ⊎ (IsSend c (at (suc q) k) × IsUpTo c s (at (suc q) k))) e (old.sound (suc q))
        ]

-- the next event of a line is seen
module _ (c : Chart) (n : ℕ) (s : Place) (fronts seen : List ℕ) (p : ℕ) (p_in : p < n) (pending : slice_index seen p < slice_index fronts p) (old : IsSearch c n s fronts seen) where
  abbrev k : ℕ
  k = slice_index seen p

  -- it is its own line's number that grows
  seen-next : (r : ℕ) → r ≡ suc p → entry (set seen p (k + 1)) r ≡ k + 1
  seen-next r e = ap (entry (set seen p (k + 1))) e ∙ get_or-set_same seen p (k + 1) 0 (rw old.seen_whole p_in)

  -- if the event's send is within the fronts
  IsSearch-seen : ((t : Place) → BelongsTo c t (at (suc p) (suc k)) → t.index ≤ entry fronts t.instance) → IsSearch c n s fronts (set seen p (k + 1))
  IsSearch-seen its_send = record {
    fronts_whole = old.fronts_whole;
    seen_whole = length-set seen p (k + 1) ∙ old.seen_whole;
    sound = old.sound;
    behind = λ r. elim (cases_eq r (suc p)) [
      | inl e ↦ subst (λ x. entry (set seen p (k + 1)) x ≤ entry fronts x) (sym e) (let new = seen-next (suc p) refl in omega (arith, new))
      | inr differs ↦ let same = entry-raised seen p (k + 1) r differs in let was = old.behind r in omega (arith, same)
    ];
    followed = λ t r belongs seen_r. elim (cases_eq r.instance (suc p)) [
      | inl e ↦
          let new = seen-next r.instance e in
          elim (cases_eq r.index (suc k)) [
            | inl last ↦ its_send t (subst (BelongsTo c t) (same_place r (at (suc p) (suc k)) e last) belongs)
            | inr earlier ↦ old.followed t r belongs (subst (λ x. r.index ≤ entry seen x) (sym e) (omega (arith, new)))
          ]
      | inr differs ↦ let same = entry-raised seen p (k + 1) r.instance differs in old.followed t r belongs (omega (arith, same))
    ];
  }

  -- a send has no send of its own
  pub IsSearch-send : (q : ℕ) → IsSendTo c q (at (suc p) (suc k)) → IsSearch c n s fronts (set seen p (k + 1))
  IsSearch-send q sends = IsSearch-seen (λ t belongs. absurd (not_both c q t.instance (at (suc p) (suc k)) sends belongs.received))

  -- the send of a receive that was reached is s or before it
  send_up_to : (t : Place) → BelongsTo c t (at (suc p) (suc k)) → IsUpTo c s t
  send_up_to t belongs =
      elim (old.sound (suc p)) [
        | inl none ↦ absurd (omega arith)
        | inr w ↦ inr (
            let front : Before c t (at (suc p) (entry fronts (suc p))) = elim (cases_eq (suc k) (entry fronts (suc p))) [
              | inl e ↦ direct (message (subst (λ x. BelongsTo c t (at (suc p) x)) e belongs))
              | inr differs ↦ through (direct (message belongs)) (direct (to_send w.0.0 (record { line = refl; begun = omega arith; less = omega arith }) w.0.1))
            ] in
            elim w.1 [ inl same ↦ subst (Before c t) same front | inr before ↦ through front before ])
      ]

-- the send of a receive is reached then
pub IsSearch-receive : (c : Chart) (n : ℕ) (s : Place) (fronts seen : List ℕ) (p q j : ℕ) → p < n → q < n → slice_index seen p < slice_index fronts p → BelongsTo c (at (suc q) j) (at (suc p) (suc (slice_index seen p))) → IsSearch c n s fronts seen
    → IsSearch c n s (set fronts q (max (slice_index fronts q) j)) (set seen p (slice_index seen p + 1))
IsSearch-receive c n s fronts seen p q j p_in q_in pending belongs old =
    let within : q < length fronts = rw old.fronts_whole q_in in
    let more = HaveGrown-raised fronts q j within in
    let up = send_up_to c n s fronts seen p p_in pending old (at (suc q) j) belongs in
    let raised = IsSearch-raised c n s fronts seen q j q_in (suc p, belongs.sent) up old in
    IsSearch-seen c n s (set fronts q (max (slice_index fronts q) j)) seen p p_in (let grown = more (suc p) in omega (arith, grown)) raised
    (λ t is. let same = same_send c (at (suc q) j) t (at (suc p) (suc (slice_index seen p))) belongs is in
    subst (λ (x : Place). x.index ≤ entry (set fronts q (max (slice_index fronts q) j)) x.instance) same (let new = raised-same fronts q j within in omega (arith, new)))

-- events of the line at p were followed: no front became smaller, and the seen events of the other lines are the same;
-- the search can go on for any send that it was for
pub record IsFollowed (lines : List LineView) (p : ℕ) (fronts seen after now : List ℕ) : Type 0 where
  pub whole : length after ≡ length lines
  pub others : now ≡ set seen p (slice_index now p)
  pub grown : HaveGrown fronts after
  pub kept : (s : Place) → IsSearch (chart_lines lines) (length lines) s fronts seen → IsSearch (chart_lines lines) (length lines) s after now

pub IsFollowed-none : (lines : List LineView) (p : ℕ) (fronts seen : List ℕ) → length fronts ≡ length lines → IsFollowed lines p fronts seen fronts seen
IsFollowed-none lines p fronts seen whole = record {
  whole = whole;
  others = sym (set-get_or seen p 0);
  grown = λ q. omega arith;
  kept = λ s old. old;
}

-- one more event
pub IsFollowed-next : (lines : List LineView) (p : ℕ) (fronts seen after now later new : List ℕ) → p < length seen → IsFollowed lines p fronts seen after now
    → length later ≡ length lines → new ≡ set now p (slice_index now p + 1) → HaveGrown after later
    → ((s : Place) → IsSearch (chart_lines lines) (length lines) s after now → IsSearch (chart_lines lines) (length lines) s later new)
    → IsFollowed lines p fronts seen later new × (slice_index new p ≡ slice_index now p + 1)
IsFollowed-next lines p fronts seen after now later new within old whole is grown kept =
    let below : p < length now = omega (arith, ap length old.others, length-set seen p (slice_index now p)) in
    let one : slice_index new p ≡ slice_index now p + 1 = ap (λ xs. slice_index xs p) is ∙ get_or-set_same now p (slice_index now p + 1) 0 below in (
      record {
        whole = whole;
        others =
            is ∙ ap (λ xs. set xs p (slice_index now p + 1)) old.others ∙ set-set seen p (slice_index now p) (slice_index now p + 1) ∙ ap (set seen p) (sym one);
        grown = λ q. let first = old.grown q in let second = grown q in omega arith;
        kept = λ s search. kept s (old.kept s search);
      },
      one,
    )

-- the front of a line is on it
pub front_within : (c : Chart) (n : ℕ) (s : Place) (fronts seen : List ℕ) (p : ℕ) → IsSearch c n s fronts seen → entry fronts p ≤ length (c p)
front_within c n s fronts seen p old =
    elim (old.sound p) [
      | inl none ↦ omega arith
      | inr w ↦ (IsEvent-from_passes c (is_send_to w.0.0) (at p (entry fronts p)) w.0.1).1
    ]

-- if all events were seen, an event before one within the fronts is within them
module _ (c : Chart) (fronts : List ℕ) (closed : (t r : Place) → BelongsTo c t r → r.index ≤ entry fronts r.instance → t.index ≤ entry fronts t.instance) where
  direct_within : (e f : Place) → Direct c e f → f.index ≤ entry fronts f.instance → e.index ≤ entry fronts e.instance
  direct_within e f (message belongs) f_in = closed e f belongs f_in
  direct_within e f (to_send q l sends) f_in = subst (λ x. e.index ≤ entry fronts x) (sym l.line) (omega (arith, l.less))
  direct_within e f (same_sender q l x y) f_in = subst (λ x. e.index ≤ entry fronts x) (sym l.line) (omega (arith, l.less))

  before_within : {e f : Place} → Before c e f → f.index ≤ entry fronts f.instance → e.index ≤ entry fronts e.instance
  before_within {e = e} {f = f} (direct x) f_in = direct_within e f x f_in
  before_within (through x y) f_in = before_within x (before_within y f_in)

-- if all events were seen and the send was reached, the fronts are the send and what is before it
pub IsReached-from_seen : (lines : List LineView) (s : Place) (fronts seen : List ℕ) → IsSearch (chart_lines lines) (length lines) s fronts seen → AreSeen fronts seen → s.index ≤ entry fronts s.instance → IsReached (chart_lines lines) s fronts
IsReached-from_seen lines s fronts seen search all reached e begun = (inside, upto)
  where
    all_seen : (p : ℕ) → entry fronts p ≤ entry seen p + 1
    all_seen zero = omega arith
    all_seen (suc p) =
        elim (cases_lt p (length fronts)) [
          | inl within ↦ all p within
          | inr past ↦ let none = entry-past fronts p past in omega (arith, none)
        ]

    -- a receive within the fronts was seen: a front is no receive
    receive_seen : (t r : Place) → BelongsTo (chart_lines lines) t r → r.index ≤ entry fronts r.instance → r.index ≤ entry seen r.instance
    receive_seen t r belongs r_in =
        elim (cases_eq r.index (entry fronts r.instance)) [
          | inr below ↦ let most = all_seen r.instance in omega arith
          | inl at_front ↦
              elim (search.sound r.instance) [
                | inl none ↦ let event = IsEvent-from_passes (chart_lines lines) (is_receive_from t.instance) r belongs.received in absurd (omega (arith, event.0))
                | inr w ↦ absurd (not_both (chart_lines lines) w.0.0 t.instance r (subst (λ i. IsSendTo (chart_lines lines) w.0.0 (at r.instance i)) (sym at_front) w.0.1) belongs.received)
              ]
        ]

    closed : (t r : Place) → BelongsTo (chart_lines lines) t r → r.index ≤ entry fronts r.instance → t.index ≤ entry fronts t.instance
    closed t r belongs r_in = search.followed t r belongs (receive_seen t r belongs r_in)

    inside : IsUpTo (chart_lines lines) s e → e.index ≤ entry fronts e.instance
    inside (inl same) = subst (λ (x : Place). x.index ≤ entry fronts x.instance) (sym same) reached
    inside (inr before) = before_within (chart_lines lines) fronts closed before reached

    upto : e.index ≤ entry fronts e.instance → IsUpTo (chart_lines lines) s e
    upto within =
        elim (search.sound e.instance) [
          | inl none ↦ absurd (omega arith)
          | inr w ↦
              elim (cases_eq e.index (entry fronts e.instance)) [
                | inl last ↦ subst (IsUpTo (chart_lines lines) s) (same_place (at e.instance (entry fronts e.instance)) e refl (sym last)) w.1
                | inr earlier ↦ inr (before_front w.0 w.1 (record { line = refl; begun = begun; less = omega arith }))
              ]
        ]
      where
        before_front : IsSend (chart_lines lines) (at e.instance (entry fronts e.instance)) → IsUpTo (chart_lines lines) s (at e.instance (entry fronts e.instance)) → IsEarlier e (at e.instance (entry fronts e.instance)) → Before (chart_lines lines) e s
        before_front sends (inl same) l = subst (Before (chart_lines lines) e) same (direct (to_send sends.0 l sends.1))
        before_front sends (inr before) l = through (direct (to_send sends.0 l sends.1)) before

-- an event that is a send or before it is on a line of the chart
pub up_to_within : (lines : List LineView) (s e : Place) (p : ℕ) → IsSend (chart_lines lines) s → IsUpTo (chart_lines lines) s e → e.instance ≡ suc p → (1 ≤ e.index) × (p < length lines)
up_to_within lines s e p sends up is =
    let event = up_to_event (chart_lines lines) s e (IsEvent-from_passes (chart_lines lines) (is_send_to sends.0) s sends.1) up in
    let w = instance_within lines e event in
    (event.0, omega (arith, w.1, w.2))
