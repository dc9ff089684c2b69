-- The past of a line's next event, and the clock that counts it.
use Rattle.std.proofs.Common.{◌≡◌, ℕ, zero, suc, ◌<◌, ◌≤◌, ◌⊎◌, ◌↔◌, inl, inr, max, Bool, true, false, cond, List, length, replicate, refl, sym, ap, ◌∙◌, subst, arith, le-leb, leb-true}
use Rattle.std.specs.Prelude.{nat_le}
use Rattle.std.proofs.lemmas.Bool.{cases_eq, cases_lt}
use Rattle.std.proofs.lemmas.List.{length-replicate}
use Rattle.chart.specs.Charts.{Chart, Place, at, BelongsTo}
use Rattle.chart.specs.Events.{is_receive_from}
use Rattle.chart.proofs.Belongs.{same_place, same_send, IsEvent-from_passes}
use Rattle.clock.specs.Clocks.{entry_of, with_entry, merged}
use Rattle.clock.proofs.ClockLemmas.{length-merged}
use Rattle.clock.proofs.EntryLemmas.{entry_of-with_entry, entry_of-with_entry_other, length-with_entry, entry_of-merged, entry_of-zeros}
use Rattle.diagram_export.specs.LogText.{entry_in}
use Rattle.diagram_laws.specs.VectorTime.{HappenedBefore, IsInPast, IsVectorTime}
use Rattle.diagram_laws.specs.VectorTime.HappenedBefore.{earlier, message, through}

-- Entries of clocks.

entry_within : (clock : List ℕ) (q : ℕ) → q ≤ length clock → entry_in clock q ≡ entry_of clock q
entry_within clock q within = ap (λ b. cond b (entry_of clock q) 0) (le-leb q (length clock) within)

entry_past : (clock : List ℕ) (q : ℕ) → length clock < q → entry_in clock q ≡ 0
entry_past clock q past = go (nat_le q (length clock)) refl
  where
    go : (its : Bool) → nat_le q (length clock) ≡ its → cond its (entry_of clock q) 0 ≡ 0
    go true e = absurd (let within = leb-true q (length clock) e in omega (arith, within, past))
    go false e = refl

merged_entry : (ours theirs : List ℕ) (q : ℕ) → length ours ≡ length theirs → entry_in (merged ours theirs) q ≡ max (entry_in ours q) (entry_in theirs q)
merged_entry ours theirs q same =
    let long = length-merged ours theirs same in
    elim (cases_lt (length ours) q) [
      | inl past ↦
          let one = entry_past ours q past in
          let other = entry_past theirs q (omega (arith, same, past)) in
          let both = entry_past (merged ours theirs) q (omega (arith, long, past)) in
          omega (arith, one, other, both)
      | inr within ↦
          let one = entry_within ours q within in
          let other = entry_within theirs q (omega (arith, same, within)) in
          let both = entry_within (merged ours theirs) q (omega (arith, long, within)) in
          let greater = entry_of-merged ours theirs q same within in
          omega (arith, one, other, both, greater)
    ]

own_entry : (clock : List ℕ) (p i : ℕ) → 1 ≤ p → p ≤ length clock → entry_in (with_entry clock p i) p ≡ i
own_entry clock p i low high = entry_within (with_entry clock p i) p (omega (arith, length-with_entry clock p i, high)) ∙ entry_of-with_entry clock p i low high

other_entry : (clock : List ℕ) (p q i : ℕ) → (q ≡ p → ⊥) → entry_in (with_entry clock p i) q ≡ entry_in clock q
other_entry clock p q i other =
    let long = length-with_entry clock p i in
    elim (cases_lt (length clock) q) [
      | inl past ↦ entry_past (with_entry clock p i) q (omega (arith, long, past)) ∙ sym (entry_past clock q past)
      | inr within ↦ entry_within (with_entry clock p i) q (omega (arith, long, within)) ∙ entry_of-with_entry_other clock p q i other ∙ sym (entry_within clock q within)
    ]

zero_entry : (n q : ℕ) → entry_in (replicate n 0) q ≡ 0
zero_entry n q =
    elim (cases_lt (length {A = ℕ} (replicate n 0)) q) [
      | inl past ↦ entry_past (replicate n 0) q past
      | inr within ↦ entry_within (replicate n 0) q within ∙ entry_of-zeros n q within
    ]

-- The past of an event.

joined : (c : Chart) (e d f : Place) → HappenedBefore c e d → IsInPast c d f → IsInPast c e f
joined c e d f before (inl same) = inr (subst (HappenedBefore c e) same before)
joined c e d f before (inr more) = inr (through before more)

-- nothing is before a line's first event
none_at_zero : (c : Chart) (p : ℕ) (e f : Place) → HappenedBefore c e f → f ≡ at p 0 → ⊥
none_at_zero c p e f (earlier l) is = let none : f.index ≡ 0 = ap (λ (x : Place). x.index) is in let less = l.less in omega (arith, less, none)
none_at_zero c p e f (message b) is =
    let none : f.index ≡ 0 = ap (λ (x : Place). x.index) is in
    let event = IsEvent-from_passes c (is_receive_from e.instance) f b.received in
    omega (arith, event.0, none)
none_at_zero c p e f (through {d = d} first rest) is = none_at_zero c p d f rest is

-- in the past of the event before, or of the send of the message
abbrev pub IsJustBefore : Chart → ℕ → ℕ → Place → Type 0
IsJustBefore c p k e = IsInPast c e (at p k) ⊎ ((s : Place) × BelongsTo c s (at p (suc k)) × IsInPast c e s)

last_step : (c : Chart) (p k : ℕ) (e f : Place) → HappenedBefore c e f → f ≡ at p (suc k) → IsJustBefore c p k e
last_step c p k e f (earlier l) is =
    let line : e.instance ≡ p = l.line ∙ ap (λ (x : Place). x.instance) is in
    let last : f.index ≡ suc k = ap (λ (x : Place). x.index) is in
    let less = l.less in
    elim (cases_eq e.index k) [
      | inl same ↦ inl (inl (same_place e (at p k) line same))
      | inr differs ↦ inl (inr (earlier (record { line = line; begun = l.begun; less = omega (arith, less, last, differs) })))
    ]
last_step c p k e f (message b) is = inr (e, subst (BelongsTo c e) is b, inl refl)
last_step c p k e f (through {d = d} first rest) is =
    elim (last_step c p k d f rest is) [
      | inl past ↦ inl (joined c e d (at p k) first past)
      | inr w ↦ inr (w.0, w.1, joined c e d w.0 first w.2)
    ]

next_step : (c : Chart) (p k : ℕ) (e : Place) → 1 ≤ e.index → IsJustBefore c p k e → HappenedBefore c e (at p (suc k))
next_step c p k e begun (inr (s, b, inl same)) = message (subst (λ x. BelongsTo c x (at p (suc k))) (sym same) b)
next_step c p k e begun (inr (s, b, inr before)) = through before (message b)
next_step c p k e begun (inl (inl same)) =
    let last : e.index ≡ k = ap (λ (x : Place). x.index) same in
    earlier (record { line = ap (λ (x : Place). x.instance) same; begun = begun; less = omega (arith, last) })
next_step c p zero e begun (inl (inr before)) = absurd (none_at_zero c p e (at p 0) before refl)
next_step c p (suc k) e begun (inl (inr before)) = through before (earlier (record { line = refl; begun = omega arith; less = omega arith }))

-- Clocks that count the past; none of the counted events is later than the first `many q` ones of a line q.

pub record IsTime (c : Chart) (n : ℕ) (many : ℕ → ℕ) (e : Place) (clock : List ℕ) : Type 0 where
  pub long : length clock ≡ n
  pub within : (q : ℕ) → entry_in clock q ≤ many q
  pub exact : IsVectorTime c e clock

-- the same for what is just before the event after k events of p's line
pub record IsHeard (c : Chart) (n : ℕ) (many : ℕ → ℕ) (p k : ℕ) (clock : List ℕ) : Type 0 where
  pub long : length clock ≡ n
  pub within : (q : ℕ) → entry_in clock q ≤ many q
  pub exact : (q j : ℕ) → 1 ≤ j → (j ≤ entry_in clock q) ↔ IsJustBefore c p k (at q j)

pub time_more : (c : Chart) (n : ℕ) (many more : ℕ → ℕ) (e : Place) (clock : List ℕ) → ((q : ℕ) → many q ≤ more q) → IsTime c n many e clock → IsTime c n more e clock
time_more c n many more e clock up time = record {
  long = time.long;
  within = λ q. let old = time.within q in let grown = up q in omega (arith, old, grown);
  exact = time.exact;
}

pub time_at_first : (c : Chart) (n : ℕ) (many : ℕ → ℕ) (p : ℕ) → IsTime c n many (at p 0) (replicate n 0)
time_at_first c n many p = record {
  long = length-replicate n 0;
  within = λ q. let none = zero_entry n q in omega (arith, none);
  exact = λ q j begun. (λ le. absurd (let none = zero_entry n q in omega (arith, none, le, begun)), λ past. absurd (never q j begun past));
}
  where
    never : (q j : ℕ) → 1 ≤ j → IsInPast c (at q j) (at p 0) → ⊥
    never q j begun (inl same) = let none : j ≡ 0 = ap (λ (x : Place). x.index) same in omega (arith, none, begun)
    never q j begun (inr before) = none_at_zero c p (at q j) (at p 0) before refl

module _ (c : Chart) (n : ℕ) (many : ℕ → ℕ) (p k : ℕ) (clock : List ℕ) where
  pub heard_alone : IsTime c n many (at p k) clock → ((s : Place) → BelongsTo c s (at p (suc k)) → ⊥) → IsHeard c n many p k clock
  heard_alone own none = record {
    long = own.long;
    within = own.within;
    exact = λ q j begun. (
      λ le. inl ((own.exact q j begun).0 le),
      λ step. elim step [ inl past ↦ (own.exact q j begun).1 past | inr w ↦ absurd (none w.0 w.1) ],
    );
  }

  pub heard_message : IsTime c n many (at p k) clock → (s : Place) (other : List ℕ) → BelongsTo c s (at p (suc k)) → IsTime c n many s other → IsHeard c n many p k (merged clock other)
  heard_message own s other b their = record {
    long = length-merged clock other same ∙ own.long;
    within = λ q. let e = merged_entry clock other q same in let one = own.within q in let two = their.within q in omega (arith, e, one, two);
    exact = λ q j begun. (to q j begun, from q j begun);
  }
    where
      same : length clock ≡ length other
      same = own.long ∙ sym their.long

      to : (q j : ℕ) → 1 ≤ j → j ≤ entry_in (merged clock other) q → IsJustBefore c p k (at q j)
      to q j begun le =
          let e = merged_entry clock other q same in
          elim (cases_lt (entry_in clock q) j) [
            | inl less ↦ inr (s, b, (their.exact q j begun).0 (omega (arith, e, le, less)))
            | inr low ↦ inl ((own.exact q j begun).0 low)
          ]

      from : (q j : ℕ) → 1 ≤ j → IsJustBefore c p k (at q j) → j ≤ entry_in (merged clock other) q
      from q j begun (inl past) = let e = merged_entry clock other q same in let low = (own.exact q j begun).1 past in omega (arith, e, low)
      from q j begun (inr w) =
          let e = merged_entry clock other q same in
          let low = (their.exact q j begun).1 (subst (IsInPast c (at q j)) (same_send c w.0 s (at p (suc k)) w.1 b) w.2) in
          omega (arith, e, low)

  -- the clock of the next event
  pub heard_stamped : (more : ℕ → ℕ) → IsHeard c n many p k clock → many p ≡ k → 1 ≤ p → p ≤ n → more p ≡ suc k → ((q : ℕ) → many q ≤ more q) → IsTime c n more (at p (suc k)) (with_entry clock p (suc k))
  heard_stamped more heard so_far low high own up = record {
    long = length-with_entry clock p (suc k) ∙ heard.long;
    within = within;
    exact = λ q j begun. (to q j begun, from q j begun);
  }
    where
      mine : entry_in (with_entry clock p (suc k)) p ≡ suc k
      mine = own_entry clock p (suc k) low (omega (arith, heard.long, high))

      mine_at : (q : ℕ) → q ≡ p → entry_in (with_entry clock p (suc k)) q ≡ suc k
      mine_at q same = ap (entry_in (with_entry clock p (suc k))) same ∙ mine

      within : (q : ℕ) → entry_in (with_entry clock p (suc k)) q ≤ more q
      within q =
          elim (cases_eq q p) [
            | inl same ↦ let e = mine_at q same in let m = ap more same in omega (arith, e, m, own)
            | inr other ↦ let e = other_entry clock p q (suc k) other in let old = heard.within q in let grown = up q in omega (arith, e, old, grown)
          ]

      to : (q j : ℕ) → 1 ≤ j → j ≤ entry_in (with_entry clock p (suc k)) q → IsInPast c (at q j) (at p (suc k))
      to q j begun le =
          elim (cases_eq q p) [
            | inl same ↦
                let e = mine_at q same in
                elim (cases_eq j (suc k)) [
                  | inl last ↦ inl (same_place (at q j) (at p (suc k)) same last)
                  | inr differs ↦ inr (earlier (record { line = same; begun = begun; less = omega (arith, e, le, differs) }))
                ]
            | inr other ↦
                let e = other_entry clock p q (suc k) other in
                inr (next_step c p k (at q j) begun ((heard.exact q j begun).0 (omega (arith, e, le))))
          ]

      from : (q j : ℕ) → 1 ≤ j → IsInPast c (at q j) (at p (suc k)) → j ≤ entry_in (with_entry clock p (suc k)) q
      from q j begun (inl is) =
          let e = mine_at q (ap (λ (x : Place). x.instance) is) in
          let last : j ≡ suc k = ap (λ (x : Place). x.index) is in
          omega (arith, e, last)
      from q j begun (inr before) =
          let known = (heard.exact q j begun).1 (last_step c p k (at q j) (at p (suc k)) before refl) in
          elim (cases_eq q p) [
            | inl same ↦ let e = mine_at q same in let old = heard.within q in let m = ap many same in omega (arith, e, old, m, so_far, known)
            | inr other ↦ let e = other_entry clock p q (suc k) other in omega (arith, e, known)
          ]
