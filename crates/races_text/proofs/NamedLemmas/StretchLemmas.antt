-- Neighbouring events that are shown, and the rest of ranges.
use Rattle.std.proofs.Common.{◌≡◌, ℕ, zero, suc, ◌+◌, ◌-◌, ◌<◌, ◌≤◌, Bool, true, false, cond, List, [], ◌∷◌, ◌++◌, filter, refl, sym, ap, ◌∙◌, subst, arith, append_assoc, lt-ltb}
use Rattle.std.specs.Prelude.{min, nat_lt}
use Rattle.std.proofs.lemmas.Bool.{le-ltb, ltb-true}
use Rattle.std.proofs.lemmas.List.Elements.{filter-append}
use Rattle.chart.specs.declared.event.Event.{Event}
use Rattle.chart.specs.declared.instance.EventNo.{EventNo}
use Rattle.chart.specs.declared.ranges.EventRange.{EventRange}
use Rattle.chart.specs.Ranges.{events_from, events_of, events_in}
use Rattle.chart.proofs.RangeLists.{events_from-more}
use Rattle.shown_races.specs.Kept.{is_kept_after}
use Rattle.races_text.specs.Named.Stretches.{event_in, IsBehind}

-- a range without events
pub none_of_it : (r : EventRange) → r.count ≡ 0 → events_of r ≡ []
none_of_it r none = ap (events_from r.first.instance r.first.index) none

rest_from : (p j : ℕ) (first : EventNo) (m : ℕ) → (0 < m → first ≡ record { instance = p; index = j }) → events_from p j m ≡ events_from first.instance first.index m
rest_from p j first zero same = refl
rest_from p j first (suc m) same = ap (λ (e : EventNo). events_from e.instance e.index (suc m)) (sym (same (omega arith)))

-- the rest of a range has the events after its first ones
pub behind_events : (r rest : EventRange) (n : ℕ) → IsBehind r n rest → events_of r ≡ events_from r.first.instance r.first.index n ++ events_of rest
behind_events r rest n its =
    let p = r.first.instance in
    let i = r.first.index in
    ap (events_from p i) (sym its.whole) ∙ events_from-more p i n rest.count ∙ ap (λ es. events_from p i n ++ es) (rest_from p (i + n) rest.first rest.count its.begins)

module _ (test : EventNo → Bool) where
  -- events that aren't shown, before others
  filter_hidden : (p i n : ℕ) (rest : List EventNo) → ((k : ℕ) → k < n → test (record { instance = p; index = i + k }) ≡ false) → filter test (events_from p i n ++ rest) ≡ filter test rest
  filter_hidden p i zero rest each = refl
  filter_hidden p i (suc n) rest each =
      let here : i + 0 ≡ i = omega arith in
      let e : EventNo = record { instance = p; index = i } in
      let first : test e ≡ false = subst (λ k. test (record { instance = p; index = k }) ≡ false) here (each 0 (omega arith)) in
      let others = filter test (events_from p (i + 1) n ++ rest) in
      ap (λ b. cond b (e ∷ others) others) first
      ∙ filter_hidden p (i + 1) n rest (λ k less. let next : i + suc k ≡ i + 1 + k = omega arith in subst (λ j. test (record { instance = p; index = j }) ≡ false) next (each (suc k) (omega (arith, less))))

  -- events that are shown, before others
  filter_shown : (p i n : ℕ) (rest : List EventNo) → ((k : ℕ) → k < n → test (record { instance = p; index = i + k }) ≡ true) → filter test (events_from p i n ++ rest) ≡ events_from p i n ++ filter test rest
  filter_shown p i zero rest each = refl
  filter_shown p i (suc n) rest each =
      let here : i + 0 ≡ i = omega arith in
      let e : EventNo = record { instance = p; index = i } in
      let first : test e ≡ true = subst (λ k. test (record { instance = p; index = k }) ≡ true) here (each 0 (omega arith)) in
      let others = filter test (events_from p (i + 1) n ++ rest) in
      ap (λ b. cond b (e ∷ others) others) first
      ∙ ap (λ es. e ∷ es) (filter_shown p (i + 1) n rest (λ k less. let next : i + suc k ≡ i + 1 + k = omega arith in subst (λ j. test (record { instance = p; index = j }) ≡ true) next (each (suc k) (omega (arith, less)))))

  -- the first events of a range aren't shown
  pub hidden_behind : (r rest : EventRange) (n : ℕ) → IsBehind r n rest → ((k : ℕ) → k < n → test (event_in r k) ≡ false) → filter test (events_of rest) ≡ filter test (events_of r)
  hidden_behind r rest n its each = sym (ap (filter test) (behind_events r rest n its) ∙ filter_hidden r.first.instance r.first.index n (events_of rest) each)

  -- the next event of a range is shown
  pub first_behind : (r rest : EventRange) (n : ℕ) → IsBehind r n rest → (n < r.count → test (event_in r n) ≡ true) → 0 < rest.count → test rest.first ≡ true
  first_behind r rest n its shown some = ap test (its.begins some) ∙ shown (let whole = its.whole in omega (arith, whole, some))

  -- the first events of a range are shown, whatever follows the range
  pub shown_behind : (r rest : EventRange) (n : ℕ) (others : List EventNo) → IsBehind r n rest → ((k : ℕ) → k < n → test (event_in r k) ≡ true)
      → filter test (events_of r ++ others) ≡ events_from r.first.instance r.first.index n ++ filter test (events_of rest ++ others)
  shown_behind r rest n others its each =
      let p = r.first.instance in
      let i = r.first.index in
      ap (λ es. filter test (es ++ others)) (behind_events r rest n its) ∙ ap (filter test) (append_assoc (events_from p i n) (events_of rest) others) ∙ filter_shown p i n (events_of rest ++ others) each

  -- two lists with the same shown events, before others
  pub same_shown : (a b others : List EventNo) → filter test a ≡ filter test b → filter test (a ++ others) ≡ filter test (b ++ others)
  same_shown a b others same = filter-append test a others ∙ ap (λ es. es ++ filter test others) same ∙ sym (filter-append test b others)

  -- the next range begins
  pub next_begins : (rest range new : EventRange) (ranges : List EventRange) → rest.count ≡ 0 → filter test (events_of new) ≡ filter test (events_of range)
      → filter test (events_of new ++ events_in ranges) ≡ filter test (events_of rest ++ events_in (range ∷ ranges))
  next_begins rest range new ranges none same = same_shown (events_of new) (events_of range) (events_in ranges) same ∙ ap (λ es. filter test (es ++ events_in (range ∷ ranges))) (sym (none_of_it rest none))

-- Events that are shown if their numbers are above a number.

later_so : (passed i : ℕ) → passed < i → cond (nat_lt passed i) true false ≡ true
later_so passed i less = ap (λ b. cond b true false) (lt-ltb passed i less)

early_so : (passed i : ℕ) → i ≤ passed → cond (nat_lt passed i) true false ≡ false
early_so passed i low = ap (λ b. cond b true false) (le-ltb passed i low)

so_later : (passed i : ℕ) → cond (nat_lt passed i) true false ≡ true → passed < i
so_later passed i so = ltb-true passed i (go (nat_lt passed i) so)
  where
    go : (b : Bool) → cond b true false ≡ true → b ≡ true
    go true so = refl
    go false so = so

module _ (events : List Event) (passed : ℕ) (r : EventRange) where
  pub early_hidden : (only : Bool) (n : ℕ) → only ≡ false → n ≡ min (passed + 1 - r.first.index) r.count → (k : ℕ) → k < n → is_kept_after events only passed (event_in r k) ≡ false
  early_hidden only n all is k less = subst (λ b. is_kept_after events b passed (event_in r k) ≡ false) (sym all) (early_so passed (r.first.index + k) (omega (arith, is, less)))

  pub early_shown : (only : Bool) (n : ℕ) → only ≡ false → n ≡ min (passed + 1 - r.first.index) r.count → n < r.count → is_kept_after events only passed (event_in r n) ≡ true
  early_shown only n all is less = subst (λ b. is_kept_after events b passed (event_in r n) ≡ true) (sym all) (later_so passed (r.first.index + n) (omega (arith, is, less)))

  pub later_shown : (only : Bool) → only ≡ false → is_kept_after events only passed r.first ≡ true → (k : ℕ) → is_kept_after events only passed (event_in r k) ≡ true
  later_shown only all first k =
      let low = so_later passed r.first.index (subst (λ b. is_kept_after events b passed r.first ≡ true) all first) in
      subst (λ b. is_kept_after events b passed (event_in r k) ≡ true) (sym all) (later_so passed (r.first.index + k) (omega (arith, low)))

  -- a range whose first event is shown doesn't begin with an event that isn't
  pub first_shown : (only : Bool) (n : ℕ) → is_kept_after events only passed r.first ≡ true → is_kept_after events only passed (event_in r n) ≡ false → 0 < n
  first_shown only zero first hidden =
      let here : r.first.index + zero ≡ r.first.index = omega arith in
      absurd (cc (sym first ∙ subst (λ i. is_kept_after events only passed (record { instance = r.first.instance; index = i }) ≡ false) here hidden))
  first_shown only (suc n) first hidden = omega arith
