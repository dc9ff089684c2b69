-- The races of a line found so far, one step further back.
use Rattle.std.proofs.Common.{◌≡◌, ℕ, zero, suc, ◌-◌, ◌<◌, ◌≤◌, ◌⊎◌, inl, inr, not, ◌==◌, ◌+◌, Bool, true, false, List, [], ◌∷◌, ◌++◌, length, reverse, get_or, take, map, All, AllPairs, Contains, Some, refl, sym, ap, ◌∙◌, subst, arith}
use Rattle.std.proofs.lemmas.Bool.{cases_lt, cases_eq, false≢true, false_from_ne_true, eqb-true, eq-eqb}
use Rattle.std.proofs.lemmas.List.Elements.{Contains-get_or, All-cons, All-nil, All-append}
use Rattle.std.proofs.lemmas.List.{length-take-le, reverse-append, get_or_default}
use Rattle.std.specs.Cmp.{second_so}
use Rattle.std.proofs.lemmas.Option.{slice_get-get_or, slice_get_read, same_Some}
use Rattle.chart.specs.declared.event.Event.{Event}
use Rattle.chart.specs.declared.event.Event.TheVariants.{Send, Receive}
use Rattle.chart.specs.Events.{ith, is_receive, is_receive_from, is_in, region_of, send_event, receive_event}
use Rattle.chart.specs.declared.ranges.EventRange.{EventRange}
use Rattle.chart.specs.Ranges.{events_from, events_of, events_in}
use Rattle.chart.specs.Runs.{IsRun, IsStartOfRun}
use Rattle.chart.specs.declared.instance.EventNo.{EventNo}
use Rattle.chart.specs.declared.line.TheConstants.{MAX_EVENTS}
use Rattle.chart.specs.Charts.{LineView}
use Rattle.chart.specs.Order.{AreLineRaces}
use Rattle.chart.proofs.Tally.{ith_within, ith-take, ith_from_take}
use Rattle.online_races.specs.Passing.{IsCandidate, ArePassed, AreRaces, AreFound, HasFound}

-- a head below each element of a rising list makes a rising list
AllPairs-cons : (x : ℕ) (xs : List ℕ) → AllPairs (λ i j. i < j) xs → ((j : ℕ) → Contains xs j → x < j) → AllPairs (λ i j. i < j) (x ∷ xs)
AllPairs-cons x xs rising below zero zero d less within = absurd (omega arith)
AllPairs-cons x xs rising below zero (suc j) d less within = below (get_or xs j d) (Contains-get_or xs j d (omega arith))
AllPairs-cons x xs rising below (suc i) zero d less within = absurd (omega arith)
AllPairs-cons x xs rising below (suc i) (suc j) d less within = rising i j d (omega arith) (omega arith)

-- an element of a list is its head or one of the rest
Contains-cons_cases : (x : ℕ) (xs : List ℕ) (j : ℕ) → Contains (x ∷ xs) j → (x ≡ j) ⊎ Contains xs j
Contains-cons_cases x xs j (zero, within, same) = inl same
Contains-cons_cases x xs j (suc k, within, same) = inr (k, omega arith, same)

-- an element of the rest is one of the whole list
Contains-cons : (x : ℕ) (xs : List ℕ) (j : ℕ) → Contains xs j → Contains (x ∷ xs) j
Contains-cons x xs j (k, within, same) = (suc k, omega arith, same)

-- at the end of the line nothing is found
pub AreFound-end : (line : List Event) (entry q region : ℕ) → AreFound line (length line) entry q region []
AreFound-end line entry q region = record {
  rising = λ i j d less within. absurd (omega arith);
  exact = λ j. (λ here. absurd (omega (arith, here.1)), λ w. let v = ith_within line j w.2.0 w.2.1 in absurd (omega (arith, v.1)));
}

-- passed events add nothing
pub AreFound-passed : (line : List Event) (start last entry q region : ℕ) (xs : List ℕ) → ArePassed line start last q region → AreFound line last entry q region xs → AreFound line start entry q region xs
AreFound-passed line start last entry q region xs passed found = record {
  rising = found.rising;
  exact = λ j. (
    λ here. let w = (found.exact j).0 here in (omega (arith, passed.less, w.0), w.1, w.2),
    λ w. elim (cases_lt last j) [
      | inl above ↦ (found.exact j).1 (above, w.1, w.2)
      | inr within ↦ absurd (elim (passed.each j w.2.0 w.0 within w.2.1) [
        | inl from ↦ false≢true (sym w.2.2 ∙ from)
        | inr inside ↦ false≢true (sym w.2.3 ∙ inside)
      ])
    ],
  );
}

-- a race becomes the first of the found ones
pub AreFound-race : (line : List Event) (index entry q region : ℕ) (xs : List ℕ) → entry < index → IsCandidate line q region index → AreFound line index entry q region xs → AreFound line (index - 1) entry q region (index ∷ xs)
AreFound-race line index entry q region xs above race found = record {
  rising = AllPairs-cons index xs found.rising (λ j here. ((found.exact j).0 here).0);
  exact = λ j. (
    λ here. elim (Contains-cons_cases index xs j here) [
      | inl same ↦ subst (λ x. (index - 1 < x) × (entry < x) × IsCandidate line q region x) same (omega arith, above, race)
      | inr later ↦ let w = (found.exact j).0 later in (omega (arith, w.0), w.1, w.2)
    ],
    λ w. elim (cases_eq j index) [
      | inl same ↦ (0, omega arith, sym same)
      | inr differs ↦ Contains-cons index xs j ((found.exact j).1 (omega (arith, w.0, differs), w.1, w.2))
    ],
  );
}

-- if all events after the entry were passed, all races are found
pub AreLineRaces-found : (line : List Event) (start entry q region : ℕ) (xs : List ℕ) → start ≤ entry → AreFound line start entry q region xs → AreLineRaces line entry q region xs
AreLineRaces-found line start entry q region xs done found = record {
  rising = found.rising;
  exact = λ j. (
    λ here. let w = (found.exact j).0 here in (w.1, w.2),
    λ w. (found.exact j).1 (omega (arith, w.0, done), w.0, w.1),
  );
}

-- the search begins where the first events end
pub HasFound-end : (line : LineView) (end entry q region : ℕ) → end ≤ length line.events → length line.events ≤ MAX_EVENTS → HasFound line end end entry q region []
HasFound-end line end entry q region within short = record {
  within = omega arith;
  inside = within;
  short = short;
  races = subst (λ n. AreFound (take end line.events) n entry q region []) (length-take-le end line.events within) (AreFound-end (take end line.events) entry q region);
  own = All-nil (λ other. other.instance ≡ line.instance);
}

-- what holds for an event of the line holds for it among the first events
IsCandidate-front : (line : List Event) (end q region index : ℕ) → index ≤ end → IsCandidate line q region index → IsCandidate (take end line) q region index
IsCandidate-front line end q region index within (m, is, other, outside) = (m, ith-take end line index within ∙ is, other, outside)

ArePassed-front : (line : List Event) (end start last q region : ℕ) → ArePassed line start last q region → ArePassed (take end line) start last q region
ArePassed-front line end start last q region passed = record {
  less = passed.less;
  each = λ j m low high is. passed.each j m low high (ith_from_take end line j m is).1;
}

-- the search goes on before the passed events
pub HasFound-passed : (line : LineView) (end start index entry q region : ℕ) (found : List EventNo) → ArePassed line.events start index q region → HasFound line end index entry q region found → HasFound line end start entry q region found
HasFound-passed line end start index entry q region found passed old = record {
  within = omega (arith, passed.less, old.within);
  inside = old.inside;
  short = old.short;
  races = AreFound-passed (take end line.events) start index entry q region _ (ArePassed-front line.events end start index q region passed) old.races;
  own = old.own;
}

AreRaces-front : (line : List Event) (end start last q region : ℕ) → last ≤ end → AreRaces line start last q region → AreRaces (take end line) start last q region
AreRaces-front line end start last q region within races = record {
  less = races.less;
  each = λ j low high. IsCandidate-front line end q region j (omega (arith, high, within)) (races.each j low high);
}

-- some races become the first of the found ones
AreFound-races : (line : List Event) (p entry q region n start : ℕ) (found : List EventNo) → entry ≤ start → ((j : ℕ) → start < j → j ≤ start + n → IsCandidate line q region j) → AreFound line (start + n) entry q region (map (λ race. race.index) found)
    → AreFound line start entry q region (map (λ race. race.index) (events_from p (start + 1) n ++ found))
AreFound-races line p entry q region zero start found after races old =
    let here : start + zero ≡ start = omega arith in subst (λ k. AreFound line k entry q region (map (λ (race : EventNo). race.index) found)) here old
AreFound-races line p entry q region (suc n) start found after races old =
    let behind : start + suc n ≡ start + 1 + n = omega arith in
    let here : start + 1 - 1 ≡ start = omega arith in
    let later = AreFound-races line p entry q region n (start + 1) found (omega (arith, after)) (λ j low high. races j (omega (arith, low)) (omega (arith, high)))
    (subst (λ k. AreFound line k entry q region (map (λ (race : EventNo). race.index) found)) behind old) in
    subst (λ k. AreFound line k entry q region (map (λ (race : EventNo). race.index) (events_from p (start + 1) (suc n) ++ found))) here
    (AreFound-race line (start + 1) entry q region _ (omega (arith, after)) (races (start + 1) (omega arith) (omega arith)) later)

-- the events of a range of p's line are p's
All-events_from : (p i n : ℕ) → All (λ (e : EventNo). e.instance ≡ p) (events_from p i n)
All-events_from p i zero = All-nil (λ (e : EventNo). e.instance ≡ p)
All-events_from p i (suc n) = All-cons (λ (e : EventNo). e.instance ≡ p) (record { instance = p; index = i }) (events_from p (i + 1) n) refl (All-events_from p (i + 1) n)

-- the search goes on before some races, and keeps those later than the entry
pub HasFound-races : (line : LineView) (end start last earlier entry q region : ℕ) (found : List EventNo) → AreRaces line.events start last q region → start ≤ earlier → entry ≤ earlier → earlier < last → HasFound line end last entry q region found
    → HasFound line end earlier entry q region (events_from line.instance (earlier + 1) (last - earlier) ++ found)
HasFound-races line end start last earlier entry q region found races low after less old =
    let whole : earlier + (last - earlier) ≡ last = omega arith in
    let front = AreRaces-front line.events end start last q region old.within races in
    record {
      within = omega (arith, old.within);
      inside = old.inside;
      short = old.short;
      races = AreFound-races (take end line.events) line.instance entry q region (last - earlier) earlier found after (λ j above high. front.each j (omega (arith, above, low)) (omega (arith, high)))
          (subst (λ k. AreFound (take end line.events) k entry q region (map (λ (race : EventNo). race.index) found)) (sym whole) old.races);
      own = All-append (λ (e : EventNo). e.instance ≡ line.instance) (events_from line.instance (earlier + 1) (last - earlier)) found (All-events_from line.instance (earlier + 1) (last - earlier)) old.own;
    }

-- the element read at a place counted from 0 is at this place
pub ith_read : {X : Type 0} (xs : List X) (j : ℕ) (x : X) → 1 ≤ j → j ≤ length xs → x ≡ get_or xs (j - 1) x → ith xs j ≡ Some x
ith_read xs zero x low high is = absurd (omega arith)
ith_read xs (suc i) x low high is =
    let e : suc i - 1 ≡ i = omega arith in
    slice_get_read xs (length xs) i x refl (omega arith) (subst (λ k. x ≡ get_or xs k x) e is)

-- the receives of a run from another sender are all races of a receive in no coregion
pub AreRaces-run : (line : List Event) (start last q from region : ℕ) → IsRun (is_receive_from from) line start last → last ≤ length line → (from ≡ q → ⊥) → region ≡ 0 → AreRaces line start last q region
AreRaces-run line start last q from region run within other outside = record {
  less = run.begun;
  each = λ j low high.
      let k = j - 1 in
      let e : suc k ≡ j = omega (arith, low) in
      let m : Event = get_or line k (receive_event from [] 0) in
      let here : ith line j ≡ Some m = subst (λ i. ith line i ≡ Some m) e (slice_get-get_or line k (receive_event from [] 0) (omega (arith, low, high, within))) in
      (m, here, not_from m (run.passes j m low high here), in_none m);
}
  where
    not_from : (m : Event) → is_receive_from from m ≡ true → is_receive_from q m ≡ false
    not_from (Send to name) pass = refl
    not_from (Receive sender name c) pass = false_from_ne_true (sender == q) (λ same. other (sym (eqb-true sender from pass) ∙ eqb-true sender q same))

    in_none : (m : Event) → is_in region m ≡ false
    in_none m = false_from_ne_true (is_in region m) (λ inside.
        let not_zero : not (region == 0) ≡ true = second_so (region_of m == region) (not (region == 0)) inside in
        false≢true (sym (ap not (eq-eqb region 0 outside)) ∙ not_zero))

-- a race that is a receive, and the run of receives from its sender that ends with it
pub AreRaces-receive : (line : List Event) (start index q region from c : ℕ) (name : List ℕ) (m : Event) → 1 ≤ index → index ≤ length line → m ≡ get_or line (index - 1) m → m ≡ receive_event from name c
    → IsStartOfRun is_receive_from line index start → IsCandidate line q region index → region ≡ 0 → AreRaces line start index q region
AreRaces-receive line start index q region from c name m low within read is kept (n, at_n, other, outside) none =
    let here : ith line index ≡ Some m = ith_read line index m low within read in
    let pass : is_receive_from from m ≡ true = ap (is_receive_from from) is ∙ eq-eqb from from refl in
    let same : n ≡ m = same_Some n m (sym at_n ∙ here) in
    AreRaces-run line start index q from region (kept.run from m here pass) within (λ e. false≢true (sym (subst (λ x. is_receive_from q x ≡ false) (same ∙ is) other) ∙ eq-eqb from q e)) none

-- an event whose kind is tested
AreRaces-kind : (line : List Event) (start index q region : ℕ) (m : Event) → 1 ≤ index → index ≤ length line → m ≡ get_or line (index - 1) m → is_receive m ≡ true
    → IsStartOfRun is_receive_from line index start → IsCandidate line q region index → region ≡ 0 → AreRaces line start index q region
AreRaces-kind line start index q region (Send to name) low within read is kept race none = absurd (false≢true is)
AreRaces-kind line start index q region (Receive from name c) low within read is kept race none = AreRaces-receive line start index q region from c name (Receive from name c) low within read refl kept race none

-- the event at an index, or any event if there is none
pub at_index : (line : List Event) → ℕ → Event
at_index line index = get_or line (index - 1) (send_event 0 [])

pub index_read : (line : List Event) (index : ℕ) → 1 ≤ index → index ≤ length line → at_index line index ≡ get_or line (index - 1) (at_index line index)
unfolding at_index
index_read line index low within = get_or_default line (index - 1) (send_event 0 []) (at_index line index) (omega (arith, low, within))

pub AreRaces-asked : (line : List Event) (start index q region : ℕ) (b : Bool) → 1 ≤ index → index ≤ length line → ((m : Event) → m ≡ get_or line (index - 1) m → b ≡ is_receive m) → b ≡ true
    → IsStartOfRun is_receive_from line index start → IsCandidate line q region index → region ≡ 0 → AreRaces line start index q region
AreRaces-asked line start index q region b low within asked passing kept race none =
    let read = index_read line index low within in
    AreRaces-kind line start index q region (at_index line index) low within read (sym (asked (at_index line index) read) ∙ passing) kept race none

-- an event that is tested for the region, and then for the sender
pub ArePassed-in : (line : List Event) (start index q region : ℕ) (b : Bool) → 1 ≤ index → index ≤ length line → ((m : Event) → m ≡ get_or line (index - 1) m → b ≡ is_in region m) → b ≡ true
    → IsStartOfRun is_in line index start → ArePassed line start index q region
ArePassed-in line start index q region b low within asked passing kept =
    let m = at_index line index in
    let read = index_read line index low within in
    let run = kept.run region m (ith_read line index m low within read) (sym (asked m read) ∙ passing) in
    record { less = run.begun; each = λ j n above high e. inr (run.passes j n above high e) }

pub ArePassed-from : (line : List Event) (start index q region : ℕ) (b : Bool) → 1 ≤ index → index ≤ length line → ((m : Event) → m ≡ get_or line (index - 1) m → b ≡ is_receive_from q m) → b ≡ true
    → IsStartOfRun is_receive_from line index start → ArePassed line start index q region
ArePassed-from line start index q region b low within asked passing kept =
    let m = at_index line index in
    let read = index_read line index low within in
    let run = kept.run q m (ith_read line index m low within read) (sym (asked m read) ∙ passing) in
    record { less = run.begun; each = λ j n above high e. inl (run.passes j n above high e) }

pub IsCandidate-asked : (line : List Event) (index q region : ℕ) (b c : Bool) → 1 ≤ index → index ≤ length line → ((m : Event) → m ≡ get_or line (index - 1) m → b ≡ is_in region m) → b ≡ false
    → ((m : Event) → m ≡ get_or line (index - 1) m → c ≡ is_receive_from q m) → c ≡ false → IsCandidate line q region index
IsCandidate-asked line index q region b c low within in_it not_in from_it not_from =
    let m = at_index line index in
    let read = index_read line index low within in
    (m, ith_read line index m low within read, sym (from_it m read) ∙ not_from, sym (in_it m read) ∙ not_in)

-- the search is done
pub AreLineRaces-done : (line : LineView) (end index entry q region : ℕ) (found : List EventNo) → index ≤ entry → HasFound line end index entry q region found → AreLineRaces (take end line.events) entry q region (map (λ race. race.index) found)
AreLineRaces-done line end index entry q region found done has = AreLineRaces-found (take end line.events) index entry q region _ done has.races

-- if there are no races, none are found on the way
pub none_met : (line : LineView) (end index entry q region : ℕ) (races : EventRange) (found : List EventNo) → AreLineRaces (take end line.events) entry q region [] → 0 < races.count → HasFound line end index entry q region (events_of races ++ found) → ⊥
none_met line end index entry q region races found none some has = by races.first.instance races.first.index races.count some has
  where
    by : (p i n : ℕ) → 0 < n → HasFound line end index entry q region (events_from p i n ++ found) → ⊥
    by p i zero some has = omega (arith, some)
    by p i (suc n) some has =
        let race = (has.races.exact i).0 (0, omega arith, refl) in
        let here = (none.exact i).1 (race.1, race.2) in omega (arith, here.1)

-- only one list has the races if there are none
pub none_found : (line : List Event) (entry q region : ℕ) (found : List EventNo) → AreLineRaces line entry q region [] → AreLineRaces line entry q region (map (λ race. race.index) found) → found ≡ []
none_found line entry q region [] none races = refl
none_found line entry q region (race ∷ found) none races =
    let here = (none.exact race.index).1 ((races.exact race.index).0 (0, omega arith, refl)) in absurd (omega (arith, here.1))

-- ranges in the opposite order, the last range first, with one more
pub events_in-pushed : (ranges now : List EventRange) (r : EventRange) → now ≡ ranges ++ r ∷ [] → events_in (reverse now) ≡ events_of r ++ events_in (reverse ranges)
events_in-pushed ranges now r is = ap (λ xs. events_in (reverse xs)) is ∙ ap events_in (reverse-append ranges (r ∷ []))
