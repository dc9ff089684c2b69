-- In a legal history's chart each send knows one number of each line, and each receive has one report.
use Rattle.std.proofs.Common.{◌≡◌, ℕ, zero, suc, ◌+◌, ◌≤◌, ◌⊎◌, inl, inr, Bool, true, false, not, ◌&&◌, nat_lt, max, List, [], ◌∷◌, take, length, Option, Some, None, refl, sym, subst, arith, add-one, eq-eqb, lt-ltb, ltb-true}
use Rattle.std.proofs.lemmas.Bool.{cases_eq, and_parts, and_from, not_from_false, not-true, false≢true}
use Rattle.chart.specs.declared.history.Occurrence.{Occurrence}
use Rattle.chart.specs.declared.event.Event.{Event}
use Rattle.chart.specs.declared.event.Event.TheVariants.{Send, Receive}
use Rattle.chart.specs.Events.{ith, is_send_to, is_receive_from, is_in}
use Rattle.chart.specs.Histories.{chart_of, IsLegal}
use Rattle.chart.specs.Charts.{Chart, Place, at, chart_event, IsSendTo, IsReceiveFrom, BelongsTo}
use Rattle.chart.specs.Places.{IsEvent}
use Rattle.chart.specs.Order.{IsReport, AreLineRaces, region_of_event}
use Rattle.chart.specs.Knowing.{IsKnown, IsGreatestHeard}
use Rattle.chart.proofs.Tally.{ith_within, ith_at}
use Rattle.chart.proofs.Belongs.{IsEvent-from_passes}
use Rattle.chart.proofs.Counts.{same_count}
use Rattle.chart.proofs.Knowledge.{known_own, known_other, heard_at_first, heard_from_send, heard_at_send}
use Rattle.chart.proofs.Reports.{IsLineRace, report_from_races}
use Rattle.chart.proofs.Growing.{GrowsTo, HasSends, passes_shrunk, known_grown, heard_grown}
use Rattle.chart.proofs.Sends.{grows_by_event, sends_of}
use Rattle.chart.proofs.Cycles.{event_cases, acyclic}
use Rattle.chart.proofs.Rising.{same_rising, passing}

-- each send knows a number of each line
abbrev pub SendsKnow : Chart → Type 0
SendsKnow c = (to : ℕ) (s : Place) → IsSendTo c to s → (p : ℕ) → (k : ℕ) × IsKnown c s p k

-- an event is a send or a receive
pub send_or_receive : (c : Chart) (e : Place) → IsEvent c e → ((to : ℕ) × IsSendTo c to e) ⊎ ((from : ℕ) × IsReceiveFrom c from e)
send_or_receive c e here = let w = ith_at (c e.instance) e.index here.0 here.1 in go w.0 w.1
  where
    go : (m : Event) → chart_event c e ≡ Some m → ((to : ℕ) × IsSendTo c to e) ⊎ ((from : ℕ) × IsReceiveFrom c from e)
    go (Send to name) at_e = inl (to, (Send to name, at_e, eq-eqb to to refl))
    go (Receive from name region) at_e = inr (from, (Receive from name region, at_e, eq-eqb from from refl))

-- if each receive has a send that knows a number of each line, each front of a line has a greatest heard
pub heard_exists : (c : Chart) → HasSends c → SendsKnow c → (p q n : ℕ) → n ≤ length (c p) → (k : ℕ) × IsGreatestHeard c p n q k
heard_exists c sends know p q zero within = (0, heard_at_first c p q)
heard_exists c sends know p q (suc n) within =
    let w = heard_exists c sends know p q n (omega arith) in
    let here : IsEvent c (at p (n + 1)) = (omega arith, omega arith) in
    elim (send_or_receive c (at p (n + 1)) here) [
      | inl send ↦ (w.0, subst (λ x. IsGreatestHeard c p x q w.0) (add-one n) (heard_at_send c send.0 p n q w.0 w.1 send.1))
      | inr receive ↦
          let s = sends receive.0 (at p (n + 1)) receive.1 in
          let m = know p s.0 s.1.sent q in
          (max w.0 m.0, subst (λ x. IsGreatestHeard c p x q (max w.0 m.0)) (add-one n) (heard_from_send c s.0 p n q w.0 m.0 w.1 s.1 m.1))
    ]

-- there is only one greatest heard
pub same_heard : (c : Chart) (p n q k l : ℕ) → IsGreatestHeard c p n q k → IsGreatestHeard c p n q l → k ≡ l
same_heard c p n q k l a b = let u = no_less k l a b in let v = no_less l k b a in omega arith
  where
    no_less : (i j : ℕ) → IsGreatestHeard c p n q i → IsGreatestHeard c p n q j → i ≤ j
    no_less i j x y =
        elim x.attained [
          | inl none ↦ omega arith
          | inr w ↦ let g = y.each w.0 w.1 w.2 w.3 in omega (arith, same_count w.4 g.1, g.2)
        ]

-- in a legal history's chart each send knows a number of each line
pub known_exists : (n k : ℕ) (h : List Occurrence) → IsLegal n k h → SendsKnow (chart_of h)
known_exists n k [] legal to s sends p = let w = IsEvent-from_passes (chart_of []) (is_send_to to) s sends in absurd (omega arith)
known_exists n k (e ∷ h) legal to s sends p =
    elim (event_cases h e s (IsEvent-from_passes new (is_send_to to) s sends)) [
      | inl was ↦
          let w = known_exists n k h legal.1 to s (passes_shrunk old new grows (is_send_to to) s was sends) p in
          (w.0, known_grown old new grows each_has s p w.0 was w.1)
      | inr newest ↦
          elim (cases_eq p s.instance) [
            | inl own ↦ (s.index, subst (λ x. IsKnown new s x s.index) (sym own) (known_own new to s.instance s.index sends (inr (acyclic n k (e ∷ h) legal))))
            | inr other ↦
                let i = length (old s.instance) in
                let heard = heard_exists old each_has (known_exists n k h legal.1) s.instance p i (omega arith) in
                (heard.0, subst (λ x. IsKnown new (at s.instance x) p heard.0) (sym newest.1) (known_other new to s.instance i p heard.0 (subst (λ x. IsSendTo new to (at s.instance x)) newest.1 sends) other (heard_grown old new grows each_has s.instance i p heard.0 (omega arith) heard.1)))
          ]
    ]
  where
    old : Chart
    old = chart_of h

    new : Chart
    new = chart_of (e ∷ h)

    grows : GrowsTo old new
    grows = grows_by_event h e

    each_has : HasSends old
    each_has = sends_of n k h legal.1

-- a line has its races later than an entry
pub races_exist : (line : List Event) (entry q region : ℕ) → (xs : List ℕ) × AreLineRaces line entry q region xs
races_exist line entry q region =
    let w = passing (λ j. nat_lt entry j && races (ith line j)) (length line) in (
      w.0,
      record {
        rising = w.1;
        exact = λ j. (λ here. of_test j ((w.2 j).0 here).2, λ there. (w.2 j).1 (to_test j there));
      },
    )
  where
    races : Option Event → Bool
    races None = false
    races (Some m) = not (is_receive_from q m) && not (is_in region m)

    of_event : (o : Option Event) → races o ≡ true → (m : Event) × (o ≡ Some m) × (is_receive_from q m ≡ false) × (is_in region m ≡ false)
    of_event None h = absurd (false≢true h)
    of_event (Some m) h = let w = and_parts (not (is_receive_from q m)) (not (is_in region m)) h in (m, refl, not-true (is_receive_from q m) w.0, not-true (is_in region m) w.1)

    of_test : (j : ℕ) → (nat_lt entry j && races (ith line j)) ≡ true → IsLineRace line entry q region j
    of_test j h = let w = and_parts (nat_lt entry j) (races (ith line j)) h in (ltb-true entry j w.0, of_event (ith line j) w.1)

    to_test : (j : ℕ) → IsLineRace line entry q region j → (1 ≤ j) × (j ≤ length line) × ((nat_lt entry j && races (ith line j)) ≡ true)
    to_test j (above, (m, at_j, other, outside)) =
        let within = ith_within line j m at_j in
        (within.0, within.1, and_from (nat_lt entry j) (races (ith line j)) (lt-ltb entry j above) (subst (λ o. races o ≡ true) (sym at_j) (and_from (not (is_receive_from q m)) (not (is_in region m)) (not_from_false (is_receive_from q m) other) (not_from_false (is_in region m) outside))))

-- a line has only one list of races later than an entry
pub same_races : (line : List Event) (entry q region : ℕ) (xs ys : List ℕ) → AreLineRaces line entry q region xs → AreLineRaces line entry q region ys → xs ≡ ys
same_races line entry q region xs ys a b = same_rising xs ys a.rising b.rising (λ j. (λ here. (b.exact j).1 ((a.exact j).0 here), λ there. (a.exact j).1 ((b.exact j).0 there)))

-- a receive has only one report
pub same_report : (c : Chart) (r : Place) (xs ys : List ℕ) → IsReport c r xs → IsReport c r ys → xs ≡ ys
same_report c r xs ys a b = same_rising xs ys a.rising b.rising (λ j. (λ here. (b.exact j).1 ((a.exact j).0 here), λ there. (a.exact j).1 ((b.exact j).0 there)))

-- in a legal history's chart each receive has a report
pub report_exists : (n k : ℕ) (h : List Occurrence) → IsLegal n k h → (q : ℕ) (r : Place) → IsReceiveFrom (chart_of h) q r → (xs : List ℕ) × IsReport (chart_of h) r xs
report_exists n k h legal q r from = go r.index refl
  where
    c : Chart
    c = chart_of h

    go : (i : ℕ) → r.index ≡ i → (xs : List ℕ) × IsReport c r xs
    go zero at_i = let w = IsEvent-from_passes c (is_receive_from q) r from in absurd (omega arith)
    go (suc i) at_i =
        let s = sends_of n k h legal q r from in
        let known = known_exists n k h legal r.instance s.0 s.1.sent r.instance in
        let place : r.index ≡ i + 1 = omega arith in
        let belongs = subst (λ x. BelongsTo c s.0 (at r.instance x)) place s.1 in
        let races = races_exist (take i (c r.instance)) known.0 s.0.instance (region_of_event (chart_event c (at r.instance (i + 1)))) in
        (races.0, subst (λ x. IsReport c (at r.instance x) races.0) (sym place) (report_from_races c s.0 r.instance i known.0 (region_of_event (chart_event c (at r.instance (i + 1)))) races.0 belongs refl known.1 races.1))

-- in a legal history's chart each send knows one number of each line
pub known_once : (n k : ℕ) (h : List Occurrence) → IsLegal n k h → (to : ℕ) (s : Place) (p : ℕ) → IsSendTo (chart_of h) to s → (m : ℕ) × IsKnown (chart_of h) s p m × ((l : ℕ) → IsKnown (chart_of h) s p l → l ≡ m)
known_once n k h legal to s p sends = let w = known_exists n k h legal to s sends p in (w.0, w.1, λ l known. same_count known w.1)

-- each front of a line has heard one number of each line
pub heard_once : (n k : ℕ) (h : List Occurrence) → IsLegal n k h → (p i q : ℕ) → i ≤ length (chart_of h p) → (m : ℕ) × IsGreatestHeard (chart_of h) p i q m × ((l : ℕ) → IsGreatestHeard (chart_of h) p i q l → l ≡ m)
heard_once n k h legal p i q within =
    let w = heard_exists (chart_of h) (sends_of n k h legal) (known_exists n k h legal) p q i within in
    (w.0, w.1, λ l heard. same_heard (chart_of h) p i q l w.0 heard w.1)

-- each receive has one report
pub report_once : (n k : ℕ) (h : List Occurrence) → IsLegal n k h → (q : ℕ) (r : Place) → IsReceiveFrom (chart_of h) q r → (report : List ℕ) × IsReport (chart_of h) r report × ((other : List ℕ) → IsReport (chart_of h) r other → other ≡ report)
report_once n k h legal q r from =
    let w = report_exists n k h legal q r from in
    (w.0, w.1, λ xs report. same_report (chart_of h) r xs w.0 report w.1)
