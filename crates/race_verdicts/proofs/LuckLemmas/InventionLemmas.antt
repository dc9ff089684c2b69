-- Sends that come after invented ones, found by bisection.
use Rattle.std.proofs.Common.{◌≡◌, ℕ, zero, suc, ◌+◌, ◌<◌, ◌≤◌, ◌↔◌, inl, inr, Bool, true, false, List, [], Option, None, Some, length, get_or, set, refl, sym, ap, ◌∙◌, subst, arith}
use Rattle.std.specs.Prelude.{slice_index, IsTrue}
use Rattle.std.proofs.lemmas.Bool.{cases_eq, cases_lt, false≢true}
use Rattle.std.proofs.lemmas.List.{get_or-set_same, get_or-set_other, get_or_past, get_or_default}
use Rattle.std.proofs.lemmas.Option.{slice_get_within, slice_get-get_or}
use Rattle.chart.specs.declared.event.Event.{Event}
use Rattle.chart.specs.Charts.{Chart, at, LineView, chart_lines, IsSendTo}
use Rattle.chart.specs.Events.{ith, is_send_to}
use Rattle.chart.proofs.Chains.{before_later_send}
use Rattle.closure.specs.Searches.{IsSend, IsReached}
use Rattle.log_chart.specs.declared.item.Item.{Item}
use Rattle.race_verdicts.specs.Luck.Invention.{IsUnlogged, IsSendAt, IsUpToFirst, HasInvented, AreNumbered, IsKnownSend, IsKnownBy, IsKnownFrom}
use Rattle.race_verdicts.specs.Luck.Tables.{IsFirst, IsLast}
use Rattle.race_verdicts.proofs.LuckLemmas.TableLemmas.{some_same}

-- one more host
pub invented_more : (hosts : List (List Item)) (place : ℕ) (old new : List (Option ℕ)) (items : List Item) (first : Option ℕ) → place < length hosts → items ≡ get_or hosts place [] → length old ≡ length hosts
    → new ≡ set old place first → IsFirst (IsUnlogged items) (length items + 1) first
    → ((p : ℕ) → p < place → IsFirst (IsUnlogged (get_or hosts p [])) (length (get_or hosts p []) + 1) (get_or old p None))
    → (p : ℕ) → p < place + 1 → IsFirst (IsUnlogged (get_or hosts p [])) (length (get_or hosts p []) + 1) (get_or new p None)
invented_more hosts place old new items first within is whole new_is found each p less =
    elim (cases_eq p place) [
      | inr other ↦
          subst (IsFirst (IsUnlogged (get_or hosts p [])) (length (get_or hosts p []) + 1)) (sym (ap (λ t. get_or t p None) new_is ∙ get_or-set_other old place p first None other)) (each p (omega arith))
      | inl same ↦
          subst (λ k. IsFirst (IsUnlogged (get_or hosts k [])) (length (get_or hosts k []) + 1) (get_or new k None)) (sym same)
          (subst (IsFirst (IsUnlogged (get_or hosts place [])) (length (get_or hosts place []) + 1)) (sym (ap (λ t. get_or t place None) new_is ∙ get_or-set_same old place first None (omega (arith, whole))))
          (subst (λ l. IsFirst (IsUnlogged l) (length l + 1) first) is found))
    ]

-- one event less
pub no_send_more : (events : List Event) (index count : ℕ) (m : Event) → index < length events → m ≡ get_or events index m → ((q : ℕ) × (is_send_to q m ≡ true) → ⊥)
    → ((k : ℕ) → index + 1 < k → k < count + 1 → IsSendAt events k → ⊥) → (k : ℕ) → index < k → k < count + 1 → IsSendAt events k → ⊥
no_send_more events index count m within is not none k low high send =
    elim (cases_eq k (suc index)) [
      | inr other ↦ none k (omega arith) high send
      | inl same ↦
          let one : send.1.0 ≡ m = some_same (sym (subst (λ j. ith events j ≡ Some send.1.0) same send.1.1) ∙ slice_get-get_or events index m within ∙ ap (λ e. Some e) (sym is)) in
          not (send.0, subst (λ e. is_send_to send.0 e ≡ true) one send.1.2)
    ]

pub send_here : (events : List Event) (index : ℕ) (m : Event) → index < length events → m ≡ get_or events index m → (q : ℕ) × (is_send_to q m ≡ true) → IsSendAt events (index + 1)
send_here events index m within is send =
    let place : suc index ≡ index + 1 = omega arith in
    subst (IsSendAt events) place (send.0, (m, slice_get-get_or events index m within ∙ ap (λ e. Some e) (sym is), send.1))

module _ (c : Chart) (invented : List (Option ℕ)) (q : ℕ) where
  -- a later send is known too
  pub known_later : (i j : ℕ) → i ≤ j → IsSend c (at q j) → IsKnownSend c invented q i → IsKnownSend c invented q j
  known_later i j low send known =
      elim (cases_eq i j) [
        | inl same ↦ subst (IsKnownSend c invented q) same known
        | inr other ↦
            record {
              send = send;
              line = known.line;
              index = known.index;
              is = known.is;
              up =
                  inr
                  (before_later_send c send.0 (at (suc known.line) known.index) (at q i) (at q j) known.up
                  (record { line = refl; begun = begun known.send; less = omega (arith, low, other) }) send.1);
            }
      ]
    where
      begun : IsSend c (at q i) → 1 ≤ i
      begun its = go i its.1
        where
          go : (k : ℕ) → IsSendTo c its.0 (at q k) → 1 ≤ k
          go zero send_to = absurd (cc send_to.1)
          go (suc k) send_to = omega arith

  -- the last send decides for all before it
  pub known_last : (count index : ℕ) (r : Bool) → IsLast (IsSendAt (c q)) (count + 1) (Some index) → (IsTrue r ↔ IsKnownSend c invented q index) → IsTrue r ↔ IsKnownBy c invented q count
  known_last count index r last stated = (
    λ yes. (index, (let low = last.0 in omega arith), stated.0 yes),
    λ known.
        elim (cases_lt index known.0) [
          | inl past ↦ let send = known.2 in absurd (last.2 known.0 past (let low = known.1 in omega arith) send.send)
          | inr low ↦ stated.1 (known_later known.0 index low last.1 known.2)
        ],
  )

  pub known_none : (count : ℕ) → IsLast (IsSendAt (c q)) (count + 1) None → IsTrue false ↔ IsKnownBy c invented q count
  known_none count none = (
    λ yes. absurd (false≢true yes),
    λ known. let send = known.2 in absurd (none known.0 (let low = known.1 in omega arith) send.send),
  )

  -- the first 0 events have no known send
  pub none_by_zero : IsKnownBy c invented q 0 → ⊥
  none_by_zero known =
      let send = known.2 in
      let its = send.send in
      let zero_is : known.0 ≡ 0 = let low = known.1 in omega arith in
      none (subst (λ j. IsSend c (at q j)) zero_is its)
    where
      none : IsSend c (at q 0) → ⊥
      none its = let e = its.1.1 in absurd (cc e)

  pub known_never : (count : ℕ) → length (c q) ≤ count → (IsKnownBy c invented q count → ⊥) → IsKnownFrom c invented q None
  known_never count all none j send = (λ known. none (j, (let within = place_within j send in omega arith), known), λ h. absurd h)
    where
      place_within : (j : ℕ) → IsSend c (at q j) → j ≤ length (c q)
      place_within zero its = omega arith
      place_within (suc k) its = let within = slice_get_within (c q) k its.1.0 its.1.1 in omega arith

  pub known_from : (low high : ℕ) → high ≤ low + 1 → (IsKnownBy c invented q low → ⊥) → IsKnownBy c invented q high → IsKnownFrom c invented q (Some high)
  known_from low high near none known j send = (
    λ its.
        elim (cases_lt j high) [
          | inl less ↦ absurd (none (j, omega arith, its))
          | inr past ↦ past
        ],
    λ past. known_later known.0 j (let early = known.1 in omega arith) send known.2,
  )

-- events up to a send, by the first events of the lines
module _ (c : Chart) (invented : List (Option ℕ)) (q j : ℕ) (send : IsSend c (at q j)) (numbered : AreNumbered invented) (fronts : List ℕ) (whole : length fronts ≡ length invented) (reached : IsReached c (at q j) fronts) where
  pub known_reached : IsKnownSend c invented q j ↔ HasInvented invented fronts
  known_reached = (there, back)
    where
      there : IsKnownSend c invented q j → HasInvented invented fronts
      there known =
          let low = numbered known.line known.index known.is in (
            known.line,
            within,
            subst (λ e. IsUpToFirst e (slice_index fronts known.line)) (sym known.is) ((reached (at (suc known.line) known.index) low).0 known.up),
          )
        where
          within : known.line < length fronts
          within =
              elim (cases_lt known.line (length fronts)) [
                | inl less ↦ less
                | inr past ↦ absurd (let none : get_or invented known.line None ≡ None = get_or_past invented known.line None (omega (arith, whole)) in let is = known.is in cc (none, is))
              ]

      back : HasInvented invented fronts → IsKnownSend c invented q j
      back has = go (get_or invented has.0 None) refl has.2
        where
          go : (e : Option ℕ) → get_or invented has.0 None ≡ e → IsUpToFirst e (slice_index fronts has.0) → IsKnownSend c invented q j
          go None is up = absurd up
          go (Some i) is up = record {
            send = send;
            line = has.0;
            index = i;
            is = is;
            up = (reached (at (suc has.0) i) (numbered has.0 i is)).1 up;
          }

-- the events of a line
pub events_of : (lines : List LineView) (place : ℕ) (line : LineView) (events : List Event) → place < length lines → events ≡ line.events → line ≡ get_or lines place line → events ≡ chart_lines lines (suc place)
events_of lines place line events within are is =
    are ∙ ap (λ (l : LineView). l.events) (is ∙ get_or_default lines place line (record { instance = suc place; events = [] }) within)
