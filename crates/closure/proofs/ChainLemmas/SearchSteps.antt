-- What the search keeps: at its start, when an event was followed, when a send is finished, and at its end.
use Rattle.std.proofs.Common.{◌≡◌, ℕ, zero, suc, ◌+◌, ◌<◌, ◌≤◌, ◌⊎◌, inl, inr, List, [], ◌∷◌, ◌++◌, length, set, replicate, refl, sym, ap, ◌∙◌, subst, arith}
use Rattle.std.specs.Prelude.{slice_get, slice_index}
use Rattle.std.proofs.lemmas.Bool.{cases_eq}
use Rattle.std.proofs.lemmas.Option.{slice_get_within, same_Some}
use Rattle.std.proofs.lemmas.List.{get_or-set_same, length-append}
use Rattle.chart.specs.Events.{is_send_to, is_receive_from}
use Rattle.chart.specs.Charts.{Chart, Place, at, LineView, IsReceiveFrom, BelongsTo, chart_lines}
use Rattle.chart.specs.Order.{IsEarlier}
use Rattle.chart.specs.declared.instance.EventNo.{EventNo}
use Rattle.chart.proofs.Belongs.{IsEvent-from_passes, same_place, same_send}
use Rattle.chart.proofs.Places.{slice_get-append, slice_get-append_last, each-push}
use Rattle.closure.specs.Faults.{place_of}
use Rattle.closure.specs.Rows.{entry}
use Rattle.closure.proofs.ReadLemmas.{instance_within}
use Rattle.closure.proofs.RunLemmas.{entry-raised}
use Rattle.closure.proofs.SearchLemmas.{entry-zeros}
use Rattle.closure.specs.declared.chain.reaching.Reached.{Reached}
use Rattle.closure.specs.Chain.Reaching.{IsAt, IsOnTheWay, IsFollowed, IsSearching, AreAll, HasFollowed}

-- the sends that were found keep their numbers
at_more : (found : List Reached) (y : Reached) (i : ℕ) (x : Reached) → IsAt found i x → IsAt (found ++ y ∷ []) i x
at_more found y i x here = slice_get-append found (y ∷ []) i (slice_get_within found i x here) ∙ here

-- only the first send was found
pub searching-first : (c : Chart) (r : Place) (x : Reached) (n : ℕ) → BelongsTo c (place_of x.send) (place_of x.receive) → place_of x.receive ≡ r → x.depth ≡ 0 → IsSearching c r (x ∷ []) (replicate n 0) 0
searching-first c r x n belongs there none = record {
  trail = record {
    each = λ i y here. each_one i y here;
    first = (x, refl);
    rising = λ i j y z low here there'. let a = only i y here in let b = only j z there' in let e = ap (λ (w : Reached). w.depth) (sym a.1 ∙ b.1) in omega (arith, e);
  };
  marked = λ e s its seen. let event = IsEvent-from_passes c (is_receive_from s.instance) e its.received in absurd (omega (arith, event.0, seen, entry-zeros n e.instance));
  near = λ i j y z low here there'. let b = only j z there' in let e = ap (λ (w : Reached). w.depth) b.1 in omega (arith, e, none);
  done = λ i y low here. absurd (omega arith);
}
  where
    only : (i : ℕ) (y : Reached) → IsAt (x ∷ []) i y → (i ≡ 0) × (x ≡ y)
    only zero y here = (refl, same_Some x y here)
    only (suc i) y here = cc

    each_one : (i : ℕ) (y : Reached) → IsAt (x ∷ []) i y → IsOnTheWay c r (x ∷ []) i y
    each_one i y here =
        let a = only i y here in
        subst (λ w. IsOnTheWay c r (x ∷ []) i w) a.1 (record { belongs = belongs; onward = inl (a.0, there, none); low = omega (arith, none) })

module _ (c : Chart) (r : Place) (found : List Reached) (seen : List ℕ) (head : ℕ) (old : IsSearching c r found seen head) where
  -- all events above the head were seen
  pub searching-done : (x : Reached) → IsAt found head x → x.send.index ≤ entry seen x.send.instance + 1 → IsSearching c r found seen (head + 1)
  searching-done x here all = record {
    trail = old.trail;
    marked = old.marked;
    near = λ i j y z low at_i at_j. old.near i j y z (omega arith) at_i at_j;
    done = λ i y low at_i. elim (cases_eq i head) [
      | inr differs ↦ old.done i y (omega arith) at_i
      | inl e ↦ subst (IsFollowed c found) (same_Some x y (sym here ∙ ap (slice_get found) (sym e) ∙ at_i)) followed
    ];
  }
    where
      followed : IsFollowed c found x
      followed e s its earlier =
          let w = old.marked e s its (subst (λ p. e.index ≤ entry seen p) (sym earlier.line) (let less = earlier.less in omega arith)) in
          (w.0, w.1, w.2, w.3, old.near head w.0 x w.1 (omega arith) here w.2)

  module _ (p : ℕ) (inside : p < length seen) where
    abbrev k : ℕ
    k = slice_index seen p

    -- the numbers with one more event of the line
    abbrev more : List ℕ
    more = set seen p (k + 1)

    -- an event that was seen before, or this one
    seen_before : (e : Place) → e.index ≤ entry more e.instance → (e.index ≤ entry seen e.instance) ⊎ (e ≡ at (suc p) (k + 1))
    seen_before e within =
        elim (cases_eq e.instance (suc p)) [
          | inr differs ↦ let same = entry-raised seen p (k + 1) e.instance differs in inl (omega (arith, same))
          | inl line ↦
              let new : entry more e.instance ≡ k + 1 = ap (entry more) line ∙ get_or-set_same seen p (k + 1) 0 inside in
              elim (cases_eq e.index (k + 1)) [
                | inl last ↦ inr (same_place e (at (suc p) (k + 1)) line last)
                | inr below ↦ inl (subst (λ q. e.index ≤ entry seen q) (sym line) (omega (arith, new)))
              ]
        ]

    -- the event is no receive
    pub searching-other : ((q : ℕ) → IsReceiveFrom c q (at (suc p) (k + 1)) → ⊥) → IsSearching c r found more head
    searching-other none = record {
      trail = old.trail;
      marked = λ e s its within. elim (seen_before e within) [
        | inl before ↦ old.marked e s its before
        | inr same ↦ absurd (none s.instance (subst (IsReceiveFrom c s.instance) same its.received))
      ];
      near = old.near;
      done = old.done;
    }

    module _ (x : Reached) (send event : EventNo) (here : IsAt found head x) (is : place_of event ≡ at (suc p) (k + 1)) (belongs : BelongsTo c (place_of send) (place_of event)) (above : IsEarlier (place_of event) (place_of x.send)) where
      abbrev y : Reached
      y = record { send = send; receive = event; next = head; depth = x.depth + 1 }

      abbrev longer : List Reached
      longer = found ++ y ∷ []

      last : IsAt longer (length found) y
      last = slice_get-append_last found y

      way_more : (i : ℕ) (z : Reached) → IsAt found i z → IsOnTheWay c r longer i z
      way_more i z at_i =
          let way = old.trail.each i z at_i in
          record {
            belongs = way.belongs;
            onward = elim way.onward [ inl w ↦ inl w | inr w ↦ inr (w.0, w.1, at_more found y z.next w.0 w.2, w.3, w.4) ];
            low = way.low;
          }

      -- the event is a receive, whose send is found from the head
      pub searching-receive : IsSearching c r longer more head
      searching-receive = record {
        trail = record {
          each = each-push (IsOnTheWay c r longer) found y way_more (record {
            belongs = belongs;
            onward = inr (x, slice_get_within found head x here, at_more found y head x here, above, refl);
            low = let a = slice_get_within found head x here in let b = (old.trail.each head x here).low in omega arith;
          });
          first = (old.trail.first.0, at_more found y 0 old.trail.first.0 old.trail.first.1);
          rising = λ i j a b low at_i at_j. rising_more i j a b low at_i at_j;
        };
        marked = λ e s its within. elim (seen_before e within) [
          | inl before ↦ let w = old.marked e s its before in (w.0, w.1, at_more found y w.0 w.1 w.2, w.3)
          | inr same ↦ (length found, y, last, same_send c (place_of send) s (place_of event) belongs (subst (BelongsTo c s) (same ∙ sym is) its))
        ];
        near = λ i j a b low at_i at_j. near_more i j a b low at_i at_j;
        done = λ i a low at_i. done_more i a low at_i;
      }
        where
          within : head < length found
          within = slice_get_within found head x here

          -- one of the earlier sends, or the new one
          which : (i : ℕ) (z : Reached) → IsAt longer i z → IsAt found i z ⊎ ((i ≡ length found) × (z ≡ y))
          which = each-push (λ i z. IsAt found i z ⊎ ((i ≡ length found) × (z ≡ y))) found y (λ i z at_i. inl at_i) (inr (refl, refl))

          depth_of : (z : Reached) → z ≡ y → z.depth ≡ x.depth + 1
          depth_of z e = ap (λ (w : Reached). w.depth) e

          rising_more : (i j : ℕ) (a b : Reached) → i ≤ j → IsAt longer i a → IsAt longer j b → a.depth ≤ b.depth
          rising_more i j a b low at_i at_j =
              elim (which j b at_j) [
                | inl b_in ↦
                    elim (which i a at_i) [
                      | inl a_in ↦ old.trail.rising i j a b low a_in b_in
                      | inr w ↦ let n = slice_get_within found j b b_in in absurd (omega (arith, w.0))
                    ]
                | inr w ↦
                    elim (which i a at_i) [
                      | inl a_in ↦ let n = old.near head i x a (omega arith) here a_in in let d = depth_of b w.1 in omega (arith, n, d)
                      | inr v ↦ let d = depth_of b w.1 in let f = depth_of a v.1 in omega (arith, d, f)
                    ]
              ]

          near_more : (i j : ℕ) (a b : Reached) → head ≤ i → IsAt longer i a → IsAt longer j b → b.depth ≤ a.depth + 1
          near_more i j a b low at_i at_j =
              let least : x.depth ≤ a.depth = elim (which i a at_i) [
                | inl a_in ↦ old.trail.rising head i x a low here a_in
                | inr w ↦ let d = depth_of a w.1 in omega (arith, d)
              ] in
              let most : b.depth ≤ x.depth + 1 = elim (which j b at_j) [
                | inl b_in ↦ old.near head j x b (omega arith) here b_in
                | inr w ↦ let d = depth_of b w.1 in omega (arith, d)
              ] in
              omega arith

          done_more : (i : ℕ) (a : Reached) → i < head → IsAt longer i a → IsFollowed c longer a
          done_more i a low at_i e s its earlier =
              elim (which i a at_i) [
                | inl a_in ↦ let w = old.done i a low a_in e s its earlier in (w.0, w.1, at_more found y w.0 w.1 w.2, w.3, w.4)
                | inr w ↦ absurd (omega (arith, w.0, within))
              ]

  -- the event was followed, whatever its kind
  pub searching-followed : (p : ℕ) (x : Reached) (event : EventNo) (new : List Reached) → p < length seen → IsAt found head x → place_of event ≡ at (suc p) (slice_index seen p + 1) → IsEarlier (place_of event) (place_of x.send) → HasFollowed c event head found new
      → IsSearching c r new (set seen p (slice_index seen p + 1)) head
  searching-followed p x event new inside here is above (inl (none, same)) =
      subst (λ (xs : List Reached). IsSearching c r xs (set seen p (slice_index seen p + 1)) head) (sym same) (searching-other p inside (λ q received. none q (subst (IsReceiveFrom c q) (sym is) received)))
  searching-followed p x event new inside here is above (inr (send, z, belongs, at_z, grown)) =
      let one = same_Some x z (sym here ∙ at_z) in
      let longer = searching-receive p inside x send event here is belongs above in
      subst (λ (xs : List Reached). IsSearching c r xs (set seen p (slice_index seen p + 1)) head) (ap (λ (w : Reached). found ++ record { send = send; receive = event; next = head; depth = w.depth + 1 } ∷ []) one ∙ sym grown) longer

  -- all sends are finished
  pub AreAll-from_searching : length found ≤ head → AreAll c r found
  AreAll-from_searching whole = record {
    trail = old.trail;
    followed = λ i x here. old.done i x (let w = slice_get_within found i x here in omega arith) here;
  }

-- the place of the send at the head
pub head_place : (lines : List LineView) (r : Place) (found : List Reached) (seen : List ℕ) (head p : ℕ) (x : Reached) → IsSearching (chart_lines lines) r found seen head → IsAt found head x → x.send.instance ≡ suc p
    → (p < length lines) × (1 ≤ x.send.index) × (x.send.index ≤ length (chart_lines lines (suc p)))
head_place lines r found seen head p x old here is =
    let sent = (old.trail.each head x here).belongs.sent in
    let event = IsEvent-from_passes (chart_lines lines) (is_send_to x.receive.instance) (place_of x.send) sent in
    let w = instance_within lines (place_of x.send) event in
    (omega (arith, w.1, w.2, is), event.0, subst (λ q. x.send.index ≤ length (chart_lines lines q)) is event.1)

-- at most one more send was found
pub followed_length : (c : Chart) (event : EventNo) (number : ℕ) (old new : List Reached) → HasFollowed c event number old new → (length old ≤ length new) × (length new ≤ length old + 1)
followed_length c event number old new (inl (none, same)) = let e = ap (λ (l : List Reached). length l) same in (omega (arith, e), omega (arith, e))
followed_length c event number old new (inr (send, x, belongs, here, grown)) =
    let e = ap (λ (l : List Reached). length l) grown in
    let m = length-append old (record { send = send; receive = event; next = number; depth = x.depth + 1 } ∷ []) in
    (omega (arith, e, m), omega (arith, e, m))
