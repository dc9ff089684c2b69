-- The table of the other ends of messages, while receives are passed.
use Rattle.std.proofs.Common.{◌≡◌, ℕ, zero, suc, ◌<◌, ◌≤◌, ◌⊎◌, inl, inr, List, [], ◌∷◌, ◌-◌, length, map, replicate, get_or, set, Option, None, Some, refl, sym, ap, ◌∙◌, subst, arith}
use Rattle.std.proofs.lemmas.Bool.{cases_eq, cases_lt}
use Rattle.std.proofs.lemmas.List.{get_or-set_same, get_or-set_other, length-set, length-map, length-replicate}
use Rattle.std.proofs.lemmas.Option.{none-some}
use Rattle.chart.specs.declared.instance.EventNo.{EventNo}
use Rattle.chart.specs.Events.{is_send_to, is_receive_from}
use Rattle.chart.specs.Charts.{Chart, Place, LineView, IsReceiveFrom, BelongsTo, chart_lines}
use Rattle.chart.specs.Places.{IsEvent}
use Rattle.chart.proofs.Belongs.{IsEvent-from_passes, not_both, same_place, same_send, same_receive}
use Rattle.closure.specs.Faults.{place_of}
use Rattle.closure.proofs.ReadLemmas.{instance_within}
use Rattle.chart_layout.specs.Ends.{ends_on, end_in, end_of, IsEnd, AreEnds, IsPassed, IsPart, HasSlot, IsSet}

-- two events with the same place are the same
abbrev pub no_of : Place → EventNo
no_of e = record { instance = e.instance; index = e.index }

same_event : (e f : EventNo) → e.instance ≡ f.instance → e.index ≡ f.index → e ≡ f
same_event e f line number = ap no_of (same_place (place_of e) (place_of f) line number)

one_event : (e f : EventNo) → place_of e ≡ place_of f → e ≡ f
one_event e f same = ap no_of same

module _ (e x : EventNo) (old new : List (List (Option EventNo))) (put : IsSet e x old new) where
  abbrev row : List (Option EventNo)
  row = get_or old put.slot.place []

  own : ends_on new e.instance ≡ set row put.slot.number (Some x)
  own =
      subst (λ p. ends_on new p ≡ set row put.slot.number (Some x)) (sym put.slot.instance)
      (ap (λ ends. ends_on ends (suc put.slot.place)) put.set ∙ get_or-set_same old put.slot.place (set row put.slot.number (Some x)) [] put.slot.within)

  before_own : ends_on old e.instance ≡ row
  before_own = ap (ends_on old) put.slot.instance

  other : (p : ℕ) → (p ≡ e.instance → ⊥) → ends_on new p ≡ ends_on old p
  other zero differs = refl
  other (suc p) differs =
      ap (λ ends. ends_on ends (suc p)) put.set ∙ get_or-set_other old put.slot.place p (set row put.slot.number (Some x)) [] (λ same. differs (ap suc same ∙ sym put.slot.instance))

  pub set-many : length new ≡ length old
  set-many = ap length put.set ∙ length-set old put.slot.place (set row put.slot.number (Some x))

  pub set-shape : (p : ℕ) → length (ends_on new p) ≡ length (ends_on old p)
  set-shape p =
      elim (cases_eq p e.instance) [
        | inl its ↦
            subst (λ q. length (ends_on new q) ≡ length (ends_on old q)) (sym its)
            (ap length own ∙ length-set row put.slot.number (Some x) ∙ ap length (sym before_own))
        | inr differs ↦ ap length (other p differs)
      ]

  pub set-here : end_of new e ≡ Some x
  set-here =
      ap (λ ends. end_in ends e.index) own ∙ ap (end_in (set row put.slot.number (Some x))) put.slot.index
      ∙ get_or-set_same row put.slot.number (Some x) None put.slot.inside

  pub set-there : (f : EventNo) → (f ≡ e → ⊥) → end_of new f ≡ end_of old f
  set-there f differs =
      elim (cases_eq f.instance e.instance) [
        | inr elsewhere ↦ ap (λ ends. end_in ends f.index) (other f.instance elsewhere)
        | inl line ↦
            ap (λ p. end_in (ends_on new p) f.index) line ∙ ap (λ ends. end_in ends f.index) own
            ∙ beside f.index (λ number. differs (same_event f e line number))
            ∙ ap (λ ends. end_in ends f.index) (sym before_own) ∙ ap (λ p. end_in (ends_on old p) f.index) (sym line)
      ]
    where
      beside : (i : ℕ) → (i ≡ e.index → ⊥) → end_in (set row put.slot.number (Some x)) i ≡ end_in row i
      beside zero apart = refl
      beside (suc i) apart = get_or-set_other row put.slot.number i (Some x) None (λ same. apart (ap suc same ∙ sym put.slot.index))

-- the element at a place of a list doesn't depend on the default
get_or_any : {X : Type 0} (xs : List X) (i : ℕ) (d e : X) → i < length xs → get_or xs i d ≡ get_or xs i e
get_or_any [] i d e within = absurd (omega (arith, within))
get_or_any (x ∷ xs) zero d e within = refl
get_or_any (x ∷ xs) (suc i) d e within = get_or_any xs i d e (omega (arith, within))

-- an end was put into the row of its line
pub IsSet-from_row : (e x : EventNo) (old : List (List (Option EventNo))) (place : ℕ) (row new : List (Option EventNo)) → HasSlot old e → e.instance ≡ suc place → row ≡ get_or old place row → new ≡ set row (e.index - 1) (Some x) → IsSet e x old (set old place new)
IsSet-from_row e x old place row new slot line is added = record {
  slot = slot;
  set = ap (λ p. set old p new) same ∙ ap (set old slot.place) (added ∙ ap (λ r. set r (e.index - 1) (Some x)) own ∙ ap (λ i. set (get_or old slot.place []) i (Some x)) number);
}
  where
    same : place ≡ slot.place
    same = omega (arith, line, slot.instance)

    number : e.index - 1 ≡ slot.number
    number = omega (arith, slot.index)

    own : row ≡ get_or old slot.place []
    own = is ∙ ap (λ p. get_or old p row) same ∙ get_or_any old slot.place row [] slot.within

-- each event of the chart has a slot
pub has_slot : (lines : List LineView) (ends : List (List (Option EventNo))) → length ends ≡ length lines → ((q : ℕ) → length (ends_on ends q) ≡ length (chart_lines lines q)) → (e : EventNo) → IsEvent (chart_lines lines) (place_of e) → HasSlot ends e
has_slot lines ends many shape e event = let on = instance_within lines (place_of e) event in go on.0 on.1 on.2 e.index refl
  where
    go : (p : ℕ) → e.instance ≡ suc p → p < length lines → (i : ℕ) → e.index ≡ i → HasSlot ends e
    go p line inside zero is = absurd (omega (arith, event.0, is))
    go p line inside (suc i) is = record {
      place = p;
      number = i;
      instance = line;
      index = is;
      within = omega (arith, many, inside);
      inside = omega (arith, ap (λ q. length (ends_on ends q)) (sym line), shape e.instance, event.1, is);
    }

-- the ends of a message are two events of the chart
pub send_event : (c : Chart) (s r : Place) → BelongsTo c s r → IsEvent c s
send_event c s r belongs = IsEvent-from_passes c (is_send_to r.instance) s belongs.sent

receive_event : (c : Chart) (s r : Place) → BelongsTo c s r → IsEvent c r
receive_event c s r belongs = IsEvent-from_passes c (is_receive_from s.instance) r belongs.received

-- no event is the receive of one message and the send of another
not_ends : (c : Chart) (s r t : Place) → BelongsTo c s r → BelongsTo c r t → ⊥
not_ends c s r t first second = not_both c t.instance s.instance r second.sent first.received

-- a receive that was passed with one more event was passed before, or is that event
passed_more : (p k : ℕ) (r : Place) → IsPassed p (suc k) r → IsPassed p k r ⊎ ((r.instance ≡ suc p) × (r.index ≡ suc k))
passed_more p k r (inl low) = inl (inl low)
passed_more p k r (inr on) =
    elim (cases_lt k r.index) [ inl last ↦ inr (on.0, omega (arith, last, on.1)) | inr earlier ↦ inl (inr (on.0, earlier)) ]

module _ (lines : List LineView) (old : List (List (Option EventNo))) (p k : ℕ) (part : IsPart lines old p k) (r : EventNo) (line : r.instance ≡ suc p) (number : r.index ≡ suc k) where
  abbrev c : Chart
  c = chart_lines lines

  its : (e : EventNo) → (e.instance ≡ suc p) × (e.index ≡ suc k) → e ≡ r
  its e (on, at_k) = same_event e r (on ∙ sym line) (at_k ∙ sym number)

  -- the event is no receive
  pub IsPart-none : ((q : ℕ) → IsReceiveFrom c q (place_of r) → ⊥) → IsPart lines old p (suc k)
  IsPart-none none = record {
    many = part.many;
    shape = part.shape;
    sound = part.sound;
    whole = λ t e belongs passed. elim (passed_more p k (place_of e) passed) [
      | inl before ↦ part.whole t e belongs before
      | inr here ↦ absurd (none t.instance (subst (λ x. IsReceiveFrom c t.instance (place_of x)) (its e here) belongs.received))
    ];
  }

  -- it is the receive of a message
  module _ (s : EventNo) (belongs : BelongsTo c (place_of s) (place_of r)) (half new : List (List (Option EventNo))) (first : IsSet r s old half) (second : IsSet s r half new) where
    apart : s ≡ r → ⊥
    apart same = not_ends c (place_of s) (place_of r) (place_of r) belongs (subst (λ x. BelongsTo c (place_of x) (place_of r)) same belongs)

    at_send : end_of new s ≡ Some r
    at_send = set-here s r half new second

    at_receive : end_of new r ≡ Some s
    at_receive = set-there s r half new second r (λ same. apart (sym same)) ∙ set-here r s old half first

    elsewhere : (e : EventNo) → (e ≡ s → ⊥) → (e ≡ r → ⊥) → end_of new e ≡ end_of old e
    elsewhere e not_s not_r = set-there s r half new second e not_s ∙ set-there r s old half first e not_r

    which : (e : EventNo) → (e ≡ s) ⊎ ((e ≡ r) ⊎ ((e ≡ s → ⊥) × (e ≡ r → ⊥)))
    which e = elim (is_event e s) [ inl same ↦ inl same | inr not_s ↦ elim (is_event e r) [ inl same ↦ inr (inl same) | inr not_r ↦ inr (inr (not_s, not_r)) ] ]
      where
        is_event : (a b : EventNo) → (a ≡ b) ⊎ (a ≡ b → ⊥)
        is_event a b =
            elim (cases_eq a.instance b.instance) [
              | inr differs ↦ inr (λ same. differs (ap (λ (x : EventNo). x.instance) same))
              | inl on ↦ elim (cases_eq a.index b.index) [ inl at_i ↦ inl (same_event a b on at_i) | inr differs ↦ inr (λ same. differs (ap (λ (x : EventNo). x.index) same)) ]
            ]

    one : (a b x : EventNo) → a ≡ b → end_of new b ≡ Some x → (y : EventNo) → end_of new a ≡ Some y → y ≡ x
    one a b x same is y found = same_some y x (sym found ∙ ap (end_of new) same ∙ is)
      where
        same_some : (u v : EventNo) → Some u ≡ Some v → u ≡ v
        same_some u v e = ap (λ (o : Option EventNo). get o u) e
          where
            get : Option EventNo → EventNo → EventNo
            get None d = d
            get (Some w) d = w

    pub IsPart-message : IsPart lines new p (suc k)
    IsPart-message = record {
      many = set-many s r half new second ∙ set-many r s old half first ∙ part.many;
      shape = λ q. set-shape s r half new second q ∙ set-shape r s old half first q ∙ part.shape q;
      sound = sound_more;
      whole = whole_more;
    }
      where
        sound_more : (e x : EventNo) → end_of new e ≡ Some x → IsEnd c (place_of e) (Some x)
        sound_more e x found =
            elim (which e) [
              | inl send ↦
                  inr (subst (λ y. BelongsTo c (place_of e) (place_of y)) (sym (one e s r send at_send x found)) (subst (λ y. BelongsTo c (place_of y) (place_of r)) (sym send) belongs))
              | inr (inl receive) ↦
                  inl (subst (λ y. BelongsTo c (place_of y) (place_of e)) (sym (one e r s receive at_receive x found)) (subst (λ y. BelongsTo c (place_of s) (place_of y)) (sym receive) belongs))
              | inr (inr others) ↦ part.sound e x (sym (elsewhere e others.0 others.1) ∙ found)
            ]

        whole_more : (t e : EventNo) → BelongsTo c (place_of t) (place_of e) → IsPassed p (suc k) (place_of e) → (end_of new t ≡ Some e) × (end_of new e ≡ Some t)
        whole_more t e also passed =
            elim (is_it) [
              | inl receive ↦
                  let send = one_event t s (same_send c (place_of t) (place_of s) (place_of r) (subst (λ y. BelongsTo c (place_of t) (place_of y)) receive also) belongs) in
                  (ap (end_of new) send ∙ at_send ∙ ap (λ y. Some y) (sym receive), ap (end_of new) receive ∙ at_receive ∙ ap (λ y. Some y) (sym send))
              | inr not_r ↦
                  let not_s : t ≡ s → ⊥ = λ same. not_r (one_event e r (same_receive c (place_of s) (place_of e) (place_of r) (subst (λ y. BelongsTo c (place_of y) (place_of e)) same also) belongs)) in
                  let t_not_r : t ≡ r → ⊥ = λ same. not_ends c (place_of s) (place_of r) (place_of e) belongs (subst (λ y. BelongsTo c (place_of y) (place_of e)) same also) in
                  let e_not_s : e ≡ s → ⊥ = λ same. not_ends c (place_of t) (place_of s) (place_of r) (subst (λ y. BelongsTo c (place_of t) (place_of y)) same also) belongs in
                  let before : IsPassed p k (place_of e) = elim (passed_more p k (place_of e) passed) [ inl is ↦ is | inr here ↦ absurd (not_r (its e here)) ] in
                  let known = part.whole t e also before in
                  (elsewhere t not_s t_not_r ∙ known.0, elsewhere e e_not_s not_r ∙ known.1)
            ]
          where
            is_it : (e ≡ r) ⊎ (e ≡ r → ⊥)
            is_it =
                elim (which e) [
                  | inl send ↦ inr (λ same. apart (sym send ∙ same))
                  | inr (inl receive) ↦ inl receive
                  | inr (inr others) ↦ inr others.1
                ]

-- a line whose events were all passed
pub IsPart-line : (lines : List LineView) (ends : List (List (Option EventNo))) (p k : ℕ) → length (chart_lines lines (suc p)) ≤ k → IsPart lines ends p k → IsPart lines ends (suc p) 0
IsPart-line lines ends p k all part = record {
  many = part.many;
  shape = part.shape;
  sound = part.sound;
  whole = λ s r belongs passed. part.whole s r belongs (before s r belongs passed);
}
  where
    before : (s r : EventNo) → BelongsTo (chart_lines lines) (place_of s) (place_of r) → IsPassed (suc p) 0 (place_of r) → IsPassed p k (place_of r)
    before s r belongs (inl low) =
        elim (cases_lt p r.instance) [
          | inl last ↦
              let on : r.instance ≡ suc p = omega (arith, last, low) in
              let event = receive_event (chart_lines lines) (place_of s) (place_of r) belongs in
              inr (on, omega (arith, subst (λ q. r.index ≤ length (chart_lines lines q)) on event.1, all))
          | inr earlier ↦ inl earlier
        ]
    before s r belongs (inr (on, none)) = let event = receive_event (chart_lines lines) (place_of s) (place_of r) belongs in absurd (omega (arith, event.0, none))

-- all lines were passed
pub AreEnds-from_part : (lines : List LineView) (ends : List (List (Option EventNo))) (p k : ℕ) → length lines ≤ p → IsPart lines ends p k → AreEnds (chart_lines lines) ends
AreEnds-from_part lines ends p k all part e = go (end_of ends e) refl
  where
    passed : (s r : Place) → BelongsTo (chart_lines lines) s r → IsPassed p k r
    passed s r belongs = let on = instance_within lines r (receive_event (chart_lines lines) s r belongs) in inl (omega (arith, on.1, on.2, all))

    go : (found : Option EventNo) → end_of ends e ≡ found → IsEnd (chart_lines lines) (place_of e) found
    go (Some x) is = part.sound e x is
    go None is = (
      λ x belongs. none-some (no_of x) (sym is ∙ (part.whole (no_of x) e belongs (passed x (place_of e) belongs)).1),
      λ x belongs. none-some (no_of x) (sym is ∙ (part.whole e (no_of x) belongs (passed (place_of e) x belongs)).0),
    )

-- no end of a line's events is known, or of several lines'
abbrev pub unknown_line : LineView → List (Option EventNo)
unknown_line line = replicate (length line.events) None

abbrev pub unknown_lines : List LineView → List (List (Option EventNo))
unknown_lines lines = map unknown_line lines

none_in : (n i : ℕ) → end_in (replicate n None) i ≡ None
none_in n zero = refl
none_in zero (suc i) = refl
none_in (suc n) (suc zero) = refl
none_in (suc n) (suc (suc i)) = none_in n (suc i)

unknown_at : (lines : List LineView) (p : ℕ) (d : LineView) → d.events ≡ [] → get_or (unknown_lines lines) p [] ≡ unknown_line (get_or lines p d)
unknown_at [] p d none = ap (λ events. replicate (length events) None) (sym none)
unknown_at (line ∷ lines) zero d none = refl
unknown_at (line ∷ lines) (suc p) d none = unknown_at lines p d none

unknown_on : (lines : List LineView) (p : ℕ) → ends_on (unknown_lines lines) p ≡ replicate (length (chart_lines lines p)) None
unknown_on lines zero = refl
unknown_on lines (suc p) = unknown_at lines p (record { instance = suc p; events = [] }) refl

pub IsPart-unknown : (lines : List LineView) → IsPart lines (unknown_lines lines) 0 0
IsPart-unknown lines = record {
  many = length-map lines unknown_line;
  shape = λ q. ap length (unknown_on lines q) ∙ length-replicate {A = Option EventNo} (length (chart_lines lines q)) None;
  sound = λ e x found. absurd (none-some x (sym (none_in (length (chart_lines lines e.instance)) e.index) ∙ ap (λ ends. end_in ends e.index) (sym (unknown_on lines e.instance)) ∙ found));
  whole = λ s r belongs passed. absurd (not_yet s r belongs passed);
}
  where
    not_yet : (s r : EventNo) → BelongsTo (chart_lines lines) (place_of s) (place_of r) → IsPassed 0 0 (place_of r) → ⊥
    not_yet s r belongs passed =
        let event = receive_event (chart_lines lines) (place_of s) (place_of r) belongs in
        let on = instance_within lines (place_of r) event in
        elim passed [ inl low ↦ omega (arith, low, on.1) | inr first ↦ omega (arith, first.1, event.0) ]
