-- Seats that are split, joined and met: the rule still holds when the seats' knowledge is divided differently.
use Rattle.std.proofs.Common.{◌≡◌, ◌≢◌, ℕ, zero, suc, ◌+◌, ◌-◌, ◌<◌, ◌≤◌, ◌⊎◌, inl, inr, ⊎_elim, true, false, cond, ◌==◌, List, [], ◌∷◌, ◌++◌, length, drop, get_or, set, refl, sym, ap, ap₂, ◌∙◌, subst, subst₂, arith, length-append}
use Rattle.std.specs.Prelude.{Option, None, leb, map, replicate, slice_index}
use Rattle.std.proofs.lemmas.List.{set-get_or, length-set, length-map, length-replicate}
use Rattle.std.proofs.lemmas.Bool.{eq-eqb, ne_eqb}
use Rattle.std.proofs.lemmas.Bool.Decides.{leb_tells}
use mathlib.Core.Option.{some, some-injective, some-ne-none}
use lib.ListN.{get_elem?}
use Rattle.atomic_table.specs.Table.{State, Act, Valid, Allows, Splits, Joins, keeps, stepped, carried_after, opening}
use Rattle.atomic_table.proofs.Lists.{at_set}
use Rattle.chart.specs.declared.history.Occurrence.{Occurrence}
use Rattle.chart.specs.declared.history.Occurrence.TheVariants.{Send, Receive, Close}
use Rattle.chart.specs.Histories.{own, IsLegal, Begins}
use Rattle.chart.proofs.Histories.{begins_same, own_begins}
use Rattle.board_table.specs.declared.packet.Packet.{Packet}
use Rattle.board_table.specs.declared.held.Held.{Held}
use Rattle.board_table.specs.Layout.{board_lane, put_word, taken_word, word_count, slot_of, slot_count}
use Rattle.board_table.specs.Knowing.{Mine, new_held, longer, met, note_of}
use Rattle.board_table.specs.Rule.{IsLane, Seating, Fits, Kept, new_helds}
use Rattle.board_table.specs.Plays.{MeetsBeside}
use Rattle.board_table.proofs.Carried.{at_append}
use Rattle.board_table.proofs.Keeping.{lane_now, one_entry}
use Rattle.board_table.proofs.Places.{slot_within}

-- The shorter of two beginnings of one history begins the longer.

same_tail : (a b : List Occurrence) (g h : List Occurrence) → a ++ g ≡ b ++ h → length g ≤ length h → Begins g h
same_tail a [] g h same le = (a, sym same)
same_tail [] (y ∷ b) g h same le = absurd (omega (arith, ap length same, length-append b h))
same_tail (x ∷ a) (y ∷ b) g h same le = same_tail a b g h (ap (drop 1) same) le

pub shorter_begins : (g h f : List Occurrence) → Begins g f → Begins h f → length g ≤ length h → Begins g h
shorter_begins g h f (a, one) (b, two) le = same_tail a b g h (sym one ∙ two) le

-- if each begins the other, they are equal
pub begins_both : (g h : List Occurrence) → Begins g h → Begins h g → g ≡ h
begins_both g h ([], same) back = sym same
begins_both g h (x ∷ more, same) (rest, back) = absurd (omega (arith, ap length same, ap length back, length-append more g, length-append rest h))

pub longer_is : (g h : List Occurrence) → ((longer g h ≡ h) × (length g ≤ length h)) ⊎ ((longer g h ≡ g) × (length h < length g))
longer_is g h = go (leb_tells (length g) (length h))
  where
    go : ((leb (length g) (length h) ≡ true) × (length g ≤ length h)) ⊎ ((leb (length g) (length h) ≡ false) × (length h < length g)) → ((longer g h ≡ h) × (length g ≤ length h)) ⊎ ((longer g h ≡ g) × (length h < length g))
    go (inl t) = inl (ap (λ b. cond b h g) t.0, t.1)
    go (inr f) = inr (ap (λ b. cond b h g) f.0, f.1)

-- only the instances make events
pub own_outside : (n k : ℕ) (h : List Occurrence) (b : ℕ) → IsLegal n k h → n < b → own h b ≡ []
own_outside n k [] b legal out = refl
own_outside n k (Send p q m ∷ h) b legal out = ap (λ its. cond its (Send p q m ∷ own h b) (own h b)) (ne_eqb p b (λ same. absurd (omega (arith, same, legal.0.0.1)))) ∙ own_outside n k h b legal.1 out
own_outside n k (Receive p q c ∷ h) b legal out = ap (λ its. cond its (Receive p q c ∷ own h b) (own h b)) (ne_eqb p b (λ same. absurd (omega (arith, same, legal.0.0.1)))) ∙ own_outside n k h b legal.1 out
own_outside n k (Close p q ∷ h) b legal out = ap (λ its. cond its (Close p q ∷ own h b) (own h b)) (ne_eqb p b (λ same. absurd (omega (arith, same, legal.0.0.1)))) ∙ own_outside n k h b legal.1 out

module _ (n k : ℕ) where
  pub kept_views : (s : State (Option Packet) (List Held)) (r : Kept n k s) (seats : Seating) (views : List (List Held)) → seats.filling ≡ r.seats.filling → seats.emptying ≡ r.seats.emptying → ((id place : ℕ) (v : List Held) (e : Held) → get_elem? views id ≡ some v → get_elem? v place ≡ some e → Fits n k r.log seats id place e)
      → Kept n k record { words = s.words; homes = s.homes; views = views }
  kept_views s r seats views fills empties entries = record {
    log = r.log;
    seats = seats;
    packets = r.packets;
    legal = r.legal;
    words_are = r.words_are;
    slots_are = r.slots_are;
    lanes = λ q p two. subst₂ (λ f g. IsLane (board_lane n k q p) r.log (lane_now (r.packets q p) (f q p) (g q p)) s.words s.homes) (sym fills) (sym empties) (r.lanes q p two);
    entries = entries;
  }

  -- the place of a view, in the views of a table with one changed and one added
  pub in_views : (views : List (List Held)) (id : ℕ) (left right : List Held) (j : ℕ) (v : List Held) → get_elem? (set views id left ++ right ∷ []) j ≡ some v → ((j ≡ id) × (left ≡ v)) ⊎ (((j ≢ id) × (get_elem? views j ≡ some v)) ⊎ ((j ≡ length views) × (right ≡ v)))
  in_views views id left right j v at = ⊎_elim
      (λ old. ⊎_elim (λ here. inl here) (λ there. inr (inl there)) (at_set views id j left v old.1))
      (λ new. inr (inr (last new.0 new.2 new.1)))
      (at_append (set views id left) (right ∷ []) j v at)
    where
      last : (i : ℕ) → get_elem? (right ∷ []) i ≡ some v → j ≡ length (set views id left) + i → (j ≡ length views) × (right ≡ v)
      last zero is same = (omega (arith, same, length-set views id left), some-injective right v is)
      last (suc i) is same = absurd (some-ne-none v (sym is))

  one_of : (f e : Held) (place : ℕ) → get_elem? (f ∷ []) place ≡ some e → f ≡ e
  one_of f e place at = (one_entry f e place at).1

  -- a note agrees with the rule at any seat
  pub fits_note : (log : List Occurrence) (seats : Seating) (id place : ℕ) (e : Held) → e.instances ≡ n → e.capacity ≡ k → n < e.number → e.made ≡ [] → IsLegal n k log → Begins e.seen log → IsLegal n k e.seen → Fits n k log seats id place e
  fits_note log seats id place e instances capacity out none whole seen legal = record {
    instances = instances;
    capacity = capacity;
    seen = seen;
    legal = legal;
    made = own_outside n k log e.number whole out ∙ sym none;
    own = own_outside n k e.seen e.number legal out ∙ sym none;
    seated = λ low high. absurd (omega (arith, out, high));
  }

  -- a post that fits at a seat and place still fits when it knows more of the history
  pub fits_more : (log : List Occurrence) (seats : Seating) (id place : ℕ) (e : Held) (h : List Occurrence) → Begins e.seen h → Begins h log → IsLegal n k h → Fits n k log seats id place e → Fits n k log seats id place (record e { seen = h })
  fits_more log seats id place e h before after legal old = record {
    instances = old.instances;
    capacity = old.capacity;
    seen = after;
    legal = legal;
    made = old.made;
    own = sym (begins_both (own e.seen e.number) (own h e.number) (own_begins e.seen h before e.number) (subst (λ x. Begins (own h e.number) x) (old.made ∙ sym old.own) (own_begins h log after e.number))) ∙ old.own;
    seated = λ low high. let its = old.seated low high in record { here = its.here; fills = its.fills; empties = its.empties };
  }

  pub copies : (id : ℕ) (e : Held) → e.instances ≡ n → e.capacity ≡ k → Splits (Kept n k) id (e ∷ []) (e ∷ []) (note_of e ∷ [])
  copies id e instances capacity s r at = kept_views s r r.seats (set s.views id (e ∷ []) ++ (note_of e ∷ []) ∷ []) refl refl (λ j place v w there is. ⊎_elim
      (λ here. r.entries j place v w (ap (get_elem? s.views) here.0 ∙ at ∙ ap some here.1) is)
      (λ more. ⊎_elim
      (λ away. r.entries j place v w away.1 is)
      (λ new. subst (λ x. Fits n k r.log r.seats j place x) (one_of (note_of e) w place (ap (λ l. get_elem? l place) new.1 ∙ is))
      (fits_note r.log r.seats j place (note_of e) instances capacity (omega (arith, instances)) refl r.legal mine.seen mine.legal))
      more)
      (in_views s.views id (e ∷ []) (note_of e ∷ []) j v there))
    where
      mine : Fits n k r.log r.seats id 0 e
      mine = r.entries id 0 (e ∷ []) e at refl

  -- the two entries of a view
  two_of : (P : ℕ → Held → Type 0) (e f : Held) → P 0 e → P 1 f → (place : ℕ) (w : Held) → get_elem? (e ∷ f ∷ []) place ≡ some w → P place w
  two_of P e f one two zero w is = subst (P 0) (some-injective e w is) one
  two_of P e f one two (suc zero) w is = subst (P 1) (some-injective f w is) two
  two_of P e f one two (suc (suc place)) w is = absurd (some-ne-none w (sym is))

  pub joins : (id : ℕ) (e : Held) (other : ℕ) (note : Held) → n < note.number → note.made ≡ [] → Joins (Kept n k) id (e ∷ []) other (note ∷ []) (e ∷ note ∷ []) []
  joins id e other note out none s r at ne there = kept_views s r r.seats (set (set s.views id (e ∷ note ∷ [])) other []) refl refl (λ j place v w is_v is. ⊎_elim
      (λ spent. absurd (some-ne-none w (sym (ap (λ l. get_elem? l place) spent.1 ∙ is))))
      (λ more. ⊎_elim
      (λ here. both j place v w here is)
      (λ away. r.entries j place v w away.1 is)
      (at_set s.views id j (e ∷ note ∷ []) v more.1))
      (at_set (set s.views id (e ∷ note ∷ [])) other j [] v is_v))
    where
      mine : Fits n k r.log r.seats id 0 e
      mine = r.entries id 0 (e ∷ []) e at refl

      its : get_elem? s.views other ≡ some (note ∷ [])
      its = ⊎_elim (λ same. absurd (ne same.0)) (λ away. away.1) (at_set s.views id other (e ∷ note ∷ []) (note ∷ []) there)

      old : Fits n k r.log r.seats other 0 note
      old = r.entries other 0 (note ∷ []) note its refl

      both : (j place : ℕ) (v : List Held) (w : Held) → (j ≡ id) × (e ∷ note ∷ [] ≡ v) → get_elem? v place ≡ some w → Fits n k r.log r.seats j place w
      both j place v w (same, view) is =
          subst (λ x. Fits n k r.log r.seats x place w) (sym same)
          (two_of (λ x y. Fits n k r.log r.seats id x y) e note mine (fits_note r.log r.seats id 1 note old.instances old.capacity out none r.legal old.seen old.legal) place w (ap (λ l. get_elem? l place) view ∙ is))

  pub meets : (slots id i : ℕ) (e note : Held) (out : List (ℕ × Option Packet)) → e.instances ≡ n → e.capacity ≡ k → n < note.number → note.made ≡ [] → let me : Mine = (e ∷ note ∷ [], out) in Allows (Kept n k) slots id me i (λ x. x) (λ x w. MeetsBeside me w)
  meets slots id i e note out instances capacity above none s r size at bound = go (longer_is e.seen note.seen)
    where
      mine : Fits n k r.log r.seats id 0 e
      mine = r.entries id 0 (e ∷ note ∷ []) e at refl

      its : Fits n k r.log r.seats id 1 note
      its = r.entries id 1 (e ∷ note ∷ []) note at refl

      both : Begins e.seen (longer e.seen note.seen) → Begins note.seen (longer e.seen note.seen) → Begins (longer e.seen note.seen) r.log → IsLegal n k (longer e.seen note.seen)
          → (w : List Held) × (a : Act (Option Packet)) × Valid s.homes out a × Kept n k (stepped s i (slice_index s.words i) id out w a) × MeetsBeside (e ∷ note ∷ [], out) (w, carried_after out a)
      both one two whole legal = (
        met e note ∷ record note { seen = longer e.seen note.seen } ∷ [],
        keeps,
        tt,
        subst (λ ws. Kept n k record { words = ws; homes = s.homes; views = set s.views id (met e note ∷ record note { seen = longer e.seen note.seen } ∷ []) }) (sym (set-get_or s.words i 0))
            (kept_views s r r.seats (set s.views id (met e note ∷ record note { seen = longer e.seen note.seen } ∷ [])) refl refl (λ j place v w is_v is. ⊎_elim
            (λ here. subst (λ x. Fits n k r.log r.seats x place w) (sym here.0)
            (two_of (λ x y. Fits n k r.log r.seats id x y) (met e note) (record note { seen = longer e.seen note.seen })
            (fits_more r.log r.seats id 0 e (longer e.seen note.seen) one whole legal mine)
            (fits_note r.log r.seats id 1 (record note { seen = longer e.seen note.seen }) its.instances its.capacity above none r.legal whole legal)
            place w (ap (λ l. get_elem? l place) here.1 ∙ is)))
            (λ away. r.entries j place v w away.1 is)
            (at_set s.views id j (met e note ∷ record note { seen = longer e.seen note.seen } ∷ []) v is_v))),
        (
          record {
            seen = refl;
            later = one;
            later_note = two;
            legal = subst (λ z. IsLegal z e.capacity (longer e.seen note.seen)) (sym instances) (subst (λ z. IsLegal n z (longer e.seen note.seen)) (sym capacity) legal);
            own = (fits_more r.log r.seats id 0 e (longer e.seen note.seen) one whole legal mine).own;
            rest = refl;
          },
          refl,
        ),
      )

      go : ((longer e.seen note.seen ≡ note.seen) × (length e.seen ≤ length note.seen)) ⊎ ((longer e.seen note.seen ≡ e.seen) × (length note.seen < length e.seen))
          → (w : List Held) × (a : Act (Option Packet)) × Valid s.homes out a × Kept n k (stepped s i (slice_index s.words i) id out w a) × MeetsBeside (e ∷ note ∷ [], out) (w, carried_after out a)
      go (inl (same, le)) = both (subst (Begins e.seen) (sym same) (shorter_begins e.seen note.seen r.log mine.seen its.seen le)) (subst (Begins note.seen) (sym same) (begins_same note.seen)) (subst (λ x. Begins x r.log) (sym same) its.seen) (subst (IsLegal n k) (sym same) its.legal)
      go (inr (same, lt)) = both (subst (Begins e.seen) (sym same) (begins_same e.seen)) (subst (Begins note.seen) (sym same) (shorter_begins note.seen e.seen r.log its.seen mine.seen (omega (arith, lt)))) (subst (λ x. Begins x r.log) (sym same) mine.seen) (subst (IsLegal n k) (sym same) mine.legal)

  pub parts : (id : ℕ) (e note : Held) → n < note.number → note.made ≡ [] → Splits (Kept n k) id (e ∷ note ∷ []) (e ∷ []) (note ∷ [])
  parts id e note above none s r at = kept_views s r r.seats (set s.views id (e ∷ []) ++ (note ∷ []) ∷ []) refl refl (λ j place v w there is. ⊎_elim
      (λ here. let one = one_entry e w place (ap (λ l. get_elem? l place) here.1 ∙ is) in
      subst (λ x. Fits n k r.log r.seats x place w) (sym here.0) (subst (λ x. Fits n k r.log r.seats id x w) (sym one.0) (subst (λ x. Fits n k r.log r.seats id 0 x) one.1 mine)))
      (λ more. ⊎_elim
      (λ away. r.entries j place v w away.1 is)
      (λ new. subst (λ x. Fits n k r.log r.seats j place x) (one_of note w place (ap (λ l. get_elem? l place) new.1 ∙ is))
      (fits_note r.log r.seats j place note its.instances its.capacity above none r.legal its.seen its.legal))
      more)
      (in_views s.views id (e ∷ []) (note ∷ []) j v there))
    where
      mine : Fits n k r.log r.seats id 0 e
      mine = r.entries id 0 (e ∷ note ∷ []) e at refl

      its : Fits n k r.log r.seats id 1 note
      its = r.entries id 1 (e ∷ note ∷ []) note at refl

  -- the first of several posts gets a seat of its own, the last one
  abbrev dealt : ℕ → ℕ → ℕ × ℕ → ℕ × ℕ
  dealt id last x = cond (x.0 == id) (cond (x.1 == 0) (last, 0) (id, x.1 - 1)) x

  abbrev dealt_seats : ℕ → ℕ → Seating → Seating
  dealt_seats id last seats = record seats { seat = λ x. dealt id last (seats.seat x) }

  pub deals : (id : ℕ) (e : Held) (es : List Held) → Splits (Kept n k) id (e ∷ es) es (e ∷ [])
  deals id e es s r at = kept_views s r (dealt_seats id (length s.views) r.seats) (set s.views id es ++ (e ∷ []) ∷ []) refl refl (λ j place v w there is. ⊎_elim
      (λ here. rest j place v w here is)
      (λ more. ⊎_elim (λ away. others j place v w away is) (λ new. first j place v w new is) more)
      (in_views s.views id es (e ∷ []) j v there))
    where
      moved : (j place j' place' : ℕ) (w : Held) → ((j, place) ≡ r.seats.seat w.number → dealt id (length s.views) (r.seats.seat w.number) ≡ (j', place')) → Fits n k r.log r.seats j place w → Fits n k r.log (dealt_seats id (length s.views) r.seats) j' place' w
      moved j place j' place' w goes old = record {
        instances = old.instances;
        capacity = old.capacity;
        seen = old.seen;
        legal = old.legal;
        made = old.made;
        own = old.own;
        seated = λ low high. let its = old.seated low high in record { here = goes (sym its.here); fills = its.fills; empties = its.empties };
      }

      to : (j place : ℕ) (x : ℕ × ℕ) (y : ℕ × ℕ) → (j, place) ≡ x → dealt id (length s.views) (j, place) ≡ y → dealt id (length s.views) x ≡ y
      to j place x y same goes = ap (dealt id (length s.views)) (sym same) ∙ goes

      rest : (j place : ℕ) (v : List Held) (w : Held) → (j ≡ id) × (es ≡ v) → get_elem? v place ≡ some w → Fits n k r.log (dealt_seats id (length s.views) r.seats) j place w
      rest j place v w (same, view) is = moved id (suc place) j place w
          (λ seat. to id (suc place) (r.seats.seat w.number) (j, place) seat (ap (λ b. cond b (cond (suc place == 0) (length s.views, 0) (id, suc place - 1)) (id, suc place)) (eq-eqb id id refl) ∙ ap (λ b. cond b (length s.views, 0) (id, suc place - 1)) (ne_eqb (suc place) 0 (λ z. absurd (omega (arith, z)))) ∙ ap₂ (λ (a b : ℕ). (a, b)) (sym same) (let z : suc place - 1 ≡ place = omega arith in z)))
          (r.entries id (suc place) (e ∷ es) w at (ap (λ l. get_elem? l place) view ∙ is))

      others : (j place : ℕ) (v : List Held) (w : Held) → (j ≢ id) × (get_elem? s.views j ≡ some v) → get_elem? v place ≡ some w → Fits n k r.log (dealt_seats id (length s.views) r.seats) j place w
      others j place v w (ne, there) is = moved j place j place w
          (λ seat. to j place (r.seats.seat w.number) (j, place) seat (ap (λ b. cond b (cond (place == 0) (length s.views, 0) (id, place - 1)) (j, place)) (ne_eqb j id ne)))
          (r.entries j place v w there is)

      first : (j place : ℕ) (v : List Held) (w : Held) → (j ≡ length s.views) × (e ∷ [] ≡ v) → get_elem? v place ≡ some w → Fits n k r.log (dealt_seats id (length s.views) r.seats) j place w
      first j place v w (last, view) is =
          let one = one_entry e w place (ap (λ l. get_elem? l place) view ∙ is) in
          subst (λ x. Fits n k r.log (dealt_seats id (length s.views) r.seats) j place x) one.1
          (moved id 0 j place e
          (λ seat. to id 0 (r.seats.seat e.number) (j, place) seat (ap (λ b. cond b (length s.views, 0) (id, 0)) (eq-eqb id id refl) ∙ ap₂ (λ (a b : ℕ). (a, b)) (sym last) (sym one.0)))
          (r.entries id 0 (e ∷ es) e at refl))

  -- the new table
  zero_at : (many i : ℕ) → ◌≡◌ {A = ℕ} (get_or (replicate many 0) i 0) 0
  zero_at zero i = refl
  zero_at (suc many) zero = refl
  zero_at (suc many) (suc i) = zero_at many i

  abbrev nothing : Option Packet
  nothing = None

  none_at : (many i : ℕ) → i < many → get_elem? (map some (replicate many nothing)) i ≡ some (some nothing)
  none_at zero i less = absurd (omega arith)
  none_at (suc many) zero less = refl
  none_at (suc many) (suc i) less = none_at many i (omega arith)

  new_at : (many number place : ℕ) (e : Held) → get_elem? (new_helds n k number many) place ≡ some e → e ≡ new_held n k (number + place)
  new_at zero number place e is = absurd (some-ne-none e (sym is))
  new_at (suc many) number zero e is = sym (some-injective (new_held n k number) e is) ∙ ap (new_held n k) (let z : number ≡ number + 0 = omega arith in z)
  new_at (suc many) number (suc place) e is = new_at many (suc number) place e is ∙ ap (new_held n k) (let z : suc number + place ≡ number + suc place = omega arith in z)

  -- all posts are at one seat, and no slot is out
  abbrev opening_seats : Seating
  opening_seats = record { seat = λ x. (0, x - 1); filling = λ q p. 0; emptying = λ q p. 0 }

  pub opens : 1 ≤ k → Kept n k (opening (replicate (word_count n) 0) (replicate (slot_count n k) None) (new_helds n k 1 n))
  opens some_place = record {
    log = [];
    seats = opening_seats;
    packets = λ q p. [];
    legal = tt;
    words_are = length-replicate (word_count n) 0;
    slots_are = length-map (replicate (slot_count n k) nothing) some ∙ length-replicate (slot_count n k) nothing;
    lanes = λ q p two. record {
      carried = tt;
      put_is = zero_at (word_count n) (put_word n q p);
      taken_is = zero_at (word_count n) (taken_word n q p);
      behind = omega arith;
      room = omega arith;
      full = λ c x low at. absurd (some-ne-none x (sym at));
      empty = λ c low high. none_at (slot_count n k) (slot_of n k q p c) (slot_within n k q p c two some_place);
    };
    entries = entries;
  }
    where
      fresh : (place : ℕ) → Fits n k [] opening_seats 0 place (new_held n k (1 + place))
      fresh place = record {
        instances = refl;
        capacity = refl;
        seen = begins_same [];
        legal = tt;
        made = refl;
        own = refl;
        seated = λ low high. record { here = ap (λ i. (0, i)) (let z : 1 + place - 1 ≡ place = omega arith in z); fills = λ p. refl; empties = λ q. refl };
      }

      entries : (id place : ℕ) (v : List Held) (e : Held) → get_elem? (new_helds n k 1 n ∷ []) id ≡ some v → get_elem? v place ≡ some e → Fits n k [] opening_seats id place e
      entries zero place v e there is = subst (λ x. Fits n k [] opening_seats 0 place x) (sym (new_at n 1 place e (ap (λ l. get_elem? l place) (some-injective (new_helds n k 1 n) v there) ∙ is))) (fresh place)
      entries (suc id) place v e there is = absurd (some-ne-none v (sym there))
