-- The tables of what is directly before each line.
use Rattle.std.proofs.Common.{◌≡◌, ℕ, zero, suc, ◌+◌, ◌<◌, ◌≤◌, ◌==◌, ◌⊎◌, inl, inr, Bool, true, false, cond, List, [], ◌∷◌, Option, None, Some, length, set, take, take_all, get_or, replicate, refl, sym, ap, ◌∙◌, subst, arith, eqb-true, eq-eqb, add-one}
use Rattle.std.specs.Prelude.{fold, Contains}
use Rattle.std.proofs.lemmas.Bool.{cases_eq, cases_lt, eqb-false, ne_eqb}
use Rattle.std.proofs.lemmas.List.{length-set, length-take, get_or-set_same, get_or-set_other, get_or-take, get_or_default, get_or-replicate, get_or_past, length-replicate}
use Rattle.std.proofs.lemmas.List.Elements.{All-contains}
use Rattle.std.proofs.lemmas.List.Sums.{fold_more}
use Rattle.chart.specs.declared.instance.TheConstants.{MAX_INSTANCES}
use Rattle.log_chart.specs.FateTables.{IsWithin}
use Rattle.log_chart.specs.declared.matching.LogLine.{LogLine}
use Rattle.log_chart.specs.Cycles.Order.{Follows, Comes}
use Rattle.log_chart.specs.Cycles.Order.Follows.{host, message}
use Rattle.log_chart.specs.Cycles.Order.Comes.{direct as comes_direct, through as comes_through}
use Rattle.log_chart.specs.Cycles.Sources.{AreLines, host_last, lasts_at, IsDirect, Leads, AreSources}
use Rattle.log_chart.specs.Cycles.Sources.IsDirect.{above, sent}
use Rattle.log_chart.specs.Cycles.Sources.Leads.{direct, through}

pub lasts_more : (lines : List LogLine) (n : ℕ) (x : LogLine) → n < length lines → x ≡ get_or lines n x → host_last (lasts_at lines n) x ≡ lasts_at lines (n + 1)
lasts_more lines n x within is = ap (host_last (lasts_at lines n)) is ∙ sym (fold_more host_last (λ h. None) lines n x within)

some_same : {m k : ℕ} → Some m ≡ Some k → m ≡ k
some_same e = cc e

-- a host's last line is one of its lines
last_of : (last : ℕ → Option ℕ) (lines : List LogLine) (h a : ℕ) → fold host_last last lines h ≡ Some a
    → (last h ≡ Some a) ⊎ ((y : LogLine) × Contains lines y × (y.entry.host ≡ h) × (y.number ≡ a))
last_of last [] h a is = inl is
last_of last (x ∷ lines) h a is =
    elim (last_of (host_last last x) lines h a is) [
      | inr w ↦ inr (w.0, (suc w.1.0, omega (arith, w.1.1), w.1.2), w.2, w.3)
      | inl here ↦ go (x.entry.host == h) refl here
    ]
  where
    go : (its : Bool) → (x.entry.host == h) ≡ its → cond its (Some x.number) (last h) ≡ Some a
        → (last h ≡ Some a) ⊎ ((y : LogLine) × Contains (x ∷ lines) y × (y.entry.host ≡ h) × (y.number ≡ a))
    go true e same = inr (x, (zero, omega arith, refl), eqb-true x.entry.host h e, some_same same)
    go false e same = inl same

module _ (lines : List LogLine) (n : ℕ) (are : AreLines n lines) where
  -- lines with lesser numbers are earlier
  pub earlier : (i j : ℕ) (x y : LogLine) → i < length lines → j < length lines → x ≡ get_or lines i x → y ≡ get_or lines j y → x.number < y.number → i < j
  earlier i j x y i_in j_in x_is y_is less =
      elim (cases_lt i j) [
        | inl before ↦ before
        | inr past ↦
            elim (cases_eq i j) [
              | inl same ↦
                  let one : x ≡ y = x_is ∙ ap (λ k. get_or lines k x) same ∙ get_or_default lines j x y j_in ∙ sym y_is in
                  absurd (let e = ap (λ (z : LogLine). z.number) one in omega (arith, e))
              | inr other ↦
                  let more = are.rise j i x (omega arith) i_in in
                  let down : y.number < x.number = subst (λ z. z.number < x.number) (get_or_default lines j x y j_in ∙ sym y_is) (subst (λ z. (get_or lines j x).number < z.number) (sym x_is) more) in
                  absurd (omega (arith, down))
            ]
      ]

  pub rises : (i j : ℕ) (x y : LogLine) → i < j → j < length lines → x ≡ get_or lines i x → y ≡ get_or lines j y → x.number < y.number
  rises i j x y less j_in x_is y_is =
      subst (λ z. z.number < y.number) (sym x_is)
      (subst (λ z. (get_or lines i x).number < z.number) (get_or_default lines j x y j_in ∙ sym y_is) (are.rise i j x less j_in))

  follows_within : (a b : ℕ) → Follows lines a b → a < n
  follows_within a b (host x y has_x has_y is_a is_b same less) = subst (λ k. k < n) is_a (All-contains (λ z. z.number < n) lines x are.numbered has_x)
  follows_within a b (message y has is_b is) = subst (IsWithin n) is (All-contains (λ z. IsWithin n z.send) lines y are.sends has)

abbrev no_line : Option ℕ
no_line = None

none_some : (a : ℕ) → no_line ≡ Some a → ⊥
none_some a e = absurd (cc e)

nothing : (n b a : ℕ) → get_or (replicate n no_line) b no_line ≡ Some a → ⊥
nothing n b a is =
    elim (cases_lt b n) [
      | inl less ↦ none_some a (sym (get_or-replicate {A = Option ℕ} n b no_line no_line less) ∙ is)
      | inr past ↦
          let whole = length-replicate {A = Option ℕ} n no_line in
          none_some a (sym (get_or_past {X = Option ℕ} (replicate n no_line) b no_line (omega (arith, whole))) ∙ is)
    ]

-- the tables after this number of lines
pub record AreFilled (lines : List LogLine) (n i : ℕ) (tops sends last : List (Option ℕ)) : Type 0 where
  pub tops_whole : length tops ≡ n
  pub sends_whole : length sends ≡ n
  pub last_whole : length last ≡ MAX_INSTANCES
  pub lasts : (p : ℕ) → p < MAX_INSTANCES → get_or last p None ≡ lasts_at lines i (suc p)
  pub above_done : (j : ℕ) (y : LogLine) → j < i → j < length lines → y ≡ get_or lines j y → get_or tops y.number None ≡ lasts_at lines j y.entry.host
  pub sends_done : (j : ℕ) (y : LogLine) → j < i → j < length lines → y ≡ get_or lines j y → get_or sends y.number None ≡ y.send
  pub sound : (a b : ℕ) → IsDirect tops sends a b → Follows lines a b

pub filled_none : (lines : List LogLine) (n : ℕ) (tops sends last : List (Option ℕ)) → tops ≡ replicate n None → sends ≡ replicate n None → last ≡ replicate MAX_INSTANCES None
    → AreFilled lines n 0 tops sends last
filled_none lines n tops sends last tops_are sends_are last_is = record {
  tops_whole = ap length tops_are ∙ length-replicate {A = Option ℕ} n no_line;
  sends_whole = ap length sends_are ∙ length-replicate {A = Option ℕ} n no_line;
  last_whole = ap length last_is ∙ length-replicate {A = Option ℕ} MAX_INSTANCES no_line;
  lasts = λ p p_in. ap (λ l. get_or l p None) last_is ∙ get_or-replicate {A = Option ℕ} MAX_INSTANCES p no_line no_line p_in;
  above_done = λ j y less. absurd (omega arith);
  sends_done = λ j y less. absurd (omega arith);
  sound = λ a b d. absurd (none a b d);
}
  where
    none : (a b : ℕ) → IsDirect tops sends a b → ⊥
    none a b (above e) = nothing n b a (subst (λ l. get_or l b None ≡ Some a) tops_are e)
    none a b (sent e) = nothing n b a (subst (λ l. get_or l b None ≡ Some a) sends_are e)

module _ (lines : List LogLine) (n i : ℕ) (tops sends last : List (Option ℕ)) (x : LogLine) (place : ℕ) (are : AreLines n lines) (within : i < length lines)
    (is : x ≡ get_or lines i x) (at : x.entry.host ≡ suc place) (place_in : place < MAX_INSTANCES) (filled : AreFilled lines n i tops sends last) where
  number_in : x.number < n
  number_in = All-contains (λ z. z.number < n) lines x are.numbered (i, within, sym is)

  top : get_or last place None ≡ lasts_at lines i x.entry.host
  top = filled.lasts place place_in ∙ ap (lasts_at lines i) (sym at)

  same_line : (y : LogLine) → y ≡ get_or lines i y → y ≡ x
  same_line y y_is = y_is ∙ get_or_default lines i y x within ∙ sym is

  lasts_then : (p : ℕ) → p < MAX_INSTANCES → get_or (set last place (Some x.number)) p None ≡ lasts_at lines (i + 1) (suc p)
  lasts_then p p_in =
      elim (cases_eq p place) [
        | inl same ↦
            ap (λ k. get_or (set last place (Some x.number)) k None) same ∙ get_or-set_same last place (Some x.number) None (omega (arith, filled.last_whole, place_in))
            ∙ sym (ap (λ b. cond b (Some x.number) (lasts_at lines i (suc p))) (eq-eqb x.entry.host (suc p) (at ∙ ap suc (sym same)))) ∙ more p
        | inr other ↦
            get_or-set_other last place p (Some x.number) None other ∙ filled.lasts p p_in
            ∙ sym (ap (λ b. cond b (Some x.number) (lasts_at lines i (suc p))) (ne_eqb x.entry.host (suc p) (λ e. other (let f : suc place ≡ suc p = sym at ∙ e in omega (arith, f))))) ∙ more p
      ]
    where
      more : (p : ℕ) → host_last (lasts_at lines i) x (suc p) ≡ lasts_at lines (i + 1) (suc p)
      more p = ap (λ (f : ℕ → Option ℕ). f (suc p)) (lasts_more lines i x within is)

  above_then : (j : ℕ) (y : LogLine) → j < i + 1 → j < length lines → y ≡ get_or lines j y → get_or (set tops x.number (get_or last place None)) y.number None ≡ lasts_at lines j y.entry.host
  above_then j y less j_in y_is =
      elim (cases_eq j i) [
        | inl same ↦
            let one : y ≡ x = same_line y (subst (λ k. y ≡ get_or lines k y) same y_is) in
            ap (λ (z : LogLine). get_or (set tops x.number (get_or last place None)) z.number None) one ∙ get_or-set_same tops x.number (get_or last place None) None (omega (arith, filled.tops_whole, number_in)) ∙ top
            ∙ ap (λ (z : LogLine). lasts_at lines i z.entry.host) (sym one) ∙ ap (λ k. lasts_at lines k y.entry.host) (sym same)
        | inr other ↦
            let before = rises lines n are j i y x (omega arith) within y_is is in
            get_or-set_other tops x.number y.number (get_or last place None) None (λ e. absurd (omega (arith, before, e))) ∙ filled.above_done j y (omega arith) j_in y_is
      ]

  sends_then : (j : ℕ) (y : LogLine) → j < i + 1 → j < length lines → y ≡ get_or lines j y → get_or (set sends x.number x.send) y.number None ≡ y.send
  sends_then j y less j_in y_is =
      elim (cases_eq j i) [
        | inl same ↦
            let one : y ≡ x = same_line y (subst (λ k. y ≡ get_or lines k y) same y_is) in
            ap (λ (z : LogLine). get_or (set sends x.number x.send) z.number None) one ∙ get_or-set_same sends x.number x.send None (omega (arith, filled.sends_whole, number_in))
            ∙ ap (λ (z : LogLine). z.send) (sym one)
        | inr other ↦
            let before = rises lines n are j i y x (omega arith) within y_is is in
            get_or-set_other sends x.number y.number x.send None (λ e. absurd (omega (arith, before, e))) ∙ filled.sends_done j y (omega arith) j_in y_is
      ]

  -- an earlier line of its host
  from_last : (a : ℕ) → lasts_at lines i x.entry.host ≡ Some a → Follows lines a x.number
  from_last a is_last =
      elim (last_of (λ h. None) (take i lines) x.entry.host a is_last) [
        | inl none ↦ absurd (cc none)
        | inr w ↦
            let few : w.1.0 < i = omega (arith, w.1.1, length-take i lines) in
            let y_is : get_or lines w.1.0 w.0 ≡ w.0 = sym (get_or-take i lines w.1.0 w.0 few) ∙ w.1.2 in
            let less : w.0.number < x.number = rises lines n are w.1.0 i w.0 x few within (sym y_is) is in
            host w.0 x (w.1.0, omega (arith, few, within), y_is) (i, within, sym is) w.3 refl w.2 (subst (λ k. k < x.number) w.3 less)
      ]

  sound_then : (a b : ℕ) → IsDirect (set tops x.number (get_or last place None)) (set sends x.number x.send) a b → Follows lines a b
  sound_then a b (above e) =
      elim (cases_eq b x.number) [
        | inl same ↦
            subst (Follows lines a) (sym same)
            (from_last a (sym (ap (λ k. get_or (set tops x.number (get_or last place None)) k None) same ∙ get_or-set_same tops x.number (get_or last place None) None (omega (arith, filled.tops_whole, number_in)) ∙ top) ∙ e))
        | inr other ↦ filled.sound a b (above (sym (get_or-set_other tops x.number b (get_or last place None) None other) ∙ e))
      ]
  sound_then a b (sent e) =
      elim (cases_eq b x.number) [
        | inl same ↦
            subst (Follows lines a) (sym same)
            (message x (i, within, sym is) refl (sym (ap (λ k. get_or (set sends x.number x.send) k None) same ∙ get_or-set_same sends x.number x.send None (omega (arith, filled.sends_whole, number_in))) ∙ e))
        | inr other ↦ filled.sound a b (sent (sym (get_or-set_other sends x.number b x.send None other) ∙ e))
      ]

  pub filled_more : AreFilled lines n (i + 1) (set tops x.number (get_or last place None)) (set sends x.number x.send) (set last place (Some x.number))
  filled_more = record {
    tops_whole = length-set tops x.number (get_or last place None) ∙ filled.tops_whole;
    sends_whole = length-set sends x.number x.send ∙ filled.sends_whole;
    last_whole = length-set last place (Some x.number) ∙ filled.last_whole;
    lasts = lasts_then;
    above_done = above_then;
    sends_done = sends_then;
    sound = sound_then;
  }

module _ (lines : List LogLine) (n : ℕ) (tops sends last : List (Option ℕ)) (are : AreLines n lines) (filled : AreFilled lines n (length lines) tops sends last) where
  -- an earlier line of a host is its last one, or is before that
  up_to_last : (j i : ℕ) (x : LogLine) → i < j → j ≤ length lines → x ≡ get_or lines i x → (z : ℕ) × (lasts_at lines j x.entry.host ≡ Some z) × ((x.number ≡ z) ⊎ Leads tops sends x.number z)
  up_to_last zero i x less j_in is = absurd (omega arith)
  up_to_last (suc j) i x less j_in is =
      subst (λ k. (z : ℕ) × (lasts_at lines k x.entry.host ≡ Some z) × ((x.number ≡ z) ⊎ Leads tops sends x.number z)) (add-one j)
      (go ((get_or lines j x).entry.host == x.entry.host) refl (λ before. up_to_last j i x before (omega arith) is))
    where
      inside : j < length lines
      inside = omega arith

      y_is : get_or lines j x ≡ get_or lines j (get_or lines j x)
      y_is = get_or_default lines j x (get_or lines j x) inside

      more : host_last (lasts_at lines j) (get_or lines j x) x.entry.host ≡ lasts_at lines (j + 1) x.entry.host
      more = ap (λ (f : ℕ → Option ℕ). f x.entry.host) (lasts_more lines j (get_or lines j x) inside y_is)

      go : (its : Bool) → ((get_or lines j x).entry.host == x.entry.host) ≡ its → (i < j → (z : ℕ) × (lasts_at lines j x.entry.host ≡ Some z) × ((x.number ≡ z) ⊎ Leads tops sends x.number z))
          → (z : ℕ) × (lasts_at lines (j + 1) x.entry.host ≡ Some z) × ((x.number ≡ z) ⊎ Leads tops sends x.number z)
      go true e before = (
        (get_or lines j x).number,
        sym more ∙ ap (λ b. cond b (Some (get_or lines j x).number) (lasts_at lines j x.entry.host)) e,
        elim (cases_eq i j) [
          | inl same ↦ inl (ap (λ (z : LogLine). z.number) (is ∙ ap (λ k. get_or lines k x) same))
          | inr other ↦
              let w = before (omega arith) in
              let last_is : get_or tops (get_or lines j x).number None ≡ Some w.0 =
              filled.above_done j (get_or lines j x) inside inside y_is ∙ ap (lasts_at lines j) (eqb-true (get_or lines j x).entry.host x.entry.host e) ∙ w.1 in
              elim w.2 [
                | inl same ↦ inr (direct (above (last_is ∙ ap (λ k. Some k) (sym same))))
                | inr leads ↦ inr (through leads (direct (above last_is)))
              ]
        ],
      )
      go false e before =
          elim (cases_eq i j) [
            | inl same ↦ absurd (eqb-false (get_or lines j x).entry.host x.entry.host e (ap (λ (z : LogLine). z.entry.host) (sym (is ∙ ap (λ k. get_or lines k x) same))))
            | inr other ↦
                let w = before (omega arith) in
                (w.0, sym more ∙ ap (λ b. cond b (Some (get_or lines j x).number) (lasts_at lines j x.entry.host)) e ∙ w.1, w.2)
          ]

  follows_leads : (a b : ℕ) → Follows lines a b → Leads tops sends a b
  follows_leads a b (message y has is_b is) =
      direct (sent (ap (λ k. get_or sends k None) (sym is_b) ∙ filled.sends_done has.0 y has.1 has.1 (sym has.2) ∙ is))
  follows_leads a b (host x y has_x has_y is_a is_b same less) =
      let before = earlier lines n are has_x.0 has_y.0 x y has_x.1 has_y.1 (sym has_x.2) (sym has_y.2) (omega (arith, less, is_a, is_b)) in
      let w = up_to_last has_y.0 has_x.0 x before (omega (arith, has_y.1)) (sym has_x.2) in
      let last_is : get_or tops b None ≡ Some w.0 =
      ap (λ k. get_or tops k None) (sym is_b) ∙ filled.above_done has_y.0 y has_y.1 has_y.1 (sym has_y.2) ∙ ap (lasts_at lines has_y.0) (sym same) ∙ w.1 in
      elim w.2 [
        | inl one ↦ direct (above (last_is ∙ ap (λ k. Some k) (sym one ∙ is_a)))
        | inr leads ↦ through (subst (λ k. Leads tops sends k w.0) is_a leads) (direct (above last_is))
      ]

  pub filled_sources : AreSources lines n tops sends
  filled_sources = record {
    above_whole = filled.tops_whole;
    sends_whole = filled.sends_whole;
    within = λ a b d. follows_within lines n are a b (filled.sound a b d);
    sound = filled.sound;
    all = follows_leads;
  }

-- the tables and the order agree
module _ (lines : List LogLine) (n : ℕ) (tops sends : List (Option ℕ)) (sources : AreSources lines n tops sends) where
  pub comes_leads : (a b : ℕ) → Comes lines a b → Leads tops sends a b
  comes_leads a b (comes_direct f) = sources.all a b f
  comes_leads a b (comes_through {d = c} one two) = through (comes_leads a c one) (comes_leads c b two)

  pub leads_comes : (a b : ℕ) → Leads tops sends a b → Comes lines a b
  leads_comes a b (direct d) = comes_direct (sources.sound a b d)
  leads_comes a b (through {d = c} one two) = comes_through (leads_comes a c one) (leads_comes c b two)

-- after all lines
pub at_end : (lines : List LogLine) (n i : ℕ) (tops sends last : List (Option ℕ)) → length lines ≤ i → AreFilled lines n i tops sends last → AreFilled lines n (length lines) tops sends last
at_end lines n i tops sends last past filled = record {
  tops_whole = filled.tops_whole;
  sends_whole = filled.sends_whole;
  last_whole = filled.last_whole;
  lasts = λ p p_in. filled.lasts p p_in ∙ ap (λ l. fold host_last (λ h. None) l (suc p)) (take_all i lines past ∙ sym (take_all (length lines) lines (omega arith)));
  above_done = λ j y less j_in. filled.above_done j y (omega arith) j_in;
  sends_done = λ j y less j_in. filled.sends_done j y (omega arith) j_in;
  sound = filled.sound;
}
