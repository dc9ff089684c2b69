-- The fates of the messages of a lane.
use Rattle.std.proofs.Common.{◌≡◌, ◌≢◌, ℕ, ◌<◌, ◌≤◌, ◌⊎◌, inl, inr, ◌==◌, Bool, true, false, cond, List, [], ◌∷◌, Option, None, Some, filter, refl, sym, ap, ap₂, ◌∙◌, subst, arith, eqb-true}
use Rattle.std.specs.Prelude.{nat_lt, unwrap_or}
use Rattle.std.proofs.lemmas.Bool.{eq-eqb, ne_eqb, eqb-false, false≢true, ltb-false}
use Rattle.log_chart.specs.BegunTables.{IsRising}
use Rattle.log_chart.specs.Fates.{earlier, later_one, overtaking, unreceived, is_sent_at, stays}
use Rattle.log_chart.specs.declared.fate.Fate.{Fate}
use Rattle.log_chart.specs.declared.fate.Fate.TheVariants.{Stays, Lost, Overtakes}
use Rattle.log_chart.proofs.LaneLists.{Taking, with_send, sends_of, lane_first, lane_last, lane_fate, taken_fate, staying_receives, Has, IsApart, AreApart}
use Rattle.log_chart.proofs.RisingLists.{below_all}

-- none of these sends is before s, or none is after it
abbrev AtLeast : ℕ → Option ℕ → Type 0
AtLeast s None = Unit {0}
AtLeast s (Some t) = s ≤ t

abbrev AtMost : ℕ → Option ℕ → Type 0
AtMost s None = Unit {0}
AtMost s (Some t) = t ≤ s

at_least : (s : ℕ) (first : Option ℕ) → stays (overtaking first s) ≡ true → AtLeast s first
at_least s None stay = tt
at_least s (Some t) stay = go (nat_lt t s) refl stay
  where
    go : (less : Bool) → nat_lt t s ≡ less → stays (cond less (Overtakes t) Stays) ≡ true → s ≤ t
    go true e fails = absurd (false≢true fails)
    go false e passes = ltb-false t s e

pub at_most : (s : ℕ) (last : Option ℕ) → stays (unreceived s last) ≡ true → AtMost s last
at_most s None stay = tt
at_most s (Some t) stay = go (nat_lt s t) refl stay
  where
    go : (less : Bool) → nat_lt s t ≡ less → stays (cond less Lost Stays) ≡ true → t ≤ s
    go true e fails = absurd (false≢true fails)
    go false e passes = ltb-false s t e

first_parts : (s : ℕ) (t first : Option ℕ) → AtLeast s (earlier t first) → AtLeast s t × AtLeast s first
first_parts s None first least = (tt, least)
first_parts s (Some t) None least = (least, tt)
first_parts s (Some t) (Some u) least = (grind (arith, least), grind (arith, least))

last_parts : (s : ℕ) (t last : Option ℕ) → AtMost s (later_one t last) → AtMost s t × AtMost s last
last_parts s None last most = (tt, most)
last_parts s (Some t) None most = (most, tt)
last_parts s (Some t) (Some u) most = (grind (arith, most), grind (arith, most))

first_has : (s u : ℕ) (rs : List Taking) → AtLeast s (lane_first rs) → Has (sends_of rs) u → s ≤ u
first_has s u [] bound has = absurd has
first_has s u (r ∷ rs) bound has = go r.send (first_parts s r.send (lane_first rs) bound) has (λ rest there. first_has s u rs rest there)
  where
    go : (t : Option ℕ) → AtLeast s t × AtLeast s (lane_first rs) → Has (with_send t (sends_of rs)) u → (AtLeast s (lane_first rs) → Has (sends_of rs) u → s ≤ u) → s ≤ u
    go None parts there rest = rest parts.1 there
    go (Some t) parts (inl e) rest = omega (arith, parts.0, e)
    go (Some t) parts (inr there) rest = rest parts.1 there

pub last_has : (s u : ℕ) (rs : List Taking) → AtMost s (lane_last rs) → Has (sends_of rs) u → u ≤ s
last_has s u [] bound has = absurd has
last_has s u (r ∷ rs) bound has = go r.send (last_parts s r.send (lane_last rs) bound) has (λ rest there. last_has s u rs rest there)
  where
    go : (t : Option ℕ) → AtMost s t × AtMost s (lane_last rs) → Has (with_send t (sends_of rs)) u → (AtMost s (lane_last rs) → Has (sends_of rs) u → u ≤ s) → u ≤ s
    go None parts there rest = rest parts.1 there
    go (Some t) parts (inl e) rest = omega (arith, parts.0, e)
    go (Some t) parts (inr there) rest = rest parts.1 there

-- a message has a fate exactly if it is received
pub fate_has : (s : ℕ) (fate : Fate) (rs : List Taking) → lane_fate s rs ≡ Some fate → Has (sends_of rs) s
fate_has s fate [] is = absurd (cc is)
fate_has s fate (r ∷ rs) is = go r.send is (fate_has s fate rs)
  where
    here : (t : ℕ) (same : Bool) → (t == s) ≡ same → cond same (Some (overtaking (lane_first rs) s)) (lane_fate s rs) ≡ Some fate → (lane_fate s rs ≡ Some fate → Has (sends_of rs) s) → (t ≡ s) ⊎ Has (sends_of rs) s
    here t true e its rest = inl (eqb-true t s e)
    here t false e its rest = inr (rest its)

    go : (t : Option ℕ) → cond (is_sent_at s t) (Some (overtaking (lane_first rs) s)) (lane_fate s rs) ≡ Some fate → (lane_fate s rs ≡ Some fate → Has (sends_of rs) s) → Has (with_send t (sends_of rs)) s
    go None its rest = rest its
    go (Some t) its rest = here t (t == s) refl its rest

pub has_fate : (s : ℕ) (rs : List Taking) → lane_fate s rs ≡ None → Has (sends_of rs) s → ⊥
has_fate s [] none has = absurd has
has_fate s (r ∷ rs) none has = go r.send none has (has_fate s rs)
  where
    here : (t : ℕ) (same : Bool) → (t == s) ≡ same → cond same (Some (overtaking (lane_first rs) s)) (lane_fate s rs) ≡ None → (t ≡ s) ⊎ Has (sends_of rs) s
        → (lane_fate s rs ≡ None → Has (sends_of rs) s → ⊥) → ⊥
    here t true e its there rest = absurd (cc its)
    here t false e its (inl same) rest = absurd (eqb-false t s e same)
    here t false e its (inr there) rest = rest its there

    go : (t : Option ℕ) → cond (is_sent_at s t) (Some (overtaking (lane_first rs) s)) (lane_fate s rs) ≡ None → Has (with_send t (sends_of rs)) s
        → (lane_fate s rs ≡ None → Has (sends_of rs) s → ⊥) → ⊥
    go None its there rest = rest its there
    go (Some t) its there rest = here t (t == s) refl its there rest

-- the receives that stay, by the receives after each of them
abbrev own_fate : Option ℕ → List Taking → Fate
own_fate None rs = Stays
own_fate (Some s) rs = overtaking (lane_first rs) s

abbrev kept_from : List Taking → List Taking
kept_from [] = []
kept_from (r ∷ rs) = cond (stays (own_fate r.send rs)) (r ∷ kept_from rs) (kept_from rs)

fate_here : (s : ℕ) (rs : List Taking) → lane_fate s (record { number = 0; send = Some s } ∷ rs) ≡ Some (overtaking (lane_first rs) s)
fate_here s rs = rw (eq-eqb s s refl) refl

fate_there : (s : ℕ) (r : Taking) (rs : List Taking) → IsApart r.send (sends_of rs) → Has (sends_of rs) s → lane_fate s (r ∷ rs) ≡ lane_fate s rs
fate_there s r rs apart has = go r.send apart
  where
    go : (t : Option ℕ) → IsApart t (sends_of rs) → cond (is_sent_at s t) (Some (overtaking (lane_first rs) s)) (lane_fate s rs) ≡ lane_fate s rs
    go None away = refl
    go (Some t) away = rw (ne_eqb t s (λ e. away (subst (Has (sends_of rs)) (sym e) has))) refl

kept_are : (whole rs : List Taking) → AreApart rs → ((s : ℕ) → Has (sends_of rs) s → lane_fate s whole ≡ lane_fate s rs) → filter (λ r. stays (taken_fate whole r.send)) rs ≡ kept_from rs
kept_are whole [] apart same = refl
kept_are whole (r ∷ rs) apart same =
    ap₂ (λ its rest. cond its (r ∷ rest) rest) (ap stays (its r.send apart.0 same)) (kept_are whole rs apart.1 onward)
  where
    its : (t : Option ℕ) → IsApart t (sends_of rs) → ((s : ℕ) → Has (with_send t (sends_of rs)) s → lane_fate s whole ≡ cond (is_sent_at s t) (Some (overtaking (lane_first rs) s)) (lane_fate s rs))
        → taken_fate whole t ≡ own_fate t rs
    its None away eq = refl
    its (Some t) away eq = ap (λ f. unwrap_or f Stays) (eq t (inl refl) ∙ fate_here t rs)

    onward : (s : ℕ) → Has (sends_of rs) s → lane_fate s whole ≡ lane_fate s rs
    onward s has = same s (more r.send has) ∙ fate_there s r rs apart.0 has
      where
        more : (t : Option ℕ) → Has (sends_of rs) s → Has (with_send t (sends_of rs)) s
        more None there = there
        more (Some t) there = inr there

kept_has : (rs : List Taking) (s : ℕ) → Has (sends_of (kept_from rs)) s → Has (sends_of rs) s
kept_has [] s has = absurd has
kept_has (r ∷ rs) s has = go (stays (own_fate r.send rs)) r.send has (kept_has rs s)
  where
    go : (its : Bool) (t : Option ℕ) → Has (sends_of (cond its (r ∷ kept_from rs) (kept_from rs))) s → (Has (sends_of (kept_from rs)) s → Has (sends_of rs) s) → Has (with_send r.send (sends_of rs)) s
    go true t there rest = by_send r.send there
      where
        by_send : (u : Option ℕ) → Has (with_send u (sends_of (kept_from rs))) s → Has (with_send u (sends_of rs)) s
        by_send None it = rest it
        by_send (Some u) (inl e) = inl e
        by_send (Some u) (inr it) = inr (rest it)
    go false t there rest = by_send r.send (rest there)
      where
        by_send : (u : Option ℕ) → Has (sends_of rs) s → Has (with_send u (sends_of rs)) s
        by_send None it = it
        by_send (Some u) it = inr it

-- the sends of the receives that stay rise
pub kept_rise : (rs : List Taking) → AreApart rs → IsRising (sends_of (kept_from rs))
kept_rise [] apart = tt
kept_rise (r ∷ rs) apart = go (stays (own_fate r.send rs)) refl (kept_rise rs apart.1)
  where
    before : (s u : ℕ) → (Has (sends_of rs) s → ⊥) → s ≤ u → Has (sends_of rs) u → s < u
    before s u away least there =
        let differs : s ≢ u = λ e. away (subst (Has (sends_of rs)) (sym e) there) in
        grind (arith, least, differs)

    by_send : (t : Option ℕ) → IsApart t (sends_of rs) → stays (own_fate t rs) ≡ true → IsRising (sends_of (kept_from rs)) → IsRising (with_send t (sends_of (kept_from rs)))
    by_send None away its rest = rest
    by_send (Some s) away its rest = (
      below_all s (sends_of (kept_from rs)) (λ u has. before s u away (first_has s u rs (at_least s (lane_first rs) its) (kept_has rs u has)) (kept_has rs u has)),
      rest,
    )

    go : (its : Bool) → stays (own_fate r.send rs) ≡ its → IsRising (sends_of (kept_from rs)) → IsRising (sends_of (cond its (r ∷ kept_from rs) (kept_from rs)))
    go true e rest = by_send r.send apart.0 e rest
    go false e rest = rest

pub staying_is : (rs : List Taking) → AreApart rs → staying_receives rs ≡ kept_from rs
staying_is rs apart = kept_are rs rs apart (λ s has. refl)
