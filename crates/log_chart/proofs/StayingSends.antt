-- The sends that stay: those of the receives that stay, and then those that nobody received.
use Rattle.std.proofs.Common.{◌≡◌, ◌≢◌, ℕ, ◌<◌, ◌⊎◌, inl, inr, ◌&&◌, Bool, true, false, cond, List, [], ◌∷◌, ◌++◌, Option, None, Some, filter, refl, sym, ap, ◌∙◌, subst, arith}
use Rattle.std.specs.Prelude.{is_none, unwrap_or}
use Rattle.std.proofs.lemmas.Bool.{false≢true}
use Rattle.log_chart.specs.BegunTables.{IsRising}
use Rattle.log_chart.specs.Fates.{unreceived, stays}
use Rattle.log_chart.specs.declared.fate.Fate.{Fate}
use Rattle.log_chart.specs.declared.fate.Fate.TheVariants.{Stays}
use Rattle.log_chart.proofs.LaneLists.{Taking, with_send, sends_of, lane_last, lane_fate, taken_fate, sent_fate, staying_receives, staying_sends, Has, AreApart}
use Rattle.log_chart.proofs.RisingLists.{rising_same, has_some, some_has, rising_some, has_either, has_left, has_right, rising_joined}
use Rattle.log_chart.proofs.LaneFates.{at_most, last_has, fate_has, has_fate, kept_rise, staying_is}

-- nobody received it or a later one
abbrev waits : List Taking → ℕ → Bool
waits rs s = is_none (lane_fate s rs) && stays (unreceived s (lane_last rs))

abbrev pub waiting_sends : List Taking → List ℕ → List ℕ
waiting_sends rs sends = filter (waits rs) sends

-- the sends of some receives
module _ (f : Option ℕ → Bool) where
  taken_has : (rs : List Taking) (s : ℕ) → Has (sends_of (filter (λ r. f r.send) rs)) s → Has (sends_of rs) s × (f (Some s) ≡ true)
  taken_has [] s has = absurd has
  taken_has (r ∷ rs) s has = go (f r.send) r.send refl refl has (taken_has rs s)
    where
      Result : Option ℕ → Type 0
      Result t = Has (with_send t (sends_of rs)) s × (f (Some s) ≡ true)

      more : (t : Option ℕ) → Has (sends_of rs) s × (f (Some s) ≡ true) → Result t
      more None it = it
      more (Some t) it = (inr it.0, it.1)

      by_send : (t : Option ℕ) → f t ≡ true → Has (with_send t (sends_of (filter (λ x. f x.send) rs))) s → (Has (sends_of (filter (λ x. f x.send) rs)) s → Has (sends_of rs) s × (f (Some s) ≡ true)) → Result t
      by_send None passes there rest = rest there
      by_send (Some t) passes (inl e) rest = (inl e, subst (λ x. f (Some x) ≡ true) e passes)
      by_send (Some t) passes (inr there) rest = more (Some t) (rest there)

      go : (its : Bool) (t : Option ℕ) → f r.send ≡ its → r.send ≡ t → Has (sends_of (cond its (r ∷ filter (λ x. f x.send) rs) (filter (λ x. f x.send) rs))) s
          → (Has (sends_of (filter (λ x. f x.send) rs)) s → Has (sends_of rs) s × (f (Some s) ≡ true)) → Result r.send
      go true t e is there rest = by_send r.send e there rest
      go false t e is there rest = more r.send (rest there)

  has_taken : (rs : List Taking) (s : ℕ) → Has (sends_of rs) s → f (Some s) ≡ true → Has (sends_of (filter (λ r. f r.send) rs)) s
  has_taken [] s has passes = absurd has
  has_taken (r ∷ rs) s has passes = by_send r.send refl has (λ there. has_taken rs s there passes)
    where
      kept : (its : Bool) (t : Option ℕ) → r.send ≡ t → Has (sends_of (filter (λ x. f x.send) rs)) s → Has (sends_of (cond its (r ∷ filter (λ x. f x.send) rs) (filter (λ x. f x.send) rs))) s
      kept true None e it = rw e it
      kept true (Some t) e it = rw e (inr it)
      kept false t e it = it

      first : (its : Bool) → its ≡ true → r.send ≡ Some s → Has (sends_of (cond its (r ∷ filter (λ x. f x.send) rs) (filter (λ x. f x.send) rs))) s
      first true e is = rw is (inl refl)
      first false e is = absurd (false≢true e)

      by_send : (t : Option ℕ) → r.send ≡ t → Has (with_send t (sends_of rs)) s → (Has (sends_of rs) s → Has (sends_of (filter (λ x. f x.send) rs)) s)
          → Has (sends_of (cond (f r.send) (r ∷ filter (λ x. f x.send) rs) (filter (λ x. f x.send) rs))) s
      by_send None e there rest = kept (f r.send) None e (rest there)
      by_send (Some t) e (inl same) rest = first (f r.send) (ap f (e ∙ ap (λ x. Some x) same) ∙ passes) (e ∙ ap (λ x. Some x) same)
      by_send (Some t) e (inr there) rest = kept (f r.send) (Some t) e (rest there)

pub sends_stay : (rs : List Taking) (sends : List ℕ) → IsRising sends → AreApart rs → ((s : ℕ) → Has (sends_of rs) s → Has sends s)
    → staying_sends rs sends ≡ sends_of (staying_receives rs) ++ waiting_sends rs sends
sends_stay rs sends rising apart logged =
    rising_same (staying_sends rs sends) (sends_of (staying_receives rs) ++ waiting_sends rs sends) (rising_some (λ s. stays (sent_fate rs s)) sends rising) joined to from
  where
    received_rise : IsRising (sends_of (staying_receives rs))
    received_rise = subst (λ l. IsRising (sends_of l)) (sym (staying_is rs apart)) (kept_rise rs apart)

    received : (s : ℕ) → Has (sends_of (staying_receives rs)) s → Has (sends_of rs) s
    received s has = (taken_has (λ t. stays (taken_fate rs t)) rs s has).0

    -- of a send that waits
    waiting : (s : ℕ) → Has (waiting_sends rs sends) s → (lane_fate s rs ≡ None) × (stays (unreceived s (lane_last rs)) ≡ true)
    waiting s has = go (lane_fate s rs) refl (has_some (waits rs) sends s has).1
      where
        go : (fate : Option Fate) → lane_fate s rs ≡ fate → (is_none fate && stays (unreceived s (lane_last rs))) ≡ true → (fate ≡ None) × (stays (unreceived s (lane_last rs)) ≡ true)
        go None e both = (refl, both)
        go (Some fate) e both = absurd (false≢true both)

    joined : IsRising (sends_of (staying_receives rs) ++ waiting_sends rs sends)
    joined = rising_joined (sends_of (staying_receives rs)) (waiting_sends rs sends) received_rise (rising_some (waits rs) sends rising) (λ s t has there. before s t (received s has) (waiting t there))
      where
        before : (s t : ℕ) → Has (sends_of rs) s → (lane_fate t rs ≡ None) × (stays (unreceived t (lane_last rs)) ≡ true) → s < t
        before s t one two =
            let most = last_has t s rs (at_most t (lane_last rs) two.1) one in
            let differs : s ≢ t = λ e. has_fate t rs two.0 (subst (Has (sends_of rs)) e one) in
            grind (arith, most, differs)

    to : (s : ℕ) → Has (staying_sends rs sends) s → Has (sends_of (staying_receives rs) ++ waiting_sends rs sends) s
    to s has = go (lane_fate s rs) refl (has_some (λ x. stays (sent_fate rs x)) sends s has)
      where
        go : (fate : Option Fate) → lane_fate s rs ≡ fate → Has sends s × (stays (unwrap_or (lane_fate s rs) (unreceived s (lane_last rs))) ≡ true)
            → Has (sends_of (staying_receives rs) ++ waiting_sends rs sends) s
        go None e its = has_right (sends_of (staying_receives rs)) (waiting_sends rs sends) s (some_has (waits rs) sends s its.0 (rw e (rw e at its.1)))
        go (Some fate) e its = has_left (sends_of (staying_receives rs)) (waiting_sends rs sends) s
            (has_taken (λ t. stays (taken_fate rs t)) rs s (fate_has s fate rs e) (rw e (rw e at its.1)))

    from : (s : ℕ) → Has (sends_of (staying_receives rs) ++ waiting_sends rs sends) s → Has (staying_sends rs sends) s
    from s has = go (has_either (sends_of (staying_receives rs)) (waiting_sends rs sends) s has)
      where
        by_fate : (fate : Option Fate) → lane_fate s rs ≡ fate → Has (sends_of rs) s → stays (unwrap_or (lane_fate s rs) Stays) ≡ true → stays (unwrap_or (lane_fate s rs) (unreceived s (lane_last rs))) ≡ true
        by_fate None e there its = absurd (has_fate s rs e there)
        by_fate (Some fate) e there its = rw e (rw e at its)

        go : Has (sends_of (staying_receives rs)) s ⊎ Has (waiting_sends rs sends) s → Has (staying_sends rs sends) s
        go (inl there) =
            let its = taken_has (λ t. stays (taken_fate rs t)) rs s there in
            some_has (λ x. stays (sent_fate rs x)) sends s (logged s its.0) (by_fate (lane_fate s rs) refl its.0 its.1)
        go (inr there) =
            let its = waiting s there in
            some_has (λ x. stays (sent_fate rs x)) sends s (has_some (waits rs) sends s there).0 (rw its.0 its.1)
