-- The choice of the freed receive, line by line and host by host.
use Rattle.std.proofs.Common.{◌≡◌, ℕ, suc, ◌+◌, ◌<◌, ◌≤◌, ◌==◌, ◌&&◌, inl, inr, Bool, true, false, List, [], Option, None, Some, length, get_or, replicate, refl, sym, ap, ap₂, ◌∙◌, subst, arith, eqb-true}
use Rattle.std.specs.Prelude.{is_some}
use Rattle.std.specs.Cmp.{IsTotalOrder}
use Rattle.std.specs.Ordering.{is_lt}
use Rattle.std.specs.declared.cmp.Ordering.{Ordering}
use Rattle.std.specs.declared.cmp.Ordering.TheVariants.{Less, Equal, Greater}
use Rattle.std.proofs.lemmas.Bool.{cases_eq, cases_lt, false≢true, eq-eqb}
use Rattle.std.proofs.lemmas.Cmp.{nat_cmp_total, nat_list_cmp_total, on_total, then_total, tied_itself}
use Rattle.std.proofs.lemmas.List.{get_or-replicate, get_or_past, length-replicate, get_or_default}
use Rattle.std.proofs.lemmas.List.Elements.{All-contains}
use Rattle.log_chart.specs.declared.matching.LogLine.{LogLine}
use Rattle.log_chart.specs.Cycles.Choosing.{is_ahead, IsFound, IsAheadToo, HasPassed}
use Rattle.log_chart.specs.Cycles.Choosing.HasPassed.{other as passed_other, off as passed_off, on as passed_on}
use Rattle.log_chart.specs.Cycles.Freeing.{IsOnCycle, by_host, is_sooner, IsFirst, HasNone}
use Rattle.log_chart.specs.Cycles.Order.{Comes}
use Rattle.log_chart.specs.Cycles.Order.Follows.{host}
use Rattle.log_chart.specs.Cycles.Searching.{IsSeen, IsClosed, AreBefore, IsPast}
use Rattle.log_chart.specs.Cycles.Sources.{AreLines, HaveHosts, AreSources}
use Rattle.log_chart.specs.Cycles.Sources.Leads.{through}
use Rattle.log_chart.proofs.CyclesLemmas.SearchLemmas.{past_all}
use Rattle.log_chart.proofs.CyclesLemmas.SourceLemmas.{rises, comes_leads, leads_comes}

-- the order of lines by their hosts' names is total
pub by_host_total : IsTotalOrder by_host
by_host_total = then_total (on_total (λ (x : LogLine). x.entry.host_name) nat_list_cmp_total) (on_total (λ (x : LogLine). x.number) nat_cmp_total)

pub lt_less : (o : Ordering) → is_lt o ≡ true → o ≡ Less
lt_less Less e = refl
lt_less Equal e = absurd (false≢true e)
lt_less Greater e = absurd (false≢true e)

pub sooner_trans : (x y z : LogLine) → is_sooner x y ≡ true → is_sooner y z ≡ true → is_sooner x z ≡ true
sooner_trans x y z one two = ap is_lt (by_host_total.trans x y z (lt_less (by_host x y) one) (lt_less (by_host y z) two))

never_sooner : (x : LogLine) → is_sooner x x ≡ true → ⊥
never_sooner x its = false≢true (sym (ap is_lt (tied_itself by_host_total x)) ∙ its)

ahead_trans : (x y : LogLine) (found : Option LogLine) → is_sooner x y ≡ true → is_ahead y found ≡ true → is_ahead x found ≡ true
ahead_trans x y None one two = refl
ahead_trans x y (Some z) one two = sooner_trans x y z one two

-- after this number of lines
pub record HasGone (lines : List LogLine) (n : ℕ) (tops sends : List (Option ℕ)) (own i : ℕ) (seen : List Bool) (stack : List ℕ) (found soonest : Option LogLine) : Type 0 where
  pub whole : length seen ≡ n
  pub empty : stack ≡ []
  pub closed : IsClosed tops sends seen
  pub later : (j : ℕ) (y : LogLine) → i ≤ j → j < length lines → y ≡ get_or lines j y → y.entry.host ≡ own → AreBefore tops sends seen y.number
  pub here : IsFound lines soonest
  pub ahead : IsAheadToo soonest found
  pub none : (j : ℕ) (y : LogLine) → j < i → j < length lines → y ≡ get_or lines j y → y.entry.host ≡ own → is_ahead y soonest ≡ true → (s : ℕ) → y.send ≡ Some s
      → Comes lines y.number y.number → ⊥

unseen : (n a : ℕ) → IsSeen (replicate n false) a → ⊥
unseen n a is =
    elim (cases_lt a n) [
      | inl less ↦ false≢true (sym (get_or-replicate n a false false less) ∙ is)
      | inr past ↦ false≢true (sym (get_or_past (replicate n false) a false (omega (arith, length-replicate n false))) ∙ is)
    ]

pub gone_none : (lines : List LogLine) (n : ℕ) (tops sends : List (Option ℕ)) (own : ℕ) (seen : List Bool) (stack : List ℕ) (found : Option LogLine) → seen ≡ replicate n false → stack ≡ []
    → IsFound lines found → HasGone lines n tops sends own 0 seen stack found found
gone_none lines n tops sends own seen stack found is empty its_found = record {
  whole = ap length is ∙ length-replicate n false;
  empty = empty;
  closed = λ a b d its. absurd (unseen n b (subst (λ s. IsSeen s b) is its));
  later = λ j y low j_in y_is y_own a its. absurd (unseen n a (subst (λ s. IsSeen s a) is its));
  here = its_found;
  ahead = λ y its. its;
  none = λ j y less. absurd (omega arith);
}

module _ (lines : List LogLine) (n : ℕ) (tops sends : List (Option ℕ)) (own i : ℕ) (seen : List Bool) (stack : List ℕ) (found soonest : Option LogLine) (x : LogLine) (are : AreLines n lines)
    (sources : AreSources lines n tops sends) (within : i < length lines) (is : x ≡ get_or lines i x) (gone : HasGone lines n tops sends own i seen stack found soonest) where
  same_line : (y : LogLine) → y ≡ get_or lines i y → y ≡ x
  same_line y y_is = y_is ∙ get_or_default lines i y x within ∙ sym is

  -- the line is another host's, or doesn't come sooner
  pub gone_other : (x.entry.host ≡ own → is_ahead x soonest ≡ true → ⊥) → HasGone lines n tops sends own (i + 1) seen stack found soonest
  gone_other other = record {
    whole = gone.whole;
    empty = gone.empty;
    closed = gone.closed;
    later = λ j y low. gone.later j y (omega arith);
    here = gone.here;
    ahead = gone.ahead;
    none = λ j y less j_in y_is y_own few s takes comes.
        elim (cases_eq j i) [
          | inl same ↦
              let one = same_line y (subst (λ k. y ≡ get_or lines k y) same y_is) in
              absurd (other (ap (λ (z : LogLine). z.entry.host) (sym one) ∙ y_own) (subst (λ (z : LogLine). is_ahead z soonest ≡ true) one few))
          | inr differs ↦ gone.none j y (omega arith) j_in y_is y_own few s takes comes
        ];
  }

  -- what comes before the host's later lines
  later_too : (more : List Bool) → IsPast tops sends x.number more → x.entry.host ≡ own
      → (j : ℕ) (y : LogLine) → i + 1 ≤ j → j < length lines → y ≡ get_or lines j y → y.entry.host ≡ own → AreBefore tops sends more y.number
  later_too more past x_own j y low j_in y_is y_own a its =
      let less = rises lines n are i j x y (omega arith) j_in is y_is in
      through (past.before a its) (sources.all x.number y.number (host x y (i, within, sym is) (j, j_in, sym y_is) refl refl (x_own ∙ sym y_own) less))

  -- the line is on no cycle
  pub gone_own : (more : List Bool) (stacked : List ℕ) → length more ≡ length seen → stacked ≡ [] → IsPast tops sends x.number more → x.entry.host ≡ own
      → ((s : ℕ) → x.send ≡ Some s → IsSeen more x.number → ⊥) → HasGone lines n tops sends own (i + 1) more stacked found soonest
  gone_own more stacked whole empty past x_own none = record {
    whole = whole ∙ gone.whole;
    empty = empty;
    closed = past.closed;
    later = later_too more past x_own;
    here = gone.here;
    ahead = gone.ahead;
    none = λ j y less j_in y_is y_own few s takes comes.
        elim (cases_eq j i) [
          | inl same ↦
              let one = same_line y (subst (λ k. y ≡ get_or lines k y) same y_is) in
              none s (ap (λ (z : LogLine). z.send) (sym one) ∙ takes)
              (past_all tops sends x.number more past x.number (comes_leads lines n tops sends sources x.number x.number (subst (λ (z : LogLine). Comes lines z.number z.number) one comes)))
          | inr differs ↦ gone.none j y (omega arith) j_in y_is y_own few s takes comes
        ];
  }

  -- what the search of this line may begin with
  pub gone_before : x.entry.host ≡ own → AreBefore tops sends seen x.number
  gone_before x_own = gone.later i x (omega arith) within is x_own

  -- the line is on a cycle, and comes sooner
  found_on : (more : List Bool) (s : ℕ) → IsPast tops sends x.number more → x.send ≡ Some s → IsSeen more x.number → IsFound lines (Some x)
  found_on more s past takes its = (
    record {
      line = x;
      among = (i, within, sym is);
      number = refl;
      send = s;
      takes = takes;
      cycle = leads_comes lines n tops sends sources x.number x.number (past.before x.number its);
    },
    refl,
  )

  pub gone_found : (more : List Bool) (stacked : List ℕ) (s : ℕ) → length more ≡ length seen → stacked ≡ [] → IsPast tops sends x.number more → x.entry.host ≡ own → is_ahead x soonest ≡ true
      → x.send ≡ Some s → IsSeen more x.number → HasGone lines n tops sends own (i + 1) more stacked found (Some x)
  gone_found more stacked s whole empty past x_own sooner takes its = record {
    whole = whole ∙ gone.whole;
    empty = empty;
    closed = past.closed;
    later = later_too more past x_own;
    here = found_on more s past takes its;
    ahead = λ y y_ahead. gone.ahead y (ahead_trans y x soonest y_ahead sooner);
    none = λ j y less j_in y_is y_own few t y_takes comes.
        elim (cases_eq j i) [
          | inl same ↦
              let one = same_line y (subst (λ k. y ≡ get_or lines k y) same y_is) in
              never_sooner x (subst (λ (z : LogLine). is_sooner z x ≡ true) one few)
          | inr differs ↦ gone.none j y (omega arith) j_in y_is y_own (ahead_trans y x soonest few sooner) t y_takes comes
        ];
  }

  -- in each case
  pub gone_more : (more : List Bool) (stacked : List ℕ) (next : Option LogLine) → HasPassed tops sends x own soonest seen stack more stacked next
      → HasGone lines n tops sends own (i + 1) more stacked found next
  gone_more more stacked next (passed_other none seen_is stack_is next_is) = rw (seen_is, stack_is, next_is) (gone_other none)
  gone_more more stacked next (passed_off x_own whole empty past none next_is) = rw next_is (gone_own more stacked whole empty past x_own none)
  gone_more more stacked next (passed_on x_own sooner whole empty past s takes its next_is) = rw next_is (gone_found more stacked s whole empty past x_own sooner takes its)

-- after all lines
pub gone_all : (lines : List LogLine) (n : ℕ) (tops sends : List (Option ℕ)) (own i : ℕ) (seen : List Bool) (stack : List ℕ) (found soonest : Option LogLine) → length lines ≤ i
    → HasGone lines n tops sends own i seen stack found soonest → (j : ℕ) (on : IsOnCycle lines j) → on.line.entry.host ≡ own → is_ahead on.line soonest ≡ true → ⊥
gone_all lines n tops sends own i seen stack found soonest past gone j on on_own sooner =
    let inside = on.among.1 in
    gone.none on.among.0 on.line (omega (arith, inside)) inside (sym on.among.2) on_own sooner on.send on.takes (subst (λ k. Comes lines k k) (sym on.number) on.cycle)

-- after the hosts up to one
pub record HaveGone (lines : List LogLine) (place : ℕ) (found : Option LogLine) : Type 0 where
  pub here : IsFound lines found
  pub none : (j : ℕ) (on : IsOnCycle lines j) → on.line.entry.host ≤ place → is_ahead on.line found ≡ true → ⊥

pub none_gone : (lines : List LogLine) (hosts : ℕ) → HaveHosts hosts lines → HaveGone lines 0 None
none_gone lines hosts among = record {
  here = tt;
  none = λ j on low sooner.
      let its = All-contains (λ x. (1 ≤ x.entry.host) × (x.entry.host ≤ hosts)) lines on.line among on.among in
      omega (arith, its.0, low);
}

pub host_gone : (lines : List LogLine) (place : ℕ) (found next : Option LogLine) → HaveGone lines place found → IsFound lines next → IsAheadToo next found
    → ((j : ℕ) (on : IsOnCycle lines j) → on.line.entry.host ≡ suc place → is_ahead on.line next ≡ true → ⊥) → HaveGone lines (place + 1) next
host_gone lines place found next gone here ahead none = record {
  here = here;
  none = λ j on low sooner.
      elim (cases_eq on.line.entry.host (suc place)) [
        | inl own ↦ none j on own sooner
        | inr other ↦ gone.none j on (omega (arith, low, other)) (ahead on.line sooner)
      ];
}

module _ (lines : List LogLine) (hosts place : ℕ) (found : Option LogLine) (among : HaveHosts hosts lines) (past : hosts ≤ place) (gone : HaveGone lines place found) where
  none_ahead : (j : ℕ) (on : IsOnCycle lines j) → is_ahead on.line found ≡ true → ⊥
  none_ahead j on =
      let its = All-contains (λ x. (1 ≤ x.entry.host) × (x.entry.host ≤ hosts)) lines on.line among on.among in
      gone.none j on (omega (arith, its.1))

  pub first_found : (x : LogLine) → found ≡ Some x → IsFirst lines x.number
  first_found x is =
      let its : IsFound lines (Some x) = subst (IsFound lines) is gone.here in
      record {
        on = its.0;
        first = λ j other sooner. none_ahead j other (ap (is_ahead other.line) is ∙ ap (λ z. is_sooner other.line z) (sym its.1) ∙ sooner);
      }

  pub none_found : found ≡ None → HasNone lines
  none_found is k on = none_ahead k on (ap (is_ahead on.line) is)

-- the same in the words of the code's tests
both : (a b : Bool) → (a && b) ≡ true → (a ≡ true) × (b ≡ true)
both true true e = (refl, refl)
both true false e = (refl, e)
both false b e = absurd (false≢true e)

pub own_line : (x : LogLine) (own : ℕ) (found : Option LogLine) → (x.entry.host == own && is_ahead x found) ≡ true → (x.entry.host ≡ own) × (is_ahead x found ≡ true)
own_line x own found is = let parts = both (x.entry.host == own) (is_ahead x found) is in (eqb-true x.entry.host own parts.0, parts.1)

pub other_line : (x : LogLine) (own : ℕ) (found : Option LogLine) → (x.entry.host == own && is_ahead x found) ≡ false → x.entry.host ≡ own → is_ahead x found ≡ true → ⊥
other_line x own found is same ahead = false≢true (sym is ∙ ap₂ (λ a b. a && b) (eq-eqb x.entry.host own same) ahead)

pub is_found : (x : LogLine) (more : List Bool) → (is_some x.send && get_or more x.number false) ≡ true → ((s : ℕ) × (x.send ≡ Some s)) × IsSeen more x.number
is_found x more is = go x.send refl is
  where
    go : (t : Option ℕ) → x.send ≡ t → (is_some t && get_or more x.number false) ≡ true → ((s : ℕ) × (x.send ≡ Some s)) × IsSeen more x.number
    go None e its = absurd (false≢true its)
    go (Some s) e its = ((s, e), its)

pub not_found : (x : LogLine) (more : List Bool) → (is_some x.send && get_or more x.number false) ≡ false → (s : ℕ) → x.send ≡ Some s → IsSeen more x.number → ⊥
not_found x more is s takes its = false≢true (sym is ∙ ap₂ (λ a b. a && b) (ap is_some takes) its)
