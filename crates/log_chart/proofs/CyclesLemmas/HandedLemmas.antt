-- If the lines of a log are in another order, the same comes before the same, and so the freed receive is the same.
use Rattle.std.proofs.Common.{◌≡◌, ℕ, ◌<◌, inl, inr, true, List, Option, None, Some, option_map, refl, sym, ap, ap₂, ◌∙◌, subst, arith}
use Rattle.std.specs.Prelude.{Contains}
use Rattle.std.specs.Cmp.Lexicographic.{slice_cmp}
use Rattle.std.specs.Ordering.{MatchOrdering, nat_cmp, ordering_then, ordering_reverse, is_eq, is_lt}
use Rattle.std.specs.declared.cmp.Ordering.{Ordering}
use Rattle.std.specs.declared.cmp.Ordering.TheVariants.{Less, Equal, Greater}
use Rattle.std.proofs.lemmas.Bool.{cases_eq, cases_lt, false≢true, lt-ltb}
use Rattle.std.proofs.lemmas.Cmp.{ranked}
use Rattle.std.proofs.lemmas.Map.Text.{is_eq-slice_cmp}
use Rattle.std.proofs.lemmas.Option.{none-some, same_Some}
use Rattle.std.proofs.lemmas.Slice.Eq.{bytes_eq-Decides}
use Rattle.log_chart.specs.declared.matching.LogLine.{LogLine}
use Rattle.log_chart.specs.Cycles.Freeing.{IsOnCycle, by_host, is_sooner, IsFirst, HasNone}
use Rattle.log_chart.specs.Cycles.HandingOver.{IsMoved, AreHandedOver}
use Rattle.log_chart.specs.Cycles.Order.{Follows, Comes}
use Rattle.log_chart.specs.Cycles.Order.Follows.{host, message}
use Rattle.log_chart.specs.Cycles.Order.Comes.{direct, through}
use Rattle.log_chart.proofs.CyclesLemmas.FirstLemmas.{by_host_total, lt_less}

pub less_number : (a b : ℕ) → is_lt (nat_cmp a b) ≡ true → a < b
less_number a b its = subst (λ o. MatchOrdering o (a < b) (a ≡ b) (b < a)) (lt_less (nat_cmp a b) its) (ranked a b (nat_cmp a b) refl)

pub number_less : (a b : ℕ) → a < b → is_lt (nat_cmp a b) ≡ true
number_less a b less = rw (lt-ltb a b less) refl

same_number : (a b : ℕ) → nat_cmp a b ≡ Equal → a ≡ b
same_number a b is = subst (λ o. MatchOrdering o (a < b) (a ≡ b) (b < a)) is (ranked a b (nat_cmp a b) refl)

pub same_name : (a b : List ℕ) → slice_cmp nat_cmp a b ≡ Equal → a ≡ b
same_name a b is = (bytes_eq-Decides a b).0 (sym (is_eq-slice_cmp a b) ∙ ap is_eq is)

tied : (x y : LogLine) → by_host x y ≡ Equal → x.number ≡ y.number
tied x y is = go (slice_cmp nat_cmp x.entry.host_name y.entry.host_name) is
  where
    go : (o : Ordering) → ordering_then o (nat_cmp x.number y.number) ≡ Equal → x.number ≡ y.number
    go Less e = absurd (cc e)
    go Equal e = same_number x.number y.number e
    go Greater e = absurd (cc e)

module _ (place_of host_of : ℕ → ℕ) (lines others : List LogLine) (handed : AreHandedOver place_of host_of lines others) where
  follows_moved : (a b : ℕ) → Follows lines a b → Follows others (place_of a) (place_of b)
  follows_moved a b (host x y x_in y_in x_is y_is same less) =
      let u = handed.there x x_in in
      let v = handed.there y y_in in
      let later = handed.order x y x_in y_in same (omega (arith, x_is, y_is, less)) in
      host u.0 v.0 u.1 v.1 (u.2.number ∙ ap place_of x_is) (v.2.number ∙ ap place_of y_is) (u.2.host ∙ ap host_of same ∙ sym v.2.host)
      (subst (λ k. k < place_of b) (ap place_of x_is) (subst (λ k. place_of x.number < k) (ap place_of y_is) later))
  follows_moved a b (message y y_in y_is takes) =
      let v = handed.there y y_in in
      message v.0 v.1 (v.2.number ∙ ap place_of y_is) (v.2.send ∙ ap (option_map place_of) takes)

  comes_moved : (a b : ℕ) → Comes lines a b → Comes others (place_of a) (place_of b)
  comes_moved a b (direct its) = direct (follows_moved a b its)
  comes_moved a b (through {d = c} one two) = through (comes_moved a c one) (comes_moved c b two)

  -- the same in the other direction
  pub record IsFrom (c d : ℕ) : Type 0 where
    pub a : ℕ
    pub b : ℕ
    pub first : c ≡ place_of a
    pub second : d ≡ place_of b
    pub comes : Comes lines a b

  earlier_back : (x y : LogLine) → Contains lines x → Contains lines y → x.entry.host ≡ y.entry.host → place_of x.number < place_of y.number → x.number < y.number
  earlier_back x y x_in y_in same less =
      elim (cases_lt x.number y.number) [
        | inl before ↦ before
        | inr past ↦
            elim (cases_eq x.number y.number) [
              | inl one ↦ absurd (let e = ap place_of one in omega (arith, less, e))
              | inr other ↦ absurd (let more = handed.order y x y_in x_in (sym same) (omega (arith, past, other)) in omega (arith, less, more))
            ]
      ]

  taken_back : (send : Option ℕ) (c : ℕ) → option_map place_of send ≡ Some c → (a : ℕ) × (send ≡ Some a) × (c ≡ place_of a)
  taken_back None c is = absurd (none-some c is)
  taken_back (Some a) c is = (a, refl, sym (same_Some (place_of a) c is))

  follows_back : (c d : ℕ) → Follows others c d → IsFrom c d
  follows_back c d (host u v u_in v_in u_is v_is same less) =
      let x = handed.back u u_in in
      let y = handed.back v v_in in
      let alike = handed.hosts x.0.entry.host y.0.entry.host (sym x.2.host ∙ same ∙ y.2.host) in
      let first : c ≡ place_of x.0.number = sym u_is ∙ x.2.number in
      let second : d ≡ place_of y.0.number = sym v_is ∙ y.2.number in
      record {
        a = x.0.number;
        b = y.0.number;
        first = first;
        second = second;
        comes = direct (host x.0 y.0 x.1 y.1 refl refl alike (earlier_back x.0 y.0 x.1 y.1 alike (omega (arith, first, second, less))));
      }
  follows_back c d (message v v_in v_is takes) =
      let y = handed.back v v_in in
      let sent = taken_back y.0.send c (sym y.2.send ∙ takes) in
      record {
        a = sent.0;
        b = y.0.number;
        first = sent.2;
        second = sym v_is ∙ y.2.number;
        comes = direct (message y.0 y.1 refl sent.1);
      }

  comes_back : (c d : ℕ) → Comes others c d → IsFrom c d
  comes_back c d (direct its) = follows_back c d its
  comes_back c d (through {d = m} one two) =
      let w = comes_back c m one in
      let v = comes_back m d two in
      let same = handed.places w.b v.a (sym w.second ∙ v.first) in
      record {
        a = w.a;
        b = v.b;
        first = w.first;
        second = v.second;
        comes = through w.comes (subst (λ k. Comes lines k v.b) (sym same) v.comes);
      }

  on_moved : (k : ℕ) (on : IsOnCycle lines k) → (its : IsOnCycle others (place_of k)) × IsMoved place_of host_of on.line its.line
  on_moved k on =
      let u = handed.there on.line on.among in (
        record {
          line = u.0;
          among = u.1;
          number = u.2.number ∙ ap place_of on.number;
          send = place_of on.send;
          takes = u.2.send ∙ ap (option_map place_of) on.takes;
          cycle = comes_moved k k on.cycle;
        },
        u.2,
      )

  on_back : (j : ℕ) (on : IsOnCycle others j) → (k : ℕ) × (j ≡ place_of k) × (its : IsOnCycle lines k) × IsMoved place_of host_of its.line on.line
  on_back j on =
      let x = handed.back on.line on.among in
      let sent = taken_back x.0.send on.send (sym x.2.send ∙ on.takes) in
      let here : j ≡ place_of x.0.number = sym on.number ∙ x.2.number in
      let w = comes_back j j on.cycle in
      let one = handed.places w.a x.0.number (sym w.first ∙ here) in
      let two = handed.places w.b x.0.number (sym w.second ∙ here) in (
        x.0.number,
        here,
        record {
          line = x.0;
          among = x.1;
          number = refl;
          send = sent.0;
          takes = sent.1;
          cycle = subst (λ k. Comes lines k x.0.number) one (subst (λ k. Comes lines w.a k) two w.comes);
        },
        x.2,
      )

  -- the order of lines by their hosts is the same
  sooner_moved : (x y u v : LogLine) → Contains lines x → Contains lines y → IsMoved place_of host_of x u → IsMoved place_of host_of y v → is_sooner x y ≡ true → is_sooner u v ≡ true
  sooner_moved x y u v x_in y_in x_to y_to sooner =
      ap (λ o. is_lt (ordering_then o (nat_cmp u.number v.number))) (ap₂ (slice_cmp nat_cmp) x_to.name y_to.name)
      ∙ go (slice_cmp nat_cmp x.entry.host_name y.entry.host_name) refl sooner
    where
      go : (o : Ordering) → slice_cmp nat_cmp x.entry.host_name y.entry.host_name ≡ o → is_lt (ordering_then o (nat_cmp x.number y.number)) ≡ true
          → is_lt (ordering_then o (nat_cmp u.number v.number)) ≡ true
      go Less e its = refl
      go Equal e its =
          let same = handed.names x y x_in y_in (same_name x.entry.host_name y.entry.host_name e) in
          let later = handed.order x y x_in y_in same (less_number x.number y.number its) in
          number_less u.number v.number (omega (arith, later, x_to.number, y_to.number))
      go Greater e its = absurd (false≢true its)

  pub same_first : (k j : ℕ) → IsFirst lines k → IsFirst others j → j ≡ place_of k
  same_first k j first other = go (by_host first.on.line back.2.line) refl
    where
      back : (m : ℕ) × (j ≡ place_of m) × (its : IsOnCycle lines m) × IsMoved place_of host_of its.line other.on.line
      back = on_back j other.on

      moved : (its : IsOnCycle others (place_of k)) × IsMoved place_of host_of first.on.line its.line
      moved = on_moved k first.on

      go : (o : Ordering) → by_host first.on.line back.2.line ≡ o → j ≡ place_of k
      go Less e = absurd (other.first (place_of k) moved.0 (sooner_moved first.on.line back.2.line moved.0.line other.on.line first.on.among back.2.among moved.1 back.3 (ap is_lt e)))
      go Equal e = back.1 ∙ ap place_of (sym back.2.number ∙ sym (tied first.on.line back.2.line e) ∙ first.on.number)
      go Greater e = absurd (first.first back.0 back.2 (ap is_lt (by_host_total.antisymm back.2.line first.on.line ∙ ap ordering_reverse e)))

  pub none_moved : HasNone lines → HasNone others
  none_moved none j on = let its = on_back j on in none its.0 its.2

  pub none_back : HasNone others → HasNone lines
  none_back none k on = none (place_of k) (on_moved k on).0
