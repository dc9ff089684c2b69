-- The hosts of a log in the order of their names: each of them is there once.
use Rattle.std.proofs.Common.{◌≡◌, ◌≢◌, ℕ, zero, suc, ◌+◌, ◌<◌, ◌≤◌, inl, inr, ◌==◌, Bool, true, false, cond, List, [], ◌∷◌, Some, length, drop, get_or, refl, sym, ap, ◌∙◌, arith, eqb-true, eq-eqb}
use Rattle.std.specs.List.{insert}
use Rattle.std.proofs.lemmas.Bool.{cases_eq, ne_eqb}
use Rattle.std.proofs.lemmas.List.{get_or_default}
use Rattle.log_chart.specs.NameOrder.{name_of, is_before, put_by_name, host_of, by_name}
use Rattle.log_chart.specs.declared.entry.Entry.{Entry}
use Rattle.log_chart.specs.declared.name_order.HostName.{HostName}
use Rattle.log_chart.proofs.MatchingLemmas.{from_here}

-- the host's first line, line by line
module _ (log : List Entry) (n p : ℕ) (e : Entry) (within : n < length log) (is : e ≡ get_or log n e) where
  pub name_later : (e.host == p) ≡ false → name_of (drop (n + 1) log) p ≡ name_of (drop n log) p
  unfolding name_of
  name_later other = rw (from_here log n e within is, other) refl

  pub name_here : (e.host == p) ≡ true → Some e.host_name ≡ name_of (drop n log) p
  unfolding name_of
  name_here its = rw (from_here log n e within is, its) refl

-- a host is after those that it isn't before
abbrev pub IsBehind : List HostName → HostName → ℕ → Type 0
IsBehind hosts x i = (j : ℕ) (y : HostName) → j < i → j < length hosts → y ≡ get_or hosts j y → is_before x y ≡ false

pub behind_more : (hosts : List HostName) (x y : HostName) (i : ℕ) → i < length hosts → y ≡ get_or hosts i y → is_before x y ≡ false → IsBehind hosts x i → IsBehind hosts x (i + 1)
behind_more hosts x y i within is other behind j z less inside z_is =
    elim (cases_eq j i) [
      | inl same ↦
          let one : z ≡ y = z_is ∙ ap (λ k. get_or hosts k z) same ∙ get_or_default hosts i z y within ∙ sym is in
          ap (is_before x) one ∙ other
      | inr differs ↦ behind j z (omega arith) inside z_is
    ]

-- it is put after them, and before the first that it is before
pub put_there : (hosts : List HostName) (x : HostName) (i : ℕ) → i ≤ length hosts → IsBehind hosts x i
    → ((y : HostName) → i < length hosts → y ≡ get_or hosts i y → is_before x y ≡ true) → insert hosts i x ≡ put_by_name hosts x
unfolding put_by_name
put_there [] x zero within behind here = refl
put_there [] x (suc i) within behind here = absurd (omega (arith, within))
put_there (y ∷ hosts) x zero within behind here = rw (here y (omega arith) refl) refl
put_there (y ∷ hosts) x (suc i) within behind here =
    rw (behind zero y (omega arith) (omega arith) refl)
    (ap (λ l. y ∷ l)
    (put_there hosts x i (omega (arith, within)) (λ j z less inside. behind (suc j) z (omega (arith, less)) (omega (arith, inside))) (λ z inside. here z (omega (arith, inside)))))

-- how often a host is there
abbrev pub times : ℕ → List HostName → ℕ
times p [] = 0
times p (x ∷ hosts) = cond (x.host == p) 1 0 + times p hosts

times_put : (p : ℕ) (hosts : List HostName) (x : HostName) → times p (put_by_name hosts x) ≡ cond (x.host == p) 1 0 + times p hosts
unfolding put_by_name
times_put p [] x = refl
times_put p (y ∷ hosts) x = go (is_before x y) (times_put p hosts x)
  where
    go : (its : Bool) → times p (put_by_name hosts x) ≡ cond (x.host == p) 1 0 + times p hosts
        → times p (cond its (x ∷ y ∷ hosts) (y ∷ put_by_name hosts x)) ≡ cond (x.host == p) 1 0 + (cond (y.host == p) 1 0 + times p hosts)
    go true rest = refl
    go false rest = omega (arith, rest)

times_past : (n p : ℕ) (log : List Entry) → n < p → times p (by_name n log) ≡ 0
unfolding by_name
times_past zero p log past = refl
times_past (suc n) p log past =
    let other : (suc n == p) ≡ false = ne_eqb (suc n) p (λ e. absurd (omega (arith, past, e))) in
    let rest = times_past n p log (omega (arith, past)) in
    times_put p (by_name n log) (host_of log (suc n)) ∙ rw other (omega (arith, rest))

-- each of n hosts is there once
pub times_once : (n p : ℕ) (log : List Entry) → 1 ≤ p → p ≤ n → times p (by_name n log) ≡ 1
unfolding by_name
times_once zero p log low high = absurd (omega (arith, low, high))
times_once (suc n) p log low high = times_put p (by_name n log) (host_of log (suc n)) ∙ go (suc n == p) refl (λ within. times_once n p log low within)
  where
    below : (suc n == p) ≡ false → p ≤ n
    below other = let differs : suc n ≢ p = λ e. absurd (let its = eq-eqb (suc n) p e in cc) in grind (arith, high, differs)

    go : (its : Bool) → (suc n == p) ≡ its → (p ≤ n → times p (by_name n log) ≡ 1) → cond its 1 0 + times p (by_name n log) ≡ 1
    go true e rest =
        let same = eqb-true (suc n) p e in
        let none = times_past n p log (omega (arith, same)) in
        omega (arith, none)
    go false e rest = let one = rest (below e) in omega (arith, one)

-- all of them are among n
abbrev pub AreUpTo : ℕ → List HostName → Type 0
AreUpTo n [] = Unit {0}
AreUpTo n (x ∷ hosts) = ((1 ≤ x.host) × (x.host ≤ n)) × AreUpTo n hosts

up_to_put : (n : ℕ) (hosts : List HostName) (x : HostName) → (1 ≤ x.host) × (x.host ≤ n) → AreUpTo n hosts → AreUpTo n (put_by_name hosts x)
unfolding put_by_name
up_to_put n [] x its are = (its, tt)
up_to_put n (y ∷ hosts) x its are = go (is_before x y) (up_to_put n hosts x its are.1)
  where
    go : (here : Bool) → AreUpTo n (put_by_name hosts x) → AreUpTo n (cond here (x ∷ y ∷ hosts) (y ∷ put_by_name hosts x))
    go true rest = (its, are)
    go false rest = (are.0, rest)

up_to_from : (m n : ℕ) (log : List Entry) → m ≤ n → AreUpTo n (by_name m log)
unfolding by_name
up_to_from zero n log within = tt
up_to_from (suc m) n log within = up_to_put n (by_name m log) (host_of log (suc m)) (omega arith, within) (up_to_from m n log (omega (arith, within)))

pub are_up_to : (n : ℕ) (log : List Entry) → AreUpTo n (by_name n log)
are_up_to n log = up_to_from n n log (omega arith)

length_put : (hosts : List HostName) (x : HostName) → length (put_by_name hosts x) ≡ suc (length hosts)
unfolding put_by_name
length_put [] x = refl
length_put (y ∷ hosts) x = go (is_before x y) (length_put hosts x)
  where
    go : (its : Bool) → length (put_by_name hosts x) ≡ suc (length hosts) → length (cond its (x ∷ y ∷ hosts) (y ∷ put_by_name hosts x)) ≡ suc (suc (length hosts))
    go true rest = refl
    go false rest = ap suc rest

pub by_name_count : (n : ℕ) (log : List Entry) → length (by_name n log) ≡ n
unfolding by_name
by_name_count zero log = refl
by_name_count (suc n) log = length_put (by_name n log) (host_of log (suc n)) ∙ ap suc (by_name_count n log)

-- one more host
pub by_name_more : (n : ℕ) (log : List Entry) (x : HostName) → x ≡ host_of log (suc n) → put_by_name (by_name n log) x ≡ by_name (n + 1) log
unfolding by_name
by_name_more n log x is = let next : n + 1 ≡ suc n = omega arith in rw (next, is) refl
