-- The faults of lines, one by one.
use Rattle.std.proofs.Common.{◌≡◌, ◌≢◌, ℕ, zero, suc, ◌+◌, ◌<◌, ◌≤◌, ◌==◌, Bool, true, false, cond, List, [], ◌∷◌, Option, None, Some, length, take, drop, get_or, refl, sym, ap, ◌∙◌, arith, eqb-true, eq-eqb}
use Rattle.std.specs.Prelude.{bytes_eq, nat_lt, fold, Result, Ok, Err, IsErrAnd}
use Rattle.std.proofs.lemmas.Bool.{lt-ltb, le-ltb, ltb-true}
use Rattle.std.proofs.lemmas.Option.{same_Some}
use Rattle.chart.specs.declared.instance.TheConstants.{MAX_INSTANCES}
use Rattle.log_chart.proofs.MatchingLemmas.{from_here}
use Rattle.log_chart.specs.declared.entry.Entry.{Entry}
use Rattle.log_chart.specs.declared.entry.Place.{Place}
use Rattle.log_chart.specs.Named.Entering.{Before, with_word, with_hosts, host_in, peer_in, entry_in, with_line, entries_from, hosts_from}
use Rattle.log_chart.specs.Named.Faults.{fault_in, sooner, first_fault, fault_of, IsRefusal, IsHostRefusal}
use Rattle.log_chart.specs.Named.Logs.{begun, IsOwn, IsRefusalOf}
use Rattle.log_chart.specs.declared.named.entering.LogError.{LogError}
use Rattle.log_chart.specs.declared.named.entering.LogError.TheVariants.{Memory, Instances, ToItself}
use Rattle.log_chart.specs.declared.named.host_event.HostEvent.{HostEvent}
use Rattle.std.proofs.lemmas.List.{drop_all}
use Rattle.std.proofs.lemmas.List.Sums.{fold_more}
use Rattle.log_chart.proofs.NamedLemmas.WordLemmas.{put_longer, words_some}

-- a refusal that is passed on
pub err_is : {A E : Type 0} (r : Result A E) (x : E) → IsErrAnd r (λ e. e ≡ x) → r ≡ Err x
err_is (Ok a) x its = absurd its
err_is (Err e) x its = ap (λ y. Err y) its

-- there are at least as many hosts after more lines
pub hosts_up : (b : Before) (event : List HostEvent) → length b.hosts ≤ length (hosts_from b event)
unfolding hosts_from
hosts_up b [] = omega arith
hosts_up b (s ∷ event) =
    let one = put_longer (bytes_eq s.host) b.hosts s.host in
    let two = put_longer (bytes_eq s.peer) (with_word b.hosts s.host) s.peer in
    let rest = hosts_up (with_line b s) event in
    omega (arith, one, two, rest)

pub sooner_none : (a b : Option LogError) → sooner a b ≡ None → (a ≡ None) × (b ≡ None)
sooner_none None b none = (refl, none)
sooner_none (Some e) b none = absurd (cc none)

-- the fault of one line
module _ (b : Before) (s : HostEvent) where
  -- there are too many hosts
  pub full_fault : MAX_INSTANCES < length (with_hosts b.hosts s) → fault_in b s ≡ Some Instances
  full_fault many = rw (lt-ltb MAX_INSTANCES (length (with_hosts b.hosts s)) many) refl

  -- a host is its own peer
  pub own_fault : length (with_hosts b.hosts s) ≤ MAX_INSTANCES → host_in b.hosts s ≡ peer_in b.hosts s → fault_in b s ≡ Some (ToItself s.place)
  own_fault few same = rw (le-ltb MAX_INSTANCES (length (with_hosts b.hosts s)) few, eq-eqb (host_in b.hosts s) (peer_in b.hosts s) same) refl

  pub no_fault : length (with_hosts b.hosts s) ≤ MAX_INSTANCES → (host_in b.hosts s == peer_in b.hosts s) ≡ false → fault_in b s ≡ None
  no_fault few differs = rw (le-ltb MAX_INSTANCES (length (with_hosts b.hosts s)) few, differs) refl

  -- a line without a fault is of two hosts
  pub two_hosts : fault_in b s ≡ None → host_in b.hosts s ≢ peer_in b.hosts s
  two_hosts none same = go (nat_lt MAX_INSTANCES (length (with_hosts b.hosts s))) none
    where
      go : (many : Bool) → cond many (Some Instances) (cond (host_in b.hosts s == peer_in b.hosts s) (Some (ToItself s.place)) None) ≡ None → ⊥
      go true e = absurd (cc e)
      go false e = absurd (let its = eq-eqb (host_in b.hosts s) (peer_in b.hosts s) same in cc (e, its))

-- the faults of one more line, and of the last
module _ (lines : List HostEvent) (n : ℕ) (x : HostEvent) (within : n < length lines) (is : x ≡ get_or lines n x) (b : Before) where
  pub faults_more : (next : Before) → next ≡ with_line b x → fault_in b x ≡ None → first_fault next (drop (n + 1) lines) ≡ first_fault b (drop n lines)
  unfolding first_fault
  faults_more next next_is none = rw (from_here lines n x within is, none, next_is) refl

  pub fault_here : (e : LogError) → fault_in b x ≡ Some e → first_fault b (drop n lines) ≡ Some e
  unfolding first_fault
  fault_here e its = rw (from_here lines n x within is, its) refl

  pub refused_here : (hosts : List (List ℕ)) → length (fold with_word [] hosts) ≤ MAX_INSTANCES → first_fault b (drop n lines) ≡ first_fault (begun hosts) lines → (e : LogError) → IsRefusal (fault_in b x) e
      → IsRefusal (fault_of hosts lines) e
  refused_here hosts few same e its = go e its
    where
      whole : (f : LogError) → fault_in b x ≡ Some f → fault_of hosts lines ≡ Some f
      whole f it = rw (le-ltb MAX_INSTANCES (length (fold with_word [] hosts)) few) (sym same ∙ fault_here f it)

      go : (f : LogError) → IsRefusal (fault_in b x) f → IsRefusal (fault_of hosts lines) f
      go Memory it = tt
      go Instances it = whole Instances it
      go (ToItself place) it = whole (ToItself place) it

pub faults_end : (b : Before) (lines : List HostEvent) (n : ℕ) → length lines ≤ n → first_fault b (drop n lines) ≡ None
unfolding first_fault
faults_end b lines n past = rw (drop_all n lines past) refl

pub faultless : (hosts : List (List ℕ)) (lines : List HostEvent) → length (fold with_word [] hosts) ≤ MAX_INSTANCES → first_fault (begun hosts) lines ≡ None → fault_of hosts lines ≡ None
faultless hosts lines few none = rw (le-ltb MAX_INSTANCES (length (fold with_word [] hosts)) few) none

-- the fault of hosts that come first
pub host_refused : (hosts : List (List ℕ)) (lines : List HostEvent) (n : ℕ) (w : List ℕ) → n < length hosts → w ≡ get_or hosts n w → (e : LogError) → IsHostRefusal (fold with_word [] (take n hosts)) w e
    → IsRefusal (fault_of hosts lines) e
host_refused hosts lines n w within is Memory refused = tt
host_refused hosts lines n w within is Instances many =
    let next = ap length (fold_more with_word [] hosts n w within ∙ ap (with_word (fold with_word [] (take n hosts))) (sym is)) in
    let some = words_some (n + 1) [] hosts in
    rw (lt-ltb MAX_INSTANCES (length (fold with_word [] hosts)) (omega (arith, many, next, some))) refl
host_refused hosts lines n w within is (ToItself place) refused = absurd refused

-- what the first fault means for all lines
full_all : (b : Before) (event : List HostEvent) → first_fault b event ≡ Some Instances → MAX_INSTANCES < length (hosts_from b event)
unfolding first_fault hosts_from
full_all b [] is = absurd (cc is)
full_all b (s ∷ event) is = go (nat_lt MAX_INSTANCES (length (with_hosts b.hosts s))) refl (host_in b.hosts s == peer_in b.hosts s) is (λ rest. full_all (with_line b s) event rest)
  where
    go : (many : Bool) → nat_lt MAX_INSTANCES (length (with_hosts b.hosts s)) ≡ many → (own : Bool)
        → sooner (cond many (Some Instances) (cond own (Some (ToItself s.place)) None)) (first_fault (with_line b s) event) ≡ Some Instances
        → (first_fault (with_line b s) event ≡ Some Instances → MAX_INSTANCES < length (hosts_from (with_line b s) event)) → MAX_INSTANCES < length (hosts_from (with_line b s) event)
    go true e own its rest = let less = ltb-true MAX_INSTANCES (length (with_hosts b.hosts s)) e in let up = hosts_up (with_line b s) event in omega (arith, less, up)
    go false e true its rest = absurd (let other = same_Some (ToItself s.place) Instances its in cc other)
    go false e false its rest = rest its

own_later : (e : Entry) (log : List Entry) (place : Place) → IsOwn log place → IsOwn (e ∷ log) place
own_later e log place is = record {
  entry = is.entry;
  among = (suc is.among.0, let within = is.among.1 in omega (arith, within), is.among.2);
  own = is.own;
  at = is.at;
}

own_all : (b : Before) (event : List HostEvent) (place : Place) → first_fault b event ≡ Some (ToItself place) → IsOwn (entries_from b event) place
unfolding first_fault entries_from
own_all b [] place is = absurd (cc is)
own_all b (s ∷ event) place is =
    go (nat_lt MAX_INSTANCES (length (with_hosts b.hosts s))) (host_in b.hosts s == peer_in b.hosts s) refl is (λ rest. own_later (entry_in b s) (entries_from (with_line b s) event) place (own_all (with_line b s) event place rest))
  where
    placed : (p q : Place) → ToItself p ≡ ToItself q → p ≡ q
    placed p q e = cc e

    go : (many own : Bool) → (host_in b.hosts s == peer_in b.hosts s) ≡ own
        → sooner (cond many (Some Instances) (cond own (Some (ToItself s.place)) None)) (first_fault (with_line b s) event) ≡ Some (ToItself place)
        → (first_fault (with_line b s) event ≡ Some (ToItself place) → IsOwn (entry_in b s ∷ entries_from (with_line b s) event) place) → IsOwn (entry_in b s ∷ entries_from (with_line b s) event) place
    go true own e its rest = absurd (let other = same_Some Instances (ToItself place) its in cc other)
    go false true e its rest = record {
      entry = entry_in b s;
      among = (zero, omega arith, refl);
      own = eqb-true (host_in b.hosts s) (peer_in b.hosts s) e;
      at = placed s.place place (same_Some (ToItself s.place) (ToItself place) its);
    }
    go false false e its rest = rest its

pub fault_says : (hosts : List (List ℕ)) (lines : List HostEvent) (e : LogError) → IsRefusal (fault_of hosts lines) e → IsRefusalOf hosts lines e
fault_says hosts lines Memory is = tt
fault_says hosts lines Instances is = go (nat_lt MAX_INSTANCES (length (fold with_word [] hosts))) refl is
  where
    go : (many : Bool) → nat_lt MAX_INSTANCES (length (fold with_word [] hosts)) ≡ many → cond many (Some Instances) (first_fault (begun hosts) lines) ≡ Some Instances → MAX_INSTANCES < length (hosts_from (begun hosts) lines)
    go true e its = let less = ltb-true MAX_INSTANCES (length (fold with_word [] hosts)) e in let up = hosts_up (begun hosts) lines in omega (arith, less, up)
    go false e its = full_all (begun hosts) lines its
fault_says hosts lines (ToItself place) is = go (nat_lt MAX_INSTANCES (length (fold with_word [] hosts))) is
  where
    go : (many : Bool) → cond many (Some Instances) (first_fault (begun hosts) lines) ≡ Some (ToItself place) → IsOwn (entries_from (begun hosts) lines) place
    go true its = absurd (let other = same_Some Instances (ToItself place) its in cc other)
    go false its = own_all (begun hosts) lines place its
