-- Pairing after a receive is freed: the later receives of its stream take earlier sends.
use Rattle.std.proofs.Common.{◌≡◌, ℕ, zero, suc, ◌+◌, ◌<◌, ◌≤◌, ◌==◌, ◌&&◌, ◌⊎◌, inl, inr, Bool, true, false, cond, List, [], ◌∷◌, None, Some, length, drop, get_or, refl, sym, ap, ◌∙◌, subst, arith, eqb-true}
use Rattle.std.specs.Prelude.{Contains}
use Rattle.std.proofs.lemmas.Bool.{eqb-false, ne_eqb, eq-eqb, false≢true}
use Rattle.log_chart.specs.Chains.{first_of}
use Rattle.log_chart.specs.Entries.{is_send, takes}
use Rattle.log_chart.specs.Fates.{sender_of, receiver_of}
use Rattle.log_chart.specs.Matching.{send_for, left_after, matched_from}
use Rattle.log_chart.specs.declared.entry.Entry.{Entry}
use Rattle.log_chart.specs.declared.matching.LogLine.{LogLine}
use Rattle.log_chart.specs.Cycles.Freeing.{freed}
use Rattle.log_chart.proofs.TakenLanes.{AreLeft, AreStreams, left_then, first_has, took, sends_nothing}
use Rattle.log_chart.proofs.CyclesLemmas.SettleLemmas.{takes_no_send}

-- a line of the stream at or below the freed line takes this send
pub record IsTaken (whole : List LogLine) (c k n s : ℕ) : Type 0 where
  pub line : LogLine
  pub among : Contains whole line
  pub stream : line.entry.stream ≡ c
  pub low : k ≤ line.number
  pub high : line.number < n
  pub takes_it : line.send ≡ Some s

-- the same line, before and after line k of stream c is freed
pub record IsAlike (whole : List LogLine) (stream : ℕ → ℕ) (c k : ℕ) (x y : LogLine) : Type 0 where
  pub number : y.number ≡ x.number
  pub host : y.entry.host ≡ x.entry.host
  pub name : y.entry.host_name ≡ x.entry.host_name
  pub same : y.entry.stream ≡ x.entry.stream
  pub sender : sender_of y.entry ≡ sender_of x.entry
  pub receiver : receiver_of y.entry ≡ receiver_of x.entry
  pub sends : is_send y.entry.kind ≡ is_send x.entry.kind
  pub own : stream x.number ≡ x.entry.stream
  pub takes_own : (s : ℕ) → x.send ≡ Some s → stream s ≡ x.entry.stream
  pub takes_own_too : (s : ℕ) → y.send ≡ Some s → stream s ≡ x.entry.stream
  pub other : (x.entry.stream ≡ c → ⊥) → y.send ≡ x.send
  pub none : is_send x.entry.kind ≡ true → (x.send ≡ None) × (y.send ≡ None)
  pub shift : (s : ℕ) → y.send ≡ Some s → (x.send ≡ Some s) ⊎ IsTaken whole c k x.number s

abbrev pub AreAlike : List LogLine → (ℕ → ℕ) → ℕ → ℕ → List LogLine → List LogLine → Type 0
AreAlike whole stream c k [] [] = Unit {0}
AreAlike whole stream c k [] (y ∷ ys) = ⊥
AreAlike whole stream c k (x ∷ xs) [] = ⊥
AreAlike whole stream c k (x ∷ xs) (y ∷ ys) = IsAlike whole stream c k x y × AreAlike whole stream c k xs ys

-- elements of a longer list
pub first_in : (x : LogLine) (xs : List LogLine) → Contains (x ∷ xs) x
first_in x xs = (zero, omega arith, refl)

pub later_in : (x y : LogLine) (xs : List LogLine) → Contains xs y → Contains (x ∷ xs) y
later_in x y xs has = (suc has.0, omega (arith, has.1), has.2)

abbrev Among : List LogLine → List LogLine → Type 0
Among whole xs = (x : LogLine) → Contains xs x → Contains whole x

-- the remaining sends after the freed line: the stream has one more at its head, which was taken, or the same
abbrev Lags : List LogLine → ℕ → ℕ → ℕ → List ℕ → List ℕ → Type 0
Lags whole c k n left left' = (left' ≡ left) ⊎ ((s : ℕ) × (left' ≡ s ∷ left) × IsTaken whole c k n s)

module _ (whole : List LogLine) (stream : ℕ → ℕ) (c k : ℕ) where
  longer : (n m s : ℕ) → n ≤ m → IsTaken whole c k n s → IsTaken whole c k m s
  longer n m s less its = record {
    line = its.line;
    among = its.among;
    stream = its.stream;
    low = its.low;
    high = omega (arith, less, its.high);
    takes_it = its.takes_it;
  }

  lags_longer : (n m : ℕ) (left left' : List ℕ) → n ≤ m → Lags whole c k n left left' → Lags whole c k m left left'
  lags_longer n m left left' less (inl same) = inl same
  lags_longer n m left left' less (inr w) = inr (w.0, w.1, longer n m w.0 less w.2)

  -- the stream's remaining sends without the first one, which line n takes
  lags_rest : (n : ℕ) (left left' : List ℕ) → ((s : ℕ) → first_of left ≡ Some s → IsTaken whole c k (n + 1) s) → Lags whole c k n left left' → Lags whole c k (n + 1) (drop 1 left) (drop 1 left')
  lags_rest n left left' here (inl same) = inl (ap (drop 1) same)
  lags_rest n [] left' here (inr w) = inl (ap (drop 1) w.1)
  lags_rest n (t ∷ rest) left' here (inr w) = inr (t, ap (drop 1) w.1, here t refl)

  -- the freed line takes none
  lags_first : (n : ℕ) (left : List ℕ) → ((s : ℕ) → first_of left ≡ Some s → IsTaken whole c k (n + 1) s) → Lags whole c k (n + 1) (drop 1 left) left
  lags_first n [] here = inl refl
  lags_first n (t ∷ rest) here = inr (t, refl, here t refl)

  -- the send that a line takes from remaining sends that differ in one stream
  shifted : (left left' : ℕ → List ℕ) (n : ℕ) (e : Entry) → ((d : ℕ) → (d ≡ c → ⊥) → left' d ≡ left d) → Lags whole c k n (left c) (left' c)
      → (s : ℕ) → send_for left' e ≡ Some s → (send_for left e ≡ Some s) ⊎ IsTaken whole c k n s
  shifted left left' n e off lags s is = go (e.stream == c) refl
    where
      first : first_of (left' e.stream) ≡ Some s
      first = (took left' e s is).1

      from_same : left' e.stream ≡ left e.stream → send_for left e ≡ Some s
      from_same same = rw (took left' e s is).0 (ap first_of (sym same) ∙ first)

      by_lags : e.stream ≡ c → Lags whole c k n (left c) (left' c) → (send_for left e ≡ Some s) ⊎ IsTaken whole c k n s
      by_lags at (inl same) = inl (from_same (ap left' at ∙ same ∙ ap left (sym at)))
      by_lags at (inr w) =
          let e₁ : Some w.0 ≡ Some s = sym (ap first_of w.1) ∙ ap (λ d. first_of (left' d)) (sym at) ∙ first in
          let e₂ : w.0 ≡ s = cc e₁ in
          inr (subst (IsTaken whole c k n) e₂ w.2)

      go : (its : Bool) → (e.stream == c) ≡ its → (send_for left e ≡ Some s) ⊎ IsTaken whole c k n s
      go true f = by_lags (eqb-true e.stream c f) lags
      go false f = inl (from_same (off e.stream (eqb-false e.stream c f)))

  same_entry : (left left' : ℕ → List ℕ) (n : ℕ) (e : Entry) → AreLeft stream left → AreLeft stream left' → stream n ≡ e.stream → ((d : ℕ) → (d ≡ c → ⊥) → left' d ≡ left d)
      → Lags whole c k n (left c) (left' c)
      → IsAlike whole stream c k (record { number = n; entry = e; send = send_for left e }) (record { number = n; entry = e; send = send_for left' e })
  same_entry left left' n e are are' at off lags = record {
    number = refl;
    host = refl;
    name = refl;
    same = refl;
    sender = refl;
    receiver = refl;
    sends = refl;
    own = at;
    takes_own = λ s is. are.own e.stream s (first_has (left e.stream) s (took left e s is).1);
    takes_own_too = λ s is. are'.own e.stream s (first_has (left' e.stream) s (took left' e s is).1);
    other = λ differs. ap (λ l. cond (takes e.kind) (first_of l) None) (off e.stream differs);
    none = λ its. (sends_nothing left e its, sends_nothing left' e its);
    shift = λ s is. shifted left left' n e off lags s is;
  }

  off_after : (left left' : ℕ → List ℕ) (e : Entry) → ((d : ℕ) → (d ≡ c → ⊥) → left' d ≡ left d) → (d : ℕ) → (d ≡ c → ⊥) → left_after left' e d ≡ left_after left e d
  off_after left left' e off d differs = ap (λ l. cond (takes e.kind && e.stream == d) (drop 1 l) l) (off d differs)

  lags_after : (left left' : ℕ → List ℕ) (n : ℕ) (e : Entry) → k ≤ n → Contains whole (record { number = n; entry = e; send = send_for left e }) → Lags whole c k n (left c) (left' c)
      → Lags whole c k (n + 1) (left_after left e c) (left_after left' e c)
  lags_after left left' n e low among lags = go (takes e.kind) refl (e.stream == c) refl
    where
      here : takes e.kind ≡ true → e.stream ≡ c → (s : ℕ) → first_of (left c) ≡ Some s → IsTaken whole c k (n + 1) s
      here one at s is = record {
        line = record { number = n; entry = e; send = send_for left e };
        among = among;
        stream = at;
        low = low;
        high = omega arith;
        takes_it = rw one (ap (λ d. first_of (left d)) at ∙ is);
      }

      go : (one : Bool) → takes e.kind ≡ one → (its : Bool) → (e.stream == c) ≡ its
          → Lags whole c k (n + 1) (cond (one && its) (drop 1 (left c)) (left c)) (cond (one && its) (drop 1 (left' c)) (left' c))
      go true f true g = lags_rest n (left c) (left' c) (here f (eqb-true e.stream c g)) lags
      go true f false g = lags_longer n (n + 1) (left c) (left' c) (omega arith) lags
      go false f its g = lags_longer n (n + 1) (left c) (left' c) (omega arith) lags

  -- below the freed line
  alike_below : (left left' : ℕ → List ℕ) (n : ℕ) (log : List Entry) → AreLeft stream left → AreLeft stream left' → AreStreams stream n log → k ≤ n
      → ((d : ℕ) → (d ≡ c → ⊥) → left' d ≡ left d) → Lags whole c k n (left c) (left' c) → Among whole (matched_from left n log)
      → AreAlike whole stream c k (matched_from left n log) (matched_from left' n log)
  unfolding matched_from
  alike_below left left' n [] are are' streams low off lags among = tt
  alike_below left left' n (e ∷ log) are are' streams low off lags among = (
    same_entry left left' n e are are' streams.0 off lags,
    alike_below (left_after left e) (left_after left' e) (n + 1) log (left_then stream left e are) (left_then stream left' e are') streams.1 (omega (arith, low)) (off_after left left' e off)
        (lags_after left left' n e low (among _ (first_in _ _)) lags) (λ x has. among x (later_in _ x _ has)),
  )

  -- from a line at or above the freed one on
  pub alike_from : (left left' : ℕ → List ℕ) (n j : ℕ) (log : List Entry) (f : Entry) → AreLeft stream left → AreLeft stream left' → AreStreams stream n log → k ≡ n + j → j < length log
      → get_or log j f ≡ f → takes f.kind ≡ true → f.stream ≡ c → ((d : ℕ) → left' d ≡ left d) → Among whole (matched_from left n log)
      → AreAlike whole stream c k (matched_from left n log) (matched_from left' n (freed j log))
  unfolding matched_from
  alike_from left left' n j [] f are are' streams at within is one its same among = absurd (omega (arith, within))
  alike_from left left' n zero (e ∷ log) f are are' streams at within is one its same among = (
    record {
      number = refl;
      host = refl;
      name = refl;
      same = refl;
      sender = sym (ap (λ b. cond b e.host e.peer) receives);
      receiver = sym (ap (λ b. cond b e.peer e.host) receives);
      sends = sym receives;
      own = streams.0;
      takes_own = λ s takes_it. are.own e.stream s (first_has (left e.stream) s (took left e s takes_it).1);
      takes_own_too = λ s none. absurd (cc none);
      other = λ differs. absurd (differs stream_is);
      none = λ sent. absurd (false≢true (sym receives ∙ sent));
      shift = λ s none. absurd (cc none);
    },
    alike_below (left_after left e) left' (n + 1) log (left_then stream left e are) are' streams.1 (omega (arith, at)) off lags (λ x has. among x (later_in _ x _ has)),
  )
    where
      takes_one : takes e.kind ≡ true
      takes_one = ap (λ (x : Entry). takes x.kind) is ∙ one

      receives : is_send e.kind ≡ false
      receives = takes_no_send e.kind takes_one

      stream_is : e.stream ≡ c
      stream_is = ap (λ (x : Entry). x.stream) is ∙ its

      off : (d : ℕ) → (d ≡ c → ⊥) → left' d ≡ left_after left e d
      off d differs =
          let apart : (e.stream == d) ≡ false = ne_eqb e.stream d (λ g. differs (sym g ∙ stream_is)) in
          same d ∙ sym (ap (λ b. cond (takes e.kind && b) (drop 1 (left d)) (left d)) apart ∙ none (takes e.kind) (left d))
        where
          none : (b : Bool) (l : List ℕ) → cond (b && false) (drop 1 l) l ≡ l
          none true l = refl
          none false l = refl

      here : (s : ℕ) → first_of (left c) ≡ Some s → IsTaken whole c k (n + 1) s
      here s first = record {
        line = record { number = n; entry = e; send = send_for left e };
        among = among _ (first_in _ _);
        stream = stream_is;
        low = omega (arith, at);
        high = omega arith;
        takes_it = rw takes_one (ap (λ d. first_of (left d)) stream_is ∙ first);
      }

      lags : Lags whole c k (n + 1) (left_after left e c) (left' c)
      lags =
          rw (takes_one, eq-eqb e.stream c stream_is) (subst (Lags whole c k (n + 1) (drop 1 (left c))) (sym (same c)) (lags_first n (left c) here))
  alike_from left left' n (suc j) (e ∷ log) f are are' streams at within is one its same among = (
    same_entry left left' n e are are' streams.0 (λ d differs. same d) (inl (same c)),
    alike_from (left_after left e) (left_after left' e) (n + 1) j log f (left_then stream left e are) (left_then stream left' e are') streams.1 (omega (arith, at)) (omega (arith, within)) is one its
        (λ d. ap (λ l. cond (takes e.kind && e.stream == d) (drop 1 l) l) (same d)) (λ x has. among x (later_in _ x _ has)),
  )
