-- Turns of freeing: each frees one more receive.
use Rattle.std.proofs.Common.{◌≡◌, ℕ, zero, suc, ◌+◌, ◌<◌, ◌≤◌, Bool, true, false, cond, List, [], ◌∷◌, None, Some, length, set, get_or, refl, sym, ap, ◌∙◌, subst, arith}
use Rattle.std.specs.Prelude.{All, AllPairs, Contains, slice_get}
use Rattle.std.proofs.lemmas.Bool.{false≢true}
use Rattle.std.proofs.lemmas.List.Elements.{All-cons, All-nil, All-head, All-tail, All-filter, All-contains, All-weaker}
use Rattle.std.proofs.lemmas.Option.{slice_get-get_or}
use Rattle.chart.specs.Histories.{AreTwo}
use Rattle.log_chart.specs.Chains.{first_of}
use Rattle.log_chart.specs.Entries.{is_send, takes, HaveStreams}
use Rattle.log_chart.specs.Fates.{sender_of, receiver_of, fate_of, stays}
use Rattle.log_chart.specs.FateTables.{IsWithin}
use Rattle.log_chart.specs.HostLines.{kept}
use Rattle.log_chart.specs.Matching.{sends_from, send_for, left_after, matched_from, matched}
use Rattle.log_chart.specs.declared.entry.Entry.{Entry}
use Rattle.log_chart.specs.declared.entry.Kind.{Kind}
use Rattle.log_chart.specs.declared.entry.Kind.TheVariants.{Send, Receive, Freed}
use Rattle.log_chart.specs.declared.matching.LogLine.{LogLine}
use Rattle.log_chart.proofs.OrderLemmas.{IsAbove, Rises, Within, kept_within, kept_rises}
use Rattle.log_chart.specs.Cycles.Freeing.{IsFirst, HasNone, freed, Settles, AreAmong, HaveLanes}
use Rattle.log_chart.specs.Cycles.Freeing.Settles.{done, turn}
use Rattle.log_chart.specs.Cycles.Sources.{AreLines, HaveHosts}
use Rattle.log_chart.specs.Cycles.Turns.{takers}

-- a line of the log has its entry, and it has a send only if it is a receive that isn't freed
abbrev pub IsLineOf : List Entry → ℕ → LogLine → Type 0
IsLineOf log n x = (e : Entry) × (i : ℕ) × (i < length log) × (get_or log i e ≡ e) × (x.number ≡ n + i) × (x.entry ≡ e) × ((s : ℕ) → x.send ≡ Some s → takes e.kind ≡ true)

later_line : (log : List Entry) (e : Entry) (n : ℕ) (x : LogLine) → IsLineOf log (n + 1) x → IsLineOf (e ∷ log) n x
later_line log e n x w = (w.0, suc w.1, omega (arith, w.2), w.3, omega (arith, w.4), w.5, w.6)

pub takes_no_send : (kind : Kind) → takes kind ≡ true → is_send kind ≡ false
takes_no_send Send its = absurd (false≢true its)
takes_no_send Receive its = refl
takes_no_send Freed its = refl

takes_one : (left : ℕ → List ℕ) (e : Entry) (s : ℕ) → send_for left e ≡ Some s → takes e.kind ≡ true
takes_one left e s is = go (takes e.kind) is
  where
    go : (its : Bool) → cond its (first_of (left e.stream)) None ≡ Some s → its ≡ true
    go true same = refl
    go false none = absurd (cc none)

all_later : (log : List Entry) (e : Entry) (n : ℕ) (lines : List LogLine) → All (IsLineOf log (n + 1)) lines → All (IsLineOf (e ∷ log) n) lines
all_later log e n lines all = λ k d less. later_line log e n (get_or lines k d) (all k d less)

lines_of_from : (left : ℕ → List ℕ) (n : ℕ) (log : List Entry) → All (IsLineOf log n) (matched_from left n log)
unfolding matched_from
lines_of_from left n [] = All-nil (IsLineOf [] n)
lines_of_from left n (e ∷ log) =
    All-cons (IsLineOf (e ∷ log) n) (record { number = n; entry = e; send = send_for left e }) (matched_from (left_after left e) (n + 1) log)
    (e, zero, omega arith, refl, omega arith, refl, λ s is. takes_one left e s is) (all_later log e n _ (lines_of_from (left_after left e) (n + 1) log))

pub kept_lines_of : (log : List Entry) → All (IsLineOf log 0) (kept log)
kept_lines_of log = All-filter (λ x. stays (fate_of (matched log) x)) (IsLineOf log 0) (matched log) (lines_of_from (sends_from 0 log) 0 log)

-- a line that stays has the entry with its number
pub kept_entry : (log : List Entry) (x : LogLine) → Contains (kept log) x → slice_get log x.number ≡ Some x.entry
kept_entry log x x_in =
    let w = All-contains (IsLineOf log 0) (kept log) x (kept_lines_of log) x_in in
    let same : x.number ≡ w.1 = omega (arith, w.4) in
    ap (slice_get log) same ∙ slice_get-get_or log w.1 w.0 w.2 ∙ ap Some (w.3 ∙ sym w.5)

-- the same in the words of this crate's contracts
above_all : (n : ℕ) (lines : List LogLine) → IsAbove n lines → (k : ℕ) (d : LogLine) → k < length lines → n < (get_or lines k d).number
above_all n [] above k d less = absurd (omega arith)
above_all n (x ∷ lines) above zero d less = above.0
above_all n (x ∷ lines) above (suc k) d less = above_all n lines above.1 k d (omega (arith, less))

all_rise : (lines : List LogLine) → Rises lines → AllPairs (λ x y. x.number < y.number) lines
all_rise [] rises i j d less within = absurd (omega arith)
all_rise (x ∷ lines) rises zero zero d less within = absurd (omega arith)
all_rise (x ∷ lines) rises zero (suc j) d less within = above_all x.number lines rises.0 j d (omega (arith, within))
all_rise (x ∷ lines) rises (suc i) zero d less within = absurd (omega arith)
all_rise (x ∷ lines) rises (suc i) (suc j) d less within = all_rise lines rises.1 i j d (omega arith) (omega (arith, within))

numbers_in : (n : ℕ) (lines : List LogLine) → Within n lines → All (λ x. x.number < n) lines
numbers_in n [] within = All-nil (λ (x : LogLine). x.number < n)
numbers_in n (x ∷ lines) within = All-cons (λ (y : LogLine). y.number < n) x lines within.0 (numbers_in n lines within.2)

sends_in : (n : ℕ) (lines : List LogLine) → Within n lines → All (λ x. IsWithin n x.send) lines
sends_in n [] within = All-nil (λ (x : LogLine). IsWithin n x.send)
sends_in n (x ∷ lines) within = All-cons (λ (y : LogLine). IsWithin n y.send) x lines within.1 (sends_in n lines within.2)

pub kept_are : (log : List Entry) → AreLines (length log) (kept log)
kept_are log = record {
  numbered = numbers_in (length log) (kept log) (kept_within log);
  sends = sends_in (length log) (kept log) (kept_within log);
  rise = all_rise (kept log) (kept_rises log);
}

-- what holds of all lines of the log
pub kept_all : (P : Entry → Type 0) (log : List Entry) → All P log → All (λ x. P x.entry) (kept log)
kept_all P log all k d less =
    let w = kept_lines_of log k d less in
    subst P (sym w.5) (All-contains P log w.0 all (w.1, w.2, w.3))

pub kept_among : (hosts : ℕ) (log : List Entry) → AreAmong hosts log → HaveHosts hosts (kept log)
kept_among hosts log among = kept_all (λ e. (1 ≤ e.host) × (e.host ≤ hosts)) log (All-weaker (λ e. AreTwo hosts e.host e.peer) (λ e. (1 ≤ e.host) × (e.host ≤ hosts)) (λ e two. (two.0, two.1)) log among)

-- a line that takes a send is no send
pub kept_takes : (log : List Entry) (x : LogLine) (s : ℕ) → Contains (kept log) x → x.send ≡ Some s → is_send x.entry.kind ≡ false
kept_takes log x s has is =
    let w = All-contains (IsLineOf log 0) (kept log) x (kept_lines_of log) has in
    takes_no_send x.entry.kind (ap (λ (e : Entry). takes e.kind) w.5 ∙ w.6 s is)

-- the receive that is freed next took a send
pub first_takes : (log : List Entry) (k : ℕ) → IsFirst (kept log) k → (e : Entry) × (k < length log) × (get_or log k e ≡ e) × (takes e.kind ≡ true)
first_takes log k first =
    let on = first.on in
    let w = All-contains (IsLineOf log 0) (kept log) on.line (kept_lines_of log) on.among in
    let same : k ≡ w.1 = omega (arith, w.4, on.number) in
    (w.0, omega (arith, w.2, same), ap (λ i. get_or log i w.0) same ∙ w.3, w.6 on.send on.takes)

-- the log with one more freed receive
pub freed_set : (k : ℕ) (log : List Entry) (e : Entry) → k < length log → e ≡ get_or log k e → set log k (record e { kind = Freed }) ≡ freed k log
freed_set k [] e within is = refl
freed_set zero (x ∷ log) e within is = ap (λ (y : Entry). record y { kind = Freed } ∷ log) is
freed_set (suc k) (x ∷ log) e within is = ap (λ l. x ∷ l) (freed_set k log e (omega (arith, within)) is)

pub freed_length : (k : ℕ) (log : List Entry) → length (freed k log) ≡ length log
freed_length k [] = refl
freed_length zero (x ∷ log) = refl
freed_length (suc k) (x ∷ log) = ap suc (freed_length k log)

-- what holds of all lines, whatever their kinds are
pub freed_all : (P : Entry → Type 0) → ((e : Entry) → P e → P (record e { kind = Freed })) → (k : ℕ) (log : List Entry) → All P log → All P (freed k log)
freed_all P keeps k [] all = all
freed_all P keeps zero (x ∷ log) all = All-cons P (record x { kind = Freed }) log (keeps x (All-head P x log all)) (All-tail P x log all)
freed_all P keeps (suc k) (x ∷ log) all = All-cons P x (freed k log) (All-head P x log all) (freed_all P keeps k log (All-tail P x log all))

-- fewer lines take sends
pub freed_less : (k : ℕ) (log : List Entry) (e : Entry) → k < length log → get_or log k e ≡ e → takes e.kind ≡ true → takers (freed k log) < takers log
freed_less k [] e within is one = absurd (omega arith)
freed_less zero (x ∷ log) e within is one =
    let its : takes x.kind ≡ true = ap (λ (y : Entry). takes y.kind) is ∙ one in
    rw its (omega arith)
freed_less (suc k) (x ∷ log) e within is one =
    let fewer = freed_less k log e (omega (arith, within)) is one in
    omega (arith, fewer)

pub freed_streams : (k : ℕ) (log : List Entry) → HaveStreams log → HaveStreams (freed k log)
freed_streams k log have =
    subst (λ n. All (λ (e : Entry). e.stream < n) (freed k log)) (sym (freed_length k log)) (freed_all (λ (e : Entry). e.stream < length log) (λ e its. its) k log have)

pub freed_among : (hosts k : ℕ) (log : List Entry) → AreAmong hosts log → AreAmong hosts (freed k log)
freed_among hosts k log among = freed_all (λ (e : Entry). AreTwo hosts e.host e.peer) (λ e its. its) k log among

-- what holds of a line that takes a send holds of it when it is freed
pub freed_one : (P : Entry → Type 0) → ((e : Entry) → takes e.kind ≡ true → P e → P (record e { kind = Freed })) → (k : ℕ) (log : List Entry) (e : Entry) → k < length log → get_or log k e ≡ e
    → takes e.kind ≡ true → All P log → All P (freed k log)
freed_one P keeps k [] e within is one all = absurd (omega arith)
freed_one P keeps zero (x ∷ log) e within is one all =
    All-cons P (record x { kind = Freed }) log (keeps x (ap (λ (y : Entry). takes y.kind) is ∙ one) (All-head P x log all)) (All-tail P x log all)
freed_one P keeps (suc k) (x ∷ log) e within is one all = All-cons P x (freed k log) (All-head P x log all) (freed_one P keeps k log e (omega (arith, within)) is one (All-tail P x log all))

freed_lane : (from to : ℕ → ℕ) (e : Entry) → takes e.kind ≡ true → (sender_of e ≡ from e.stream) × (receiver_of e ≡ to e.stream) → (e.peer ≡ from e.stream) × (e.host ≡ to e.stream)
freed_lane from to e one its = go (is_send e.kind) (takes_no_send e.kind one) its
  where
    go : (sends : Bool) → sends ≡ false → (cond sends e.host e.peer ≡ from e.stream) × (cond sends e.peer e.host ≡ to e.stream) → (e.peer ≡ from e.stream) × (e.host ≡ to e.stream)
    go true other ends = absurd (false≢true (sym other))
    go false other ends = ends

pub freed_lanes : (log : List Entry) (k : ℕ) → IsFirst (kept log) k → HaveLanes log → HaveLanes (freed k log)
freed_lanes log k first (from, to, lanes) =
    let its = first_takes log k first in
    (from, to, freed_one (λ (e : Entry). (sender_of e ≡ from e.stream) × (receiver_of e ≡ to e.stream)) (freed_lane from to) k log its.0 its.1 its.2 its.3 lanes)

-- what holds of a settled log
pub settled_streams : (log out : List Entry) → Settles log out → HaveStreams log → HaveStreams out
settled_streams log out (done none) have = have
settled_streams log out (turn k first rest) have = settled_streams _ out rest (freed_streams k log have)

pub settled_among : (hosts : ℕ) (log out : List Entry) → Settles log out → AreAmong hosts log → AreAmong hosts out
settled_among hosts log out (done none) among = among
settled_among hosts log out (turn k first rest) among = settled_among hosts _ out rest (freed_among hosts k log among)

pub settled_lanes : (log out : List Entry) → Settles log out → HaveLanes log → HaveLanes out
settled_lanes log out (done none) lanes = lanes
settled_lanes log out (turn k first rest) lanes = settled_lanes _ out rest (freed_lanes log k first lanes)

-- and no receive is on a cycle
pub settled_none : (log out : List Entry) → Settles log out → HasNone (kept out)
settled_none log out (done none) = none
settled_none log out (turn k first rest) = settled_none _ out rest
