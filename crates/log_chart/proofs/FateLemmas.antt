-- What is known of the messages that are received from a line on, after one more line.
use Rattle.std.proofs.Common.{◌≡◌, ◌≢◌, ℕ, ◌+◌, ◌<◌, ◌≤◌, ◌==◌, ◌&&◌, Bool, true, false, cond, List, [], ◌∷◌, ◌++◌, Option, None, Some, length, set, drop, get_or, map, filter, refl, sym, ap, ap₂, ◌∙◌, subst, arith, eqb-true, append_assoc, replicate}
use Rattle.std.proofs.lemmas.Bool.{and_parts, eqb-false}
use Rattle.std.proofs.lemmas.List.{length-set, get_or-set_same, get_or-set_other, get_or-replicate, drop_all, append-nil, length-replicate}
use Rattle.std.proofs.lemmas.List.Elements.{All-get_or}
use Rattle.log_chart.specs.LaneTables.{LaneSends, AreLanes, changed}
use Rattle.log_chart.specs.Fates.{sender_of, receiver_of, is_on, earlier, first_sent, later_one, last_sent, overtaking, message_fate}
use Rattle.log_chart.specs.FateTables.{AreFirst, AreLast, AreFates, IsWithin, AreWithin}
use Rattle.log_chart.specs.declared.fate.Fate.{Fate}
use Rattle.log_chart.specs.declared.matching.LogLine.{LogLine}
use Rattle.log_chart.proofs.MatchingLemmas.{from_here}

-- the send of one lane changes, and the sends of the others remain
pub at_lane : (its : Bool) (a b q p : ℕ) (f : LaneSends) (g : Option ℕ → Option ℕ) → (a == q && b == p) ≡ its → cond its (g (f a b)) (f q p) ≡ cond its (g (f q p)) (f q p)
at_lane true a b q p f g same =
    let ends = and_parts (a == q) (b == p) same in
    ap₂ (λ x y. g (f x y)) (eqb-true a q ends.0) (eqb-true b p ends.1)
at_lane false a b q p f g other = refl

-- a table with the same sends
pub lanes_same : (table : List (Option ℕ)) (f g : LaneSends) → ((q p : ℕ) → f q p ≡ g q p) → AreLanes table f → AreLanes table g
lanes_same table f g same are q p is_q is_p = are q p is_q is_p ∙ same q p

-- a line that receives nothing
either : {X : Type 0} (its : Bool) (x : X) → x ≡ cond its x x
either true x = refl
either false x = refl

pub first_same : (x : LogLine) (later : List LogLine) → x.send ≡ None → (q p : ℕ) → first_sent later q p ≡ first_sent (x ∷ later) q p
unfolding first_sent
first_same x later none q p = rw none (either (is_on q p x) (first_sent later q p))

pub last_same : (x : LogLine) (later : List LogLine) → x.send ≡ None → (q p : ℕ) → last_sent later q p ≡ last_sent (x ∷ later) q p
unfolding last_sent
last_same x later none q p = rw none (either (is_on q p x) (last_sent later q p))

pub fates_same : (table : List (Option Fate)) (x : LogLine) (later : List LogLine) → x.send ≡ None → AreFates table later → AreFates table (x ∷ later)
unfolding message_fate
fates_same table x later none are s within = rw none (are s within)

-- a line that receives the message of a send
pub first_more : (x : LogLine) (later : List LogLine) (s : ℕ) (t : Option ℕ) → x.send ≡ Some s → t ≡ earlier (Some s) (first_sent later (sender_of x.entry) (receiver_of x.entry))
    → (q p : ℕ) → changed (first_sent later) (sender_of x.entry) (receiver_of x.entry) t q p ≡ first_sent (x ∷ later) q p
unfolding first_sent
first_more x later s t sent is q p = rw (sent, is) (at_lane (is_on q p x) (sender_of x.entry) (receiver_of x.entry) q p (first_sent later) (earlier (Some s)) refl)

pub last_more : (x : LogLine) (later : List LogLine) (s : ℕ) (t : Option ℕ) → x.send ≡ Some s → t ≡ later_one (Some s) (last_sent later (sender_of x.entry) (receiver_of x.entry))
    → (q p : ℕ) → changed (last_sent later) (sender_of x.entry) (receiver_of x.entry) t q p ≡ last_sent (x ∷ later) q p
unfolding last_sent
last_more x later s t sent is q p = rw (sent, is) (at_lane (is_on q p x) (sender_of x.entry) (receiver_of x.entry) q p (last_sent later) (later_one (Some s)) refl)

pub fates_more : (table : List (Option Fate)) (x : LogLine) (later : List LogLine) (s : ℕ) (fate : Fate) → x.send ≡ Some s → s < length table
    → fate ≡ overtaking (first_sent later (sender_of x.entry) (receiver_of x.entry)) s → AreFates table later → AreFates (set table s (Some fate)) (x ∷ later)
unfolding message_fate
fates_more table x later s fate sent within is are t t_within = rw sent (go (s == t) refl)
  where
    there : Option ℕ
    there = first_sent later (sender_of x.entry) (receiver_of x.entry)

    inside : t < length table
    inside = omega (arith, t_within, length-set table s (Some fate))

    go : (its : Bool) → (s == t) ≡ its → get_or (set table s (Some fate)) t None ≡ cond its (Some (overtaking (first_sent later (sender_of x.entry) (receiver_of x.entry)) t)) (message_fate t later)
    go true same =
        let e : s ≡ t = eqb-true s t same in
        subst (λ k. get_or (set table s (Some fate)) k None ≡ Some (overtaking there k)) e (get_or-set_same table s (Some fate) None within ∙ ap Some is)
    go false other =
        let apart : t ≢ s = λ e. absurd (eqb-false s t other (sym e)) in
        get_or-set_other table s t (Some fate) None apart ∙ are t inside

-- no lines receive nothing
pub no_fates : (n : ℕ) → AreFates (replicate n None) []
unfolding message_fate
no_fates n s within = get_or-replicate n s None None (omega (arith, within, length-replicate {A = Option Fate} n None))

pub no_first : (table : List (Option ℕ)) → AreLanes table (λ q p. None) → AreFirst table []
unfolding first_sent
no_first table none = none

pub no_last : (table : List (Option ℕ)) → AreLanes table (λ q p. None) → AreLast table []
unfolding last_sent
no_last table none = none

-- what holds of no lines holds after the last line
pub behind_all : (P : List LogLine → Type 0) (lines : List LogLine) (n : ℕ) → length lines ≤ n → P [] → P (drop n lines)
behind_all P lines n past none = subst P (sym (drop_all n lines past)) none

-- and what holds from a line on
pub from_one : (P : List LogLine → Type 0) (lines : List LogLine) (n m : ℕ) (x : LogLine) → n + 1 ≡ m → n < length lines → x ≡ get_or lines n x → P (x ∷ drop m lines) → P (drop n lines)
from_one P lines n m x more within is holds =
    subst P (sym (from_here lines n x within is)) (subst (λ k. P (x ∷ drop k lines)) (sym more) holds)

pub send_within : (lines : List LogLine) (n : ℕ) (x : LogLine) → AreWithin lines → n < length lines → x ≡ get_or lines n x → IsWithin (length lines) x.send
send_within lines n x within inside is = subst (λ y. IsWithin (length lines) y.send) (sym is) (All-get_or (λ y. IsWithin (length lines) y.send) lines n x inside within)

-- a table that is known of one send
pub is_within : (n : ℕ) (send : Option ℕ) (s : ℕ) → send ≡ Some s → IsWithin n send → s < n
is_within n send s is within = subst (IsWithin n) is within

-- the fates so far, and those of the remaining lines
pub fates_next : (f : LogLine → Fate) (found more : List Fate) (lines : List LogLine) (n : ℕ) (x : LogLine) (fate : Fate) → n < length lines → x ≡ get_or lines n x → fate ≡ f x
    → more ≡ found ++ fate ∷ [] → more ++ map f (drop (n + 1) lines) ≡ found ++ map f (drop n lines)
fates_next f found more lines n x fate within is its grown = rw (grown, its, from_here lines n x within is) (append_assoc found (f x ∷ []) (map f (drop (n + 1) lines)))

pub fates_end : (f : LogLine → Fate) (found : List Fate) (lines : List LogLine) (n : ℕ) → length lines ≤ n → found ++ map f (drop n lines) ≡ found
fates_end f found lines n past = rw (drop_all n lines past) (append-nil found)

-- the lines that stay so far, and those of the remaining lines
module _ (p : LogLine → Bool) (kept : List LogLine) (lines : List LogLine) (n : ℕ) (x : LogLine) (within : n < length lines) (is : x ≡ get_or lines n x) where
  pub stay_next : (more : List LogLine) → p x ≡ true → more ≡ kept ++ x ∷ [] → more ++ filter p (drop (n + 1) lines) ≡ kept ++ filter p (drop n lines)
  stay_next more passes grown = rw (grown, from_here lines n x within is, passes) (append_assoc kept (x ∷ []) (filter p (drop (n + 1) lines)))

  pub stay_without : p x ≡ false → kept ++ filter p (drop (n + 1) lines) ≡ kept ++ filter p (drop n lines)
  stay_without fails = rw (from_here lines n x within is, fails) refl

pub stay_end : (p : LogLine → Bool) (kept : List LogLine) (lines : List LogLine) (n : ℕ) → length lines ≤ n → kept ++ filter p (drop n lines) ≡ kept
stay_end p kept lines n past = rw (drop_all n lines past) (append-nil kept)
