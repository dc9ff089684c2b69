-- The place of an invented send: directly after the send of a message that its receiver received before.
use Rattle.std.proofs.Common.{◌≡◌, ℕ, ◌<◌, inl, inr, ◌==◌, ◌&&◌, Bool, true, false, cond, List, [], ◌∷◌, ◌++◌, Option, None, Some, refl, sym, ap, ◌∙◌, eqb-true}
use Rattle.std.specs.Prelude.{is_none, Contains}
use Rattle.std.proofs.lemmas.Bool.{and_parts, false≢true}
use Rattle.std.proofs.lemmas.List.Elements.{All-contains_itself, recursion_from_All}
use Rattle.std.specs.List.{AllByRecursion}
use Rattle.log_chart.specs.Begun.{newer, lasts_after, is_begun, begun_of, begun_from, begun, behind, heads, heads_to}
use Rattle.log_chart.specs.Entries.{is_send}
use Rattle.log_chart.specs.Fates.{sender_of, receiver_of, is_on, is_sent_at}
use Rattle.log_chart.specs.LaneTables.{LaneSends}
use Rattle.log_chart.specs.declared.matching.LogLine.{LogLine}
use Rattle.log_chart.proofs.LaneLists.{Has}
use Rattle.log_chart.proofs.OrderLemmas.{IsAbove, Rises}

-- a send that is invented for the receive r directly follows the send s: the line of r, and the earlier line of the
-- receiver with the message of s
pub record IsBehind (lines : List LogLine) (s r : ℕ) : Type 0 where
  pub own : LogLine
  pub own_among : Contains lines own
  pub own_number : own.number ≡ r
  pub last : LogLine
  pub last_among : Contains lines last
  pub takes : last.send ≡ Some s
  pub host : last.entry.host ≡ own.entry.host
  pub before : last.number < own.number

module _ (all : List LogLine) (no_send : (x : LogLine) (s : ℕ) → Contains all x → x.send ≡ Some s → is_send x.entry.kind ≡ false) where
  -- each lane's last message so far was received before these lines
  abbrev AreLast : LaneSends → List LogLine → Type 0
  AreLast lasts lines = (q p s : ℕ) → lasts q p ≡ Some s → (z : LogLine) × Contains all z × (z.send ≡ Some s) × (z.entry.host ≡ p) × IsAbove z.number lines

  lasts_next : (lasts : LaneSends) (x : LogLine) (lines : List LogLine) → Contains all x → IsAbove x.number lines → AreLast lasts (x ∷ lines) → AreLast (lasts_after lasts x) lines
  lasts_next lasts x lines has above are q p s is = go (is_on q p x) refl x.send refl is
    where
      old : lasts q p ≡ Some s → (z : LogLine) × Contains all z × (z.send ≡ Some s) × (z.entry.host ≡ p) × IsAbove z.number lines
      old same = let z = are q p s same in (z.0, z.1, z.2, z.3, z.4.1)

      receiver : (t : ℕ) → x.send ≡ Some t → is_on q p x ≡ true → x.entry.host ≡ p
      receiver t sent on =
          let ends = and_parts (sender_of x.entry == q) (receiver_of x.entry == p) on in
          sym (ap (λ b. cond b x.entry.peer x.entry.host) (no_send x t has sent)) ∙ eqb-true (receiver_of x.entry) p ends.1

      go : (its : Bool) → is_on q p x ≡ its → (send : Option ℕ) → x.send ≡ send → cond its (newer send (lasts q p)) (lasts q p) ≡ Some s
          → (z : LogLine) × Contains all z × (z.send ≡ Some s) × (z.entry.host ≡ p) × IsAbove z.number lines
      go true e None f same = old same
      go true e (Some t) f same = (x, has, f ∙ same, receiver t f e, above)
      go false e send f same = old same

  origin : (lasts : LaneSends) (lines : List LogLine) → AllByRecursion (Contains all) lines → Rises lines → AreLast lasts lines → (s r : ℕ) → Has (behind (begun_from lasts lines) s) r → IsBehind all s r
  unfolding begun_from behind
  origin lasts [] sub rises are s r has = absurd has
  origin lasts (x ∷ lines) sub rises are s r has = go (is_begun x) has (origin (lasts_after lasts x) lines sub.1 rises.1 (lasts_next lasts x lines sub.0 rises.0 are) s r)
    where
      here : lasts x.entry.peer x.entry.host ≡ Some s → x.number ≡ r → IsBehind all s r
      here is number = let z = are x.entry.peer x.entry.host s is in record {
        own = x;
        own_among = sub.0;
        own_number = number;
        last = z.0;
        last_among = z.1;
        takes = z.2;
        host = z.3;
        before = z.4.0;
      }

      sent : (t : Option ℕ) → is_sent_at s t ≡ true → t ≡ Some s
      sent None e = absurd (false≢true e)
      sent (Some t) e = ap (λ k. Some k) (eqb-true t s e)

      by_place : (its : Bool) → is_sent_at s (lasts x.entry.peer x.entry.host) ≡ its
          → Has (cond its (x.number ∷ behind (begun_from (lasts_after lasts x) lines) s) (behind (begun_from (lasts_after lasts x) lines) s)) r
          → (Has (behind (begun_from (lasts_after lasts x) lines) s) r → IsBehind all s r) → IsBehind all s r
      by_place true e (inl same) rest = here (sent (lasts x.entry.peer x.entry.host) e) same
      by_place true e (inr there) rest = rest there
      by_place false e there rest = rest there

      go : (its : Bool) → Has (behind (cond its (begun_of lasts x ∷ []) [] ++ begun_from (lasts_after lasts x) lines) s) r
          → (Has (behind (begun_from (lasts_after lasts x) lines) s) r → IsBehind all s r) → IsBehind all s r
      go true there rest = by_place (is_sent_at s (lasts x.entry.peer x.entry.host)) refl there rest
      go false there rest = rest there

-- an invented send at the head of q's line is for a receive of its receiver from q
head_from : (lasts : LaneSends) (all lines : List LogLine) → AllByRecursion (Contains all) lines → (q p r : ℕ) → Has (heads_to (heads (begun_from lasts lines) q) p) r
    → (x : LogLine) × Contains all x × (x.entry.peer ≡ q) × (x.entry.host ≡ p)
unfolding begun_from heads_to
head_from lasts all [] sub q p r has = absurd has
head_from lasts all (x ∷ lines) sub q p r has = go (is_begun x) has (head_from (lasts_after lasts x) all lines sub.1 q p r)
  where
    Found : Type 0
    Found = (y : LogLine) × Contains all y × (y.entry.peer ≡ q) × (y.entry.host ≡ p)

    by_receiver : (x.entry.peer == q) ≡ true → (its : Bool) → (x.entry.host == p) ≡ its
        → Has (cond its (x.number ∷ heads_to (heads (begun_from (lasts_after lasts x) lines) q) p) (heads_to (heads (begun_from (lasts_after lasts x) lines) q) p)) r
        → (Has (heads_to (heads (begun_from (lasts_after lasts x) lines) q) p) r → Found) → Found
    by_receiver sender true e there rest = (x, sub.0, eqb-true x.entry.peer q sender, eqb-true x.entry.host p e)
    by_receiver sender false e there rest = rest there

    by_sender : (none its : Bool) → (x.entry.peer == q) ≡ its
        → Has (heads_to (cond (none && its) (begun_of lasts x ∷ heads (begun_from (lasts_after lasts x) lines) q) (heads (begun_from (lasts_after lasts x) lines) q)) p) r
        → (Has (heads_to (heads (begun_from (lasts_after lasts x) lines) q) p) r → Found) → Found
    by_sender true true e there rest = by_receiver e (x.entry.host == p) refl there rest
    by_sender true false e there rest = rest there
    by_sender false its e there rest = rest there

    go : (its : Bool) → Has (heads_to (heads (cond its (begun_of lasts x ∷ []) [] ++ begun_from (lasts_after lasts x) lines) q) p) r
        → (Has (heads_to (heads (begun_from (lasts_after lasts x) lines) q) p) r → Found) → Found
    go true there rest = by_sender (is_none (lasts x.entry.peer x.entry.host)) (x.entry.peer == q) refl there rest
    go false there rest = rest there

pub head_is : (lines : List LogLine) (q p r : ℕ) → Has (heads_to (heads (begun lines) q) p) r → (x : LogLine) × Contains lines x × (x.entry.peer ≡ q) × (x.entry.host ≡ p)
head_is lines q p r has = head_from (λ a b. None) lines lines (recursion_from_All (Contains lines) lines (All-contains_itself lines)) q p r has

pub behind_is : (lines : List LogLine) → ((x : LogLine) (s : ℕ) → Contains lines x → x.send ≡ Some s → is_send x.entry.kind ≡ false) → Rises lines → (s r : ℕ) → Has (behind (begun lines) s) r → IsBehind lines s r
behind_is lines no_send rises s r has =
    origin lines no_send (λ q p. None) lines (recursion_from_All (Contains lines) lines (All-contains_itself lines)) rises (λ q p t is. absurd (cc is)) s r has
