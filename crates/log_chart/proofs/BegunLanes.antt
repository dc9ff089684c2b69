-- The invented sends of a lane: for each receive without a send, with the send of the last message before it.
use Rattle.std.proofs.Common.{◌≡◌, ℕ, ◌<◌, Bool, true, false, cond, List, [], ◌∷◌, ◌++◌, Option, None, Some, map, refl, ap, ap₂, ◌∙◌, arith}
use Rattle.std.specs.Prelude.{is_none}
use Rattle.std.specs.List.{flat_map}
use Rattle.std.proofs.lemmas.Bool.{eq-eqb, ne_eqb}
use Rattle.log_chart.specs.BegunTables.{IsRising}
use Rattle.log_chart.specs.Chains.{IsBelow}
use Rattle.log_chart.specs.Fates.{is_sent_at}
use Rattle.log_chart.specs.Items.{received_message}
use Rattle.log_chart.specs.declared.item.MessageNo.{MessageNo}
use Rattle.log_chart.specs.declared.item.MessageNo.TheVariants.{Sent, Begun}
use Rattle.log_chart.proofs.LaneLists.{Taking, with_send, sends_of}
use Rattle.log_chart.proofs.RisingLists.{below_has, below_all, has_left}

abbrev pub with_begun : Option ℕ → ℕ → Option ℕ → List Taking → List Taking
with_begun None n last given = record { number = n; send = last } ∷ given
with_begun (Some s) n last given = given

abbrev pub last_after : Option ℕ → Option ℕ → Option ℕ
last_after None last = last
last_after (Some s) last = Some s

abbrev pub begun_lane : Option ℕ → List Taking → List Taking
begun_lane last [] = []
begun_lane last (r ∷ rs) = with_begun r.send r.number last (begun_lane (last_after r.send last) rs)

-- of these sends those that follow one, or are at the head
abbrev pub is_behind : Option ℕ → Option ℕ → Bool
is_behind None at = is_none at
is_behind (Some s) at = is_sent_at s at

abbrev pub behind_lane : Option ℕ → List Taking → List ℕ
behind_lane at [] = []
behind_lane at (g ∷ given) = cond (is_behind at g.send) (g.number ∷ behind_lane at given) (behind_lane at given)

-- the messages of a lane as they are sent, and as they are received
abbrev pub sent_messages : List Taking → List ℕ → List MessageNo
sent_messages given sends = flat_map (λ s. Sent s ∷ map Begun (behind_lane (Some s) given)) sends

abbrev pub received_messages : List Taking → List MessageNo
received_messages rs = map (λ r. received_message r.number r.send) rs

-- the last message's send is before these
abbrev Behind : Option ℕ → List ℕ → Type 0
Behind None xs = Unit {0}
Behind (Some l) xs = IsBelow l xs

none_invented : (sends : List ℕ) → sent_messages [] sends ≡ map Sent sends
none_invented [] = refl
none_invented (s ∷ sends) = ap (λ l. Sent s ∷ l) (none_invented sends)

-- one that follows the last message's send, before those to come
not_behind : (s n : ℕ) (last : Option ℕ) (given : List Taking) → ((l : ℕ) → last ≡ Some l → l < s) → behind_lane (Some s) (record { number = n; send = last } ∷ given) ≡ behind_lane (Some s) given
not_behind s n None given before = refl
not_behind s n (Some l) given before = rw (ne_eqb l s (λ e. let less = before l refl in absurd (omega (arith, less, e)))) refl

last_before : (last : Option ℕ) (s : ℕ) (xs : List ℕ) → Behind last (s ∷ xs) → (l : ℕ) → last ≡ Some l → l < s
last_before None s xs behind l is = absurd (cc is)
last_before (Some k) s xs behind l is = let same : k ≡ l = cc is in omega (arith, behind.0, same)

behind_rest : (last : Option ℕ) (s : ℕ) (xs : List ℕ) → Behind last (s ∷ xs) → Behind last xs
behind_rest None s xs behind = tt
behind_rest (Some l) s xs behind = behind.1

without_one : (n : ℕ) (last : Option ℕ) (given : List Taking) (sends : List ℕ) → Behind last sends
    → sent_messages (record { number = n; send = last } ∷ given) sends ≡ sent_messages given sends
without_one n last given [] behind = refl
without_one n last given (s ∷ sends) behind =
    ap₂ (λ (xs : List ℕ) rest. (Sent s ∷ map Begun xs) ++ rest) (not_behind s n last given (last_before last s sends behind)) (without_one n last given sends (behind_rest last s sends behind))

-- the sends that are invented from a send on follow this send or a later one
none_behind : (at : Option ℕ) (s : ℕ) (rs : List Taking) → Behind at (s ∷ sends_of rs) → behind_lane at (begun_lane (Some s) rs) ≡ []
none_behind at s [] behind = refl
none_behind at s (r ∷ rs) behind = go r.send behind (λ t later. none_behind at t rs later)
  where
    away : (x : Option ℕ) → Behind x (s ∷ []) → is_behind x (Some s) ≡ false
    away None before = refl
    away (Some l) before = ne_eqb s l (λ e. absurd (omega (arith, before.0, e)))

    one : (x : Option ℕ) (xs : List ℕ) → Behind x (s ∷ xs) → Behind x (s ∷ [])
    one None xs before = tt
    one (Some l) xs before = (before.0, tt)

    go : (t : Option ℕ) → Behind at (s ∷ with_send t (sends_of rs)) → ((u : ℕ) → Behind at (u ∷ sends_of rs) → behind_lane at (begun_lane (Some u) rs) ≡ [])
        → behind_lane at (with_begun t r.number (Some s) (begun_lane (last_after t (Some s)) rs)) ≡ []
    go None before rest = rw (away at (one at (sends_of rs) before)) (rest s before)
    go (Some t) before rest = rest t (behind_rest at s (t ∷ sends_of rs) before)

itself : (at : Option ℕ) → is_behind at at ≡ true
itself None = refl
itself (Some s) = eq-eqb s s refl

-- a lane is first in, first out: it has the messages that are received, in this order, and then those that wait
pub in_order : (last : Option ℕ) (rs : List Taking) (rest : List ℕ) → IsRising (sends_of rs ++ rest) → Behind last (sends_of rs ++ rest)
    → map Begun (behind_lane last (begun_lane last rs)) ++ sent_messages (begun_lane last rs) (sends_of rs ++ rest) ≡ received_messages rs ++ map Sent rest
in_order last [] rest rising behind = none_invented rest
in_order last (r ∷ rs) rest rising behind = go r.send rising behind (λ l up after. in_order l rs rest up after)
  where
    given : Option ℕ → List Taking
    given l = begun_lane l rs

    Goal : Option ℕ → Type 0
    Goal t = map Begun (behind_lane last (with_begun t r.number last (begun_lane (last_after t last) rs))) ++ sent_messages (with_begun t r.number last (begun_lane (last_after t last) rs)) (with_send t (sends_of rs) ++ rest)
        ≡ (received_message r.number t ∷ received_messages rs) ++ map Sent rest

    front : (s : ℕ) (l : Option ℕ) → Behind l (s ∷ sends_of rs ++ rest) → Behind l (s ∷ sends_of rs)
    front s None before = tt
    front s (Some l) before = (before.0, below_all l (sends_of rs) (λ u has. below_has l u (sends_of rs ++ rest) before.1 (has_left (sends_of rs) rest u has)))

    go : (t : Option ℕ) → IsRising (with_send t (sends_of rs) ++ rest) → Behind last (with_send t (sends_of rs) ++ rest)
        → ((l : Option ℕ) → IsRising (sends_of rs ++ rest) → Behind l (sends_of rs ++ rest)
        → map Begun (behind_lane l (begun_lane l rs)) ++ sent_messages (begun_lane l rs) (sends_of rs ++ rest) ≡ received_messages rs ++ map Sent rest) → Goal t
    go None up after more =
        rw (itself last) (ap (λ l. Begun r.number ∷ l) (ap (λ l. map Begun (behind_lane last (begun_lane last rs)) ++ l) (without_one r.number last (begun_lane last rs) (sends_of rs ++ rest) after) ∙ more last up after))
    go (Some s) up after more =
        rw (none_behind last s rs (front s last after)) (ap (λ l. Sent s ∷ l) (more (Some s) up.1 up.0))
