-- The events of a host's line, each with the line of the log to which it belongs: an event to its own line, and an
-- invented send to the line of the send that it follows. One at the head of the host's line belongs to none.
use Rattle.std.proofs.Common.{◌≡◌, ℕ, zero, suc, ◌<◌, ◌≤◌, inl, inr, ◌==◌, Bool, true, false, cond, List, [], ◌∷◌, ◌++◌, Option, None, Some, map, refl, sym, ap, ap₂, ◌∙◌, subst, arith, eqb-true}
use Rattle.std.specs.Prelude.{Contains}
use Rattle.std.specs.List.{flat_map, AllByRecursion}
use Rattle.std.proofs.lemmas.Option.{none-some, same_Some}
use Rattle.std.proofs.lemmas.List.{map-append}
use Rattle.std.proofs.lemmas.List.Elements.{All-contains_itself, recursion_from_All}
use Rattle.chart.specs.Events.{ith}
use Rattle.log_chart.specs.Begun.{behind, heads, heads_to}
use Rattle.log_chart.specs.Entries.{is_send}
use Rattle.log_chart.specs.Items.{item_of, invented, items_by, heads_in, items_of}
use Rattle.log_chart.specs.declared.begun.Begun.{Begun}
use Rattle.log_chart.specs.declared.item.Item.{Item}
use Rattle.log_chart.specs.declared.matching.LogLine.{LogLine}
use Rattle.log_chart.specs.declared.name_order.HostName.{HostName}
use Rattle.log_chart.proofs.LaneLists.{Has}
use Rattle.log_chart.proofs.NameOrderLemmas.{AreUpTo}
use Rattle.log_chart.proofs.OrderLemmas.{IsAbove, Rises}

pub record Placed : Type 0 where
  pub item : Item
  pub stands : Option ℕ

abbrev pub at_head : Item → Placed
at_head i = record { item = i; stands = None }

abbrev pub at_line : ℕ → Item → Placed
at_line k i = record { item = i; stands = Some k }

abbrev pub placed_by : List Begun → ℕ → LogLine → List Placed
placed_by given q x = map (at_line x.number) (items_by given q x)

abbrev pub placed : List HostName → List LogLine → List Begun → ℕ → List Placed
placed hosts lines given q = map at_head (heads_in (heads given q) hosts) ++ flat_map (placed_by given q) lines

-- they are the line's
item_back : (k : Option ℕ) (items : List Item) → map (λ (w : Placed). w.item) (map (λ i. record { item = i; stands = k }) items) ≡ items
item_back k [] = refl
item_back k (i ∷ items) = ap (λ l. i ∷ l) (item_back k items)

lines_placed : (given : List Begun) (q : ℕ) (lines : List LogLine) → map (λ (w : Placed). w.item) (flat_map (placed_by given q) lines) ≡ flat_map (items_by given q) lines
lines_placed given q [] = refl
lines_placed given q (x ∷ lines) =
    map-append (λ (w : Placed). w.item) (placed_by given q x) (flat_map (placed_by given q) lines)
    ∙ ap₂ (λ (a b : List Item). a ++ b) (item_back (Some x.number) (items_by given q x)) (lines_placed given q lines)

pub items_placed : (hosts : List HostName) (lines : List LogLine) (given : List Begun) (q : ℕ) → map (λ (w : Placed). w.item) (placed hosts lines given q) ≡ items_of hosts lines given q
unfolding items_of
items_placed hosts lines given q =
    map-append (λ (w : Placed). w.item) (map at_head (heads_in (heads given q) hosts)) (flat_map (placed_by given q) lines)
    ∙ ap₂ (λ (a b : List Item). a ++ b) (item_back None (heads_in (heads given q) hosts)) (lines_placed given q lines)

-- a fact of each element of a list, and of each with each later one
abbrev pub Each : (Placed → Type 0) → List Placed → Type 0
Each P [] = Unit {0}
Each P (w ∷ ws) = P w × Each P ws

abbrev pub Pairs : (Placed → Placed → Type 0) → List Placed → Type 0
Pairs R [] = Unit {0}
Pairs R (w ∷ ws) = Each (R w) ws × Pairs R ws

pub each_append : (P : Placed → Type 0) (xs ys : List Placed) → Each P xs → Each P ys → Each P (xs ++ ys)
each_append P [] ys first rest = rest
each_append P (w ∷ xs) ys first rest = (first.0, each_append P xs ys first.1 rest)

each_at : (P : Placed → Type 0) (ws : List Placed) (i : ℕ) (w : Placed) → Each P ws → ith ws i ≡ Some w → P w
each_at P ws zero w all is = absurd (none-some w is)
each_at P [] (suc i) w all is = absurd (none-some w is)
each_at P (v ∷ ws) (suc zero) w all is = subst P (same_Some v w is) all.0
each_at P (v ∷ ws) (suc (suc i)) w all is = each_at P ws (suc i) w all.1 is

pub pairs_append : (R : Placed → Placed → Type 0) (xs ys : List Placed) → Pairs R xs → Pairs R ys → Each (λ w. Each (R w) ys) xs → Pairs R (xs ++ ys)
pairs_append R [] ys first rest across = rest
pairs_append R (w ∷ xs) ys first rest across = (each_append (R w) xs ys first.0 across.0, pairs_append R xs ys first.1 rest across.1)

pub pairs_at : (R : Placed → Placed → Type 0) (ws : List Placed) (i j : ℕ) (w v : Placed) → Pairs R ws → ith ws i ≡ Some w → ith ws j ≡ Some v → i < j → R w v
pairs_at R ws zero j w v all w_is v_is less = absurd (none-some w w_is)
pairs_at R [] (suc i) j w v all w_is v_is less = absurd (none-some w w_is)
pairs_at R (u ∷ ws) (suc i) zero w v all w_is v_is less = absurd (none-some v v_is)
pairs_at R (u ∷ ws) (suc i) (suc zero) w v all w_is v_is less = absurd (omega (arith, less))
pairs_at R (u ∷ ws) (suc zero) (suc (suc j)) w v all w_is v_is less = each_at (R w) ws (suc j) v (subst (λ x. Each (R x) ws) (same_Some u w w_is) all.0) v_is
pairs_at R (u ∷ ws) (suc (suc i)) (suc (suc j)) w v all w_is v_is less = pairs_at R ws (suc i) (suc j) w v all.1 w_is v_is (omega (arith, less))

-- what belongs to a line
pub data IsOf (n : ℕ) (lines : List LogLine) (given : List Begun) (q : ℕ) (w : Placed) : Type 0 where
  head : (p r : ℕ) → 1 ≤ p → p ≤ n → Has (heads_to (heads given q) p) r → w.item ≡ invented p r → w.stands ≡ None → IsOf n lines given q w
  own : (x : LogLine) → Contains lines x → x.entry.host ≡ q → w.item ≡ item_of x → w.stands ≡ Some x.number → IsOf n lines given q w
  after : (x : LogLine) (r : ℕ) → Contains lines x → x.entry.host ≡ q → Has (behind given x.number) r → w.item ≡ invented x.entry.peer r → w.stands ≡ Some x.number → IsOf n lines given q w

module _ (n : ℕ) (all : List LogLine) (given : List Begun) (q : ℕ) where
  heads_are : (hosts : List HostName) → AreUpTo n hosts → Each (IsOf n all given q) (map at_head (heads_in (heads given q) hosts))
  unfolding heads_in
  heads_are [] up_to = tt
  heads_are (x ∷ hosts) up_to =
      subst (Each (IsOf n all given q)) (sym (map-append at_head (map (invented x.host) (heads_to (heads given q) x.host)) (heads_in (heads given q) hosts)))
      (each_append (IsOf n all given q) (map at_head (map (invented x.host) (heads_to (heads given q) x.host))) (map at_head (heads_in (heads given q) hosts))
      (one (heads_to (heads given q) x.host) (λ r h. h)) (heads_are hosts up_to.1))
    where
      one : (numbers : List ℕ) → ((r : ℕ) → Has numbers r → Has (heads_to (heads given q) x.host) r) → Each (IsOf n all given q) (map at_head (map (invented x.host) numbers))
      one [] sub = tt
      one (r ∷ numbers) sub = (head x.host r up_to.0.0 up_to.0.1 (sub r (inl refl)) refl refl, one numbers (λ s h. sub s (inr h)))

  line_is : (x : LogLine) → Contains all x → Each (IsOf n all given q) (placed_by given q x)
  line_is x has = go (x.entry.host == q) refl
    where
      invented_are : x.entry.host ≡ q → (numbers : List ℕ) → ((r : ℕ) → Has numbers r → Has (behind given x.number) r) → Each (IsOf n all given q) (map (at_line x.number) (map (invented x.entry.peer) numbers))
      invented_are its [] sub = tt
      invented_are its (r ∷ numbers) sub = (after x r has its (sub r (inl refl)) refl refl, invented_are its numbers (λ s h. sub s (inr h)))

      behind_are : x.entry.host ≡ q → (sends : Bool) → Each (IsOf n all given q) (map (at_line x.number) (cond sends (map (invented x.entry.peer) (behind given x.number)) []))
      behind_are its true = invented_are its (behind given x.number) (λ r h. h)
      behind_are its false = tt

      go : (its : Bool) → (x.entry.host == q) ≡ its → Each (IsOf n all given q) (map (at_line x.number) (cond its (item_of x ∷ cond (is_send x.entry.kind) (map (invented x.entry.peer) (behind given x.number)) []) []))
      go true e = (own x has (eqb-true x.entry.host q e) refl refl, behind_are (eqb-true x.entry.host q e) (is_send x.entry.kind))
      go false e = tt

  lines_are : (lines : List LogLine) → AllByRecursion (Contains all) lines → Each (IsOf n all given q) (flat_map (placed_by given q) lines)
  lines_are [] sub = tt
  lines_are (x ∷ lines) sub = each_append (IsOf n all given q) (placed_by given q x) (flat_map (placed_by given q) lines) (line_is x sub.0) (lines_are lines sub.1)

pub placed_are : (n : ℕ) (hosts : List HostName) → AreUpTo n hosts → (lines : List LogLine) (given : List Begun) (q i : ℕ) (w : Placed) → ith (placed hosts lines given q) i ≡ Some w → IsOf n lines given q w
placed_are n hosts up_to lines given q i w is =
    each_at (IsOf n lines given q) (placed hosts lines given q) i w
    (each_append (IsOf n lines given q) (map at_head (heads_in (heads given q) hosts)) (flat_map (placed_by given q) lines) (heads_are n lines given q hosts up_to)
    (lines_are n lines given q lines (recursion_from_All (Contains lines) lines (All-contains_itself lines)))) is

-- the lines to which events belong don't fall along a host's line
abbrev pub IsUp : Option ℕ → Option ℕ → Type 0
IsUp None b = Unit {0}
IsUp (Some a) None = ⊥
IsUp (Some a) (Some b) = a ≤ b

abbrev Up : Placed → Placed → Type 0
Up w v = IsUp w.stands v.stands

from_head : (items : List Item) (ws : List Placed) → Each (λ w. Each (Up w) ws) (map at_head items)
from_head [] ws = tt
from_head (i ∷ items) ws = (any ws, from_head items ws)
  where
    any : (vs : List Placed) → Each (Up (at_head i)) vs
    any [] = tt
    any (v ∷ vs) = (tt, any vs)

heads_up : (items : List Item) → Pairs Up (map at_head items)
heads_up [] = tt
heads_up (i ∷ items) = (any (map at_head items), heads_up items)
  where
    any : (vs : List Placed) → Each (Up (at_head i)) vs
    any [] = tt
    any (v ∷ vs) = (tt, any vs)

line_up : (k m : ℕ) (i : Item) (items : List Item) → k ≤ m → Each (Up (at_line k i)) (map (at_line m) items)
line_up k m i [] le = tt
line_up k m i (j ∷ items) le = (le, line_up k m i items le)

line_pairs : (k : ℕ) (items : List Item) → Pairs Up (map (at_line k) items)
line_pairs k [] = tt
line_pairs k (i ∷ items) = (line_up k k i items (omega arith), line_pairs k items)

module _ (given : List Begun) (q : ℕ) where
  later_up : (k : ℕ) (i : Item) (lines : List LogLine) → IsAbove k lines → Each (Up (at_line k i)) (flat_map (placed_by given q) lines)
  later_up k i [] above = tt
  later_up k i (x ∷ lines) above =
      each_append (Up (at_line k i)) (placed_by given q x) (flat_map (placed_by given q) lines) (line_up k x.number i (items_by given q x) (omega (arith, above.0))) (later_up k i lines above.1)

  all_up : (k : ℕ) (items : List Item) (lines : List LogLine) → IsAbove k lines → Each (λ w. Each (Up w) (flat_map (placed_by given q) lines)) (map (at_line k) items)
  all_up k [] lines above = tt
  all_up k (i ∷ items) lines above = (later_up k i lines above, all_up k items lines above)

  lines_up : (lines : List LogLine) → Rises lines → Pairs Up (flat_map (placed_by given q) lines)
  lines_up [] rises = tt
  lines_up (x ∷ lines) rises =
      pairs_append Up (placed_by given q x) (flat_map (placed_by given q) lines) (line_pairs x.number (items_by given q x)) (lines_up lines rises.1) (all_up x.number (items_by given q x) lines rises.0)

pub placed_up : (hosts : List HostName) (lines : List LogLine) (given : List Begun) (q i j : ℕ) (w v : Placed) → Rises lines → ith (placed hosts lines given q) i ≡ Some w → ith (placed hosts lines given q) j ≡ Some v → i < j
    → IsUp w.stands v.stands
placed_up hosts lines given q i j w v rises w_is v_is less =
    pairs_at Up (placed hosts lines given q) i j w v
    (pairs_append Up (map at_head (heads_in (heads given q) hosts)) (flat_map (placed_by given q) lines) (heads_up (heads_in (heads given q) hosts)) (lines_up given q lines rises)
    (from_head (heads_in (heads given q) hosts) (flat_map (placed_by given q) lines))) w_is v_is less
