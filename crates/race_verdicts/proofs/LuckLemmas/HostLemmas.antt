-- The events of a log's hosts with their lines: each event has one line, and the lines rise along the host's line. No
-- two lines take one message.
use Rattle.std.proofs.Common.{◌≡◌, ℕ, zero, suc, ◌<◌, ◌⊎◌, ◌==◌, ◌&&◌, inl, inr, not, Bool, true, false, cond, List, [], ◌∷◌, ◌++◌, Option, None, Some, map, refl, sym, ap₂, ◌∙◌, subst, arith, eq-eqb}
use Rattle.std.specs.Prelude.{slice_get, Contains}
use Rattle.std.specs.List.{flat_map}
use Rattle.std.proofs.lemmas.Option.{none-some, same_Some}
use Rattle.chart.specs.Events.{ith}
use Rattle.log_chart.specs.Begun.{begun, behind, heads, heads_to}
use Rattle.log_chart.specs.Entries.{is_send}
use Rattle.log_chart.specs.Fates.{sender_of, receiver_of, is_on}
use Rattle.log_chart.specs.HostLines.{kept}
use Rattle.log_chart.specs.Items.{item_of, invented, invented_behind, items_by, heads_in, items_of}
use Rattle.log_chart.specs.Laws.{AreOfLanes, line_of}
use Rattle.log_chart.specs.Matching.{matched, sends_from}
use Rattle.log_chart.specs.NameOrder.{by_name}
use Rattle.log_chart.specs.declared.begun.Begun.{Begun}
use Rattle.log_chart.specs.declared.entry.Entry.{Entry}
use Rattle.log_chart.specs.declared.item.Item.{Item}
use Rattle.log_chart.specs.declared.matching.LogLine.{LogLine}
use Rattle.log_chart.proofs.LaneLists.{Has, AreApart, sends_of}
use Rattle.log_chart.proofs.LogLanes.{LineFits, Fits, takes_on}
use Rattle.log_chart.proofs.OrderLemmas.{IsAbove, Rises, kept_rises}
use Rattle.log_chart.proofs.TakenLanes.{stream_at, all_left, taken_apart, matched_fit}
use Rattle.race_verdicts.proofs.LuckLemmas.LogLemmas.{get_contained}

-- a fact of each element of a list, and a fact of each element and each later one
abbrev Each : (Item → Type 0) → List Item → Type 0
Each P [] = Unit {0}
Each P (i ∷ is) = P i × Each P is

abbrev Pairs : (Item → Item → Type 0) → List Item → Type 0
Pairs R [] = Unit {0}
Pairs R (i ∷ is) = Each (R i) is × Pairs R is

each_append : (P : Item → Type 0) (xs ys : List Item) → Each P xs → Each P ys → Each P (xs ++ ys)
each_append P [] ys first rest = rest
each_append P (i ∷ xs) ys first rest = (first.0, each_append P xs ys first.1 rest)

each_at : (P : Item → Type 0) (xs : List Item) (n : ℕ) (i : Item) → Each P xs → ith xs n ≡ Some i → P i
each_at P xs zero i all is = absurd (none-some i is)
each_at P [] (suc n) i all is = absurd (none-some i is)
each_at P (x ∷ xs) (suc zero) i all is = subst P (same_Some x i is) all.0
each_at P (x ∷ xs) (suc (suc n)) i all is = each_at P xs (suc n) i all.1 is

pairs_append : (R : Item → Item → Type 0) (xs ys : List Item) → Pairs R xs → Pairs R ys → Each (λ i. Each (R i) ys) xs → Pairs R (xs ++ ys)
pairs_append R [] ys first rest across = rest
pairs_append R (i ∷ xs) ys first rest across = (each_append (R i) xs ys first.0 across.0, pairs_append R xs ys first.1 rest across.1)

pairs_at : (R : Item → Item → Type 0) (xs : List Item) (n m : ℕ) (i j : Item) → Pairs R xs → ith xs n ≡ Some i → ith xs m ≡ Some j → n < m → R i j
pairs_at R xs zero m i j all i_is j_is less = absurd (none-some i i_is)
pairs_at R [] (suc n) m i j all i_is j_is less = absurd (none-some i i_is)
pairs_at R (x ∷ xs) (suc n) zero i j all i_is j_is less = absurd (none-some j j_is)
pairs_at R (x ∷ xs) (suc n) (suc zero) i j all i_is j_is less = absurd (omega (arith, less))
pairs_at R (x ∷ xs) (suc zero) (suc (suc m)) i j all i_is j_is less = each_at (R i) xs (suc m) j (subst (λ y. Each (R y) xs) (same_Some x i i_is) all.0) j_is
pairs_at R (x ∷ xs) (suc (suc n)) (suc (suc m)) i j all i_is j_is less = pairs_at R xs (suc n) (suc m) i j all.1 i_is j_is (omega (arith, less))

-- the lines of two events are rising
abbrev pub HaveRising : Item → Item → Type 0
HaveRising i j = (a b : ℕ) → i.line ≡ Some a → j.line ≡ Some b → a < b

-- an event without a line
abbrev IsBare : Item → Type 0
IsBare i = i.line ≡ None

bare_before : (i : Item) → IsBare i → (items : List Item) → Each (HaveRising i) items
bare_before i bare [] = tt
bare_before i bare (j ∷ items) = (λ a b a_is b_is. absurd (let e = sym bare ∙ a_is in none-some a e), bare_before i bare items)

before_bare : (i : Item) (items : List Item) → Each IsBare items → Each (HaveRising i) items
before_bare i [] bare = tt
before_bare i (j ∷ items) bare = (λ a b a_is b_is. absurd (let e = sym bare.0 ∙ b_is in none-some b e), before_bare i items bare.1)

bare_pairs : (items : List Item) → Each IsBare items → Pairs HaveRising items
bare_pairs [] bare = tt
bare_pairs (i ∷ items) bare = (bare_before i bare.0 items, bare_pairs items bare.1)

bare_across : (items others : List Item) → Each IsBare items → Each (λ i. Each (HaveRising i) others) items
bare_across [] others bare = tt
bare_across (i ∷ items) others bare = (bare_before i bare.0 others, bare_across items others bare.1)

invented_bare : (p : ℕ) (numbers : List ℕ) → Each IsBare (map (invented p) numbers)
invented_bare p [] = tt
invented_bare p (r ∷ numbers) = (refl, invented_bare p numbers)

heads_bare : (given : List Begun) (hosts : List _) → Each IsBare (heads_in given hosts)
unfolding heads_in
heads_bare given [] = tt
heads_bare given (x ∷ hosts) =
    each_append IsBare (map (invented x.host) (heads_to given x.host)) (heads_in given hosts) (invented_bare x.host (heads_to given x.host)) (heads_bare given hosts)

-- the events of a line have this line
abbrev IsOfLine : ℕ → Item → Type 0
IsOfLine k i = (b : ℕ) → i.line ≡ Some b → b ≡ k

bare_of : (k : ℕ) (items : List Item) → Each IsBare items → Each (IsOfLine k) items
bare_of k [] bare = tt
bare_of k (i ∷ items) bare = (λ b b_is. absurd (let e = sym bare.0 ∙ b_is in none-some b e), bare_of k items bare.1)

module _ (given : List Begun) (q : ℕ) where
  behind_bare : (x : LogLine) → Each IsBare (invented_behind given x)
  behind_bare x = go (is_send x.entry.kind)
    where
      go : (sends : Bool) → Each IsBare (cond sends (map (invented x.entry.peer) (behind given x.number)) [])
      go true = invented_bare x.entry.peer (behind given x.number)
      go false = tt

  of_line : (x : LogLine) → Each (IsOfLine x.number) (items_by given q x)
  of_line x = go (x.entry.host == q)
    where
      go : (its : Bool) → Each (IsOfLine x.number) (cond its (item_of x ∷ invented_behind given x) [])
      go true = (λ b b_is. sym (same_Some x.number b b_is), bare_of x.number (invented_behind given x) (behind_bare x))
      go false = tt

  line_pairs : (x : LogLine) → Pairs HaveRising (items_by given q x)
  line_pairs x = go (x.entry.host == q)
    where
      go : (its : Bool) → Pairs HaveRising (cond its (item_of x ∷ invented_behind given x) [])
      go true = (before_bare (item_of x) (invented_behind given x) (behind_bare x), bare_pairs (invented_behind given x) (behind_bare x))
      go false = tt

  rising_one : (k m : ℕ) → k < m → (i : Item) → IsOfLine k i → (items : List Item) → Each (IsOfLine m) items → Each (HaveRising i) items
  rising_one k m less i own [] all = tt
  rising_one k m less i own (j ∷ items) all = (λ a b a_is b_is. let one = own a a_is in let two = all.0 b b_is in omega arith, rising_one k m less i own items all.1)

  rising_later : (k : ℕ) (i : Item) → IsOfLine k i → (lines : List LogLine) → IsAbove k lines → Each (HaveRising i) (flat_map (items_by given q) lines)
  rising_later k i own [] above = tt
  rising_later k i own (x ∷ lines) above =
      each_append (HaveRising i) (items_by given q x) (flat_map (items_by given q) lines) (rising_one k x.number above.0 i own (items_by given q x) (of_line x)) (rising_later k i own lines above.1)

  rising_all : (k : ℕ) (items : List Item) → Each (IsOfLine k) items → (lines : List LogLine) → IsAbove k lines → Each (λ i. Each (HaveRising i) (flat_map (items_by given q) lines)) items
  rising_all k [] own lines above = tt
  rising_all k (i ∷ items) own lines above = (rising_later k i own.0 lines above, rising_all k items own.1 lines above)

  rising_lines : (lines : List LogLine) → Rises lines → Pairs HaveRising (flat_map (items_by given q) lines)
  rising_lines [] rises = tt
  rising_lines (x ∷ lines) rises =
      pairs_append HaveRising (items_by given q x) (flat_map (items_by given q) lines) (line_pairs x) (rising_lines lines rises.1) (rising_all x.number (items_by given q x) (of_line x) lines rises.0)

rising_items : (hosts : List _) (lines : List LogLine) (given : List Begun) (q : ℕ) → Rises lines → Pairs HaveRising (items_of hosts lines given q)
unfolding items_of
rising_items hosts lines given q rises =
    pairs_append HaveRising (heads_in (heads given q) hosts) (flat_map (items_by given q) lines) (bare_pairs (heads_in (heads given q) hosts) (heads_bare (heads given q) hosts)) (rising_lines given q lines rises)
    (bare_across (heads_in (heads given q) hosts) (flat_map (items_by given q) lines) (heads_bare (heads given q) hosts))

-- the lines of events rise along a host's line
pub lines_rise : (n : ℕ) (log : List Entry) (q i j : ℕ) (x y : Item) (a b : ℕ) → ith (line_of n log q) i ≡ Some x → ith (line_of n log q) j ≡ Some y → i < j → x.line ≡ Some a → y.line ≡ Some b → a < b
lines_rise n log q i j x y a b x_is y_is less = pairs_at HaveRising (line_of n log q) i j x y (rising_items (by_name n log) (kept log) (begun (kept log)) q (kept_rises log)) x_is y_is less a b

-- Lines that take one message.

-- the list has the line
abbrev IsIn : List LogLine → LogLine → Type 0
IsIn [] y = ⊥
IsIn (x ∷ lines) y = (x ≡ y) ⊎ IsIn lines y

in_at : (lines : List LogLine) (i : ℕ) (y : LogLine) → slice_get lines i ≡ Some y → IsIn lines y
in_at [] i y is = absurd (none-some y is)
in_at (x ∷ lines) zero y is = inl (same_Some x y is)
in_at (x ∷ lines) (suc i) y is = inr (in_at lines i y is)

fits_in : (from to : ℕ → ℕ) (lines : List LogLine) → Fits from to lines → (y : LogLine) → IsIn lines y → LineFits from to y
fits_in from to [] fits y has = absurd has
fits_in from to (x ∷ lines) fits y (inl same) = subst (LineFits from to) same fits.0
fits_in from to (x ∷ lines) fits y (inr has) = fits_in from to lines fits.1 y has

module _ (q p s : ℕ) where
  -- a line of the lane that takes the send
  pub record TakesIt (y : LogLine) : Type 0 where
    pub receives : (not (is_send y.entry.kind) && is_on q p y) ≡ true
    pub takes : y.send ≡ Some s

  taken_has : (lines : List LogLine) (y : LogLine) → TakesIt y → IsIn lines y → Has (sends_of (takes_on q p lines)) s
  taken_has [] y its has = has
  taken_has (x ∷ lines) y its (inl same) =
      let own : TakesIt x = subst TakesIt (sym same) its in
      subst (λ b. Has (sends_of (cond b (record { number = x.number; send = x.send } ∷ takes_on q p lines) (takes_on q p lines))) s) (sym own.receives)
      (subst (λ t. Has (sends_of (record { number = x.number; send = t } ∷ takes_on q p lines)) s) (sym own.takes) (inl refl))
  taken_has (x ∷ lines) y its (inr has) = go (not (is_send x.entry.kind) && is_on q p x) x.send (taken_has lines y its has)
    where
      go : (b : Bool) (t : Option ℕ) → Has (sends_of (takes_on q p lines)) s → Has (sends_of (cond b (record { number = x.number; send = t } ∷ takes_on q p lines) (takes_on q p lines))) s
      go true None rest = rest
      go true (Some t) rest = inr rest
      go false t rest = rest

  apart_here : (x : LogLine) (lines : List LogLine) → TakesIt x → AreApart (takes_on q p (x ∷ lines)) → Has (sends_of (takes_on q p lines)) s → ⊥
  apart_here x lines its apart has =
      let one : AreApart (record { number = x.number; send = x.send } ∷ takes_on q p lines) =
      subst (λ b. AreApart (cond b (record { number = x.number; send = x.send } ∷ takes_on q p lines) (takes_on q p lines))) its.receives apart in
      let two : AreApart (record { number = x.number; send = Some s } ∷ takes_on q p lines) = subst (λ t. AreApart (record { number = x.number; send = t } ∷ takes_on q p lines)) its.takes one in
      two.0 has

  apart_rest : (x : LogLine) (lines : List LogLine) → AreApart (takes_on q p (x ∷ lines)) → AreApart (takes_on q p lines)
  apart_rest x lines = go (not (is_send x.entry.kind) && is_on q p x)
    where
      go : (b : Bool) → AreApart (cond b (record { number = x.number; send = x.send } ∷ takes_on q p lines) (takes_on q p lines)) → AreApart (takes_on q p lines)
      go true apart = apart.1
      go false apart = apart

  one_taker : (lines : List LogLine) → AreApart (takes_on q p lines) → (y z : LogLine) → TakesIt y → TakesIt z → IsIn lines y → IsIn lines z → y ≡ z
  one_taker [] apart y z y_takes z_takes y_in z_in = absurd y_in
  one_taker (x ∷ lines) apart y z y_takes z_takes (inl y_is) (inl z_is) = sym y_is ∙ z_is
  one_taker (x ∷ lines) apart y z y_takes z_takes (inl y_is) (inr z_in) = absurd (apart_here x lines (subst TakesIt (sym y_is) y_takes) apart (taken_has lines z z_takes z_in))
  one_taker (x ∷ lines) apart y z y_takes z_takes (inr y_in) (inl z_is) = absurd (apart_here x lines (subst TakesIt (sym z_is) z_takes) apart (taken_has lines y y_takes y_in))
  one_taker (x ∷ lines) apart y z y_takes z_takes (inr y_in) (inr z_in) = one_taker lines (apart_rest x lines apart) y z y_takes z_takes y_in z_in

-- no two lines of a log take one message
module _ (from to : ℕ → ℕ) (log : List Entry) (lanes : AreOfLanes from to log) where
  line_fits : (y : LogLine) → Contains (matched log) y → LineFits (λ n. from (stream_at log n)) (λ n. to (stream_at log n)) y
  line_fits y has = fits_in (λ n. from (stream_at log n)) (λ n. to (stream_at log n)) (matched log) (matched_fit from to log lanes) y (in_at (matched log) has.0 y (get_contained (matched log) y has))

  takes_it : (y : LogLine) (s : ℕ) → Contains (matched log) y → y.send ≡ Some s → TakesIt (from (stream_at log s)) (to (stream_at log s)) s y
  takes_it y s has takes = record { receives = ap₂ (λ a b. not a && b) (receives (is_send y.entry.kind) refl) on; takes = takes }
    where
      fits : LineFits (λ n. from (stream_at log n)) (λ n. to (stream_at log n)) y
      fits = line_fits y has

      receives : (sends : Bool) → is_send y.entry.kind ≡ sends → sends ≡ false
      receives false e = refl
      receives true e = absurd (let none = sym (fits.no_send e) ∙ takes in none-some s none)

      on : is_on (from (stream_at log s)) (to (stream_at log s)) y ≡ true
      on = let lane = fits.lane s takes in ap₂ (λ a b. a && b) (eq-eqb (sender_of y.entry) (from (stream_at log s)) (sym lane.0)) (eq-eqb (receiver_of y.entry) (to (stream_at log s)) (sym lane.1))

  pub taken_once : (y z : LogLine) (s : ℕ) → Contains (matched log) y → Contains (matched log) z → y.send ≡ Some s → z.send ≡ Some s → y ≡ z
  taken_once y z s y_in z_in y_takes z_takes =
      one_taker (from (stream_at log s)) (to (stream_at log s)) s (matched log) (taken_apart (stream_at log) (from (stream_at log s)) (to (stream_at log s)) (sends_from 0 log) 0 log (all_left log)) y z
      (takes_it y s y_in y_takes) (takes_it z s z_in z_takes) (in_at (matched log) y_in.0 y (get_contained (matched log) y y_in)) (in_at (matched log) z_in.0 z (get_contained (matched log) z z_in))
