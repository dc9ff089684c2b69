-- Invented sends, one by one, and the tables that hold them.
use Rattle.std.proofs.Common.{◌≡◌, ℕ, zero, suc, ◌+◌, ◌-◌, ◌<◌, ◌≤◌, ◌==◌, Bool, true, false, cond, List, [], ◌∷◌, ◌++◌, Option, None, Some, length, take, drop, get_or, map, refl, sym, ap, ap₂, ◌∙◌, subst, arith, append_assoc}
use Rattle.std.specs.Prelude.{fold}
use Rattle.std.proofs.lemmas.List.{drop_all, append-nil}
use Rattle.std.proofs.lemmas.List.Sums.{fold_more}
use Rattle.log_chart.specs.Begun.{lasts_after, is_begun, begun_of, begun_from, behind, heads_to}
use Rattle.log_chart.specs.BegunTables.{IsRising, IsBelowAll, AreGiven}
use Rattle.log_chart.specs.Chains.{IsBelow, IsChain, with_first}
use Rattle.log_chart.specs.Cursors.{left_from}
use Rattle.log_chart.specs.Fates.{is_sent_at}
use Rattle.log_chart.specs.Items.{invented, heads_in}
use Rattle.log_chart.specs.LaneTables.{LaneSends}
use Rattle.log_chart.specs.declared.begun.Begun.{Begun}
use Rattle.log_chart.specs.declared.item.Item.{Item}
use Rattle.log_chart.specs.declared.matching.LogLine.{LogLine}
use Rattle.log_chart.specs.declared.name_order.HostName.{HostName}
use Rattle.log_chart.proofs.MatchingLemmas.{from_here}

-- the send of each lane's last message, after this number of lines
abbrev pub lasts_at : List LogLine → ℕ → LaneSends
lasts_at lines n = fold lasts_after (λ q p. None) (take n lines)

pub lasts_more : (lines : List LogLine) (n : ℕ) (x : LogLine) → n < length lines → x ≡ get_or lines n x → lasts_after (lasts_at lines n) x ≡ lasts_at lines (n + 1)
lasts_more lines n x within is = ap (lasts_after (lasts_at lines n)) is ∙ sym (fold_more lasts_after (λ q p. None) lines n x within)

module _ (lines : List LogLine) (given : List Begun) (n : ℕ) (x : LogLine) (within : n < length lines) (is : x ≡ get_or lines n x) where
  begun_rest : begun_from (lasts_at lines (n + 1)) (drop (n + 1) lines) ≡ begun_from (lasts_after (lasts_at lines n) x) (drop (n + 1) lines)
  begun_rest = ap (λ lasts. begun_from lasts (drop (n + 1) lines)) (sym (lasts_more lines n x within is))

  pub begun_more : (more : List Begun) → is_begun x ≡ true → more ≡ given ++ begun_of (lasts_at lines n) x ∷ []
      → more ++ begun_from (lasts_at lines (n + 1)) (drop (n + 1) lines) ≡ given ++ begun_from (lasts_at lines n) (drop n lines)
  unfolding begun_from
  begun_more more its grown = rw (grown, begun_rest, from_here lines n x within is, its) (append_assoc given _ _)

  pub begun_same : is_begun x ≡ false → given ++ begun_from (lasts_at lines (n + 1)) (drop (n + 1) lines) ≡ given ++ begun_from (lasts_at lines n) (drop n lines)
  unfolding begun_from
  begun_same other = rw (begun_rest, from_here lines n x within is, other) refl

pub begun_end : (lasts : LaneSends) (lines : List LogLine) (given : List Begun) (n : ℕ) → length lines ≤ n → given ++ begun_from lasts (drop n lines) ≡ given
unfolding begun_from
begun_end lasts lines given n past = rw (drop_all n lines past) (append-nil given)

-- the invented sends at a head to one receiver, one by one
module _ (items : List Item) (heads : List Begun) (n p : ℕ) (b : Begun) (within : n < length heads) (is : b ≡ get_or heads n b) where
  pub head_more : (more : List Item) → (b.receiver == p) ≡ true → more ≡ items ++ invented p b.receive ∷ []
      → more ++ map (invented p) (heads_to (drop (n + 1) heads) p) ≡ items ++ map (invented p) (heads_to (drop n heads) p)
  unfolding heads_to
  head_more more its grown = rw (grown, from_here heads n b within is, its) (append_assoc items _ _)

  pub head_same : (b.receiver == p) ≡ false → items ++ map (invented p) (heads_to (drop (n + 1) heads) p) ≡ items ++ map (invented p) (heads_to (drop n heads) p)
  unfolding heads_to
  head_same other = rw (from_here heads n b within is, other) refl

pub head_end : (items : List Item) (heads : List Begun) (n p : ℕ) → length heads ≤ n → items ++ map (invented p) (heads_to (drop n heads) p) ≡ items
unfolding heads_to
head_end items heads n p past = rw (drop_all n heads past) (append-nil items)

-- and those to all receivers
module _ (items : List Item) (heads : List Begun) (hosts : List HostName) (n : ℕ) where
  pub heads_more : (x : HostName) (more : List Item) → n < length hosts → x ≡ get_or hosts n x → more ≡ items ++ map (invented x.host) (heads_to heads x.host)
      → more ++ heads_in heads (drop (n + 1) hosts) ≡ items ++ heads_in heads (drop n hosts)
  unfolding heads_in
  heads_more x more within is grown = rw (grown, from_here hosts n x within is) (append_assoc items _ _)

  pub heads_end : length hosts ≤ n → items ++ heads_in heads (drop n hosts) ≡ items
  unfolding heads_in
  heads_end past = rw (drop_all n hosts past) (append-nil items)

-- the receives whose invented sends follow one send rise
below_behind : (n : ℕ) (given : List Begun) (s : ℕ) → IsBelowAll n given → IsBelow n (behind given s)
unfolding behind
below_behind n [] s below = tt
below_behind n (b ∷ given) s below = go (is_sent_at s b.behind) (below_behind n given s below.1)
  where
    go : (its : Bool) → IsBelow n (behind given s) → IsBelow n (cond its (b.receive ∷ behind given s) (behind given s))
    go true rest = (below.0, rest)
    go false rest = rest

pub behind_rises : (n : ℕ) (given : List Begun) (s : ℕ) → AreGiven n given → IsRising (behind given s)
unfolding behind
behind_rises n [] s are = tt
behind_rises n (b ∷ given) s are = go (is_sent_at s b.behind) (behind_rises n given s are.3)
  where
    go : (its : Bool) → IsRising (behind given s) → IsRising (cond its (b.receive ∷ behind given s) (behind given s))
    go true rest = (below_behind b.receive given s are.2, rest)
    go false rest = rest

-- the invented sends from one on
given_from : (n k : ℕ) (given : List Begun) → AreGiven n given → AreGiven n (drop k given)
given_from n zero given are = are
given_from n (suc k) [] are = tt
given_from n (suc k) (b ∷ given) are = given_from n k given are.3

module _ (n : ℕ) (given : List Begun) (k m : ℕ) (b : Begun) (are : AreGiven n given) (more : k + 1 ≡ m) (within : k < length given) (is : b ≡ get_or given k b) where
  here : drop k given ≡ b ∷ drop m given
  here = from_here given k b within is ∙ ap (λ i. b ∷ drop i given) more

  pub given_here : AreGiven n (b ∷ drop m given)
  given_here = subst (AreGiven n) here (given_from n k given are)

  pub below_here : (s : ℕ) → IsBelow b.receive (behind (drop m given) s)
  below_here s = below_behind b.receive (drop m given) s given_here.2

  pub behind_put : (s : ℕ) → b.behind ≡ Some s → (c : ℕ) → with_first (behind (drop m given)) s b.receive c ≡ behind (drop k given) c
  unfolding behind
  behind_put s its c = rw (here, its) refl

  pub behind_kept : b.behind ≡ None → (c : ℕ) → behind (drop m given) c ≡ behind (drop k given) c
  unfolding behind
  behind_kept none c = rw (here, none) refl

pub no_behind : (given : List Begun) (n : ℕ) (c : ℕ) → length given ≤ n → [] ≡ behind (drop n given) c
unfolding behind
no_behind given n c past = rw (drop_all n given past) refl

-- the tables go along one list
pub one_chain : (next : List (Option ℕ)) (k : Option ℕ) (xs ys : List ℕ) → IsChain next k xs → IsChain next k ys → xs ≡ ys
one_chain next None [] [] one other = refl
one_chain next None [] (y ∷ ys) one other = absurd other
one_chain next None (x ∷ xs) ys one other = absurd one
one_chain next (Some k) [] ys one other = absurd one
one_chain next (Some k) (x ∷ xs) [] one other = absurd other
one_chain next (Some k) (x ∷ xs) (y ∷ ys) one other =
    let same : x ≡ y = sym one.0 ∙ other.0 in
    ap₂ (λ (a : ℕ) l. a ∷ l) same (one_chain next (get_or next x None) xs ys one.2 (subst (λ z. IsChain next (get_or next z None) ys) (sym same) other.2))

-- one more number of a list
module _ (next : List (Option ℕ)) (n : ℕ) where
  pub next_chain : (k : Option ℕ) (numbers : List ℕ) (items more : List Item) (p : ℕ) → k ≡ Some n → IsChain next k numbers → IsRising numbers → more ≡ items ++ invented p n ∷ []
      → (xs : List ℕ) × IsChain next (get_or next n None) xs × IsRising xs × (more ++ map (invented p) xs ≡ items ++ map (invented p) numbers)
  next_chain k numbers items more p is chain rising grown = go numbers (subst (λ l. IsChain next l numbers) is chain) rising
    where
      go : (ys : List ℕ) → IsChain next (Some n) ys → IsRising ys → (xs : List ℕ) × IsChain next (get_or next n None) xs × IsRising xs × (more ++ map (invented p) xs ≡ items ++ map (invented p) ys)
      go [] first rises = absurd first
      go (y ∷ ys) first rises = (
        ys,
        subst (λ z. IsChain next (get_or next z None) ys) (sym first.0) first.2,
        rises.1,
        rw grown (append_assoc items (invented p n ∷ []) (map (invented p) ys) ∙ ap (λ z. items ++ invented p z ∷ map (invented p) ys) first.0),
      )

  pub left_less : (k : Option ℕ) (numbers : List ℕ) → k ≡ Some n → IsChain next k numbers → IsRising numbers → left_from next (get_or next n None) < left_from next k
  left_less k numbers is chain rising = subst (λ l. left_from next (get_or next n None) < left_from next l) (sym is) (go numbers (subst (λ l. IsChain next l numbers) is chain) rising)
    where
      less : (m : Option ℕ) (xs : List ℕ) → n < length next → IsChain next m xs → IsBelow n xs → left_from next m < length next - n
      less None xs within chain below = omega arith
      less (Some m) [] within chain below = absurd chain
      less (Some m) (x ∷ xs) within chain below = omega (arith, below.0, chain.0, chain.1)

      go : (ys : List ℕ) → IsChain next (Some n) ys → IsRising ys → left_from next (get_or next n None) < length next - n
      go [] first rises = absurd first
      go (y ∷ ys) first rises =
          less (get_or next n None) ys (subst (λ z. z < length next) (sym first.0) first.1) (subst (λ z. IsChain next (get_or next z None) ys) (sym first.0) first.2) (subst (λ z. IsBelow z ys) (sym first.0) rises.0)
