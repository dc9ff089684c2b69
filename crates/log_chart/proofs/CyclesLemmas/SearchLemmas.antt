-- A search backwards, line by line.
use Rattle.std.proofs.Common.{◌≡◌, ℕ, ◌+◌, ◌<◌, ◌≤◌, ◌⊎◌, inl, inr, Bool, true, false, not, cond, List, [], ◌∷◌, ◌++◌, Option, None, Some, length, set, get_or, count_by, refl, sym, ap, ◌∙◌, subst, arith}
use Rattle.std.specs.Prelude.{Contains}
use Rattle.std.proofs.lemmas.Bool.{cases_eq}
use Rattle.std.proofs.lemmas.List.{length-set, length-append, get_or-set_same, get_or-set_other}
use Rattle.std.proofs.lemmas.List.Elements.{Contains-append_left, Contains-push, Contains-push_cases}
use Rattle.std.proofs.lemmas.List.Sums.{sum_by-set}
use Rattle.log_chart.specs.FateTables.{IsWithin}
use Rattle.log_chart.specs.Cycles.Searching.{IsSeen, to_do, HasReached, HasFollowed, IsClosed, AreBefore, IsPast, IsSearch}
use Rattle.log_chart.specs.Cycles.Sources.{IsDirect, Leads}
use Rattle.log_chart.specs.Cycles.Sources.IsDirect.{above, sent}
use Rattle.log_chart.specs.Cycles.Sources.Leads.{direct, through}

-- one more line
module _ (seen : List Bool) (stack : List ℕ) where
  pub reached_none : HasReached None seen stack seen stack
  reached_none = record {
    whole = refl;
    there = λ a e. absurd (cc e);
    kept = λ a its. its;
    new = λ a its. inl its;
    stack_kept = λ a its. its;
    stack_new = λ a its. inl its;
    less = omega arith;
  }

  pub reached_old : (n : ℕ) → IsSeen seen n → HasReached (Some n) seen stack seen stack
  reached_old n its = record {
    whole = refl;
    there = λ a e. subst (IsSeen seen) (some_same e) its;
    kept = λ a it. it;
    new = λ a it. inl it;
    stack_kept = λ a it. it;
    stack_new = λ a it. inl it;
    less = omega arith;
  }
    where
      some_same : {m k : ℕ} → Some m ≡ Some k → m ≡ k
      some_same e = cc e

  pub reached_new : (n : ℕ) (more : List Bool) (stacked : List ℕ) → n < length seen → get_or seen n false ≡ false → more ≡ set seen n true → stacked ≡ stack ++ n ∷ []
      → HasReached (Some n) seen stack more stacked
  reached_new n more stacked within unseen is grown = record {
    whole = ap length is ∙ length-set seen n true;
    there = λ a e. subst (IsSeen more) (some_same e) here;
    kept = λ a it.
        elim (cases_eq a n) [
          | inl same ↦ subst (IsSeen more) (sym same) here
          | inr other ↦ ap (λ s. get_or s a false) is ∙ get_or-set_other seen n a true false other ∙ it
        ];
    new = λ a it.
        elim (cases_eq a n) [
          | inl same ↦ inr (ap (λ k. Some k) (sym same), subst (Contains stacked) (sym same) pushed)
          | inr other ↦ inl (sym (ap (λ s. get_or s a false) is ∙ get_or-set_other seen n a true false other) ∙ it)
        ];
    stack_kept = λ a it. subst (λ l. Contains l a) (sym grown) (Contains-append_left stack (n ∷ []) a it);
    stack_new = λ a it.
        elim (Contains-push_cases stack n a (subst (λ l. Contains l a) grown it)) [
          | inl old ↦ inl old
          | inr same ↦ inr (ap (λ k. Some k) same, subst (IsSeen more) same here)
        ];
    less =
        let fewer : count_by not (set seen n true) + 1 ≡ count_by not seen + 0 =
        subst (λ b. count_by not (set seen n true) + cond (not b) 1 0 ≡ count_by not seen + 0) unseen (sum_by-set (λ b. cond (not b) 1 0) seen n true false within) in
        let longer : length (stack ++ n ∷ []) ≡ length stack + 1 = length-append stack (n ∷ []) in
        rw (is, grown) (omega (arith, fewer, longer));
  }
    where
      some_same : {m k : ℕ} → Some m ≡ Some k → m ≡ k
      some_same e = cc e

      here : IsSeen more n
      here = ap (λ s. get_or s n false) is ∙ get_or-set_same seen n true false within

      pushed : Contains stacked n
      pushed = subst (λ l. Contains l n) (sym grown) (Contains-push stack n)

module _ (tops sends : List (Option ℕ)) where
  -- both lines that are directly before a line
  pub followed : (b : ℕ) (seen seen₁ seen₂ : List Bool) (stack stack₁ stack₂ : List ℕ) → HasReached (get_or tops b None) seen stack seen₁ stack₁
      → HasReached (get_or sends b None) seen₁ stack₁ seen₂ stack₂ → HasFollowed tops sends b seen stack seen₂ stack₂
  followed b seen seen₁ seen₂ stack stack₁ stack₂ one two = record {
    whole = two.whole ∙ one.whole;
    there = λ a d. there a d;
    kept = λ a it. two.kept a (one.kept a it);
    new = λ a it.
        elim (two.new a it) [
          | inr w ↦ inr (sent w.0, w.1)
          | inl it₁ ↦
              elim (one.new a it₁) [
                | inl old ↦ inl old
                | inr w ↦ inr (above w.0, two.stack_kept a w.1)
              ]
        ];
    stack_kept = λ a it. two.stack_kept a (one.stack_kept a it);
    stack_new = λ a it.
        elim (two.stack_new a it) [
          | inr w ↦ inr (sent w.0, w.1)
          | inl it₁ ↦
              elim (one.stack_new a it₁) [
                | inl old ↦ inl old
                | inr w ↦ inr (above w.0, two.kept a w.1)
              ]
        ];
    less = omega (arith, one.less, two.less);
  }
    where
      there : (a : ℕ) → IsDirect tops sends a b → IsSeen seen₂ a
      there a (above e) = two.kept a (one.there a e)
      there a (sent e) = two.there a e

  pub search_begins : (k : ℕ) (seen more : List Bool) (stack stacked : List ℕ) → stack ≡ [] → IsClosed tops sends seen → AreBefore tops sends seen k
      → HasFollowed tops sends k seen stack more stacked → IsSearch tops sends k more stacked
  search_begins k seen more stack stacked empty closed are f = record {
    pending = λ a b d its.
        elim (f.new b its) [
          | inl old ↦ inl (f.kept a (closed a b d old))
          | inr w ↦ inr w.1
        ];
    before = λ a its.
        elim (f.new a its) [
          | inl old ↦ are a old
          | inr w ↦ direct w.0
        ];
    begins = λ a d. f.there a d;
    stacked = λ b its.
        elim (f.stack_new b its) [
          | inl old ↦ let has = subst (λ l. Contains l b) empty old in absurd (omega (arith, has.1))
          | inr w ↦ w.1
        ];
  }

  pub search_goes : (k b : ℕ) (seen more : List Bool) (stack rest stacked : List ℕ) → stack ≡ rest ++ b ∷ [] → IsSearch tops sends k seen stack
      → HasFollowed tops sends b seen rest more stacked → IsSearch tops sends k more stacked
  search_goes k b seen more stack rest stacked popped search f = record {
    pending = λ a c d its.
        elim (f.new c its) [
          | inr w ↦ inr w.1
          | inl old ↦
              elim (search.pending a c d old) [
                | inl seen_a ↦ inl (f.kept a seen_a)
                | inr waits ↦
                    elim (Contains-push_cases rest b c (subst (λ l. Contains l c) popped waits)) [
                      | inl still ↦ inr (f.stack_kept c still)
                      | inr same ↦ inl (f.there a (subst (IsDirect tops sends a) (sym same) d))
                    ]
              ]
        ];
    before = λ a its.
        elim (f.new a its) [
          | inl old ↦ search.before a old
          | inr w ↦ through (direct w.0) (search.before b (search.stacked b (subst (λ l. Contains l b) (sym popped) (Contains-push rest b))))
        ];
    begins = λ a d. f.kept a (search.begins a d);
    stacked = λ c its.
        elim (f.stack_new c its) [
          | inl still ↦ f.kept c (search.stacked c (subst (λ l. Contains l c) (sym popped) (Contains-append_left rest (b ∷ []) c still)))
          | inr w ↦ w.1
        ];
  }

  pub search_ends : (k : ℕ) (seen : List Bool) (stack : List ℕ) → stack ≡ [] → IsSearch tops sends k seen stack → IsPast tops sends k seen
  search_ends k seen stack empty search = record {
    closed = λ a b d its.
        elim (search.pending a b d its) [
          | inl old ↦ old
          | inr waits ↦ let has = subst (λ l. Contains l b) empty waits in absurd (omega (arith, has.1))
        ];
    before = search.before;
    begins = search.begins;
  }

  -- all that comes before the line was seen
  leads_seen : (k : ℕ) (seen : List Bool) → IsPast tops sends k seen → (a b : ℕ) → Leads tops sends a b → (b ≡ k) ⊎ IsSeen seen b → IsSeen seen a
  leads_seen k seen past a b (direct d) (inl same) = past.begins a (subst (IsDirect tops sends a) same d)
  leads_seen k seen past a b (direct d) (inr its) = past.closed a b d its
  leads_seen k seen past a b (through {d = c} one two) its = leads_seen k seen past a c one (inr (leads_seen k seen past c b two its))

  pub past_all : (k : ℕ) (seen : List Bool) → IsPast tops sends k seen → (a : ℕ) → Leads tops sends a k → IsSeen seen a
  past_all k seen past a leads = leads_seen k seen past a k leads (inl refl)

-- what is directly before a line is among so many lines
module _ (tops sends : List (Option ℕ)) (b n : ℕ) (are : (a : ℕ) → IsDirect tops sends a b → a < n) where
  pub top_within : IsWithin n (get_or tops b None)
  top_within = go (get_or tops b None) refl
    where
      go : (t : Option ℕ) → get_or tops b None ≡ t → IsWithin n t
      go None e = tt
      go (Some a) e = are a (above e)

  pub send_within : IsWithin n (get_or sends b None)
  send_within = go (get_or sends b None) refl
    where
      go : (t : Option ℕ) → get_or sends b None ≡ t → IsWithin n t
      go None e = tt
      go (Some a) e = are a (sent e)

-- one line less is to be visited
pub popped_less : (b : ℕ) (seen more : List Bool) (stack rest stacked : List ℕ) → stack ≡ rest ++ b ∷ [] → to_do more stacked ≤ to_do seen rest → to_do more stacked < to_do seen stack
popped_less b seen more stack rest stacked popped less =
    let longer : length stack ≡ length rest + 1 = ap length popped ∙ length-append rest (b ∷ []) in
    omega (arith, longer, less)
