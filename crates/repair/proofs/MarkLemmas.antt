-- Marks of numbers, when one more event is marked.
use Rattle.std.proofs.Common.{◌≡◌, ℕ, ◌<◌, ◌==◌, ◌&&◌, ◌||◌, inl, inr, Bool, true, false, cond, List, [], ◌∷◌, ◌++◌, length, get_or, set, refl, sym, ap, ◌∙◌, subst, arith, eq-eqb, eqb-true}
use Rattle.std.specs.Prelude.{nat_lt, replicate}
use Rattle.std.specs.List.{list_any}
use Rattle.std.proofs.lemmas.Bool.{cases_Bool, cases_eq, cases_lt, lt-ltb, le-ltb}
use Rattle.std.proofs.lemmas.List.{length-set, get_or-set_same, get_or-set_other, length-replicate, get_or-replicate}
use Rattle.std.proofs.lemmas.List.Folds.{list_any-append}
use Rattle.chart.specs.declared.instance.EventNo.{EventNo}
use Rattle.repair.specs.Marks.{is_at, with_mark, AreMarks}

or_none : (a b : Bool) → b ≡ false → (a || (b || false)) ≡ a
or_none true b is = refl
or_none false b is = ap (λ x. x || false) is

or_it : (a b : Bool) → b ≡ true → (a || (b || false)) ≡ true
or_it true b is = refl
or_it false b is = ap (λ x. x || false) is

and_it : (a b : Bool) → a ≡ true → b ≡ true → (a && b) ≡ true
and_it a b is also = ap (λ x. x && b) is ∙ also

and_none : (a b : Bool) → b ≡ false → (a && b) ≡ false
and_none true b is = is
and_none false b is = refl

differ : (a b : ℕ) → (a ≡ b → ⊥) → (a == b) ≡ false
differ a b other = elim (cases_Bool (a == b)) [ inl same ↦ absurd (other (eqb-true a b same)) | inr off ↦ off ]

module _ (p : ℕ) (events : List EventNo) (e : EventNo) (marks : List Bool) (are : AreMarks p events marks) where
  abbrev any : ℕ → Bool
  any i = list_any (is_at p i) events

  -- the event isn't this one
  passed : (i : ℕ) → is_at p i e ≡ false → list_any (is_at p i) (events ++ e ∷ []) ≡ any i
  passed i off = list_any-append (is_at p i) events (e ∷ []) ∙ or_none (any i) (is_at p i e) off

  found : (i : ℕ) → is_at p i e ≡ true → list_any (is_at p i) (events ++ e ∷ []) ≡ true
  found i its = list_any-append (is_at p i) events (e ∷ []) ∙ or_it (any i) (is_at p i e) its

  same_marks : ((i : ℕ) → i < length marks → is_at p i e ≡ false) → AreMarks p (events ++ e ∷ []) marks
  same_marks off i within = are i within ∙ sym (passed i (off i within))

  new_mark : (e.instance == p) ≡ true → e.index < length marks → AreMarks p (events ++ e ∷ []) (set marks e.index true)
  new_mark its inside i within =
      let long = length-set marks e.index true in
      elim (cases_eq i e.index) [
        | inl same ↦
            ap (λ k. get_or (set marks e.index true) k false) same ∙ get_or-set_same marks e.index true false inside
            ∙ sym (found i (and_it (e.instance == p) (e.index == i) its (eq-eqb e.index i (sym same))))
        | inr differs ↦
            get_or-set_other marks e.index i true false differs ∙ are i (omega (arith, within, long))
            ∙ sym (passed i (and_none (e.instance == p) (e.index == i) (differ e.index i (λ same. differs (sym same)))))
      ]

  -- one event more
  pub marks_with : AreMarks p (events ++ e ∷ []) (with_mark marks p e)
  marks_with = elim (cases_Bool (e.instance == p)) [
    | inl its ↦ elim (cases_lt e.index (length marks)) [
      | inl inside ↦ by true (and_it (e.instance == p) (nat_lt e.index (length marks)) its (lt-ltb e.index (length marks) inside)) (new_mark its inside)
      | inr past ↦ by false (and_none (e.instance == p) (nat_lt e.index (length marks)) (le-ltb e.index (length marks) past))
          (same_marks (λ i within. and_none (e.instance == p) (e.index == i) (differ e.index i (λ same. absurd (omega (arith, same, past, within))))))
    ]
    | inr off ↦ by false (ap (λ b. b && nat_lt e.index (length marks)) off) (same_marks (λ i within. ap (λ b. b && (e.index == i)) off))
  ]
    where
      by : (t : Bool) → ((e.instance == p) && nat_lt e.index (length marks)) ≡ t → AreMarks p (events ++ e ∷ []) (cond t (set marks e.index true) marks) → AreMarks p (events ++ e ∷ []) (with_mark marks p e)
      by t is are_t = subst (λ b. AreMarks p (events ++ e ∷ []) (cond b (set marks e.index true) marks)) (sym is) are_t

-- nothing is marked
pub none_marked : (p count : ℕ) → AreMarks p [] (replicate count false)
none_marked p count i within = get_or-replicate count i false false (omega (arith, within, length-replicate count false))

-- as many places as before
pub with_mark_long : (marks : List Bool) (p : ℕ) (e : EventNo) → length (with_mark marks p e) ≡ length marks
with_mark_long marks p e = by ((e.instance == p) && nat_lt e.index (length marks))
  where
    by : (t : Bool) → length (cond t (set marks e.index true) marks) ≡ length marks
    by true = length-set marks e.index true
    by false = refl
