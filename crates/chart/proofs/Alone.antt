-- A history and its beginning, if no instance, or only one, did anything in between.
use Rattle.std.proofs.Common.{◌≡◌, ◌≢◌, ℕ, ◌≤◌, cond, List, [], ◌∷◌, ◌++◌, length, refl, sym, ap, ◌∙◌, subst, arith, ⊎_elim, length-append}
use Rattle.std.proofs.lemmas.Bool.{eq-eqb, ne_eqb, cases_eq}
use Rattle.chart.specs.declared.history.Occurrence.{Occurrence}
use Rattle.chart.specs.declared.history.Occurrence.TheVariants.{Send, Receive, Close}
use Rattle.chart.specs.Histories.{by, own, MayFollow, IsLegal, Begins}
use Rattle.chart.proofs.Histories.{begins_onward, own_begins}
use Rattle.chart.proofs.Begun.{legal_begun}

-- a history that is no longer than its beginning is the same as this
pub no_longer : (h g : List Occurrence) → Begins h g → length g ≤ length h → g ≡ h
no_longer h g ([], same) le = same
no_longer h g (e ∷ more, same) le = absurd (omega (arith, ap length same, length-append more h))

pub begins_longer : (h g : List Occurrence) → Begins h g → length h ≤ length g
begins_longer h g (more, same) = omega (arith, ap length same, length-append more h)

-- the instance that did it is one of the n instances
by_one : (n k : ℕ) (h : List Occurrence) (e : Occurrence) → MayFollow n k h e → (1 ≤ by e) × (by e ≤ n)
by_one n k h (Send p q m) may = (may.0.0, may.0.1)
by_one n k h (Receive p q c) may = (may.0.0, may.0.1)
by_one n k h (Close p q) may = (may.0.0, may.0.1)

-- if each instance did the same in a history as in its beginning, the two are the same
pub nothing_more : (n k : ℕ) (h g : List Occurrence) → IsLegal n k g → Begins h g → ((q : ℕ) → 1 ≤ q → q ≤ n → own g q ≡ own h q) → g ≡ h
nothing_more n k h g legal ([], same) each = same
nothing_more n k h g legal (e ∷ more, same) each =
    let its = subst (λ x. IsLegal n k x) same legal in
    let one = by_one n k (more ++ h) e its.0 in
    let grown : own g (by e) ≡ e ∷ own (more ++ h) (by e) = ap (λ x. own x (by e)) same ∙ ap (λ b. cond b (e ∷ own (more ++ h) (by e)) (own (more ++ h) (by e))) (eq-eqb (by e) (by e) refl) in
    let long = begins_longer (own h (by e)) (own (more ++ h) (by e)) (own_begins h (more ++ h) (more, refl) (by e)) in
    absurd (omega (arith, ap length grown, ap length (each (by e) one.0 one.1), long))

-- if an instance did the same in two histories, it did the same in a history between them
pub between : (h f g : List Occurrence) (q : ℕ) → Begins h f → Begins f g → own g q ≡ own h q → own f q ≡ own h q
between h f g q one two same =
    no_longer (own h q) (own f q) (own_begins h f one q) (omega (arith, ap length same, begins_longer (own f q) (own g q) (own_begins f g two q)))

-- Suppose that e, which p did, is all that was done since h. Then it came directly after h.
module _ (n k : ℕ) (h before g : List Occurrence) (e : Occurrence) (p : ℕ) (its : by e ≡ p) (legal : IsLegal n k g)
    (first : Begins h before) (then : Begins (e ∷ before) g) (mine : own g p ≡ e ∷ own h p)
    (others : (q : ℕ) → 1 ≤ q → q ≤ n → q ≢ p → own g q ≡ own h q) where
  front : Begins before g
  front = begins_onward before (e ∷ before) g (e ∷ [], refl) then

  own_with : (f : List Occurrence) → own (e ∷ f) p ≡ e ∷ own f p
  own_with f = ap (λ b. cond b (e ∷ own f p) (own f p)) (eq-eqb (by e) p its)

  mine_before : own before p ≡ own h p
  mine_before =
      let with = begins_longer (own (e ∷ before) p) (own g p) (own_begins (e ∷ before) g then p) in
      no_longer (own h p) (own before p) (own_begins h before first p) (omega (arith, with, ap length (own_with before), ap length mine))

  each_before : (q : ℕ) → 1 ≤ q → q ≤ n → own before q ≡ own h q
  each_before q low high = ⊎_elim (λ same. subst (λ x. own before x ≡ own h x) (sym same) mine_before) (λ ne. between h before g q first front (others q low high ne)) (cases_eq q p)

  pub came_after : before ≡ h
  came_after = nothing_more n k h before (legal_begun n k before g front legal) first each_before

  each_after : (q : ℕ) → 1 ≤ q → q ≤ n → own g q ≡ own (e ∷ h) q
  each_after q low high = ⊎_elim
      (λ same. subst (λ x. own g x ≡ own (e ∷ h) x) (sym same) (mine ∙ sym (own_with h)))
      (λ ne. others q low high ne ∙ ap (λ b. cond b (e ∷ own h q) (own h q)) (sym (ne_eqb (by e) q (λ same. ne (sym same ∙ its)))))
      (cases_eq q p)

  pub all_after : g ≡ e ∷ h
  all_after = nothing_more n k (e ∷ h) g legal (subst (λ x. Begins (e ∷ x) g) came_after then) each_after
