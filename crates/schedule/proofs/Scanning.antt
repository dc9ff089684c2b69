-- What a scan finds: another of the instances.
use Rattle.std.proofs.Common.{◌≡◌, ℕ, ◌≤◌, Bool, true, false, cond, List, [], ◌∷◌, Some, refl, subst}
use Rattle.std.specs.Prelude.{find, All}
use Rattle.std.proofs.lemmas.Option.{none-some, same_Some}
use Rattle.std.proofs.lemmas.List.Elements.{All-head, All-tail}
use Rattle.chart.specs.Scans.{scan}
use Rattle.chart.proofs.Scans.{IsOther, scan-others}
use Rattle.schedule.specs.Meaning.{Run, has_waiting, first_waiting}

-- the found number passes the test, and is one of those that were searched
pub find-found : (P : ℕ → Type 0) (g : ℕ → Bool) (qs : List ℕ) (q : ℕ) → All P qs → find g qs ≡ Some q → (g q ≡ true) × P q
find-found P g [] q all e = absurd (none-some q e)
find-found P g (x ∷ qs) q all e = by (g x) refl e (find-found P g qs q (All-tail P x qs all))
  where
    by : (b : Bool) → g x ≡ b → cond b (Some x) (find g qs) ≡ Some q → (find g qs ≡ Some q → (g q ≡ true) × P q) → (g q ≡ true) × P q
    by true it e later =
        let same : x ≡ q = same_Some x q e in
        (subst (λ y. g y ≡ true) same it, subst P same (All-head P x qs all))
    by false it e later = later e

-- the first instance from which a message waits is another one
pub first-other : (n : ℕ) (r : Run) (p q : ℕ) → r.last p ≤ n → first_waiting n r p ≡ Some q → (has_waiting r.history q p ≡ true) × IsOther n p q
first-other n r p q known e = find-found (IsOther n p) (λ o. has_waiting r.history o p) (scan n p (r.last p)) q (scan-others n p (r.last p) known) e
