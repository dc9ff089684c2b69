-- What is carried over step by step.
use Rattle.std.proofs.Common.{◌≡◌, ℕ, zero, suc, ◌<◌, ◌≤◌, List, [], ◌∷◌, ◌++◌, length, map, take, drop, get_or, refl, sym, ap, subst, arith, length-append}
use Rattle.chart.specs.declared.history.Occurrence.{Occurrence}
use Rattle.chart.specs.Histories.{chart_of, line_gets, Begins}
use Rattle.chart.proofs.Begun.{legal_begun}
use Rattle.board.specs.Views.{PostView}
use Rattle.board.specs.LongRuns.CarryingSteps.{AreOn, MayGoOn}

-- a line never gets shorter
chart_longer : (more h : List Occurrence) (p : ℕ) → length (chart_of h p) ≤ length (chart_of (more ++ h) p)
chart_longer [] h p = omega arith
chart_longer (e ∷ more) h p =
    let before = chart_longer more h p in
    omega (arith, before, length-append (chart_of (more ++ h) p) (line_gets (more ++ h) p e))

-- the posts may go on by the next part of the whole history
pub may_next : (n k : ℕ) (h f g whole : List Occurrence) (old first posts : List PostView) → MayGoOn n k h whole old first → AreOn n k f old posts → Begins g whole → MayGoOn n k f g old posts
may_next n k h f g whole old first posts go on begins = record {
  on = on;
  legal = legal_begun n k g whole begins go.legal;
  room = λ i x at.
      let room = go.room i x at in
      let longer : length (chart_of g x.number) ≤ length (chart_of whole x.number) = subst (λ (w : List Occurrence). length (chart_of g x.number) ≤ length (chart_of w x.number)) (sym begins.1) (chart_longer begins.0 g x.number) in
      omega (arith, room, longer);
}

-- a list: the part so far, the current element, and the rest
pub parted_at : {X Y : Type 0} (f : X → Y) (xs : List X) (i : ℕ) (x : X) → i < length xs → x ≡ get_or xs i x → map f xs ≡ map f (take i xs) ++ (f x ∷ map f (drop (suc i) xs))
parted_at f [] i x within is = absurd (omega (arith, within))
parted_at f (y ∷ xs) zero x within is = ap (λ z. f z ∷ map f xs) (sym is)
parted_at f (y ∷ xs) (suc i) x within is = ap (λ zs. f y ∷ zs) (parted_at f xs i x (omega (arith, within)) is)

-- a list of length 0 is empty
pub nothing_left : {X : Type 0} (xs : List X) → length xs ≡ 0 → xs ≡ []
nothing_left [] none = refl
nothing_left (x ∷ xs) none = absurd (omega (arith, none))
