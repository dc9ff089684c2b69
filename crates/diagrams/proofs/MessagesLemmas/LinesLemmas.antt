-- The lines of a chart, one after the other.
use Rattle.std.proofs.Common.{◌≡◌, ℕ, zero, suc, ◌+◌, ◌-◌, ◌<◌, ◌≤◌, List, [], ◌∷◌, ◌++◌, Option, None, Some, length, refl, sym, ap, ◌∙◌, arith, append_assoc, add-one}
use Rattle.std.specs.Prelude.{slice_get}
use Rattle.std.proofs.lemmas.List.{append-nil}
use Rattle.chart.specs.Charts.{LineView, IsNumbered}
use Rattle.diagrams.specs.Messages.Lines.{lines_from}
use Rattle.diagrams.specs.Messages.Regions.{line_of}
use Rattle.diagrams.specs.declared.messages.end.End.{End}

-- one more line
pub lines_more : (ends : List End) (place count : ℕ) (done next : List LineView) (line : LineView) → place < count → line ≡ line_of (place + 1) ends → next ≡ done ++ line ∷ []
    → next ++ lines_from ends (place + 1 + 1) (count - (place + 1)) ≡ done ++ lines_from ends (place + 1) (count - place)
unfolding lines_from
lines_more ends place count done next line within is e =
    let left : count - place ≡ suc (count - (place + 1)) = omega arith in
    rw (left, e, is, add-one (place + 1)) (append_assoc done (line_of (place + 1) ends ∷ []) _)

pub lines_end : (ends : List End) (place count p : ℕ) (done : List LineView) → count ≤ place → done ++ lines_from ends p (count - place) ≡ done
unfolding lines_from
lines_end ends place count p done past =
    let left : count - place ≡ 0 = omega arith in
    rw left (append-nil done)

-- each line is the next instance's
numbered_from : (ends : List End) (p n i : ℕ) (l : LineView) → slice_get (lines_from ends p n) i ≡ Some l → l.instance ≡ p + i
unfolding lines_from line_of
numbered_from ends p zero i l at_i = absurd (cc at_i)
numbered_from ends p (suc n) zero l at_i = ap (λ (o : Option LineView). instance_or p o) (sym at_i) ∙ omega arith
  where
    instance_or : ℕ → Option LineView → ℕ
    instance_or d None = d
    instance_or d (Some line) = line.instance
numbered_from ends p (suc n) (suc i) l at_i = let rest = numbered_from ends (suc p) n i l at_i in omega arith

pub numbered : (ends : List End) (n : ℕ) (lines : List LineView) → lines ≡ lines_from ends 1 n → IsNumbered lines
numbered ends n lines e = λ i l at_i. let place = numbered_from ends 1 n i l (ap (λ ls. slice_get ls i) (sym e) ∙ at_i) in omega arith

-- there is a line for each instance
pub length-lines : (ends : List End) (p n : ℕ) → length (lines_from ends p n) ≡ n
unfolding lines_from
length-lines ends p zero = refl
length-lines ends p (suc n) = ap suc (length-lines ends (suc p) n)
