-- Posts that are taken: out of their places, and with their tickets.
use Rattle.std.proofs.Common.{◌≡◌, ℕ, List, [], ◌∷◌, refl, sym, ap, ◌∙◌, subst}
use Rattle.std.specs.Prelude.{Option, Some, None, true}
use Rattle.atomic_table.specs.Seated.{TableId}
use Rattle.atomic_table.specs.Table.{rest}
use Rattle.board_table.specs.declared.shape.Shape.{Shape}
use Rattle.board.specs.Views.{PostView}
use Rattle.freed_posts.specs.declared.knowledge.Knowledge.{Knowledge}
use Rattle.freed_posts.specs.Knowing.{Mine}
use Rattle.freed_posts.specs.Plays.{TakesAt, TakesOut}

-- the slot that is out first
pub out_first : (w : Mine) (view : Knowledge) (place : ℕ) (content : Option PostView) (more : List (ℕ × Option PostView)) → ◌≡◌ {A = Mine} w (view, (place, content) ∷ more) → w.1 ≡ (place, content) ∷ rest w.1
out_first w view place content more is = subst (λ (m : Mine). m.1 ≡ (place, content) ∷ rest m.1) (sym is) refl

content_of : List (ℕ × Option PostView) → Option PostView
content_of [] = None
content_of (x ∷ xs) = x.1

-- what a step found is in the slot that is out first
content_is : (key : Shape) (board : TableId) (place : ℕ) (m w : Mine) (content : Option PostView) → (found : TakesAt key board place m true w) → w.1 ≡ (place, content) ∷ rest w.1 → content ≡ Some found.0
unfolding content_of
content_is key board place m w content found is = sym (ap content_of is) ∙ ap (λ (z : Mine). content_of z.1) found.1.2

-- the slot is emptied
pub emptied : (key : Shape) (board : TableId) (place : ℕ) (m t w : Mine) (content : Option PostView) (post : PostView) → TakesAt key board place m true t → t.1 ≡ (place, content) ∷ rest t.1 → ◌≡◌ {A = Mine} w (t.0, (place, None) ∷ rest t.1) → content ≡ Some post → TakesOut key board place m.0 post w
emptied key board place m t w content post found is left same =
    let it : Some found.0 ≡ Some post = sym (content_is key board place m t content found is) ∙ same in
    let one : found.0 ≡ post = cc in
    subst (λ (x : PostView). TakesOut key board place m.0 x w) one (found.1.0, found.1.1, left ∙ ap (λ (z : Mine). (z.0, (place, None) ∷ rest z.1)) found.1.2)
