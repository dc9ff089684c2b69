-- Places and seats that a step leaves as they are.
use Rattle.std.proofs.Common.{◌≡◌, ◌≢◌, ℕ, zero, suc, ◌+◌, inr, ⊎_elim, List, [], ◌∷◌, ◌++◌, length, set, refl, sym, ◌∙◌, subst, arith, length-set}
use Rattle.std.specs.Prelude.{Option, Some, None, slice_index}
use mathlib.Core.Option.{some, some-injective, some-ne-none}
use lib.ListN.{get_elem?}
use Rattle.atomic_table.specs.Seated.{TableId}
use Rattle.atomic_table.proofs.Lists.{at_set}
use Rattle.board_table.specs.declared.shape.Shape.{Shape}
use Rattle.board_table.proofs.Carried.{at_append}
use Rattle.board.specs.Views.{PostView}
use Rattle.freed_posts.specs.declared.change.Change.{Change}
use Rattle.freed_posts.specs.declared.knowledge.Right.{Right}
use Rattle.freed_posts.specs.declared.knowledge.Right.TheVariants.{Nothing, Unissued, Issued, Taking, Handing}
use Rattle.freed_posts.specs.declared.knowledge.Knowledge.{Knowledge}
use Rattle.freed_posts.specs.Shelves.{lying, made_with, GoOn}
use Rattle.freed_posts.specs.Knowing.{knowledge}
use Rattle.freed_posts.specs.Rule.{Homes, IsPlace, HasPlace, AreVacant, IsOwned, Fits}
use Rattle.freed_posts.proofs.Changes.{go_on_from}

-- a place that keeps its word, and what is at home in it
pub place_left : (key : Shape) (board : TableId) (place : ℕ) (words words' : List ℕ) (homes homes' : Homes) (o : Option PostView) → slice_index words' place ≡ slice_index words place → ((post : PostView) → o ≡ Some post → get_elem? homes' place ≡ get_elem? homes place) → IsPlace key board place words homes o → IsPlace key board place words' homes' o
place_left key board place words words' homes homes' None same_word same_home is = same_word ∙ is
place_left key board place words words' homes homes' (Some post) same_word same_home is = record { word = same_word ∙ is.word; home = same_home post refl ∙ is.home; at = is.at; number = is.number }

vacant_left : (right : Right) (homes homes' : Homes) → ((place : ℕ) → HasPlace right place → get_elem? homes' place ≡ get_elem? homes place) → AreVacant right homes → AreVacant right homes'
vacant_left Nothing homes homes' same are = tt
vacant_left (Unissued first end) homes homes' same are = λ place low high. same place (low, high) ∙ are place low high
vacant_left (Issued mine) homes homes' same are = tt
vacant_left (Taking mine other) homes homes' same are = tt
vacant_left (Handing mine other) homes homes' same are = same other (inr refl) ∙ are

-- a seat that makes no step, while the places that aren't its own may change
pub seat_left : (n : ℕ) (log log' : List Change) (owner owner' : ℕ → ℕ) (homes homes' : Homes) (id : ℕ) (v : Knowledge) → GoOn log log' → ((place : ℕ) → IsOwned n log owner id v.seen place → (owner' place ≡ owner place) × (lying log' (suc place) ≡ lying log (suc place)) × (made_with (suc place) log' ≡ made_with (suc place) log) × (get_elem? homes' place ≡ get_elem? homes place)) → Fits n log owner homes id v → Fits n log' owner' homes' id v
seat_left n log log' owner owner' homes homes' id v later same fits = record {
  seen = go_on_from v.seen log log' fits.seen later;
  owns = λ place has. let its = fits.owns place has in let left = same place its in record { within = its.within; owner_is = left.0 ∙ its.owner_is; away = left.1 ∙ its.away; made = left.2 ∙ its.made };
  vacant = vacant_left v.right homes homes' (λ place has. (same place (fits.owns place has)).3) fits.vacant;
}

-- a seat with no place
pub witness_fits : (n : ℕ) (log : List Change) (owner : ℕ → ℕ) (homes : Homes) (id : ℕ) (seen : List Change) → GoOn seen log → Fits n log owner homes id (knowledge Nothing seen)
witness_fits n log owner homes id seen later = record { seen = later; owns = λ place has. absurd has; vacant = tt }

module _ {V : Type 0} where
  -- the views after a step of one seat
  pub after_step : (P : ℕ → V → Type 0) (views : List V) (id : ℕ) (w : V) → P id w → ((j : ℕ) (v : V) → j ≢ id → get_elem? views j ≡ some v → P j v) → (j : ℕ) (v : V) → get_elem? (set views id w) j ≡ some v → P j v
  after_step P views id w here there j v at = ⊎_elim
      (λ its. subst (λ x. P x v) (sym its.0) (subst (P id) its.1 here))
      (λ its. there j v its.0 its.1)
      (at_set views id j w v at)

  -- the views after one seat is split
  pub after_split : (P : ℕ → V → Type 0) (views : List V) (id : ℕ) (left right : V) → P id left → P (length views) right → ((j : ℕ) (v : V) → j ≢ id → get_elem? views j ≡ some v → P j v) → (j : ℕ) (v : V) → get_elem? (set views id left ++ right ∷ []) j ≡ some v → P j v
  after_split P views id left right here new there j v at = ⊎_elim
      (λ old. after_step P views id left here there j v old.1)
      (λ more. last more.0 more.2 more.1)
      (at_append (set views id left) (right ∷ []) j v at)
    where
      last : (i : ℕ) → get_elem? (right ∷ []) i ≡ some v → j ≡ length (set views id left) + i → P j v
      last zero is same = let there : length views ≡ j = omega (arith, same, length-set views id left) in subst (λ x. P x v) there (subst (P (length views)) (some-injective right v is) new)
      last (suc i) is same = absurd (some-ne-none v (sym is))
