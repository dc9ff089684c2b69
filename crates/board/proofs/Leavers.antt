-- Posts that leave, one after another.
use Rattle.std.proofs.Common.{◌≡◌, ◌≢◌, ℕ, zero, suc, ◌+◌, ◌≤◌, ◌⊎◌, inl, inr, ⊎_elim, List, [], ◌∷◌, ◌++◌, length, take, drop, vec_capacity, refl, sym, ap, ap₂, ◌∙◌, subst, arith, length-append}
use Rattle.std.specs.Prelude.{slice_get, None, Some}
use Rattle.std.specs.Global.{Vec}
use Rattle.atomic_table.specs.Seated.{TableId}
use Rattle.chart.specs.declared.event.Event.{Event}
use Rattle.chart.specs.declared.history.Occurrence.{Occurrence}
use Rattle.chart.specs.Histories.{chart_of}
use Rattle.chart.specs.HistoryLines.{history_line}
use Rattle.chart.specs.Charts.{LineView}
use Rattle.board.specs.Views.{PostView, line_of}
use Rattle.board.specs.Meeting.{HasPost}
use Rattle.board_table.specs.Leaving.{HaveLeft}
use Rattle.board.specs.declared.parting.Leaver.{Leaver}
use Rattle.board.specs.Parting.{IsAmong, HasMet, HaveSeen, HaveParted, IsForLine}
use Rattle.board.proofs.RoomsMade.{lines_next}

none_there : (y : PostView) → None ≡ Some y → ⊥
none_there y never = cc

some_one : (x y : PostView) → Some x ≡ Some y → x ≡ y
some_one x y same = cc

-- a post that is left was there before
pub kept_there : (posts : List PostView) (place i : ℕ) (post : PostView) → slice_get (take place posts ++ drop (suc place) posts) i ≡ Some post → IsAmong posts post
kept_there [] zero i post at = absurd (none_there post at)
kept_there [] (suc place) i post at = absurd (none_there post at)
kept_there (x ∷ posts) zero i post at = (suc i, at)
kept_there (x ∷ posts) (suc place) zero post at = (0, at)
kept_there (x ∷ posts) (suc place) (suc i) post at = let its = kept_there posts place i post at in (suc its.0, its.1)

-- a post other than the one taken is still there
pub others_there : (posts : List PostView) (place : ℕ) (taken : PostView) (p : ℕ) → slice_get posts place ≡ Some taken → p ≢ taken.number → HasPost posts p → HasPost (take place posts ++ drop (suc place) posts) p
others_there [] place taken p at ne (i, post, there, same) = absurd (none_there post there)
others_there (x ∷ posts) zero taken p at ne (zero, post, there, same) = absurd (ne (sym same ∙ ap (λ (z : PostView). z.number) (some_one post taken (sym there ∙ at))))
others_there (x ∷ posts) zero taken p at ne (suc i, post, there, same) = (i, post, there, same)
others_there (x ∷ posts) (suc place) taken p at ne (zero, post, there, same) = (0, post, there, same)
others_there (x ∷ posts) (suc place) taken p at ne (suc i, post, there, same) =
    let its = others_there posts place taken p at ne (i, post, there, same) in (suc its.0, its.1, its.2, its.3)

no_element : {X : Type 0} (x : X) → None ≡ Some x → ⊥
no_element x never = cc

one_element : {X : Type 0} (x y : X) → Some x ≡ Some y → x ≡ y
one_element x y same = cc

-- an element of a list with one more at its end
at_push : {X : Type 0} (xs : List X) (x y : X) (i : ℕ) → slice_get (xs ++ x ∷ []) i ≡ Some y → (slice_get xs i ≡ Some y) ⊎ ((i ≡ length xs) × (x ≡ y))
at_push [] x y zero at = inr (refl, one_element x y at)
at_push [] x y (suc i) at = absurd (no_element y at)
at_push (z ∷ xs) x y zero at = inl at
at_push (z ∷ xs) x y (suc i) at = ⊎_elim (λ there. inl there) (λ its. inr (ap suc its.0, its.1)) (at_push xs x y i at)

-- One post more has left.
module _ (n k : ℕ) (table : TableId) (h : List Occurrence) (place : ℕ) where
  pub seen_next : (posts after : List PostView) → HaveSeen n k table h place posts → ((i : ℕ) (post : PostView) → slice_get after i ≡ Some post → IsAmong posts post) → ((p : ℕ) → p ≢ place + 1 → HasPost posts p → HasPost after p) → HaveSeen n k table h (place + 1) after
  seen_next posts after seen kept others = record {
    each = λ i post at. let its = kept i post at in seen.each its.0 post its.1;
    all = λ number low high. others number (λ same. absurd (omega (arith, low, same))) (seen.all number (omega (arith, low)) high);
  }

  module _ (post : PostView) (met : HasMet n k table h post) (number : post.number ≡ place + 1) where
    line_is : (line : LineView) → line ≡ record { instance = post.number; events = line_of post } → line ≡ history_line h (place + 1)
    line_is line same = same ∙ ap₂ (λ (p : ℕ) (g : List Occurrence). record { instance = p; events = chart_of g p }) number met.seen

    -- a list for the next line has room for its events
    pub line_fits : (events : Vec Event) → IsForLine h (place + 1) events → length (line_of post) ≤ vec_capacity events
    line_fits events its = omega (arith, its.exact, ap length (ap₂ (λ (p : ℕ) (g : List Occurrence). chart_of g p) number met.seen))

    pub parted_next : (lines : List LineView) (leavers : List Leaver) (line : LineView) (leaver : Leaver) → HaveParted (record { table = table; size = n; capacity = k }) h place lines leavers → line ≡ record { instance = post.number; events = line_of post }
        → leaver.seat.table_id ≡ post.board.table → HaveLeft post.board.size post.board.capacity post.number post.seen 1 post.board.size leaver.seat.me.1
        → HaveParted (record { table = table; size = n; capacity = k }) h (place + 1) (lines ++ line ∷ []) (leavers ++ leaver ∷ [])
    parted_next lines leavers line leaver parted line_same seated left = record {
      lined = ap₂ (λ ls l. ls ++ l ∷ []) parted.lined (line_is line line_same) ∙ sym (lines_next h place);
      as_many = omega (arith, length-append leavers (leaver ∷ []), parted.as_many);
      seated = λ i one at. ⊎_elim (λ there. parted.seated i one there)
          (λ its. subst (λ (x : Leaver). x.seat.table_id ≡ table) its.1 (seated ∙ ap (λ b. b.table) met.board)) (at_push leavers leaver one i at);
      left = λ i one at. ⊎_elim (λ there. parted.left i one there)
          (λ its. subst (λ (x : Leaver). HaveLeft n k (suc i) h 1 n x.seat.me.1) its.1 (here i (its.0 ∙ parted.as_many))) (at_push leavers leaver one i at);
    }
      where
        here : (i : ℕ) → i ≡ place → HaveLeft n k (suc i) h 1 n leaver.seat.me.1
        here i same =
            let which : post.number ≡ suc i = omega (arith, number, same) in
            subst (λ (g : List Occurrence). HaveLeft n k (suc i) g 1 n leaver.seat.me.1) met.seen
            (subst (λ (p : ℕ). HaveLeft n k p post.seen 1 n leaver.seat.me.1) which
            (subst (λ b. HaveLeft b.size b.capacity post.number post.seen 1 b.size leaver.seat.me.1) met.board left))
