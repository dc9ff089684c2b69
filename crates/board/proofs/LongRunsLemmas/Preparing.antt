-- Sends that are counted lane by lane, and room that is made for them post by post.
use Rattle.std.proofs.Common.{◌≡◌, ◌≢◌, ℕ, suc, ◌+◌, ◌<◌, ◌≤◌, ◌==◌, ◌⊎◌, inl, inr, ⊎_elim, cond, List, [], ◌∷◌, length, map, take, drop, set, get_or, refl, sym, ap, ◌∙◌, subst, subst₂, arith}
use Rattle.std.specs.Prelude.{max, slice_get, Some}
use Rattle.std.proofs.lemmas.List.{map_more, length-set}
use Rattle.std.proofs.lemmas.Bool.Decides.{leb_tells}
use Rattle.board.specs.declared.gathering.Left.{Left}
use Rattle.board.specs.Views.{PostView}
use Rattle.board.specs.Gathering.{left_view}
use Rattle.board.proofs.Meetings.{at_within, one_ahead, set_apart}
use Rattle.board.proofs.PostLemmas.{at_set}
use Rattle.board.specs.LongRuns.CarriedHistories.{sent_again_by}
use Rattle.board.specs.LongRuns.CarryingOver.{HasMoreRoom, HaveMoreRoom}
use Rattle.board.specs.LongRuns.CarryingSteps.{HasReserved, HaveReserved, AreReserved}
use Rattle.board.proofs.LongRunsLemmas.CarriedLanes.{again_by-append}
use Rattle.board.proofs.LongRunsLemmas.CarryingLoops.{parted_at}

-- One more lane.
module _ (p : ℕ) (left : List Left) (i : ℕ) (lane : Left) (within : i < length left) (is : lane ≡ get_or left i lane) where
  pub counted_next : sent_again_by p (map left_view (take (i + 1) left)) ≡ sent_again_by p (map left_view (take i left)) + cond (lane.sender == p) (length lane.messages.items) 0
  counted_next =
      let cut = ap (sent_again_by p) (map_more left_view left i lane within) in
      let sum = again_by-append p (map left_view (take i left)) (left_view (get_or left i lane) ∷ []) in
      let one : sent_again_by p (left_view (get_or left i lane) ∷ []) ≡ sent_again_by p (left_view lane ∷ []) = ap (λ (x : Left). sent_again_by p (left_view x ∷ [])) (sym is) in
      omega (arith, cut, sum, one)

  pub counted_within : sent_again_by p (map left_view (take i left)) + cond (lane.sender == p) (length lane.messages.items) 0 ≤ sent_again_by p (map left_view left)
  counted_within =
      let cut = ap (sent_again_by p) (parted_at left_view left i lane within is) in
      let sum = again_by-append p (map left_view (take i left)) (left_view lane ∷ map left_view (drop (suc i) left)) in
      omega (arith, cut, sum)

-- One more post.

pub none_reserved : (sends : List ℕ) (posts : List PostView) → AreReserved sends 0 posts posts
none_reserved sends posts = record { as_many = refl; each = λ i x y lt at_x at_y. absurd (omega (arith, lt)); others = λ i le. refl }

pub reserved_next : (sends : List ℕ) (old now : List PostView) (i : ℕ) (r y : PostView) (place many : ℕ) → AreReserved sends i old now → slice_get now i ≡ Some r → r.number ≡ suc place → slice_get sends place ≡ Some many → y ≡ record r { room = max r.room many } → AreReserved sends (i + 1) old (set now i y)
reserved_next sends old now i r y place many so at number counted is = record {
  as_many = length-set now i y ∙ so.as_many;
  each = λ j a b lt at_a at_b. each j a b lt at_a (at_set now i j y b at_b);
  others = λ j le. set_apart now i j y (λ same. absurd (omega (arith, same, le))) ∙ so.others j (omega (arith, le));
}
  where
    was : slice_get old i ≡ Some r
    was = sym (so.others i (omega arith)) ∙ at

    here : HasReserved sends r y
    here = record {
      place = place;
      many = many;
      number = number;
      at = counted;
      rest = subst (λ (z : PostView). z ≡ record r { room = z.room }) (sym is) refl;
      room = ap (λ (z : PostView). z.room) is;
    }

    each : (j : ℕ) (a b : PostView) → j < i + 1 → slice_get old j ≡ Some a → ((j ≡ i) × (y ≡ b)) ⊎ ((j ≢ i) × (slice_get now j ≡ Some b)) → HasReserved sends a b
    each j a b lt at_a (inl (same, new)) = subst₂ (λ (u v : PostView). HasReserved sends u v) (one_ahead old i r a was (subst (λ t. slice_get old t ≡ Some a) same at_a)) new here
    each j a b lt at_a (inr (ne, there)) = so.each j a b (omega (arith, lt, ne)) at_a there

pub reserved_all : (sends : List ℕ) (old now : List PostView) (i : ℕ) → AreReserved sends i old now → length old ≤ i → HaveReserved sends old now
reserved_all sends old now i so all = record {
  as_many = so.as_many;
  each = λ j x y at_x at_y. so.each j x y (let within = at_within old j x at_x in omega (arith, within, all)) at_x at_y;
}

-- the posts have more room, and nothing else has changed
pub reserved_room : (sends : List ℕ) (old now : List PostView) (i : ℕ) → AreReserved sends i old now → HaveMoreRoom old now
reserved_room sends old now i so = record {
  as_many = so.as_many;
  each = λ j x y at_x at_y. ⊎_elim
      (λ its. later j x y its.1 at_x at_y)
      (λ its. let reserved = so.each j x y its.1 at_x at_y in record { rest = reserved.rest; room = omega (arith, reserved.room) })
      (leb_tells i j);
}
  where
    later : (j : ℕ) (x y : PostView) → i ≤ j → slice_get old j ≡ Some x → slice_get now j ≡ Some y → HasMoreRoom x y
    later j x y le at_x at_y =
        let same : x ≡ y = one_ahead now j x y (so.others j le ∙ at_x) at_y in
        subst (λ (z : PostView). HasMoreRoom x z) same (record { rest = refl; room = omega arith })

-- the same holds after a post was read and put back
pub put_back : (old now : List PostView) (i : ℕ) (r y : PostView) → HaveMoreRoom old now → slice_get now i ≡ Some r → y ≡ r → HaveMoreRoom old (set now i y)
put_back old now i r y more at same = record {
  as_many = length-set now i y ∙ more.as_many;
  each = λ j a b at_a at_b. each j a b at_a (at_set now i j y b at_b);
}
  where
    each : (j : ℕ) (a b : PostView) → slice_get old j ≡ Some a → ((j ≡ i) × (y ≡ b)) ⊎ ((j ≢ i) × (slice_get now j ≡ Some b)) → HasMoreRoom a b
    each j a b at_a (inl (here, new)) = more.each j a b at_a (ap (λ t. slice_get now t) here ∙ at ∙ ap (λ (z : PostView). Some z) (sym same ∙ new))
    each j a b at_a (inr (ne, there)) = more.each j a b at_a there
