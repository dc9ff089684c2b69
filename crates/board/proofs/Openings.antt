-- Posts before their first calls.
use Rattle.std.proofs.Common.{◌≡◌, ℕ, zero, suc, ◌+◌, ◌<◌, ◌≤◌, inl, List, [], ◌∷◌, ◌++◌, refl, sym, ap, ◌∙◌, subst, arith}
use Rattle.std.proofs.lemmas.List.{length-replicate, length_push}
use Rattle.std.specs.Prelude.{None, Some}
use Rattle.atomic_table.specs.Seated.{TableId}
use Rattle.chart.proofs.Places.{each-push}
use Rattle.line_recorder.specs.Recorders.{RecorderView, new_recorder}
use Rattle.board_table.specs.declared.shape.Shape.{Shape}
use Rattle.board_table.specs.declared.held.Held.{Held}
use Rattle.board_table.specs.Layout.{IsBoard, word_count, slot_count}
use Rattle.board_table.specs.Knowing.{Mine, held, later_helds, new_held}
use Rattle.board.specs.declared.ends.Outgoing.{Outgoing}
use Rattle.board.specs.declared.ends.Incoming.{Incoming}
use Rattle.board.specs.Known.{IsSized, IsOutgoing, IsIncoming, IsPost}
use Rattle.board.specs.Views.{BoardView, PostView}
use Rattle.board.specs.Boards.{AreNewEnds, FirstPosts, AreLeft, new_seat, new_seats, new_outgoing, new_incoming, new_post}
use Rattle.board.proofs.PostLemmas.{knowledge}

-- The ends of a lane on which nothing was sent.

outgoing_new : (n p q : ℕ) → IsOutgoing n [] p q (new_outgoing n)
outgoing_new n p q = record { put = refl; known = omega arith; unsent = refl; base = refl; long = length-replicate n 0 }

incoming_new : (n p q : ℕ) → IsIncoming n [] p q (new_incoming n)
incoming_new n p q = record { taken = refl; known = omega arith; base = refl; long = length-replicate n 0 }

post_at : (n k p : ℕ) (outgoing : List Outgoing) (incoming : List Incoming) → IsSized n k → 1 ≤ p → p ≤ n → AreNewEnds n n outgoing incoming → IsPost (new_seat n k p) n k p (knowledge (new_recorder p n) 0 outgoing incoming)
post_at n k p outgoing incoming sized low high ends = record {
  sized = sized;
  least = low;
  most = high;
  rests = record { post = record { alone = refl; instances = refl; capacity = refl; number = refl }; hold = refl; slots = refl };
  knows = record {
    legal = tt;
    own = record { recorder = record { line = refl; knowledge = refl; receives = refl; reports = λ i d lt. absurd (omega (arith, lt)) }; region_fits = inl refl };
    ends = record {
      as_many = ends.as_many;
      of_each = ends.of_each;
      sends = λ j o ne other at. subst (λ (x : Outgoing). IsOutgoing n [] p (suc j) x) (sym (ends.sends j o at)) (outgoing_new n p (suc j));
      takes = λ j i ne other at. subst (λ (x : Incoming). IsIncoming n [] p (suc j) x) (sym (ends.takes j i at)) (incoming_new n p (suc j));
    };
  };
  made = refl;
}

-- a new post
pub post_new : (me : Mine) (n k p : ℕ) (r : RecorderView) (outgoing : List Outgoing) (incoming : List Incoming) → IsSized n k → ◌≡◌ {A = Mine} me (new_seat n k p) → 1 ≤ p → p ≤ n → AreNewEnds n n outgoing incoming → r ≡ new_recorder p n → IsPost me n k p (knowledge r 0 outgoing incoming)
post_new me n k p r outgoing incoming sized seat low high ends recorder =
    subst (λ (m : Mine). IsPost m n k p (knowledge r 0 outgoing incoming)) (sym seat)
    (subst (λ (u : RecorderView). IsPost (new_seat n k p) n k p (knowledge u 0 outgoing incoming)) (sym recorder)
    (post_at n k p outgoing incoming sized low high ends))

-- the seat of the next post, and of the posts after it
pub deal_next : (n k dealt next : ℕ) (m : Mine) → AreLeft n k dealt m → dealt < n → suc dealt ≡ next → (m.0 ≡ held m ∷ later_helds m) × (held m ≡ new_held n k (suc dealt)) × AreLeft n k next (later_helds m, m.1)
deal_next n k dealt next m its less onward = go its.left its.as_many its.seats
  where
    go : (left : ℕ) → dealt + left ≡ n → m ≡ new_seats n k (suc dealt) left → (m.0 ≡ held m ∷ later_helds m) × (held m ≡ new_held n k (suc dealt)) × AreLeft n k next (later_helds m, m.1)
    go zero many seats = absurd (omega (arith, many, less))
    go (suc left) many seats = subst (λ (x : Mine). (x.0 ≡ held x ∷ later_helds x) × (held x ≡ new_held n k (suc dealt)) × AreLeft n k next (later_helds x, x.1)) (sym seats)
        (refl, refl, subst (λ (z : ℕ). AreLeft n k z (new_seats n k (suc (suc dealt)) left)) onward (record { left = left; as_many = omega (arith, many); seats = refl }))

-- one more post is dealt a seat
pub first_next : (many next : ℕ) (board : BoardView) (posts : List PostView) (post : PostView) → FirstPosts many board posts → post ≡ new_post board (suc many) → suc many ≡ next → FirstPosts next board (posts ++ post ∷ [])
first_next many next board posts post its new onward = record {
  as_many = length_push posts post ∙ omega (arith, its.as_many, onward);
  each = each-push (λ i x. x ≡ new_post board (suc i)) posts post its.each (new ∙ ap (λ i. new_post board (suc i)) (sym its.as_many));
}

pub board_of : (n k : ℕ) (key : Shape) (table : TableId) (number : ℕ) (m : Mine) → held m ≡ new_held n k number → IsBoard n k key table → IsBoard (held m).instances (held m).capacity key table
board_of n k key table number m same board = record {
  instances = board.instances ∙ sym (ap (λ e. e.instances) same);
  capacity = board.capacity ∙ sym (ap (λ e. e.capacity) same);
  words = subst (λ e. table.words ≡ word_count e.instances) (sym same) board.words;
  slots = subst (λ e. table.slots ≡ slot_count e.instances e.capacity) (sym same) board.slots;
}

-- no post yet
pub first_none : (board : BoardView) → FirstPosts 0 board []
first_none board = record { as_many = refl; each = λ i x at. absurd (none_there x at) }
  where
    none_there : (x : PostView) → None ≡ Some x → ⊥
    none_there x never = cc

pub new_seat_is : (n k p q : ℕ) (m r : Mine) → held m ≡ new_held n k p → q ≡ p → ◌≡◌ {A = Mine} r (held m ∷ [], []) → r ≡ new_seat n k q
new_seat_is n k p q m r same number first = subst (λ (z : ℕ). ◌≡◌ {A = Mine} r (new_held n k z ∷ [], [])) (sym number) (subst (λ (e : Held). ◌≡◌ {A = Mine} r (e ∷ [], [])) same first)
