-- Messages of a lane, found by its receiver.
use Rattle.std.proofs.Common.{◌≡◌, ◌≢◌, ℕ, ◌/◌, ◌%◌, ◌<◌, ◌≤◌, Bool, true, false, List, [], ◌∷◌, length, refl, sym, ◌∙◌, subst, arith}
use Rattle.chart.specs.Histories.{own, sent, waiting, is_closed, IsLegal}
use Rattle.chart.proofs.Histories.{sent_begins-le}
use Rattle.board_table.specs.Layout.{LaneView}
use Rattle.board_table.specs.Rule.{closed_bit}
use Rattle.board_table.specs.Knowing.{Mine, held, Rests, Sees}
use Rattle.board_table.specs.Plays.{PutsBack, Finds, FindsAnew}
use Rattle.board.specs.declared.ends.Incoming.{Incoming}
use Rattle.board.specs.Known.{IsIncoming}
use Rattle.board.specs.Found.{HasMessages, HasNone}
use Rattle.board.proofs.EndLemmas.{incoming_later}
use Rattle.board.proofs.DidLemmas.{waiting_many}
use Rattle.board.proofs.Claiming.{rests_back}

pub nil_of : {X : Type 0} (xs : List X) → length xs ≡ 0 → xs ≡ []
nil_of [] e = refl
nil_of (x ∷ xs) e = absurd (omega (arith, e))

pub bit_small : (b : Bool) → closed_bit b ≤ 1
bit_small true = omega arith
bit_small false = omega arith

pub is_set : (b : Bool) → closed_bit b ≡ 1 → b ≡ true
is_set true e = refl
is_set false e = absurd (omega (arith, e))

pub is_clear : (b : Bool) → closed_bit b ≢ 1 → b ≡ false
is_clear true ne = absurd (ne refl)
is_clear false ne = refl

module _ (l : LaneView) (m w : Mine) (o : Incoming) (legal : IsLegal l.instances l.capacity (held m).seen) (its : own (held m).seen l.receiver ≡ (held m).made) (rests : Rests l.instances l.capacity l.receiver m) (end : IsIncoming l.instances (held m).seen l.receiver l.sender o) where
  same : Sees l.instances l.capacity (held m) (held w) → own (held w).seen l.receiver ≡ own (held m).seen l.receiver
  same sees = subst (λ x. own (held w).seen x ≡ (held w).made) (sees.same.number ∙ rests.post.number) sees.own ∙ sees.made ∙ sym its

  pub kept_end : Finds l m w → IsIncoming l.instances (held w).seen l.receiver l.sender o
  kept_end finds = incoming_later l.instances l.capacity (held m).seen (held w).seen l.receiver l.sender o legal finds.sees.later (same finds.sees) end

  pub messages_again : Finds l m w → o.taken < o.known_put → HasMessages l w
  messages_again finds more =
      let kept = kept_end finds in
      record { emptying = finds.emptying; untaken = finds.nothing_emptied; some = omega (arith, finds.all_waiting, kept.taken, kept.known) }

  module _ (word : ℕ) (anew : FindsAnew l m word w) where
    put_is : word / 2 ≡ length (sent (held w).seen l.sender l.receiver)
    put_is = let small = bit_small (is_closed (held w).seen l.sender l.receiver) in omega (arith, anew.found)

    bit_is : word % 2 ≡ closed_bit (is_closed (held w).seen l.sender l.receiver)
    bit_is = let small = bit_small (is_closed (held w).seen l.sender l.receiver) in omega (arith, anew.found)

    pub fresh_end : IsIncoming l.instances (held w).seen l.receiver l.sender (record o { known_put = word / 2 })
    fresh_end = let kept = kept_end anew.finds in record { taken = kept.taken; known = omega (arith, put_is); base = kept.base; long = kept.long }

    pub messages_anew : o.taken < word / 2 → HasMessages l w
    messages_anew more =
        let kept = kept_end anew.finds in
        record { emptying = anew.finds.emptying; untaken = anew.finds.nothing_emptied; some = omega (arith, anew.finds.all_waiting, kept.taken, put_is) }

    none : (v : Mine) (b : Bool) → PutsBack w v → word / 2 ≤ o.taken → is_closed (held w).seen l.sender l.receiver ≡ b → HasNone l b m v
    none v b back less closed =
        let kept = kept_end anew.finds in
        let now = waiting_many l.instances l.capacity (held w).seen l.sender l.receiver anew.finds.sees.legal in
        let then_ = waiting_many l.instances l.capacity (held m).seen l.sender l.receiver legal in
        let more = sent_begins-le (held m).seen (held w).seen anew.finds.sees.later l.sender l.receiver in
        let empty : waiting (held w).seen l.sender l.receiver ≡ [] = nil_of (waiting (held w).seen l.sender l.receiver) (omega (arith, now, put_is, kept.taken)) in
        record {
          rests = rests_back l.instances l.capacity l.receiver w v anew.finds.emptying.post back;
          waits = subst (λ (x : Mine). waiting (held x).seen l.sender l.receiver ≡ []) (sym back) empty;
          closed = subst (λ (x : Mine). is_closed (held x).seen l.sender l.receiver ≡ b) (sym back) closed;
          before = nil_of (waiting (held m).seen l.sender l.receiver) (omega (arith, then_, more, put_is, kept.taken, end.taken));
          looked = subst (λ (x : Mine). (held m).looks < (held x).looks) (sym back) (omega (arith, anew.looks));
        }

    pub ended : (v : Mine) → PutsBack w v → word / 2 ≤ o.taken → word % 2 ≡ 1 → HasNone l true m v
    ended v back less odd = none v true back less (is_set (is_closed (held w).seen l.sender l.receiver) (omega (arith, bit_is)))

    pub nothing : (v : Mine) → PutsBack w v → word / 2 ≤ o.taken → word % 2 ≢ 1 → HasNone l false m v
    nothing v back less even = none v false back less (is_clear (is_closed (held w).seen l.sender l.receiver) (λ e. even (omega (arith, bit_is))))

  -- the end stays the same when the slots are back
  pub back_end : (v : Mine) (u : Incoming) → PutsBack w v → IsIncoming l.instances (held w).seen l.receiver l.sender u → IsIncoming l.instances (held v).seen l.receiver l.sender u
  back_end v u back old = subst (λ (x : Mine). IsIncoming l.instances (held x).seen l.receiver l.sender u) (sym back) old
