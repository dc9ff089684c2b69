-- The steps of a receiver, by the state of its seat.
use Rattle.std.proofs.Common.{◌≡◌, ℕ, ◌+◌, ◌*◌, ◌≤◌, List, [], ◌∷◌, length, take, drop, sym, ap, ◌∙◌, subst}
use Rattle.std.specs.Prelude.{Option, slice_index}
use Rattle.atomic_table.specs.Table.{Allows}
use Rattle.chart.specs.Events.{MayHaveRegion}
use Rattle.chart.specs.Histories.{sent, received, is_closed, chart_of, AreTwo}
use Rattle.chart.specs.declared.line.TheConstants.{MAX_EVENTS}
use Rattle.board_core.specs.Parcels.{goods}
use Rattle.board_core.specs.Differences.{zeros}
use Rattle.board_table.specs.declared.packet.Packet.{Packet}
use Rattle.board_table.specs.declared.held.Hold.TheVariants.{Emptying}
use Rattle.board_table.specs.Layout.{LaneView, put_word, taken_word}
use Rattle.board_table.specs.Carrying.{AreCarried, last_clock}
use Rattle.board_table.specs.Knowing.{Mine, held, packets_out, vacant_out, Rests, IsEmptying}
use Rattle.board_table.specs.Rule.{closed_bit, Kept}
use Rattle.board_table.specs.Plays.{FindsAnew, FindsAgain, LooksAt, Frees, PutsBack}
use Rattle.board_table.proofs.Carried.{carried_many}
use Rattle.board_table.proofs.OutSlots.{emptying_slots, emptying_many}
use Rattle.board_table.proofs.Receiving.{looks_at, finds, frees, puts_back}
use Rattle.board_table.proofs.SenderSeats.{resting_seat}
use Rattle.board_core.proofs.GoodsLemmas.{goods_many}

-- the slots that are out with a receiver
abbrev slots_of : LaneView → Mine → List (ℕ × Option Packet)
slots_of l me = emptying_slots l.instances l.capacity l.sender l.receiver (received (held me).seen l.sender l.receiver) (vacant_out me) (packets_out me)

pub emptying_seat : (l : LaneView) (me : Mine) → IsEmptying l me → ◌≡◌ {A = Mine} me (held me ∷ [], slots_of l me)
emptying_seat l me its = λ t. (its.post.alone t, its.slots t)

pub emptying_hold : (l : LaneView) (me : Mine) → IsEmptying l me → (held me).hold ≡ Emptying l.sender (vacant_out me + length (packets_out me))
emptying_hold l me its = its.hold ∙ ap (λ i. Emptying l.sender i) (ap length its.slots ∙ emptying_many l.instances l.capacity l.sender l.receiver (received (held me).seen l.sender l.receiver) (vacant_out me) (packets_out me))

module _ (l : LaneView) (two : AreTwo l.instances l.sender l.receiver) (some_place : 1 ≤ l.capacity) (slots id i : ℕ) (me : Mine) where
  pub find_anew : i ≡ put_word l.instances l.sender l.receiver → Rests l.instances l.capacity l.receiver me → Allows (Kept l.instances l.capacity) slots id me i (λ x. x) (λ x w. FindsAnew l me x w)
  find_anew word rests =
      let e = held me in
      let n = l.instances in let q = l.sender in let p = l.receiver in
      subst (λ m. Allows (Kept l.instances l.capacity) slots id m i (λ x. x) (λ x w. FindsAnew l m x w)) (sym (resting_seat l.instances l.capacity l.receiver me rests))
      (finds l.instances l.capacity l.sender l.receiver two some_place slots id i e (e.looks + 1) (λ x w. FindsAnew l (e ∷ [], []) x w) rests.post.instances rests.post.capacity rests.post.number rests.hold
      (λ s r w its seen looks. record {
        finds = its;
        found = ap (slice_index s.words) word ∙ (r.lanes q p two).put_is
            ∙ ap (λ (many : ℕ). 2 * many + closed_bit (is_closed r.log q p)) (carried_many (zeros n) (r.packets q p) (goods n r.log q p) (r.lanes q p two).carried ∙ goods_many n r.log q p)
            ∙ ap (λ h. 2 * length (sent h q p) + closed_bit (is_closed h q p)) (sym seen);
        looks = looks;
      }))

  pub look : i ≡ put_word l.instances l.sender l.receiver → Rests l.instances l.capacity l.receiver me → Allows (Kept l.instances l.capacity) slots id me i (λ x. x) (λ x w. LooksAt l me x w)
  look word rests =
      subst (λ m. Allows (Kept l.instances l.capacity) slots id m i (λ x. x) (λ x w. LooksAt l m x w)) (sym (resting_seat l.instances l.capacity l.receiver me rests))
      (looks_at l.instances l.capacity l.sender l.receiver two some_place slots id i (held me) rests.post.instances rests.post.capacity rests.post.number rests.hold word)

  pub find_again : Rests l.instances l.capacity l.receiver me → Allows (Kept l.instances l.capacity) slots id me i (λ x. x) (λ x w. FindsAgain l me w)
  find_again rests =
      let e = held me in
      subst (λ m. Allows (Kept l.instances l.capacity) slots id m i (λ x. x) (λ x w. FindsAgain l m w)) (sym (resting_seat l.instances l.capacity l.receiver me rests))
      (finds l.instances l.capacity l.sender l.receiver two some_place slots id i e e.looks (λ x w. FindsAgain l (e ∷ [], []) w) rests.post.instances rests.post.capacity rests.post.number rests.hold
      (λ s r w its seen looks. record { finds = its; looks = looks }))

  pub free : (count region : ℕ) → i ≡ taken_word l.instances l.sender l.receiver → IsEmptying l me → count ≡ received (held me).seen l.sender l.receiver + vacant_out me → length (chart_of (held me).seen l.receiver) + vacant_out me ≤ MAX_EVENTS → MayHaveRegion (chart_of (held me).seen l.receiver) region
      → Allows (Kept l.instances l.capacity) slots id me i (λ x. count) (λ x w. Frees l region me w)
  free count region word its counted short may =
      subst (λ j. Allows (Kept l.instances l.capacity) slots id me j (λ x. count) (λ x w. Frees l region me w)) (sym word)
      (subst (λ m. Allows (Kept l.instances l.capacity) slots id m (taken_word l.instances l.sender l.receiver) (λ x. count) (λ x w. Frees l region m w)) (sym (emptying_seat l me its))
      (frees l.instances l.capacity l.sender l.receiver two some_place slots id count region (held me) (vacant_out me) (packets_out me) its.post.instances its.post.capacity its.post.number (emptying_hold l me its) counted short may its.waiting its.carried))

  pub give_back : IsEmptying l me → vacant_out me ≡ 0 → Allows (Kept l.instances l.capacity) slots id me i (λ x. x) (λ x w. PutsBack me w)
  give_back its none =
      let n = l.instances in let k = l.capacity in let q = l.sender in let p = l.receiver in
      let e = held me in
      let m : ℕ = received e.seen q p in
      let gs = goods n e.seen q p in
      let xs = packets_out me in
      let seat : ◌≡◌ {A = Mine} me (e ∷ [], emptying_slots n k q p m 0 xs) = emptying_seat l me its ∙ ap (λ many. (e ∷ [], emptying_slots n k q p m many xs)) none in
      subst (λ z. Allows (Kept n k) slots id z i (λ x. x) (λ x w. PutsBack z w)) (sym seat)
      (puts_back n k q p two some_place slots id i e xs its.post.number (emptying_hold l me its ∙ ap (λ (many : ℕ). Emptying q (many + length xs)) none)
      (subst (λ many. m + many + length xs ≡ length (sent e.seen q p)) none its.waiting)
      (subst (λ many. AreCarried (last_clock (zeros n) (take (m + many) gs)) xs (drop (m + many) gs)) none its.carried))
