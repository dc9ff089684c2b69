-- The steps of a sender, by the state of its seat.
use Rattle.std.proofs.Common.{◌≡◌, ℕ, ◌+◌, ◌*◌, ◌≤◌, false, List, [], ◌∷◌, length, sym, ap, ◌∙◌, subst}
use Rattle.std.specs.Prelude.{Option, slice_index}
use Rattle.atomic_table.specs.Table.{Allows}
use Rattle.chart.specs.Histories.{sent, received, is_closed, chart_of, AreTwo}
use Rattle.chart.specs.declared.line.TheConstants.{MAX_EVENTS}
use Rattle.board_table.specs.declared.packet.Packet.{Packet}
use Rattle.board_table.specs.declared.held.Hold.TheVariants.{Filling}
use Rattle.board_table.specs.Layout.{LaneView, put_word, taken_word}
use Rattle.board_table.specs.Carrying.{AreNext, sent_base}
use Rattle.board_table.specs.Knowing.{Mine, held, packets_out, vacant_out, Rests, IsFilling}
use Rattle.board_table.specs.Rule.{Kept}
use Rattle.board_table.specs.Plays.{ClaimsAnew, ClaimsAgain, Publishes, Closes, PutsBack}
use Rattle.board_table.proofs.OutSlots.{filling_slots, filling_many}
use Rattle.board_table.proofs.Sending.{claims, publishes, puts_back, closes}

-- a fact about the table's size, and about the lane that a call has picked
pub sized : (F : LaneView → ℕ → ℕ → Type 0) (l v : LaneView) (n k : ℕ) → l ≡ v → n ≡ l.instances → k ≡ l.capacity → F l l.instances l.capacity → F v n k
sized F l v n k same instances capacity f = subst (λ z. F z n k) same (subst (λ z. F l z k) (sym instances) (subst (λ z. F l l.instances z) (sym capacity) f))

pub resting_seat : (n k p : ℕ) (me : Mine) → Rests n k p me → ◌≡◌ {A = Mine} me (held me ∷ [], [])
resting_seat n k p me rests = λ t. (rests.post.alone t, rests.slots t)

-- the slots that are out with a sender
abbrev slots_of : LaneView → Mine → List (ℕ × Option Packet)
slots_of l me = filling_slots l.instances l.capacity l.sender l.receiver (length (sent (held me).seen l.sender l.receiver)) (vacant_out me) (packets_out me)

pub filling_seat : (l : LaneView) (me : Mine) → IsFilling l me → ◌≡◌ {A = Mine} me (held me ∷ [], slots_of l me)
filling_seat l me its = λ t. (its.post.alone t, its.slots t)

pub filling_hold : (l : LaneView) (me : Mine) → IsFilling l me → (held me).hold ≡ Filling l.receiver (vacant_out me + length (packets_out me))
filling_hold l me its = its.hold ∙ ap (λ i. Filling l.receiver i) (ap length its.slots ∙ filling_many l.instances l.capacity l.sender l.receiver (length (sent (held me).seen l.sender l.receiver)) (vacant_out me) (packets_out me))

module _ (l : LaneView) (two : AreTwo l.instances l.sender l.receiver) (some_place : 1 ≤ l.capacity) (slots id i : ℕ) (me : Mine) where
  pub claim_anew : i ≡ taken_word l.instances l.sender l.receiver → Rests l.instances l.capacity l.sender me → Allows (Kept l.instances l.capacity) slots id me i (λ x. x) (λ x w. ClaimsAnew l me x w)
  claim_anew word rests =
      let e = held me in
      subst (λ m. Allows (Kept l.instances l.capacity) slots id m i (λ x. x) (λ x w. ClaimsAnew l m x w)) (sym (resting_seat l.instances l.capacity l.sender me rests))
      (claims l.instances l.capacity l.sender l.receiver two some_place slots id i e (e.looks + 1) (λ x w. ClaimsAnew l (e ∷ [], []) x w) rests.post.instances rests.post.capacity rests.post.number rests.hold
      (λ s r w its seen looks. record { claims = its; found = ap (slice_index s.words) word ∙ (r.lanes l.sender l.receiver two).taken_is ∙ ap (λ h. received h l.sender l.receiver) (sym seen); looks = looks }))

  pub claim_again : Rests l.instances l.capacity l.sender me → Allows (Kept l.instances l.capacity) slots id me i (λ x. x) (λ x w. ClaimsAgain l me w)
  claim_again rests =
      let e = held me in
      subst (λ m. Allows (Kept l.instances l.capacity) slots id m i (λ x. x) (λ x w. ClaimsAgain l m w)) (sym (resting_seat l.instances l.capacity l.sender me rests))
      (claims l.instances l.capacity l.sender l.receiver two some_place slots id i e e.looks (λ x w. ClaimsAgain l (e ∷ [], []) w) rests.post.instances rests.post.capacity rests.post.number rests.hold
      (λ s r w its seen looks. record { claims = its; looks = looks }))

  pub publish : (count : ℕ) → i ≡ put_word l.instances l.sender l.receiver → IsFilling l me → count ≡ length (sent (held me).seen l.sender l.receiver) + length (packets_out me) → is_closed (held me).seen l.sender l.receiver ≡ false
      → length (chart_of (held me).seen l.sender) + length (packets_out me) ≤ MAX_EVENTS → AreNext l.instances (sent_base l.instances (held me).seen l.sender l.receiver) (held me).seen l.sender l.receiver (packets_out me)
      → Allows (Kept l.instances l.capacity) slots id me i (λ x. 2 * count) (λ x w. Publishes l me w)
  publish count word its counted unclosed short next =
      subst (λ j. Allows (Kept l.instances l.capacity) slots id me j (λ x. 2 * count) (λ x w. Publishes l me w)) (sym word)
      (subst (λ m. Allows (Kept l.instances l.capacity) slots id m (put_word l.instances l.sender l.receiver) (λ x. 2 * count) (λ x w. Publishes l m w)) (sym (filling_seat l me its))
      (publishes l.instances l.capacity l.sender l.receiver two some_place slots id count (held me) (vacant_out me) (packets_out me) its.post.instances its.post.capacity its.post.number (filling_hold l me its) counted unclosed short next))

  pub give_back : IsFilling l me → packets_out me ≡ [] → Allows (Kept l.instances l.capacity) slots id me i (λ x. x) (λ x w. PutsBack me w)
  give_back its none =
      let q = l.sender in
      let m : ℕ = length (sent (held me).seen l.sender l.receiver) in
      let seat : ◌≡◌ {A = Mine} me (held me ∷ [], filling_slots l.instances l.capacity l.sender l.receiver m (vacant_out me) []) = filling_seat l me its ∙ ap (λ xs. (held me ∷ [], filling_slots l.instances l.capacity l.sender l.receiver m (vacant_out me) xs)) none in
      subst (λ z. Allows (Kept l.instances l.capacity) slots id z i (λ x. x) (λ x w. PutsBack z w)) (sym seat)
      (puts_back l.instances l.capacity l.sender l.receiver two some_place slots id i (held me) (vacant_out me) its.post.number (filling_hold l me its ∙ ap (λ (xs : List Packet). Filling l.receiver (vacant_out me + length xs)) none))

  pub close : (count : ℕ) → i ≡ put_word l.instances l.sender l.receiver → Rests l.instances l.capacity l.sender me → count ≡ length (sent (held me).seen l.sender l.receiver) → is_closed (held me).seen l.sender l.receiver ≡ false
      → Allows (Kept l.instances l.capacity) slots id me i (λ x. 2 * count + 1) (λ x w. Closes l me w)
  close count word rests counted unclosed =
      subst (λ j. Allows (Kept l.instances l.capacity) slots id me j (λ x. 2 * count + 1) (λ x w. Closes l me w)) (sym word)
      (subst (λ m. Allows (Kept l.instances l.capacity) slots id m (put_word l.instances l.sender l.receiver) (λ x. 2 * count + 1) (λ x w. Closes l m w)) (sym (resting_seat l.instances l.capacity l.sender me rests))
      (closes l.instances l.capacity l.sender l.receiver two some_place slots id count (held me) rests.post.instances rests.post.capacity rests.post.number rests.hold counted unclosed))
