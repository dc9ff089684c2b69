-- An end that fills or empties the first of its slots, and moves it after the others.
use Rattle.std.proofs.Common.{◌≡◌, ℕ, zero, suc, ◌+◌, ◌<◌, List, [], ◌∷◌, ◌++◌, length, take, drop, refl, sym, ap, ap₂, ◌∙◌, subst, arith, append_assoc, length-append}
use Rattle.std.proofs.lemmas.Bool.{false≢true}
use Rattle.std.specs.Prelude.{Option, Some, None, IfSome, IsSome}
use Rattle.atomic_table.specs.Table.{rest}
use Rattle.chart.specs.Histories.{sent, received}
use Rattle.board_core.specs.Parcels.{Parcel, goods}
use Rattle.board_core.specs.Differences.{zeros}
use Rattle.board_table.specs.declared.packet.Packet.{Packet}
use Rattle.board_table.specs.declared.held.Hold.TheVariants.{Filling, Emptying}
use Rattle.board_table.specs.Layout.{LaneView, slot_of}
use Rattle.board_table.specs.Carrying.{AreCarried, last_clock, vacant_slots, full_slots}
use Rattle.board_table.specs.Knowing.{Mine, held, packets_out, vacant_out, IsFilling, IsEmptying}
use Rattle.board_table.proofs.OutSlots.{filling_slots, emptying_slots, is_filling}
use Rattle.board_table.proofs.Receiving.{is_emptying}
use Rattle.board_table.proofs.SenderSeats.{filling_hold}
use Rattle.board_table.proofs.ReceiverSeats.{emptying_hold}

module _ (n k q p : ℕ) where
  full_push : (c d : ℕ) (xs : List Packet) (x : Packet) → d ≡ c + length xs → full_slots n k q p c xs ++ (slot_of n k q p d, Some x) ∷ [] ≡ full_slots n k q p c (xs ++ x ∷ [])
  full_push c d [] x at = ap (λ i. (slot_of n k q p i, Some x) ∷ []) (let z : d ≡ c = omega (arith, at) in z)
  full_push c d (y ∷ xs) x at = ap (λ zs. (slot_of n k q p c, Some y) ∷ zs) (full_push (suc c) d xs x (omega (arith, at)))

  vacant_push : (c d many : ℕ) → d ≡ c + many → vacant_slots n k q p c many ++ (slot_of n k q p d, None) ∷ [] ≡ vacant_slots n k q p c (suc many)
  vacant_push c d zero at = ap (λ i. (slot_of n k q p i, None) ∷ []) (let z : d ≡ c = omega (arith, at) in z)
  vacant_push c d (suc many) at = ap (λ zs. (slot_of n k q p c, None) ∷ zs) (vacant_push (suc c) d many (omega (arith, at)))

-- what a full slot contains
pub contained : (slot : Option Packet) (P : Packet → Type 0) → IsSome slot → IfSome slot P → (x : Packet) × (slot ≡ Some x) × P x
contained (Some x) P full is = (x, refl, is)
contained None P full is = absurd (false≢true full)

-- the goods after a first one
one_on : (base : List ℕ) (gs : List Parcel) (r : ℕ) (y : Parcel) (ys : List Parcel) → drop r gs ≡ y ∷ ys → (last_clock base (take (suc r) gs) ≡ y.clock) × (drop (suc r) gs ≡ ys)
one_on base [] zero y ys at = absurd (omega (arith, ap length at))
one_on base [] (suc r) y ys at = absurd (omega (arith, ap length at))
one_on base (g ∷ gs) zero y ys at = (ap (last_clock base) (ap (take 1) at), ap (drop 1) at)
one_on base (g ∷ gs) (suc r) y ys at = one_on g.clock gs r y ys at

-- the first slot of a sender is empty
pub first_vacant : (l : LaneView) (me : Mine) (count : ℕ) → IsFilling l me → 0 < vacant_out me → count ≡ length (sent (held me).seen l.sender l.receiver) + length (packets_out me) → me.1 ≡ (slot_of l.instances l.capacity l.sender l.receiver count, None) ∷ rest me.1
first_vacant l me count its some counted = go (vacant_out me) its.slots some
  where
    n : ℕ
    n = l.instances

    go : (v : ℕ) → me.1 ≡ vacant_slots l.instances l.capacity l.sender l.receiver (length (sent (held me).seen l.sender l.receiver) + length (packets_out me)) v ++ full_slots l.instances l.capacity l.sender l.receiver (length (sent (held me).seen l.sender l.receiver)) (packets_out me) → 0 < v
        → me.1 ≡ (slot_of l.instances l.capacity l.sender l.receiver count, None) ∷ rest me.1
    go zero slots some = absurd (omega arith)
    go (suc v) slots some = slots ∙ ap₂ (λ c zs. (slot_of l.instances l.capacity l.sender l.receiver c, None) ∷ zs) (sym counted) (sym (ap rest slots))

-- the sender has filled its first slot
pub fill_first : (l : LaneView) (me new : Mine) (count : ℕ) (x : Packet) → IsFilling l me → 0 < vacant_out me → count ≡ length (sent (held me).seen l.sender l.receiver) + length (packets_out me)
    → new ≡ (me.0, rest me.1 ++ (slot_of l.instances l.capacity l.sender l.receiver count, Some x) ∷ [])
    → (v : ℕ) × (suc v ≡ vacant_out me) × (new ≡ (held me ∷ [], filling_slots l.instances l.capacity l.sender l.receiver (length (sent (held me).seen l.sender l.receiver)) v (packets_out me ++ x ∷ [])))
fill_first l me new count x its some counted is = go (vacant_out me) refl its.slots some
  where
    slot : ℕ × Option Packet
    slot = (slot_of l.instances l.capacity l.sender l.receiver count, Some x)

    go : (v : ℕ) → v ≡ vacant_out me → me.1 ≡ vacant_slots l.instances l.capacity l.sender l.receiver (length (sent (held me).seen l.sender l.receiver) + length (packets_out me)) v ++ full_slots l.instances l.capacity l.sender l.receiver (length (sent (held me).seen l.sender l.receiver)) (packets_out me) → 0 < v
        → (v : ℕ) × (suc v ≡ vacant_out me) × (new ≡ (held me ∷ [], filling_slots l.instances l.capacity l.sender l.receiver (length (sent (held me).seen l.sender l.receiver)) v (packets_out me ++ x ∷ [])))
    go zero same slots some = absurd (omega arith)
    go (suc v) same slots some =
        let n = l.instances in let k = l.capacity in let q = l.sender in let p = l.receiver in
        let m : ℕ = length (sent (held me).seen q p) in let xs = packets_out me in
        let empties : List (ℕ × Option Packet) = vacant_slots n k q p (suc (m + length xs)) v in
        let filled : List (ℕ × Option Packet) = full_slots n k q p m xs in
        let all : rest me.1 ++ (slot_of n k q p count, Some x) ∷ [] ≡ filling_slots n k q p m v (xs ++ x ∷ []) =
        ap (λ zs. zs ++ (slot_of n k q p count, Some x) ∷ []) (ap rest slots) ∙ append_assoc empties filled ((slot_of n k q p count, Some x) ∷ [])
        ∙ ap₂ (λ c zs. vacant_slots n k q p c v ++ zs) (let z : suc (m + length xs) ≡ m + length (xs ++ x ∷ []) = omega (arith, length-append xs (x ∷ [])) in z) (full_push n k q p m count xs x counted) in
        (v, same, is ∙ (λ t. (its.post.alone t, all t)))

pub filled_is : (l : LaneView) (me new : Mine) (x : Packet) (v : ℕ) → IsFilling l me → suc v ≡ vacant_out me → new ≡ (held me ∷ [], filling_slots l.instances l.capacity l.sender l.receiver (length (sent (held me).seen l.sender l.receiver)) v (packets_out me ++ x ∷ [])) → IsFilling l new
filled_is l me new x v its one is =
    subst (IsFilling l) (sym is) (is_filling l (held me) v (packets_out me ++ x ∷ []) (record { alone = refl; instances = its.post.instances; capacity = its.post.capacity; number = its.post.number })
    (filling_hold l me its ∙ ap (Filling l.receiver) (let z : vacant_out me + length (packets_out me) ≡ v + length (packets_out me ++ x ∷ []) = omega (arith, one, length-append (packets_out me) (x ∷ [])) in z)))

-- the first slot of a receiver has its first packet
pub first_full : (l : LaneView) (me : Mine) (count : ℕ) → IsEmptying l me → 0 < length (packets_out me) → count ≡ received (held me).seen l.sender l.receiver + vacant_out me
    → (x : Packet) × (xs : List Packet) × (packets_out me ≡ x ∷ xs) × (me.1 ≡ (slot_of l.instances l.capacity l.sender l.receiver count, Some x) ∷ rest me.1)
first_full l me count its some counted = go (packets_out me) refl its.slots
  where
    go : (ys : List Packet) → packets_out me ≡ ys → me.1 ≡ full_slots l.instances l.capacity l.sender l.receiver (received (held me).seen l.sender l.receiver + vacant_out me) ys ++ vacant_slots l.instances l.capacity l.sender l.receiver (received (held me).seen l.sender l.receiver) (vacant_out me)
        → (x : Packet) × (xs : List Packet) × (packets_out me ≡ x ∷ xs) × (me.1 ≡ (slot_of l.instances l.capacity l.sender l.receiver count, Some x) ∷ rest me.1)
    go [] none slots = absurd (omega (arith, some, ap length none))
    go (x ∷ xs) same slots = (x, xs, same, slots ∙ ap₂ (λ c zs. (slot_of l.instances l.capacity l.sender l.receiver c, Some x) ∷ zs) (sym counted) (sym (ap rest slots)))

-- the receiver has taken the first packet out
pub take_first : (l : LaneView) (me new : Mine) (count : ℕ) (x : Packet) (xs : List Packet) → IsEmptying l me → packets_out me ≡ x ∷ xs → count ≡ received (held me).seen l.sender l.receiver + vacant_out me
    → new ≡ (me.0, rest me.1 ++ (slot_of l.instances l.capacity l.sender l.receiver count, None) ∷ [])
    → new ≡ (held me ∷ [], emptying_slots l.instances l.capacity l.sender l.receiver (received (held me).seen l.sender l.receiver) (suc (vacant_out me)) xs)
take_first l me new count x xs its same counted is =
    let n = l.instances in let k = l.capacity in let q = l.sender in let p = l.receiver in
    let m : ℕ = received (held me).seen q p in let j = vacant_out me in
    let slots : me.1 ≡ full_slots n k q p (m + j) (x ∷ xs) ++ vacant_slots n k q p m j = its.slots ∙ ap (λ ys. full_slots n k q p (m + j) ys ++ vacant_slots n k q p m j) same in
    let filled : List (ℕ × Option Packet) = full_slots n k q p (suc (m + j)) xs in
    let all : rest me.1 ++ (slot_of n k q p count, None) ∷ [] ≡ emptying_slots n k q p m (suc j) xs =
    ap (λ zs. zs ++ (slot_of n k q p count, None) ∷ []) (ap rest slots) ∙ append_assoc filled (vacant_slots n k q p m j) ((slot_of n k q p count, None) ∷ [])
    ∙ ap₂ (λ c zs. full_slots n k q p c xs ++ zs) (let z : suc (m + j) ≡ m + suc j = omega arith in z) (vacant_push n k q p m count j counted) in
    is ∙ (λ t. (its.post.alone t, all t))

pub taken_is : (l : LaneView) (me new : Mine) (x : Packet) (xs : List Packet) → IsEmptying l me → packets_out me ≡ x ∷ xs
    → new ≡ (held me ∷ [], emptying_slots l.instances l.capacity l.sender l.receiver (received (held me).seen l.sender l.receiver) (suc (vacant_out me)) xs) → IsEmptying l new
taken_is l me new x xs its same is = subst (IsEmptying l) (sym is) (go (drop (received (held me).seen l.sender l.receiver + vacant_out me) (goods l.instances (held me).seen l.sender l.receiver)) refl)
  where
    m : ℕ
    m = received (held me).seen l.sender l.receiver

    gs : List Parcel
    gs = goods l.instances (held me).seen l.sender l.receiver

    carried : AreCarried (last_clock (zeros l.instances) (take (received (held me).seen l.sender l.receiver + vacant_out me) (goods l.instances (held me).seen l.sender l.receiver))) (x ∷ xs) (drop (received (held me).seen l.sender l.receiver + vacant_out me) (goods l.instances (held me).seen l.sender l.receiver))
    carried = subst (λ ys. AreCarried (last_clock (zeros l.instances) (take (received (held me).seen l.sender l.receiver + vacant_out me) (goods l.instances (held me).seen l.sender l.receiver))) ys (drop (received (held me).seen l.sender l.receiver + vacant_out me) (goods l.instances (held me).seen l.sender l.receiver))) same its.carried

    go : (ys : List Parcel) → drop (received (held me).seen l.sender l.receiver + vacant_out me) (goods l.instances (held me).seen l.sender l.receiver) ≡ ys → IsEmptying l (held me ∷ [], emptying_slots l.instances l.capacity l.sender l.receiver (received (held me).seen l.sender l.receiver) (suc (vacant_out me)) xs)
    go [] none = absurd (subst (λ ys. AreCarried (last_clock (zeros l.instances) (take (received (held me).seen l.sender l.receiver + vacant_out me) (goods l.instances (held me).seen l.sender l.receiver))) (x ∷ xs) ys) none carried)
    go (y ∷ ys) first =
        let h = (held me).seen in let j = vacant_out me in let i : ℕ = received h l.sender l.receiver + vacant_out me in let all = goods l.instances h l.sender l.receiver in
        let onward = one_on (zeros l.instances) all i y ys first in
        let rest_carried : AreCarried y.clock xs ys = (subst (λ zs. AreCarried (last_clock (zeros l.instances) (take i all)) (x ∷ xs) zs) first carried).1 in
        let next : suc i ≡ received h l.sender l.receiver + suc j = omega arith in
        is_emptying l (held me) (suc j) xs (record { alone = refl; instances = its.post.instances; capacity = its.post.capacity; number = its.post.number })
        (emptying_hold l me its ∙ ap (Emptying l.sender) (let z : j + length (packets_out me) ≡ suc j + length xs = omega (arith, ap length same) in z))
        (let w = its.waiting in omega (arith, w, ap length same))
        (subst (λ c. AreCarried (last_clock (zeros l.instances) (take c all)) xs (drop c all)) next (subst (λ c. AreCarried c xs (drop (suc i) all)) (sym onward.0) (subst (λ zs. AreCarried y.clock xs zs) (sym onward.1) rest_carried)))
