-- A post's ends of its lanes as the history goes on.
use Rattle.std.proofs.Common.{◌≡◌, ℕ, suc, ◌≤◌, List, ◌∷◌, length, take, replicate, sym, ap, ap₂, ◌∙◌, arith}
use Rattle.std.proofs.lemmas.List.{take-append-le}
use Rattle.chart.specs.declared.history.Occurrence.{Occurrence}
use Rattle.chart.specs.declared.history.Occurrence.TheVariants.{Send, Receive, Close}
use Rattle.chart.specs.Messages.{Content}
use Rattle.chart.specs.Histories.{own, received, IsLegal, Begins}
use Rattle.chart.proofs.Histories.{is_lane-from, is_lane-to, received-le, same_sent, same_received, same_closed, sent_begins-le, received_begins}
use Rattle.board_core.specs.Parcels.{goods}
use Rattle.board_core.proofs.GoodsLemmas.{goods_many, goods_grow}
use Rattle.board_core.proofs.OwnEvents.{same_goods}
use Rattle.board_table.specs.Carrying.{last_clock}
use Rattle.board.specs.Known.{IsOutgoing, IsIncoming, AreEndsBut, AreEnds}
use Rattle.board.specs.declared.ends.Outgoing.{Outgoing}
use Rattle.board.specs.declared.ends.Incoming.{Incoming}

-- An end after an event of others.

pub outgoing_later : (n : ℕ) (h g : List Occurrence) (p q : ℕ) (o : Outgoing) → Begins h g → own g p ≡ own h p → IsOutgoing n h p q o → IsOutgoing n g p q o
outgoing_later n h g p q o begins same old = record {
  put = old.put ∙ ap length (sym (same_sent h g p q same));
  known = let more = received_begins h g begins p q in omega (arith, old.known);
  unsent = old.unsent ∙ sym (same_closed h g p q same);
  base = old.base ∙ ap (λ xs. last_clock (replicate n 0) xs) (sym (same_goods n h g begins p q same));
  long = old.long;
}

pub incoming_later : (n k : ℕ) (h g : List Occurrence) (p q : ℕ) (i : Incoming) → IsLegal n k h → Begins h g → own g p ≡ own h p → IsIncoming n h p q i → IsIncoming n g p q i
incoming_later n k h g p q i legal begins same old =
    let more = goods_grow n h g begins q p in
    let taken = same_received h g q p same in
    let few : received h q p ≤ length (goods n h q p) = omega (arith, goods_many n h q p, received-le n k h legal q p) in
    record {
      taken = old.taken ∙ sym taken;
      known = let longer = sent_begins-le h g begins q p in omega (arith, old.known);
      base = old.base ∙ ap (λ xs. last_clock (replicate n 0) xs) (sym (ap₂ (λ m xs. take m xs) taken more.1 ∙ take-append-le (received h q p) (goods n h q p) more.0 few));
      long = old.long;
    }

module _ (n k : ℕ) (h g : List Occurrence) (p to_one from_one : ℕ) (outgoing : List Outgoing) (incoming : List Incoming) where
  pub ends_later : IsLegal n k h → Begins h g → own g p ≡ own h p → AreEndsBut n h p to_one from_one outgoing incoming → AreEndsBut n g p to_one from_one outgoing incoming
  ends_later legal begins same old = record {
    as_many = old.as_many;
    of_each = old.of_each;
    sends = λ j o ne other at_j. outgoing_later n h g p (suc j) o begins same (old.sends j o ne other at_j);
    takes = λ j i ne other at_j. incoming_later n k h g p (suc j) i legal begins same (old.takes j i ne other at_j);
  }

-- The other ends after an event at one end.

pub ends_sent : (n : ℕ) (h : List Occurrence) (p q from_one : ℕ) (m : Content) (outgoing : List Outgoing) (incoming : List Incoming) → AreEndsBut n h p q from_one outgoing incoming → AreEndsBut n (Send p q m ∷ h) p q from_one outgoing incoming
ends_sent n h p q from_one m outgoing incoming old = record {
  as_many = old.as_many;
  of_each = old.of_each;
  sends = λ j o ne other at_j.
      let its = old.sends j o ne other at_j in
      let e = is_lane-to p q p (suc j) other in
      record { put = rw e its.put; known = its.known; unsent = its.unsent; base = rw e its.base; long = its.long };
  takes = λ j i ne other at_j.
      let its = old.takes j i ne other at_j in
      let e = is_lane-from p q (suc j) p ne in
      record { taken = its.taken; known = rw e its.known; base = rw e its.base; long = its.long };
}

pub ends_received : (n : ℕ) (h : List Occurrence) (p q to_one c : ℕ) (outgoing : List Outgoing) (incoming : List Incoming) → AreEndsBut n h p to_one q outgoing incoming → AreEndsBut n (Receive p q c ∷ h) p to_one q outgoing incoming
ends_received n h p q to_one c outgoing incoming old = record {
  as_many = old.as_many;
  of_each = old.of_each;
  sends = λ j o ne other at_j.
      let its = old.sends j o ne other at_j in
      let e = is_lane-to q p p (suc j) ne in
      record { put = its.put; known = rw e its.known; unsent = its.unsent; base = its.base; long = its.long };
  takes = λ j i ne other at_j.
      let its = old.takes j i ne other at_j in
      let e = is_lane-from q p (suc j) p other in
      record { taken = rw e its.taken; known = its.known; base = rw e its.base; long = its.long };
}

pub ends_closed : (n : ℕ) (h : List Occurrence) (p q from_one : ℕ) (outgoing : List Outgoing) (incoming : List Incoming) → AreEndsBut n h p q from_one outgoing incoming → AreEndsBut n (Close p q ∷ h) p q from_one outgoing incoming
ends_closed n h p q from_one outgoing incoming old = record {
  as_many = old.as_many;
  of_each = old.of_each;
  sends = λ j o ne other at_j.
      let its = old.sends j o ne other at_j in
      let e = is_lane-to p q p (suc j) other in
      record { put = its.put; known = its.known; unsent = rw e its.unsent; base = its.base; long = its.long };
  takes = λ j i ne other at_j.
      let its = old.takes j i ne other at_j in
      record { taken = its.taken; known = its.known; base = its.base; long = its.long };
}

-- All ends are as the history has them, so all but some are too.
pub ends_but : (n : ℕ) (h : List Occurrence) (p to_one from_one : ℕ) (outgoing : List Outgoing) (incoming : List Incoming) → AreEnds n h p outgoing incoming → AreEndsBut n h p to_one from_one outgoing incoming
ends_but n h p to_one from_one outgoing incoming old = record {
  as_many = old.as_many;
  of_each = old.of_each;
  sends = λ j o ne other at_j. old.sends j o ne (λ e. absurd (omega arith)) at_j;
  takes = λ j i ne other at_j. old.takes j i ne (λ e. absurd (omega arith)) at_j;
}
