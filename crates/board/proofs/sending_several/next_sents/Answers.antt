use Rattle.std.proofs.Common.{◌≡◌, ◌+◌, ◌∙◌, ℕ, List, [], ◌∷◌, ◌++◌, length, map, sym, ap, ap₂, arith}
use Rattle.std.proofs.lemmas.List.{map-append}
use Rattle.chart.specs.declared.instance.EventNo.{EventNo}
use Rattle.board.specs.declared.answer.Sent.{Sent}
use Rattle.board.proofs.Preparing.{numbered_next}
use Rattle.board.proofs.sending_several.next_sents.Goals as goal

pub loop-place-preserved : goal.loop-place-preserved
loop-place-preserved c =
    let its = c.loop-place.invariant in
    let place = c.loop-place.place in
    let line = c.args.line.now.line in
    let event : EventNo = record { instance = c.instance.result; index = c.len.result + place + 1 } in
    let index : c.len.result + place + 1 ≡ length line.events + 1 + place = omega (arith, c.len.ensures.value) in
    let same : event ≡ record { instance = line.instance; index = length line.events + 1 + place } = ap₂ (λ (p i : ℕ). record { instance = p; index = i }) c.instance.ensures index in
    let items : map (λ (sent : Sent). sent.event) c.push_reserved.new.self.items ≡ map (λ (sent : Sent). sent.event) c.loop-place.sents.items ++ event ∷ [] = ap (map (λ (sent : Sent). sent.event)) c.push_reserved.ensures.items ∙ map-append (λ (sent : Sent). sent.event) c.loop-place.sents.items (record { event = event } ∷ []) in (
      items ∙ ap₂ (λ (es : List EventNo) (e : EventNo). es ++ e ∷ []) its.0 same ∙ sym (numbered_next line.instance (length line.events + 1) place (place + 1) c.args.messages.now (omega arith) (omega arith)),
      omega (arith, c.push_reserved.ensures.len, its.1),
      omega (arith, c.push_reserved.ensures.capacity, its.2),
    )
