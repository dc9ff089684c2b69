use Rattle.std.proofs.Common.{◌≡◌, ◌+◌, ◌++◌, ◌∷◌, [], List, length, length-append, ap, sym, subst, arith}
use Rattle.std.specs.Global.{Vec}
use Rattle.chart.specs.declared.event.Event.{Event}
use Rattle.board.specs.Parting.{IsForLine, AreForLinesBehind}
use Rattle.board.proofs.RoomsMade.{for_lines_push}
use Rattle.board.proofs.reserving.make_own_events.Goals as goal

pub loop-place-preserved : goal.loop-place-preserved
loop-place-preserved c =
    let inv = c.loop-place.invariant in
    let lists = c.loop-place.lists.items in
    let events = c.in_ok-events.events in
    let post = c.post_of.ensures in
    let pushed : c.push_reserved.new.self.items ≡ lists ++ events ∷ [] = c.push_reserved.ensures.items in
    let here : c.loop-place.place + 1 ≡ 0 + length lists + 1 = omega (arith, inv.many) in
    let many : length c.push_reserved.new.self.items ≡ c.loop-place.place + 1 = omega (arith, ap length pushed, length-append lists (events ∷ []), inv.many) in
    record {
      room = omega (arith, inv.room, c.push_reserved.ensures.capacity);
      many = many;
      lists = λ h joint.
          let its = subst (λ p. IsForLine h p events) post.number (c.in_ok-events.ensures h (joint post.among.0 _ post.among.1)) in
          record {
            as_many = many;
            each = subst (λ (ls : List (Vec Event)). AreForLinesBehind h 0 ls) (sym pushed) (for_lines_push h 0 lists events (inv.lists h joint).each (subst (λ p. IsForLine h p events) here its));
          };
    }
