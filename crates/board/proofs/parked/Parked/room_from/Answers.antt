use Rattle.std.proofs.Common.{◌≡◌, ◌≢◌, ◌≤◌, vec_capacity, refl, sym, ap, ◌∙◌, subst, arith}
use Rattle.board_table.specs.Knowing.{held}
use Rattle.board.specs.declared.parting.Room.{Room}
use Rattle.board.specs.Known.{IsOutgoing}
use Rattle.board.specs.Views.{PostView}
use Rattle.board.specs.Meeting.{IsJoint}
use Rattle.board.specs.Parting.{IsRoom}
use Rattle.board.proofs.RoomsMade.{room_is}
use Rattle.board.proofs.SendAnswers.{outgoing_at}
use Rattle.board.proofs.ReceiveAnswers.{incoming_at}
use Rattle.board.proofs.parked.Parked.room_from.Goals as goal

pub returns : goal.returns
returns c = λ h joint theirs.
    let me = c.self.inside in
    let them = c.sender.inside in
    let mine = c.self.invariant in
    let its = c.sender.invariant in
    let one = subst (IsJoint h) (sym c.self.view_is) joint in
    let other = subst (IsJoint h) (sym c.sender.view_is) theirs in
    let boards = ap (λ (post : PostView). post.board) c.sender.view_is ∙ c.requires.board ∙ sym (ap (λ (post : PostView). post.board) c.self.view_is) in
    let size : them.shape.instances ≡ me.shape.instances = ap (λ b. b.size) boards in
    let ne : me.number ≢ them.number = λ same. c.requires.not_itself (sym (ap (λ (post : PostView). post.number) c.sender.view_is) ∙ sym same ∙ ap (λ (post : PostView). post.number) c.self.view_is) in
    let out = outgoing_at _ _ _ _ _ _ _ _ its me.number c.place.result c.index.result.now c.place.ensures.value ne (omega (arith, mine.most, size)) c.index.ensures in
    let into = incoming_at _ _ _ _ _ _ _ _ mine them.number c.place-2.result c.index-2.result.now c.place-2.ensures.value (λ same. ne (sym same)) (omega (arith, its.most, size)) c.index-2.ensures in
    let room : Room = record { lane = c.new.result; sender = them.number; receiver = me.number; taken = c.index-2.result.now.taken; many = c.saturating_sub-many.result; messages = c.in_ok-with_capacity.field-0 } in
    let enough : c.saturating_sub-many.result ≤ vec_capacity c.in_ok-with_capacity.field-0 = omega (arith, c.in_ok-with_capacity.ensures.exact) in
    subst (λ (post : PostView). IsRoom h post.board.size post.board.capacity c.args.sender.now.number post.number room) c.self.view_is
    (subst (λ (post : PostView). IsRoom h me.shape.instances me.shape.capacity post.number me.number room) c.sender.view_is
    (room_is me.shape.instances me.shape.capacity them.number me.number (held them.seat.me).seen (held me.seat.me).seen h c.index.result.now c.index-2.result.now room one.legal
    (its.least, omega (arith, its.most, size), mine.least, mine.most, λ same. ne (sym same)) (other.own ∙ sym its.made) (one.own ∙ sym mine.made)
    (subst (λ n. IsOutgoing n (held them.seat.me).seen them.number me.number c.index.result.now) size out) into c.new.ensures refl refl refl c.saturating_sub-many.ensures c.in_ok-with_capacity.ensures.items enough))
