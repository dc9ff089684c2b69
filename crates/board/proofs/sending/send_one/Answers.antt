use Rattle.std.proofs.Common.{◌≡◌, ℕ, ◌∙◌, ◌+◌, [], ◌∷◌, length, refl, sym, ap, subst, arith}
use Rattle.std.proofs.lemmas.Bool.{false≢true}
use Rattle.clock.specs.Diffs.{AgreeBut}
use Rattle.line_recorder.specs.Recorders.{RecorderView, after_send}
use Rattle.line_recorder.proofs.SendsLemmas.{begun_sent}
use Rattle.line_recorder.specs.Recording.{IsRecorder}
use Rattle.board_table.specs.Knowing.{Mine, held}
use Rattle.board.proofs.OneSend.{known_many, recorder_saw, put_less, line_saw}
use Rattle.board.proofs.SeveralSends.{next_one}
use Rattle.board.proofs.SentAtOnce.{Fills, fills_one, unclosed, short, sender, next, did_send, recorder_sent, end_sent}
use Rattle.board.proofs.sending.send_one.Goals as goal

pub claim_slots-requires-clause-within_limit : goal.claim_slots-requires-clause-within_limit
claim_slots-requires-clause-within_limit c = let less = put_less c.args.lane.now.instances (held c.args.seat.now.me).seen c.args.lane.now.sender c.args.lane.now.receiver c.args.end.now c.requires.may_put.outgoing (omega (arith, c.requires.may_put.short)) in omega arith

pub returns-then-not-claim_slots-clause-recorder : goal.returns-then-not-claim_slots-clause-recorder
returns-then-not-claim_slots-clause-recorder c = recorder_saw c.args.lane.now.instances c.args.lane.now.capacity c.args.lane.now.sender (held c.args.seat.now.me) (held c.claim_slots.new.seat.me) c.requires.may_put.legal c.requires.may_put.own c.claim_slots.ensures.did c.args.recorder.now c.requires.may_put.recorded

pub fill_begun-requires-clause-knows : goal.fill_begun-requires-clause-knows
fill_begun-requires-clause-knows c =
    known_many c.args.lane.now.instances c.args.lane.now.capacity (held c.args.seat.now.me).seen c.args.lane.now.sender c.args.recorder.now c.requires.may_put.legal c.requires.may_put.recorded

pub returns-in-Err-clause-recorder : goal.returns-in-Err-clause-recorder
returns-in-Err-clause-recorder c =
    let back = c.give_back_vacant.ensures.puts_back in
    let saw = recorder_saw c.args.lane.now.instances c.args.lane.now.capacity c.args.lane.now.sender (held c.args.seat.now.me) (held c.claim_slots.new.seat.me) c.requires.may_put.legal c.requires.may_put.own c.claim_slots.ensures.did c.args.recorder.now c.requires.may_put.recorded in
    subst (λ (r : RecorderView). IsRecorder c.args.lane.now.instances (held c.give_back_vacant.new.seat.me).seen c.args.lane.now.sender r) (sym c.in-Err.ensures.recorder_err)
    (subst (λ (x : Mine). IsRecorder c.args.lane.now.instances (held x).seen c.args.lane.now.sender c.args.recorder.now) (sym back)
    (subst (λ (x : Mine). IsRecorder c.args.lane.now.instances (held x).seen c.args.lane.now.sender c.args.recorder.now) (sym c.in-Err.ensures.same) saw))

pub overflow_add-end : goal.overflow_add-end
overflow_add-end c =
    let line = line_saw c.args.lane.now.instances c.args.lane.now.capacity c.args.lane.now.sender (held c.args.seat.now.me) (held c.claim_slots.new.seat.me) c.requires.may_put.legal c.requires.may_put.own c.claim_slots.ensures.did in
    let less = put_less c.args.lane.now.instances (held c.claim_slots.new.seat.me).seen c.args.lane.now.sender c.args.lane.now.receiver c.claim_slots.new.end c.claim_slots.ensures.end (omega (arith, ap length line, c.requires.may_put.short)) in
    omega arith

pub publish-requires-clause-within_limit : goal.publish-requires-clause-within_limit
publish-requires-clause-within_limit c =
    let line = line_saw c.args.lane.now.instances c.args.lane.now.capacity c.args.lane.now.sender (held c.args.seat.now.me) (held c.claim_slots.new.seat.me) c.requires.may_put.legal c.requires.may_put.own c.claim_slots.ensures.did in
    let less = put_less c.args.lane.now.instances (held c.claim_slots.new.seat.me).seen c.args.lane.now.sender c.args.lane.now.receiver c.claim_slots.new.end c.claim_slots.ensures.end (omega (arith, ap length line, c.requires.may_put.short)) in
    omega arith

pub publish-requires-clause-unclosed : goal.publish-requires-clause-unclosed
publish-requires-clause-unclosed c =
    let l = c.args.lane.now in
    let m = c.args.seat.now.me in
    let s = c.claim_slots.new.seat.me in
    let f = c.fill_begun.new.seat.me in
    let r = c.args.recorder.now in
    let u = c.claim_slots.new.end in
    let put = c.in_default.ensures.packet in
    let message = c.args.message in
    let fills : Fills l m s f r u (message ∷ []) (put.0 ∷ []) = fills_one l m s f r c.args.end.now u message put.0 c.requires.may_put c.claim_slots.ensures.did c.claim_slots.ensures.end (c.claim_slots.ensures.yes c.if-not-claim_slots.false) c.in_default.ensures.held put.1 put.2.message in
    unclosed l m s f r u (message ∷ []) (put.0 ∷ []) fills c.requires.may_put.unclosed

pub publish-requires-clause-short : goal.publish-requires-clause-short
publish-requires-clause-short c =
    let l = c.args.lane.now in
    let m = c.args.seat.now.me in
    let s = c.claim_slots.new.seat.me in
    let f = c.fill_begun.new.seat.me in
    let r = c.args.recorder.now in
    let u = c.claim_slots.new.end in
    let put = c.in_default.ensures.packet in
    let message = c.args.message in
    let fills : Fills l m s f r u (message ∷ []) (put.0 ∷ []) = fills_one l m s f r c.args.end.now u message put.0 c.requires.may_put c.claim_slots.ensures.did c.claim_slots.ensures.end (c.claim_slots.ensures.yes c.if-not-claim_slots.false) c.in_default.ensures.held put.1 put.2.message in
    short l m s f r u (message ∷ []) (put.0 ∷ []) fills (omega (arith, c.requires.may_put.short))

pub publish-requires-clause-next : goal.publish-requires-clause-next
publish-requires-clause-next c =
    let l = c.args.lane.now in
    let m = c.args.seat.now.me in
    let s = c.claim_slots.new.seat.me in
    let f = c.fill_begun.new.seat.me in
    let r = c.args.recorder.now in
    let u = c.claim_slots.new.end in
    let put = c.in_default.ensures.packet in
    let message = c.args.message in
    let fills : Fills l m s f r u (message ∷ []) (put.0 ∷ []) = fills_one l m s f r c.args.end.now u message put.0 c.requires.may_put c.claim_slots.ensures.did c.claim_slots.ensures.end (c.claim_slots.ensures.yes c.if-not-claim_slots.false) c.in_default.ensures.held put.1 put.2.message in
    next l m s f r u (message ∷ []) (put.0 ∷ []) fills (next_one l.instances l.sender l.receiver message put.0 u.base (held s).seen r (sender l m s f r u (message ∷ []) (put.0 ∷ []) fills) put.2)

-- the recorder at the end
recorded : (c : goal.After-record_begun) → c.record_begun.new.self ≡ after_send c.args.recorder.now c.args.lane.now.receiver c.args.message.name
recorded c =
    let named = rw (c.name-name.ensures, c.in_default.ensures.recorder) at c.record_begun.ensures in
    named ∙ (begun_sent c.args.recorder.now c.receiver.result c.args.message.name ∙ ap (λ (q : ℕ). after_send c.args.recorder.now q c.args.message.name) c.receiver.ensures.value)

pub returns-clause-recorder : goal.returns-clause-recorder
returns-clause-recorder c =
    let l = c.args.lane.now in
    let m = c.args.seat.now.me in
    let s = c.claim_slots.new.seat.me in
    let f = c.fill_begun.new.seat.me in
    let r = c.args.recorder.now in
    let u = c.claim_slots.new.end in
    let put = c.in_default.ensures.packet in
    let message = c.args.message in
    let fills : Fills l m s f r u (message ∷ []) (put.0 ∷ []) = fills_one l m s f r c.args.end.now u message put.0 c.requires.may_put c.claim_slots.ensures.did c.claim_slots.ensures.end (c.claim_slots.ensures.yes c.if-not-claim_slots.false) c.in_default.ensures.held put.1 put.2.message in
    subst (λ (o : RecorderView). IsRecorder l.instances (held c.publish.new.seat.me).seen l.sender o) (sym (recorded c)) (recorder_sent l m s f r u (message ∷ []) (put.0 ∷ []) fills c.publish.new.seat.me c.publish.ensures.publishes)

pub returns-clause-end : goal.returns-clause-end
returns-clause-end c =
    let l = c.args.lane.now in
    let m = c.args.seat.now.me in
    let s = c.claim_slots.new.seat.me in
    let f = c.fill_begun.new.seat.me in
    let r = c.args.recorder.now in
    let u = c.claim_slots.new.end in
    let put = c.in_default.ensures.packet in
    let message = c.args.message in
    let fills : Fills l m s f r u (message ∷ []) (put.0 ∷ []) = fills_one l m s f r c.args.end.now u message put.0 c.requires.may_put c.claim_slots.ensures.did c.claim_slots.ensures.end (c.claim_slots.ensures.yes c.if-not-claim_slots.false) c.in_default.ensures.held put.1 put.2.message in
    rw c.in_default.ensures.base (end_sent l m s f r u (message ∷ []) (put.0 ∷ []) fills c.publish.new.seat.me c.publish.ensures.publishes (u.put + 1) refl)

pub returns-clause-ok : goal.returns-clause-ok
returns-clause-ok c =
    let l = c.args.lane.now in
    let m = c.args.seat.now.me in
    let s = c.claim_slots.new.seat.me in
    let f = c.fill_begun.new.seat.me in
    let r = c.args.recorder.now in
    let u = c.claim_slots.new.end in
    let put = c.in_default.ensures.packet in
    let message = c.args.message in
    let fills : Fills l m s f r u (message ∷ []) (put.0 ∷ []) = fills_one l m s f r c.args.end.now u message put.0 c.requires.may_put c.claim_slots.ensures.did c.claim_slots.ensures.end (c.claim_slots.ensures.yes c.if-not-claim_slots.false) c.in_default.ensures.held put.1 put.2.message in
    did_send l m s f r u (message ∷ []) (put.0 ∷ []) fills c.publish.new.seat.me c.publish.ensures.publishes

pub returns-in-Err-clause-alone : goal.returns-in-Err-clause-alone
returns-in-Err-clause-alone c = λ room agree memory.
    let own : c.args.recorder.now.line.instance ≡ c.args.lane.now.sender = ap (λ l. l.instance) c.requires.may_put.recorded.line in
    let still : AgreeBut c.args.lane.now.sender c.claim_slots.new.end.base c.args.recorder.now.knowledge = rw c.claim_slots.ensures.base agree in
    false≢true (c.in-Err.ensures.alone room (subst (λ (p : ℕ). AgreeBut p c.claim_slots.new.end.base c.args.recorder.now.knowledge) (sym own) still))
