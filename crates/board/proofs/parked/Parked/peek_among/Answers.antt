use Rattle.std.proofs.Common.{rules, ◌≡◌, ◌≢◌, ℕ, suc, ◌+◌, ◌<◌, ◌≤◌, ◌==◌, ◌&&◌, true, false, ◌∙◌, sym, ap, subst, arith}
use Rattle.board.specs.Views.{PostView}
use Rattle.board.specs.Peeking.{others, ArePeeked, IsFirstWaiting}
use Rattle.board.proofs.Scanning.{and_true, and_false, HasPeeked, sound-onward, own-passed, lanes-passed, none-there, first-there, empty-since, waits-since, stays-since}
use Rattle.board.proofs.parked.Parked.peek_among.Goals as goal
use Rattle.board.proofs.parked.Parked.peek_among.Goals.{in-Nothing, in-Ended}

pub loop-place-preserved-then-place-own : goal.loop-place-preserved-then-place-own
loop-place-preserved-then-place-own c =
    let number : c.self.inside.number ≡ c.args.self.now.number = ap (λ (post : PostView). post.number) c.self.view_is in
    record {
      peeked = own-passed _ _ _ _ c.loop-place.place c.args.to _ c.loop-place-test.true c.loop-place.invariant.peeked (let own : suc c.loop-place.place ≡ c.self.inside.number = omega (arith, c.if-place-own.true, c.place-own.ensures.value) in own ∙ number);
      within = omega (arith, c.loop-place-test.true);
    }

pub returns-in-Message-clause-sound : goal.returns-in-Message-clause-sound
returns-in-Message-clause-sound c = sound-onward _ _ _ (sound-onward _ _ _ c.loop-place.invariant.peeked.sound c.pass_open-next.ensures.sound) c.peek_at.ensures.sound

pub returns-in-Message-clause-answer : goal.returns-in-Message-clause-answer
returns-in-Message-clause-answer c =
    let number : c.self.inside.number ≡ c.args.self.now.number = ap (λ (post : PostView). post.number) c.self.view_is in
    let ne : c.at_place-other.result ≢ c.self.inside.number = search rules in
    let other : suc c.pass_open-next.result ≢ c.args.self.now.number = λ same. ne (c.at_place-other.ensures ∙ same ∙ sym number) in
    let top : c.if-place-own-2.limit ≤ c.args.to = search rules in
    let within = c.pass_open-next.ensures.within in
    let open_ = c.pass_open-next.ensures.open in
    let so_far = c.loop-place.invariant.peeked in
    let chain = subst (λ (p : ℕ). ArePeeked c.loop-place.self (others p c.loop-place.place c.pass_open-next.result) (c.pass_open-next.result == c.loop-place.place) open_.0) so_far.sound.same.number open_.2 in
    let peeked = lanes-passed c.args.self.now c.loop-place.self open_.0 (others c.args.self.now.number c.args.from c.args.to) c.args.self.now.number c.loop-place.place c.pass_open-next.result c.args.to c.loop-place.is_end so_far open_.1 within.0 (omega (arith, within.1, top)) chain in
    let found = rw c.in-Message.is at c.peek_at.ensures.answer in
    subst (λ (q : ℕ). IsFirstWaiting c.args.self.now (others c.args.self.now.number c.args.from c.args.to) q c.peek_at.new.self) (sym c.at_place-other.ensures)
    (first-there c.args.self.now open_.0 _ _ c.pass_open-next.result c.args.to _ (omega (arith, c.if-place-limit.true, top)) peeked other c.peek_at.new.self (sound-onward _ _ _ open_.3 c.peek_at.ensures.sound)
    (stays-since c.loop-place.self open_.0 c.pass_open-next.new.self c.peek_at.new.self (suc c.pass_open-next.result) open_.1 open_.3 open_.4 found.0)
    (waits-since c.loop-place.self open_.0 c.pass_open-next.new.self c.peek_at.new.self (suc c.pass_open-next.result) open_.1 open_.3 open_.4 found.1))

pub loop-place-preserved-then-place-limit : goal.loop-place-preserved-then-place-limit
loop-place-preserved-then-place-limit c =
    let number : c.self.inside.number ≡ c.args.self.now.number = ap (λ (post : PostView). post.number) c.self.view_is in
    let ne : c.at_place-other.result ≢ c.self.inside.number = search rules in
    let other : suc c.pass_open-next.result ≢ c.args.self.now.number = λ same. ne (c.at_place-other.ensures ∙ same ∙ sym number) in
    let top : c.if-place-own-2.limit ≤ c.args.to = search rules in
    let less : c.pass_open-next.result < c.args.to = omega (arith, c.if-place-limit.true, top) in
    let within = c.pass_open-next.ensures.within in
    let open_ = c.pass_open-next.ensures.open in
    let so_far = c.loop-place.invariant.peeked in
    let chain = subst (λ (p : ℕ). ArePeeked c.loop-place.self (others p c.loop-place.place c.pass_open-next.result) (c.pass_open-next.result == c.loop-place.place) open_.0) so_far.sound.same.number open_.2 in
    let peeked = lanes-passed c.args.self.now c.loop-place.self open_.0 (others c.args.self.now.number c.args.from c.args.to) c.args.self.now.number c.loop-place.place c.pass_open-next.result c.args.to c.loop-place.is_end so_far open_.1 within.0 (omega (arith, less)) chain in
    let later = sound-onward _ _ _ open_.3 c.peek_at.ensures.sound in
    record {
      peeked = elim c.match-peek_at.branch [
        | in-Nothing w ↦
            let found = rw w.in-Nothing.is at c.peek_at.ensures.answer in
            rw w.is_end-is (subst (λ b. HasPeeked c.args.self.now (others c.args.self.now.number c.args.from c.args.to) (others c.args.self.now.number (c.pass_open-next.result + 1) c.args.to) b c.peek_at.new.self)
            (and_false (c.loop-place.is_end && (c.pass_open-next.result == c.loop-place.place)))
            (none-there c.args.self.now open_.0 _ _ c.pass_open-next.result c.args.to _ less peeked other c.peek_at.new.self later
            (stays-since c.loop-place.self open_.0 c.pass_open-next.new.self c.peek_at.new.self (suc c.pass_open-next.result) open_.1 open_.3 open_.4 found.0) false
            (empty-since c.loop-place.self open_.0 c.pass_open-next.new.self c.peek_at.new.self (suc c.pass_open-next.result) open_.1 open_.3 open_.4 false found.1)))
        | in-Ended w ↦
            let found = rw w.in-Ended.is at c.peek_at.ensures.answer in
            rw w.is_end-is (subst (λ b. HasPeeked c.args.self.now (others c.args.self.now.number c.args.from c.args.to) (others c.args.self.now.number (c.pass_open-next.result + 1) c.args.to) b c.peek_at.new.self)
            (and_true (c.loop-place.is_end && (c.pass_open-next.result == c.loop-place.place)))
            (none-there c.args.self.now open_.0 _ _ c.pass_open-next.result c.args.to _ less peeked other c.peek_at.new.self later
            (stays-since c.loop-place.self open_.0 c.pass_open-next.new.self c.peek_at.new.self (suc c.pass_open-next.result) open_.1 open_.3 open_.4 found.0) true
            (empty-since c.loop-place.self open_.0 c.pass_open-next.new.self c.peek_at.new.self (suc c.pass_open-next.result) open_.1 open_.3 open_.4 true found.1)))
      ];
      within = omega (arith, less);
    }

pub loop-place-preserved : goal.loop-place-preserved
loop-place-preserved c =
    let top : c.if-place-own-2.limit ≤ c.args.to = search rules in
    let within = c.pass_open-next.ensures.within in
    let open_ = c.pass_open-next.ensures.open in
    let so_far = c.loop-place.invariant.peeked in
    let whole = open_.5 (omega (arith, within.1, c.if-place-limit.false)) in
    let chain = subst (λ (p : ℕ). ArePeeked c.loop-place.self (others p c.loop-place.place c.pass_open-next.result) (c.pass_open-next.result == c.loop-place.place) open_.0) so_far.sound.same.number open_.2 in
    record {
      peeked = subst (λ x. HasPeeked c.args.self.now (others c.args.self.now.number c.args.from c.args.to) (others c.args.self.now.number c.pass_open-next.result c.args.to) (c.loop-place.is_end && (c.pass_open-next.result == c.loop-place.place)) x) whole
          (lanes-passed c.args.self.now c.loop-place.self open_.0 (others c.args.self.now.number c.args.from c.args.to) c.args.self.now.number c.loop-place.place c.pass_open-next.result c.args.to c.loop-place.is_end so_far open_.1 within.0 (omega (arith, within.1, top)) chain);
      within = omega (arith, within.1, top);
    }
