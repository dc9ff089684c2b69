use Rattle.std.proofs.Common.{rules, ◌≡◌, ◌+◌, suc, false, refl, sym, ap, ◌∙◌, arith}
use Rattle.board_table.specs.Layout.{LaneView, put_word}
use Rattle.board.specs.Views.{PostView}
use Rattle.board.specs.Taking.{IsFoundEmpty}
use Rattle.board.proofs.Scanning.{sound-onward, sound-again, stays-again, passed-next}
use Rattle.board.proofs.parked.Parked.pass_open.Goals as goal

pub new-lane-requires-clause-two : goal.new-lane-requires-clause-two
new-lane-requires-clause-two c same =
    let number : c.self.inside.number ≡ c.args.self.now.number = ap (λ (post : PostView). post.number) c.self.view_is in
    c.requires.apart c.loop.place c.loop.invariant.passed.within (omega (arith, c.loop.invariant.so_far, c.loop-test.true, c.loop-place-test.true)) (sym c.at_place-in-loop.ensures ∙ same ∙ number)

pub returns-then-not-finds_nothing-clause-sound : goal.returns-then-not-finds_nothing-clause-sound
returns-then-not-finds_nothing-clause-sound c = sound-onward _ _ _ c.loop.invariant.passed.sound c.finds_nothing.ensures.sound

pub returns-then-not-finds_nothing-clause-open : goal.returns-then-not-finds_nothing-clause-open
returns-then-not-finds_nothing-clause-open c =
    let passed = c.loop.invariant.passed in
    (c.loop.self, passed.sound, passed.peeked, c.finds_nothing.ensures.sound, c.finds_nothing.ensures.stays, λ all. absurd (omega (arith, all, c.loop.invariant.so_far, c.loop-test.true, c.loop-place-test.true)))

pub loop-preserved : goal.loop-preserved
loop-preserved c =
    let number : c.self.inside.number ≡ c.args.self.now.number = ap (λ (post : PostView). post.number) c.self.view_is in
    let size : c.self.inside.shape.instances ≡ c.args.self.now.board.size = ap (λ (post : PostView). post.board.size) c.self.view_is in
    let next : c.loop.place + 1 ≡ suc c.loop.place = omega arith in
    let empty : IsFoundEmpty c.loop.self (suc c.loop.place) false c.finds_nothing.new.self = search rules in
    record {
      passed = passed-next c.args.self.now c.loop.self c.finds_nothing.new.self c.args.self.now.number c.args.from c.loop.place (c.loop.place + 1) c.loop.invariant.passed
          (c.requires.apart c.loop.place c.loop.invariant.passed.within (omega (arith, c.loop.invariant.so_far, c.loop-test.true, c.loop-place-test.true))) c.finds_nothing.ensures.sound c.finds_nothing.ensures.stays empty next;
      so_far = omega (arith, c.loop.invariant.so_far);
      word = c.put_word_after-word.ensures ∙ ap (λ (l : LaneView). put_word l.instances (suc l.sender) l.receiver) c.new-lane.ensures ∙ ap (λ n. put_word n (suc c.at_place-in-loop.result) c.self.inside.number) size
          ∙ ap (λ q. put_word c.args.self.now.board.size (suc q) c.self.inside.number) (c.at_place-in-loop.ensures ∙ sym next) ∙ ap (λ p. put_word c.args.self.now.board.size (suc (c.loop.place + 1)) p) number;
    }

pub new-lane-requires-in-loop-place-2-clause-two : goal.new-lane-requires-in-loop-place-2-clause-two
new-lane-requires-in-loop-place-2-clause-two c same =
    let number : c.self.inside.number ≡ c.args.self.now.number = ap (λ (post : PostView). post.number) c.self.view_is in
    c.requires.apart c.loop-place-2.place c.loop-place-2.invariant.passed.within c.loop-place-2-test.true (sym c.at_place-in-loop-place-2.ensures ∙ same ∙ number)

pub returns-then-not-finds_nothing-2-clause-sound : goal.returns-then-not-finds_nothing-2-clause-sound
returns-then-not-finds_nothing-2-clause-sound c = sound-onward _ _ _ c.loop-place-2.invariant.passed.sound c.finds_nothing-in-loop-place-2.ensures.sound

pub returns-then-not-finds_nothing-2-clause-open : goal.returns-then-not-finds_nothing-2-clause-open
returns-then-not-finds_nothing-2-clause-open c =
    let passed = c.loop-place-2.invariant.passed in
    (c.loop-place-2.self, passed.sound, passed.peeked, c.finds_nothing-in-loop-place-2.ensures.sound, c.finds_nothing-in-loop-place-2.ensures.stays, λ all. absurd (omega (arith, all, c.loop-place-2-test.true)))

pub loop-place-2-preserved : goal.loop-place-2-preserved
loop-place-2-preserved c =
    let empty : IsFoundEmpty c.loop-place-2.self (suc c.loop-place-2.place) false c.finds_nothing-in-loop-place-2.new.self = search rules in
    record {
      passed = passed-next c.args.self.now c.loop-place-2.self c.finds_nothing-in-loop-place-2.new.self c.args.self.now.number c.args.from c.loop-place-2.place (c.loop-place-2.place + 1) c.loop-place-2.invariant.passed
          (c.requires.apart c.loop-place-2.place c.loop-place-2.invariant.passed.within c.loop-place-2-test.true) c.finds_nothing-in-loop-place-2.ensures.sound c.finds_nothing-in-loop-place-2.ensures.stays empty (omega arith);
      within = omega (arith, c.loop-place-2-test.true);
    }

pub returns-clause-open : goal.returns-clause-open
returns-clause-open c =
    let passed = c.loop-place-2.invariant.passed in
    (c.loop-place-2.self, passed.sound, passed.peeked, sound-again _ _ passed.sound, stays-again c.loop-place-2.self, λ all. refl)
