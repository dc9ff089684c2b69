use Rattle.std.proofs.Common.{[], refl, ap, subst, arith, length}
use Rattle.std.proofs.lemmas.Bool.{not-true, not-false}
use Rattle.board.specs.Views.{PostView, Sound}
use Rattle.board.proofs.LongRunsLemmas.Untouched.{has_made_nothing, has_no_event, has_closed_none}
use Rattle.board.proofs.parked.Parked.is_untouched.Goals as goal

pub returns-then-self-gt0-clause-no : goal.returns-then-self-gt0-clause-no
returns-then-self-gt0-clause-no c = λ _ its. omega (arith, its.region, ap (λ (post : PostView). post.region) c.self.view_is, c.if-self-gt0.true)

pub returns-then-len-gt0-clause-no : goal.returns-then-len-gt0-clause-no
returns-then-len-gt0-clause-no c = λ _ its.
    let sound = subst (λ (post : PostView). Sound post post) c.self.view_is (record { same = record { board = refl; number = refl }; later = ([], refl); legal = c.self.invariant.knows.legal; own = c.self.invariant.made; looks = omega arith }) in
    let none = has_no_event c.args.self.now sound its.made in
    omega (arith, none, c.len.ensures.value, ap (λ line. length line.events) c.line.ensures, c.if-len-gt0.true)

pub returns-clause-yes : goal.returns-clause-yes
returns-clause-yes c = λ yes.
    let sound = subst (λ (post : PostView). Sound post post) c.self.view_is (record { same = record { board = refl; number = refl }; later = ([], refl); legal = c.self.invariant.knows.legal; own = c.self.invariant.made; looks = omega arith }) in
    record {
      made = has_made_nothing c.args.self.now sound (omega (arith, c.len.ensures.value, ap (λ line. length line.events) c.line.ensures, c.if-len-gt0.false)) (c.has_closed_one.ensures.no (not-true c.has_closed_one.result yes));
      region = omega (arith, ap (λ (post : PostView). post.region) c.self.view_is, c.if-self-gt0.false);
    }

pub returns-clause-no : goal.returns-clause-no
returns-clause-no c = λ no its.
    let some = c.has_closed_one.ensures.yes (not-false c.has_closed_one.result no) in
    has_closed_none c.args.self.now its.made some.0 some.1
