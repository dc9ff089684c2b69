-- A run so far, one more turn, and the ends of a run.
use Rattle.std.proofs.Common.{◌≡◌, ℕ, ◌+◌, ◌<◌, List, [], ◌∷◌, ◌++◌, length, refl, sym, ap, ◌∙◌, subst, arith, append-nil, append_assoc, length-append}
use Rattle.board.specs.Views.{PostView}
use Rattle.mailbox.specs.Mailboxes.{MailboxView}
use Rattle.behaviour.specs.declared.act.Act.{Act}
use Rattle.behaviour.specs.declared.act.Act.TheVariants.{Stop}
use Rattle.behaviour.specs.declared.answer.Answer.{Answer}
use Rattle.behaviour.specs.declared.answer.Answer.TheVariants.{Start}
use Rattle.instances.specs.declared.end.End.{End}
use Rattle.instances.specs.declared.end.End.TheVariants.{Stopped, TurnsSpent, Memory}
use Rattle.instances.specs.declared.turn.Turn.{Turn}
use Rattle.instances.specs.Answering.{Allows}
use Rattle.instances.specs.Driving.{Meaning, Moment, Leads, Made, IsRun, IsRunOfPost}
use Rattle.instances.specs.Traces.{turn_of, last_turn, accepted, all_accepted}
use Rattle.instances.proofs.Effects.{Leaves, leaves-none, leaves-onward, leaves-act}

all_accepted-push : (turns : List Turn) (turn : Turn)
    → all_accepted (turns ++ turn ∷ []) ≡ all_accepted turns ++ accepted turn.act turn.answer
all_accepted-push [] turn = append-nil (accepted turn.act turn.answer)
all_accepted-push (t ∷ turns) turn =
    let first = accepted t.act t.answer in
    ap (λ acts. first ++ acts) (all_accepted-push turns turn)
    ∙ sym (append_assoc first (all_accepted turns) (accepted turn.act turn.answer))

-- the moment at which a behaviour begins
abbrev pub first_moment : {S : Type 0} → S → MailboxView → Moment S
first_moment state view = record { state = state; last = Start; view = view }

-- the moment after a turn
abbrev pub next_moment : {S : Type 0} → Meaning S → Moment S → Answer → MailboxView → Moment S
next_moment m now answer view = record { state = m.after now.state now.last; last = answer; view = view }

leads-next : {S : Type 0} (m : Meaning S) (first : Moment S) (turns : List Turn) (now : Moment S) (answer : Answer)
    (view : MailboxView)
    → Leads m first turns now → Allows now.view (m.act now.state now.last) answer view
    → Leads m first (turns ++ turn_of (m.act now.state now.last) answer ∷ []) (next_moment m now answer view)
leads-next m first [] now answer view leads allows =
    subst (λ from. Leads m from (turn_of (m.act now.state now.last) answer ∷ [])
    (next_moment m now answer view)) leads (answer, view, refl, allows, refl)
leads-next m first (turn ∷ turns) now answer view (a, v, is, may, leads) allows =
    (a, v, is, may, leads-next m (next_moment m first a v) turns now answer view leads allows)

-- What a behaviour of an unknown type does: the act and the new state are those of its meaning, wherever the behaviour
-- is.
pub at-state {ℓ} : {I : Type ℓ} {D : I → Type 0} (at to : (y : I) × D y) → at ≡ to → (meaning : (p : (y : I) × D y)
    → Meaning (D p.0))
    → (a : Act) (last : Answer) (left : D at.0) → a ≡ (meaning at).act at.1 last → left ≡ (meaning at).after at.1 last
    → (a ≡ (meaning to).act to.1 last) × ◌≡◌ {A = (y : I) × D y} (at.0, left) (to.0, (meaning to).after to.1 last)
at-state {I = I} {D = D} at to is meaning a last =
    subst (λ (p : (y : I) × D y). (left : D p.0) → a ≡ (meaning p).act p.1 last → left ≡ (meaning p).after p.1 last
    → (a ≡ (meaning to).act to.1 last) × ◌≡◌ {A = (y : I) × D y} (p.0, left) (to.0, (meaning to).after to.1 last))
    (sym is) (λ left acts leaves. (acts, ap (λ y. (to.0, y)) leaves))

-- a run of such a behaviour, in the same way, with a new mailbox
pub run-at {ℓ} : {I : Type ℓ} {D : I → Type 0} (at to : (y : I) × D y) → at ≡ to
    → (meaning : (p : (y : I) × D y) → Meaning (D p.0)) (most : ℕ) (old : PostView) (trace : List Turn) (end : End)
    (new : MailboxView) (left : D at.0)
    → IsRun (meaning at) most at.1 (record { post = old; last = 0 }) trace end (record { state = left; view = new })
    → IsRunOfPost (meaning to) most to.1 old trace end new.post
run-at {I = I} {D = D} at to is meaning most old trace end new left run =
    subst (λ (p : (y : I) × D y). IsRunOfPost (meaning p) most p.1 old trace end new.post) is
    (record { left = left; last = new.last; run = run })

-- `many` turns were made and led here
pub record HasRun {S : Type 0} (m : Meaning S) (state : S) (old : MailboxView) (done : List Turn) (many : ℕ)
    (now : Moment S) : Type 0 where
  pub leads : Leads m (first_moment state old) done now
  pub leaves : Leaves old (all_accepted done) now.view
  pub count : length done ≡ many

module _ {S : Type 0} (m : Meaning S) (state : S) (old : MailboxView) where
  pub has-begun : HasRun m state old [] 0 (first_moment state old)
  has-begun = record { leads = refl; leaves = leaves-none old; count = refl }

  pub has-run-on : (done : List Turn) (count : ℕ) (now : Moment S) (answer : Answer) (view : MailboxView)
      → HasRun m state old done count now → Allows now.view (m.act now.state now.last) answer view
      → HasRun m state old (done ++ turn_of (m.act now.state now.last) answer ∷ []) (count + 1)
      (next_moment m now answer view)
  has-run-on done count now answer view run allows =
      let act = m.act now.state now.last in
      let turn = turn_of act answer in
      record {
        leads = leads-next m (first_moment state old) done now answer view run.leads allows;
        leaves = subst (λ acts. Leaves old acts view) (sym (all_accepted-push done turn))
            (leaves-onward old now.view view (all_accepted done) (accepted turn.act turn.answer) run.leaves
            (leaves-act now.view act answer view allows));
        count = length-append done (turn ∷ []) ∙ ap (λ n. n + 1) run.count;
      }

  pub has-stopped : (most : ℕ) (done : List Turn) (count : ℕ) (now : Moment S) → HasRun m state old done count now
      → count < most → m.act now.state now.last ≡ Stop
      → IsRun m most state old (done ++ last_turn ∷ []) Stopped
      (record { state = m.after now.state now.last; view = now.view })
  has-stopped most done count now run before stops = record {
    ends = (
      done,
      now,
      refl,
      omega (arith, before, run.count, length-append done (last_turn ∷ [])),
      run.leads,
      stops,
      refl,
      refl,
    );
    made = subst (λ acts. Made old acts now.view) (sym (all_accepted-push done last_turn
        ∙ append-nil (all_accepted done))) run.leaves.made;
    same = run.leaves.same;
    later = run.leaves.later;
  }

  pub has-spent : (most : ℕ) (done : List Turn) (many : ℕ) (now : Moment S) → HasRun m state old done many now
      → many ≡ most → IsRun m most state old done TurnsSpent (record { state = now.state; view = now.view })
  has-spent most done many now run all = record {
    ends = (now, run.count ∙ all, run.leads, refl, refl);
    made = run.leaves.made;
    same = run.leaves.same;
    later = run.leaves.later;
  }

  pub has-failed : (most : ℕ) (done : List Turn) (count : ℕ) (now : Moment S) → HasRun m state old done count now
      → count < most → IsRun m most state old done Memory (record { state = now.state; view = now.view })
  has-failed most done count now run before = record {
    ends = (now, omega (arith, before, run.count), run.leads, refl, refl);
    made = run.leaves.made;
    same = run.leaves.same;
    later = run.leaves.later;
  }
