-- What the answer of a post's call states when all posts have met.
use Rattle.std.proofs.Common.{◌≡◌, ℕ, ◌≤◌, List, [], ◌∷◌, Option, sym, ap, ◌∙◌, subst, ⊎_elim}
use Rattle.std.proofs.lemmas.Bool.{cases_eq}
use Rattle.chart.specs.declared.history.Occurrence.{Occurrence}
use Rattle.chart.specs.Histories.{by, own, Begins}
use Rattle.board.specs.Views.{PostView, Makes}
use Rattle.chart.proofs.Histories.{begins_onward}
use Rattle.schedule.specs.Meaning.{Run}
use Rattle.schedule_replay.specs.Agreement.{GoesOn, IsAsFar, IsMet}
use Rattle.chart.proofs.Alone.{no_longer, begins_longer, nothing_more, came_after, all_after}

module _ (r : Run) (from : Option ℕ) (old new : PostView) (far : IsAsFar r from old) (on : GoesOn old new)
    (met : List Occurrence) (its : IsMet r.history new met) where
  -- the post had made what its instance did in the run
  was_made : old.made ≡ own r.history new.number
  was_made = far.made ∙ ap (own r.history) (sym on.same.number)

  from_run : Begins r.history new.seen
  from_run = subst (λ h. Begins h new.seen) far.seen on.later

  whole : Begins r.history met
  whole = begins_onward r.history new.seen met from_run its.joint.later

  -- a call that made no event: the met history is that of the run, and the post has seen all of it
  module _ (stays : new.made ≡ old.made) where
    each : (q : ℕ) → 1 ≤ q → q ≤ new.board.size → own met q ≡ own r.history q
    each q low high = ⊎_elim (λ same. subst (λ x. own met x ≡ own r.history x) (sym same) (its.joint.own ∙ stays ∙ was_made)) (its.others q low high) (cases_eq q new.number)

    pub met_none : met ≡ r.history
    met_none = nothing_more new.board.size new.board.capacity r.history met its.joint.legal whole each

    pub seen_none : new.seen ≡ r.history
    seen_none = no_longer r.history new.seen from_run (begins_longer new.seen r.history (subst (λ h. Begins new.seen h) met_none its.joint.later))

  -- a call that made one event: the event came directly after the run, and is all that was added
  module _ (before : List Occurrence) (e : Occurrence) (by_it : by e ≡ new.number) (makes : Makes old before (e ∷ []) new) where
    first : Begins r.history before
    first = subst (λ h. Begins h before) far.seen makes.later

    then_met : Begins (e ∷ before) met
    then_met = subst (λ h. Begins h met) makes.seen its.joint.later

    mine : own met new.number ≡ e ∷ own r.history new.number
    mine = its.joint.own ∙ makes.made ∙ ap (λ h. e ∷ h) was_made

    pub before_one : before ≡ r.history
    before_one = came_after new.board.size new.board.capacity r.history before met e new.number by_it its.joint.legal first then_met mine its.others

    pub met_one : met ≡ e ∷ r.history
    met_one = all_after new.board.size new.board.capacity r.history before met e new.number by_it its.joint.legal first then_met mine its.others
