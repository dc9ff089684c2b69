-- All posts of a board, which meet after one of them made a call.
use Rattle.std.proofs.Common.{◌≡◌, ◌≢◌, ℕ, zero, suc, ◌≤◌, ◌⊎◌, inl, inr, ⊎_elim, List, [], ◌∷◌, length, replicate, set, get_or, Option, Some, None, Result, Ok, Err, refl, sym, ap, ◌∙◌, subst, subst₂, arith}
use Rattle.std.specs.Prelude.{slice_get, map}
use Rattle.std.proofs.lemmas.List.{length-set, length-map, length-replicate, get_or-replicate}
use Rattle.std.proofs.lemmas.Option.{slice_get-get_or, slice_get_within, same_Some, get_or_from_slice_get}
use Rattle.chart.specs.declared.history.Occurrence.{Occurrence}
use Rattle.chart.specs.Histories.{own, IsLegal, Begins}
use Rattle.board.specs.Views.{BoardView, PostView, IsSamePost}
use Rattle.board.specs.declared.gathering.Gathered.{Gathered}
use Rattle.board.specs.Gathering.{IsWhole, size_of}
use Rattle.board.specs.Meeting.{AreOfOneBoard, IsJoint, HaveMet, HasSeenAll, AreNotAll}
use Rattle.chart.specs.HistoryLines.{history_lines}
use Rattle.chart.specs.Reports.{AreReports}
use Rattle.board.proofs.PostLemmas.{at_set}
use Rattle.schedule.specs.declared.command.Command.{Command}
use Rattle.schedule.specs.declared.command.Word.{Word}
use Rattle.schedule.specs.Meaning.{Run, start, acts}
use Rattle.schedule.specs.declared.outcomes.error.ReplayError.{ReplayError}
use Rattle.schedule.specs.Outcomes.Performed.{HasDone}
use Rattle.chart.proofs.Places.{slice_get-set_same, slice_get-set_other}
use Rattle.chart.proofs.Alone.{nothing_more}
use Rattle.chart.proofs.Histories.{begins_same}
use Rattle.schedule_replay.specs.Agreement.{GoesOn, IsAsFar, IsMet, HasGone, HasCalled, Does, ArePosts, AreFresh, Agrees, HasActed}

-- they are of one board
pub one_board : (board : BoardView) (posts : List PostView) → ArePosts board posts → AreOfOneBoard posts
one_board board posts are i j x y at_x at_y = (are.each i x at_x).0 ∙ sym (are.each j y at_y).0

-- none of them is lacking
pub none_lacks : (board : BoardView) (posts : List PostView) → ArePosts board posts → AreNotAll posts → ⊥
none_lacks board [] are lacks = omega (arith, are.many, are.sized.several)
none_lacks board (x ∷ xs) are (zero, low, high, none) = omega (arith, low)
none_lacks board (x ∷ xs) are (suc j, low, high, none) =
    let size = ap (λ (b : BoardView). b.size) (are.each 0 x refl).0 in
    let at = slice_get-get_or (x ∷ xs) j x (omega (arith, high, size, are.many)) in
    none j (get_or (x ∷ xs) j x) at (are.each j (get_or (x ∷ xs) j x) at).1

-- one post is replaced by its later self
pub put_posts : (board : BoardView) (posts : List PostView) (i : ℕ) (old new : PostView) → ArePosts board posts → slice_get posts i ≡ Some old → IsSamePost old new → ArePosts board (set posts i new)
put_posts board posts i old new are at same = record {
  sized = are.sized;
  many = length-set posts i new ∙ are.many;
  each = λ j x at_x. ⊎_elim
      (λ its.
      let was = are.each i old at in
      (ap (λ (post : PostView). post.board) (sym its.1) ∙ same.board ∙ was.0, ap (λ (post : PostView). post.number) (sym its.1) ∙ same.number ∙ was.1 ∙ ap suc (sym its.0)))
      (λ its. are.each j x its.1)
      (at_set posts i j new x at_x);
}

-- an element of a mapped list
pub mapped : {X : Type 0} (f : X → X) (xs : List X) (i : ℕ) (y : X) → slice_get (map f xs) i ≡ Some y → (x : X) × (slice_get xs i ≡ Some x) × (y ≡ f x)
mapped f [] i y at = cc
mapped f (x ∷ xs) zero y at = (x, refl, sym (same_Some (f x) y at))
mapped f (x ∷ xs) (suc i) y at = mapped f xs i y at

-- they have met
pub met_posts : (board : BoardView) (old new : List PostView) → ArePosts board old → HaveMet old new → ArePosts board new
met_posts board old new are met = record {
  sized = are.sized;
  many = ap length met.seen ∙ length-map old (λ (post : PostView). record post { seen = met.history }) ∙ are.many;
  each = λ i y at.
      let its = mapped (λ (post : PostView). record post { seen = met.history }) old i y (ap (λ (xs : List PostView). slice_get xs i) (sym met.seen) ∙ at) in
      let was = are.each i its.0 its.1 in
      (ap (λ (post : PostView). post.board) its.2 ∙ was.0, ap (λ (post : PostView). post.number) its.2 ∙ was.1);
}

-- a post that goes on alone has seen all that the others have
pub seen_all : (board : BoardView) (r : Run) (posts : List PostView) (last : List (Option ℕ)) → Agrees board r posts last → (i : ℕ) (old new : PostView) → slice_get posts i ≡ Some old → GoesOn old new → HasSeenAll (set posts i new) i
seen_all board r posts last agrees i old new at on = (new, slice_get-set_same posts i new (slice_get_within posts i old at), λ j x at_x. each j x (at_set posts i j new x at_x))
  where
    seen : (j : ℕ) (x : PostView) → slice_get posts j ≡ Some x → x.seen ≡ r.history
    seen j x at_x =
        let within = slice_get_within posts j x at_x in
        (agrees.far j x (get_or last j None) at_x (slice_get-get_or last j None (omega (arith, within, agrees.posts.many, agrees.as_many)))).seen

    each : (j : ℕ) (x : PostView) → ((j ≡ i) × (new ≡ x)) ⊎ ((j ≢ i) × (slice_get posts j ≡ Some x)) → Begins x.seen new.seen
    each j x (inl here) = subst (λ (post : PostView). Begins post.seen new.seen) here.1 (begins_same new.seen)
    each j x (inr there) = subst (λ (h : List Occurrence). Begins h new.seen) (seen i old at ∙ sym (seen j x there.1)) on.later

module _ (board : BoardView) (r : Run) (posts : List PostView) (last : List (Option ℕ)) (agrees : Agrees board r posts last)
    (i : ℕ) (old new : PostView) (was from : Option ℕ) (at : slice_get posts i ≡ Some old) (at_last : slice_get last i ≡ Some was) (on : GoesOn old new)
    (them : List PostView) (met : HaveMet (set posts i new) them) where
  mine : (old.board ≡ board) × (old.number ≡ suc i)
  mine = agrees.posts.each i old at

  number : new.number ≡ suc i
  number = on.same.number ∙ mine.1

  -- for the instance of each other post the met history has what the run has
  other_own : (j : ℕ) (x : PostView) → slice_get posts j ≡ Some x → j ≢ i → own met.history x.number ≡ own r.history x.number
  other_own j x at_x ne =
      let within = slice_get_within posts j x at_x in
      let at_l = slice_get-get_or last j was (omega (arith, within, agrees.posts.many, agrees.as_many)) in
      (met.joint j x (slice_get-set_other posts i j new ne ∙ at_x)).own ∙ (agrees.far j x (get_or last j was) at_x at_l).made

  others : (q : ℕ) → 1 ≤ q → q ≤ new.board.size → q ≢ new.number → own met.history q ≡ own r.history q
  others zero low high ne = absurd (omega (arith, low))
  others (suc j) low high ne =
      let size = ap (λ (b : BoardView). b.size) (on.same.board ∙ mine.0) in
      let at_x = slice_get-get_or posts j old (omega (arith, high, size, agrees.posts.many)) in
      let its = agrees.posts.each j (get_or posts j old) at_x in
      subst (λ q. own met.history q ≡ own r.history q) its.1 (other_own j (get_or posts j old) at_x (λ same. ne (ap suc same ∙ sym number)))

  is_met : IsMet r.history new met.history
  is_met = record { joint = met.joint i new (slice_get-set_same posts i new (slice_get_within posts i old at)); others = others }

  -- the posts are as far as a run that is as far as the met history
  with_run : (s : Run) → HasGone r s old.number met.history from new → Agrees board s them (set last i from)
  with_run s gone = record {
    posts = met_posts board (set posts i new) them (put_posts board posts i old new agrees.posts at on.same) met;
    legal = subst₂ (λ (b : BoardView) (h : List Occurrence). IsLegal b.size b.capacity h) (on.same.board ∙ mine.0) (sym gone.history) is_met.joint.legal;
    as_many = length-set last i from ∙ agrees.as_many;
    far = λ j y l at_y at_l.
        let its = mapped (λ (post : PostView). record post { seen = met.history }) (set posts i new) j y (ap (λ (xs : List PostView). slice_get xs j) (sym met.seen) ∙ at_y) in
        subst (IsAsFar s l) (sym its.2) (far j its.0 l (at_set posts i j new its.0 its.1) (at_set last i j from l at_l));
  }
    where
      far : (j : ℕ) (x : PostView) (l : Option ℕ) → ((j ≡ i) × (new ≡ x)) ⊎ ((j ≢ i) × (slice_get posts j ≡ Some x)) → ((j ≡ i) × (from ≡ l)) ⊎ ((j ≢ i) × (slice_get last j ≡ Some l)) → IsAsFar s l (record x { seen = met.history })
      far j x l (inl here) (inl there) = subst (λ (post : PostView). IsAsFar s l (record post { seen = met.history })) here.1 (subst (λ o. IsAsFar s o (record new { seen = met.history })) there.1 (record {
        seen = sym gone.history;
        made = sym is_met.joint.own ∙ ap (λ h. own h new.number) (sym gone.history);
        region = gone.region ∙ ap s.region (sym on.same.number);
        last = gone.last ∙ ap s.last (sym on.same.number);
        known = gone.known;
      }))
      far j x l (inl here) (inr there) = absurd (there.0 here.0)
      far j x l (inr here) (inl there) = absurd (here.0 there.0)
      far j x l (inr here) (inr there) =
          let its = agrees.far j x l here.1 there.1 in
          let ne : x.number ≢ old.number = λ same. here.0 (omega (arith, same, (agrees.posts.each j x here.1).1, mine.1)) in
          record {
            seen = sym gone.history;
            made = its.made ∙ sym (other_own j x here.1 here.0) ∙ ap (λ h. own h x.number) (sym gone.history);
            region = its.region ∙ sym (gone.other_regions x.number ne);
            last = its.last ∙ sym (gone.other_lasts x.number ne);
            known = its.known;
          }

  -- what the command left, now that they have met
  pub has_acted : (command : Command) (answer : Result (Option Word) ReplayError) → command.actor ≡ suc i → Does old was command.action answer new from → HasActed board r command answer them (set last i from)
  has_acted command answer its does = go answer (acts board.size board.capacity r command.actor command.action) as_acts
    where
      as_acts : HasCalled r old.number met.history from new answer (acts board.size board.capacity r command.actor command.action)
      as_acts = subst₂ (λ (b : BoardView) (p : ℕ). HasCalled r old.number met.history from new answer (acts b.size b.capacity r p command.action)) mine.0 (mine.1 ∙ sym its) (does r (agrees.far i old was at at_last) met.history is_met)

      go : (answer : Result (Option Word) ReplayError) (acted : Result Run Word) → HasCalled r old.number met.history from new answer acted → HasDone (λ s. Agrees board s them (set last i from)) r answer acted
      go (Ok None) (Ok s) done = with_run s done
      go (Ok None) (Err word) done = done
      go (Ok (Some noted)) (Ok s) done = done
      go (Ok (Some noted)) (Err word) done = (done.0, with_run r done.1)
      go (Err e) acted done = tt

-- a history that begins with what each post has seen, and has only those events of its instance that its calls made, is
-- the run's
pub joint_is : (board : BoardView) (r : Run) (posts : List PostView) (last : List (Option ℕ)) → Agrees board r posts last → (h : List Occurrence) → ((i : ℕ) (post : PostView) → slice_get posts i ≡ Some post → IsJoint h post) → h ≡ r.history
joint_is board r [] last agrees h joint = absurd (omega (arith, agrees.posts.many, agrees.posts.sized.several))
joint_is board r (first ∷ rest) last agrees h joint =
    let its = joint 0 first refl in
    nothing_more board.size board.capacity r.history h (subst (λ (b : BoardView). IsLegal b.size b.capacity h) (agrees.posts.each 0 first refl).0 its.legal) (subst (λ g. Begins g h) (far_of 0 first refl).seen its.later) each
  where
    far_of : (j : ℕ) (x : PostView) → slice_get (first ∷ rest) j ≡ Some x → IsAsFar r (get_or last j None) x
    far_of j x at = agrees.far j x (get_or last j None) at (slice_get-get_or last j None (let within = slice_get_within (first ∷ rest) j x at in omega (arith, within, agrees.posts.many, agrees.as_many)))

    each : (q : ℕ) → 1 ≤ q → q ≤ board.size → own h q ≡ own r.history q
    each zero low high = absurd (omega (arith, low))
    each (suc j) low high =
        let at = slice_get-get_or (first ∷ rest) j first (omega (arith, high, agrees.posts.many)) in
        subst (λ q. own h q ≡ own r.history q) (agrees.posts.each j (get_or (first ∷ rest) j first) at).1 ((joint j (get_or (first ∷ rest) j first) at).own ∙ (far_of j (get_or (first ∷ rest) j first) at).made)

-- posts that have made no call since they met, and meet again, are as far as they were
pub agrees_met : (board : BoardView) (r : Run) (posts : List PostView) (last : List (Option ℕ)) (them : List PostView) → Agrees board r posts last → HaveMet posts them → Agrees board r them last
agrees_met board r posts last them agrees met = record {
  posts = met_posts board posts them agrees.posts met;
  legal = agrees.legal;
  as_many = agrees.as_many;
  far = λ j y l at_y at_l.
      let its = mapped (λ (post : PostView). record post { seen = met.history }) posts j y (ap (λ (xs : List PostView). slice_get xs j) (sym met.seen) ∙ at_y) in
      let was = agrees.far j its.0 l its.1 at_l in
      subst (IsAsFar r l) (sym its.2) (record { seen = joint_is board r posts last agrees met.history met.joint; made = was.made; region = was.region; last = was.last; known = was.known });
}

-- new posts are as far as the start
pub agrees_new : (board : BoardView) (posts : List PostView) (last : List (Option ℕ)) → AreFresh board posts → last ≡ replicate (length posts) None → Agrees board start.run posts last
agrees_new board posts last fresh none = record {
  posts = record {
    sized = fresh.sized;
    many = fresh.new.as_many;
    each = λ i post at. let its = fresh.new.each i post at in (ap (λ (x : PostView). x.board) its, ap (λ (x : PostView). x.number) its);
  };
  legal = tt;
  as_many = ap length none ∙ length-replicate {A = Option ℕ} (length posts) None ∙ fresh.new.as_many;
  far = λ i post from at at_last.
      let its = fresh.new.each i post at in
      let nobody : from ≡ None = every_none (length posts) i from (ap (λ (xs : List (Option ℕ)). slice_get xs i) (sym none) ∙ at_last) in
      subst (λ o. IsAsFar start.run o post) (sym nobody) (subst (IsAsFar start.run None) (sym its) (record { seen = refl; made = refl; region = refl; last = refl; known = omega arith }));
}
  where
    every_none : (n i : ℕ) (from : Option ℕ) → slice_get (replicate n None) i ≡ Some from → from ≡ None
    every_none n i from at = sym (get_or_from_slice_get (replicate n None) i from None at) ∙ get_or-replicate n i None None (let within = slice_get_within (replicate n None) i from at in omega (arith, within, length-replicate {A = Option ℕ} n None))

-- the outcome when they are gathered
pub gathered_is : (board : BoardView) (r : Run) (posts : List PostView) (last : List (Option ℕ)) (it : Gathered) → Agrees board r posts last → IsWhole posts it → (it.chart ≡ history_lines board.size r.history) × AreReports it.chart it.reports.items
gathered_is board r posts last it agrees whole =
    let history = joint_is board r posts last agrees whole.history whole.joint in
    let size = size_is posts board agrees.posts in
    let chart = whole.gathered.chart ∙ ap (λ n. history_lines n whole.history) size ∙ ap (history_lines board.size) history in
    (chart, subst (λ lines. AreReports lines it.reports.items) (sym whole.gathered.chart) whole.gathered.reports)
  where
    size_is : (posts : List PostView) (board : BoardView) → ArePosts board posts → size_of posts ≡ board.size
    size_is [] board are = are.many
    size_is (post ∷ posts) board are = ap (λ (b : BoardView). b.size) (are.each 0 post refl).0
