-- Posts that make the events of carrying over, one after another, and meet after each.
use Rattle.std.proofs.Common.{◌≡◌, ◌≢◌, ℕ, zero, suc, ◌+◌, ◌-◌, ◌<◌, ◌≤◌, inl, inr, cond, List, [], ◌∷◌, ◌++◌, length, set, map, get_or, refl, sym, ap, ◌∙◌, subst, arith, length-append}
use Rattle.std.proofs.lemmas.Bool.{cases_eq, eq-eqb, ne_eqb, false≢true}
use Rattle.std.proofs.lemmas.List.{length-set, length-map, append-nil}
use Rattle.std.proofs.lemmas.Option.{slice_get-get_or}
use Rattle.std.specs.Prelude.{slice_get, None, Some}
use Rattle.chart.specs.declared.history.Occurrence.{Occurrence}
use Rattle.chart.specs.declared.history.Occurrence.TheVariants.{Send, Close}
use Rattle.chart.specs.Messages.{Content}
use Rattle.chart.specs.Events.{send_event}
use Rattle.chart.specs.Histories.{by, own, received, waiting, is_closed, chart_of, MayFollow, IsLegal, Begins}
use Rattle.chart.proofs.Histories.{closed_own, received_own, begins_same}
use Rattle.chart.proofs.Alone.{all_after}
use Rattle.chart.proofs.Steps.{line_of_other}
use Rattle.board_core.proofs.OwnEvents.{same_line}
use Rattle.board.specs.declared.error.SendError.{SendError}
use Rattle.board.specs.declared.error.SendError.TheVariants.{NoSuchInstance, ToItself, InCoregion, Closed, TooMany, LineFull, Full, Memory}
use Rattle.board.specs.declared.error.CloseError.{CloseError}
use Rattle.board.specs.declared.error.CloseError.TheVariants as unclosed
use Rattle.board.specs.Views.{PostView, Sound, Makes, Stays, HasReceivedNothing}
use Rattle.board.specs.Sending.{IsUnsent}
use Rattle.board.specs.Closing.{IsUnclosed}
use Rattle.board.specs.Meeting.{AreOfOneBoard, HasPost, HasSeenAll, HaveMet, IsJoint}
use Rattle.board.specs.LongRuns.CarryingOver.{HasCarried}
use Rattle.board.specs.LongRuns.CarryingSteps.{AreOn, MayGoOn}
use Rattle.board.proofs.Meetings.{set_apart, at_within, one_ahead}

none_there : (y : PostView) → None ≡ Some y → ⊥
none_there y never = cc

some_one : (x y : PostView) → Some x ≡ Some y → x ≡ y
some_one x y same = cc

-- the element that was put at a place is there
set_there : (xs : List PostView) (i : ℕ) (e : PostView) → i < length xs → slice_get (set xs i e) i ≡ Some e
set_there [] i e within = absurd (omega arith)
set_there (x ∷ xs) zero e within = refl
set_there (x ∷ xs) (suc i) e within = set_there xs i e (omega arith)

-- an element of a mapped list is the image of one at the same place
pub map_there : (f : PostView → PostView) (xs : List PostView) (j : ℕ) (y : PostView) → slice_get (map f xs) j ≡ Some y → (x : PostView) × (slice_get xs j ≡ Some x) × (f x ≡ y)
map_there f [] j y at = absurd (none_there y at)
map_there f (x ∷ xs) zero y at = (x, refl, some_one (f x) y at)
map_there f (x ∷ xs) (suc j) y at = map_there f xs j y at

-- the element that is read at a place is there
pub indexed : (posts : List PostView) (i : ℕ) (r x : PostView) (s : ℕ) → slice_get posts i ≡ Some x → x.number ≡ s → (slice_get posts i ≡ Some (get_or posts i r)) × ((get_or posts i r).number ≡ s)
indexed posts i r x s at number =
    let there = slice_get-get_or posts i r (at_within posts i x at) in
    (there, ap (λ (post : PostView). post.number) (one_ahead posts i (get_or posts i r) x there at) ∙ number)

-- what the post at a place was at first
pub record HasCome (n k : ℕ) (h : List Occurrence) (old : List PostView) (i : ℕ) (y : PostView) : Type 0 where
  pub from : PostView
  pub at : slice_get old i ≡ Some from
  pub carried : HasCarried h (length (chart_of h y.number)) from y
  pub size : y.board.size ≡ n
  pub capacity : y.board.capacity ≡ k

module _ (n k : ℕ) (h : List Occurrence) (old posts : List PostView) (on : AreOn n k h old posts) where
  pub come : (i : ℕ) (y : PostView) → slice_get posts i ≡ Some y → HasCome n k h old i y
  come i y at =
      let within : i < length old = let its = at_within posts i y at in omega (arith, its, on.as_many) in
      let x : PostView = get_or old i y in
      let there : slice_get old i ≡ Some x = slice_get-get_or old i y within in
      let its = on.each i x y there at in
      let sized = on.are.size i x there in
      record { from = x; at = there; carried = its; size = ap (λ b. b.size) its.same.board ∙ sized.0; capacity = ap (λ b. b.capacity) its.same.board ∙ sized.1 }

  pub has_post : (number : ℕ) → 1 ≤ number → number ≤ n → HasPost posts number
  has_post number low high =
      let (i, x, there, its) = on.are.all number low high in
      let within : i < length posts = let at = at_within old i x there in omega (arith, at, on.as_many) in
      let y : PostView = get_or posts i x in
      let at : slice_get posts i ≡ Some y = slice_get-get_or posts i x within in
      (i, y, at, (on.each i x y there at).same.number ∙ its)

  pub one_board : AreOfOneBoard posts
  one_board i j x y at_i at_j =
      let a = come i x at_i in
      let b = come j y at_j in
      a.carried.same.board ∙ on.are.one i j a.from b.from a.at b.at ∙ sym b.carried.same.board

-- A post that may send isn't refused.
pub not_refused : (n k : ℕ) (h : List Occurrence) (s r : ℕ) (m : Content) (x y z : PostView) (error : SendError) → y.number ≡ s → y.board.size ≡ n → y.board.capacity ≡ k → y.seen ≡ h → y.made ≡ own h s → y.region ≡ 0
    → MayFollow n k h (Send s r m) → Sound y z → Stays y z → (error ≡ Memory → ⊥) → IsUnsent y r 1 error z → ⊥
not_refused n k h s r m x y z NoSuchInstance number size capacity seen made region may sound stays memory why = omega (arith, why, size, may.0.3)
not_refused n k h s r m x y z ToItself number size capacity seen made region may sound stays memory why = may.0.4 (sym number ∙ sym why)
not_refused n k h s r m x y z InCoregion number size capacity seen made region may sound stays memory why = omega (arith, why.1, region)
not_refused n k h s r m x y z Closed number size capacity seen made region may sound stays memory why =
    false≢true (sym may.1 ∙ sym (closed_own h s r) ∙ ap (λ g. is_closed g s r) (sym made) ∙ ap (λ p. is_closed y.made p r) (sym number) ∙ why.2)
not_refused n k h s r m x y z TooMany number size capacity seen made region may sound stays memory why = omega (arith, why.1, capacity, may.2)
not_refused n k h s r m x y z LineFull number size capacity seen made region may sound stays memory why =
    let same : z.number ≡ s = sound.same.number ∙ number in
    let own_z : own z.seen s ≡ own h s = ap (own z.seen) (sym same) ∙ sound.own ∙ stays.made ∙ made in
    let later : Begins h z.seen = subst (λ g. Begins g z.seen) seen sound.later in
    let line : chart_of z.seen z.number ≡ chart_of h s = ap (chart_of z.seen) same ∙ same_line n h z.seen later s own_z in
    omega (arith, why.2, ap length line, may.3)
not_refused n k h s r m x y z Full number size capacity seen made region may sound stays memory why =
    let line : waiting y.seen y.number r ≡ waiting h s r = ap (λ g. waiting g y.number r) seen ∙ ap (λ p. waiting h p r) number in
    omega (arith, why.3.before, ap length line, capacity, may.2)
not_refused n k h s r m x y z Memory number size capacity seen made region may sound stays memory why = memory refl

-- A post that may close a lane isn't refused.
pub closes : (n k : ℕ) (h : List Occurrence) (s r : ℕ) (y : PostView) (error : CloseError) → y.number ≡ s → y.board.size ≡ n → y.made ≡ own h s → MayFollow n k h (Close s r) → IsUnclosed y r error → ⊥
closes n k h s r y unclosed.NoSuchInstance number size made may why = omega (arith, why, size, may.0.3)
closes n k h s r y unclosed.ToItself number size made may why = may.0.4 (sym number ∙ sym why)
closes n k h s r y unclosed.Closed number size made may why =
    false≢true (sym may.1 ∙ sym (closed_own h s r) ∙ ap (λ g. is_closed g s r) (sym made) ∙ ap (λ p. is_closed y.made p r) (sym number) ∙ why.1)

-- One post made an event, and all posts have met.
module _ (n k : ℕ) (h : List Occurrence) (e : Occurrence) (s : ℕ) (old posts now new : List PostView) (on : AreOn n k h old posts) (i : ℕ) (y w : PostView) (at : slice_get posts i ≡ Some y) (number : y.number ≡ s)
    (before : List Occurrence) (sound : Sound y w) (makes : Makes y before (e ∷ []) w) (its : by e ≡ s) (put : now ≡ set posts i w) where
  y_from : HasCome n k h old i y
  y_from = come n k h old posts on i y at

  pub w_there : slice_get now i ≡ Some w
  w_there = ap (λ xs. slice_get xs i) put ∙ set_there posts i w (at_within posts i y at)

  pub others_there : (j : ℕ) (z : PostView) → (j ≡ i → ⊥) → slice_get now j ≡ Some z → slice_get posts j ≡ Some z
  others_there j z ne there = sym (set_apart posts i j w ne) ∙ ap (λ xs. slice_get xs j) (sym put) ∙ there

  -- each of these posts is of the board, and has seen no more than the post that made the event
  w_begins : Begins h w.seen
  w_begins = subst (λ g. Begins g w.seen) y_from.carried.seen sound.later

  pub now_one : AreOfOneBoard now
  now_one a b x z at_a at_b = board_of a x at_a ∙ sym (board_of b z at_b)
    where
      board_of : (j : ℕ) (z : PostView) → slice_get now j ≡ Some z → z.board ≡ y.board
      board_of j z there = elim (cases_eq j i) [
        | inl same ↦ ap (λ (post : PostView). post.board) (one_ahead now i z w (subst (λ t. slice_get now t ≡ Some z) same there) w_there) ∙ sound.same.board
        | inr ne ↦ one_board n k h old posts on j i z y (others_there j z ne there) at
      ]

  pub ahead : HasSeenAll now i
  ahead = (
    w,
    w_there,
    λ j z there. elim (cases_eq j i) [
      | inl same ↦ subst (λ (x : PostView). Begins x.seen w.seen) (sym (one_ahead now i z w (subst (λ t. slice_get now t ≡ Some z) same there) w_there)) (begins_same w.seen)
      | inr ne ↦ subst (λ g. Begins g w.seen) (sym (come n k h old posts on j z (others_there j z ne there)).carried.seen) w_begins
    ],
  )

  -- Their common history is the one before with the event, and nothing else.
  module _ (met : HaveMet now new) where
    abbrev g : List Occurrence
    g = met.history

    w_joint : IsJoint g w
    w_joint = met.joint i w w_there

    w_number : w.number ≡ s
    w_number = sound.same.number ∙ number

    g_legal : IsLegal n k g
    g_legal = subst (λ m. IsLegal m k g) (ap (λ b. b.size) sound.same.board ∙ y_from.size) (subst (λ c. IsLegal w.board.size c g) (ap (λ b. b.capacity) sound.same.board ∙ y_from.capacity) w_joint.legal)

    mine : own g s ≡ e ∷ own h s
    mine = ap (own g) (sym w_number) ∙ w_joint.own ∙ makes.made ∙ ap (λ x. e ∷ x) (y_from.carried.made ∙ ap (own h) number)

    -- the events of another post are as before
    its_own : (j : ℕ) (z : PostView) → (j ≡ i → ⊥) → slice_get posts j ≡ Some z → own g z.number ≡ own h z.number
    its_own j z ne there = (met.joint j z (ap (λ xs. slice_get xs j) put ∙ set_apart posts i j w ne ∙ there)).own ∙ (come n k h old posts on j z there).carried.made

    others : (q : ℕ) → 1 ≤ q → q ≤ n → q ≢ s → own g q ≡ own h q
    others q low high ne =
        let (j, z, there, zn) = has_post n k h old posts on q low high in
        let apart : j ≡ i → ⊥ = λ same. ne (sym zn ∙ ap (λ (post : PostView). post.number) (one_ahead posts i z y (subst (λ t. slice_get posts t ≡ Some z) same there) at) ∙ number) in
        ap (own g) (sym zn) ∙ its_own j z apart there ∙ ap (own h) zn

    all_seen : g ≡ e ∷ h
    all_seen = all_after n k h before g e s its g_legal (subst (λ x. Begins x before) y_from.carried.seen makes.later) (subst (λ x. Begins x g) makes.seen w_joint.later) mine others

    pub goes_on : ((q p : ℕ) → received (e ∷ h) q p ≡ 0) → ((x : PostView) → y.room ≡ x.room - length (chart_of h y.number) → w.room ≡ x.room - length (chart_of (e ∷ h) s)) → AreOn n k (e ∷ h) old new
    goes_on unreceived room = record {
      are = on.are;
      unreceived = unreceived;
      as_many = ap length met.seen ∙ length-map now (λ (post : PostView). record post { seen = g }) ∙ ap length put ∙ length-set posts i w ∙ on.as_many;
      each = λ j x z2 at_old at_new.
          let (z, there, is) = map_there (λ (post : PostView). record post { seen = g }) now j z2 (ap (λ xs. slice_get xs j) (sym met.seen) ∙ at_new) in
          subst (λ (z2 : PostView). HasCarried (e ∷ h) (length (chart_of (e ∷ h) z2.number)) x z2) is (elim (cases_eq j i) [
            | inl here ↦
                let z_is : w ≡ z = one_ahead now i w z w_there (subst (λ t. slice_get now t ≡ Some z) here there) in
                let x_is : y_from.from ≡ x = one_ahead old i y_from.from x y_from.at (subst (λ t. slice_get old t ≡ Some x) here at_old) in
                subst (λ (z : PostView). HasCarried (e ∷ h) (length (chart_of (e ∷ h) z.number)) x (record z { seen = g })) z_is
                (subst (λ (x : PostView). HasCarried (e ∷ h) (length (chart_of (e ∷ h) w.number)) x (record w { seen = g })) x_is (record {
                  same = record { board = sound.same.board ∙ y_from.carried.same.board; number = sound.same.number ∙ y_from.carried.same.number };
                  seen = all_seen;
                  made = sym w_joint.own ∙ ap (λ f. own f w.number) all_seen;
                  region = makes.region ∙ y_from.carried.region;
                  looks = omega (arith, y_from.carried.looks, sound.looks);
                  room = room y_from.from y_from.carried.room ∙ ap (λ q. y_from.from.room - length (chart_of (e ∷ h) q)) (sym w_number);
                }))
            | inr ne ↦
                let was = others_there j z ne there in
                let c = come n k h old posts on j z was in
                let x_is : c.from ≡ x = one_ahead old j c.from x c.at at_old in
                let apart : by e ≡ z.number → ⊥ = λ same. omega (arith, ap length mine, ap length (ap (own g) (sym its ∙ same) ∙ its_own j z ne was ∙ ap (own h) (sym same ∙ its))) in
                subst (λ (x : PostView). HasCarried (e ∷ h) (length (chart_of (e ∷ h) z.number)) x (record z { seen = g })) x_is (record {
                  same = record { board = c.carried.same.board; number = c.carried.same.number };
                  seen = all_seen;
                  made = c.carried.made ∙ sym (ap (λ b. cond b (e ∷ own h z.number) (own h z.number)) (ne_eqb (by e) z.number apart));
                  region = c.carried.region;
                  looks = c.carried.looks;
                  room = c.carried.room ∙ ap (λ l. c.from.room - length l) (sym (line_of_other h e z.number apart));
                })
          ]);
    }

-- a send puts one event on its sender's line
grown : (h : List Occurrence) (s r : ℕ) (m : Content) → length (chart_of (Send s r m ∷ h) s) ≡ length (chart_of h s) + 1
grown h s r m = ap length (ap (λ b. chart_of h s ++ cond b (send_event r m.name ∷ []) []) (eq-eqb s s refl)) ∙ length-append (chart_of h s) (send_event r m.name ∷ [])

-- The sender of the next message isn't refused, and then the posts have gone on by this send.
module _ (n k : ℕ) (h : List Occurrence) (s r : ℕ) (m : Content) (old posts : List PostView) (go : MayGoOn n k h (Send s r m ∷ h) old posts) (i : ℕ) (y : PostView) (at : slice_get posts i ≡ Some y) (number : y.number ≡ s) where
  y_come : HasCome n k h old i y
  y_come = come n k h old posts go.on i y at

  has_room : 0 < y.room
  has_room =
      let room = go.room i y_come.from y_come.at in
      let its : y_come.from.number ≡ s = sym y_come.carried.same.number ∙ number in
      omega (arith, room, ap (λ p. length (chart_of (Send s r m ∷ h) p)) its, ap (λ p. length (chart_of h p)) number, grown h s r m, y_come.carried.room)

  nothing : HasReceivedNothing y
  nothing q = ap (λ f. received f q y.number) y_come.carried.made ∙ received_own h q y.number ∙ go.on.unreceived q y.number

  pub sends_on : (z : PostView) (error : SendError) → Sound y z → Stays y z → (0 < y.room → HasReceivedNothing y → error ≢ Memory) → IsUnsent y r 1 error z → ⊥
  sends_on z error sound stays memory why =
      not_refused n k h s r m y y z error number y_come.size y_come.capacity y_come.carried.seen (y_come.carried.made ∙ ap (own h) number) y_come.carried.region go.legal.0 sound stays (memory has_room nothing) why

  pub sent_on : (now new : List PostView) (w : PostView) (before : List Occurrence) → Sound y w → Makes y before (Send s r m ∷ []) w → w.room ≡ y.room - 1 → now ≡ set posts i w → HaveMet now new → AreOn n k (Send s r m ∷ h) old new
  sent_on now new w before sound makes room put met =
      goes_on n k h (Send s r m) s old posts now new go.on i y w at number before sound makes refl put met go.on.unreceived
      (λ x was. let line = ap (λ p. length (chart_of h p)) number in let more = grown h s r m in omega (arith, room, was, line, more))

-- The same holds for the next close.
module _ (n k : ℕ) (h : List Occurrence) (s r : ℕ) (old posts : List PostView) (go : MayGoOn n k h (Close s r ∷ h) old posts) (i : ℕ) (y : PostView) (at : slice_get posts i ≡ Some y) (number : y.number ≡ s) where
  closing : HasCome n k h old i y
  closing = come n k h old posts go.on i y at

  pub closes_on : (error : CloseError) → IsUnclosed y r error → ⊥
  closes_on error why = closes n k h s r y error number closing.size (closing.carried.made ∙ ap (own h) number) go.legal.0 why

  pub closed_on : (now new : List PostView) (w : PostView) (before : List Occurrence) → Sound y w → Makes y before (Close s r ∷ []) w → w.room ≡ y.room → now ≡ set posts i w → HaveMet now new → AreOn n k (Close s r ∷ h) old new
  closed_on now new w before sound makes room put met =
      goes_on n k h (Close s r) s old posts now new go.on i y w at number before sound makes refl put met go.on.unreceived
      (λ x was. room ∙ was ∙ ap (λ l. x.room - length l) (ap (chart_of h) number ∙ sym (append-nil (chart_of h s))))
