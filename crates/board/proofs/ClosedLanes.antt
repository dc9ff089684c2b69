-- The lanes that a board's posts closed, found one after another.
use Rattle.std.proofs.Common.{◌≡◌, ℕ, ◌≤◌, Bool, true, false, cond, List, [], ◌∷◌, ◌++◌, refl, sym, ap, ap₂, ◌∙◌, append-nil}
use Rattle.std.specs.Prelude.{filter}
use native.Mathlib.Decide.{ℕ_discrete as dec_eq}
use Rattle.std.proofs.lemmas.List.{map_push}
use Rattle.std.proofs.lemmas.List.Elements.{filter-append}
use Rattle.chart.specs.declared.history.Occurrence.{Occurrence}
use Rattle.chart.specs.declared.history.Occurrence.TheVariants.{Send, Receive, Close}
use Rattle.chart.specs.Histories.{is_closed, IsLegal}
use Rattle.chart.proofs.Histories.{is_lane-from, is_lane-to, closed_own}
use Rattle.board.specs.declared.gathering.ClosedLane.{ClosedLane}
use Rattle.board.specs.Views.{PostView}
use Rattle.board.specs.Gathering.{AreJoint, LaneEnds, lane_to, is_closed_lane, closed_view}
use Rattle.board.specs.Parting.{IsAmong, AreOf, AreClosed}
use Rattle.board.proofs.RoomsMade.{joint_legal}

-- no instance has closed a lane to itself
back_closed : (n k : ℕ) (h : List Occurrence) → IsLegal n k h → (p : ℕ) → is_closed h p p ≡ false
back_closed n k [] legal p = refl
back_closed n k (Send a b m ∷ h) legal p = back_closed n k h legal.1 p
back_closed n k (Receive a b c ∷ h) legal p = back_closed n k h legal.1 p
back_closed n k (Close a b ∷ h) legal p = go (dec_eq p a) (back_closed n k h legal.1 p)
  where
    go : Dec (p ≡ a) → is_closed h p p ≡ false → is_closed (Close a b ∷ h) p p ≡ false
    go (yes same) before = rw (is_lane-to a b p p (λ other. legal.0.0.4 (sym same ∙ other))) before
    go (no ne) before = rw (is_lane-from a b p p ne) before

pub none_back : (n k : ℕ) (posts : List PostView) → AreOf n k posts → (number : ℕ) → 1 ≤ number → number ≤ n → (h : List Occurrence) → AreJoint h posts → is_closed_lane h (lane_to number number) ≡ false
none_back n k posts are number low high h joint = back_closed n k h (joint_legal n k posts are number low high h joint) number

-- a lane is closed in each history that the posts have in common exactly if its sender's post closed it
pub closed_is : (posts : List PostView) (post : PostView) → IsAmong posts post → (q p : ℕ) → post.number ≡ q → (its : Bool) → its ≡ is_closed post.made post.number p → (h : List Occurrence) → AreJoint h posts → is_closed_lane h (lane_to q p) ≡ its
closed_is posts post among q p number its same h joint =
    ap (λ (x : ℕ). is_closed h x p) (sym number) ∙ sym (closed_own h post.number p) ∙ ap (λ (g : List Occurrence). is_closed g post.number p) (joint among.0 post among.1).own ∙ sym same

module _ (posts : List PostView) (lanes : List LaneEnds) (closed : List ClosedLane) (have : AreClosed posts lanes closed) (lane : LaneEnds) where
  one_more : (h : List Occurrence) (its : Bool) → is_closed_lane h lane ≡ its → filter (is_closed_lane h) (lanes ++ lane ∷ []) ≡ filter (is_closed_lane h) lanes ++ cond its (lane ∷ []) []
  one_more h its same = filter-append (is_closed_lane h) lanes (lane ∷ []) ∙ ap (λ b. filter (is_closed_lane h) lanes ++ cond b (lane ∷ []) []) same

  pub closed_skip : ((h : List Occurrence) → AreJoint h posts → is_closed_lane h lane ≡ false) → AreClosed posts (lanes ++ lane ∷ []) closed
  closed_skip none = λ h joint. have h joint ∙ sym (append-nil (filter (is_closed_lane h) lanes)) ∙ sym (one_more h false (none h joint))

  pub closed_put : (it : ClosedLane) → closed_view it ≡ lane → ((h : List Occurrence) → AreJoint h posts → is_closed_lane h lane ≡ true) → AreClosed posts (lanes ++ lane ∷ []) (closed ++ it ∷ [])
  closed_put it same some = λ h joint.
      map_push closed_view closed it ∙ ap₂ (λ ls l. ls ++ l ∷ []) (have h joint) same ∙ sym (one_more h true (some h joint))
