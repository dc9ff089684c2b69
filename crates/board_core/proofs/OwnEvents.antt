-- What stays the same for an instance that does nothing while the history goes on, and what one call adds to the
-- instance's own events.
use Rattle.std.proofs.Common.{◌≡◌, ◌≢◌, ℕ, ◌==◌, ◌&&◌, Bool, true, false, cond, List, [], ◌∷◌, ◌++◌, length, refl, sym, ap, ◌∙◌, arith}
use Rattle.std.proofs.lemmas.Bool.{eq-eqb, ne_eqb}
use Rattle.chart.specs.declared.history.Occurrence.{Occurrence}
use Rattle.chart.specs.declared.history.Occurrence.TheVariants.{Send, Receive, Close}
use Rattle.chart.specs.Histories.{own, chart_of, IsLegal, Begins}
use Rattle.chart.proofs.Histories.{begins_same, begins_onward}
use Rattle.line_recorder.specs.Carried.{knowledge_of}
use Rattle.line_recorder.specs.Recorders.{RecorderView}
use Rattle.line_recorder.specs.Recording.{IsRecorder}
use Rattle.line_recorder.proofs.Recording.{IsRecorder-idle}
use Rattle.board_core.specs.Parcels.{Parcel, next_clock, goods}
use Rattle.board_core.specs.Instances.{IsInstance}
use Rattle.board_core.specs.World.{with_sends, with_receives}
use Rattle.board_core.proofs.GoodsLemmas.{own_grows, others_leave, others_law}
use Rattle.board_core.proofs.Standing.{stands_idle}

-- events of others leave what an instance's lanes carry as it was
goods_left : (n : ℕ) (more h : List Occurrence) (q p : ℕ) → own (more ++ h) q ≡ own h q → goods n (more ++ h) q p ≡ goods n h q p
goods_left n [] h q p same = refl
goods_left n (Send a b m ∷ more) h q p same = go (a == q) same (λ i. goods_left n more h q p i)
  where
    x : Parcel
    x = record { message = m; clock = next_clock n (more ++ h) a }

    go : (mine : Bool) → cond mine (Send a b m ∷ own (more ++ h) q) (own (more ++ h) q) ≡ own h q → (own (more ++ h) q ≡ own h q → goods n (more ++ h) q p ≡ goods n h q p) → cond (mine && (b == p)) (goods n (more ++ h) q p ++ x ∷ []) (goods n (more ++ h) q p) ≡ goods n h q p
    go true same rest = absurd (omega (arith, ap length same, own_grows more h q))
    go false same rest = rest same
goods_left n (Receive a b c ∷ more) h q p same = go (a == q) same (λ i. goods_left n more h q p i)
  where
    go : (mine : Bool) → cond mine (Receive a b c ∷ own (more ++ h) q) (own (more ++ h) q) ≡ own h q → (own (more ++ h) q ≡ own h q → goods n (more ++ h) q p ≡ goods n h q p) → goods n (more ++ h) q p ≡ goods n h q p
    go true same rest = absurd (omega (arith, ap length same, own_grows more h q))
    go false same rest = rest same
goods_left n (Close a b ∷ more) h q p same = go (a == q) same (λ i. goods_left n more h q p i)
  where
    go : (mine : Bool) → cond mine (Close a b ∷ own (more ++ h) q) (own (more ++ h) q) ≡ own h q → (own (more ++ h) q ≡ own h q → goods n (more ++ h) q p ≡ goods n h q p) → goods n (more ++ h) q p ≡ goods n h q p
    go true same rest = absurd (omega (arith, ap length same, own_grows more h q))
    go false same rest = rest same

-- The history g begins with h, and has the same events of p.

module _ (n : ℕ) (h g : List Occurrence) (begins : Begins h g) where
  pub same_goods : (q p : ℕ) → own g q ≡ own h q → goods n g q p ≡ goods n h q p
  same_goods q p same = ap (λ x. goods n x q p) begins.1 ∙ goods_left n begins.0 h q p (ap (λ x. own x q) (sym begins.1) ∙ same)

  pub same_line : (p : ℕ) → own g p ≡ own h p → chart_of g p ≡ chart_of h p
  same_line p same = (others_law n h g begins p same).0

  pub same_next_clock : (p : ℕ) → own g p ≡ own h p → next_clock n g p ≡ next_clock n h p
  same_next_clock p same = (others_law n h g begins p same).1

  pub same_knowledge : (p : ℕ) → own g p ≡ own h p → knowledge_of n g p ≡ knowledge_of n h p
  same_knowledge p same = ap (λ x. knowledge_of n x p) begins.1 ∙ (others_leave n begins.0 h p (ap (λ x. own x p) (sym begins.1) ∙ same)).1

  pub same_recorder : (k p : ℕ) (r : RecorderView) → IsLegal n k h → own g p ≡ own h p → IsRecorder n h p r → IsRecorder n g p r
  same_recorder k p r legal same = IsRecorder-idle n k h g p r legal begins (same_line p same) (same_knowledge p same)

  pub same_instance : (k p : ℕ) (r : RecorderView) (region : ℕ) → IsLegal n k h → own g p ≡ own h p → IsInstance n h p r region → IsInstance n g p r region
  same_instance k p r region legal same = stands_idle n k h g p r region legal begins (same_line p same) (same_knowledge p same)

-- Several sends or receives of one call.

pub sends_begin : (h : List Occurrence) (q p : ℕ) (xs : List Parcel) → Begins h (with_sends h q p xs)
sends_begin h q p [] = begins_same h
sends_begin h q p (x ∷ xs) = begins_onward h (Send q p x.message ∷ h) (with_sends (Send q p x.message ∷ h) q p xs) (Send q p x.message ∷ [], refl) (sends_begin (Send q p x.message ∷ h) q p xs)

pub receives_begin : (h : List Occurrence) (p q c : ℕ) (xs : List Parcel) → Begins h (with_receives h p q c xs)
receives_begin h p q c [] = begins_same h
receives_begin h p q c (x ∷ xs) = begins_onward h (Receive p q c ∷ h) (with_receives (Receive p q c ∷ h) p q c xs) (Receive p q c ∷ [], refl) (receives_begin (Receive p q c ∷ h) p q c xs)

-- the instance's own events are these
pub own_sends : (h : List Occurrence) (q p : ℕ) (xs : List Parcel) → own (with_sends h q p xs) q ≡ with_sends (own h q) q p xs
own_sends h q p [] = refl
own_sends h q p (x ∷ xs) = own_sends (Send q p x.message ∷ h) q p xs ∙ ap (λ its. with_sends (cond its (Send q p x.message ∷ own h q) (own h q)) q p xs) (eq-eqb q q refl)

pub own_receives : (h : List Occurrence) (p q c : ℕ) (xs : List Parcel) → own (with_receives h p q c xs) p ≡ with_receives (own h p) p q c xs
own_receives h p q c [] = refl
own_receives h p q c (x ∷ xs) = own_receives (Receive p q c ∷ h) p q c xs ∙ ap (λ its. with_receives (cond its (Receive p q c ∷ own h p) (own h p)) p q c xs) (eq-eqb p p refl)

-- the events of another instance stay as they were
pub own_sends-other : (h : List Occurrence) (q p s : ℕ) (xs : List Parcel) → q ≢ s → own (with_sends h q p xs) s ≡ own h s
own_sends-other h q p s [] ne = refl
own_sends-other h q p s (x ∷ xs) ne = own_sends-other (Send q p x.message ∷ h) q p s xs ne ∙ ap (λ its. cond its (Send q p x.message ∷ own h s) (own h s)) (ne_eqb q s ne)

pub own_receives-other : (h : List Occurrence) (p q c s : ℕ) (xs : List Parcel) → p ≢ s → own (with_receives h p q c xs) s ≡ own h s
own_receives-other h p q c s [] ne = refl
own_receives-other h p q c s (x ∷ xs) ne = own_receives-other (Receive p q c ∷ h) p q c s xs ne ∙ ap (λ its. cond its (Receive p q c ∷ own h s) (own h s)) (ne_eqb p s ne)
