-- A post without an event that closed no lane has made nothing.
use Rattle.std.proofs.Common.{◌≡◌, ◌≢◌, ℕ, ◌+◌, ◌<◌, ◌≤◌, ◌==◌, ◌||◌, Bool, true, false, cond, List, [], ◌∷◌, ◌++◌, length, refl, sym, ap, ◌∙◌, subst, arith, append-nil, length-append}
use Rattle.std.proofs.lemmas.Bool.{false≢true, eqb-true, eqb-false}
use Rattle.chart.specs.declared.history.Occurrence.{Occurrence}
use Rattle.chart.specs.declared.history.Occurrence.TheVariants.{Send, Receive, Close}
use Rattle.chart.specs.Messages.{Content}
use Rattle.chart.specs.Events.{send_event}
use Rattle.chart.specs.Histories.{own, is_closed, waiting, receive_of, line_gets, chart_of, IsLegal}
use Rattle.chart.proofs.Histories.{is_lane-from, is_closed-close, closed_own}
use Rattle.board.specs.Views.{PostView, Sound, line_of}

one_event : (ms : List Content) (q c : ℕ) → 0 < length ms → length (receive_of ms q c) ≡ 1
one_event [] q c some = absurd (omega (arith, some))
one_event (m ∷ ms) q c some = refl

-- a list with an element isn't empty
put_first : {X : Type 0} (x : X) (xs : List X) → x ∷ xs ≡ [] → ⊥
put_first x xs same = cc

-- an instance of a legal history did nothing if it has no event and closed no lane
pub nothing_done : (n k : ℕ) (h : List Occurrence) → IsLegal n k h → (p : ℕ) → length (chart_of h p) ≡ 0
    → ((to : ℕ) → 1 ≤ to → to ≤ n → to ≢ p → is_closed h p to ≡ false) → own h p ≡ []
nothing_done n k [] legal p none opened = refl
nothing_done n k (Send a b m ∷ h) legal p none opened =
    go (a == p) refl (λ fewer. nothing_done n k h legal.1 p fewer opened)
  where
    gets : length (chart_of h p) + length (line_gets h p (Send a b m)) ≡ 0
    gets = sym (length-append (chart_of h p) (line_gets h p (Send a b m))) ∙ none

    go : (mine : Bool) → (a == p) ≡ mine → (length (chart_of h p) ≡ 0 → own h p ≡ []) → cond mine (Send a b m ∷ own h p) (own h p) ≡ []
    go true same later = absurd (let one : length (line_gets h p (Send a b m)) ≡ 1 = rw same refl in omega (arith, gets, one))
    go false other later = later (omega (arith, gets))
nothing_done n k (Receive a b c ∷ h) legal p none opened =
    go (a == p) refl (λ fewer. nothing_done n k h legal.1 p fewer opened)
  where
    gets : length (chart_of h p) + length (line_gets h p (Receive a b c)) ≡ 0
    gets = sym (length-append (chart_of h p) (line_gets h p (Receive a b c))) ∙ none

    go : (mine : Bool) → (a == p) ≡ mine → (length (chart_of h p) ≡ 0 → own h p ≡ []) → cond mine (Receive a b c ∷ own h p) (own h p) ≡ []
    go true same later = absurd (let one : length (line_gets h p (Receive a b c)) ≡ 1 = rw same (one_event (waiting h b a) b c legal.0.1) in omega (arith, gets, one))
    go false other later = later (omega (arith, gets))
nothing_done n k (Close a b ∷ h) legal p none opened =
    go (a == p) refl (λ still. nothing_done n k h legal.1 p (ap length (sym (append-nil (chart_of h p))) ∙ none) still)
  where
    go : (mine : Bool) → (a == p) ≡ mine → (((to : ℕ) → 1 ≤ to → to ≤ n → to ≢ p → is_closed h p to ≡ false) → own h p ≡ []) → cond mine (Close a b ∷ own h p) (own h p) ≡ []
    go true same later =
        let it : a ≡ p = eqb-true a p same in
        absurd (false≢true (sym (opened b legal.0.0.2 legal.0.0.3 (λ back. legal.0.0.4 (it ∙ sym back)))
        ∙ subst (λ (q : ℕ). is_closed (Close a b ∷ h) q b ≡ true) it (is_closed-close h a b)))
    go false other later = later (λ to low high ne.
        ap (λ (lane : Bool). lane || is_closed h p to) (sym (is_lane-from a b p to (λ same. eqb-false a p other (sym same)))) ∙ opened to low high ne)

-- and if it did nothing, it has no event
pub no_event : (h : List Occurrence) (p : ℕ) → own h p ≡ [] → length (chart_of h p) ≡ 0
no_event [] p none = refl
no_event (Send a b m ∷ h) p none = go (a == p) none (no_event h p)
  where
    go : (mine : Bool) → cond mine (Send a b m ∷ own h p) (own h p) ≡ [] → (own h p ≡ [] → length (chart_of h p) ≡ 0) → length (chart_of h p ++ cond mine (send_event b m.name ∷ []) []) ≡ 0
    go true some later = absurd (put_first (Send a b m) (own h p) some)
    go false fewer later = ap length (append-nil (chart_of h p)) ∙ later fewer
no_event (Receive a b c ∷ h) p none = go (a == p) none (no_event h p)
  where
    go : (mine : Bool) → cond mine (Receive a b c ∷ own h p) (own h p) ≡ [] → (own h p ≡ [] → length (chart_of h p) ≡ 0) → length (chart_of h p ++ cond mine (receive_of (waiting h b a) b c) []) ≡ 0
    go true some later = absurd (put_first (Receive a b c) (own h p) some)
    go false fewer later = ap length (append-nil (chart_of h p)) ∙ later fewer
no_event (Close a b ∷ h) p none = go (a == p) none (no_event h p)
  where
    go : (mine : Bool) → cond mine (Close a b ∷ own h p) (own h p) ≡ [] → (own h p ≡ [] → length (chart_of h p) ≡ 0) → length (chart_of h p ++ []) ≡ 0
    go true some later = absurd (put_first (Close a b) (own h p) some)
    go false fewer later = ap length (append-nil (chart_of h p)) ∙ later fewer

-- the same of a post
pub has_made_nothing : (post : PostView) → Sound post post → length (line_of post) ≡ 0
    → ((to : ℕ) → 1 ≤ to → to ≤ post.board.size → to ≢ post.number → is_closed post.made post.number to ≡ false) → post.made ≡ []
has_made_nothing post sound none opened = sym sound.own ∙ nothing_done post.board.size post.board.capacity post.seen sound.legal post.number none (λ to low high ne.
    sym (closed_own post.seen post.number to) ∙ ap (λ (g : List Occurrence). is_closed g post.number to) sound.own ∙ opened to low high ne)

pub has_no_event : (post : PostView) → Sound post post → post.made ≡ [] → length (line_of post) ≡ 0
has_no_event post sound none = no_event post.seen post.number (sound.own ∙ none)

pub has_closed_none : (post : PostView) → post.made ≡ [] → (to : ℕ) → is_closed post.made post.number to ≡ true → ⊥
has_closed_none post none to closed = false≢true (sym (ap (λ (g : List Occurrence). is_closed g post.number to) none) ∙ closed)
