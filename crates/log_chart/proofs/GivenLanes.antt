-- The invented sends of one lane.
use Rattle.std.proofs.Common.{◌≡◌, ℕ, ◌==◌, ◌&&◌, not, Bool, true, false, cond, List, [], ◌∷◌, ◌++◌, Option, None, Some, refl, sym, ap, ap₂, ◌∙◌, eqb-true, eq-eqb}
use Rattle.std.specs.Prelude.{is_none}
use Rattle.std.proofs.lemmas.Bool.{and_parts, false≢true}
use Rattle.log_chart.specs.Begun.{newer, lasts_after, is_begun, begun_of, begun_from, behind, heads, heads_to}
use Rattle.log_chart.specs.Entries.{is_send}
use Rattle.log_chart.specs.Fates.{sender_of, receiver_of, is_on, is_sent_at}
use Rattle.log_chart.specs.LaneTables.{LaneSends}
use Rattle.log_chart.specs.declared.begun.Begun.{Begun}
use Rattle.log_chart.specs.declared.matching.LogLine.{LogLine}
use Rattle.log_chart.proofs.LaneLists.{Taking}
use Rattle.log_chart.proofs.BegunLanes.{with_begun, last_after, begun_lane, behind_lane}
use Rattle.log_chart.proofs.LogLanes.{LineFits, Fits, taking_of, takes_on}

-- the invented sends of the lane from q to p
abbrev pub given_of : Begun → Taking
given_of b = record { number = b.receive; send = b.behind }

abbrev pub given_on : ℕ → ℕ → List Begun → List Taking
given_on q p [] = []
given_on q p (b ∷ given) = cond (b.sender == q && b.receiver == p) (given_of b ∷ given_on q p given) (given_on q p given)

-- they are invented for the lane's receives
pub given_lane : (from to : ℕ → ℕ) (q p : ℕ) (lasts : LaneSends) (lines : List LogLine) → Fits from to lines → given_on q p (begun_from lasts lines) ≡ begun_lane (lasts q p) (takes_on q p lines)
unfolding begun_from
given_lane from to q p lasts [] fits = refl
given_lane from to q p lasts (x ∷ lines) fits = go (is_send x.entry.kind) refl x.send refl (given_lane from to q p (lasts_after lasts x) lines fits.1)
  where
    Goal : Bool → Option ℕ → Type 0
    Goal sends send =
        given_on q p (cond (not sends && is_none send) (begun_of lasts x ∷ []) [] ++ begun_from (lasts_after lasts x) lines)
        ≡ begun_lane (lasts q p) (cond (not sends && (cond sends x.entry.host x.entry.peer == q && cond sends x.entry.peer x.entry.host == p)) (taking_of x ∷ takes_on q p lines) (takes_on q p lines))

    same_last : (its : Bool) (last : Option ℕ) → cond its (newer None last) last ≡ last
    same_last true last = refl
    same_last false last = refl

    -- a line that takes no send leaves the last send
    stays_last : x.send ≡ None → lasts_after lasts x q p ≡ lasts q p
    stays_last none = ap (λ t. cond (is_on q p x) (newer t (lasts q p)) (lasts q p)) none ∙ same_last (is_on q p x) (lasts q p)

    begins : is_send x.entry.kind ≡ false → x.send ≡ None → (its : Bool) → (x.entry.peer == q && x.entry.host == p) ≡ its
        → given_on q p (begun_from (lasts_after lasts x) lines) ≡ begun_lane (lasts_after lasts x q p) (takes_on q p lines)
        → cond its (given_of (begun_of lasts x) ∷ given_on q p (begun_from (lasts_after lasts x) lines)) (given_on q p (begun_from (lasts_after lasts x) lines))
        ≡ begun_lane (lasts q p) (cond its (taking_of x ∷ takes_on q p lines) (takes_on q p lines))
    begins receives none true on more =
        let ends = and_parts (x.entry.peer == q) (x.entry.host == p) on in
        let last : lasts x.entry.peer x.entry.host ≡ lasts q p = ap₂ lasts (eqb-true x.entry.peer q ends.0) (eqb-true x.entry.host p ends.1) in
        ap₂ (λ (t : Option ℕ) l. record { number = x.number; send = t } ∷ l) last (more ∙ ap (λ t. begun_lane t (takes_on q p lines)) (stays_last none))
        ∙ sym (ap (λ t. with_begun t x.number (lasts q p) (begun_lane (last_after t (lasts q p)) (takes_on q p lines))) none)
    begins receives none false off more = more ∙ ap (λ t. begun_lane t (takes_on q p lines)) (stays_last none)

    takes : (s : ℕ) → is_send x.entry.kind ≡ false → x.send ≡ Some s → (its : Bool) → (x.entry.peer == q && x.entry.host == p) ≡ its
        → given_on q p (begun_from (lasts_after lasts x) lines) ≡ begun_lane (lasts_after lasts x q p) (takes_on q p lines)
        → given_on q p (begun_from (lasts_after lasts x) lines) ≡ begun_lane (lasts q p) (cond its (taking_of x ∷ takes_on q p lines) (takes_on q p lines))
    takes s receives send true on more =
        let it : is_on q p x ≡ true = ap (λ b. cond b x.entry.host x.entry.peer == q && cond b x.entry.peer x.entry.host == p) receives ∙ on in
        let last : lasts_after lasts x q p ≡ Some s = ap₂ (λ b t. cond b (newer t (lasts q p)) (lasts q p)) it send in
        more ∙ ap (λ t. begun_lane t (takes_on q p lines)) last
        ∙ sym (ap (λ t. with_begun t x.number (lasts q p) (begun_lane (last_after t (lasts q p)) (takes_on q p lines))) send)
    takes s receives send false off more =
        let it : is_on q p x ≡ false = ap (λ b. cond b x.entry.host x.entry.peer == q && cond b x.entry.peer x.entry.host == p) receives ∙ off in
        more ∙ ap (λ t. begun_lane t (takes_on q p lines)) (ap (λ b. cond b (newer x.send (lasts q p)) (lasts q p)) it)

    go : (sends : Bool) → is_send x.entry.kind ≡ sends → (send : Option ℕ) → x.send ≡ send
        → given_on q p (begun_from (lasts_after lasts x) lines) ≡ begun_lane (lasts_after lasts x q p) (takes_on q p lines) → Goal sends send
    go true e send f more = more ∙ ap (λ t. begun_lane t (takes_on q p lines)) (stays_last (fits.0.no_send e))
    go false e None f more = begins e f (x.entry.peer == q && x.entry.host == p) refl more
    go false e (Some s) f more = takes s e f (x.entry.peer == q && x.entry.host == p) refl more

-- an invented send follows a send of its lane
abbrev pub GivenFits : (ℕ → ℕ) → (ℕ → ℕ) → List Begun → Type 0
GivenFits from to [] = Unit {0}
GivenFits from to (b ∷ given) = ((s : ℕ) → b.behind ≡ Some s → (from s ≡ b.sender) × (to s ≡ b.receiver)) × GivenFits from to given

abbrev LastsFit : (ℕ → ℕ) → (ℕ → ℕ) → LaneSends → Type 0
LastsFit from to lasts = (q p s : ℕ) → lasts q p ≡ Some s → (from s ≡ q) × (to s ≡ p)

lasts_fit : (from to : ℕ → ℕ) (lasts : LaneSends) (x : LogLine) → LineFits from to x → LastsFit from to lasts → LastsFit from to (lasts_after lasts x)
lasts_fit from to lasts x fits are q p s is = go (is_on q p x) refl x.send refl is
  where
    go : (its : Bool) → is_on q p x ≡ its → (send : Option ℕ) → x.send ≡ send → cond its (newer send (lasts q p)) (lasts q p) ≡ Some s → (from s ≡ q) × (to s ≡ p)
    go true e None f same = are q p s same
    go true e (Some t) f same =
        let ends = and_parts (sender_of x.entry == q) (receiver_of x.entry == p) e in
        let lane = fits.lane s (f ∙ same) in
        (lane.0 ∙ eqb-true (sender_of x.entry) q ends.0, lane.1 ∙ eqb-true (receiver_of x.entry) p ends.1)
    go false e send f same = are q p s same

pub given_fits : (from to : ℕ → ℕ) (lasts : LaneSends) (lines : List LogLine) → Fits from to lines → LastsFit from to lasts → GivenFits from to (begun_from lasts lines)
unfolding begun_from
given_fits from to lasts [] fits are = tt
given_fits from to lasts (x ∷ lines) fits are = go (is_begun x) (given_fits from to (lasts_after lasts x) lines fits.1 (lasts_fit from to lasts x fits.0 are))
  where
    go : (its : Bool) → GivenFits from to (begun_from (lasts_after lasts x) lines) → GivenFits from to (cond its (begun_of lasts x ∷ []) [] ++ begun_from (lasts_after lasts x) lines)
    go true rest = (λ s is. are x.entry.peer x.entry.host s is, rest)
    go false rest = rest

-- those that follow a send of the lane
pub behind_on : (from to : ℕ → ℕ) (q p s : ℕ) → from s ≡ q → to s ≡ p → (given : List Begun) → GivenFits from to given → behind given s ≡ behind_lane (Some s) (given_on q p given)
unfolding behind
behind_on from to q p s from_q to_p [] fits = refl
behind_on from to q p s from_q to_p (b ∷ given) fits = go (is_sent_at s b.behind) refl (b.sender == q && b.receiver == p) refl (behind_on from to q p s from_q to_p given fits.1)
  where
    sent : (t : Option ℕ) → is_sent_at s t ≡ true → t ≡ Some s
    sent None e = absurd (false≢true e)
    sent (Some t) e = ap (λ k. Some k) (eqb-true t s e)

    on_lane : is_sent_at s b.behind ≡ true → (b.sender == q && b.receiver == p) ≡ true
    on_lane e =
        let lane = fits.0 s (sent b.behind e) in
        ap₂ (λ x y. x && y) (eq-eqb b.sender q (sym lane.0 ∙ from_q)) (eq-eqb b.receiver p (sym lane.1 ∙ to_p))

    go : (its : Bool) → is_sent_at s b.behind ≡ its → (on : Bool) → (b.sender == q && b.receiver == p) ≡ on → behind given s ≡ behind_lane (Some s) (given_on q p given)
        → cond its (b.receive ∷ behind given s) (behind given s) ≡ behind_lane (Some s) (cond on (given_of b ∷ given_on q p given) (given_on q p given))
    go true e true f rest = rw e (ap (λ l. b.receive ∷ l) rest)
    go true e false f rest = absurd (false≢true (sym f ∙ on_lane e))
    go false e true f rest = rw e rest
    go false e false f rest = rest

-- those at the head
pub heads_on : (q p : ℕ) (given : List Begun) → heads_to (heads given q) p ≡ behind_lane None (given_on q p given)
unfolding heads_to
heads_on q p [] = refl
heads_on q p (b ∷ given) = go (is_none b.behind) refl (b.sender == q) (b.receiver == p) refl (heads_on q p given)
  where
    go : (none : Bool) → is_none b.behind ≡ none → (sender receiver : Bool) → (b.receiver == p) ≡ receiver → heads_to (heads given q) p ≡ behind_lane None (given_on q p given)
        → heads_to (cond (none && sender) (b ∷ heads given q) (heads given q)) p ≡ behind_lane None (cond (sender && receiver) (given_of b ∷ given_on q p given) (given_on q p given))
    go true e true true f rest = rw (e, f) (ap (λ l. b.receive ∷ l) rest)
    go true e true false f rest = rw f rest
    go true e false receiver f rest = rest
    go false e true true f rest = rw e rest
    go false e true false f rest = rest
    go false e false receiver f rest = rest
