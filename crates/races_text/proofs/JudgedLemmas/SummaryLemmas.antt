-- The summary of races, with one more range or receive.
use Rattle.std.proofs.Common.{◌≡◌, List, [], ◌∷◌, ◌++◌, Bool, true, refl, sym, ap, ◌∙◌}
use Rattle.races_text.proofs.NamedLemmas.FoundRaces.{any_more}
use Rattle.races_text.proofs.JudgedLemmas.TextLemmas.{has_more}
use Rattle.races_text.specs.declared.judged.part.Part.{Part}
use Rattle.races_text.specs.declared.judged.summary.RaceSummary.{RaceSummary}
use Rattle.races_text.specs.Judged.Listing.{LuckManner, PartedReport, shows_parts, summary_of}
use Rattle.races_text.specs.Judged.Parts.{is_shown, has_parts}
use Rattle.races_text.specs.Judged.Summaries.{is_claimed, claims_parts, summary_of_parts, summary_with, summary_of_both}

-- summaries with equal fields are equal
same_summary : (a b : RaceSummary) → a.shown ≡ b.shown → a.any ≡ b.any → a.claimed ≡ b.claimed → a ≡ b
same_summary a b shown any claimed =
    ap (λ (s : Bool). record { shown = s; any = a.any; claimed = a.claimed }) shown
    ∙ ap (λ (s : Bool). record { shown = b.shown; any = s; claimed = a.claimed }) any
    ∙ ap (λ (s : Bool). record { shown = b.shown; any = b.any; claimed = s }) claimed

has_one : (parts : List Part) (p : Part) → has_parts (parts ++ p ∷ []) ≡ true
has_one [] p = refl
has_one (x ∷ parts) p = refl

-- with one more range
pub summary_push : (luck : Bool) (summary : RaceSummary) (parts : List Part) (p : Part) → summary ≡ summary_of_parts luck parts
    → summary_with summary (is_shown luck p) p.verdict ≡ summary_of_parts luck (parts ++ p ∷ [])
summary_push luck summary parts p was =
    ap (λ (t : RaceSummary). summary_with t (is_shown luck p) p.verdict) was
    ∙ same_summary (summary_with (summary_of_parts luck parts) (is_shown luck p) p.verdict) (summary_of_parts luck (parts ++ p ∷ [])) (sym (has_more luck parts p)) (sym (has_one parts p))
    (any_more (λ (q : Part). is_claimed q.verdict) parts p (claims_parts parts) (is_claimed p.verdict) refl refl)

-- with one more receive
pub summary_next : (manner : LuckManner) (parted : List PartedReport) (p : PartedReport) (summary more : RaceSummary) → summary ≡ summary_of manner parted → more ≡ summary_of_parts manner.luck p.parts
    → summary_of_both summary more ≡ summary_of manner (parted ++ p ∷ [])
summary_next manner parted p summary more was is =
    same_summary (summary_of_both summary more) (summary_of manner (parted ++ p ∷ []))
    (any_more (shows_parts manner) parted p summary.shown more.shown (ap (λ (t : RaceSummary). t.shown) was) (ap (λ (t : RaceSummary). t.shown) is))
    (any_more (λ (q : PartedReport). has_parts q.parts) parted p summary.any more.any (ap (λ (t : RaceSummary). t.any) was) (ap (λ (t : RaceSummary). t.any) is))
    (any_more (λ (q : PartedReport). claims_parts q.parts) parted p summary.claimed more.claimed (ap (λ (t : RaceSummary). t.claimed) was) (ap (λ (t : RaceSummary). t.claimed) is))
