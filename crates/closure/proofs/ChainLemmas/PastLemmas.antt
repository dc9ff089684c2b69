-- What comes before a receive, given what its send knows.
use Rattle.std.proofs.Common.{◌≡◌, ℕ, suc, ◌≤◌, inl, inr, List, length, sym, ◌∙◌, subst, arith, le_refl}
use Rattle.std.specs.Prelude.{slice_index}
use Rattle.std.proofs.lemmas.Bool.{cases_lt}
use Rattle.std.proofs.lemmas.Grind.{same_number_lists}
use Rattle.chart.specs.Charts.{Chart, Place, at, BelongsTo}
use Rattle.chart.proofs.Belongs.{one_sender, same_send}
use Rattle.closure.specs.Searches.{IsReached, IsEarlierReceive}
use Rattle.closure.proofs.BeforeLemmas.{before_received}
use Rattle.closure.specs.Chain.Pasts.{IsPast, OnePastLaw}

-- if this many first events of each line are the send or before it, they are what is before its receive, except for
-- receives above
pub IsPast-from_reached : (n : ℕ) (c : Chart) (s r : Place) (counts : List ℕ) → length counts ≡ n → BelongsTo c s r → IsReached c s counts → IsPast n c r counts
IsPast-from_reached n c s r counts whole belongs reached = record {
  whole = whole;
  reached = (s, belongs, reached);
  before = λ q received e begun.
      let both = before_received c e s r belongs in
      let line : s.instance ≡ q = one_sender c s.instance q r belongs.received received in (
        λ before. elim (both.0 before) [ inl above ↦ inr (subst (λ a. IsEarlierReceive c a e r) line above) | inr up ↦ inl ((reached e begun).0 up) ],
        λ h. elim h [ inl within ↦ both.1 (inr ((reached e begun).1 within)) | inr above ↦ both.1 (inl (subst (λ a. IsEarlierReceive c a e r) (sym line) above)) ],
      );
}

-- one list has no more first events of a line that are a send or before it than another
no_more : (c : Chart) (s : Place) (a b : List ℕ) → IsReached c s a → IsReached c s b → (p : ℕ) → slice_index a p ≤ slice_index b p
no_more c s a b of_a of_b p =
    elim (cases_lt (slice_index b p) (slice_index a p)) [
      | inl less ↦
          let last : Place = at (suc p) (slice_index a p) in
          let begun : 1 ≤ slice_index a p = omega arith in
          (of_b last begun).0 ((of_a last begun).1 (le_refl (slice_index a p)))
      | inr past ↦ past
    ]

-- a receive has only one past
pub one_past : OnePastLaw
one_past n c r a b of_a of_b =
    let s : Place = of_a.reached.0 in
    let same = same_send c of_b.reached.0 s r of_b.reached.1 of_a.reached.1 in
    let also : IsReached c s b = subst (λ (t : Place). IsReached c t b) same of_b.reached.2 in
    same_number_lists a b (of_a.whole ∙ sym of_b.whole) (λ p within. let least = no_more c s a b of_a.reached.2 also p in let most = no_more c s b a also of_a.reached.2 p in omega arith)
