-- Names as they are held: the bytes come back.
use Rattle.std.proofs.Common.{◌≡◌, ℕ, ◌-◌, ◌<◌, ◌≤◌, Bool, true, false, ◌==◌, cond, List, ◌++◌, length, take, replicate, nat_le, eqb-true, ne_eqb, refl, ap, ◌∙◌, arith}
use Rattle.std.specs.Prelude.{slice_index, slice_set}
use Rattle.std.proofs.Math.Seq.{take-append_seam, take-set-le}
use Rattle.std.proofs.lemmas.Bool.Decides.{nat_tests}
use Rattle.std.proofs.lemmas.Grind.{get_or-set_at}
use Rattle.std.proofs.lemmas.List.{take_all, length-append, length-replicate}
use Rattle.chart.specs.Names.{IsName}
use Rattle.chart.specs.Padding.{padded, held_len, unpadded}
use Rattle.chart.specs.declared.name.TheConstants.{MAX_NAME}
use Rattle.chart.proofs.NameBytes.{name_bytes, byte_at}

-- if the last byte is the name's, all bytes are
full_len : (held : List ℕ) (b : Bool) → nat_le MAX_NAME (slice_index held 31) ≡ b → MAX_NAME ≤ slice_index held 31 → held_len held ≡ MAX_NAME
full_len held true e great = rw e refl
full_len held false e great = absurd (grind (arith, nat_tests, e, great))

-- otherwise the last byte gives their number
short_len : (held : List ℕ) (k : ℕ) (b : Bool) → nat_le MAX_NAME (slice_index held 31) ≡ b → slice_index held 31 ≡ k → k < MAX_NAME → held_len held ≡ MAX_NAME - k
short_len held k true e is less = absurd (grind (arith, nat_tests, e, is, less))
short_len held k false e is less = rw (e, is) refl

-- a name of the greatest length is held unchanged
full : (w : List ℕ) → IsName w → length w ≡ MAX_NAME → unpadded w ≡ w
full w name most =
    let great = byte_at w 31 (name_bytes w name).1 (omega (arith, most)) in
    ap (λ n. take n w) (full_len w (nat_le MAX_NAME (slice_index w 31)) refl great) ∙ take_all MAX_NAME w (omega (arith, most))

-- a shorter name is followed by zeros, and the last byte is the number of missing bytes
short : (w : List ℕ) → IsName w → length w < MAX_NAME → unpadded (slice_set (w ++ replicate (MAX_NAME - length w) 0) 31 (MAX_NAME - length w)) ≡ w
short w name less =
    let zeros : List ℕ = replicate (MAX_NAME - length w) 0 in
    let k = MAX_NAME - length w in
    let held : List ℕ = slice_set (w ++ zeros) 31 k in
    let some = (name_bytes w name).0 in
    let size : length (w ++ zeros) ≡ MAX_NAME = omega (arith, length-append w zeros, length-replicate {A = ℕ} (MAX_NAME - length w) 0) in
    let last : slice_index held 31 ≡ k = get_or-set_at (w ++ zeros) 31 31 k 0 refl (omega (arith, size)) in
    let len : held_len held ≡ length w = short_len held k (nat_le MAX_NAME (slice_index held 31)) refl last (omega (arith, some)) ∙ omega (arith, less) in
    ap (λ n. take n held) len ∙ take-set-le (length w) (w ++ zeros) 31 k (omega (arith, less)) ∙ take-append_seam w zeros

pub padded_full : (w : List ℕ) → length w ≡ MAX_NAME → padded w ≡ w
padded_full w most = ap (λ n. cond (n == MAX_NAME) w (slice_set (w ++ replicate (MAX_NAME - length w) 0) 31 (MAX_NAME - length w))) most

pub padded_short : (w : List ℕ) → length w < MAX_NAME → padded w ≡ slice_set (w ++ replicate (MAX_NAME - length w) 0) 31 (MAX_NAME - length w)
padded_short w less = rw (ne_eqb (length w) MAX_NAME (λ e. omega (arith, less, e))) refl

-- the bytes of a held name come back
pub name_held : (w held : List ℕ) → IsName w → held ≡ padded w → length w ≤ MAX_NAME → unpadded held ≡ w
name_held w held name is within = by (length w == MAX_NAME) refl
  where
    by : (b : Bool) → (length w == MAX_NAME) ≡ b → unpadded held ≡ w
    by true e =
        let most = eqb-true (length w) MAX_NAME e in
        ap unpadded (is ∙ padded_full w most) ∙ full w name most
    by false e =
        let less : length w < MAX_NAME = grind (arith, nat_tests, e, within) in
        ap unpadded (is ∙ padded_short w less) ∙ short w name less
