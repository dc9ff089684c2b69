-- How often a lane is in a list of lanes.
use Rattle.std.proofs.Common.{◌≡◌, ◌≢◌, ℕ, zero, suc, ◌+◌, ◌<◌, ◌≤◌, ◌==◌, ◌⊎◌, inl, inr, ⊎_elim, Bool, true, false, cond, List, [], ◌∷◌, ◌++◌, map, refl, sym, ap, ap₂, ◌∙◌, arith}
use Rattle.std.specs.Prelude.{filter}
use Rattle.std.specs.List.{range_with_len, flat_map}
use Rattle.std.proofs.lemmas.Bool.{eqb-true, and_parts}
use native.Mathlib.Decide.{ℕ_discrete as dec_eq}
use Rattle.chart.specs.Histories.{is_lane}
use Rattle.chart.proofs.Histories.{is_lane-same, is_lane-from, is_lane-to}
use Rattle.board.specs.Gathering.{LaneEnds, lane_to, lanes_of, all_lanes}

-- the lane is the one from q to p
abbrev pub is_it : ℕ → ℕ → LaneEnds → Bool
is_it q p lane = is_lane lane.sender lane.receiver q p

abbrev pub one_if : Bool → ℕ
one_if true = 1
one_if false = 0

-- how often the lane from q to p is in the list
abbrev pub times : ℕ → ℕ → List LaneEnds → ℕ
times q p [] = 0
times q p (lane ∷ lanes) = one_if (is_it q p lane) + times q p lanes

pub times-append : (q p : ℕ) (xs ys : List LaneEnds) → times q p (xs ++ ys) ≡ times q p xs + times q p ys
times-append q p [] ys = omega arith
times-append q p (x ∷ xs) ys = let before = times-append q p xs ys in omega (arith, before)

-- the ends of such a lane
pub lane_is : (q p : ℕ) (lane : LaneEnds) → is_it q p lane ≡ true → lane ≡ lane_to q p
lane_is q p lane its =
    let ends = and_parts (lane.sender == q) (lane.receiver == p) its in
    ap₂ (λ a b. lane_to a b) (eqb-true lane.sender q ends.0) (eqb-true lane.receiver p ends.1)

pub one_there : (q p : ℕ) (lane : LaneEnds) → is_it q p lane ≡ true → one_if (is_it q p lane) ≡ 1
one_there q p lane its = ap one_if its

pub none_there : (q p : ℕ) (lane : LaneEnds) → is_it q p lane ≡ false → one_if (is_it q p lane) ≡ 0
none_there q p lane its = ap one_if its

at_most_one : (b : Bool) → one_if b ≤ 1
at_most_one true = omega arith
at_most_one false = omega arith

-- The list of all lanes has each lane once.

abbrev row : ℕ → ℕ → ℕ → List LaneEnds
row s a many = map (lane_to s) (range_with_len a many)

row_other : (q p s a many : ℕ) → q ≢ s → times q p (row s a many) ≡ 0
row_other q p s a zero ne = refl
row_other q p s a (suc many) ne =
    let none = none_there q p (lane_to s a) (is_lane-from s a q p ne) in
    let before = row_other q p s (a + 1) many ne in
    omega (arith, none, before)

row_out : (q p s a many : ℕ) → (p < a) ⊎ (a + many ≤ p) → times q p (row s a many) ≡ 0
row_out q p s a zero out = refl
row_out q p s a (suc many) out =
    let ne : p ≢ a = λ same. ⊎_elim (λ low. absurd (omega (arith, same, low))) (λ high. absurd (omega (arith, same, high))) out in
    let none = none_there q p (lane_to s a) (is_lane-to s a q p ne) in
    let rest = row_out q p s (a + 1) many (⊎_elim (λ low. inl (omega (arith, low))) (λ high. inr (omega (arith, high))) out) in
    omega (arith, none, rest)

row_in : (p s a many : ℕ) → a ≤ p → p < a + many → times s p (row s a many) ≡ 1
row_in p s a zero low high = absurd (omega (arith, low, high))
row_in p s a (suc many) low high = go (dec_eq p a) (λ more near. row_in p s (a + 1) many more near)
  where
    go : Dec (p ≡ a) → (a + 1 ≤ p → p < a + 1 + many → times s p (row s (a + 1) many) ≡ 1) → times s p (row s a (suc many)) ≡ 1
    go (yes same) later =
        let one = one_there s p (lane_to s a) (ap (λ (x : ℕ). is_lane s a s x) same ∙ is_lane-same s a) in
        let rest = row_out s p s (a + 1) many (inl (omega (arith, same))) in
        omega (arith, one, rest)
    go (no ne) later =
        let none = none_there s p (lane_to s a) (is_lane-to s a s p ne) in
        let rest = later (omega (arith, low, ne)) (omega (arith, high)) in
        omega (arith, none, rest)

row_few : (q p s a many : ℕ) → times q p (row s a many) ≤ 1
row_few q p s a zero = omega arith
row_few q p s a (suc many) = go (dec_eq p a) (row_few q p s (a + 1) many)
  where
    go : Dec (p ≡ a) → times q p (row s (a + 1) many) ≤ 1 → times q p (row s a (suc many)) ≤ 1
    go (yes same) before =
        let rest = row_out q p s (a + 1) many (inl (omega (arith, same))) in
        omega (arith, at_most_one (is_it q p (lane_to s a)), rest)
    go (no ne) before =
        let none = none_there q p (lane_to s a) (is_lane-to s a q p ne) in
        omega (arith, none, before)

abbrev rows : ℕ → ℕ → ℕ → List LaneEnds
rows n a many = flat_map (lanes_of n) (range_with_len a many)

rows_out : (q p n a many : ℕ) → (q < a) ⊎ (a + many ≤ q) → times q p (rows n a many) ≡ 0
rows_out q p n a zero out = refl
rows_out q p n a (suc many) out =
    let ne : q ≢ a = λ same. ⊎_elim (λ low. absurd (omega (arith, same, low))) (λ high. absurd (omega (arith, same, high))) out in
    let none = row_other q p a 1 n ne in
    let rest = rows_out q p n (a + 1) many (⊎_elim (λ low. inl (omega (arith, low))) (λ high. inr (omega (arith, high))) out) in
    let both = times-append q p (lanes_of n a) (rows n (a + 1) many) in
    omega (arith, none, rest, both)

rows_in : (q p n a many : ℕ) → 1 ≤ p → p ≤ n → a ≤ q → q < a + many → times q p (rows n a many) ≡ 1
rows_in q p n a zero first last low high = absurd (omega (arith, low, high))
rows_in q p n a (suc many) first last low high = go (dec_eq q a) (λ more near. rows_in q p n (a + 1) many first last more near)
  where
    go : Dec (q ≡ a) → (a + 1 ≤ q → q < a + 1 + many → times q p (rows n (a + 1) many) ≡ 1) → times q p (rows n a (suc many)) ≡ 1
    go (yes same) later =
        let one : times q p (lanes_of n a) ≡ 1 = ap (λ (s : ℕ). times q p (lanes_of n s)) (sym same) ∙ row_in p q 1 n first (omega (arith, last)) in
        let rest = rows_out q p n (a + 1) many (inl (omega (arith, same))) in
        let both = times-append q p (lanes_of n a) (rows n (a + 1) many) in
        omega (arith, one, rest, both)
    go (no ne) later =
        let none = row_other q p a 1 n ne in
        let rest = later (omega (arith, low, ne)) (omega (arith, high)) in
        let both = times-append q p (lanes_of n a) (rows n (a + 1) many) in
        omega (arith, none, rest, both)

rows_few : (q p n a many : ℕ) → times q p (rows n a many) ≤ 1
rows_few q p n a zero = omega arith
rows_few q p n a (suc many) = go (dec_eq q a) (rows_few q p n (a + 1) many)
  where
    go : Dec (q ≡ a) → times q p (rows n (a + 1) many) ≤ 1 → times q p (rows n a (suc many)) ≤ 1
    go (yes same) before =
        let few = row_few q p a 1 n in
        let rest = rows_out q p n (a + 1) many (inl (omega (arith, same))) in
        let both = times-append q p (lanes_of n a) (rows n (a + 1) many) in
        omega (arith, few, rest, both)
    go (no ne) before =
        let none = row_other q p a 1 n ne in
        let both = times-append q p (lanes_of n a) (rows n (a + 1) many) in
        omega (arith, none, before, both)

pub once : (q p n : ℕ) → 1 ≤ q → q ≤ n → 1 ≤ p → p ≤ n → times q p (all_lanes n) ≡ 1
once q p n q_first q_last p_first p_last = rows_in q p n 1 n p_first p_last q_first (omega (arith, q_last))

pub never_twice : (q p n : ℕ) → times q p (all_lanes n) ≤ 1
never_twice q p n = rows_few q p n 1 n

-- A lane of some kind is as often in the list of all lanes of this kind.
pub times-filter : (kind : LaneEnds → Bool) (q p : ℕ) (lanes : List LaneEnds) → times q p (filter kind lanes) ≡ cond (kind (lane_to q p)) (times q p lanes) 0
times-filter kind q p [] = go (kind (lane_to q p))
  where
    go : (b : Bool) → times q p [] ≡ cond b (times q p []) 0
    go true = refl
    go false = refl
times-filter kind q p (lane ∷ lanes) = go (kind lane) refl (is_it q p lane) refl (times-filter kind q p lanes)
  where
    rest : ℕ
    rest = times q p lanes

    go : (kept : Bool) → kind lane ≡ kept → (its : Bool) → is_it q p lane ≡ its → times q p (filter kind lanes) ≡ cond (kind (lane_to q p)) rest 0
        → times q p (cond kept (lane ∷ filter kind lanes) (filter kind lanes)) ≡ cond (kind (lane_to q p)) (one_if its + rest) 0
    go true kind_is true its before =
        let here : kind (lane_to q p) ≡ true = ap kind (sym (lane_is q p lane its)) ∙ kind_is in
        let one = one_there q p lane its in
        let same : times q p (filter kind lanes) ≡ rest = before ∙ ap (λ b. cond b rest 0) here in
        let sum : times q p (lane ∷ filter kind lanes) ≡ 1 + rest = omega (arith, one, same) in
        sum ∙ sym (ap (λ b. cond b (1 + rest) 0) here)
    go false kind_is true its before =
        let here : kind (lane_to q p) ≡ false = ap kind (sym (lane_is q p lane its)) ∙ kind_is in
        before ∙ ap (λ b. cond b rest 0) here ∙ sym (ap (λ b. cond b (1 + rest) 0) here)
    go true kind_is false its before =
        let none = none_there q p lane its in
        let same : times q p (lane ∷ filter kind lanes) ≡ times q p (filter kind lanes) = omega (arith, none) in
        let more : rest ≡ 0 + rest = omega arith in
        same ∙ before ∙ ap (λ (x : ℕ). cond (kind (lane_to q p)) x 0) more
    go false kind_is false its before =
        let more : rest ≡ 0 + rest = omega arith in
        before ∙ ap (λ (x : ℕ). cond (kind (lane_to q p)) x 0) more
