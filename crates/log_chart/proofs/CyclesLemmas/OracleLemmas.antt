-- A receive is on a cycle exactly if it comes before the send that it takes over the lines of other hosts, where no
-- receive of its host above it is on a cycle.
use Rattle.std.proofs.Common.{◌≡◌, ℕ, zero, suc, ◌<◌, ◌⊎◌, inl, inr, List, [], ◌∷◌, None, Some, get_or, refl, sym, ap, ◌∙◌, subst, arith}
use Rattle.std.specs.Prelude.{Contains, map}
use Rattle.std.proofs.lemmas.Bool.{cases_eq, cases_order}
use Rattle.std.proofs.lemmas.List.{get_or_default}
use Rattle.log_chart.specs.declared.matching.LogLine.{LogLine}
use Rattle.log_chart.specs.Cycles.Order.{Follows, Comes}
use Rattle.log_chart.specs.Cycles.Order.Follows.{host, message}
use Rattle.log_chart.specs.Cycles.Order.Comes.{direct, through}
use Rattle.log_chart.specs.Cycles.Sources.{AreLines}
use Rattle.log_chart.specs.Cycles.Turns.{apart}
use Rattle.log_chart.proofs.CyclesLemmas.SourceLemmas.{rises}
use Rattle.log_chart.proofs.CyclesLemmas.FreedLemmas.{first_in, later_in}

-- there is one line of each number
pub one_line : (n : ℕ) (lines : List LogLine) → AreLines n lines → (x y : LogLine) → Contains lines x → Contains lines y → x.number ≡ y.number → x ≡ y
one_line n lines are x y has_x has_y same =
    elim (cases_order has_x.0 has_y.0) [
      | inl at ↦ sym has_x.2 ∙ ap (λ i. get_or lines i x) at ∙ get_or_default lines has_y.0 x y has_y.1 ∙ has_y.2
      | inr (inl less) ↦ absurd (let up = rises lines n are has_x.0 has_y.0 x y less has_y.1 (sym has_x.2) (sym has_y.2) in omega (arith, up, same))
      | inr (inr less) ↦ absurd (let up = rises lines n are has_y.0 has_x.0 y x less has_x.1 (sym has_y.2) (sym has_x.2) in omega (arith, up, same))
    ]

-- a line, and the same where the lines of host p take no sends
pub record IsStripped (p : ℕ) (u x : LogLine) : Type 0 where
  pub number : u.number ≡ x.number
  pub host : u.entry.host ≡ x.entry.host
  pub takes : (a : ℕ) → u.send ≡ Some a → x.send ≡ Some a
  pub other : (x.entry.host ≡ p → ⊥) → u.send ≡ x.send

pub record AreStripped (p : ℕ) (others lines : List LogLine) : Type 0 where
  pub to : (u : LogLine) → Contains others u → (x : LogLine) × Contains lines x × IsStripped p u x
  pub back : (x : LogLine) → Contains lines x → (u : LogLine) × Contains others u × IsStripped p u x
  pub none : (u : LogLine) → Contains others u → u.entry.host ≡ p → u.send ≡ None

module _ (p n : ℕ) (others lines : List LogLine) (numbered : AreLines n others) (numbered_too : AreLines n lines) (stripped : AreStripped p others lines) where
  -- only the host's own lines come before its lines
  own_only : (a b : ℕ) → Comes others a b → (u : LogLine) → Contains others u → u.number ≡ b → u.entry.host ≡ p → (a < b) × ((w : LogLine) × Contains others w × (w.number ≡ a) × (w.entry.host ≡ p))
  own_only a b (direct (host x y has_x has_y is_a is_b same less)) u has at own =
      let one = one_line n others numbered y u has_y has (is_b ∙ sym at) in
      (less, (x, has_x, is_a, same ∙ ap (λ (l : LogLine). l.entry.host) one ∙ own))
  own_only a b (direct (message y has_y is_b takes)) u has at own =
      let one = one_line n others numbered y u has_y has (is_b ∙ sym at) in
      absurd (let e = sym (stripped.none u has own) ∙ ap (λ (l : LogLine). l.send) (sym one) ∙ takes in cc e)
  own_only a b (through {d = d} one two) u has at own =
      let later = own_only d b two u has at own in
      let w = later.1 in
      let sooner = own_only a d one w.0 w.1 w.2 w.3 in
      (omega (arith, later.0, sooner.0), sooner.1)

  follows_lines : (a b : ℕ) → Follows others a b → Follows lines a b
  follows_lines a b (host x y has_x has_y is_a is_b same less) =
      let u = stripped.to x has_x in
      let v = stripped.to y has_y in
      host u.0 v.0 u.1 v.1 (sym u.2.number ∙ is_a) (sym v.2.number ∙ is_b) (sym u.2.host ∙ same ∙ v.2.host) less
  follows_lines a b (message y has_y is_b takes) =
      let v = stripped.to y has_y in
      message v.0 v.1 (sym v.2.number ∙ is_b) (v.2.takes a takes)

  pub comes_lines : (a b : ℕ) → Comes others a b → Comes lines a b
  comes_lines a b (direct its) = direct (follows_lines a b its)
  comes_lines a b (through {d = d} one two) = through (comes_lines a d one) (comes_lines d b two)

  module _ (r : LogLine) (has_r : Contains lines r) (own_r : r.entry.host ≡ p) (s : ℕ) (takes_r : r.send ≡ Some s) (differs : s ≡ r.number → ⊥) (clear : Comes others r.number s → ⊥)
      (above : (y : LogLine) → Contains lines y → y.entry.host ≡ p → y.number < r.number → (a : ℕ) → y.send ≡ Some a → Comes lines y.number y.number → ⊥) where
    abbrev From : ℕ → Type 0
    From a = (a ≡ r.number) ⊎ Comes others r.number a

    on : (a b : ℕ) → From a → Follows others a b → Comes others r.number b
    on a b (inl same) its = direct (subst (λ k. Follows others k b) same its)
    on a b (inr comes) its = through comes (direct its)

    host_edge : (a b : ℕ) (x y : LogLine) → Contains lines x → Contains lines y → x.number ≡ a → y.number ≡ b → x.entry.host ≡ y.entry.host → a < b → Follows others a b
    host_edge a b x y has_x has_y is_a is_b same less =
        let u = stripped.back x has_x in
        let v = stripped.back y has_y in
        host u.0 v.0 u.1 v.1 (u.2.number ∙ is_a) (v.2.number ∙ is_b) (u.2.host ∙ same ∙ sym v.2.host) less

    back_to : (a : ℕ) (y : LogLine) → Contains lines y → y.entry.host ≡ p → y.number < r.number → y.send ≡ Some a → From a → Comes lines y.number y.number
    back_to a y has_y own less takes from =
        let down : Comes lines y.number r.number = direct (host y r has_y has_r refl refl (own ∙ sym own_r) less) in
        let up : Comes lines a y.number = direct (message y has_y refl takes) in
        elim from [
          | inl same ↦ through down (subst (λ k. Comes lines k y.number) same up)
          | inr comes ↦ through down (through (comes_lines r.number a comes) up)
        ]

    step : (a b : ℕ) → Follows lines a b → From a → Comes others r.number b
    step a b (host x y has_x has_y is_a is_b same less) from = on a b from (host_edge a b x y has_x has_y is_a is_b same less)
    step a b (message y has_y is_b takes) from =
        elim (cases_eq y.entry.host p) [
          | inr other ↦
              let v = stripped.back y has_y in
              on a b from (message v.0 v.1 (v.2.number ∙ is_b) (v.2.other other ∙ takes))
          | inl own ↦
              elim (cases_order y.number r.number) [
                | inl same ↦
                    let one = one_line n lines numbered_too y r has_y has_r same in
                    let e : Some a ≡ Some s = sym takes ∙ ap (λ (l : LogLine). l.send) one ∙ takes_r in
                    let at : a ≡ s = cc e in
                    elim from [
                      | inl its ↦ absurd (differs (sym at ∙ its))
                      | inr comes ↦ absurd (clear (subst (Comes others r.number) at comes))
                    ]
                | inr (inl less) ↦ absurd (above y has_y own less a takes (back_to a y has_y own less takes from))
                | inr (inr less) ↦ direct (host_edge r.number b r y has_r has_y refl is_b (own_r ∙ sym own) (omega (arith, less, is_b)))
              ]
        ]

    reach : (a b : ℕ) → Comes lines a b → From a → Comes others r.number b
    reach a b (direct its) from = step a b its from
    reach a b (through {d = d} one two) from = reach d b two (inr (reach a d one from))

    pub off_cycle : Comes lines r.number r.number → ⊥
    off_cycle cycle =
        let u = stripped.back r has_r in
        let its = own_only r.number r.number (reach r.number r.number cycle (inl refl)) u.0 u.1 u.2.number (u.2.host ∙ own_r) in
        omega (arith, its.0)

-- the lines without the sends of a place have the lines that they are of
pub map_back : (p : ℕ) (lines : List LogLine) (u : LogLine) → Contains (map (apart p) lines) u → (x : LogLine) × Contains lines x × (apart p x ≡ u)
map_back p [] u has = absurd (omega (arith, has.1))
map_back p (x ∷ lines) u (zero, less, is) = (x, first_in x lines, is)
map_back p (x ∷ lines) u (suc i, less, is) = let w = map_back p lines u (i, omega (arith, less), is) in (w.0, later_in x w.0 lines w.1, w.2)

pub map_in : (p : ℕ) (lines : List LogLine) (x : LogLine) → Contains lines x → Contains (map (apart p) lines) (apart p x)
map_in p [] x has = absurd (omega (arith, has.1))
map_in p (y ∷ lines) x (zero, less, is) = (zero, omega arith, ap (apart p) is)
map_in p (y ∷ lines) x (suc i, less, is) = later_in _ _ _ (map_in p lines x (i, omega (arith, less), is))
