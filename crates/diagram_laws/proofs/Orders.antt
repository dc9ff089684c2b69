-- Orders by numbers that compare alike.
use Rattle.std.proofs.Common.{◌≡◌, ℕ, ◌+◌, ◌*◌, ◌<◌, ◌≤◌, Bool, true, false, cond, List, [], ◌∷◌, map, refl, sym, ap, ◌∙◌, arith}
use Rattle.std.specs.Prelude.{nat_lt, fold}
use Rattle.std.proofs.lemmas.Bool.{ltb-true, ltb-false}
use Rattle.std.proofs.lemmas.Nat.{mul-le}
use Rattle.chart.specs.StableOrder.Order.{put_by, in_order_by}
use Rattle.chart.proofs.StableOrderLemmas.MappedLemmas.{order_mapped}
use Rattle.diagrams.specs.Messages.Each.{Each, Pairs}
use Rattle.diagram_laws.proofs.Lists.{map_map}

-- a test of two numbers that decides another one
pub same_test : (a b c d : ℕ) → (a < b → c < d) → (b ≤ a → d ≤ c) → nat_lt a b ≡ nat_lt c d
same_test a b c d up down = go (nat_lt a b) refl (nat_lt c d) refl
  where
    go : (one : Bool) → nat_lt a b ≡ one → (other : Bool) → nat_lt c d ≡ other → one ≡ other
    go true e true f = refl
    go true e false f = absurd (let less = up (ltb-true a b e) in let past = ltb-false c d f in omega (arith, less, past))
    go false e true f = absurd (let past = down (ltb-false a b e) in let less = ltb-true c d f in omega (arith, less, past))
    go false e false f = refl

pub each_pair : {A : Type 0} (P Q R : A → Type 0) → ((x : A) → P x → Q x → R x) → (xs : List A) → Each P xs → Each Q xs → Each R xs
each_pair P Q R f [] one other = tt
each_pair P Q R f (x ∷ xs) one other = (f x one.0 other.0, each_pair P Q R f xs one.1 other.1)

-- of any two elements of a kind the relation holds
pub pairs_of : {A : Type 0} (P : A → Type 0) (R : A → A → Type 0) → ((x y : A) → P x → P y → R x y) → (xs : List A) → Each P xs → Pairs R xs
pairs_of P R f [] all = tt
pairs_of P R f (x ∷ xs) all = (beside xs all.1, pairs_of P R f xs all.1)
  where
    beside : (ys : List _) → Each P ys → Each (R x) ys
    beside [] its = tt
    beside (y ∷ ys) its = (f x y all.0 its.0, beside ys its.1)

module _ {X : Type 0} (one other : X → ℕ) where
  -- both numbers put y before x, or neither does
  abbrev pub Agree : X → X → Type 0
  Agree x y = nat_lt (one y) (one x) ≡ nat_lt (other y) (other x)

  put_same : (acc : List X) (y : X) → Each (λ x. Agree x y) acc → put_by one acc y ≡ put_by other acc y
  unfolding put_by
  put_same [] y all = refl
  put_same (x ∷ acc) y all =
      ap (λ b. cond b (y ∷ x ∷ acc) (x ∷ put_by one acc y)) all.0 ∙ ap (λ l. cond (nat_lt (other y) (other x)) (y ∷ x ∷ acc) (x ∷ l)) (put_same acc y all.1)

  put_each : (P : X → Type 0) (acc : List X) (y : X) → Each P acc → P y → Each P (put_by one acc y)
  unfolding put_by
  put_each P [] y all its = (its, tt)
  put_each P (x ∷ acc) y all its = go (nat_lt (one y) (one x)) (put_each P acc y all.1 its)
    where
      go : (less : Bool) → Each P (put_by one acc y) → Each P (cond less (y ∷ x ∷ acc) (x ∷ put_by one acc y))
      go true more = (its, all)
      go false more = (all.0, more)

  fold_same : (acc xs : List X) → Each (λ y. Each (λ x. Agree x y) acc) xs → Pairs Agree xs → fold (put_by one) acc xs ≡ fold (put_by other) acc xs
  fold_same acc [] before pairs = refl
  fold_same acc (y ∷ xs) before pairs =
      fold_same (put_by one acc y) xs
      (each_pair (λ z. Each (λ x. Agree x z) acc) (λ z. Agree y z) (λ z. Each (λ x. Agree x z) (put_by one acc y)) (λ z all its. put_each (λ x. Agree x z) acc y all its) xs before.1 pairs.0) pairs.1
      ∙ ap (λ l. fold (put_by other) l xs) (put_same acc y before.0)

  none_before : (xs : List X) → Each (λ y. Each (λ x. Agree x y) []) xs
  none_before [] = tt
  none_before (x ∷ xs) = (tt, none_before xs)

  pub same_order : (xs : List X) → Pairs Agree xs → in_order_by one xs ≡ in_order_by other xs
  unfolding in_order_by
  same_order xs pairs = fold_same [] xs (none_before xs) pairs

-- the same numbers
pub order_agrees : {X : Type 0} (one other : X → ℕ) → ((x : X) → one x ≡ other x) → (xs : List X) → in_order_by one xs ≡ in_order_by other xs
order_agrees {X} one other same xs = same_order one other xs (pairs_of (λ (x : X). Unit {0}) (Agree one other) (λ x y p q. ap (λ n. nat_lt n (one x)) (same y) ∙ ap (nat_lt (other y)) (same x)) xs (all xs))
  where
    all : (ys : List X) → Each (λ (x : X). Unit {0}) ys
    all [] = tt
    all (y ∷ ys) = (tt, all ys)

-- things that are ordered, and then seen otherwise
pub order_view : {X Y Z : Type 0} (view : X → Y) (key : Y → ℕ) (shown : Y → Z) (xs : List X) → map shown (in_order_by key (map view xs)) ≡ map (λ x. shown (view x)) (in_order_by (λ x. key (view x)) xs)
order_view view key shown xs = ap (map shown) (sym (order_mapped view key xs)) ∙ map_map view shown (in_order_by (λ x. key (view x)) xs)

pub map_agrees : {A B : Type 0} (f g : A → B) → ((x : A) → f x ≡ g x) → (xs : List A) → map f xs ≡ map g xs
map_agrees f g same [] = refl
map_agrees f g same (x ∷ xs) = ap (λ y. y ∷ map f xs) (same x) ∙ ap (λ l. g x ∷ l) (map_agrees f g same xs)

-- Numbers of rows that are cut into W rows each.

pub finer : (a b i j W f g : ℕ) → i < j → j < W → 2 * (a * W + i) ≤ f → f ≤ 2 * (a * W + i) + 1 → 2 * (b * W + j) ≤ g → g ≤ 2 * (b * W + j) + 1 → nat_lt b a ≡ nat_lt g f
finer a b i j W f g less within f_low f_high g_low g_high = same_test b a g f
    (λ lt. let up : (b + 1) * W ≤ a * W = mul-le (b + 1) W a W (omega (arith, lt)) (omega arith) in
    let out : (b + 1) * W ≡ b * W + W = omega arith in omega (arith, up, out, less, within, f_low, g_high))
    (λ le. let up : a * W ≤ b * W = mul-le a W b W le (omega arith) in omega (arith, up, less, f_high, g_low))

pub finer_own : (a b i W : ℕ) → a ≤ b → nat_lt b a ≡ nat_lt (2 * (b * W + i) + 1) (2 * (a * W + i))
finer_own a b i W le = same_test b a (2 * (b * W + i) + 1) (2 * (a * W + i)) (λ lt. absurd (omega (arith, lt, le)))
    (λ low. let up : a * W ≤ b * W = mul-le a W b W le (omega arith) in omega (arith, up))
