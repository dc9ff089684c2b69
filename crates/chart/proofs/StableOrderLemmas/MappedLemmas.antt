-- Things by the numbers of their views.
use Rattle.std.proofs.Common.{◌≡◌, ℕ, Bool, true, false, cond, List, [], ◌∷◌, refl, ap, ◌∙◌}
use Rattle.std.specs.Prelude.{nat_lt, fold, map}
use Rattle.chart.specs.StableOrder.Order.{put_by, in_order_by}

module _ {X Y : Type 0} (view : X → Y) (key : Y → ℕ) where
  -- a thing's number is that of its view
  abbrev own : X → ℕ
  own x = key (view x)

  put_mapped : (xs : List X) (e : X) → map view (put_by own xs e) ≡ put_by key (map view xs) (view e)
  unfolding put_by
  put_mapped [] e = refl
  put_mapped (x ∷ xs) e = go (nat_lt (own e) (own x)) (put_mapped xs e)
    where
      go : (its : Bool) → map view (put_by own xs e) ≡ put_by key (map view xs) (view e) → map view (cond its (e ∷ x ∷ xs) (x ∷ put_by own xs e)) ≡ cond its (view e ∷ view x ∷ map view xs) (view x ∷ put_by key (map view xs) (view e))
      go true more = refl
      go false more = ap (λ l. view x ∷ l) more

  fold_mapped : (acc things : List X) → map view (fold (put_by own) acc things) ≡ fold (put_by key) (map view acc) (map view things)
  fold_mapped acc [] = refl
  fold_mapped acc (e ∷ things) = fold_mapped (put_by own acc e) things ∙ ap (λ l. fold (put_by key) l (map view things)) (put_mapped acc e)

  pub order_mapped : (things : List X) → map view (in_order_by own things) ≡ in_order_by key (map view things)
  unfolding in_order_by
  order_mapped things = fold_mapped [] things
