-- Items that are read one after the other.
use Rattle.std.proofs.Common.{◌≡◌, ℕ, zero, suc, ◌<◌, List, [], ◌∷◌, ◌++◌, length, map, true, false, None, Ok, Err, refl, ap, sym, ◌∙◌, arith}
use Rattle.diagram_mscgen.specs.Grammar.Arcs.{ArcView, arc_in}
use Rattle.diagram_mscgen.specs.Grammar.Attributes.{AttributesView, attributes_at, attributes_from}
use Rattle.diagram_mscgen.specs.Grammar.Charts.{EntityView, options_at, options_from, entity_in, entities_in, entities_from, arcs_in, arcs_from, is_last}
use Rattle.diagram_mscgen.specs.Grammar.Reading.{Tokens}

-- the rest of the tokens has the same meaning, and there are enough steps for it
pub record AttributesLeft (so_far : AttributesView) (rest tokens : Tokens) : Type 0 where
  pub left : ℕ
  pub enough : length rest < left
  pub same : attributes_from left so_far rest ≡ attributes_at tokens

pub first_attribute : (tokens : Tokens) → AttributesLeft (None, 0) tokens tokens
unfolding attributes_at
first_attribute tokens = record { left = suc (length tokens); enough = omega arith; same = refl }

pub record OptionsLeft (rest tokens : Tokens) : Type 0 where
  pub left : ℕ
  pub enough : length rest < left
  pub same : options_from left rest ≡ options_at tokens

pub first_option : (tokens : Tokens) → OptionsLeft tokens tokens
unfolding options_at
first_option tokens = record { left = suc (length tokens); enough = omega arith; same = refl }

pub record EntitiesLeft (so_far : List EntityView) (rest tokens : Tokens) : Type 0 where
  pub left : ℕ
  pub enough : length rest < left
  pub same : entities_from left so_far rest ≡ entities_in tokens

pub first_entity : (tokens : Tokens) (so_far : List EntityView) → so_far ≡ [] → EntitiesLeft so_far tokens tokens
unfolding entities_in
first_entity tokens so_far none = record {
  left = suc (length tokens);
  enough = omega arith;
  same = ap (λ l. entities_from (suc (length tokens)) l tokens) none;
}

pub record ArcsLeft (so_far : List ArcView) (rest tokens : Tokens) : Type 0 where
  pub left : ℕ
  pub enough : length rest < left
  pub same : arcs_from left so_far rest ≡ arcs_in tokens

pub first_arc : (tokens : Tokens) (so_far : List ArcView) → so_far ≡ [] → ArcsLeft so_far tokens tokens
unfolding arcs_in
first_arc tokens so_far none = record {
  left = suc (length tokens);
  enough = omega arith;
  same = ap (λ l. arcs_from (suc (length tokens)) l tokens) none;
}

-- one more element, seen through f
pub seen_more : {A B : Type 0} (f : A → B) (xs : List A) (x : A) → map f (xs ++ x ∷ []) ≡ map f xs ++ f x ∷ []
seen_more f [] x = refl
seen_more f (y ∷ ys) x = ap (λ l. f y ∷ l) (seen_more f ys x)

entities_stop : (n : ℕ) (so_far : List EntityView) (rest stop : Tokens) → length rest < n → entity_in rest ≡ Err stop → entities_from n so_far rest ≡ Err stop
entities_stop zero so_far rest stop enough e = absurd (omega arith)
entities_stop (suc m) so_far rest stop enough e = rw e refl

entities_end : (n : ℕ) (so_far : List EntityView) (rest behind : Tokens) (x : EntityView) → length rest < n → entity_in rest ≡ Ok ((x, true), behind) → entities_from n so_far rest ≡ Ok (so_far ++ x ∷ [], behind)
entities_end zero so_far rest behind x enough e = absurd (omega arith)
entities_end (suc m) so_far rest behind x enough e = rw e refl

entities_on : (n : ℕ) (so_far : List EntityView) (rest behind : Tokens) (x : EntityView) → length rest < n → entity_in rest ≡ Ok ((x, false), behind) → (m : ℕ) × (n ≡ suc m) × (entities_from n so_far rest ≡ entities_from m (so_far ++ x ∷ []) behind)
entities_on zero so_far rest behind x enough e = absurd (omega arith)
entities_on (suc m) so_far rest behind x enough e = (m, refl, rw e refl)

pub entity_refused : (so_far : List EntityView) (rest tokens stop : Tokens) → EntitiesLeft so_far rest tokens → entity_in rest ≡ Err stop → entities_in tokens ≡ Err stop
entity_refused so_far rest tokens stop are e = sym are.same ∙ entities_stop are.left so_far rest stop are.enough e

pub entity_last : (so_far more : List EntityView) (rest behind tokens : Tokens) (x : EntityView) → EntitiesLeft so_far rest tokens → entity_in rest ≡ Ok ((x, true), behind) → more ≡ so_far ++ x ∷ [] → entities_in tokens ≡ Ok (more, behind)
entity_last so_far more rest behind tokens x are e is = sym are.same ∙ entities_end are.left so_far rest behind x are.enough e ∙ ap (λ (l : List EntityView). Ok (l, behind)) (sym is)

pub entity_more : (so_far more : List EntityView) (rest behind tokens : Tokens) (x : EntityView) → EntitiesLeft so_far rest tokens → entity_in rest ≡ Ok ((x, false), behind) → more ≡ so_far ++ x ∷ [] → length behind < length rest → EntitiesLeft more behind tokens
entity_more so_far more rest behind tokens x are e is shorter =
    let s = entities_on are.left so_far rest behind x are.enough e in
    let last = s.1 in
    let enough = are.enough in
    record { left = s.0; enough = omega arith; same = ap (λ l. entities_from s.0 l behind) is ∙ sym s.2 ∙ are.same }

arcs_stop : (n : ℕ) (so_far : List ArcView) (rest stop : Tokens) → length rest < n → arc_in rest ≡ Err stop → arcs_from n so_far rest ≡ Err stop
arcs_stop zero so_far rest stop enough e = absurd (omega arith)
arcs_stop (suc m) so_far rest stop enough e = rw e refl

arcs_end : (n : ℕ) (so_far : List ArcView) (rest behind : Tokens) (x : ArcView) → length rest < n → arc_in rest ≡ Ok (x, behind) → is_last x.ends_row behind ≡ true → arcs_from n so_far rest ≡ Ok (so_far ++ x ∷ [], behind)
arcs_end zero so_far rest behind x enough e last = absurd (omega arith)
arcs_end (suc m) so_far rest behind x enough e last = rw e (rw last refl)

arcs_on : (n : ℕ) (so_far : List ArcView) (rest behind : Tokens) (x : ArcView) → length rest < n → arc_in rest ≡ Ok (x, behind) → is_last x.ends_row behind ≡ false → (m : ℕ) × (n ≡ suc m) × (arcs_from n so_far rest ≡ arcs_from m (so_far ++ x ∷ []) behind)
arcs_on zero so_far rest behind x enough e last = absurd (omega arith)
arcs_on (suc m) so_far rest behind x enough e last = (m, refl, rw e (rw last refl))

pub arc_refused : (so_far : List ArcView) (rest tokens stop : Tokens) → ArcsLeft so_far rest tokens → arc_in rest ≡ Err stop → arcs_in tokens ≡ Err stop
arc_refused so_far rest tokens stop are e = sym are.same ∙ arcs_stop are.left so_far rest stop are.enough e

pub arc_last : (so_far more : List ArcView) (rest behind tokens : Tokens) (x : ArcView) → ArcsLeft so_far rest tokens → arc_in rest ≡ Ok (x, behind) → is_last x.ends_row behind ≡ true → more ≡ so_far ++ x ∷ [] → arcs_in tokens ≡ Ok (more, behind)
arc_last so_far more rest behind tokens x are e last is = sym are.same ∙ arcs_end are.left so_far rest behind x are.enough e last ∙ ap (λ (l : List ArcView). Ok (l, behind)) (sym is)

pub arc_more : (so_far more : List ArcView) (rest behind tokens : Tokens) (x : ArcView) → ArcsLeft so_far rest tokens → arc_in rest ≡ Ok (x, behind) → is_last x.ends_row behind ≡ false → more ≡ so_far ++ x ∷ [] → length behind < length rest → ArcsLeft more behind tokens
arc_more so_far more rest behind tokens x are e last is shorter =
    let s = arcs_on are.left so_far rest behind x are.enough e last in
    let is_left = s.1 in
    let enough = are.enough in
    record { left = s.0; enough = omega arith; same = ap (λ l. arcs_from s.0 l behind) is ∙ sym s.2 ∙ are.same }
