-- Boxed behaviours of one type, and what they hold.
use Rattle.std.proofs.Common.{◌≡◌, ℕ, zero, suc, ◌<◌, ◌⊎◌, inl, inr, List, [], ◌∷◌, ◌++◌, length, map, sym, ap, ◌∙◌, subst, arith}
use Rattle.std.proofs.lemmas.List.{map-append, length-map}
use Rattle.std.specs.Prelude.{slice_index_or}
use Rattle.std.specs.declared.dyn_box.DynBox.{DynBox}
use Rattle.std.specs.DynBox.{dyn_box_with}
use Rattle.board.specs.Views.{PostView}
use Rattle.instances.specs.declared.end.End.{End}
use Rattle.instances.specs.declared.outcome.Run.{Run}
use Rattle.instances.specs.declared.turn.Turn.{Turn}
use Rattle.instances.specs.Driving.{Meaning, IsRunOfPost}
use Rattle.instances.specs.Whole.{DrivenBy}
use Rattle.schedule.specs.Plans.{Plan}
use Rattle.schedule_threads.specs.OwnBoards.{AreRunsOf}
use base.Stored.{Gv}
use denote.Param.Object.{Made}

-- if a box may hold values of only one type, its value has this type
abbrev pub unboxed : (F : Unit {0} ⊎ ⊥ → Type 0) (kind : Unit {0} ⊎ ⊥) → F kind → F (inl tt)
unboxed F (inl one) it = it
unboxed F (inr none) it = absurd none

-- what the box holds
abbrev pub held : {Z : Type 0} {F : Unit {0} ⊎ ⊥ → Type 0} → DynBox (Unit {0} ⊎ ⊥) Z F → F (inl tt)
held {F = F} box = unboxed F box.vtable box.value

-- the boxes hold these values, in order
pub record AreHeld {Z : Type 0} {F : Unit {0} ⊎ ⊥ → Type 0} (boxes : List (DynBox (Unit {0} ⊎ ⊥) Z F))
    (them : List (F (inl tt))) : Type 0 where
  pub each : map held boxes ≡ them

pub AreHeld-none : {Z : Type 0} {F : Unit {0} ⊎ ⊥ → Type 0} (boxes : List (DynBox (Unit {0} ⊎ ⊥) Z F)) → boxes ≡ []
    → AreHeld boxes []
AreHeld-none boxes none = record { each = ap (map held) none }

pub AreHeld-push : {Z : Type 0} {F : Unit {0} ⊎ ⊥ → Type 0} (boxes : List (DynBox (Unit {0} ⊎ ⊥) Z F))
    (them : List (F (inl tt))) (more : List (DynBox (Unit {0} ⊎ ⊥) Z F)) (box : DynBox (Unit {0} ⊎ ⊥) Z F)
    (it : F (inl tt)) → AreHeld boxes them → held box ≡ it → more ≡ boxes ++ box ∷ []
    → AreHeld more (them ++ it ∷ [])
AreHeld-push boxes them more box it are is grown = record {
  each = ap (map held) grown ∙ map-append held boxes (box ∷ []) ∙ ap (λ xs. xs ++ held box ∷ []) are.each
      ∙ ap (λ x. them ++ x ∷ []) is;
}

pub AreHeld-many : {Z : Type 0} {F : Unit {0} ⊎ ⊥ → Type 0} (boxes : List (DynBox (Unit {0} ⊎ ⊥) Z F))
    (them : List (F (inl tt))) → AreHeld boxes them → length boxes ≡ length them
AreHeld-many boxes them are = sym (length-map boxes held) ∙ ap length are.each

-- A box that was made from a value holds it: the two have the same code, and different values have different codes.
pub held-made : {Z : Type 0} {F : Unit {0} ⊎ ⊥ → Type 0} (box : DynBox (Unit {0} ⊎ ⊥) Z F)
    (code : (kind : Unit {0} ⊎ ⊥) → F kind → Gv)
    → ((x y : F (inl tt)) → code (inl tt) x ≡ code (inl tt) y → x ≡ y) → (at : Unit {0} ⊎ ⊥) (it : F (inl tt))
    → Made code (code (inl tt)) at box.vtable box.value it → held box ≡ it
held-made {F = F} box code one_each at it made = go box.vtable box.value made.codes
  where
    go : (kind : Unit {0} ⊎ ⊥) (value : F kind) → code kind value ≡ code (inl tt) it → unboxed F kind value ≡ it
    go (inl one) value codes = one_each value it codes
    go (inr none) value codes = absurd none

-- a fact that holds of each box holds of each value
held-each : {Z : Type 0} {F : Unit {0} ⊎ ⊥ → Type 0} (boxes : List (DynBox (Unit {0} ⊎ ⊥) Z F))
    (R : (box : DynBox (Unit {0} ⊎ ⊥) Z F) → F box.vtable → Type 0) → (k : ℕ) → k < length boxes
    → ((box : _) → R (slice_index_or boxes k box) (slice_index_or boxes k box).value)
    → (them : List (F (inl tt))) → AreHeld boxes them → (P : F (inl tt) → Type 0)
    → ((box : DynBox (Unit {0} ⊎ ⊥) Z F) → R box box.value → P (held box))
    → (it : F (inl tt)) → P (slice_index_or them k it)
held-each {Z = Z} {F = F} boxes R k within each them are P opens it =
    subst (λ xs. P (slice_index_or xs k it)) are.each (go boxes k within each)
  where
    go : (boxes : List (DynBox (Unit {0} ⊎ ⊥) Z F)) (k : ℕ) → k < length boxes
        → ((box : DynBox (Unit {0} ⊎ ⊥) Z F) → R (slice_index_or boxes k box) (slice_index_or boxes k box).value)
        → P (slice_index_or (map held boxes) k it)
    go [] k within each = absurd (omega arith)
    go (box ∷ boxes) zero within each = opens box (each box)
    go (box ∷ boxes) (suc k) within each = go boxes k (omega arith) each

-- A run that the boxes drove is one that their values drove, if each box means what its value means.
pub own-runs : {Z : Type 0} {F : Unit {0} ⊎ ⊥ → Type 0} (plan : Plan) (run : Run) (turns : ℕ)
    (boxes : List (DynBox (Unit {0} ⊎ ⊥) Z F)) (means : (box : DynBox (Unit {0} ⊎ ⊥) Z F) → Meaning (F box.vtable))
    → AreRunsOf (DrivenBy means (λ box. box.value) turns boxes) plan run → length boxes ≡ length plan.names
    → (them : List (F (inl tt))) → AreHeld boxes them → (does : Meaning (F (inl tt)))
    → ((box : DynBox (Unit {0} ⊎ ⊥) Z F) (it : F (inl tt)) → means (dyn_box_with box (inl tt) it) ≡ does)
    → AreRunsOf (DrivenBy (λ it. does) (λ it. it) turns them) plan run
own-runs {Z = Z} {F = F} plan run turns boxes means are as_many them hold does same = record {
  board = are.board;
  size = are.size;
  capacity = are.capacity;
  posts = are.posts;
  new = are.new;
  runs = record {
    left = are.runs.left;
    as_many = are.runs.as_many;
    each = λ k p t e q within it.
        let place : k < length boxes = omega (arith, within, are.new.as_many, are.size, as_many) in
        held-each boxes (λ box value. IsRunOfPost (means box) turns value (slice_index_or are.posts k p) (slice_index_or run.traces.items k t) (slice_index_or run.ends.items k e) (slice_index_or are.runs.left k q)) k place
        (are.runs.each k p t e q within) them hold
        (λ it. IsRunOfPost does turns it (slice_index_or are.posts k p) (slice_index_or run.traces.items k t) (slice_index_or run.ends.items k e) (slice_index_or are.runs.left k q))
        (λ box is. opens box (slice_index_or are.posts k p) (slice_index_or run.traces.items k t) (slice_index_or run.ends.items k e) (slice_index_or are.runs.left k q) is) it;
    whole = are.runs.whole;
    lines = are.runs.lines;
  };
}
  where
    open_at : (box : DynBox (Unit {0} ⊎ ⊥) Z F) (old : PostView) (trace : List Turn) (end : End) (new : PostView) (kind : Unit {0} ⊎ ⊥) (value : F kind)
        → IsRunOfPost (means (dyn_box_with box kind value)) turns value old trace end new
        → IsRunOfPost does turns (unboxed F kind value) old trace end new
    open_at box old trace end new (inl one) value is = subst (λ (m : Meaning (F (inl tt))). IsRunOfPost m turns value old trace end new) (same box value) is
    open_at box old trace end new (inr none) value is = absurd none

    opens : (box : DynBox (Unit {0} ⊎ ⊥) Z F) (old : PostView) (trace : List Turn) (end : End) (new : PostView)
        → IsRunOfPost (means box) turns box.value old trace end new → IsRunOfPost does turns (held box) old trace end new
    opens box old trace end new is = open_at box old trace end new box.vtable box.value is
