-- The machine values of a `Slot`. Assumes `Logic`.
use Rattle.std.proofs.Common.{◌≡◌, List, [], ◌∷◌, ◌++◌, refl, sym, subst}
use seplogic.Ra.Ura.{Ura}
use mir.Val.{Val, vptr, vstruct, vcons, vnil}
use types.Logic.{Logic}
use types.Kit.{Item, Goal, Seq, Step, step, ‵, ◌$◌, drop, fsplit, fjoin, fpick, fpack, feq_i, feq_l}
use denote.RattleType.{RattleType, Valss}
use denote.Builtin.{RawPtr}
use denote.RawPtr.{Ptr, ptr_val}
use denote.Steps.{nothing}
use denote.Struct.Struct.{within}
use denote.Struct.Owning.{shape}
use Rattle.std.specs.contracts.alloc.Global as heaps
use Rattle.std.specs.declared.option.Option.{Option}
use Rattle.std.specs.declared.option.Option.TheVariants.{None, Some}
use Rattle.std.specs.declared.alloc.Global.{Global}
use Rattle.c_board.specs.Cells.{boxed, slot_owns}
use Rattle.c_board.specs.declared.kept.Kept.{Kept}
use Rattle.c_board.specs.contracts.kept.Kept as kept
use Rattle.c_board.specs.contracts.slot.Slot as slot

-- the content of the box
abbrev pub Held : RattleType
Held = kept.the_row

abbrev pub Z : RattleType
Z = heaps.the_row

abbrev pub Slot : RattleType
Slot = slot.the_row

abbrev pub alone : Val → Val
alone v = vstruct (vcons v vnil)

module _ {M : Type 1} {𝓤 : Ura M} {𝓛 : Logic 𝓤} {K : Type 0} {Γ : List (Item 𝓤)} {G : Goal 𝓤 𝓛.H} where
  pub slot_in : K → (p : Ptr) (v : Val) → ptr_val p ≡ v → (x : Option Kept)
      → Step K 𝓛 (‵ (Slot.own_val (record { at = p; value = x }) (alone v ∷ [])) ∷ Γ) G (‵ (slot_owns p x) ∷ Γ) G
  slot_in t p v e x = step (λ s. let u : Val = alone v in
      nothing t $ feq_i t (List Val) (v ∷ []) (ptr_val p ∷ []) (λ i. sym e i ∷ []) $ fjoin t $ feq_i t (List Val) (u ∷ []) (u ∷ []) refl $ fjoin t $
      fpack t (Valss (RawPtr ∷ [])) (within (shape (slot.the_type)) (p, tt) (u ∷ [])) (v ∷ [], tt) $ fjoin t $ s)

  pub slot_out : K → (d : Slot.Denot) (vs : List Val)
      → (vs ≡ alone (ptr_val d.at) ∷ [] → Seq K 𝓛 (‵ (slot_owns d.at d.value) ∷ Γ) G)
      → Seq K 𝓛 (‵ (Slot.own_val d vs) ∷ Γ) G
  slot_out t d vs k =
      fsplit t $ fpick t (λ vss. fsplit t $ feq_l t (λ ev. fsplit t $ feq_l t (λ ep. drop t $
      k (subst (λ (ps : List Val). vs ≡ vstruct (mir.Val.of_list (ps ++ [])) ∷ []) ep ev))))

  -- a slot that isn't empty owns such a box
  pub full_at : K → (p : Ptr) (o : Option Kept) → (o ≡ None → ⊥)
      → ((x : Kept) (g : Global) → o ≡ Some x → Seq K 𝓛 (‵ (boxed p x g) ∷ Γ) G) → Seq K 𝓛 (‵ (slot_owns p o) ∷ Γ) G
  full_at t p None full k = absurd (full refl)
  full_at t p (Some x) full k = fpick t (λ g. k x g refl)
