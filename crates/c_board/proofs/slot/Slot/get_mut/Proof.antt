-- `get_mut` lends the content of the box, and the slot follows it.
use Rattle.std.proofs.Common.{◌≡◌, ℕ, List, [], ◌∷◌, refl, sym, ap, ◌∙◌}
use seplogic.Ra.Ura.{Ura}
use mir.Syntax.{named}
use mir.Raw.{raw as bare}
use mir.Val.{Val, vptr}
use base.Fraction.{full_share}
use base.Logic.{ent, sep, never, fst∗}
use base.Fml.{Fml, GName, ftrue, fsep, flft}
use types.Logic.{Logic, sem}
use types.Kit.{‵, raw, ◌⊛◌, some, later, at_ret, ◌$◌, ◌∵◌, !, qed, by, move, keep, use1, split, join, fsplit, fsplit3, fjoin, fpack, pick, await, rewrite, suffices, frame, group, done}
use types.Run.{stop, fld, load, addr, of_opd, first, blocks, exec, returns, enter}
use types.ByLocal.{alloc_all, pass_all, free_all, look_at, get, through, sets, sets_last, env}
use types.Part.{whole, sub, look_in}
use contract.Monad.{fact}
use contract.Running.{tables}
use denote.Exit.{no}
use denote.Follow.{follows, Part, lends_Part}
use denote.Memory.{cell_at, part_at, part_of, lone, mem}
use denote.RawPtr.{Ptr, block_ptr, null_ptr, ptr_val, in_a_block}
use denote.Ref.{MutBor, MutRef, mut_vals, mut_Tells}
use denote.Signature.{plain, mut_ref_to}
use denote.Steps.{nothing, heard, opens}
use denote.Triple.Walked.{Stays, stay_dropped, walk_of, says, ends_at, Goes-spent_ref}
use Rattle.std.specs.declared.alloc.Global.{Global}
use Rattle.std.specs.declared.option.Option.TheVariants.{None, Some}
use Rattle.std.specs.contracts.impls.GlobalAllocator.TheImpl.{ghosts}
use Rattle.std.proofs.raw_atomic.Walks.{proved}
use Rattle.std_alloc.proofs.VecSteps.Shapes.{after}
use Rattle.c_board.specs.Cells.{boxed, slot_owns}
use Rattle.c_board.specs.Lending.{with_kept}
use Rattle.c_board.specs.declared.kept.Kept.{Kept}
use Rattle.c_board.proofs.SlotValues.{Held, Slot, slot_in, slot_out, alone, full_at}
use Rattle.c_board.specs.contracts.slot.Slot.get_mut as f
use Rattle.c_board.proofs.slot.Slot.get_mut.Statement.{statement}
use Rattle.c_board.proofs.slot.Slot.get_mut.Code as code

abbrev stayed : Stays f.ended.signature.params f.ended.kept
stayed = (stay_dropped (mut_ref_to (0 ∷ []) tt (plain (λ _. Slot))) no, tt)

-- all of the slot but its content
module _ (rb ro b o : ℕ) (g : Global) where
  abbrev Rest : Fml
  Rest = fsep (ghosts.dealloc_token g (bare (lone Held.mir)) (block_ptr b o)) (cell_at full_share Slot.mir (alone (vptr b o) ∷ []) rb ro)

  -- with any content the slot is whole again
  back : {M : Type 1} {𝓤 : Ura M} (𝓛 : Logic 𝓤) (d : Slot.Denot) → d.at ≡ block_ptr b o
      → (x : Kept) → ent 𝓤 (sep 𝓤 (sem 𝓛 ((mem Held).own_at x b o)) (sem 𝓛 Rest)) (sem 𝓛 ((mem Slot).own_at (with_kept d x) rb ro))
  unfolding part_of
  back 𝓛 d e x =
      qed 𝓛 (‵ (part_at Held full_share x b o) ∷ ‵ Rest ∷ []) ∵ move ! (1 ∷ []) $ fsplit ! $ move ! (2 ∷ 0 ∷ []) $ fjoin ! $
      fpack ! Global (boxed (block_ptr b o) x) g $ rewrite ! 0 (λ (p : Ptr). ‵ (slot_owns p (Some x))) (sym e) refl $
      slot_in ! d.at (vptr b o) (ap ptr_val e) (Some x) $ move ! (1 ∷ 0 ∷ []) $ fjoin ! $
      fpack ! (List Val) (λ vs. fsep (cell_at full_share Slot.mir vs rb ro) (Slot.own_val (with_kept d x) vs)) (alone (vptr b o) ∷ []) $ done !

pub get_mut_spec : {M : Type 1} → statement M
get_mut_spec 𝓤 𝓛 𝓜 𝓡 wired =
    let c = f.clauses 𝓛 𝓜.mem 𝓡.returns in let W = walk_of 𝓛 f.ended stayed c in let 𝓣 = tables 𝓤 𝓛.H 𝓜 𝓡 𝓡.env in
    proved 𝓛 f.ended stayed c 𝓜 𝓡 (Goes-spent_ref 𝓛 1 (0 ∷ []) tt (plain (λ _. Slot)), tt)
    f.Key.name code.function (code.unfolded 𝓤 𝓛.H 𝓜 𝓡 wired)
    (λ κs. (mut_vals, tt)) (λ κs. (mut_Tells (named 0) κs.0 Slot, tt)) (λ κs qs bounds a _ are.
    let κ = κs.0 in let q = qs.0 in let r = a.0 in let rb = r.ref_ptr.0 in let ro = r.ref_ptr.1 in let d = r.now in let γ = r.ghost_name in
    let y : W.Ghost = ((κs, qs, bounds, a, (mut_vals r, tt)), tt) in
    qed 𝓛 (((‵ (flft κ q) ⊛ ‵ ftrue) ⊛ ‵ ((MutRef (named 0) κ Slot).own_val r (mut_vals r)) ⊛ ‵ ftrue) ∷ raw (fact 𝓤 (d.value ≡ None → ⊥)) ∷ []) ∵
    move ! (1 ∷ []) $ heard ! (d.value ≡ None → ⊥) (λ full.
    split ! $ split ! $ move ! (2 ∷ []) $ split ! $ keep ! (0 ∷ 2 ∷ []) $
    enter ! _ _ _ _ _ $ alloc_all ! (λ l. pass_all ! refl ((tt, tt), tt) $
    fsplit3 ! $ move ! (1 ∷ 2 ∷ 3 ∷ []) $ opens ! tt Slot rb ro (λ us. move ! (1 ∷ []) $
    slot_out ! d us (λ ws. full_at ! d.at d.value full (λ x g is.
    in_a_block ! d.at (λ p. boxed p x g) (fst∗ 𝓤 (never 𝓤) (sem 𝓛 (ghosts.dealloc_token g (bare (lone Held.mir)) null_ptr))) (λ b o e. fsplit ! $
    -- [the content; the token; the slot's cell; the open borrow, in three entries]
    rewrite ! 2 (λ (vs : List Val). ‵ (cell_at full_share Slot.mir vs rb ro)) (ws ∙ ap (λ (p : Ptr). alone (ptr_val p) ∷ []) e) refl $
    first ! $ blocks ! $
    sets ! (of_opd ! (load ! (through ! refl (fld ! refl (stop !))) (look_in ! 2 (sub ! 0 refl (whole !))))) refl (tt, tt) $
    sets ! (of_opd ! (get ! refl)) refl (tt, tt) $
    sets_last ! (addr ! (through ! refl (stop !))) refl (tt, tt) $
    exec ! 𝓣.C 𝓣.Λ (env code.Mir.locals l) (after 1 (code.function).body) (at_ret _ (W.post y)) $
    sets ! (of_opd ! (get ! refl)) refl (tt, tt) $
    move ! (1 ∷ 2 ∷ []) $ fjoin ! $ move ! (2 ∷ 3 ∷ 4 ∷ 1 ∷ 0 ∷ []) $ group ! 5 $
    let out : GName → MutBor Kept = λ δ. record { ref_ptr = (b, o); ghost_name = δ; now = x } in
    let whole_again = back rb ro b o g 𝓛 d e in
    use1 𝓛 (later (some (λ (δ : GName). raw (Part 𝓛 Slot Held (with_kept d) (named 0) κ q rb ro b o γ (sem 𝓛 (Rest rb ro b o g)) whole_again x δ))))
    (lends_Part 𝓛 Slot Held (with_kept d) (named 0) κ q rb ro b o γ (sem 𝓛 (Rest rb ro b o g)) whole_again (Slot.coded.code d) (Slot.coded.code d) x) $ await ! tt $ pick ! (λ δ.
    returns ! (look_at ! 0 refl) $ free_all ! refl $ keep ! (0 ∷ []) $ by ! (
    qed 𝓛 (‵ ((MutRef (named 0) κ Held).own_val (out δ) (vptr b o ∷ [])) ∷ ‵ (flft κ q) ∷ ‵ (follows Slot Held γ δ (with_kept d)) ∷ []) ∵
    suffices ! _ (ends_at 𝓛 f.ended stayed c y (vptr b o) (out δ) (tt, tt) (tt, tt)) $
    nothing ! $ nothing ! $ fjoin ! $ join ! $ nothing ! $ move ! (2 ∷ 0 ∷ []) $ join ! $ join ! $ frame ! $ says ! is $ done !)))))))))
