-- A struct of one field that holds nothing, as a `PhantomData` is.
use Rattle.std.proofs.Common.{List, [], ◌∷◌, refl}
use seplogic.Ra.Ura.{Ura}
use mir.Val.{Val, vstruct, vcons, vnil}
use types.Logic.{Logic}
use types.Kit.{Goal, Step, step, Item, ‵, ◌$◌, move, fjoin, fpack, feq_i}
use denote.RattleType.{RattleType, Valss}
use denote.Steps.{nothing}
use denote.Struct.Struct.{Struct, within}

abbrev pub none : Val
none = vstruct vnil

abbrev pub one : Val
one = vstruct (vcons none vnil)

abbrev pub plainly : RattleType → RattleType
plainly R = Struct (record { name = []; args = []; types = []; fields = R ∷ [] })

module _ {M : Type 1} {𝓤 : Ura M} {𝓛 : Logic 𝓤} {K : Type 0} {Γ : List (Item 𝓤)} {G : Goal 𝓤 𝓛.H}
  where
    pub one_made : K → (R : RattleType) (x : R.Denot)
        → Step K 𝓛 (‵ ((plainly R).own_val (x, tt) (one ∷ [])) ∷ Γ) G (‵ (R.own_val x (none ∷ [])) ∷ Γ) G
    one_made t R x = step (λ s.
        nothing t $ move t (1 ∷ 0 ∷ []) $ fjoin t $ feq_i t (List Val) (one ∷ []) (one
        ∷ []) refl $ fjoin t $
        fpack t (Valss (R ∷ [])) (within (record {
          name = [];
          args = [];
          types = [];
          fields =
              R ∷ [];
        }) (x, tt) (one ∷ [])) (none ∷ [], tt) $ s)
