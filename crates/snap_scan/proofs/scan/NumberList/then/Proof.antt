-- `then` makes the longer list, a value that takes no memory. It reads neither argument.
use mathlib.Core.Path.{refl}
use mathlib.Core.List.{[], ◌∷◌, ◌++◌}
use seplogic.Ra.Ura.{Ura}
use mir.Syntax.{named}
use mir.Val.{Val, vptr, vstruct, vnil}
use base.Logic.{SProp, ent, emp, via, fst∗}
use base.Fml.{Fml}
use prog.Memory.{Memory}
use prog.Routine.{Routine}
use prog.Wp.{Calls, Loops, WpFn, Tables}
use types.Logic.{Logic}
use contract.Lifetimes.{Lfts, Shares}
use contract.Monad.{Fun}
use contract.Running.{tables, tables_of}
use sound.WpLaws.{WpFn-mono}
use types.Kit.{‵, raw, ◌$◌, ◌∵◌, !, qed, move, suffices, done}
use types.Run.{no_more, returns, enter}
use types.Part.{agg}
use types.ByLocal.{alloc_all, pass_all, free_all, look_at, sets}
use denote.Exit.{yes}
use denote.RattleType.{owns}
use denote.Ref.{shr_vals, shr_Tells}
use denote.Shadow.{pure_i}
use denote.Signature.{plain, types_at}
use denote.Triple.Entry.{on_entry, alive, Args}
use denote.Triple.Spec.{Meets, triple_of}
use denote.Triple.Table.{entered}
use denote.Triple.Walked.{says, stay_none_ref, Stays, walk_of, Walks, ends_at, walked, Goes-none_ref, walk_Meets}
use Rattle.snap_scan.specs.contracts.scan.NumberList as T
use Rattle.std.specs.Borrow.{u64}
use Rattle.snap_scan.specs.contracts.scan.NumberList.then.Key.{name as key}
use Rattle.snap_scan.specs.contracts.scan.NumberList.then as it
use Rattle.snap_scan.proofs.scan.NumberList.then.Statement as stated
use Rattle.snap_scan.proofs.scan.NumberList.then.Code as code

abbrev stayed : Stays (it.ended).signature.params (it.ended).kept
stayed =
    (stay_none_ref (0 ∷ []) tt (plain (λ _. T.the_row)) yes, (stay_none_ref (1 ∷ []) tt (plain (λ _. u64)) yes, tt))

module _ {M : Type 1} {𝓤 : Ura M} (𝓛 : Logic 𝓤) (at_mem : Memory → SProp 𝓤) (run : Routine
    → Fun 𝓤) (C : Calls 𝓤 𝓛.H) (Λ : Loops 𝓤 𝓛.H) where
  open 𝓛 use {H}

  module _ (κs : Lfts 2) (qs : Shares 2) (a : Args it.signature κs) where
    abbrev before : Val
    before = vptr a.0.ref_ptr.0 a.0.ref_ptr.1

    abbrev number : Val
    number = vptr a.1.0.ref_ptr.0 a.1.0.ref_ptr.1

    abbrev longer : (T.the_row).Denot
    longer = record { list = a.0.now.list ++ a.1.0.now ∷ [] }

    abbrev bound : (walk_of 𝓛 it.ended stayed (it.clauses 𝓛 at_mem run)).Ghost
    bound = ((κs, qs, tt, a, (before ∷ [], (number ∷ [], tt))), tt)

    abbrev passed : Fml
    passed = owns (types_at it.signature.params κs) a (before ∷ [], (number ∷ [], tt))

    walk : ent 𝓤 (on_entry 𝓛 it.signature κs qs a (before ∷ [], (number ∷ [], tt)))
        (WpFn 𝓤 H C Λ code.function (before ∷ number
        ∷ []) ((walk_of 𝓛 it.ended stayed (it.clauses 𝓛 at_mem run)).post bound))
    walk = qed 𝓛 (raw (alive 𝓛 it.signature κs qs) ∷ ‵ passed ∷ []) ∵ enter ! C Λ code.function
        (before ∷ number ∷ []) _ $ alloc_all ! (λ l. pass_all ! refl ((tt, tt), ((tt, tt), tt)) $ sets !
        (agg ! (no_more !)) refl (tt, tt) $ returns ! (look_at ! 0 refl) $ free_all ! refl $ suffices ! _
        (ends_at 𝓛 it.ended stayed (it.clauses 𝓛 at_mem run) bound (vstruct vnil) longer (tt, (tt, tt))
        (tt, (tt, tt))) $ says ! refl $ pure_i ! ((T.the_row).own_val longer (vstruct vnil ∷ []))
        ((λ vss. (tt, tt)), tt) ((tt, (refl, tt)), tt) $ move ! (1 ∷ 2 ∷ 0 ∷ []) $ done !)

  walks : Walks 𝓛 it.ended stayed (WpFn 𝓤 H C Λ code.function) (it.clauses 𝓛 at_mem run)
  walks =
      walked 𝓛 it.ended stayed (it.clauses 𝓛 at_mem run) (WpFn 𝓤 H C Λ code.function) (λ κs. (shr_vals, (shr_vals, tt)))
      (λ κs. (shr_Tells (named 0) κs.0 T.the_row, (shr_Tells (named 1) κs.1.0 u64, tt)))
      (λ κs qs bounds a g are. via 𝓤 _ (fst∗ 𝓤 _ (emp 𝓤)) (walk κs qs a))

meets : {M : Type 1} {𝓤 : Ura M} (𝓛 : Logic 𝓤) (at_mem : Memory → SProp 𝓤) (run : Routine → Fun 𝓤) (𝓣 : Tables 𝓤 𝓛.H)
    → Meets 𝓛 it.signature (WpFn 𝓤 𝓛.H 𝓣.C 𝓣.Λ code.function) (it.spec 𝓛 at_mem run)
meets {𝓤 = 𝓤} 𝓛 at_mem run 𝓣 = walk_Meets 𝓛 it.ended stayed (
  Goes-none_ref 𝓛 2 (0 ∷ []) tt (plain (λ _. T.the_row)) yes,
  (Goes-none_ref 𝓛 2 (1 ∷ []) tt (plain (λ _. u64)) yes, tt),
) (it.clauses 𝓛 at_mem run) (WpFn 𝓤 𝓛.H 𝓣.C 𝓣.Λ code.function) (WpFn-mono 𝓤 𝓛.H 𝓛.laws 𝓣 code.function)
    (walks 𝓛 at_mem run 𝓣.C 𝓣.Λ)

pub then_spec : {M : Type 1} → stated.statement M
unfolding tables_of
then_spec 𝓤 𝓛 𝓜 𝓡 wired =
    entered 𝓤 𝓛.H (triple_of 𝓛 it.signature (it.spec 𝓛 𝓜.mem 𝓡.returns)) (tables 𝓤 𝓛.H 𝓜 𝓡 𝓡.env).C
    (tables 𝓤 𝓛.H 𝓜 𝓡 𝓡.env).Λ key code.function (code.unfolded 𝓤 𝓛.H 𝓜 𝓡 wired)
    (meets 𝓛 𝓜.mem 𝓡.returns (tables_of 𝓤 𝓛.H 𝓜 (tables 𝓤 𝓛.H 𝓜 𝓡 𝓡.env)))
