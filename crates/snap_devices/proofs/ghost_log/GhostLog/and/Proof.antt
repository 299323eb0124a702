-- `and` makes a value that takes no memory, at the longer list. It reads neither argument.
use Rattle.std.proofs.Common.{[], ◌∷◌, ◌++◌, ◌<◌, ◌^◌, length, refl}
use seplogic.Ra.Ura.{Ura}
use mir.Syntax.{Fn, Args as TypeArgs, a_type, named}
use mir.Val.{Val, vptr}
use mir.MapTy.{inst_fn}
use base.Logic.{SProp, ent, via, fst∗}
use base.Fml.{Fml}
use prog.Memory.{Memory}
use prog.Routine.{Routine}
use prog.Wp.{Calls, Loops, WpFn, Tables}
use contract.Lifetimes.{Lfts, Shares, AllOutlive}
use contract.Monad.{Fun}
use contract.Running.{tables, tables_of}
use sound.WpLaws.{WpFn-mono}
use types.Logic.{Logic}
use types.Kit.{‵, raw, ◌$◌, ◌∵◌, !, qed, move, fjoin, suffices, done}
use types.Part.{agg}
use types.Run.{enter, returns, and_then, no_more}
use types.ByLocal.{alloc_all, pass_all, free_all, look_at, get, sets}
use denote.Exit.{yes}
use denote.RattleType.{RattleType, owns}
use denote.Laws.{Is}
use denote.Param.{param, layouts}
use denote.Ref.{shr_vals, shr_Tells}
use denote.Slice.{slice_val, shr_slice_vals, shr_slice_Tells}
use denote.Signature.{plain, types_at}
use denote.Steps.{nothing, owned}
use denote.Struct.Laws.{makes}
use denote.Triple.Clauses.{Clauses, Ended, closing}
use denote.Triple.Entry.{on_entry, alive, Args}
use denote.Triple.Spec.{Meets, triple_of}
use denote.Triple.Table.{entered}
use denote.Triple.Walked.{says, stay_none_ref, stay_none_slice, Stays, walk_of, Walks, ends_at, walked}
use denote.Triple.Walked.{Goes-none_ref, Goes-none_slice}
use denote.Triple.Walked.{walk_Meets}
use Rattle.std.specs.contracts.marker.PhantomData as Mark
use Rattle.snap_devices.proofs.Marked.{none, one, one_made}
use Rattle.snap_devices.specs.contracts.ghost_log.GhostLog as GhostLog
use Rattle.snap_devices.specs.contracts.ghost_log.GhostLog.and as F
use Rattle.snap_devices.specs.contracts.ghost_log.GhostLog.and.Key.{name as key}
use Rattle.snap_devices.proofs.ghost_log.GhostLog.and.Statement as stated
use Rattle.snap_devices.proofs.ghost_log.GhostLog.and.Code as code

module _ (A : RattleType) where
  abbrev args : TypeArgs
  args = layouts (a_type ∷ []) (A, tt)

  abbrev function : Fn
  function = inst_fn args code.function

  abbrev ended : Ended
  ended = F.ended A

  abbrev row : RattleType
  row = GhostLog.the_row (param 0 A)

  abbrev stayed : Stays ended.signature.params ended.kept
  stayed = (
    stay_none_ref (0 ∷ []) tt (plain (λ _. row)) yes,
    (stay_none_slice (1 ∷ []) tt (plain (λ _. param 0 A)) yes, tt),
  )

  module _ {M : Type 1} {𝓤 : Ura M} (𝓛 : Logic 𝓤) (at_mem : Memory → SProp 𝓤) (run : Routine
      → Fun 𝓤) where
    open 𝓛 use {H}

    abbrev held : Clauses 𝓤 ended
    held = F.clauses A 𝓛 at_mem run

    module _ (C : Calls 𝓤 H) (Λ : Loops 𝓤 H) where
      module _ (κs : Lfts ended.signature.lifetimes) (qs : Shares ended.signature.lifetimes)
          (bounds : AllOutlive ended.signature.lifetimes ended.signature.outlives κs)
          (a : Args ended.signature κs) where
        abbrev before : Val
        before = vptr a.0.ref_ptr.0 a.0.ref_ptr.1

        abbrev items : Val
        items = slice_val a.1.0.ref_ptr (length a.1.0.now)

        abbrev longer : row.Denot
        longer = record { of = record {}; items = a.1.0.now ++ a.0.now.items }

        abbrev bound : (walk_of 𝓛 ended stayed held).Ghost
        bound = ((κs, qs, bounds, a, (before ∷ [], (items ∷ [], tt))), tt)

        abbrev passed : Fml
        passed = owns (types_at ended.signature.params κs) a (before ∷ [], (items ∷ [], tt))

        walk : length a.1.0.now < 2 ^ 64 → ent 𝓤 (on_entry 𝓛 ended.signature κs qs a (before ∷ [], (items ∷ [], tt)))
            (WpFn 𝓤 H C Λ function (before ∷ items ∷ []) ((walk_of 𝓛 ended stayed held).post bound))
        walk fits =
            qed 𝓛 (raw (alive 𝓛 ended.signature κs qs) ∷ ‵ passed ∷ []) ∵ enter ! C Λ function
            (before ∷ items ∷ []) _ $
            alloc_all ! (λ l. pass_all ! refl (
              (tt, tt),
              ((tt, (tt, (record { fits = fits }, tt))), tt),
            ) $
            sets ! (agg ! (no_more !)) refl (tt, tt) $
            sets ! (agg ! (and_then ! (get ! refl) (no_more !))) refl (tt, (tt, tt)) $
            nothing ! $ owned ! (Mark.the_row (param 0 A)) (Is (Mark.the_row (param 0 A)))
            (makes (Mark.the_type (param 0 A)) tt 𝓛) (record {}) (none ∷ []) (tt, (refl, tt)) $
            one_made ! (Mark.the_row (param 0 A)) (record {}) $ fjoin ! $
            returns ! (look_at ! 0 refl) $ free_all ! refl $
            suffices ! _ (ends_at 𝓛 ended stayed held bound one longer (tt, (tt, tt)) (
              tt,
              (tt, tt),
            )) $ says ! refl $
            move ! (1 ∷ 2 ∷ 0 ∷ []) $ done !)

      walks : Walks 𝓛 ended stayed (WpFn 𝓤 H C Λ function) held
      walks = walked 𝓛 ended stayed held (WpFn 𝓤 H C Λ function) (λ κs. (shr_vals, (shr_slice_vals, tt)))
          (λ κs. (shr_Tells (named 0) κs.0 row, (shr_slice_Tells (named 1) κs.1.0 (param 0 A), tt)))
          (λ κs qs bounds a g are. via 𝓤 _ (fst∗ 𝓤 _ ((held κs a).requires g)) (walk κs qs bounds a are.1.0.0.1.0))

    meets : (𝓣 : Tables 𝓤 H) → Meets 𝓛 ended.signature (WpFn 𝓤 H 𝓣.C 𝓣.Λ function) (closing 𝓛 ended held)
    meets 𝓣 =
        walk_Meets 𝓛 ended stayed (
          Goes-none_ref 𝓛 ended.signature.lifetimes (0
              ∷ []) tt (plain (λ _. row)) yes,
          (
            Goes-none_slice 𝓛 ended.signature.lifetimes (1 ∷ []) tt (plain (λ _. param 0 A)) yes,
            tt,
          ),
        ) held
        (WpFn 𝓤 H 𝓣.C 𝓣.Λ function) (WpFn-mono 𝓤 H 𝓛.laws 𝓣 function) (walks 𝓣.C 𝓣.Λ)

pub and_spec : {M : Type 1} → stated.statement M
unfolding tables_of
and_spec 𝓤 𝓛 𝓜 𝓡 wired A LA =
    let 𝓣 : Tables 𝓤 𝓛.H = tables_of 𝓤 𝓛.H 𝓜 (tables 𝓤 𝓛.H 𝓜 𝓡 𝓡.env) in
    entered 𝓤 𝓛.H (triple_of 𝓛 (ended A).signature (closing 𝓛 (ended A) (held A 𝓛 𝓜.mem 𝓡.returns)))
    𝓣.C 𝓣.Λ (key (args A)) (function A)
    (code.unfolded 𝓤 𝓛.H 𝓜 𝓡 wired (A, tt)) (meets A 𝓛 𝓜.mem 𝓡.returns 𝓣)
