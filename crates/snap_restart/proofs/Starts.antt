-- Files keep one memory over any number of crashes and starts.
use Rattle.std.proofs.Common.{◌≡◌, ℕ, List, [], ◌∷◌, ◌++◌, length, map, refl, sym, subst, ◌∙◌, arith, append-nil}
use Rattle.std.proofs.lemmas.List.{length-map}
use Rattle.snap_history.{specs.History.Update, specs.History.Start, proofs.Pairs.partner}
use Rattle.snap_register.specs.History.{starts, updates}
use Rattle.snap_writer.specs.Writer.{WriterState}
use Rattle.snap_restart.proofs.{Placed.same_file, Commands.stored, Commands.cut_off, Commands.remade, Pairs.partner_of}
use Rattle.snap_restart.{proofs.Commands.joined_without, proofs.LifeStarts.kept_now, specs.Crash.AllHonest}
use Rattle.snap_restart.specs.{Crash.GoesOn, Crash.AreOpened, LifeCrash.Begun, LifeCrash.IsRecovered, Restarts.Restarts}
use Rattle.snap_restart.specs.{LifeCrash.KeepMemory, Restarts.First, Restarts.Crashed, Restarts.Interrupted}
use Rattle.snap_restart.specs.Restarts.{Spared, Put, PutCutOff, Remade, Last, MadeLaw, IsJoined, update, without}
use Rattle.snap_disk.specs.declared.disk.Disk as Disk

module _ {D : Type 0} (disk : Disk.Ghosts D) (n : ℕ) (start : Start) where
  -- files that keep the memory after a history are opened
  module _ (moments : List (List Update)) (devices : List D) (l : Last disk n start moments devices) where
    now : IsRecovered n start l.history (Begun l.crashed) (map (λ (d : D). (disk.device d).bytes) devices)
    now = kept_now disk n start l.history (Begun l.crashed) devices l.kept

    pub all_devices : length devices ≡ n
    all_devices = sym (length-map devices (λ (d : D). (disk.device d).bytes)) ∙ now.size

    -- the history continues
    pub history_on : (writers : List (WriterState D)) (opened : AreOpened disk devices writers)
        → AllHonest disk writers → GoesOn disk opened.plan start l.history l.crashed writers
    history_on writers opened hon = opened.again start l.history l.crashed (rw all_devices now) hon

module _ {D : Type 0} (disk : Disk.Ghosts D) (n : ℕ) where
  unfoldable pub last : (start : Start) (moments : List (List Update)) (devices : List D)
      → Restarts disk n start moments devices → Last disk n start moments devices
  last start [] _ (First _ devices kept) = record { history = []; crashed = []; joined = refl; kept = kept }
  last start (_ ∷ _) _
      (Crashed _ moments devices nexts writers crashed s past opened hon kept count each follow) =
      let l = last start moments devices past in
      let on = history_on disk n start moments devices l writers opened hon in
      let h = (l.history ++ on.more) ++ updates kept.history in
      record {
        history = h;
        crashed = crashed;
        joined = (l.history, on.more, l.joined, on.once, refl);
        kept = λ files left. subst (λ (k : ℕ). IsRecovered k start h (Begun crashed) files)
            (opened.one_each ∙ all_devices disk n start moments devices l)
            (on.any_moment s kept crashed files count each (record {
              size = follow.size ∙ left.size;
              each = λ i p b ep eb. let d = partner _ crashed nexts i p follow ep in d.2 b (left.each i d.0 b d.1 eb);
            }));
      }
  last start _ _ (Interrupted _ moments devices news nexts past stay follow) =
      let l = last start moments devices past in
      record {
        history = l.history;
        crashed = l.crashed;
        joined = l.joined;
        kept = λ files left.
            stay n start l.history l.crashed files l.kept (follow.0 ∙ left.size) (λ i d e b ed ee eb.
            let f = partner_of _ nexts files i b left eb in follow.1 i d e f.0 b ed ee f.1 f.2);
      }
  last start _ _ (Spared _ moments devices nexts past same) =
      let l = last start moments devices past in
      record {
        history = l.history;
        crashed = l.crashed;
        joined = l.joined;
        kept = λ files left. l.kept files (record {
          size = same.size ∙ left.size;
          each = λ i d b ed eb. let e = partner _ devices nexts i d same ed in e.2 b (left.each i e.0 b e.1 eb);
        });
      }
  last start (_ ∷ _) _ (Put _ moments devices nexts i k u v past held works) =
      let l = last start moments devices past in
      let is = stored disk n start l.history l.crashed devices nexts l.kept i k u v held works in
      record {
        history = (l.history ++ is.more) ++ update i v ∷ [];
        crashed = l.crashed;
        joined = (l.history, is.more, l.joined, is.once, refl);
        kept = is.keeps;
      }
  last start (_ ∷ _) _ (PutCutOff _ moments devices nexts i k u v past held works) =
      let l = last start moments devices past in
      let is = cut_off disk n start l.history l.crashed devices nexts l.kept i k u v held works in
      record {
        history = l.history ++ is.more;
        crashed = is.begun;
        joined = (l.history, is.more, l.joined, is.once, sym (append-nil (l.history ++ is.more)));
        kept = is.keeps;
      }
  last next rest _ (Remade start _ moments _ devices nexts i k v past works from rest_is) =
      let l = last start moments devices past in
      record {
        history = without i l.history;
        crashed = l.crashed;
        joined = subst (λ (ms : List (List Update)). IsJoined ms (without i l.history)) (sym rest_is)
            (joined_without i moments l.history l.joined);
        kept = subst (λ (s : Start). KeepMemory disk n s (without i l.history) (Begun l.crashed) nexts)
            (sym from) (remade disk n start l.history l.crashed devices nexts l.kept i k v works);
      }

module _ {D : Type 0} (disk : Disk.Ghosts D) where
  pub made : MadeLaw disk
  made devices start fresh = First start devices (λ files left. record {
    begun_too = [];
    were_begun = λ j u e. absurd (cc e);
    once = λ i. omega arith;
    size = sym left.size;
    holds = λ i b e.
        let d = partner_of _ devices files i b left e in
        same_file refl refl (omega arith) refl (fresh i d.0 b d.1 d.2);
  })

  pub first : (devices : List D) (writers : List (WriterState D)) (opened : AreOpened disk devices writers)
      → GoesOn disk opened.plan (starts opened.plan) [] [] writers
  first devices writers opened = record {
    more = [];
    were_begun = λ j u e. absurd (cc e);
    once = λ i. omega arith;
    starts_are = λ i w at. let is = opened.starts_are i w at in (omega (arith, is.0), is.1);
    any_moment = λ s kept places files count each left. (opened.any_moment s kept places files count each left).1;
  }
