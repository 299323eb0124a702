-- A script from its first read to its end.
use Rattle.std.proofs.Common.{ℕ, inr, Option, List, [], ◌++◌, refl, append-nil}
use Rattle.std.proofs.KnownBytes.{Appends-nil, Consumes-kept, Consumes-nil, Consumes-trans}
use Rattle.std.proofs.lemmas.List.Elements.{All-nil}
use Rattle.std.specs.{Io.KnownBytes.Consumes, Io.KnownBytes.Keeps, declared.io.Error.Error}
use Rattle.snap_script.{proofs.Halts.ends_in, proofs.Steps.prints, specs.LineBuffer.HasTaken}
use Rattle.snap_script.specs.{Script.Runs, declared.line_buffer.LineBuffer.LineBuffer}
use Rattle.snap_script.specs.declared.run.ScriptEnd.TheVariants.{NoMemory, ReadFailed}

-- no memory at first
pub runs_none : (read old : Option (List ℕ)) → Runs read read old old NoMemory
runs_none read old = (
  [],
  Consumes-nil read,
  record {
    done = [];
    line = [];
    after = [];
    at = record { whole = refl; lines = All-nil _; plain = All-nil _ };
    ends = inr refl;
    prints = ([], refl, Appends-nil old);
  },
)

-- these bytes were read and taken
pub record IsFed (read_old read_new old new : Option (List ℕ)) (buffer : LineBuffer) : Type 0 where
  pub taken : List ℕ
  pub read : Consumes read_old read_new taken
  pub has_taken : HasTaken taken old new buffer

module _ {read_old read_new old new : Option (List ℕ)} {buffer : LineBuffer}
    (f : IsFed read_old read_new old new buffer) where
  -- a piece was read
  pub read_on : (after : Option (List ℕ)) (piece : List ℕ) → Consumes read_new after piece
      → Consumes read_old after (f.taken ++ piece)
  read_on after piece came = Consumes-trans read_old read_new after f.taken piece f.read came

  -- the reader fails
  pub runs_cut : {after : Option (List ℕ)} (error : Error) → Keeps read_new after
      → Runs read_old after old new (ReadFailed error)
  runs_cut {after} error kept = (
    f.taken,
    Consumes-kept read_old read_new after f.taken f.read kept,
    rw (append-nil f.taken) at (ends_in f.has_taken [] after new (ReadFailed error) refl (prints f.has_taken.has_done)),
  )
