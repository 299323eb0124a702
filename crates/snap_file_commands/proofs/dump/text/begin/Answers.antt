use Rattle.std.proofs.Common.{◌∙◌}
use Rattle.snap_file_commands.proofs.dump.text.begin.Goals as goal

pub returns : goal.returns
returns c = (
  c.begin_array.ensures.room.0 ∙ c.key-5.ensures.room.0 ∙ c.u64-2.ensures.room.0 ∙ c.key-4.ensures.room.0
      ∙ c.string-2.ensures.room.0 ∙ c.key-3.ensures.room.0 ∙ c.u64.ensures.room.0 ∙ c.key-2.ensures.room.0
      ∙ c.string.ensures.room.0 ∙ c.key.ensures.room.0 ∙ c.begin_object.ensures.room.0,
  rw (c.in_ok-begin_array.ensures.ok, c.in_ok-key-5.ensures.ok, c.in_ok-u64-2.ensures.ok)
      (rw (c.in_ok-key-4.ensures.ok, c.in_ok-string-2.ensures.ok, c.in_ok-key-3.ensures.ok)
      (rw (c.in_ok-u64.ensures.ok, c.in_ok-key-2.ensures.ok, c.in_ok-string.ensures.ok)
      (rw (c.in_ok-key.ensures.ok, c.in_ok-begin_object.ensures.ok, c.requires)))),
)
