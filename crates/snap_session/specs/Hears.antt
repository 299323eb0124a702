-- The first frame of the bytes held.
use Rattle.std.specs.Prelude.{◌≡◌, ◌<◌, ℕ, List, Some, None, length}
use Rattle.snap_frame.specs.Stream.{IsPartial, HasFrame, HasLongLength}
use Rattle.snap_session.specs.declared.session.Heard.TheVariants.{Nothing, Asked, Malformed, TooLarge, NoMemory}
use Rattle.snap_session.specs.{declared.session.Heard.Heard, Talk.Talk, Talk.longest_frame}
use Rattle.snap_frame.specs.Messages as messages
use Rattle.snap_frame.specs.declared.frame_buffer.FrameFault.TheVariants as failures

abbrev pub Hears : Talk → Heard → Talk → Type 0
Hears old Nothing new = IsPartial old.held × (new ≡ old) × (length old.held < longest_frame)
Hears old (Asked q) new = (x : List ℕ) × HasFrame old.held x new.held × messages.Asks x q × (new.owed ≡ old.owed)
    × (new.over ≡ None) × (new.asked ≡ old.asked)
Hears old Malformed new = (x : List ℕ) × HasFrame old.held x new.held × messages.Malformed x × (new.owed ≡ old.owed)
    × (new.over ≡ None) × (new.asked ≡ old.asked)
Hears old TooLarge new = HasLongLength old.held × (new ≡ record old { over = Some failures.TooLarge })
Hears old NoMemory new = (new.owed ≡ old.owed) × (new.over ≡ Some failures.NoMemory) × (new.asked ≡ old.asked)
