-- One line more.
use Rattle.std.proofs.Common.{◌≡◌, ℕ, Some, List, [], ◌∷◌, ◌++◌, refl, sym, ◌∙◌, append_assoc, append-nil}
use Rattle.snap_script.{proofs.Zip.AllZip-push, specs.Interpreter.Played, specs.Line.IsEventLine}
use Rattle.snap_script.specs.{Line.IsWorldLine, Text.world_text, Text.line_text, Text.reply_text, Text.replies_text}
use Rattle.snap_world.specs.Start.{start_state, start_world_phases, AreFormatted}
use Rattle.snap_world.specs.Surface.{StandsFor, IsRun, configuration, segments_of, phases_of, devices_of}
use Rattle.snap_world.proofs.Runs.{Run-append}
use Rattle.snap_world.specs.declared.{event.Event.Event, event.Reply.Reply, world.World.World}

replies_text-push : (replies : List Reply) (reply : Reply)
    → replies_text (replies ++ reply ∷ []) ≡ replies_text replies ++ line_text (reply_text reply)
replies_text-push [] reply = append-nil (line_text (reply_text reply))
replies_text-push (r ∷ replies) reply = simp (replies_text-push replies reply, append_assoc)

pub played_on : (old new : World) (lines : List (List ℕ)) (text line : List ℕ) (e : Event) (reply : Reply)
    (out : List ℕ) → Played lines text (Some old) → IsEventLine line e → IsRun old (e ∷ []) (reply ∷ []) new
    → out ≡ line_text (reply_text reply) → Played (lines ++ line ∷ []) (text ++ out) (Some new)
played_on old new [] text line e reply out h is run printed = absurd h
played_on old new (first ∷ lines) text line e reply out (x, stands, plays) is run printed =
    let step = run.run x stands in
    let n = segments_of old in (
      step.0,
      step.2,
      rw run.segments record {
        s = plays.s;
        is_world = plays.is_world;
        devices = plays.devices;
        formatted = plays.formatted;
        events = plays.events ++ e ∷ [];
        are_events = AllZip-push IsEventLine lines plays.events line e plays.are_events is;
        replies = plays.replies ++ reply ∷ [];
        run = Run-append n _ plays.events plays.replies (configuration old x) (e ∷ [])
            (reply ∷ []) (configuration new step.0) plays.run step.1;
        printed = rw (plays.printed, printed, replies_text-push)
            (append_assoc (line_text (world_text n plays.s)) (replies_text plays.replies) _);
      },
    )

pub played_first : (w : World) (line out : List ℕ) (n s : ℕ) → IsWorldLine line n s → segments_of w ≡ n
    → phases_of w ≡ start_world_phases n s → AreFormatted n (devices_of w) → StandsFor w (start_state n s)
    → out ≡ line_text (world_text n s) → Played (line ∷ []) out (Some w)
played_first w line out n s is segments phases formatted stands printed = (
  start_state n s,
  stands,
  rw segments record {
    s = s;
    is_world = is;
    devices = devices_of w;
    formatted = formatted;
    events = [];
    are_events = tt;
    replies = [];
    run = rw phases refl;
    printed = printed ∙ sym (append-nil (line_text (world_text n s)));
  },
)
