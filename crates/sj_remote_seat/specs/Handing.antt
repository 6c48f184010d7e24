-- What a party that code plays hands in.
use Rattle.std.specs.Prelude.{ℕ, List}
use Rattle.sj_engine.specs.declared.in_lane.ByteIn.{ByteIn}
use Rattle.sj_engine.specs.declared.out_lane.ByteOut.{ByteOut}
use Rattle.sj_lang.specs.FileAt.{FileAt}
use Rattle.sj_lang.specs.Place.{Place}
use Rattle.sj_node.specs.Node.{log_of}
use Rattle.sj_node.specs.Reading.{party_of}
use Rattle.sj_remote_run.specs.Turns.{batch_text, next_seen}
use Rattle.sj_rules.specs.Frames.{FrameAt}
use Rattle.sj_seat.specs.Views.{node_of}
use Rattle.sj_seat.specs.declared.guest.Guest.{Guest}

module _ {G : Type 0} where
  -- the command that adds what was noted, where something was, with these frames
  abbrev pub handed_text : (keys : List (List ℕ)) → (seen : List ℕ) → FileAt → Guest ByteOut ByteIn G → (frames : List (List (FrameAt Place))) → List ℕ
  handed_text keys seen file g frames = batch_text keys seen file (party_of (node_of g)) (log_of (node_of g)) frames

  -- the numbers that are seen then
  abbrev pub seen_then : (seen : List ℕ) → Guest ByteOut ByteIn G → List ℕ
  seen_then seen g = next_seen (party_of (node_of g)) (log_of (node_of g)) seen
