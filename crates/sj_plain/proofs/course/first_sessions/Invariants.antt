use Rattle.std.proofs.Common.{◌≡◌, map, take}
use Rattle.sj_lang.specs.FileView.{connect_of}
use Rattle.sj_plain.specs.Ends.{connected_session}
use Rattle.sj_plain.specs.Stepping.{sessions_at}
use Rattle.sj_plain.proofs.course.first_sessions.Given as goal

abbrev pub invariant-loop-connect : goal.invariant-loop-connect
invariant-loop-connect l = sessions_at l.table l.sessions.items ≡ map (connected_session l.table) (map connect_of (take l.connect-index l.connects))
