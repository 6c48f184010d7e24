-- Lines may go to another thread as a party's code, where their source and their sink may.
use denote.Ref.{NamedLft}
use denote.RattleType.{RattleType}
use denote.Param.Send.{IsSend, IsSync, sendable}
use denote.Param.SendFields.{declared_send}
use Rattle.std.proofs.vec.Vec.TheSendSync as vec
use Rattle.std.proofs.option.Option.TheSendSync as option
use Rattle.std.proofs.alloc.Global.TheSendSync as global
use Rattle.std.below.std_heap.proofs.GlobalAllocator.TheSendSync as frees
use Rattle.sj_seat_lines.proofs.lines.Ended.TheSendSync as ended
use Rattle.sj_seat_lines.proofs.party.Pending.TheSendSync as pending
use Rattle.sj_lang.specs.contracts.file.File as files
use Rattle.sj_seat_texts.specs.contracts.texts.Texts as texts
use Rattle.sj_seat_lines.specs.contracts.names.Name as name
use Rattle.sj_seat_lines.specs.contracts.lines.Lines as lines
use Rattle.sj_seat_lines.specs.contracts.party.Party as party
use Rattle.sj_seat_lines.specs.contracts.reader.LineReader as reader
use Rattle.sj_seat_local.specs.contracts.code.ByLines as code

module _ (a : NamedLft) (f : IsSync files.the_row) (t : IsSend texts.the_row) (n : IsSend name.the_row) where
  party_send : IsSend (party.the_row a)
  party_send = declared_send (party.the_type a)
      (search (global.the_send, sendable) depth 20, (search (f, sendable) depth 10, (t, (search (vec.the_send, global.the_send, frees.the_frees, sendable) depth 20, (search sendable, (search sendable, (search (option.the_send, pending.the_send, sendable) depth 30, tt)))))))

  module _ (S K : RattleType) (s : IsSend S) (k : IsSend K) where
    reader_send : IsSend (reader.the_row S)
    reader_send = declared_send (reader.the_type S) (search (global.the_send, sendable) depth 20, (search sendable, (search (vec.the_send, global.the_send, frees.the_frees, sendable) depth 20, (search sendable, tt))))

    lines_send : IsSend (lines.the_row a S K)
    lines_send = declared_send (lines.the_type a S K) (search (global.the_send, sendable) depth 20, (party_send, (reader_send, (search sendable, (search (option.the_send, ended.the_send, sendable) depth 20, tt)))))

    pub code_send : IsSend (code.the_row a S K)
    code_send = declared_send (code.the_type a S K) (lines_send, tt)
