use Rattle.std.proofs.Common.{◌≡◌, drop}
use Rattle.sj_draw.specs.Words.{behind_fields}
use Rattle.sj_draw.proofs.words.behind_fields.Given as goal

-- the fields that are left have to be the words of the rest
abbrev pub invariant-loop-field : goal.invariant-loop-field
invariant-loop-field l = behind_fields l.fields l.fn.text ≡ behind_fields (drop l.field-index l.fields) l.rest
