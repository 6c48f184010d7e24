-- What a world keeps of its file.
use Rattle.std.specs.Prelude.{[]}
use Rattle.sj_lang.specs.FileAt.{FileAt}
use Rattle.sj_lang.specs.FileView.{file_of}
use Rattle.sj_plain.specs.declared.shared_file.SharedFile.{SharedFile}

-- the file without its tables of words and of texts
abbrev pub without_words : FileAt → FileAt
without_words file = record {
  words = [];
  texts = [];
  protocols = file.protocols;
  parties = file.parties;
  connects = file.connects;
}

-- what is kept, as a file that names no words
abbrev pub file_kept : SharedFile → FileAt
file_kept k = without_words (file_of k)
