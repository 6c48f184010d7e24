use Rattle.sj_log.proofs.NameLemmas.{number_is, indexed_from}
use Rattle.sj_lang.proofs.WordLemmas.{indexed}
use Rattle.sj_log.proofs.names.number_in.Goals as goal

pub returns : goal.returns
returns c =
    let word = c.args.word.now in let words = c.args.words.now in
    number_is word words _ _ (indexed word words) (indexed_from word words c.find.result c.find.ensures.found c.find.ensures.none)
