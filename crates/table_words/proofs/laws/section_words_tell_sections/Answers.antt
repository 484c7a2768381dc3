use Rattle.table_words.proofs.Words.{word_parity, word_stays, word_fits}
use Rattle.table_words.proofs.laws.section_words_tell_sections.Goals as goal

pub returns-clause-parity : goal.returns-clause-parity
returns-clause-parity c = word_parity

pub returns-clause-stays : goal.returns-clause-stays
returns-clause-stays c = word_stays

pub returns-clause-fits : goal.returns-clause-fits
returns-clause-fits c = word_fits
