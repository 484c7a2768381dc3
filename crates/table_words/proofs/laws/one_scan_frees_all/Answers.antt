use Rattle.table_words.proofs.Writing.{scan_frees}
use Rattle.table_words.proofs.laws.one_scan_frees_all.Goals as goal

pub returns : goal.returns
returns c = λ readers scan before only all element not. scan_frees readers element scan before only all not
