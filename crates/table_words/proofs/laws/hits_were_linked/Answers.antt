use Rattle.table_words.proofs.Hits.{hit_linked}
use Rattle.table_words.proofs.laws.hits_were_linked.Goals as goal

pub returns : goal.returns
returns c = λ k table apart late early lawful key count who element some only a.
    hit_linked k table apart key count who element late early some lawful only a
