use Rattle.table_words.proofs.Standing.{fits}
use Rattle.table_words.proofs.laws.ways_name_keys_of_their_bucket.Goals as goal

pub returns : goal.returns
returns c = λ k es lawful way element names. let f = fits k es lawful way element names in (f.within, f.bucket, f.tag)
