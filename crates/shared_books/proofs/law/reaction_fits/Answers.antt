use Rattle.shared_books.proofs.Fitting as laws
use Rattle.shared_books.proofs.law.reaction_fits.Goals as goal

pub returns : goal.returns
returns c = laws.reaction_fits
