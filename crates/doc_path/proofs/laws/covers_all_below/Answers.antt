use Rattle.doc_path.proofs.Cover.{covers_all_below, mono-covers, covers_no_root}
use Rattle.doc_path.proofs.laws.covers_all_below.Goals as goal

pub returns : goal.returns
returns c = record { below = covers_all_below; hereditary = mono-covers; root = covers_no_root }
