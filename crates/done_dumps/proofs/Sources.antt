-- With no limit a source makes all.
use Rattle.std.proofs.Common.{◌≡◌, List, [], ◌∷◌, refl, sym, ap, ◌∙◌, None}
use Rattle.history_model.specs.Stages.{Made}
use Rattle.history_model.specs.Runs.{first_run}
use Rattle.history_model.specs.Recordings.{made_by}
use Rattle.history_model.proofs.SourceMade.{upto, source_made}
use Rattle.done_dumps.specs.Laws.{SourceMakesAll}
use Rattle.done_dumps.proofs.Calm.{made_whole}

all_upto : (ms : List Made) → upto None ms ≡ ms
all_upto [] = refl
all_upto (m ∷ ms) = ap (λ (z : List Made). m ∷ z) (all_upto ms)

pub makes_all : SourceMakesAll
makes_all s =
    let r = first_run s.caps in
    source_made None s.lines r ∙ (all_upto (made_by s.lines r) ∙ sym (made_whole s))
