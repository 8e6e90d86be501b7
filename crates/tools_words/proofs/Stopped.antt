-- Words that were refused stay so.
use Rattle.std.proofs.Common.{◌≡◌, ℕ, ◌+◌, List, [], ◌∷◌, length, refl, ap}
use Rattle.std.specs.Prelude.{None, fold, Ok, Err}
use Rattle.tools_words.specs.declared.table.Verb.{Verb}
use Rattle.tools_words.specs.declared.words.Given.{Given}
use Rattle.tools_words.specs.Words.{option_at, step, ordered}

stays : (verb : Verb) (at : ℕ) (ws : List (List ℕ)) → fold (step verb) (Err at) ws ≡ Err at
stays verb at [] = refl
stays verb at (w ∷ ws) = stays verb at ws

pub stops : (verb : Verb) (given : List Given) (w : List ℕ) (ws : List (List ℕ)) → option_at verb given w ≡ None → ordered verb (fold (step verb) (Ok given) (w ∷ ws)) ≡ Err (1 + length given)
stops verb given w ws e = rw e (ap (ordered verb) (stays verb (1 + length given) ws))
